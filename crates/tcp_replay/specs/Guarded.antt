-- A WORLD OF TWO GUARDED ENDS (RFC 5961, 5.2), among strangers: all that arrives at either comes by a way with a guard. What
-- happens is what happens in a world without guards.
use Rattle.std.specs.Prelude.{◌≡◌, ℕ, Bool, false, List, [], ◌∷◌, Option, Some, IfSome, Result, Ok, Err}
use Rattle.tcp_wire.specs.Checksum.{AreBytes}
use Rattle.tcp_wire.specs.Decoded.{decode_answer}
use Rattle.tcp_wire.specs.Wire.{Content}
use Rattle.tcp_wire.specs.declared.fault.DecodeError.{DecodeError}
use Rattle.tcp_conn.specs.declared.arrive.guard.Intake.{Intake}
use Rattle.tcp_conn.specs.Guard.{after_intake, intake_judgement}
use Rattle.tcp_conn.specs.State.{State}
use Rattle.tcp_replay.specs.declared.event.Side.{Side}
use Rattle.tcp_replay.specs.Among.{Happening, Happens, Injection, Injects, lets_in}
use Rattle.tcp_replay.specs.Events.{EventContent, HasBytes, side_of, Deliver, Damage}
use Rattle.tcp_replay.specs.World.{WorldState, PartyState, bytes_with_damage, effect_in, effect_of, other, party_of, refusal_of, segment_at, stay_or, world_from}

-- bytes are summed, and a guard of this reach looks at what they say
abbrev pub by_guard : ℕ → Intake
by_guard reach = record { is_vouched = false; guard = Some reach }

-- ---- WHAT IS DELIVERED comes so; all else of an event is as without guards
abbrev pub party_after_passing : ℕ → PartyState → PartyState → List ℕ → PartyState
party_after_passing reach p from bytes = record p {
  endpoint = after_intake (by_guard reach) p.endpoint from.endpoint.config.addr.0 p.endpoint.config.addr.0 bytes;
}

abbrev pub there_guarded : ℕ → ℕ → PartyState → PartyState → EventContent → PartyState
there_guarded reach life p q (Deliver from k) = party_after_passing reach q p (segment_at p k)
there_guarded reach life p q (Damage from k place value) = party_after_passing reach q p (bytes_with_damage (segment_at p k) place value)
there_guarded reach life p q other = (effect_of life p q other).there

abbrev pub guarded_after : ℕ → WorldState → EventContent → WorldState
guarded_after reach w e =
    stay_or (refusal_of w e) w
    (world_from w.life (side_of e) (effect_in w e).here (there_guarded reach w.life (party_of w (side_of e)) (party_of w (other (side_of e))) e))

-- ---- WHAT IS INJECTED comes so, too
abbrev pub after_guarded_injection : ℕ → State → Injection → State
after_guarded_injection reach s i = after_intake (by_guard reach) s i.src i.dst i.bytes

abbrev pub is_reading_passed : ℕ → State → List ℕ → List ℕ → Result Content DecodeError → Bool
is_reading_passed reach s src dst (Ok v) = lets_in (intake_judgement (by_guard reach) s src dst v)
is_reading_passed reach s src dst (Err fault) = false

abbrev pub is_injection_passed : ℕ → State → Injection → Bool
is_injection_passed reach s i = is_reading_passed reach s i.src i.dst (decode_answer i.src i.dst i.bytes)

-- BLIND, at p, whose peer is q: it isn't let in past the guard, and no reset waits for a stranger after it
pub record IsBlindToGuard (reach : ℕ) (p q : PartyState) (i : Injection) : Type 0 where
  pub are_bytes : AreBytes i.bytes
  pub kept_out : is_injection_passed reach p.endpoint i ≡ false
  pub to_peer : IfSome (after_guarded_injection reach p.endpoint i).pending.reset (λ reset. reset.to.addr.0 ≡ q.endpoint.config.addr.0)

abbrev pub world_with_guarded_injection : ℕ → WorldState → Side → Injection → WorldState
world_with_guarded_injection reach w side i =
    world_from w.life side (record (party_of w side) { endpoint = after_guarded_injection reach (party_of w side).endpoint i }) (party_of w (other side))

-- ---- WHAT HAPPENS to two guarded ends
abbrev pub after_guarded : ℕ → WorldState → Happening → WorldState
after_guarded reach w (Happens event) = guarded_after reach w event
after_guarded reach w (Injects side i) = world_with_guarded_injection reach w side i

unfoldable pub after_all_guarded : ℕ → WorldState → List Happening → WorldState
after_all_guarded reach w [] = w
after_all_guarded reach w (happening ∷ list) = after_all_guarded reach (after_guarded reach w happening) list

-- each injection is blind when it comes
abbrev pub IsFairToGuard : ℕ → WorldState → Happening → Type 0
IsFairToGuard reach w (Happens event) = HasBytes event
IsFairToGuard reach w (Injects side i) = IsBlindToGuard reach (party_of w side) (party_of w (other side)) i

unfoldable pub AreFairToGuard : ℕ → WorldState → List Happening → Type 0
AreFairToGuard reach w [] = Unit {0}
AreFairToGuard reach w (happening ∷ list) = IsFairToGuard reach w happening × AreFairToGuard reach (after_guarded reach w happening) list
