-- TWO GUARDED ENDS AT HOSTS: what is handed on is blind to the guards, so that what happens to the two happens in a world of guarded ends.
use Rattle.std.proofs.Common.{◌≡◌, ◌≤◌, ℕ, Bool, true, false, if◌then◌else◌, List, [], ◌∷◌, ◌++◌, Some, Result, Ok, Err, refl, sym, ap, subst, ◌∙◌}
use Rattle.tcp_wire.specs.Checksum.{AreBytes}
use Rattle.tcp_wire.specs.Decoded.{decode_answer}
use Rattle.tcp_wire.specs.Wire.{Content}
use Rattle.tcp_wire.specs.declared.fault.DecodeError.{DecodeError}
use Rattle.tcp_driver.specs.Driver.{Driving}
use Rattle.tcp_halves.specs.Config.{IsConfig}
use Rattle.tcp_halves.specs.declared.config.Config.{Config}
use Rattle.tcp_conn.specs.Guard.{after_intake_of, intake_judgement}
unfoldable use Rattle.tcp_conn.specs.Guard.{after_intake}
use Rattle.tcp_end.specs.declared.wired.Wired.{Wired}
use Rattle.tcp_replay.specs.declared.event.Side.{Side}
use Rattle.tcp_replay.specs.declared.event.Side.TheVariants.{A, B}
use Rattle.tcp_replay.specs.Among.{Happening, Happens, Injection}
use Rattle.tcp_replay.specs.Guarded.{IsBlindToGuard, after_guarded, after_guarded_injection, by_guard, guarded_after, is_injection_passed, is_reading_passed}
unfoldable use Rattle.tcp_replay.specs.Guarded.{AreFairToGuard as AreFairInWorld, after_all_guarded}
use Rattle.tcp_replay.specs.Safe.{FindsDamage, HintsAreTrue, IsSafe}
use Rattle.tcp_replay.specs.Sound.{IsSoundPair}
use Rattle.tcp_replay.specs.World.{PartyState, WorldState, max_life, other, world_with_runs}
use Rattle.tcp_replay.proofs.pair.Steps.{pair-swapped}
use Rattle.tcp_progress.specs.Settled.{least_life}
use Rattle.tcp_progress.specs.Steady.{IsSteady}
use Rattle.tcp_progress.proofs.laws.Guarded.{guarded-is-safe}
use Rattle.tcp_ends.specs.Among.{Calls, Incident, Injects, Rests, happening_of, happens}
unfoldable use Rattle.tcp_ends.specs.Among.{pair_after_incident}
use Rattle.tcp_ends.specs.Events.{opening_event}
use Rattle.tcp_ends.specs.Guarded.{AreGuarded, IsFairToGuard}
use Rattle.tcp_ends.specs.Pair.{Opening, Pair, guard_in, member_of, new_member, opened_with_runs, pair_of, party_in, peer_at, world_in}
use Rattle.tcp_ends.proofs.Beginnings.{begins, guard-is}
use Rattle.tcp_ends.proofs.Guarded.{begun-guarded, both-plain, fair-incident, fair-more, guarded-incident, guarded_happened, more, still-guarded}
use Rattle.tcp_ends.proofs.Safety.{opening-bytes}
use Rattle.tcp_hosted.specs.Ends.{IsFairToGuardAtHosts, TwoGuardedEndsAtHostsAreSafe, pair_at_hosts}
unfoldable use Rattle.tcp_hosted.specs.Ends.{AreFairToGuardAtHosts, pair_after_all_at_hosts}
use Rattle.tcp_hosted.specs.Worlds.{is_handed}
use Rattle.tcp_hosted.proofs.Worlds.{Waits, from_peer, waits-judged}
use Rattle.tcp_hosted.proofs.Ends.{handed_of, step-is}

-- ---- WHAT IS HANDED ON IS BLIND TO THE GUARD
module _ (reach : ℕ) (p q : PartyState) (i : Injection) (h : Waits q.endpoint.config.addr.0 p.endpoint) where
  waits-reading : (r : Result Content DecodeError) → Waits i.src p.endpoint → is_reading_passed reach p.endpoint i.src i.dst r ≡ false
      → Waits i.src (after_intake_of (by_guard reach) p.endpoint i.src i.dst r)
  waits-reading (Ok v) waits e = waits-judged p.endpoint i.src v waits (intake_judgement (by_guard reach) p.endpoint i.src i.dst v) e
  waits-reading (Err fault) waits e = waits

  waits-after : i.src ≡ q.endpoint.config.addr.0 → is_injection_passed reach p.endpoint i ≡ false
      → Waits q.endpoint.config.addr.0 (after_guarded_injection reach p.endpoint i)
  unfolding after_intake
  waits-after from e =
      subst (λ (addr : List ℕ). Waits addr (after_guarded_injection reach p.endpoint i)) from
      (waits-reading (decode_answer i.src i.dst i.bytes) (subst (λ (addr : List ℕ). Waits addr p.endpoint) (sym from) h) e)

blind-to-guard : (reach : ℕ) (p q : PartyState) (i : Injection) → IsSoundPair p q → is_handed p q i ≡ true → AreBytes i.bytes
    → is_injection_passed reach p.endpoint i ≡ false → IsBlindToGuard reach p q i
blind-to-guard reach p q i pair is are out =
    record { are_bytes = are; kept_out = out; to_peer = waits-after reach p q i pair.there.speaks.reset (from_peer p q i is) out }

parties : {H : Type 0} (p : Pair H) (side : Side) → IsSteady (world_in p) → IsSoundPair (party_in (member_of p side)) (party_in (member_of p (other side)))
parties p A h = h.ends.pair
parties p B h = pair-swapped _ _ h.ends.pair

fair-handed : {H : Type 0} (reach : ℕ) (p : Pair H) (incident : Incident) → IsSteady (world_in p) → IsFairToGuardAtHosts reach p incident
    → handed_of p incident ≡ true → IsFairToGuard reach p incident
fair-handed reach p (Calls call) h fair e = fair
fair-handed reach p (Injects side now i) h fair e =
    λ lost. blind-to-guard reach (party_in (member_of p side)) (party_in (member_of p (other side))) i (parties p side h) e fair.are_bytes (fair.kept_out e lost)
fair-handed reach p (Rests side) h fair e = fair

-- ---- REACHED: by what happens to two guarded ends
record Reached {H : Type 0} (life reach : ℕ) (a b : Config) (runs_a runs_b : ℕ) (p : Pair H) : Type 0 where
  pub happenings : List Happening
  pub fair : AreFairInWorld reach (world_with_runs life a b runs_a runs_b) happenings
  pub is : after_all_guarded reach (world_with_runs life a b runs_a runs_b) happenings ≡ world_in p
  pub guards : AreGuarded reach p

module _ (reach : ℕ) where
  after-joined : (w : WorldState) (xs ys : List Happening) → after_all_guarded reach w (xs ++ ys) ≡ after_all_guarded reach (after_all_guarded reach w xs) ys
  unfolding after_all_guarded
  after-joined w [] ys = refl
  after-joined w (x ∷ xs) ys = after-joined (after_guarded reach w x) xs ys

  fair-joined : (w : WorldState) (xs ys : List Happening) → AreFairInWorld reach w xs → AreFairInWorld reach (after_all_guarded reach w xs) ys
      → AreFairInWorld reach w (xs ++ ys)
  unfolding AreFairInWorld after_all_guarded
  fair-joined w [] ys f g = g
  fair-joined w (x ∷ xs) ys f g = (f.0, fair-joined (after_guarded reach w x) xs ys f.1 g)

  fair-none : (w : WorldState) → AreFairInWorld reach w []
  unfolding AreFairInWorld
  fair-none w = tt

  after-none : (w : WorldState) → after_all_guarded reach w [] ≡ w
  unfolding after_all_guarded
  after-none w = refl

module _ (life reach : ℕ) (a b : Config) (runs_a runs_b : ℕ) where
  abbrev new : WorldState
  new = world_with_runs life a b runs_a runs_b

  opened-both : (opening_a opening_b : Opening)
      → after_all_guarded reach new (Happens (opening_event A opening_a) ∷ Happens (opening_event B opening_b) ∷ [])
      ≡ guarded_after reach (guarded_after reach new (opening_event A opening_a)) (opening_event B opening_b)
  unfolding after_all_guarded
  opened-both opening_a opening_b = refl

  fair-openings : (opening_a opening_b : Opening)
      → AreFairInWorld reach new (Happens (opening_event A opening_a) ∷ Happens (opening_event B opening_b) ∷ [])
  unfolding AreFairInWorld
  fair-openings opening_a opening_b = (opening-bytes A opening_a, (opening-bytes B opening_b, tt))

module _ {H : Type 0} (life reach : ℕ) (a b : Config) (runs_a runs_b : ℕ) (least : least_life ≤ life) (most : life ≤ max_life) (one : IsConfig a) (two : IsConfig b) where
  abbrev At : Pair H → Type 0
  At p = Reached life reach a b runs_a runs_b p

  steady-at : (p : Pair H) → At p → IsSteady (world_in p)
  steady-at p r = subst IsSteady r.is (guarded-is-safe.steady life reach a b runs_a runs_b r.happenings least most one two r.fair)

  one-at : (p : Pair H) (incident : Incident) → At p → IsFairToGuard reach p incident → At (pair_after_incident p incident)
  one-at p incident r fair =
      let next = happening_of p incident in
      record {
        happenings = r.happenings ++ happens next [];
        fair = fair-joined reach (new life reach a b runs_a runs_b) r.happenings (happens next []) r.fair
            (subst (λ w. AreFairInWorld reach w (happens next [])) (sym r.is)
            (fair-more reach (world_in p) next [] (fair-incident reach p incident fair) (fair-none reach _)));
        is = after-joined reach (new life reach a b runs_a runs_b) r.happenings (happens next []) ∙ ap (λ w. after_all_guarded reach w (happens next [])) r.is
            ∙ more reach (world_in p) next [] ∙ after-none reach (guarded_happened reach (world_in p) next) ∙ sym (guarded-incident reach p incident r.guards);
        guards = still-guarded reach p incident r.guards;
      }

  next-at : (p next : Pair H) (incident : Incident) (handed : Bool) → handed_of p incident ≡ handed
      → next ≡ (if handed then pair_after_incident p incident else p) → At p → IsFairToGuardAtHosts reach p incident → At next
  next-at p next incident true e is r fair = subst At (sym is) (one-at p incident r (fair-handed reach p incident (steady-at p r) fair e))
  next-at p next incident false e is r fair = subst At (sym is) r

  all_at_hosts : (p : Pair H) (list : List Incident) → At p → AreFairToGuardAtHosts reach p list → At (pair_after_all_at_hosts p list)
  unfolding AreFairToGuardAtHosts pair_after_all_at_hosts
  all_at_hosts p [] r fair = r
  all_at_hosts p (incident ∷ list) r fair =
      all_at_hosts (pair_at_hosts p incident) list
      (next-at p (pair_at_hosts p incident) incident (handed_of p incident) refl (step-is p incident) r fair.0) fair.1

  -- FROM THE OPENINGS ON
  began : (x y : Driving (Wired H)) (opening_a opening_b : Opening) → guard_in opening_a ≡ Some reach → guard_in opening_b ≡ Some reach
      → opened_with_runs a runs_a (peer_at b) opening_a ≡ Ok x → opened_with_runs b runs_b (peer_at a) opening_b ≡ Ok y
      → At (pair_of life (new_member x) (new_member y))
  began x y opening_a opening_b has_a has_b e f = record {
    happenings = Happens (opening_event A opening_a) ∷ Happens (opening_event B opening_b) ∷ [];
    fair = fair-openings life reach a b runs_a runs_b opening_a opening_b;
    is = opened-both life reach a b runs_a runs_b opening_a opening_b ∙ sym (begins life a b runs_a runs_b opening_a opening_b x y e f ∙ both-plain reach (new life reach a b runs_a runs_b) opening_a opening_b);
    guards = begun-guarded life reach x y (guard-is a runs_a (peer_at b) opening_a x e ∙ has_a) (guard-is b runs_b (peer_at a) opening_b y f ∙ has_b);
  }

pub two_guarded_lem : (H : Type 0) → TwoGuardedEndsAtHostsAreSafe H
two_guarded_lem H life reach a b runs_a runs_b opening_a opening_b x y list least most one two has_a has_b e f fair =
    let p = pair_of life (new_member x) (new_member y) in
    let begun = began life reach a b runs_a runs_b least most one two x y opening_a opening_b has_a has_b e f in
    let r = all_at_hosts life reach a b runs_a runs_b least most one two p list begun fair in (
      subst (λ w. IsSafe w) r.is (guarded-is-safe.safe life reach a b runs_a runs_b r.happenings least most one two r.fair),
      subst (λ w. HintsAreTrue w) r.is (guarded-is-safe.hints life reach a b runs_a runs_b r.happenings least most one two r.fair),
      subst (λ w. FindsDamage w) r.is (guarded-is-safe.damage life reach a b runs_a runs_b r.happenings least most one two r.fair),
    )
