-- WHAT COMES BY A GUARD (RFC 5961, 5.2): what it keeps out, or isn't let in, changes nothing but what is pending, and so keeps
-- whatever every event keeps; all else is as without a guard.
use Rattle.tcp_replay.proofs.Words.{A, B, after_judgement, after_reading, ap, AreSoundEnds, Bool, Content, decode_answer, DecodeError, Err, false, IfSome, if◌then◌else◌}
use Rattle.tcp_replay.proofs.Words.{IsSoundPair, IsValid, Judgement, judgement, List, max_life, Ok, other, party_of, PartyState, refl, Result, Side, State}
use Rattle.tcp_replay.proofs.Words.{subst, sym, true, WorldState, ℕ, ◌≡◌, ◌≤◌, IsSound}
use Rattle.tcp_conn.specs.declared.arrive.judgement.Judgement.TheVariants.{Taken, TakenShut, Unacceptable}
use Rattle.tcp_conn.specs.Guard.{after_intake_of, intake_judgement, is_kept_out, keeps_out_reading}
unfoldable use Rattle.tcp_conn.specs.Guard.{after_intake, guarded, keeps_out}
unfoldable use Rattle.tcp_conn.specs.Arrival.{after_arrival}
use Rattle.tcp_wire.proofs.RoundTrip.{decoded_valid}
use Rattle.tcp_wire.specs.Checksum.{AreBytes}
use Rattle.tcp_replay.specs.Among.{Injection, lets_in}
use Rattle.tcp_replay.specs.Guarded.{by_guard, is_reading_passed, IsBlindToGuard, world_with_guarded_injection}
use Rattle.tcp_replay.proofs.pair.Calls.{with_end}
use Rattle.tcp_replay.proofs.pair.Events.{PairKept, speaks-nothing}
use Rattle.tcp_replay.proofs.hints.Hints.{hints-kept}
use Rattle.tcp_replay.proofs.one_end.Judgements.{IsAfterSyn, judged}
use Rattle.tcp_replay.proofs.pair.Steps.{Kept, kept-same, pair-swapped}
use Rattle.tcp_replay.proofs.run.Injections.{adds_pending, kept-injected, with_pending-judged}
use Rattle.tcp_replay.proofs.run.Worlds.{sound-kept}

-- ---- WHAT THE GUARD DOESN'T KEEP OUT comes as without one
passes-reading : (reach : ℕ) (s : State) (src dst : List ℕ) (r : Result Content DecodeError) → keeps_out_reading reach s src dst r ≡ false
    → after_intake_of (by_guard reach) s src dst r ≡ after_reading s src dst r
unfolding guarded
passes-reading reach s src dst (Ok v) e =
    ap (λ (out : Bool). after_judgement (if out then Unacceptable else judgement s src dst v) s src v) e
passes-reading reach s src dst (Err fault) e = refl

pub passes : (reach : ℕ) (s : State) (src dst bytes : List ℕ) → keeps_out reach s src dst bytes ≡ false
    → after_intake (by_guard reach) s src dst bytes ≡ after_arrival s src dst bytes
unfolding after_intake after_arrival keeps_out
passes reach s src dst bytes e = passes-reading reach s src dst (decode_answer src dst bytes) e

-- ---- BOTH ENDS STAY SOUND
-- what it keeps out came once both SYNs were there
module _ (s : State) (v : Content) (reach : ℕ) where
  abbrev IsLate : Judgement → Type 0
  IsLate j = is_kept_out reach j s v ≡ true → IsAfterSyn s

  late : (src dst : List ℕ) → IsLate (judgement s src dst v)
  late src dst =
      let no : false ≡ true → IsAfterSyn s = λ e. absurd (cc) in
      judged s v IsLate (record {
        foreign = no;
        reset_ignored = no;
        stray = no;
        ack_of_listen = no;
        no_syn = no;
        peer_opens = λ _ _. no;
        ack_of_no_syn = no;
        peer_refuses = no;
        peer_accepts = λ _ _. no;
        unacceptable = λ _. no;
        peer_resets = no;
        reset_elsewhere = λ _. no;
        syn_in_window = λ _. no;
        no_ack = no;
        acks_unsent = λ _. no;
        handshake_refused = no;
        handshake_refused_shut = λ _. no;
        taken = λ after_syn _ _. after_syn;
        taken_shut = λ after_syn _ _. after_syn;
      }) src dst

-- a reset goes to this address
abbrev EndsAt : List ℕ → State → Type 0
EndsAt addr s = IfSome s.pending.reset (λ reset. reset.to.addr.0 ≡ addr)

kept-by : (p q : PartyState) (s : State) (src dst : List ℕ) (v : Content) → IsValid v → Kept p q s → (reach : ℕ) (out : Bool)
    → is_kept_out reach (judgement s src dst v) s v ≡ out
    → lets_in (if out then Unacceptable else judgement s src dst v) ≡ false
    → EndsAt q.endpoint.config.addr.0 (after_judgement (if out then Unacceptable else judgement s src dst v) s src v)
    → Kept p q (after_judgement (if out then Unacceptable else judgement s src dst v) s src v)
kept-by p q s src dst v valid h reach true e out_ to = adds_pending p q s src dst v valid h (late s v reach src dst e)
kept-by p q s src dst v valid h reach false e out_ to = kept-injected p q s src dst v valid h out_ to

kept-passing : (p q : PartyState) (s : State) (src dst : List ℕ) (v : Content) → IsValid v → Kept p q s → (reach : ℕ)
    → lets_in (intake_judgement (by_guard reach) s src dst v) ≡ false
    → EndsAt q.endpoint.config.addr.0 (after_judgement (intake_judgement (by_guard reach) s src dst v) s src v)
    → Kept p q (after_judgement (intake_judgement (by_guard reach) s src dst v) s src v)
unfolding guarded
kept-passing p q s src dst v valid h reach out_ to =
    kept-by p q s src dst v valid h reach (is_kept_out reach (judgement s src dst v) s v) refl out_ to

module _ (G K : PartyState → PartyState → Type 0) (Stays : PartyState → PartyState → State → List ℕ → Type 0) (h : PairKept G K Stays) where
  on-reading : (reach : ℕ) (p q : PartyState) (src dst bytes : List ℕ) (r : Result Content DecodeError) → decode_answer src dst bytes ≡ r → AreBytes bytes
      → is_reading_passed reach p.endpoint src dst r ≡ false → EndsAt q.endpoint.config.addr.0 (after_intake_of (by_guard reach) p.endpoint src dst r)
      → IsSoundPair p q → K p q → K (with_end p (after_intake_of (by_guard reach) p.endpoint src dst r)) q
  on-reading reach p q src dst bytes (Err fault) e are out to pair k = k
  on-reading reach p q src dst bytes (Ok v) e are out to pair k =
      let s = p.endpoint in
      let rule = intake_judgement (by_guard reach) s src dst v in
      let s' = after_judgement rule s src v in
      let moved = kept-passing p q s src dst v (decoded_valid src dst v bytes are e) (kept-same p q pair) reach out to in
      let has_pending = with_pending-judged rule s src v out in
      h.moved p (with_end p s') q pair moved (speaks-nothing p (with_end p s') q refl)
      (subst (λ (x : State). Stays p q x p.accepted) (sym has_pending.same) (h.has_pending p q has_pending.ack has_pending.reset pair k)) k

  -- AN INJECTION
  on-injection : (reach : ℕ) (p q : PartyState) (i : Injection) → IsBlindToGuard reach p q i → IsSoundPair p q → K p q
      → K (with_end p (after_intake (by_guard reach) p.endpoint i.src i.dst i.bytes)) q
  unfolding after_intake
  on-injection reach p q i blind pair k =
      on-reading reach p q i.src i.dst i.bytes (decode_answer i.src i.dst i.bytes) refl blind.are_bytes blind.kept_out blind.to_peer pair k

  pub in-passing : (reach : ℕ) (w : WorldState) (side : Side) (i : Injection) → IsBlindToGuard reach (party_of w side) (party_of w (other side)) i
      → AreSoundEnds w → K w.a w.b → K (world_with_guarded_injection reach w side i).a (world_with_guarded_injection reach w side i).b
  in-passing reach w A i blind ends k = on-injection reach w.a w.b i blind ends k
  in-passing reach w B i blind ends k = h.swapped _ _ (on-injection reach w.b w.a i blind (pair-swapped _ _ ends) (h.swapped _ _ k))

pub life-passing : (reach : ℕ) (w : WorldState) (side : Side) (i : Injection) → (world_with_guarded_injection reach w side i).life ≡ w.life
life-passing reach w A i = refl
life-passing reach w B i = refl

pub sound-passing : (reach : ℕ) (w : WorldState) (side : Side) (i : Injection) → IsBlindToGuard reach (party_of w side) (party_of w (other side)) i → IsSound w
    → IsSound (world_with_guarded_injection reach w side i)
sound-passing reach w side i blind h = record {
  ends = in-passing _ _ _ sound-kept reach w side i blind h.ends h.ends;
  hints = in-passing _ _ _ hints-kept reach w side i blind h.ends h.hints;
  life = subst (λ (n : ℕ). n ≤ max_life) (sym (life-passing reach w side i)) h.life;
}
