-- WHAT ISN'T LET IN changes nothing but what is pending (RFC 9293, 3.10.7), and so keeps whatever every event keeps.
use Rattle.tcp_replay.proofs.Words.{A, B, after_judgement, after_reading, AreSoundEnds, Content, decode_answer, DecodeError, Err, false, first_reset}
use Rattle.tcp_replay.proofs.Words.{HandshakeRefusedShut, IfSome}
use Rattle.tcp_replay.proofs.Words.{IsSoundPair, IsValid, Judgement, judgement, List, max_life, Ok, other, party_of, PartyState, refl, reset_at_ack}
use Rattle.tcp_replay.proofs.Words.{reset_of_stray, Result, Side, State, subst, sym, true, WaitingReset}
use Rattle.tcp_replay.proofs.Words.{with_ack_pending, with_reset, WorldState, ℕ, ◌≡◌, ◌∷◌, [], ◌≤◌, world_with_runs, default_runs, IsSound}
use Rattle.tcp_conn.specs.declared.arrive.judgement.Judgement.TheVariants.{Foreign, ResetIgnored, Stray, AckOfListen, OpensNothing, PeerOpens, AckOfNoSyn}
use Rattle.tcp_conn.specs.declared.arrive.judgement.Judgement.TheVariants.{PeerRefuses, PeerAccepts, Unacceptable, PeerResets, ResetElsewhere, SynInWindow, NoAck}
use Rattle.tcp_conn.specs.declared.arrive.judgement.Judgement.TheVariants.{AcksUnsent, HandshakeRefused, Taken, TakenShut}
unfoldable use Rattle.tcp_conn.specs.Arrival.{after_arrival}
use Rattle.tcp_wire.proofs.RoundTrip.{decoded_valid}
use Rattle.tcp_wire.specs.Checksum.{AreBytes}
use Rattle.tcp_replay.specs.Among.{after_happening, ChangesOnlyPending, EveryRunAmongStrangersIsSafe, EveryRunAmongStrangersIsSafeWithRuns, Happening, Happens, Injection, Injects}
use Rattle.tcp_replay.specs.Among.{is_reading_let_in, IsBlind, IsFair, lets_in, party_after_injection, WhatIsKeptOutChangesOnlyPending}
use Rattle.tcp_replay.specs.Among.{world_with_injection}
unfoldable use Rattle.tcp_replay.specs.Among.{after_happenings, AreFair}
use Rattle.tcp_replay.specs.Alone.{IsWritable}
use Rattle.tcp_replay.proofs.one_end.Alone.{alone-reset}
use Rattle.tcp_replay.proofs.one_end.AloneCalls.{after_syn-pending, writable-at_ack, writable-stray}
use Rattle.tcp_replay.proofs.pair.Calls.{with_end}
use Rattle.tcp_replay.proofs.pair.Events.{PairKept, speaks-nothing}
use Rattle.tcp_replay.proofs.hints.Hints.{hints-kept}
use Rattle.tcp_replay.proofs.one_end.Judgements.{IsAfterSyn, judged}
use Rattle.tcp_replay.proofs.pair.Steps.{Kept, kept-alone, kept-same, kept-with_pending, pair-swapped}
use Rattle.tcp_replay.proofs.run.Worlds.{sound-kept, sound-new, sound-after, kept-after, safe-sound, hints-sound, damage-sound}

-- ---- NOTHING BUT WHAT IS PENDING is different
abbrev unchanged : (s : State) → ChangesOnlyPending s s
unchanged s = record { ack = s.pending.ack; reset = s.pending.reset; same = refl }

pub with_pending-judged : (j : Judgement) (s : State) (src : List ℕ) (v : Content) → lets_in j ≡ false → ChangesOnlyPending s (after_judgement j s src v)
with_pending-judged Foreign s src v e = unchanged s
with_pending-judged ResetIgnored s src v e = unchanged s
with_pending-judged Stray s src v e = record { ack = s.pending.ack; reset = first_reset s.pending.reset (reset_of_stray src v); same = refl }
with_pending-judged AckOfListen s src v e = record { ack = s.pending.ack; reset = first_reset s.pending.reset (reset_at_ack src v); same = refl }
with_pending-judged OpensNothing s src v e = unchanged s
with_pending-judged PeerOpens s src v e = absurd (cc)
with_pending-judged AckOfNoSyn s src v e = record { ack = s.pending.ack; reset = first_reset s.pending.reset (reset_at_ack src v); same = refl }
with_pending-judged PeerRefuses s src v e = absurd (cc)
with_pending-judged PeerAccepts s src v e = absurd (cc)
with_pending-judged Unacceptable s src v e = record { ack = true; reset = s.pending.reset; same = refl }
with_pending-judged PeerResets s src v e = absurd (cc)
with_pending-judged ResetElsewhere s src v e = record { ack = true; reset = s.pending.reset; same = refl }
with_pending-judged SynInWindow s src v e = record { ack = true; reset = s.pending.reset; same = refl }
with_pending-judged NoAck s src v e = unchanged s
with_pending-judged AcksUnsent s src v e = record { ack = true; reset = s.pending.reset; same = refl }
with_pending-judged HandshakeRefused s src v e = record { ack = s.pending.ack; reset = first_reset s.pending.reset (reset_at_ack src v); same = refl }
with_pending-judged HandshakeRefusedShut s src v e = record { ack = true; reset = first_reset s.pending.reset (reset_at_ack src v); same = refl }
with_pending-judged Taken s src v e = absurd (cc)
with_pending-judged TakenShut s src v e = absurd (cc)

with_pending-reading : (s : State) (src dst : List ℕ) (r : Result Content DecodeError) → is_reading_let_in s src dst r ≡ false
    → ChangesOnlyPending s (after_reading s src dst r)
with_pending-reading s src dst (Ok v) e = with_pending-judged (judgement s src dst v) s src v e
with_pending-reading s src dst (Err fault) e = unchanged s

pub kept-out-pending : WhatIsKeptOutChangesOnlyPending
unfolding after_arrival
kept-out-pending s i e = with_pending-reading s i.src i.dst (decode_answer i.src i.dst i.bytes) e

-- ---- BOTH ENDS STAY SOUND
-- a reset goes to this address
abbrev GoesTo : List ℕ → WaitingReset → Type 0
GoesTo addr reset = reset.to.addr.0 ≡ addr

module _ (p q : PartyState) (s : State) (src dst : List ℕ) (v : Content) (valid : IsValid v) (h : Kept p q s) where
  pub adds_pending : IsAfterSyn s → Kept p q (with_ack_pending s)
  adds_pending after_syn = let has_pending = after_syn-pending s p.accepted p.closed after_syn h.here.alone in kept-with_pending p q s has_pending.0 has_pending.1 h

  waits : (reset : WaitingReset) → IsWritable reset → IfSome (first_reset s.pending.reset reset) (GoesTo q.endpoint.config.addr.0) → Kept p q (with_reset s reset)
  waits reset fits to =
      kept-alone p q s (with_reset s reset) h refl (alone-reset s p.accepted p.closed reset fits h.here.alone)
      (record { peer = h.here.speaks.peer; reset = to }) refl refl h.here.between

  -- the end stays sound
  pub kept-injected : lets_in (judgement s src dst v) ≡ false
      → IfSome (after_judgement (judgement s src dst v) s src v).pending.reset (GoesTo q.endpoint.config.addr.0)
      → Kept p q (after_judgement (judgement s src dst v) s src v)
  kept-injected =
      let P : Judgement → Type 0 = λ j. lets_in j ≡ false → IfSome (after_judgement j s src v).pending.reset (GoesTo q.endpoint.config.addr.0)
      → Kept p q (after_judgement j s src v) in
      let stray : P Stray = λ _. waits (reset_of_stray src v) (writable-stray src v valid) in
      let refused : P HandshakeRefused = λ _. waits (reset_at_ack src v) (writable-at_ack src v valid) in
      let refused_shut : IsAfterSyn s → P HandshakeRefusedShut = λ after_syn _ to.
      let reset = reset_at_ack src v in
      let waiting = waits reset (writable-at_ack src v valid) to in
      let there : IsAfterSyn (with_reset s reset) = record { shut = after_syn.shut; listening = after_syn.listening; syn_sent = after_syn.syn_sent } in
      let has_pending = after_syn-pending (with_reset s reset) p.accepted p.closed there waiting.here.alone in
      kept-with_pending p q (with_reset s reset) has_pending.0 has_pending.1 waiting in
      let has_pending : IsAfterSyn s → P Unacceptable = λ after_syn _ _. adds_pending after_syn in
      let opens : P PeerOpens = λ e. absurd (cc) in
      let refuses : P PeerRefuses = λ e. absurd (cc) in
      let accepts : P PeerAccepts = λ e. absurd (cc) in
      let taken : P Taken = λ e. absurd (cc) in
      let shut : P TakenShut = λ e. absurd (cc) in
      judged s v P (assumption) src dst

module _ (G K : PartyState → PartyState → Type 0) (Stays : PartyState → PartyState → State → List ℕ → Type 0) (h : PairKept G K Stays) where
  on-reading : (p q : PartyState) (src dst bytes : List ℕ) (r : Result Content DecodeError) → decode_answer src dst bytes ≡ r → AreBytes bytes
      → is_reading_let_in p.endpoint src dst r ≡ false → IfSome (after_reading p.endpoint src dst r).pending.reset (GoesTo q.endpoint.config.addr.0)
      → IsSoundPair p q → K p q → K (with_end p (after_reading p.endpoint src dst r)) q
  on-reading p q src dst bytes (Err fault) e are out to pair k = k
  on-reading p q src dst bytes (Ok v) e are out to pair k =
      let s = p.endpoint in
      let s' = after_judgement (judgement s src dst v) s src v in
      let moved = kept-injected p q s src dst v (decoded_valid src dst v bytes are e) (kept-same p q pair) out to in
      let has_pending = with_pending-judged (judgement s src dst v) s src v out in
      h.moved p (with_end p s') q pair moved (speaks-nothing p (with_end p s') q refl)
      (subst (λ (x : State). Stays p q x p.accepted) (sym has_pending.same) (h.has_pending p q has_pending.ack has_pending.reset pair k)) k

  -- AN INJECTION
  on-injection : (p q : PartyState) (i : Injection) → IsBlind p q i → IsSoundPair p q → K p q → K (party_after_injection p i) q
  unfolding after_arrival
  on-injection p q i blind pair k =
      on-reading p q i.src i.dst i.bytes (decode_answer i.src i.dst i.bytes) refl blind.are_bytes blind.kept_out blind.to_peer pair k

  pub in-injected : (w : WorldState) (side : Side) (i : Injection) → IsBlind (party_of w side) (party_of w (other side)) i → AreSoundEnds w → K w.a w.b
      → K (world_with_injection w side i).a (world_with_injection w side i).b
  in-injected w A i blind ends k = on-injection w.a w.b i blind ends k
  in-injected w B i blind ends k = h.swapped _ _ (on-injection w.b w.a i blind (pair-swapped _ _ ends) (h.swapped _ _ k))

pub life-injected : (w : WorldState) (side : Side) (i : Injection) → (world_with_injection w side i).life ≡ w.life
life-injected w A i = refl
life-injected w B i = refl

pub sound-injected : (w : WorldState) (side : Side) (i : Injection) → IsBlind (party_of w side) (party_of w (other side)) i → IsSound w
    → IsSound (world_with_injection w side i)
sound-injected w side i blind h = record {
  ends = in-injected _ _ _ sound-kept w side i blind h.ends h.ends;
  hints = in-injected _ _ _ hints-kept w side i blind h.ends h.hints;
  life = subst (λ (n : ℕ). n ≤ max_life) (sym (life-injected w side i)) h.life;
}

sound-happening : (w : WorldState) (happening : Happening) → IsFair w happening → IsSound w → IsSound (after_happening w happening)
sound-happening w (Happens event) fits h = kept-after IsSound sound-after w event fits h
sound-happening w (Injects side i) blind h = sound-injected w side i blind h

sound-happenings : (w : WorldState) (list : List Happening) → AreFair w list → IsSound w → IsSound (after_happenings w list)
unfolding after_happenings AreFair
sound-happenings w [] fair h = h
sound-happenings w (happening ∷ list) fair h = sound-happenings (after_happening w happening) list fair.1 (sound-happening w happening fair.0 h)

pub among_strangers_with_runs : EveryRunAmongStrangersIsSafeWithRuns
among_strangers_with_runs life a b runs_a runs_b list most one two fair =
    let end = sound-happenings (world_with_runs life a b runs_a runs_b) list fair (sound-new life a b runs_a runs_b most one two) in
    (safe-sound _ end, hints-sound _ end, damage-sound _ end)

pub among_strangers : EveryRunAmongStrangersIsSafe
among_strangers life a b list most one two fair = among_strangers_with_runs life a b default_runs default_runs list most one two fair
