-- THE PEER'S FIN, at one end by itself: it is taken from a segment that came, and nothing comes in order behind it.
use Rattle.std.proofs.Common.{◌≡◌, ℕ, ◌^◌, ◌<◌, ◌≤◌, List, length, refl, sym, ◌∙◌, ap, subst, inl, inr, arith, length-drop, ⊎_elim}
use Rattle.std.specs.Prelude.{◌⊎◌, Bool, true, false, not, ◌==◌, if◌then◌else◌, None}
use Rattle.std.proofs.lemmas.Bool.{and_parts, false≢true, eqb-true}
use Rattle.tcp_wire.specs.Flags.{fin, has}
use Rattle.tcp_wire.specs.Position.{number}
use Rattle.tcp_wire.specs.Wire.{Content}
use Rattle.tcp_conn.specs.declared.arrive.judgement.Judgement.{Judgement}
use Rattle.tcp_conn.specs.declared.arrive.judgement.Judgement.TheVariants.{Foreign, PeerResets, PeerOpens, PeerAccepts, Taken, TakenShut}
use Rattle.tcp_halves.specs.declared.link.Peer.{Peer}
use Rattle.tcp_conn.specs.Phase.{takes_text}
use Rattle.tcp_conn.specs.Calls.{receive_refusal}
use Rattle.tcp_reasm.specs.Reassembly.{after_read}
use Rattle.tcp_conn.specs.State.{State, Receiving}
use Rattle.tcp_halves.specs.Receiver.{with_syn, after_text, is_fin_due, with_fin, after_delivering, without_bytes}
use Rattle.tcp_conn.specs.Judgement.{judgement}
use Rattle.tcp_conn.specs.Arrival.{after_its_ack}
use Rattle.tcp_conn.specs.Arrival.{takes_text_of, after_its_text, has_fin, takes_fin, after_fin, after_taking, after_taking_shut, after_judgement}
use Rattle.tcp_replay.specs.Alone.{IsAlone}
use Rattle.tcp_replay.specs.World.{PartyState}
use Rattle.tcp_replay.proofs.Lists.{by_test}
use Rattle.tcp_replay.proofs.one_end.Phases.{end-takes_text}
use Rattle.tcp_replay.proofs.one_end.Judgements.{IsAfterSyn, IsTaken, judged}
use Rattle.tcp_replay.proofs.one_end.Alone.{alone-its_ack, alone-its_text}
use Rattle.tcp_replay.proofs.pair.Calls.{KeptByCalls}
use Rattle.tcp_replay.proofs.pair.TakingSegments.{its_ack-receiving}
use Rattle.tcp_replay.proofs.one_end.AloneFeeds.{opened-by_peer, accepted-by_peer}

-- FROM ONE HALF THAT RECEIVES TO ANOTHER, where Q holds of the number of a FIN that is taken
pub record Finishes (Q : ℕ → Type 0) (r r' : Receiving) : Type 0 where
  pub stays : r.finished ≡ true → (r'.finished ≡ true) × (length r'.inbox.unread ≤ length r.inbox.unread)
  pub comes : r'.finished ≡ true → (r.finished ≡ true) ⊎ ((f : ℕ) × Q f × (f < 2 ^ 32) × (r'.rcv_nxt ≡ number f 1))

module _ (Q : ℕ → Type 0) (r : Receiving) where
  -- no FIN is taken, and no text
  no-fin : (r' : Receiving) → r'.finished ≡ r.finished → length r'.inbox.unread ≤ length r.inbox.unread → Finishes Q r r'
  no-fin r' same fewer = record { stays = λ e. (same ∙ e, fewer); comes = λ e. inl (sym same ∙ e) }

  pub nothing-new : (r' : Receiving) → r' ≡ r → Finishes Q r r'
  nothing-new r' same = no-fin r' (ap (λ (x : Receiving). x.finished) same) (omega (arith, ap (λ (x : Receiving). length x.inbox.unread) same))

  -- text is taken before the FIN alone
  before-fin : (r' : Receiving) → r.finished ≡ false → r'.finished ≡ r.finished → Finishes Q r r'
  before-fin r' goes_on same = record { stays = λ e. absurd (false≢true (sym goes_on ∙ e)); comes = λ e. inl (sym same ∙ e) }

  takes-fin : (r' : Receiving) (f : ℕ) → r.finished ≡ false → Q f → f < 2 ^ 32 → r'.rcv_nxt ≡ number f 1 → Finishes Q r r'
  takes-fin r' f goes_on is small next = record { stays = λ e. absurd (false≢true (sym goes_on ∙ e)); comes = λ e. inr (f, is, small, next) }

-- ALL CALLS, timers and emissions
pub finishes-calls : (Q : ℕ → Type 0) (peer : Peer) (p : PartyState) → KeptByCalls peer p (λ p'. Finishes Q p.endpoint.receiving p'.endpoint.receiving)
unfolding after_read
finishes-calls Q peer p =
    let r = p.endpoint.receiving in
    let same : Finishes Q r r = nothing-new Q r r refl in
    let reads : (room : ℕ) → receive_refusal p.endpoint ≡ None → Finishes Q r (after_delivering r room) =
    λ room _. no-fin Q r _ refl (omega (arith, length-drop room r.inbox.unread)) in
    let gone : Finishes Q r (without_bytes r) = no-fin Q r _ refl (omega arith) in
    assumption

-- AN ACKNOWLEDGEMENT leaves what was received as it was
-- TEXT AND FIN
text-finishes : (Q : ℕ → Type 0) (x : State) (v : Content) (accepted : List ℕ) (closed : Bool) → IsAlone x accepted closed
    → Finishes Q x.receiving (after_its_text x v).receiving
unfolding after_its_text after_text
text-finishes Q x v accepted closed a =
    let r = x.receiving in
    by_test (takes_text_of x v) (λ b. Finishes Q r (if b then after_text r v.seq v.text else r))
    (λ e. before-fin Q r (after_text r v.seq v.text)
    (end-takes_text x (and_parts (takes_text x.phase) (not (length v.text == 0)) e).0 a.progress).1.goes_on refl)
    (λ _. nothing-new Q r r refl)

fin-finishes : (Q : ℕ → Type 0) (y : State) (v : Content) (accepted : List ℕ) (closed : Bool) → IsAlone y accepted closed
    → (has fin v.flags ≡ true → Q (number v.seq (length v.text))) → Finishes Q y.receiving (after_fin y v).receiving
unfolding after_fin
fin-finishes Q y v accepted closed a came =
    let r = y.receiving in
    let f = number v.seq (length v.text) in
    by_test (takes_fin y v) (λ b. Finishes Q r (if b then with_fin r else r))
    (λ e.
    let parts = and_parts (has_fin y v) (is_fin_due r f) e in
    let has = and_parts (takes_text y.phase) (has fin v.flags) parts.0 in
    let due : f ≡ r.rcv_nxt = eqb-true f r.rcv_nxt (and_parts (f == r.rcv_nxt) _ parts.1).0 in
    takes-fin Q r (with_fin r) f (end-takes_text y has.0 a.progress).1.goes_on (came has.1) (omega arith) (ap (λ n. number n 1) (sym due)))
    (λ _. nothing-new Q r r refl)

-- one after the other: where the FIN is taken nothing was before, and what comes before it is no FIN
in-turn : (Q : ℕ → Type 0) (a b c : Receiving) → Finishes (λ _. ⊥) a b → Finishes Q b c → Finishes Q a c
in-turn Q a b c f g = record {
  stays = λ e. let first = f.stays e in let next = g.stays first.0 in (next.0, omega (arith, first.1, next.1));
  comes = λ e. ⊎_elim
      (λ (had : b.finished ≡ true). ⊎_elim (λ (before : a.finished ≡ true). inl before)
      (λ (never : (n : ℕ) × ⊥ × (n < 2 ^ 32) × (b.rcv_nxt ≡ number n 1)). absurd never.1) (f.comes had))
      (λ (new : (n : ℕ) × Q n × (n < 2 ^ 32) × (c.rcv_nxt ≡ number n 1)). inr new) (g.comes e);
}

taking-finishes : (Q : ℕ → Type 0) (s : State) (v : Content) (accepted : List ℕ) (closed : Bool) → IsAfterSyn s → IsAlone s accepted closed
    → (has fin v.flags ≡ true → Q (number v.seq (length v.text))) → Finishes Q s.receiving (after_taking s v).receiving
unfolding after_taking
taking-finishes Q s v accepted closed after_syn a came =
    let x = after_its_ack s v in
    let ax = alone-its_ack s accepted closed v after_syn a in
    let y = after_its_text x v in
    let first : Finishes (λ _. ⊥) s.receiving x.receiving = nothing-new (λ _. ⊥) s.receiving x.receiving (its_ack-receiving s v) in
    let next = text-finishes (λ _. ⊥) x v accepted closed ax in
    let last = fin-finishes Q y v accepted closed (alone-its_text x accepted closed v ax) came in
    in-turn Q s.receiving y.receiving (after_fin y v).receiving (in-turn (λ _. ⊥) s.receiving x.receiving y.receiving first next) last

shut-receiving : (s : State) (v : Content) → (after_taking_shut s v).receiving ≡ s.receiving
unfolding after_taking_shut
shut-receiving s v = its_ack-receiving s v

syn-finishes : (Q : ℕ → Type 0) (r r' : Receiving) (seq : ℕ) → r' ≡ with_syn r seq → Finishes Q r r'
syn-finishes Q r r' seq e = subst (Finishes Q r) (sym e) (no-fin Q r (with_syn r seq) refl (omega arith))

-- A SEGMENT ARRIVES
pub finishes-judgement : (Q : ℕ → Type 0) (s : State) (src dst : List ℕ) (v : Content) (accepted : List ℕ) (closed : Bool) → IsAlone s accepted closed
    → (IsTaken s v → has fin v.flags ≡ true → Q (number v.seq (length v.text)))
    → Finishes Q s.receiving (after_judgement (judgement s src dst v) s src v).receiving
finishes-judgement Q s src dst v accepted closed a came =
    let r = s.receiving in
    let J : Judgement → Type 0 = λ j. Finishes Q r (after_judgement j s src v).receiving in
    let same : J Foreign = nothing-new Q r r refl in
    let gone : J PeerResets = no-fin Q r _ refl (omega arith) in
    let opens : J PeerOpens = syn-finishes Q r _ v.seq (opened-by_peer s src v).0 in
    let accepts : J PeerAccepts = syn-finishes Q r _ v.seq (accepted-by_peer s v).0 in
    let taken : IsAfterSyn s → IsTaken s v → J Taken = λ after_syn is. taking-finishes Q s v accepted closed after_syn a (came is) in
    let shut : J TakenShut = nothing-new Q r _ (shut-receiving s v) in
    judged s v J (assumption) src dst
