-- WHO HAS NOTHING TO SEND AGAIN stays so until a timer expires, and whatever is due there is at SND.NXT.
use Rattle.tcp_replay.proofs.Words.{◌&&◌, acks_more, after_ack, after_acked_text, after_fin, after_its_ack, after_its_text, after_judgement, after_own_fin}
use Rattle.tcp_replay.proofs.Words.{after_own_syn, after_peer_accepts, after_peer_opens, after_taking, after_taking_shut, after_window_and_blocks, arith}
use Rattle.tcp_replay.proofs.Words.{Bool, cond_both, Content, false, false≢true, IfSome, is_listening, is_syn_received, IsAlone, Judgement, judgement}
use Rattle.tcp_replay.proofs.Words.{List, max, nat_tests, not, NotEnded, Option, PeerAccepts, PeerOpens, PeerResets, position_near, Range, refl, Sending}
use Rattle.tcp_replay.proofs.Words.{State, sym, Taken, TakenShut, true, window_from, with_acked, with_syn_acked, with_window, ℕ, ◌∙◌, ◌≡◌, ◌≤◌}
use Rattle.tcp_replay.proofs.{Lemmas.at-listen, Lemmas.judged, Lemmas.window_and_blocks-cases, Lemmas.own_fin-cases, one_end.Judgements.IsSyn}

-- NOTHING IS TO BE SENT AGAIN, whatever is marked
abbrev pub RangeDone : Sending → Type 0
RangeDone d = IfSome d.resend (λ range. range.end ≤ max range.start d.snd_una)

-- ---- AN ARRIVAL leaves nothing more of the range
pub record KeepsRange (d e : Sending) : Type 0 where
  pub done : RangeDone d → RangeDone e
  pub snd_una : d.snd_una ≤ e.snd_una
  pub snd_nxt : e.snd_nxt ≡ d.snd_nxt

-- it keeps itself
pub range-same : (d : Sending) → KeepsRange d d
range-same d = record { done = λ h. h; snd_una = omega arith; snd_nxt = refl }

range-then : (d e f : Sending) → KeepsRange d e → KeepsRange e f → KeepsRange d f
range-then d e f one two = record { done = λ h. two.done (one.done h); snd_una = omega (arith, one.snd_una, two.snd_una); snd_nxt = two.snd_nxt ∙ one.snd_nxt }

some-done : (range : Option (Range ℕ)) (snd_una snd_una' : ℕ) → snd_una ≤ snd_una' → IfSome range (λ range. range.end ≤ max range.start snd_una)
    → IfSome range (λ range. range.end ≤ max range.start snd_una')
some-done range snd_una snd_una' more h = grind (arith, more, h)

-- an acknowledgement
pub acked-range : (s : State) (v : Content) → KeepsRange s.sending (after_acked_text s v).sending
unfolding after_acked_text after_ack
acked-range s v =
    let a = position_near s v.ack in
    cond_both (acks_more s.sending a) (with_acked s.sending a) s.sending (λ (e : Sending). KeepsRange s.sending e)
    (λ e. let more : s.sending.snd_una ≤ a = grind (arith, nat_tests, e) in
    record { done = some-done s.sending.resend s.sending.snd_una a more; snd_una = more; snd_nxt = refl })
    (λ _. range-same s.sending)

-- its SYN's acknowledgement
pub own_syn-range : (s : State) (v : Content) → s.sending.snd_una ≤ s.sending.snd_nxt → KeepsRange s.sending (after_own_syn s v).sending
unfolding after_own_syn
own_syn-range s v order =
    cond_both (is_syn_received s.phase) (with_window (with_syn_acked s.sending) v.seq v.ack (window_from s.link v.window)) s.sending
    (λ (e : Sending). KeepsRange s.sending e)
    (λ _. record { done = some-done s.sending.resend s.sending.snd_una s.sending.snd_nxt order; snd_una = order; snd_nxt = refl }) (λ _. range-same s.sending)

-- all that an acknowledgement does
pub its_ack-range : (s : State) (v : Content) → s.sending.snd_una ≤ s.sending.snd_nxt → KeepsRange s.sending (after_its_ack s v).sending
unfolding after_its_ack
its_ack-range s v order =
    let one = after_own_syn s v in
    let two = after_acked_text one v in
    let three = after_window_and_blocks two v in
    let window_and_blocks = window_and_blocks-cases (KeepsRange two.sending) two v (λ d h. assumption) (λ d left right _ h. assumption) (range-same two.sending) in
    let own_fin = own_fin-cases three (λ (t : State). KeepsRange three.sending t.sending) (λ _ _. record { done = λ _. tt; snd_una = omega arith; snd_nxt = refl })
    (λ _ _. range-same three.sending) (λ _. range-same three.sending) in
    range-then s.sending one.sending (after_own_fin three).sending (own_syn-range s v order)
    (range-then one.sending two.sending (after_own_fin three).sending (acked-range one v)
    (range-then two.sending three.sending (after_own_fin three).sending window_and_blocks own_fin))

-- ---- AND NO SYN IS PENDING THAT WASN'T, and the acknowledgement still is
pub record KeepsPending (s t : State) : Type 0 where
  pub range : KeepsRange s.sending t.sending
  pub syn : s.pending.syn ≡ false → t.pending.syn ≡ false
  pub ack : t.ending ≡ NotEnded → s.pending.ack ≡ true → t.pending.ack ≡ true

-- it keeps itself
pub pending-same : (s : State) → KeepsPending s s
pending-same s = record { range = range-same s.sending; syn = λ e. e; ack = λ _ e. e }

its_ack-pending : (s : State) (v : Content)
    → (s.pending.syn ≡ false → (after_its_ack s v).pending.syn ≡ false)
    × ((after_its_ack s v).ending ≡ NotEnded → s.pending.ack ≡ true → (after_its_ack s v).pending.ack ≡ true)
unfolding after_its_ack after_own_syn after_acked_text after_window_and_blocks after_own_fin
its_ack-pending s v =
    let three = after_window_and_blocks (after_acked_text (after_own_syn s v) v) v in
    let P : State → Type 0 = λ t. (s.pending.syn ≡ false → t.pending.syn ≡ false) × (t.ending ≡ NotEnded → s.pending.ack ≡ true → t.pending.ack ≡ true) in
    let still : s.pending.syn ≡ false → (s.pending.syn && not (is_syn_received s.phase)) ≡ false = λ e. rw e refl in
    own_fin-cases three P (λ _ _. (λ _. refl, λ over. absurd (cc))) (λ _ _. (λ e. still e, λ _ e. e)) (λ _. (λ e. still e, λ _ e. e))

-- whatever is judged, at an end that has its peer's SYN
pub pending-judgement : (s : State) (src dst : List ℕ) (v : Content) (accepted : List ℕ) (closed : Bool) → IsAlone s accepted closed → s.receiving.opened ≡ true
    → KeepsPending s (after_judgement (judgement s src dst v) s src v)
unfolding after_peer_opens after_peer_accepts after_taking after_fin after_its_text after_taking_shut
pending-judgement s src dst v accepted closed alone opened =
    let d = s.sending in
    let r = s.receiving in
    let order : d.snd_una ≤ d.snd_nxt = alone.sends.order in
    let P : Judgement → Type 0 = λ j. KeepsPending s (after_judgement j s src v) in
    let opens : is_listening s.phase ≡ true → IsSyn v → P PeerOpens = λ listening _.
    absurd (false≢true (sym (at-listen s.phase s.ending d.snd_una d.snd_nxt r.opened r.finished listening alone.progress).1.not_opened ∙ opened)) in
    let resets : P PeerResets = record { range = record { done = λ _. tt; snd_una = omega arith; snd_nxt = refl }; syn = λ _. refl; ack = λ over. absurd (cc) } in
    let accepts : P PeerAccepts =
    record { range = record { done = some-done d.resend d.snd_una d.snd_nxt order; snd_una = order; snd_nxt = refl }; syn = λ _. refl; ack = λ _ _. refl } in
    let range = its_ack-range s v order in
    let pending = its_ack-pending s v in
    let taken : P Taken = record { range = range; syn = pending.0; ack = λ goes e. rw (pending.1 goes e) refl } in
    let shut : P TakenShut = record { range = range; syn = pending.0; ack = λ goes e. rw (pending.1 goes e) refl } in
    judged s v P (assumption) src dst
