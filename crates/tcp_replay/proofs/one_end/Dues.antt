-- WHAT IS DUE (RFC 9293, 3.8), gone through once: what has to hold of each that may be due, where it is.
use Rattle.tcp_replay.proofs.Words.{◌&&◌, ◌+◌, ◌-◌, ◌<◌, ◌==◌, [], ack_alone, ack_due, Acknowledgement, and_parts, arith, Bool, cond_both, count_leading, drop}
use Rattle.tcp_replay.proofs.Words.{drop-drop, Due, due_of, end_of_text, eqb-true, false, Fin, fin_of, first_unmarked, IfSome, inl, inr, is_some, leb-true}
use Rattle.tcp_replay.proofs.Words.{length, length-drop, List, ltb-true, max, min, nat_le, nat_lt, nat_tests, new_count, new_text_of, NewText, next_unmarked}
use Rattle.tcp_replay.proofs.Words.{None, Option, option_or, place_of, position_at, Queue, Range, refl, Resend, resend_of, resend_start, resent_fin, resent_run}
use Rattle.tcp_replay.proofs.Words.{resent_text, ResentFin, Reset, reset_due, Sending, sends_text, Some, State, subst, Syn, syn_due, text_due, text_limit, true}
use Rattle.tcp_replay.proofs.Words.{WaitingReset, ◌||◌, ℕ, ◌∷◌, ◌≡◌, ◌≤◌, ◌⊎◌}
use Rattle.tcp_replay.proofs.Words.{ap, option_map, Sent, sent_due, Text}

-- what holds of each that may be due holds of the first
pub option_or-both : {A : Type 0} (P : A → Type 0) (first rest : Option A) → IfSome first P → IfSome rest P → IfSome (option_or first rest) P
option_or-both P None rest h h' = h'
option_or-both P (Some first) rest h h' = h

-- and what holds of what the half sends
if-some-text : (P : Due → Type 0) (o : Option Sent) → IfSome o (λ sent. P (Text sent)) → IfSome (option_map Text o) P
if-some-text P None h = tt
if-some-text P (Some sent) h = h

-- a position of the range that has to be sent again, and isn't acknowledged
pub record IsAgain (d : Sending) (range : Range ℕ) (start : ℕ) : Type 0 where
  pub is : d.resend ≡ Some range
  pub ahead : max range.start d.snd_una ≤ start
  pub inside : start < range.end

-- WHAT HAS TO HOLD OF WHAT IS SENT AGAIN: of text, which is some where the limit leaves room for any, and of the FIN
pub record KeptAgain (d : Sending) (limit : ℕ) (P : Sent → Type 0) : Type 0 where
  pub text : (range : Range ℕ) (start count : ℕ) → IsAgain d range start → start + count ≤ range.end → count ≤ limit → (1 ≤ limit → 0 < count)
      → P (Resend start count)
  pub fin : (range : Range ℕ) → IsAgain d range (end_of_text d) → P (ResentFin (end_of_text d))

-- OF EACH, at an end
pub record KeptByDue (s : State) (P : Due → Type 0) : Type 0 where
  pub resets : (reset : WaitingReset) → s.pending.reset ≡ Some reset → P Reset
  pub syn : s.pending.syn ≡ true → P Syn
  pub acks : s.pending.ack ≡ true → P Acknowledgement
  -- in a phase that sends text
  pub again : sends_text s.phase ≡ true → IfSome (resend_of s.sending (text_limit s) s.sending.resend) (λ sent. P (Text sent))
  pub new_text : sends_text s.phase ≡ true → 0 < new_count s.sending (text_limit s) s.pending.probe
      → P (Text (NewText s.sending.snd_nxt (new_count s.sending (text_limit s) s.pending.probe)))
  pub fin : sends_text s.phase ≡ true → s.closing ≡ true → s.sending.snd_nxt ≡ end_of_text s.sending → P (Text (Fin s.sending.snd_nxt))

-- a run that begins within the marks isn't empty
leading-some : (marks : List Bool) → count_leading true marks < length marks → 0 < count_leading false (drop (count_leading true marks) marks)
leading-some [] h = absurd (omega (arith, h))
leading-some (true ∷ marks) h = leading-some marks (omega (arith, h))
leading-some (false ∷ marks) h = omega arith

run-some : (q : Queue) (at : ℕ) → first_unmarked q at < length q.marks → 0 < count_leading false (drop (first_unmarked q at) q.marks)
run-some q at h =
    let c = count_leading true (drop at q.marks) in
    subst (λ (marks : List Bool). 0 < count_leading false marks) (drop-drop c at q.marks)
    (leading-some (drop at q.marks) (omega (arith, h, length-drop at q.marks)))

module _ (d : Sending) (limit : ℕ) (P : Sent → Type 0) (h : KeptAgain d limit P) where
  run-kept : (range : Range ℕ) (run : ℕ × ℕ) → d.resend ≡ Some range → max range.start d.snd_una ≤ position_at d run.0 → run.0 < run.1
      → IfSome (resent_text d limit range.end run) P
  run-kept range run is ahead some =
      let from = position_at d run.0 in
      let count = min limit (min (run.1 - run.0) (range.end - from)) in
      cond_both (nat_lt from range.end) (Some (Resend from count)) None (λ (o : Option Sent). IfSome o P) (λ e.
      let below : from < range.end = ltb-true from range.end e in
      h.text range from count (record { is = is; ahead = ahead; inside = below }) (omega (arith, below)) (omega arith)
      (λ room. omega (arith, below, some, room))) (λ _. tt)

  fin_again-kept : (range : Range ℕ) → d.resend ≡ Some range → IfSome (resent_fin d range) P
  fin_again-kept range is =
      let last = end_of_text d in
      cond_both (nat_lt last range.end && nat_le (resend_start d range) last) (Some (ResentFin last)) None (λ (o : Option Sent). IfSome o P) (λ e.
      let parts = and_parts (nat_lt last range.end) (nat_le (resend_start d range) last) e in
      h.fin range (record { is = is; ahead = leb-true (resend_start d range) last parts.1; inside = ltb-true last range.end parts.0 })) (λ _. tt)

  range-kept : (range : Option (Range ℕ)) → d.resend ≡ range → IfSome (resend_of d limit range) P
  unfolding resend_of next_unmarked
  range-kept None is = tt
  range-kept (Some range) is =
      let q = d.queue in
      let at = place_of d (resend_start d range) in
      let first = first_unmarked q at in
      let run : ℕ × ℕ = (first, first + count_leading false (drop first q.marks)) in
      cond_both (nat_lt first (length q.marks)) (Some run) None (λ (o : Option (ℕ × ℕ)). IfSome (resent_run d limit range o) P)
      (λ e. run-kept range run is (omega arith) (omega (arith, run-some q at (ltb-true first (length q.marks) e)))) (λ _. fin_again-kept range is)

  -- whatever is sent again
  pub again-kept : IfSome (resend_of d limit d.resend) P
  again-kept = range-kept d.resend refl

-- nothing isn't something
pub none-some : {A : Type 0} (x : A) → None ≡ Some x → ⊥
none-some x e = absurd (cc)

-- the first of two isn't there, nor the second
pub or-none : {A : Type 0} (o o' : Option A) → option_or o o' ≡ None → (o ≡ None) × (o' ≡ None)
or-none o o' e = grind (arith, e)

-- what is due, with what holds of it, or nothing is
pub some-due : {A : Type 0} (P : A → Type 0) (o : Option A) → IfSome o P → (o ≡ None) ⊎ ((due : A) × (o ≡ Some due) × P due)
some-due P None h = inl refl
some-due P (Some due) h = inr (due, refl, h)

-- nothing is sent again, whatever is marked, where nothing of the range is left
pub done-none : (d : Sending) (limit : ℕ) → IfSome d.resend (λ range. range.end ≤ max range.start d.snd_una) → resend_of d limit d.resend ≡ None
done-none d limit done =
    let left : (range : Range ℕ) (start : ℕ) → IsAgain d range start → ⊥ = λ range start again.
    let most : range.end ≤ max range.start d.snd_una = subst (λ (o : Option (Range ℕ)). IfSome o (λ r. r.end ≤ max r.start d.snd_una)) again.is done in
    absurd (omega (arith, most, again.ahead, again.inside)) in
    elim (some-due (λ _. ⊥) (resend_of d limit d.resend) (again-kept d limit (λ _. ⊥)
    (record { text = λ range start _ again _ _ _. left range start again; fin = λ range again. left range _ again }))) [
      | inl none ↦ none
      | inr some ↦ absurd some.2
    ]

module _ (s : State) (P : Due → Type 0) (h : KeptByDue s P) where
  reset-kept : (waiting : Option WaitingReset) → s.pending.reset ≡ waiting → IfSome (reset_due waiting) P
  reset-kept None e = tt
  reset-kept (Some reset) e = h.resets reset e

  ack-kept : IfSome (ack_due s.pending) P
  ack-kept = cond_both s.pending.ack (Some Acknowledgement) None (λ (o : Option Due). IfSome o P) h.acks (λ _. tt)

  module _ (sends : sends_text s.phase ≡ true) where
    new-kept : IfSome (new_text_of s.sending (text_limit s) s.pending.probe) (λ sent. P (Text sent))
    unfolding new_text_of
    new-kept =
        let k = new_count s.sending (text_limit s) s.pending.probe in
        cond_both (k == 0) None (Some (NewText s.sending.snd_nxt k)) (λ (o : Option Sent). IfSome o (λ sent. P (Text sent))) (λ _. tt)
        (λ e. h.new_text sends (grind (arith, nat_tests, e)))

    fin-kept : IfSome (fin_of s.sending s.closing) (λ sent. P (Text sent))
    fin-kept =
        cond_both (s.closing && (s.sending.snd_nxt == end_of_text s.sending)) (Some (Fin s.sending.snd_nxt)) None (λ (o : Option Sent). IfSome o (λ sent. P (Text sent))) (λ e.
        let parts = and_parts s.closing (s.sending.snd_nxt == end_of_text s.sending) e in
        h.fin sends parts.0 (eqb-true s.sending.snd_nxt (end_of_text s.sending) parts.1)) (λ _. tt)

  text-kept : IfSome (text_due s) P
  text-kept =
      let again = resend_of s.sending (text_limit s) s.sending.resend in
      let new = new_text_of s.sending (text_limit s) s.pending.probe in
      let last = fin_of s.sending s.closing in
      let Q : Sent → Type 0 = λ sent. P (Text sent) in
      if-some-text P (sent_due s) (cond_both (sends_text s.phase) (option_or again (option_or new last)) None (λ (o : Option Sent). IfSome o Q)
      (λ e. option_or-both Q again (option_or new last) (h.again e) (option_or-both Q new last (new-kept e) (fin-kept e))) (λ _. tt))

  -- the first that is due
  pub due-kept : IfSome (due_of s) P
  unfolding due_of
  due-kept =
      let syn = syn_due s.pending in
      let last = option_or (text_due s) (ack_due s.pending) in
      option_or-both P (reset_due s.pending.reset) (option_or syn last) (reset-kept s.pending.reset refl)
      (option_or-both P syn last (cond_both s.pending.syn (Some Syn) None (λ (o : Option Due). IfSome o P) h.syn (λ _. tt))
      (option_or-both P (text_due s) (ack_due s.pending) text-kept ack-kept))

  -- and the acknowledgement alone
  pub ack_alone-kept : IfSome (ack_alone s) P
  unfolding ack_alone
  ack_alone-kept =
      cond_both (is_some s.pending.reset || s.pending.syn) None (ack_due s.pending) (λ (o : Option Due). IfSome o P) (λ _. tt) (λ _. ack-kept)

-- a reset is due only where one waits
pub reset-waits : (s : State) → due_of s ≡ Some Reset → is_some s.pending.reset ≡ true
reset-waits s e =
    let P : Due → Type 0 = λ due. due ≡ Reset → is_some s.pending.reset ≡ true in
    subst (λ (o : Option Due). IfSome o P) e (due-kept s P (record {
      resets = λ reset waits _. ap is_some waits;
      syn = λ _ same. absurd (cc);
      acks = λ _ same. absurd (cc);
      again = λ _. again-kept s.sending (text_limit s) (λ sent. P (Text sent)) (record { text = λ _ _ _ _ _ _ _ same. absurd (cc); fin = λ _ _ same. absurd (cc) });
      new_text = λ _ _ same. absurd (cc);
      fin = λ _ _ _ same. absurd (cc);
    })) refl
