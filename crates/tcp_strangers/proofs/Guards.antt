-- WHAT PASSES A GUARD (RFC 5961, 5.2): few acknowledgements, and few sequence numbers at a shut window.
use Rattle.std.proofs.Common.{◌≡◌, ℕ, ◌+◌, ◌-◌, ◌%◌, ◌^◌, ◌<◌, ◌≤◌, Bool, true, false, ◌||◌, ◌&&◌, ◌==◌, nat_le, nat_lt, if◌then◌else◌, refl, sym, arith}
use Rattle.std.proofs.Common.{subst, ap, List, Some, ◌∙◌, inl, inr, ◌⊎◌}
use Rattle.std.proofs.lemmas.Bool.{cases_Bool, cases_lt, cond_both, eqb-true, lt-ltb, ltb-false}
use Rattle.std.proofs.lemmas.Bool.Decides.{nat_tests}
use Rattle.tcp_wire.specs.Wire.{Content}
use Rattle.tcp_numbers.specs.Position.{distance, number}
use Rattle.tcp_numbers.proofs.Positions.{position_of_beyond}
use Rattle.tcp_reasm.specs.Reassembly.{window}
unfoldable use Rattle.tcp_halves.specs.Acceptable.{is_acceptable}
use Rattle.tcp_halves.specs.Sender.{acks_unsent}
use Rattle.tcp_conn.specs.declared.arrive.judgement.Judgement.{Judgement}
use Rattle.tcp_conn.specs.declared.arrive.judgement.Judgement.TheVariants.{AcksUnsent, Taken, TakenShut, Unacceptable}
use Rattle.tcp_conn.specs.Guard.{is_kept_out}
unfoldable use Rattle.tcp_conn.specs.Guard.{guarded, is_elsewhere, is_old_ack}
use Rattle.tcp_conn.specs.Judgement.{count_numbers, is_acceptable_segment, position_near}
use Rattle.tcp_conn.specs.State.{State}
use Rattle.tcp_replay.specs.Among.{lets_in}
use Rattle.tcp_strangers.specs.Guesses.{ComesToItsAck, FewAcksPass, FewNumbersPassAtAShutWindow, IsOpen, count_guesses, flight, passes, with_ack, with_seq}
use Rattle.tcp_strangers.proofs.Acknowledgements.{acks-so, judged, shut-so, turned, una_number}
use Rattle.tcp_strangers.proofs.Counting.{count-ahead, count-all, count-within}

-- no test is met by more numbers than there are
no-more : (P : ℕ → Bool) → count_guesses P ≤ 2 ^ 32
no-more P = subst (λ n. count_guesses P ≤ n) (count-all (2 ^ 32)) (count-within (2 ^ 32) P (λ n. true) (λ n less e. refl))

-- ---- WHAT PASSES acknowledges what was sent, and nothing old; at a shut window it is at RCV.NXT, or not from elsewhere
record IsPassed (reach : ℕ) (s : State) (v : Content) : Type 0 where
  sent : acks_unsent s.sending (position_near s v.ack) ≡ false
  young : is_old_ack reach s v ≡ false
  place : (is_acceptable_segment s v ≡ true) ⊎ (is_elsewhere reach s v ≡ false)

stays-out : (out : Bool) (rule : Judgement) → lets_in (if out then Unacceptable else rule) ≡ true → out ≡ false
stays-out true rule e = absurd (cc)
stays-out false rule e = refl

or-none : (a b : Bool) → (a || b) ≡ false → (a ≡ false) × (b ≡ false)
or-none false b e = (refl, e)
or-none true b e = absurd (cc)

passed-by : (reach : ℕ) (s : State) (v : Content) (unsent : Bool) (good : Judgement) → (good ≡ Taken) ⊎ (good ≡ TakenShut)
    → (good ≡ Taken → is_acceptable_segment s v ≡ true) → acks_unsent s.sending (position_near s v.ack) ≡ unsent
    → lets_in (guarded (Some reach) (if unsent then AcksUnsent else good) s v) ≡ true → IsPassed reach s v
unfolding guarded
passed-by reach s v true good is inside e out = absurd (cc)
passed-by reach s v false good (inl taken) inside e out =
    let kept = subst (λ j. lets_in (if is_kept_out reach j s v then Unacceptable else j) ≡ true) taken out in
    record { sent = e; young = stays-out (is_old_ack reach s v) Taken kept; place = inl (inside taken) }
passed-by reach s v false good (inr shut) inside e out =
    let kept = subst (λ j. lets_in (if is_kept_out reach j s v then Unacceptable else j) ≡ true) shut out in
    let none = or-none (is_old_ack reach s v) (is_elsewhere reach s v)
    (stays-out (is_old_ack reach s v || is_elsewhere reach s v) TakenShut kept) in
    record { sent = e; young = none.0; place = inr none.1 }

passed : (reach : ℕ) (s : State) (src dst : List ℕ) (v : Content) → IsOpen s → ComesToItsAck s src dst v → passes reach s src dst v ≡ true
    → IsPassed reach s v
passed reach s src dst v open_to h out =
    let j = judged s src dst v open_to h in
    passed-by reach s v (acks_unsent s.sending (position_near s v.ack)) j.good j.is_good j.inside refl
    (subst (λ rule. lets_in (guarded (Some reach) rule s v) ≡ true) j.is out)

-- ---- FEW ACKNOWLEDGEMENTS: from the reach before SND.UNA up to SND.NXT
acks-near : (far behind f reach : ℕ) → far < 2 ^ 32 → f < 2 ^ 31 → behind ≡ (2 ^ 32 - far) % 2 ^ 32 → reach + f + 1 ≤ 2 ^ 32
    → (nat_lt far (2 ^ 31) && nat_lt f far) ≡ false → (nat_lt reach behind && nat_le behind (2 ^ 31)) ≡ false → (far + reach) % 2 ^ 32 < reach + f + 1
acks-near far behind f reach fits most is wide sent young =
    elim (cases_lt far (2 ^ 31)) [
      | inl close ↦
          let within : far ≤ f = grind (arith, nat_tests, sent, close) in
          omega (arith, within, wide)
      | inr before ↦
          let near : behind ≤ reach = grind (arith, nat_tests, young, is, before, fits) in
          omega (arith, near, is, before, fits, wide)
    ]

ack-passes : (reach : ℕ) (s : State) (v : Content) (n : ℕ) → IsOpen s → n < 2 ^ 32 → reach + flight s + 1 ≤ 2 ^ 32 → IsPassed reach s (with_ack v n)
    → ((n + (2 ^ 32 - una_number s + reach) % 2 ^ 32) % 2 ^ 32) < reach + flight s + 1
unfolding is_old_ack
ack-passes reach s v n h less wide passed_ =
    let una = una_number s in
    let far = distance una n in
    let sent = sym (position_of_beyond s.config.isn.0 s.sending.snd_una s.sending.snd_nxt n h.isn less h.order) ∙ passed_.sent in
    subst (λ m. m < reach + flight s + 1) (turned n una reach (omega arith))
    (acks-near far (distance n una) (flight s) reach (omega arith) h.most (omega (arith, less)) wide sent passed_.young)

pub few-acks : FewAcksPass
few-acks reach s src dst v open_to h =
    let P : ℕ → Bool = λ n. passes reach s src dst (with_ack v n) in
    elim (cases_lt (2 ^ 32) (reach + flight s + 1)) [
      | inl more ↦ let all = no-more P in omega (arith, all, more)
      | inr wide ↦
          let b = (2 ^ 32 - una_number s + reach) % 2 ^ 32 in
          let within = count-within (2 ^ 32) P (λ n. nat_lt ((n + b) % 2 ^ 32) (reach + flight s + 1))
          (λ n less e. lt-ltb ((n + b) % 2 ^ 32) (reach + flight s + 1)
          (ack-passes reach s v n open_to less wide (passed reach s src dst (with_ack v n) open_to (acks-so s src dst v n h) e))) in
          let counted = count-ahead b (reach + flight s + 1) (omega arith) wide in
          omega (arith, within, counted)
    ]

-- ---- FEW NUMBERS AT A SHUT WINDOW: from the reach before RCV.NXT up to a receive buffer and a FIN behind it
at-next : (next seq count window : ℕ) → window ≡ 0 → is_acceptable next window seq count ≡ true → seq ≡ next
unfolding is_acceptable
at-next next seq count w shut e =
    let is : (if count == 0 then seq == next else false) ≡ true = subst (λ w. is_acceptable next w seq count ≡ true) shut e in
    elim (cases_Bool (count == 0)) [
      | inl none ↦ eqb-true seq next (subst (λ (b : Bool). (if b then seq == next else false) ≡ true) none is)
      | inr some ↦ absurd (let never : false ≡ true = subst (λ (b : Bool). (if b then seq == next else false) ≡ true) some is in cc)
    ]

numbers-near : (next n capacity reach : ℕ) → next < 2 ^ 32 → n < 2 ^ 32 → reach + capacity + 2 ≤ 2 ^ 32
    → (nat_lt (capacity + 1) (distance next n) && nat_lt reach (distance n next)) ≡ false
    → (n + (2 ^ 32 - next + reach) % 2 ^ 32) % 2 ^ 32 < reach + capacity + 2
numbers-near next n capacity reach fits less wide near =
    elim (cases_lt (capacity + 1) (distance next n)) [
      | inl far ↦
          let behind : distance n next ≤ reach = grind (arith, nat_tests, near, far) in
          omega (arith, behind, far, fits, less, wide)
      | inr ahead ↦ omega (arith, ahead, fits, less, wide)
    ]

number-passes : (reach : ℕ) (s : State) (v : Content) (n : ℕ) → n < 2 ^ 32 → s.receiving.rcv_nxt < 2 ^ 32 → window s.receiving.inbox ≡ 0
    → reach + s.config.recv_capacity + 2 ≤ 2 ^ 32 → IsPassed reach s (with_seq v n)
    → (n + (2 ^ 32 - s.receiving.rcv_nxt + reach) % 2 ^ 32) % 2 ^ 32 < reach + s.config.recv_capacity + 2
unfolding is_elsewhere
number-passes reach s v n less fits shut wide passed_ =
    elim passed_.place [
      | inl inside ↦
          let at : n ≡ s.receiving.rcv_nxt = at-next s.receiving.rcv_nxt n (count_numbers (with_seq v n)) (window s.receiving.inbox) shut inside in
          omega (arith, at, fits, wide)
      | inr near ↦ numbers-near s.receiving.rcv_nxt n s.config.recv_capacity reach fits less wide near
    ]

pub few-numbers-shut : FewNumbersPassAtAShutWindow
few-numbers-shut reach s src dst v open_to h shut fits =
    let P : ℕ → Bool = λ n. passes reach s src dst (with_seq v n) in
    elim (cases_lt (2 ^ 32) (reach + s.config.recv_capacity + 2)) [
      | inl more ↦ let all = no-more P in omega (arith, all, more)
      | inr wide ↦
          let b = (2 ^ 32 - s.receiving.rcv_nxt + reach) % 2 ^ 32 in
          let within = count-within (2 ^ 32) P (λ n. nat_lt ((n + b) % 2 ^ 32) (reach + s.config.recv_capacity + 2))
          (λ n less e. lt-ltb ((n + b) % 2 ^ 32) (reach + s.config.recv_capacity + 2)
          (number-passes reach s v n less fits shut wide (passed reach s src dst (with_seq v n) open_to (shut-so s src dst v n h shut) e))) in
          let counted = count-ahead b (reach + s.config.recv_capacity + 2) (omega arith) wide in
          omega (arith, within, counted)
    ]
