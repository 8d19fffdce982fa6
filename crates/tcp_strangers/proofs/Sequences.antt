-- WHICH SEQUENCE NUMBERS let a segment in, and which acknowledgement of a SYN (RFC 9293, 3.10.7.3 and 3.10.7.4).
use Rattle.std.proofs.Common.{◌≡◌, ℕ, ◌+◌, ◌-◌, ◌%◌, ◌^◌, ◌<◌, ◌≤◌, max, Bool, true, false, not, ◌&&◌, ◌==◌, nat_lt, if◌then◌else◌, refl}
use Rattle.std.proofs.Common.{sym, subst, arith, ap, List, ◌∙◌, ⊎_elim, ◌⊎◌, inl, inr}
use Rattle.std.proofs.lemmas.Bool.{and_parts, cond_both, eqb-true, eqb-false, ltb-true, lt-ltb, or_cases, cases_lt}
use Rattle.std.proofs.lemmas.Bool.Decides.{nat_tests}
use Rattle.tcp_wire.specs.Flags.{syn, ack, rst, has}
use Rattle.tcp_wire.specs.Wire.{Content}
use Rattle.tcp_wire.specs.Position.{number, distance, position_of, near, is_inside}
use Rattle.tcp_wire.proofs.Lemmas.{first_inside, last_inside, position_of_ahead, position_of_behind}
use Rattle.tcp_reasm.specs.Reassembly.{window}
unfoldable use Rattle.tcp_halves.specs.Acceptable.{is_acceptable}
use Rattle.tcp_conn.specs.declared.arrive.judgement.Judgement.{Judgement}
use Rattle.tcp_conn.specs.declared.arrive.judgement.Judgement.TheVariants.{Foreign, ResetIgnored, OpensNothing, AckOfNoSyn, PeerRefuses, PeerAccepts}
use Rattle.tcp_conn.specs.declared.arrive.judgement.Judgement.TheVariants.{Unacceptable, PeerResets, ResetElsewhere, SynInWindow, NoAck, HandshakeRefused}
use Rattle.tcp_conn.specs.declared.arrive.judgement.Judgement.TheVariants.{HandshakeRefusedShut, Taken, TakenShut}
use Rattle.tcp_conn.specs.Judgement.{count_numbers, is_acceptable_segment, is_allowed_shut, acks_syn, position_near}
unfoldable use Rattle.tcp_conn.specs.Judgement.{judgement, phase_judgement, judgement_after_syn, acceptable_judgement, unacceptable_judgement, ack_judgement}
unfoldable use Rattle.tcp_conn.specs.Judgement.{is_foreign, closed_judgement, listen_judgement, syn_sent_judgement}
use Rattle.tcp_conn.specs.Phase.{is_closed, is_listening, is_syn_received, is_syn_sent}
use Rattle.tcp_conn.specs.State.{State}
use Rattle.tcp_replay.specs.Among.{is_let_in, lets_in}
use Rattle.tcp_strangers.specs.Guesses.{WaitsForItsSyn, FewNumbersLetIn, OneNumberAnswers, OneNumberResets, TestsNumbers, width, with_ack, with_seq}
use Rattle.tcp_strangers.proofs.Counting.{count-ahead, count-within}

-- which branch a test took
either : (b x y : Bool) → (if b then x else y) ≡ true → ((b ≡ true) × (x ≡ true)) ⊎ ((b ≡ false) × (y ≡ true))
either true x y e = inl (refl, e)
either false x y e = inr (refl, e)

module _ (s : State) (src dst : List ℕ) (v : Content) (here : TestsNumbers s) (Q : Type 0) where
  abbrev Leads : Judgement → Type 0
  Leads j = lets_in j ≡ true → Q

  -- what is let in was judged so
  through-after_syn : Leads (judgement_after_syn s v) → Leads (judgement s src dst v)
  unfolding judgement phase_judgement
  through-after_syn h =
      let opens = if is_syn_sent s.phase then syn_sent_judgement s v else judgement_after_syn s v in
      cond_both (is_foreign s src dst v) Foreign (phase_judgement s v) Leads (λ _ e. absurd (cc))
      (λ _. cond_both (is_closed s.phase) (closed_judgement v) (if is_listening s.phase then listen_judgement v else opens) Leads
      (λ e. let no = here.closed in absurd (cc))
      (λ _. cond_both (is_listening s.phase) (listen_judgement v) opens Leads (λ e. let no = here.listening in absurd (cc))
      (λ _. cond_both (is_syn_sent s.phase) (syn_sent_judgement s v) (judgement_after_syn s v) Leads (λ e. let no = here.syn_sent in absurd (cc)) (λ _. h))))

  through-unacceptable : (window s.receiving.inbox == 0) ≡ false → Leads (unacceptable_judgement s v)
  unfolding unacceptable_judgement
  through-unacceptable open_ =
      let allowed = ack_judgement s v TakenShut HandshakeRefusedShut in
      cond_both (has rst v.flags) ResetIgnored (if is_allowed_shut s v then allowed else Unacceptable) Leads (λ _ e. absurd (cc))
      (λ _. cond_both (is_allowed_shut s v) allowed Unacceptable Leads
      (λ e. let no = (and_parts (window s.receiving.inbox == 0) (has ack v.flags && not (has syn v.flags)) e).0 in absurd (cc)) (λ _ e. absurd (cc)))

-- at an open window what is let in is acceptable
pub let_in-acceptable : (s : State) (src dst : List ℕ) (v : Content) → TestsNumbers s → (window s.receiving.inbox == 0) ≡ false → is_let_in s src dst v ≡ true
    → is_acceptable_segment s v ≡ true
unfolding judgement_after_syn
let_in-acceptable s src dst v here open_ =
    through-after_syn s src dst v here (is_acceptable_segment s v ≡ true)
    (cond_both (is_acceptable_segment s v) (acceptable_judgement s v) (unacceptable_judgement s v) (λ j. lets_in j ≡ true → is_acceptable_segment s v ≡ true)
    (λ e _. e) (λ _. through-unacceptable s src dst v here (is_acceptable_segment s v ≡ true) open_))

-- and lies this near
pub acceptable-near : (next w seq count : ℕ) → next < 2 ^ 32 → 1 ≤ w → w ≤ 2 ^ 20 → count ≤ 2 ^ 16 → is_acceptable next w seq count ≡ true
    → distance next ((seq + (max 1 count - 1)) % 2 ^ 32) < w + (max 1 count - 1)
unfolding is_acceptable
acceptable-near next w seq count fits some most short e =
    let open_ : (w == 0) ≡ false = grind (arith, nat_tests, some) in
    ⊎_elim (λ none.
    let zero_is : count ≡ 0 = eqb-true count 0 none.0 in
    ⊎_elim (λ shut. absurd (let no = shut.0 in cc))
    (λ here. let d = ltb-true (distance next seq) w (sym (first_inside next w seq fits most) ∙ here.1) in omega (arith, zero_is, d))
    (either (w == 0) (seq == next) (is_inside next w (near next seq)) none.1))
    (λ more.
    let least : 1 ≤ count = (let no = eqb-false count 0 more.0 in grind (arith, no)) in
    ⊎_elim (λ shut. absurd (let no = shut.0 in cc))
    (λ here.
    ⊎_elim (λ (first : is_inside next w (near next seq) ≡ true).
    let d = ltb-true (distance next seq) w (sym (first_inside next w seq fits most) ∙ first) in omega (arith, least, d, short, most))
    (λ last. let d = ltb-true (distance next ((seq + (count - 1)) % 2 ^ 32)) w (sym (last_inside next w seq (count - 1) fits most
    (omega (arith, short, least))) ∙ last) in
    omega (arith, least, d))
    (or_cases (is_inside next w (near next seq)) _ here.1))
    (either (w == 0) false _ more.1))
    (either (count == 0) _ _ e)

pub let_in-near : (s : State) (src dst : List ℕ) (v : Content) → TestsNumbers s → s.receiving.rcv_nxt < 2 ^ 32 → 1 ≤ window s.receiving.inbox
    → window s.receiving.inbox ≤ 2 ^ 20 → count_numbers v ≤ 2 ^ 16 → is_let_in s src dst v ≡ true
    → distance s.receiving.rcv_nxt ((v.seq + (max 1 (count_numbers v) - 1)) % 2 ^ 32) < width s v
let_in-near s src dst v here fits some most short e =
    let open_ : (window s.receiving.inbox == 0) ≡ false = grind (arith, nat_tests, some) in
    acceptable-near s.receiving.rcv_nxt (window s.receiving.inbox) v.seq (count_numbers v) fits some most short (let_in-acceptable s src dst v here open_ e)

turned : (n k next : ℕ) → next < 2 ^ 32 → ((n + k) % 2 ^ 32 + (2 ^ 32 - next)) % 2 ^ 32 ≡ (n + (k + (2 ^ 32 - next)) % 2 ^ 32) % 2 ^ 32
turned n k next fits = omega arith

pub few-numbers : FewNumbersLetIn
few-numbers s src dst v here fits some most short =
    let k = max 1 (count_numbers v) - 1 in
    let b = (k + (2 ^ 32 - s.receiving.rcv_nxt)) % 2 ^ 32 in
    let within = count-within (2 ^ 32) (λ n. is_let_in s src dst (with_seq v n)) (λ n. nat_lt ((n + b) % 2 ^ 32) (width s v))
    (λ n less e. lt-ltb ((n + b) % 2 ^ 32) (width s v)
    (subst (λ d. d < width s v) (turned n k s.receiving.rcv_nxt fits) (let_in-near s src dst (with_seq v n) here fits some most short e))) in
    let counted = count-ahead b (width s v) (omega arith) (omega (arith, most, short)) in
    omega (arith, within, counted)

-- A RESET is let in at RCV.NXT alone
reset-number : (s : State) (src dst : List ℕ) (v : Content) → TestsNumbers s → has rst v.flags ≡ true → is_let_in s src dst v ≡ true → v.seq ≡ s.receiving.rcv_nxt
unfolding judgement_after_syn acceptable_judgement unacceptable_judgement
reset-number s src dst v here reset =
    let Q = v.seq ≡ s.receiving.rcv_nxt in
    let resets = if v.seq == s.receiving.rcv_nxt then PeerResets else ResetElsewhere in
    let others = if has syn v.flags then SynInWindow else (if not (has ack v.flags) then NoAck else ack_judgement s v Taken HandshakeRefused) in
    let allowed = if is_allowed_shut s v then ack_judgement s v TakenShut HandshakeRefusedShut else Unacceptable in
    let P : Judgement → Type 0 = λ j. lets_in j ≡ true → Q in
    through-after_syn s src dst v here Q
    (cond_both (is_acceptable_segment s v) (acceptable_judgement s v) (unacceptable_judgement s v) P
    (λ _. cond_both (has rst v.flags) resets others P
    (λ _. cond_both (v.seq == s.receiving.rcv_nxt) PeerResets ResetElsewhere P (λ e _. eqb-true v.seq s.receiving.rcv_nxt e) (λ _ e. absurd (cc)))
    (λ no. absurd (cc)))
    (λ _. cond_both (has rst v.flags) ResetIgnored allowed P (λ _ e. absurd (cc)) (λ no. absurd (cc))))

pub one-resets : OneNumberResets
one-resets s src dst v here fits reset =
    let b = (2 ^ 32 - s.receiving.rcv_nxt) % 2 ^ 32 in
    let within = count-within (2 ^ 32) (λ n. is_let_in s src dst (with_seq v n)) (λ n. nat_lt ((n + b) % 2 ^ 32) 1)
    (λ n less e. lt-ltb ((n + b) % 2 ^ 32) 1 (let same = reset-number s src dst (with_seq v n) here reset e in omega (arith, same, less))) in
    let counted = count-ahead b 1 (omega arith) (omega arith) in
    omega (arith, within, counted)

-- IN SYN-SENT what is let in acknowledges the SYN
answers-syn : (s : State) (src dst : List ℕ) (v : Content) → is_syn_sent s.phase ≡ true → is_let_in s src dst v ≡ true → acks_syn s v ≡ true
unfolding judgement phase_judgement syn_sent_judgement
answers-syn s src dst v sent =
    let Q = acks_syn s v ≡ true in
    let P : Judgement → Type 0 = λ j. lets_in j ≡ true → Q in
    let shut : is_closed s.phase ≡ false = grind (arith, sent) in
    let listening : is_listening s.phase ≡ false = grind (arith, sent) in
    let opens = if is_syn_sent s.phase then syn_sent_judgement s v else judgement_after_syn s v in
    let answers = if has syn v.flags && has ack v.flags then PeerAccepts else OpensNothing in
    let resets = if has ack v.flags then PeerRefuses else ResetIgnored in
    let acked : (has ack v.flags && not (acks_syn s v)) ≡ false → has ack v.flags ≡ true → Q = λ e told. grind (arith, e, told) in
    cond_both (is_foreign s src dst v) Foreign (phase_judgement s v) P (λ _ e. absurd (cc))
    (λ _. cond_both (is_closed s.phase) (closed_judgement v) (if is_listening s.phase then listen_judgement v else opens) P (λ e. absurd (cc))
    (λ _. cond_both (is_listening s.phase) (listen_judgement v) opens P (λ e. absurd (cc))
    (λ _. cond_both (is_syn_sent s.phase) (syn_sent_judgement s v) (judgement_after_syn s v) P
    (λ _. cond_both (has ack v.flags && not (acks_syn s v)) (if has rst v.flags then ResetIgnored else AckOfNoSyn)
    (if has rst v.flags then resets else answers) P
    (λ _. cond_both (has rst v.flags) ResetIgnored AckOfNoSyn P (λ _ e. absurd (cc)) (λ _ e. absurd (cc)))
    (λ good. cond_both (has rst v.flags) resets answers P
    (λ _. cond_both (has ack v.flags) PeerRefuses ResetIgnored P (λ told _. acked good told) (λ _ e. absurd (cc)))
    (λ _. cond_both (has syn v.flags && has ack v.flags) PeerAccepts OpensNothing P (λ told _.
    acked good (and_parts (has syn v.flags) (has ack v.flags) told).1)
    (λ _ e. absurd (cc)))))
    (λ no. absurd (cc)))))

-- and in SYN-RECEIVED, unless it is a reset
ack-answers : (s : State) (v : Content) (good refused : Judgement) → is_syn_received s.phase ≡ true → lets_in refused ≡ false
    → lets_in (ack_judgement s v good refused) ≡ true → acks_syn s v ≡ true
unfolding ack_judgement
ack-answers s v good refused received out =
    rw received (cond_both (acks_syn s v) good refused (λ j. lets_in j ≡ true → acks_syn s v ≡ true) (λ e _. e) (λ _ e. absurd (let no = sym out ∙ e in cc)))

received-answers : (s : State) (src dst : List ℕ) (v : Content) → is_syn_received s.phase ≡ true → has rst v.flags ≡ false → is_let_in s src dst v ≡ true
    → acks_syn s v ≡ true
unfolding judgement_after_syn acceptable_judgement unacceptable_judgement
received-answers s src dst v received plain =
    let Q = acks_syn s v ≡ true in
    let P : Judgement → Type 0 = λ j. lets_in j ≡ true → Q in
    let here : TestsNumbers s = record { closed = grind (arith, received); listening = grind (arith, received); syn_sent = grind (arith, received) } in
    let resets = if v.seq == s.receiving.rcv_nxt then PeerResets else ResetElsewhere in
    let acked = ack_judgement s v Taken HandshakeRefused in
    let others = if has syn v.flags then SynInWindow else (if not (has ack v.flags) then NoAck else acked) in
    let shut = ack_judgement s v TakenShut HandshakeRefusedShut in
    let allowed = if is_allowed_shut s v then shut else Unacceptable in
    through-after_syn s src dst v here Q
    (cond_both (is_acceptable_segment s v) (acceptable_judgement s v) (unacceptable_judgement s v) P
    (λ _. cond_both (has rst v.flags) resets others P (λ reset. absurd (cc))
    (λ _. cond_both (has syn v.flags) SynInWindow (if not (has ack v.flags) then NoAck else acked) P (λ _ e. absurd (cc))
    (λ _. cond_both (not (has ack v.flags)) NoAck acked P (λ _ e. absurd (cc)) (λ _. ack-answers s v Taken HandshakeRefused received refl))))
    (λ _. cond_both (has rst v.flags) ResetIgnored allowed P (λ reset. absurd (cc))
    (λ _. cond_both (is_allowed_shut s v) shut Unacceptable P (λ _. ack-answers s v TakenShut HandshakeRefusedShut received refl) (λ _ e. absurd (cc)))))

waits-answers : (s : State) (src dst : List ℕ) (v : Content) → WaitsForItsSyn s v → is_let_in s src dst v ≡ true → acks_syn s v ≡ true
waits-answers s src dst v (inl sent) e = answers-syn s src dst v sent e
waits-answers s src dst v (inr received) e = received-answers s src dst v received.0 received.1 e

syn-number : (isn n : ℕ) → isn < 2 ^ 32 → n < 2 ^ 32 → position_of isn 0 n ≡ 1 → distance (number isn 0) n ≡ 1
syn-number isn n fits small e =
    ⊎_elim (λ close. omega (arith, position_of_ahead isn 0 n fits small close, e)) (λ far. omega (arith, position_of_behind isn 0 n fits small far, e))
    (cases_lt (distance (number isn 0) n) (2 ^ 31))

pub one-answers : OneNumberAnswers
one-answers s src dst v waits fits snd_una snd_nxt =
    let isn = s.config.isn.0 in
    let b = (2 ^ 32 - isn + 2 ^ 32 - 1) % 2 ^ 32 in
    let within = count-within (2 ^ 32) (λ n. is_let_in s src dst (with_ack v n)) (λ n. nat_lt ((n + b) % 2 ^ 32) 1)
    (λ n less e.
    let is : position_of isn s.sending.snd_una n ≡ s.sending.snd_nxt = eqb-true (position_near s n) s.sending.snd_nxt (waits-answers s src dst (with_ack v n) waits e) in
    let same : position_of isn 0 n ≡ 1 = ap (λ u. position_of isn u n) (sym snd_una) ∙ is ∙ snd_nxt in
    lt-ltb ((n + b) % 2 ^ 32) 1 (omega (arith, syn-number isn n fits less same, less, fits))) in
    let counted = count-ahead b 1 (omega arith) (omega arith) in
    omega (arith, within, counted)
