-- WHICH ACKNOWLEDGEMENTS let a segment in that comes to its acknowledgement, and which release text (RFC 9293, 3.10.7.4, fifth).
use Rattle.std.proofs.Common.{◌≡◌, ℕ, ◌+◌, ◌-◌, ◌%◌, ◌^◌, ◌<◌, Bool, true, false, not, ◌&&◌, nat_le, nat_lt, if◌then◌else◌, refl, sym, arith}
use Rattle.std.proofs.Common.{ap, List, ◌∙◌, inl, inr, ◌⊎◌}
use Rattle.std.proofs.lemmas.Bool.{and_parts, cases_Bool, cases_lt, le-leb, le-ltb, lt-ltb}
use Rattle.std.proofs.lemmas.Bool.Decides.{nat_tests}
use Rattle.tcp_wire.specs.Wire.{Content}
use Rattle.tcp_numbers.specs.Position.{distance, number}
use Rattle.tcp_numbers.proofs.Positions.{position_of_beyond, position_of_later}
use Rattle.tcp_reasm.specs.Reassembly.{window}
use Rattle.tcp_halves.specs.Sender.{acks_more, acks_unsent}
unfoldable use Rattle.tcp_halves.specs.Sender.{after_ack}
use Rattle.tcp_conn.specs.declared.arrive.judgement.Judgement.{Judgement}
use Rattle.tcp_conn.specs.declared.arrive.judgement.Judgement.TheVariants.{AcksUnsent, Taken, TakenShut}
use Rattle.tcp_conn.specs.Arrival.{after_judgement, after_window_and_blocks}
unfoldable use Rattle.tcp_conn.specs.Arrival.{after_acked_text, after_fin, after_its_ack, after_its_text, after_own_syn, after_taking, after_taking_shut}
use Rattle.tcp_conn.specs.Judgement.{is_acceptable_segment, position_near}
unfoldable use Rattle.tcp_conn.specs.Judgement.{acceptable_judgement, ack_judgement, is_foreign, judgement, judgement_after_syn, phase_judgement}
unfoldable use Rattle.tcp_conn.specs.Judgement.{unacceptable_judgement}
use Rattle.tcp_conn.specs.Phase.{is_syn_received}
use Rattle.tcp_conn.specs.State.{State}
use Rattle.tcp_replay.specs.Among.{is_let_in, lets_in}
use Rattle.tcp_progress.proofs.laws.NextTaken.{own_fin-keeps, window_and_blocks-keep}
use Rattle.tcp_strangers.specs.Guesses.{AnyNumberAtAShutWindow, ComesToItsAck, FlightIsReleased, HalfOfAcksLetIn, IsOpen, flight, is_released_by, with_ack}
use Rattle.tcp_strangers.specs.Guesses.{with_seq}
use Rattle.tcp_strangers.proofs.Counting.{count-ahead, count-all, count-same}

-- ---- WHAT IS JUDGED of it: by its acknowledgement alone
pub record IsJudged (s : State) (src dst : List ℕ) (v : Content) : Type 0 where
  pub good : Judgement
  pub is_good : (good ≡ Taken) ⊎ (good ≡ TakenShut)
  pub inside : good ≡ Taken → is_acceptable_segment s v ≡ true
  pub is : judgement s src dst v ≡ (if acks_unsent s.sending (position_near s v.ack) then AcksUnsent else good)

pub judged : (s : State) (src dst : List ℕ) (v : Content) → IsOpen s → ComesToItsAck s src dst v → IsJudged s src dst v
unfolding judgement phase_judgement judgement_after_syn acceptable_judgement unacceptable_judgement ack_judgement
judged s src dst v open_to h =
    let is = open_to.tests in
    elim (cases_Bool (is_acceptable_segment s v)) [
      | inl inside ↦ record {
        good = Taken;
        is_good = inl refl;
        inside = λ _. inside;
        is = rw (h.mine, is.closed, is.listening, is.syn_sent, inside, h.no_rst, h.no_syn, h.has_ack, open_to.opened) refl;
      }
      | inr outside ↦ elim h.place [
        | inl inside ↦ absurd (let no = sym outside ∙ inside in cc)
        | inr shut ↦ record {
          good = TakenShut;
          is_good = inr refl;
          inside = λ (e : TakenShut ≡ Taken). absurd (cc);
          is = rw (h.mine, is.closed, is.listening, is.syn_sent, outside, h.no_rst, h.no_syn, h.has_ack, open_to.opened, shut) refl;
        }
      ]
    ]

-- ---- WHAT LETS IT IN: an acknowledgement of what was sent
by-unsent : (unsent : Bool) (good : Judgement) → (good ≡ Taken) ⊎ (good ≡ TakenShut) → lets_in (if unsent then AcksUnsent else good) ≡ not unsent
by-unsent true good is = refl
by-unsent false good (inl taken) = ap lets_in taken
by-unsent false good (inr shut) = ap lets_in shut

let_in-is : (s : State) (src dst : List ℕ) (v : Content) → IsOpen s → ComesToItsAck s src dst v
    → is_let_in s src dst v ≡ not (acks_unsent s.sending (position_near s v.ack))
let_in-is s src dst v open_to h =
    let j = judged s src dst v open_to h in
    ap lets_in j.is ∙ by-unsent (acks_unsent s.sending (position_near s v.ack)) j.good j.is_good

-- the same segment with another number comes to it, too
pub acks-so : (s : State) (src dst : List ℕ) (v : Content) (n : ℕ) → ComesToItsAck s src dst v → ComesToItsAck s src dst (with_ack v n)
unfolding is_foreign
acks-so s src dst v n h = record { mine = h.mine; no_rst = h.no_rst; no_syn = h.no_syn; has_ack = h.has_ack; place = h.place }

pub shut-so : (s : State) (src dst : List ℕ) (v : Content) (n : ℕ) → ComesToItsAck s src dst v → window s.receiving.inbox ≡ 0
    → ComesToItsAck s src dst (with_seq v n)
unfolding is_foreign
shut-so s src dst v n h shut = record { mine = h.mine; no_rst = h.no_rst; no_syn = h.no_syn; has_ack = h.has_ack; place = inr shut }

-- ---- HOW FAR it lies ahead of SND.UNA says whether it is of what was sent, and of something new
half-test : (far f : ℕ) → far < 2 ^ 32 → f < 2 ^ 31 → not (nat_lt far (2 ^ 31) && nat_lt f far) ≡ nat_lt ((far + 2 ^ 31) % 2 ^ 32) (2 ^ 31 + f + 1)
half-test far f fits most =
    elim (cases_lt far (2 ^ 31)) [
      | inl close ↦ elim (cases_lt f far) [
        | inl beyond ↦
            let one : nat_lt far (2 ^ 31) ≡ true = lt-ltb far (2 ^ 31) close in
            let two : nat_lt f far ≡ true = lt-ltb f far beyond in
            let three : nat_lt ((far + 2 ^ 31) % 2 ^ 32) (2 ^ 31 + f + 1) ≡ false = le-ltb _ _ (omega (arith, close, beyond)) in
            rw (one, two, three) refl
        | inr within ↦
            let two : nat_lt f far ≡ false = le-ltb _ _ within in
            let three : nat_lt ((far + 2 ^ 31) % 2 ^ 32) (2 ^ 31 + f + 1) ≡ true = lt-ltb _ _ (omega (arith, close, within)) in
            let one : nat_lt far (2 ^ 31) ≡ true = lt-ltb far (2 ^ 31) close in
            rw (one, two, three) refl
      ]
      | inr behind ↦
          let one : nat_lt far (2 ^ 31) ≡ false = le-ltb _ _ behind in
          let three : nat_lt ((far + 2 ^ 31) % 2 ^ 32) (2 ^ 31 + f + 1) ≡ true = lt-ltb _ _ (omega (arith, behind, fits)) in
          rw (one, three) refl
    ]

flight-test : (far f : ℕ) → far < 2 ^ 32 → f < 2 ^ 31
    → ((nat_lt 0 far && nat_lt far (2 ^ 31)) && not (nat_lt far (2 ^ 31) && nat_lt f far)) ≡ nat_lt ((far + (2 ^ 32 - 1)) % 2 ^ 32) f
flight-test far f fits most =
    elim (cases_lt far (2 ^ 31)) [
      | inl close ↦
          let one : nat_lt far (2 ^ 31) ≡ true = lt-ltb far (2 ^ 31) close in
          elim (cases_lt 0 far) [
            | inl some ↦
                let two : nat_lt 0 far ≡ true = lt-ltb 0 far some in
                elim (cases_lt f far) [
                  | inl beyond ↦
                      let three : nat_lt f far ≡ true = lt-ltb f far beyond in
                      let four : nat_lt ((far + (2 ^ 32 - 1)) % 2 ^ 32) f ≡ false = le-ltb _ _ (omega (arith, some, fits, beyond)) in
                      rw (one, two, three, four) refl
                  | inr within ↦
                      let three : nat_lt f far ≡ false = le-ltb f far within in
                      let four : nat_lt ((far + (2 ^ 32 - 1)) % 2 ^ 32) f ≡ true = lt-ltb _ _ (omega (arith, some, fits, within)) in
                      rw (one, two, three, four) refl
                ]
            | inr none ↦
                let two : nat_lt 0 far ≡ false = le-ltb 0 far none in
                let four : nat_lt ((far + (2 ^ 32 - 1)) % 2 ^ 32) f ≡ false = le-ltb _ _ (omega (arith, none, most)) in
                rw (two, four) refl
          ]
      | inr behind ↦
          let one : nat_lt far (2 ^ 31) ≡ false = le-ltb far (2 ^ 31) behind in
          let four : nat_lt ((far + (2 ^ 32 - 1)) % 2 ^ 32) f ≡ false = le-ltb _ _ (omega (arith, behind, fits, most)) in
          elim (cases_Bool (nat_lt 0 far)) [ inl two ↦ rw (two, one, four) refl | inr two ↦ rw (two, four) refl ]
    ]

-- as a test of the number
pub turned : (n a by : ℕ) → a < 2 ^ 32 → ((n + (2 ^ 32 - a)) % 2 ^ 32 + by) % 2 ^ 32 ≡ (n + (2 ^ 32 - a + by) % 2 ^ 32) % 2 ^ 32
turned n a by fits = omega arith

abbrev pub una_number : State → ℕ
una_number s = number s.config.isn.0 s.sending.snd_una

-- ---- HALF OF ALL ACKNOWLEDGEMENTS let it in
half-at : (s : State) (n : ℕ) → IsOpen s → n < 2 ^ 32
    → not (acks_unsent s.sending (position_near s n)) ≡ nat_lt ((n + (2 ^ 32 - una_number s + 2 ^ 31) % 2 ^ 32) % 2 ^ 32) (2 ^ 31 + flight s + 1)
half-at s n h less =
    ap not (position_of_beyond s.config.isn.0 s.sending.snd_una s.sending.snd_nxt n h.isn less h.order)
    ∙ half-test (distance (una_number s) n) (flight s) (omega arith) h.most
    ∙ ap (λ m. nat_lt m (2 ^ 31 + flight s + 1)) (turned n (una_number s) (2 ^ 31) (omega arith))

pub half-lets_in : HalfOfAcksLetIn
half-lets_in s src dst v open_to h =
    let b = (2 ^ 32 - una_number s + 2 ^ 31) % 2 ^ 32 in
    let most = open_to.most in
    count-same (2 ^ 32) (λ n. is_let_in s src dst (with_ack v n)) (λ n. nat_lt ((n + b) % 2 ^ 32) (2 ^ 31 + flight s + 1))
    (λ n less. let_in-is s src dst (with_ack v n) open_to (acks-so s src dst v n h) ∙ half-at s n open_to less)
    ∙ count-ahead b (2 ^ 31 + flight s + 1) (omega arith) (omega (arith, most))

-- ---- WHAT IS RELEASED by it: an acknowledgement of something new
una-taken : (s : State) (v : Content) → is_syn_received s.phase ≡ false
    → (after_its_ack s v).sending.snd_una ≡ (after_ack s.sending (position_near s v.ack)).snd_una
unfolding after_its_ack after_acked_text after_own_syn
una-taken s v opened =
    let two = after_acked_text (after_own_syn s v) v in
    let three = after_window_and_blocks two v in
    (own_fin-keeps three).snd_una ∙ (window_and_blocks-keep two v).snd_una ∙ rw opened refl

-- SND.UNA after a judgement that lets it in
una-judged : (s : State) (src : List ℕ) (v : Content) (good : Judgement) → (good ≡ Taken) ⊎ (good ≡ TakenShut)
    → (after_judgement good s src v).sending.snd_una ≡ (after_its_ack s v).sending.snd_una
unfolding after_taking after_fin after_its_text after_taking_shut
una-judged s src v good (inl taken) = rw taken refl
una-judged s src v good (inr shut) = rw shut refl

less-self : (n : ℕ) → nat_lt n n ≡ false
less-self n = le-ltb n n (omega arith)

more-una : (s : State) (a : ℕ) (more : Bool) → acks_more s.sending a ≡ more → nat_lt s.sending.snd_una (after_ack s.sending a).snd_una ≡ more
unfolding after_ack
more-una s a true e = rw e (and_parts (nat_lt s.sending.snd_una a) (nat_le a s.sending.snd_nxt) e).0
more-una s a false e = rw e (less-self s.sending.snd_una)

unsent-more : (s : State) (a : ℕ) → acks_unsent s.sending a ≡ true → acks_more s.sending a ≡ false
unsent-more s a e =
    let no : nat_le a s.sending.snd_nxt ≡ false = grind (arith, nat_tests, e) in
    elim (cases_Bool (nat_lt s.sending.snd_una a)) [ inl new ↦ rw (new, no) refl | inr old ↦ rw old refl ]

by-released : (s : State) (src : List ℕ) (v : Content) (good : Judgement) (unsent : Bool) → acks_unsent s.sending (position_near s v.ack) ≡ unsent
    → is_syn_received s.phase ≡ false → (good ≡ Taken) ⊎ (good ≡ TakenShut)
    → nat_lt s.sending.snd_una (after_judgement (if unsent then AcksUnsent else good) s src v).sending.snd_una ≡ acks_more s.sending (position_near s v.ack)
by-released s src v good true e opened is = less-self s.sending.snd_una ∙ sym (unsent-more s (position_near s v.ack) e)
by-released s src v good false e opened is =
    ap (nat_lt s.sending.snd_una) (una-judged s src v good is ∙ una-taken s v opened) ∙ more-una s (position_near s v.ack) _ refl

released-is : (s : State) (src dst : List ℕ) (v : Content) → IsOpen s → ComesToItsAck s src dst v
    → is_released_by s src dst v ≡ acks_more s.sending (position_near s v.ack)
released-is s src dst v open_to h =
    let j = judged s src dst v open_to h in
    ap (λ (j : Judgement). nat_lt s.sending.snd_una (after_judgement j s src v).sending.snd_una) j.is
    ∙ by-released s src v j.good (acks_unsent s.sending (position_near s v.ack)) refl open_to.opened j.is_good

not-beyond : (a snd_nxt : ℕ) → nat_le a snd_nxt ≡ not (nat_lt snd_nxt a)
not-beyond a snd_nxt =
    elim (cases_lt snd_nxt a) [
      | inl beyond ↦
          let one : nat_lt snd_nxt a ≡ true = lt-ltb snd_nxt a beyond in
          let two : nat_le a snd_nxt ≡ false = grind (arith, nat_tests, beyond) in
          rw (one, two) refl
      | inr within ↦
          let one : nat_lt snd_nxt a ≡ false = le-ltb snd_nxt a within in
          let two : nat_le a snd_nxt ≡ true = le-leb a snd_nxt within in
          rw (one, two) refl
    ]

flight-at : (s : State) (n : ℕ) → IsOpen s → n < 2 ^ 32
    → acks_more s.sending (position_near s n) ≡ nat_lt ((n + (2 ^ 32 - una_number s + (2 ^ 32 - 1)) % 2 ^ 32) % 2 ^ 32) (flight s)
flight-at s n h less =
    let far = distance (una_number s) n in
    let new = position_of_later s.config.isn.0 s.sending.snd_una n h.isn less in
    let sent = not-beyond (position_near s n) s.sending.snd_nxt
    ∙ ap not (position_of_beyond s.config.isn.0 s.sending.snd_una s.sending.snd_nxt n h.isn less h.order) in
    ap (λ b. b && nat_le (position_near s n) s.sending.snd_nxt) new ∙ ap (λ b. (nat_lt 0 far && nat_lt far (2 ^ 31)) && b) sent
    ∙ flight-test far (flight s) (omega arith) h.most
    ∙ ap (λ m. nat_lt m (flight s)) (turned n (una_number s) (2 ^ 32 - 1) (omega arith))

pub flight-released : FlightIsReleased
flight-released s src dst v open_to h =
    let b = (2 ^ 32 - una_number s + (2 ^ 32 - 1)) % 2 ^ 32 in
    let most = open_to.most in
    count-same (2 ^ 32) (λ n. is_released_by s src dst (with_ack v n)) (λ n. nat_lt ((n + b) % 2 ^ 32) (flight s))
    (λ n less. released-is s src dst (with_ack v n) open_to (acks-so s src dst v n h) ∙ flight-at s n open_to less)
    ∙ count-ahead b (flight s) (omega arith) (omega (arith, most))

-- ---- AT A SHUT WINDOW each sequence number will do
pub any-number : AnyNumberAtAShutWindow
any-number s src dst v open_to h shut in_ =
    count-same (2 ^ 32) (λ n. is_let_in s src dst (with_seq v n)) (λ n. true)
    (λ n less. let_in-is s src dst (with_seq v n) open_to (shut-so s src dst v n h shut) ∙ sym (let_in-is s src dst v open_to h) ∙ in_)
    ∙ count-all (2 ^ 32)
