-- A BURST of injections: what is let in of it, were RCV.NXT any of the 2^32 numbers.
use Rattle.std.proofs.Common.{◌≡◌, ℕ, ◌+◌, ◌-◌, ◌%◌, ◌^◌, ◌≤◌, max, Bool, true, false, ◌||◌, nat_lt, refl}
use Rattle.std.proofs.Common.{sym, arith, ap, List, [], ◌∷◌, ◌∙◌, Option, Result, Ok, Err}
use Rattle.std.proofs.lemmas.Bool.{lt-ltb}
use Rattle.tcp_wire.specs.Checksum.{AreBytes}
use Rattle.tcp_wire.specs.Decoded.{decode_answer}
use Rattle.tcp_wire.specs.Wire.{Content, IsValid}
use Rattle.tcp_wire.proofs.RoundTrip.{decoded_valid}
use Rattle.tcp_wire.specs.declared.fault.DecodeError.{DecodeError}
use Rattle.tcp_reasm.specs.Reassembly.{window}
use Rattle.tcp_halves.specs.declared.link.WaitingReset.{WaitingReset}
use Rattle.tcp_conn.specs.Judgement.{count_numbers}
unfoldable use Rattle.tcp_conn.specs.Judgement.{judgement, phase_judgement, judgement_after_syn, acceptable_judgement, unacceptable_judgement, ack_judgement}
unfoldable use Rattle.tcp_conn.specs.Judgement.{is_foreign, closed_judgement, listen_judgement, syn_sent_judgement}
use Rattle.tcp_conn.specs.State.{State}
use Rattle.tcp_strangers.specs.Counts.{count_where}
use Rattle.tcp_replay.specs.Among.{after_injection, Injection, is_injection_let_in, is_let_in, is_reading_let_in, with_pending}
use Rattle.tcp_replay.proofs.run.Injections.{kept-out-pending}
use Rattle.tcp_strangers.specs.Guesses.{any_let_in, BurstsRarelyGetIn, HaveBytes, TestsNumbers, width, width_of_reading, widths, with_rcv_nxt}
use Rattle.tcp_strangers.proofs.Counting.{count-behind, count-either, count-none, count-within}
use Rattle.tcp_strangers.proofs.Sequences.{let_in-near}

-- any of them, each at the same end
abbrev each_let_in : State → List Injection → Bool
each_let_in s [] = false
each_let_in s (i ∷ rest) = is_injection_let_in s i || each_let_in s rest

-- what is pending counts for nothing
pending-reading : (s : State) (ack : Bool) (reset : Option WaitingReset) (src dst : List ℕ) (r : Result Content DecodeError)
    → is_reading_let_in (with_pending s ack reset) src dst r ≡ is_reading_let_in s src dst r
unfolding judgement phase_judgement judgement_after_syn acceptable_judgement unacceptable_judgement ack_judgement is_foreign closed_judgement
    listen_judgement syn_sent_judgement
pending-reading s ack reset src dst (Ok v) = refl
pending-reading s ack reset src dst (Err fault) = refl

pending-each : (s : State) (ack : Bool) (reset : Option WaitingReset) (burst : List Injection) → each_let_in (with_pending s ack reset) burst ≡ each_let_in s burst
pending-each s ack reset [] = refl
pending-each s ack reset (i ∷ rest) =
    let one = pending-reading s ack reset i.src i.dst (decode_answer i.src i.dst i.bytes) in
    ap (λ b. b || each_let_in (with_pending s ack reset) rest) one ∙ ap (λ b. is_injection_let_in s i || b) (pending-each s ack reset rest)

or-by : (a b c : Bool) → (a ≡ false → b ≡ c) → (a || b) ≡ (a || c)
or-by true b c h = refl
or-by false b c h = h refl

any-each : (s : State) (burst : List Injection) → any_let_in s burst ≡ each_let_in s burst
any-each s [] = refl
any-each s (i ∷ rest) =
    or-by (is_injection_let_in s i) (any_let_in (after_injection s i) rest) (each_let_in s rest)
    (λ e. let has_pending = kept-out-pending s i e in
    any-each (after_injection s i) rest ∙ ap (λ (x : State). each_let_in x rest) has_pending.same ∙ pending-each s has_pending.ack has_pending.reset rest)

short : (v : Content) → IsValid v → count_numbers v ≤ 2 ^ 16
short v valid = grind (arith, valid.most)

-- one of them, were RCV.NXT any number
one-rarely : (s : State) (src dst bytes : List ℕ) (r : Result Content DecodeError) → AreBytes bytes → decode_answer src dst bytes ≡ r → TestsNumbers s
    → 1 ≤ window s.receiving.inbox → window s.receiving.inbox ≤ 2 ^ 20
    → count_where (2 ^ 32) (λ n. is_reading_let_in (with_rcv_nxt s n) src dst r) ≤ width_of_reading s r
one-rarely s src dst bytes (Ok v) are e here some most =
    let b = (v.seq + (max 1 (count_numbers v) - 1)) % 2 ^ 32 in
    let within = count-within (2 ^ 32) (λ n. is_let_in (with_rcv_nxt s n) src dst v) (λ n. nat_lt ((b + (2 ^ 32 - n)) % 2 ^ 32) (width s v))
    (λ n less in_. lt-ltb ((b + (2 ^ 32 - n)) % 2 ^ 32) (width s v)
    (let_in-near (with_rcv_nxt s n) src dst v (record { closed = here.closed; listening = here.listening; syn_sent = here.syn_sent }) less some most
    (short v (decoded_valid src dst v bytes are e)) in_)) in
    omega (arith, within, count-behind b (width s v) (omega arith))
one-rarely s src dst bytes (Err fault) are e here some most = omega (arith, count-none (2 ^ 32))

each-rarely : (s : State) (burst : List Injection) → HaveBytes burst → TestsNumbers s → 1 ≤ window s.receiving.inbox → window s.receiving.inbox ≤ 2 ^ 20
    → count_where (2 ^ 32) (λ n. each_let_in (with_rcv_nxt s n) burst) ≤ widths s burst
each-rarely s [] are here some most = omega (arith, count-none (2 ^ 32))
each-rarely s (i ∷ rest) are here some most =
    let one = one-rarely s i.src i.dst i.bytes (decode_answer i.src i.dst i.bytes) are.0 refl here some most in
    let others = each-rarely s rest are.1 here some most in
    let either = count-either (2 ^ 32) (λ n. is_injection_let_in (with_rcv_nxt s n) i) (λ n. each_let_in (with_rcv_nxt s n) rest) in
    omega (arith, one, others, either)

pub bursts-rarely : BurstsRarelyGetIn
bursts-rarely s burst are here some most =
    let same = count-within (2 ^ 32) (λ n. any_let_in (with_rcv_nxt s n) burst) (λ n. each_let_in (with_rcv_nxt s n) burst)
    (λ n less e. sym (any-each (with_rcv_nxt s n) burst) ∙ e) in
    omega (arith, same, each-rarely s burst are here some most)
