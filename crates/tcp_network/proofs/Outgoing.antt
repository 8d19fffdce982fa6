-- A segment of an end goes out: where it ends, less what blocks report, what is in the network ends, unless more was there (RFC 9293, 3.4
-- and 3.8; RFC 6675, 4).
use Rattle.std.proofs.Common.{◌≡◌, ℕ, ◌+◌, ◌-◌, ◌<◌, ◌≤◌, Bool, true, false, arith, refl}
use Rattle.std.specs.Prelude.{not, ◌&&◌, ◌||◌, ◌==◌, nat_lt, nat_le, if◌then◌else◌, min, max, length, Option, Some, None, IfSome, is_some, option_map}
use Rattle.std.specs.Option.{option_or}
use Rattle.std.specs.declared.ops.Range.{Range}
use Rattle.std.proofs.lemmas.Bool.Decides.{nat_tests}
use Rattle.tcp_sendq.specs.SendQueue.{count_marked, next_unmarked}
use Rattle.tcp_halves.specs.declared.link.WaitingReset.{WaitingReset}
use Rattle.tcp_halves.specs.declared.sent.Sent.{Sent}
use Rattle.tcp_halves.specs.declared.sent.Sent.TheVariants.{Resend, NewText, Fin, ResentFin}
use Rattle.tcp_halves.specs.Sender.{Sending, end_of_text, place_of, position_at}
use Rattle.tcp_halves.specs.Sent.{fin_of, new_count, new_text_of, range_after, resend_of, resend_start, resent_run, sending_due}
use Rattle.tcp_halves.specs.Sent as half
use Rattle.tcp_conn.specs.declared.emit.due.Due.{Due}
use Rattle.tcp_conn.specs.declared.emit.due.Due.TheVariants.{Reset, Syn, Text, Acknowledgement}
use Rattle.tcp_conn.specs.declared.phase.Phase.{Phase}
use Rattle.tcp_conn.specs.declared.phase.Phase.TheVariants.{Closed, Listen, SynSent, SynReceived, Established, FinWait1, FinWait2, CloseWait, Closing, LastAck, TimeWait}
use Rattle.tcp_conn.specs.Due.{ack_alone, ack_due, due_of, end_of, reset_due, start_of, syn_due, text_due, text_limit}
use Rattle.tcp_conn.specs.Emission.{after_ack_alone, after_due, after_emission, resend_after}
use Rattle.tcp_conn.specs.Phase.{is_closed, is_handshake, sends_text}
use Rattle.tcp_conn.specs.State.{State}
use Rattle.tcp_conn.specs.Transmission.{transmit_due, transmit_of}
use Rattle.tcp_end.specs.Wired.{sent_by}
use Rattle.tcp_network.proofs.Moves.{Ordered, left_in}
use Rattle.tcp_network.proofs.Steps.{no_more}
use Rattle.tcp_network.specs.Network.{network_with}
use Rattle.tcp_network.specs.NetworkOfEnds.{IsOpen, is_unclosed}

-- ---- WHAT IS DUE lies before the end of text, before a close
if-or : {A : Type 0} (P : A → Type 0) (a b : Option A) → IfSome a P → IfSome b P → IfSome (option_or a b) P
if-or P None b p q = q
if-or P (Some x) b p q = p

abbrev Before : Sending → Bool → Sent → Type 0
Before d closing sent = closing ≡ false → IsOpen d → half.end_of sent ≤ end_of_text d

-- text again, and the FIN
again-by : (d : Sending) (closing : Bool) (limit most : ℕ) (run : ℕ × ℕ) (inside : Bool) → nat_lt (position_at d run.0) most ≡ inside
    → (IsOpen d → most ≤ end_of_text d)
    → IfSome (if inside then Some (Resend (position_at d run.0) (min limit (min (run.1 - run.0) (most - position_at d run.0)))) else None) (Before d closing)
again-by d closing limit most run true e fits =
    let before : position_at d run.0 < most = grind (arith, nat_tests, e) in
    λ f o. reaches (position_at d run.0) limit (run.1 - run.0) most (end_of_text d) before (fits o) where
      reaches : (start limit run most text : ℕ) → start < most → most ≤ text → start + min limit (min run (most - start)) ≤ text
      reaches start limit run most text b f = omega (arith, b, f)
again-by d closing limit most run false e fits = tt

fin-again : (d : Sending) (closing : Bool) (most : ℕ) (past rest : Bool) → nat_lt (end_of_text d) most ≡ past
    → (IsOpen d → most ≤ end_of_text d)
    → IfSome (if past && rest then Some (ResentFin (end_of_text d)) else None) (Before d closing)
fin-again d closing most true true e fits =
    let after : end_of_text d < most = grind (arith, nat_tests, e) in
    λ f o. let never : most ≤ end_of_text d = fits o in absurd (omega (arith, after, never))
fin-again d closing most true false e fits = tt
fin-again d closing most false rest e fits = tt

run-by : (d : Sending) (closing : Bool) (limit : ℕ) (range : Range ℕ) (run : Option (ℕ × ℕ)) → (IsOpen d → range.end ≤ end_of_text d)
    → IfSome (resent_run d limit range run) (Before d closing)
run-by d closing limit range None fits = fin-again d closing range.end (nat_lt (end_of_text d) range.end) (nat_le (resend_start d range) (end_of_text d)) refl fits
run-by d closing limit range (Some run) fits = again-by d closing limit range.end run (nat_lt (position_at d run.0) range.end) refl fits

again : (d : Sending) (closing : Bool) (limit : ℕ) (range : Option (Range ℕ)) → (IsOpen d → IfSome range (λ r. r.end ≤ end_of_text d))
    → IfSome (resend_of d limit range) (Before d closing)
unfolding resend_of
again d closing limit None fits = tt
again d closing limit (Some range) fits = run-by d closing limit range (next_unmarked d.queue (place_of d (resend_start d range))) fits

-- new text, and the FIN, which waits for a close
reaches-new : (nxt behind queued limit allowed : ℕ) → nxt ≤ 1 + (behind + queued)
    → nxt + min limit (min (queued - (nxt - (1 + behind))) allowed) ≤ 1 + (behind + queued)
reaches-new nxt behind queued limit allowed e = omega (arith, e)

new-by : (d : Sending) (closing : Bool) (count : ℕ) (none : Bool) → (IsOpen d → d.snd_nxt + count ≤ end_of_text d)
    → IfSome (if none then None else Some (NewText d.snd_nxt count)) (Before d closing)
new-by d closing count true fits = tt
new-by d closing count false fits = λ f o. fits o

new : (d : Sending) (closing : Bool) (limit : ℕ) (probe : Bool) → IfSome (new_text_of d limit probe) (Before d closing)
unfolding new_text_of
new d closing limit probe =
    new-by d closing (new_count d limit probe) (new_count d limit probe == 0)
    (λ o. reaches-new d.snd_nxt d.released (length d.queue.bytes) limit (half.count_allowed d probe) o.nxt)

fin-by : (d : Sending) (closing at_end : Bool) → IfSome (if closing && at_end then Some (Fin d.snd_nxt) else None) (Before d closing)
fin-by d true true = λ f o. absurd (cc)
fin-by d true false = tt
fin-by d false at_end = tt

half-before : (d : Sending) (limit : ℕ) (probe closing : Bool) → IfSome (sending_due d limit probe closing) (Before d closing)
half-before d limit probe closing =
    if-or (Before d closing) (resend_of d limit d.resend) (option_or (new_text_of d limit probe) (fin_of d closing)) (again d closing limit d.resend (λ o. o.range))
    (if-or (Before d closing) (new_text_of d limit probe) (fin_of d closing) (new d closing limit probe) (fin-by d closing (d.snd_nxt == end_of_text d)))

-- ---- SO IS ALL THAT IS DUE, and in the handshake nothing is but the SYN
record Fits (s : State) (due : Due) : Type 0 where
  syn : is_handshake s.phase ≡ true → end_of s.sending due ≤ max s.sending.snd_nxt (1 + s.sending.released)
  text : is_unclosed s ≡ true → end_of s.sending due ≤ max s.sending.snd_nxt (end_of_text s.sending)

no-handshake : (phase : Phase) → sends_text phase ≡ true → is_handshake phase ≡ true → false ≡ true
no-handshake Closed e f = e
no-handshake Listen e f = e
no-handshake SynSent e f = e
no-handshake SynReceived e f = e
no-handshake Established e f = f
no-handshake FinWait1 e f = f
no-handshake FinWait2 e f = e
no-handshake CloseWait e f = f
no-handshake Closing e f = f
no-handshake LastAck e f = f
no-handshake TimeWait e f = e

open-by : (closing closed : Bool) → (not closing && closed) ≡ true → closing ≡ false
open-by true closed e = absurd (cc)
open-by false closed e = refl

text-by : (s : State) (sent : Option Sent) → Ordered s → sends_text s.phase ≡ true → IfSome sent (Before s.sending s.closing)
    → IfSome (option_map Text sent) (Fits s)
text-by s None p e b = tt
text-by s (Some sent) p e b = record {
  syn = λ f. let never = no-handshake s.phase e f in absurd (cc);
  text = λ u. let fits = b (open-by s.closing (not (is_closed s.phase)) u) (p.text u) in omega (arith, fits);
}

text-if : (s : State) (b : Bool) → sends_text s.phase ≡ b → Ordered s
    → IfSome (option_map Text (if b then sending_due s.sending (text_limit s) s.pending.probe s.closing else None)) (Fits s)
text-if s true e p = text-by s (sending_due s.sending (text_limit s) s.pending.probe s.closing) p e (half-before s.sending (text_limit s) s.pending.probe s.closing)
text-if s false e p = tt

reset-fits : (s : State) (reset : Option WaitingReset) → IfSome (reset_due reset) (Fits s)
reset-fits s None = tt
reset-fits s (Some reset) = record { syn = λ f. omega arith; text = λ u. omega arith }

syn-fits : (s : State) (syn : Bool) → IfSome (if syn then Some Syn else None) (Fits s)
syn-fits s true = record { syn = λ f. omega arith; text = λ u. omega arith }
syn-fits s false = tt

ack-fits : (s : State) (ack : Bool) → IfSome (if ack then Some Acknowledgement else None) (Fits s)
ack-fits s true = record { syn = λ f. omega arith; text = λ u. omega arith }
ack-fits s false = tt

due-fits : (s : State) → Ordered s → IfSome (due_of s) (Fits s)
unfolding due_of
due-fits s p =
    if-or (Fits s) (reset_due s.pending.reset) _ (reset-fits s s.pending.reset)
    (if-or (Fits s) (syn_due s.pending) _ (syn-fits s s.pending.syn)
    (if-or (Fits s) (text_due s) (ack_due s.pending) (text-if s (sends_text s.phase) refl p) (ack-fits s s.pending.ack)))

alone-by : (s : State) (first : Bool) → IfSome (if first then None else ack_due s.pending) (Fits s)
alone-by s true = tt
alone-by s false = ack-fits s s.pending.ack

alone-fits : (s : State) → IfSome (ack_alone s) (Fits s)
unfolding ack_alone
alone-fits s = alone-by s (is_some s.pending.reset || s.pending.syn)

-- ---- IT GOES OUT
range-after : (start most : ℕ) (range : Option (Range ℕ)) → IfSome range (λ r. r.end ≤ most)
    → IfSome (range_after start range) (λ r. r.end ≤ most)
range-after start most None e = tt
range-after start most (Some range) e = e

due-range : (d : Sending) (due : Due) (most : ℕ) → IfSome d.resend (λ r. r.end ≤ most) → IfSome (resend_after d due) (λ r. r.end ≤ most)
due-range d Reset most e = e
due-range d Syn most e = e
due-range d Acknowledgement most e = e
due-range d (Text (Resend start count)) most e = range-after (start + count) most d.resend e
due-range d (Text (NewText start count)) most e = e
due-range d (Text (Fin start)) most e = e
due-range d (Text (ResentFin start)) most e = range-after (start + 1) most d.resend e

order-by : (s : State) (due : Option Due) → IfSome due (Fits s) → Ordered s → Ordered (after_due s due)
order-by s None fits p = p
order-by s (Some due) fits p = record {
  flags = p.flags;
  una = p.una;
  syn = λ e. omega (arith, p.syn e, fits.syn e);
  text = λ u. let q = p.text u in record { una = q.una; nxt = omega (arith, q.nxt, fits.text u); range = due-range s.sending due (end_of_text s.sending) q.range };
}

pub emission_order : (s : State) → Ordered s → Ordered (after_emission s)
unfolding after_emission
emission_order s p = order-by s (due_of s) (due-fits s p) p

reported-by : (s : State) (due : Option Due) → count_marked (after_due s due).sending.queue.marks ≡ count_marked s.sending.queue.marks
reported-by s None = refl
reported-by s (Some due) = refl

pub emission_reported : (s : State) → count_marked (after_emission s).sending.queue.marks ≡ count_marked s.sending.queue.marks
unfolding after_emission
emission_reported s = reported-by s (due_of s)

-- and where it ends, less what blocks report, what is in the network ends
ends-by : (una nxt marked start end : ℕ) (none : Bool) → (end - start == 0) ≡ none → (end - start ≡ 0 → start ≤ una + (nxt - una))
    → max nxt end - una - marked ≤ (if none then nxt - una - marked else max (nxt - una - marked) (start + (end - start) - una - marked))
ends-by una nxt marked start end true e bare =
    let zero : end - start ≡ 0 = grind (arith, nat_tests, e) in
    omega (arith, zero, bare zero)
ends-by una nxt marked start end false e bare = omega arith

network-by : (sends : Bool) (una nxt marked start end : ℕ) → (end - start ≡ 0 → start ≤ una + (nxt - una))
    → (if sends then max nxt end - una - marked else 0)
    ≤ (if end - start == 0 then (if sends then nxt - una - marked else 0) else max (if sends then nxt - una - marked else 0) (start + (end - start) - una - marked))
network-by true una nxt marked start end bare = ends-by una nxt marked start end (end - start == 0) refl bare
network-by false una nxt marked start end bare = omega arith

out-by : (s : State) (due : Option Due)
    → IfSome (option_map sent_by (option_map (transmit_of s) due)) (λ sent. sent.count ≡ 0 → sent.start ≤ s.sending.snd_una + (s.sending.snd_nxt - s.sending.snd_una))
    → left_in (after_due s due).phase (after_due s due).sending
    ≤ network_with s.sending.snd_una (count_marked s.sending.queue.marks) (left_in s.phase s.sending) (option_map sent_by (option_map (transmit_of s) due))
out-by s None bare = no_more (left_in s.phase s.sending)
out-by s (Some due) bare =
    network-by (sends_text s.phase) s.sending.snd_una s.sending.snd_nxt (count_marked s.sending.queue.marks) (start_of s.sending due) (end_of s.sending due) bare

pub emission_network : (s : State)
    → IfSome (option_map sent_by (transmit_due s)) (λ sent. sent.count ≡ 0 → sent.start ≤ s.sending.snd_una + (s.sending.snd_nxt - s.sending.snd_una))
    → left_in (after_emission s).phase (after_emission s).sending
    ≤ network_with s.sending.snd_una (count_marked s.sending.queue.marks) (left_in s.phase s.sending) (option_map sent_by (transmit_due s))
unfolding after_emission transmit_due
emission_network s bare = out-by s (due_of s) bare

-- ---- THE ACKNOWLEDGEMENT ALONE
pub alone_order : (s : State) → Ordered s → Ordered (after_ack_alone s)
unfolding after_ack_alone
alone_order s p = order-by s (ack_alone s) (alone-fits s) p

pub alone_reported : (s : State) → count_marked (after_ack_alone s).sending.queue.marks ≡ count_marked s.sending.queue.marks
unfolding after_ack_alone
alone_reported s = reported-by s (ack_alone s)

at-next : (sends : Bool) (una nxt marked : ℕ)
    → (if sends then max nxt nxt - una - marked else 0) ≤ (if sends then nxt - una - marked else 0)
at-next true una nxt marked = omega arith
at-next false una nxt marked = omega arith

abbrev left-of : State → ℕ
left-of s = left_in s.phase s.sending

ack-left : (s : State) (ack : Bool) → left-of (after_due s (if ack then Some Acknowledgement else None)) ≤ left-of s
ack-left s true = at-next (sends_text s.phase) s.sending.snd_una s.sending.snd_nxt (count_marked s.sending.queue.marks)
ack-left s false = no_more (left-of s)

alone-left : (s : State) (first : Bool) → left-of (after_due s (if first then None else ack_due s.pending)) ≤ left-of s
alone-left s true = no_more (left-of s)
alone-left s false = ack-left s s.pending.ack

pub alone_network : (s : State) → left_in (after_ack_alone s).phase (after_ack_alone s).sending ≤ left_in s.phase s.sending
unfolding after_ack_alone ack_alone
alone_network s = alone-left s (is_some s.pending.reset || s.pending.syn)
