-- A segment of an end goes out: where it ends what is in flight ends, unless more was. What takes no number begins at SND.NXT at most
-- (RFC 9293, 3.4 and 3.8).
use Rattle.std.proofs.Common.{◌≡◌, ℕ, zero, suc, ◌+◌, ◌-◌, ◌<◌, ◌≤◌, Bool, true, false, List, [], ◌∷◌, Option, Some, None, arith, refl}
use Rattle.std.specs.Prelude.{◌&&◌, ◌||◌, ◌==◌, nat_lt, if◌then◌else◌, min, max, drop, length, slice_get, nat_le, IfSome, is_some, option_map}
use Rattle.std.specs.Option.{option_or}
use Rattle.std.specs.declared.ops.Range.{Range}
use Rattle.std.proofs.lemmas.Bool.Decides.{nat_tests}
use Rattle.tcp_sendq.proofs.Places.{count_leading_then}
use Rattle.tcp_sendq.specs.SendQueue.{count_leading, first_unmarked, next_unmarked}
use Rattle.tcp_halves.specs.declared.sent.Sent.{Sent}
use Rattle.tcp_halves.specs.declared.sent.Sent.TheVariants.{Resend, NewText, Fin, ResentFin}
use Rattle.tcp_halves.specs.Sender.{Sending, end_of_text, place_of, position_at}
use Rattle.tcp_halves.specs.Sent.{fin_of, new_count, new_text_of, resend_of, resend_start, resent_fin, resent_run, resent_text, sending_due}
use Rattle.tcp_halves.specs.Sent as half
use Rattle.tcp_conn.specs.declared.emit.due.Due.{Due}
use Rattle.tcp_conn.specs.declared.emit.due.Due.TheVariants.{Syn, Text, Acknowledgement}
use Rattle.tcp_halves.specs.declared.link.WaitingReset.{WaitingReset}
use Rattle.tcp_conn.proofs.Segments.{report_options_short}
use Rattle.tcp_conn.specs.Blocks.{blocks_to_report, sack_length}
use Rattle.tcp_conn.specs.Due.{ack_alone, ack_due, due_of, end_of, mss_in_use, reset_due, sent_due, start_of, syn_due, text_due, text_limit}
use Rattle.tcp_conn.specs.Emission.{after_ack_alone, after_due, after_emission}
use Rattle.tcp_conn.specs.Phase.{sends_text}
use Rattle.tcp_conn.specs.State.{State}
use Rattle.tcp_conn.specs.Transmission.{transmit_due, transmit_of}
use Rattle.tcp_end.specs.Wired.{sent_by}
use Rattle.tcp_flow.proofs.Quiet.{IsWide, Quiet, no_more, same, span}
use Rattle.tcp_flow.specs.InFlight.{flight_with}

-- ---- WHAT IS DUE GOES OUT
ends-there : (una nxt start end : ℕ) → max nxt end - una ≤ max (nxt - una) (start + (end - start) - una)
ends-there una nxt start end = omega arith

out-by : (s : State) (due : Option Due) → IsWide s
    → IsWide (after_due s due) × (span (after_due s due).sending ≤ flight_with s.sending.snd_una (span s.sending) (option_map sent_by (option_map (transmit_of s) due)))
out-by s None a = (a, no_more (span s.sending))
out-by s (Some due) a = (a, ends-there s.sending.snd_una s.sending.snd_nxt (start_of s.sending due) (end_of s.sending due))

pub goes_out : (s : State) → IsWide s
    → IsWide (after_emission s) × (span (after_emission s).sending ≤ flight_with s.sending.snd_una (span s.sending) (option_map sent_by (transmit_due s)))
unfolding after_emission transmit_due
goes_out s a = out-by s (due_of s) a

-- the acknowledgement alone
at-next : (nxt una : ℕ) → max nxt nxt - una ≤ nxt - una
at-next nxt una = omega arith

ack-by : (s : State) (ack : Bool) → Quiet s (after_due s (if ack then Some Acknowledgement else None))
ack-by s true = record { sized = λ a. a; fewer = at-next s.sending.snd_nxt s.sending.snd_una }
ack-by s false = same s

alone-by : (s : State) (first : Bool) → Quiet s (after_due s (if first then None else ack_due s.pending))
alone-by s true = same s
alone-by s false = ack-by s s.pending.ack

pub alone_quiet : (s : State) → Quiet s (after_ack_alone s)
unfolding after_ack_alone ack_alone
alone_quiet s = alone-by s (is_some s.pending.reset || s.pending.syn)

-- ---- WHAT TAKES NO NUMBER
if-or : {A : Type 0} (P : A → Type 0) (a b : Option A) → IfSome a P → IfSome b P → IfSome (option_or a b) P
if-or P None b p q = q
if-or P (Some x) b p q = p

if-mapped : {A B : Type 0} (P : B → Type 0) (f : A → B) (o : Option A) → IfSome o (λ x. P (f x)) → IfSome (option_map f o) P
if-mapped P f None p = p
if-mapped P f (Some x) p = p

if-chosen : {A : Type 0} (P : A → Type 0) (b : Bool) (o : Option A) → IfSome o P → IfSome (if b then o else None) P
if-chosen P true o p = p
if-chosen P false o p = tt

-- text again takes a number: an unmarked byte is there, and a full segment has room for it
leads : (marks : List Bool) (from : ℕ) → slice_get marks from ≡ Some false → 0 < count_leading false (drop from marks)
leads [] from e = absurd (cc)
leads (true ∷ marks) zero e = absurd (cc)
leads (false ∷ marks) zero e = omega arith
leads (mark ∷ marks) (suc from) e = leads marks from e

room : (mss options : ℕ) → 64 ≤ mss → options ≤ 36 → 0 < mss - options
room mss options wide short = omega (arith, wide, short)

has-room : (s : State) → IsWide s → 0 < text_limit s
has-room s a = room (mss_in_use s) (sack_length (blocks_to_report s)) (omega (arith, a.0, a.1)) (report_options_short s)

abbrev TakesOne : Sent → Type 0
TakesOne sent = half.start_of sent < half.end_of sent

takes-some : (start limit run left : ℕ) → 0 < limit → 0 < run → 0 < left → start < start + min limit (min run left)
takes-some start limit run left l r e = omega (arith, l, r, e)

again-by : (s : Sending) (limit end : ℕ) (run : ℕ × ℕ) (inside : Bool) → nat_lt (position_at s run.0) end ≡ inside → 0 < limit → run.0 < run.1
    → IfSome (if inside then Some (Resend (position_at s run.0) (min limit (min (run.1 - run.0) (end - position_at s run.0)))) else None) TakesOne
again-by s limit end run true e wide some =
    let before : position_at s run.0 < end = grind (arith, nat_tests, e) in
    takes-some (position_at s run.0) limit (run.1 - run.0) (end - position_at s run.0) wide (omega (arith, some)) (omega (arith, before))
again-by s limit end run false e wide some = tt

one-more : (n : ℕ) → n < n + 1
one-more n = omega arith

fin-by : (s : Sending) (b : Bool) → IfSome (if b then Some (ResentFin (end_of_text s)) else None) TakesOne
fin-by s true = one-more (end_of_text s)
fin-by s false = tt

run-by : (s : Sending) (limit : ℕ) (range : Range ℕ) (from : ℕ) (inside : Bool) → nat_lt from (length s.queue.marks) ≡ inside
    → (from < length s.queue.marks → 0 < count_leading false (drop from s.queue.marks)) → 0 < limit
    → IfSome (resent_run s limit range (if inside then Some (from, from + count_leading false (drop from s.queue.marks)) else None)) TakesOne
run-by s limit range from true e leads wide =
    let on : from < length s.queue.marks = grind (arith, nat_tests, e) in
    let run : ℕ × ℕ = (from, from + count_leading false (drop from s.queue.marks)) in
    again-by s limit range.end run (nat_lt (position_at s run.0) range.end) refl wide (omega (arith, leads on))
run-by s limit range from false e leads wide =
    fin-by s (nat_lt (end_of_text s) range.end && nat_le (resend_start s range) (end_of_text s))

again : (s : Sending) (limit : ℕ) (range : Option (Range ℕ)) → 0 < limit → IfSome (resend_of s limit range) TakesOne
unfolding resend_of next_unmarked
again s limit None wide = tt
again s limit (Some range) wide =
    let at = place_of s (resend_start s range) in
    run-by s limit range (first_unmarked s.queue at) (nat_lt (first_unmarked s.queue at) (length s.queue.marks)) refl
    (λ on. leads s.queue.marks (first_unmarked s.queue at) (count_leading_then true s.queue.marks at on)) wide

-- new text does, and a FIN
some-by : (start count : ℕ) (none : Bool) → (count == 0) ≡ none → IfSome (if none then None else Some (NewText start count)) TakesOne
some-by start count true e = tt
some-by start count false e = let some : 0 < count = grind (arith, nat_tests, e) in omega (arith, some)

new : (s : Sending) (limit : ℕ) (probe : Bool) → IfSome (new_text_of s limit probe) TakesOne
unfolding new_text_of
new s limit probe = some-by s.snd_nxt (new_count s limit probe) (new_count s limit probe == 0) refl

closing-by : (start : ℕ) (b : Bool) → IfSome (if b then Some (Fin start) else None) TakesOne
closing-by start true = one-more start
closing-by start false = tt

half-takes : (s : Sending) (limit : ℕ) (probe closing : Bool) → 0 < limit → IfSome (sending_due s limit probe closing) TakesOne
half-takes s limit probe closing wide =
    if-or TakesOne (resend_of s limit s.resend) (option_or (new_text_of s limit probe) (fin_of s closing)) (again s limit s.resend wide)
    (if-or TakesOne (new_text_of s limit probe) (fin_of s closing) (new s limit probe) (closing-by s.snd_nxt (closing && (s.snd_nxt == end_of_text s))))

-- so what takes none is a reset, or an acknowledgement, which begins at SND.NXT
abbrev Bare : State → Due → Type 0
Bare s due = end_of s.sending due - start_of s.sending due ≡ 0 → start_of s.sending due ≤ s.sending.snd_una + span s.sending

takes-none : (start end most : ℕ) → start < end → end - start ≡ 0 → start ≤ most
takes-none start end most some e = absurd (omega (arith, some, e))

text-bare : (s : State) (sent : Option Sent) → IfSome sent TakesOne → IfSome (option_map Text sent) (Bare s)
text-bare s None t = tt
text-bare s (Some sent) t = λ e. takes-none (half.start_of sent) (half.end_of sent) (s.sending.snd_una + span s.sending) t e

reset-bare : (s : State) (reset : Option WaitingReset) → IfSome (reset_due reset) (Bare s)
reset-bare s None = tt
reset-bare s (Some reset) = λ e. omega arith

syn-bare : (s : State) (syn : Bool) → IfSome (if syn then Some Syn else None) (Bare s)
syn-bare s true = λ e. takes-none 0 1 (s.sending.snd_una + span s.sending) (omega arith) e
syn-bare s false = tt

at-nxt : (una nxt : ℕ) → nxt ≤ una + (nxt - una)
at-nxt una nxt = omega arith

ack-bare : (s : State) (ack : Bool) → IfSome (if ack then Some Acknowledgement else None) (Bare s)
ack-bare s true = λ e. at-nxt s.sending.snd_una s.sending.snd_nxt
ack-bare s false = tt

due-bare : (s : State) → IsWide s → IfSome (due_of s) (Bare s)
unfolding due_of
due-bare s a =
    let text = if-chosen TakesOne (sends_text s.phase) (sending_due s.sending (text_limit s) s.pending.probe s.closing)
    (half-takes s.sending (text_limit s) s.pending.probe s.closing (has-room s a)) in
    if-or (Bare s) (reset_due s.pending.reset) _ (reset-bare s s.pending.reset)
    (if-or (Bare s) (syn_due s.pending) _ (syn-bare s s.pending.syn)
    (if-or (Bare s) (text_due s) (ack_due s.pending) (text-bare s (sent_due s) text) (ack-bare s s.pending.ack)))

pub bare : (s : State) → IsWide s
    → IfSome (option_map sent_by (transmit_due s)) (λ sent. sent.count ≡ 0 → sent.start ≤ s.sending.snd_una + span s.sending)
unfolding transmit_due
bare s a = if-mapped (λ sent. sent.count ≡ 0 → sent.start ≤ s.sending.snd_una + span s.sending) sent_by (option_map (transmit_of s) (due_of s))
    (if-mapped (λ t. (sent_by t).count ≡ 0 → (sent_by t).start ≤ s.sending.snd_una + span s.sending) (transmit_of s) (due_of s) (due-bare s a))
