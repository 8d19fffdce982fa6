-- The end inside, after each call of its driver, is what it is after the event.
use Rattle.std.proofs.Common.{◌≡◌, ℕ, Bool, true, false, if◌then◌else◌, List, ◌++◌, length, take, drop, min, Option, Some, None, option_map, option_to_list, refl, ap, sym, ◌∙◌, arith}
use Rattle.std.proofs.Common.{◌==◌, Ok}
use Rattle.std.proofs.lemmas.Bool.{cond_both, eqb-true}
use Rattle.std.proofs.lemmas.List.{length-take-le}
use Rattle.std.proofs.Math.Seq.{take-append_seam}
use Rattle.tcp_wire.proofs.RoundTrip.{length_encoded}
use Rattle.tcp_wire.specs.Wire.{wire_length}
use Rattle.tcp_driver.specs.Driver.{holds}
use Rattle.tcp_conn.specs.declared.emit.due.Due.{Due}
use Rattle.tcp_conn.specs.declared.outcome.CallError.{CallError}
use Rattle.tcp_conn.specs.declared.outcome.Received.{Received}
use Rattle.tcp_conn.specs.declared.outcome.Received.TheVariants.{Bytes, Nothing, EndOfStream}
use Rattle.tcp_conn.specs.Calls.{answer_unless, bytes_unless, receive_answer, receive_refusal, received_bytes}
use Rattle.tcp_conn.specs.Emission.{after_ack_alone, after_emission, buffer_after, buffer_after_ack_alone, buffer_with}
use Rattle.tcp_conn.specs.Due.{ack_alone, due_of}
use Rattle.tcp_conn.specs.Forms.{segment_of}
use Rattle.tcp_conn.specs.State.{State}
use Rattle.tcp_conn.specs.Transmission.{transmit_ack_alone, transmit_due, transmit_of}
use Rattle.tcp_conn.specs.Writing.{bytes_of, destination_of}
use Rattle.tcp_end.specs.Wired as wired
use Rattle.tcp_end.specs.Wired.{machine}
use Rattle.tcp_replay.specs.Emissions.{due_for}
use Rattle.tcp_replay.specs.World.{PartyState, party_after_receive, party_out, sent_by}
use Rattle.tcp_ends.specs.Pair.{Member, count_delivered, end_of, member_after_emission, member_after_receive, party_in}

-- what a buffer begins with, as long as is reported, is the segment
length-bytes : (s : State) (due : Due) → length (bytes_of s due) ≡ wire_length (segment_of s due)
unfolding bytes_of
length-bytes s due = length_encoded s.config.addr.0 (destination_of s due).addr.0 (segment_of s due)

cut : (n : ℕ) (xs ys : List ℕ) → length xs ≡ n → take n (xs ++ ys) ≡ xs
cut n xs ys e = ap (λ k. take k (xs ++ ys)) (sym e) ∙ take-append_seam xs ys

written : (s : State) (due : Option Due) (out : List ℕ)
    → option_map (λ sent. sent_by s (take sent.len (buffer_with s due out))) (option_map wired.sent_by (option_map (transmit_of s) due))
    ≡ option_map (sent_by s) (option_map (bytes_of s) due)
written s None out = refl
written s (Some due) out =
    ap (λ bytes. Some (sent_by s bytes)) (cut (wire_length (segment_of s due)) (bytes_of s due) (drop (wire_length (segment_of s due)) out) (length-bytes s due))

-- AN EMISSION, whether what is due waits or not
abbrev out_by : {H : Type 0} → Member H → List ℕ → Bool → PartyState
out_by {H = H} m out h = record (party_in m) {
  endpoint = (if h then (machine {A = H}).emitted_alone m.driving.core else (machine {A = H}).emitted m.driving.core).end;
  sent = m.sent ++ option_to_list (option_map
      (λ sent. sent_by (end_of m) (take sent.len (if h then (machine {A = H}).written_alone m.driving.core out else (machine {A = H}).written m.driving.core out)))
      (if h then (machine {A = H}).alone m.driving.core else (machine {A = H}).due m.driving.core));
}

out-by : {H : Type 0} (m : Member H) (out : List ℕ) (h : Bool) → out_by m out h ≡ party_out (party_in m) (due_for h (end_of m))
unfolding after_ack_alone after_emission buffer_after buffer_after_ack_alone transmit_due transmit_ack_alone
out-by m out true = ap (λ new. record (party_in m) { endpoint = after_ack_alone (end_of m); sent = m.sent ++ option_to_list new }) (written (end_of m) (ack_alone (end_of m)) out)
out-by m out false = ap (λ new. record (party_in m) { endpoint = after_emission (end_of m); sent = m.sent ++ option_to_list new }) (written (end_of m) (due_of (end_of m)) out)

pub member-out : {H : Type 0} (m : Member H) (now window : ℕ) (out : List ℕ)
    → party_in (member_after_emission m now window out) ≡ party_out (party_in m) (due_for (holds machine m.driving.core window) (end_of m))
unfolding member_after_emission
member-out m now window out = out-by m out (holds machine m.driving.core window)

-- A READ: as many bytes as are answered are what is delivered
abbrev value_of : ℕ → List ℕ → Bool → Received
value_of room unread finished = if length unread == 0 then (if finished then EndOfStream else Nothing) else Bytes (min room (length unread))

none-of : (finished : Bool) (n : ℕ) → n ≡ 0 → n ≡ count_delivered (Ok (if finished then EndOfStream else Nothing))
none-of true n e = e
none-of false n e = e

count-of : (refusal : Option CallError) (room : ℕ) (unread : List ℕ) (finished : Bool)
    → length (bytes_unless refusal (take (min room (length unread)) unread)) ≡ count_delivered (answer_unless refusal (value_of room unread finished))
count-of (Some error) room unread finished = refl
count-of None room unread finished =
    let all : length (take (min room (length unread)) unread) ≡ min room (length unread) = length-take-le (min room (length unread)) unread (omega arith) in
    cond_both (length unread == 0) (if finished then EndOfStream else Nothing) (Bytes (min room (length unread)))
    (λ v. length (take (min room (length unread)) unread) ≡ count_delivered (Ok v))
    (λ e. none-of finished _ (let none : length unread ≡ 0 = eqb-true _ _ e in all ∙ omega arith)) (λ e. all)

pub member-received : {H : Type 0} (m : Member H) (now : ℕ) (out : List ℕ) → party_in (member_after_receive m now out) ≡ party_after_receive (party_in m) (length out)
unfolding party_after_receive
member-received m now out =
    let s = end_of m in
    let bytes = received_bytes s (length out) in
    ap (λ new. record (party_after_receive (party_in m) (length out)) { delivered = m.delivered ++ new })
    (cut (count_delivered (receive_answer s (length out))) bytes (drop (length bytes) out)
    (count-of (receive_refusal s) (length out) s.receiving.inbox.unread s.receiving.finished))
