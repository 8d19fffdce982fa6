-- Of an end of a connection only what goes out makes what is in flight greater (RFC 9293, 3.3.1 and 3.10).
use Rattle.std.proofs.Common.{◌≡◌, ℕ, ◌-◌, ◌≤◌, Bool, true, false, List, [], ◌∷◌, Option, Some, None, arith, refl}
use Rattle.std.specs.Prelude.{◌&&◌, nat_lt, nat_le, if◌then◌else◌, max, Result, Ok, Err}
use Rattle.std.proofs.lemmas.Bool.Decides.{nat_tests}
use Rattle.tcp_driver.specs.declared.machine.Timer.{Timer}
use Rattle.tcp_driver.specs.declared.machine.Timer.TheVariants as timers
use Rattle.tcp_wire.specs.Position.{position_of}
use Rattle.tcp_wire.specs.Wire.{Content}
use Rattle.tcp_wire.specs.declared.fault.DecodeError.{DecodeError}
use Rattle.tcp_halves.specs.Config.{min_mss}
use Rattle.tcp_halves.specs.Marks.{after_block, after_blocks, marks_text, with_marks}
use Rattle.tcp_halves.specs.Options.{link_of}
use Rattle.tcp_halves.specs.Sender.{Sending, acks_more, after_ack, after_window_update, is_fin_acked, is_newer, with_acked, with_syn_acked, with_window}
use Rattle.tcp_conn.specs.declared.arrive.guard.Intake.{Intake}
use Rattle.tcp_conn.specs.declared.arrive.judgement.Judgement.{Judgement}
use Rattle.tcp_conn.specs.declared.arrive.judgement.Judgement.TheVariants.{Foreign, ResetIgnored, Stray, AckOfListen, OpensNothing, PeerOpens, AckOfNoSyn, PeerRefuses, PeerAccepts, Unacceptable}
use Rattle.tcp_conn.specs.declared.arrive.judgement.Judgement.TheVariants.{PeerResets, ResetElsewhere, SynInWindow, NoAck, AcksUnsent, HandshakeRefused, HandshakeRefusedShut, Taken, TakenShut}
use Rattle.tcp_conn.specs.declared.outcome.CallError.{CallError}
use Rattle.tcp_conn.specs.Arrival.{after_acked_text, after_fin, after_its_ack, after_its_text, after_judgement, after_own_fin, after_own_syn, after_peer_accepts, after_peer_opens}
use Rattle.tcp_conn.specs.Arrival.{after_taking, after_taking_shut, after_window_and_blocks, blocks_used, is_current, with_window_and_blocks}
use Rattle.tcp_conn.specs.Calls.{after_abort, after_acknowledge, after_close, after_closing, after_connect, after_listen, after_receive, after_send, close_refusal, is_unanswered, open_refusal, receive_refusal, send_refusal, state_unless}
use Rattle.tcp_conn.specs.Emission.{after_ack_alone}
use Rattle.tcp_conn.specs.Endings.{after_orderly_end}
use Rattle.tcp_conn.specs.Guard.{after_intake, after_intake_of, intake_judgement, reading_of}
use Rattle.tcp_conn.specs.Judgement.{position_near}
use Rattle.tcp_conn.specs.Phase.{is_last_ack, is_syn_received, is_time_wait}
use Rattle.tcp_conn.specs.State.{State}
use Rattle.tcp_conn.specs.Timers.{after_gaps, after_reorder, after_resend, after_resend_first, after_retransmit, after_time_wait, marks_end, resends_between, sends_again}
use Rattle.tcp_conn.specs.Windows.{window_from}
use Rattle.tcp_end.specs.Wired.{expired, intake_of, machine}
use Rattle.tcp_flow.proofs.Outgoing.{alone_quiet, bare, goes_out}
use Rattle.tcp_flow.proofs.Quiet.{IsWide, Quiet, either, either_span, no_more, none_left, same, span, then_quiet}
use Rattle.tcp_flow.specs.InFlight.{SendsNothing}
use Rattle.tcp_flow.specs.FlightOfEnds.{EachOpensSized, EndCountsFlight, IsSized}

-- ---- AN ACKNOWLEDGEMENT, of the SYN, of text and of the FIN
own-syn : (s : State) (v : Content) → Quiet s (after_own_syn s v)
unfolding after_own_syn
own-syn s v = record {
  sized = λ a. a;
  fewer = either_span (is_syn_received s.phase) (with_window (with_syn_acked s.sending) v.seq v.ack (window_from s.link v.window)) s.sending (span s.sending)
      (none_left s.sending.snd_nxt (span s.sending)) (no_more (span s.sending));
}

both : (x y : Bool) → (x && y) ≡ true → (x ≡ true) × (y ≡ true)
both true y e = (refl, e)
both false y e = absurd (cc)

acked-by : (una nxt ack : ℕ) → (nat_lt una ack && nat_le ack nxt) ≡ true → nxt - ack ≤ nxt - una
acked-by una nxt ack e =
    let b = both (nat_lt una ack) (nat_le ack nxt) e in
    let more : una ≤ ack = grind (arith, nat_tests, b.0) in
    omega (arith, more)

ack-by : (s : Sending) (ack : ℕ) (b : Bool) → acks_more s ack ≡ b → span (if b then with_acked s ack else s) ≤ span s
ack-by s ack true e = acked-by s.snd_una s.snd_nxt ack e
ack-by s ack false e = no_more (span s)

acked-text : (s : State) (v : Content) → Quiet s (after_acked_text s v)
unfolding after_acked_text after_ack
acked-text s v = record { sized = λ a. a; fewer = ack-by s.sending (position_near s v.ack) (acks_more s.sending (position_near s v.ack)) refl }

-- its window and its blocks
window-span : (s : Sending) (seq ack window : ℕ) → span (after_window_update s seq ack window) ≤ span s
unfolding after_window_update
window-span s seq ack window = either_span (is_newer s seq ack) (with_window s seq ack window) s (span s) (no_more (span s)) (no_more (span s))

block-span : (s : Sending) (left right : ℕ) → span (after_block s left right) ≤ span s
unfolding after_block
block-span s left right = either_span (marks_text s left right) (with_marks s left right) s (span s) (no_more (span s)) (no_more (span s))

blocks-span : (iss : ℕ) (s : Sending) (blocks : List (ℕ × ℕ)) → span (after_blocks iss s blocks) ≤ span s
blocks-span iss s [] = no_more (span s)
blocks-span iss s (block ∷ blocks) =
    let next = after_block s (position_of iss s.snd_una block.0) (position_of iss s.snd_una block.1) in
    omega (arith, blocks-span iss next blocks, block-span s (position_of iss s.snd_una block.0) (position_of iss s.snd_una block.1))

updated-span : (s : State) (v : Content) → span (with_window_and_blocks s v) ≤ span s.sending
updated-span s v =
    let window = window_from s.link v.window in
    omega (arith, blocks-span s.config.isn.0 (after_window_update s.sending v.seq v.ack window) (blocks_used s v), window-span s.sending v.seq v.ack window)

window-and-blocks : (s : State) (v : Content) → Quiet s (after_window_and_blocks s v)
unfolding after_window_and_blocks
window-and-blocks s v = record {
  sized = λ a. a;
  fewer = either_span (is_current s v) (with_window_and_blocks s v) s.sending (span s.sending) (updated-span s v) (no_more (span s.sending));
}

own-fin : (s : State) → Quiet s (after_own_fin s)
unfolding after_own_fin
own-fin s =
    either s _ s (is_fin_acked s.sending)
    (either s _ _ (is_last_ack s.phase) (record { sized = λ a. a; fewer = no_more (span s.sending) }) (record { sized = λ a. a; fewer = no_more (span s.sending) }))
    (same s)

its-ack : (s : State) (v : Content) → Quiet s (after_its_ack s v)
unfolding after_its_ack
its-ack s v =
    let one = after_own_syn s v in
    let two = after_acked_text one v in
    let three = after_window_and_blocks two v in
    then_quiet s one _ (own-syn s v) (then_quiet one two _ (acked-text one v) (then_quiet two three _ (window-and-blocks two v) (own-fin three)))

-- ---- TEXT AND FIN, and what is answered alone
its-text : (s : State) (v : Content) → Quiet s (after_its_text s v)
unfolding after_its_text
its-text s v = record { sized = λ a. a; fewer = no_more (span s.sending) }

its-fin : (s : State) (v : Content) → Quiet s (after_fin s v)
unfolding after_fin
its-fin s v = record { sized = λ a. a; fewer = no_more (span s.sending) }

taking : (s : State) (v : Content) → Quiet s (after_taking s v)
unfolding after_taking
taking s v =
    let one = after_its_ack s v in
    let two = after_its_text one v in
    then_quiet s one _ (its-ack s v) (then_quiet one two _ (its-text one v) (its-fin two v))

taking-shut : (s : State) (v : Content) → Quiet s (after_taking_shut s v)
unfolding after_taking_shut
taking-shut s v = let a = its-ack s v in record { sized = a.sized; fewer = a.fewer }

-- ---- AN ARRIVAL, by whatever rule: a SYN that it answers is in flight then
record Takes (s after : State) : Type 0 where
  sized : IsWide s → IsWide after
  most : span after.sending ≤ max 1 (span s.sending)

taken : (s after : State) → Quiet s after → Takes s after
taken s after q = record { sized = q.sized; most = omega (arith, q.fewer) }

plain : (s after : State) → (IsWide s → IsWide after) → span after.sending ≤ span s.sending → Takes s after
plain s after sized fewer = record { sized = sized; most = omega (arith, fewer) }

at-least : (n m : ℕ) → n ≤ max n m
at-least n m = omega arith

opens : (s : State) (src : List ℕ) (v : Content) → Takes s (after_peer_opens s src v)
unfolding after_peer_opens link_of
opens s src v = record { sized = λ a. (a.0, at-least min_mss _); most = omega arith }

accepts : (s : State) (v : Content) → Takes s (after_peer_accepts s v)
unfolding after_peer_accepts link_of
accepts s v = record { sized = λ a. (a.0, at-least min_mss _); most = none_left s.sending.snd_nxt (max 1 (span s.sending)) }

judged : (rule : Judgement) (s : State) (src : List ℕ) (v : Content) → Takes s (after_judgement rule s src v)
judged Foreign s src v = taken s s (same s)
judged ResetIgnored s src v = taken s s (same s)
judged Stray s src v = plain s _ (λ a. a) (no_more (span s.sending))
judged AckOfListen s src v = plain s _ (λ a. a) (no_more (span s.sending))
judged OpensNothing s src v = taken s s (same s)
judged PeerOpens s src v = opens s src v
judged AckOfNoSyn s src v = plain s _ (λ a. a) (no_more (span s.sending))
judged PeerRefuses s src v = plain s _ (λ a. a) (no_more (span s.sending))
judged PeerAccepts s src v = accepts s v
judged Unacceptable s src v = plain s _ (λ a. a) (no_more (span s.sending))
judged PeerResets s src v = plain s _ (λ a. a) (no_more (span s.sending))
judged ResetElsewhere s src v = plain s _ (λ a. a) (no_more (span s.sending))
judged SynInWindow s src v = plain s _ (λ a. a) (no_more (span s.sending))
judged NoAck s src v = taken s s (same s)
judged AcksUnsent s src v = plain s _ (λ a. a) (no_more (span s.sending))
judged HandshakeRefused s src v = plain s _ (λ a. a) (no_more (span s.sending))
judged HandshakeRefusedShut s src v = plain s _ (λ a. a) (no_more (span s.sending))
judged Taken s src v = taken s _ (taking s v)
judged TakenShut s src v = taken s _ (taking-shut s v)

read : (way : Intake) (s : State) (src dst : List ℕ) (r : Result Content DecodeError) → Takes s (after_intake_of way s src dst r)
read way s src dst (Ok v) = judged (intake_judgement way s src dst v) s src v
read way s src dst (Err fault) = taken s s (same s)

arrives : (way : Intake) (s : State) (src dst bytes : List ℕ) → Takes s (after_intake way s src dst bytes)
unfolding after_intake
arrives way s src dst bytes = read way s src dst (reading_of way src dst bytes)

-- ---- A CALL of the user's
unless : (refusal : Option CallError) (s after : State) → Quiet s after → Quiet s (state_unless refusal s after)
unless None s after q = q
unless (Some error) s after q = same s

sends : (s : State) (text : List ℕ) → Quiet s (after_send s text)
unfolding after_send
sends s text = unless (send_refusal s text) s _ (record { sized = λ a. a; fewer = no_more (span s.sending) })

reads : (s : State) (room : ℕ) → Quiet s (after_receive s room)
unfolding after_receive
reads s room = unless (receive_refusal s) s _ (record { sized = λ a. a; fewer = no_more (span s.sending) })

asks : (s : State) → Quiet s (after_acknowledge s)
unfolding after_acknowledge
asks s = record { sized = λ a. a; fewer = no_more (span s.sending) }

closes : (s : State) → Quiet s (after_close s)
unfolding after_close
closes s =
    unless (close_refusal s) s (after_closing s)
    (either s _ _ (is_unanswered s.phase) (record { sized = λ a. a; fewer = no_more (span s.sending) }) (record { sized = λ a. a; fewer = no_more (span s.sending) }))

aborts : (s : State) → Quiet s (after_abort s)
unfolding after_abort
aborts s = unless (open_refusal s) s _ (record { sized = λ a. a; fewer = no_more (span s.sending) })

-- ---- A TIMER expires, or a caller has something sent again
kept-if : (s : State) (b : Bool) (one : Sending) → span one ≤ span s.sending → span (if b then one else s.sending) ≤ span s.sending
kept-if s b one e = either_span b one s.sending (span s.sending) e (no_more (span s.sending))

retransmits : (s : State) → Quiet s (after_retransmit s)
unfolding after_retransmit
retransmits s = record { sized = λ a. a; fewer = kept-if s (sends_again s) _ (no_more (span s.sending)) }

gaps-span : (s : Sending) (end : Option ℕ) → span (after_gaps s end) ≤ span s
gaps-span s None = no_more (span s)
gaps-span s (Some end) = no_more (span s)

reorders : (s : State) → Quiet s (after_reorder s)
unfolding after_reorder
reorders s = record { sized = λ a. a; fewer = gaps-span s.sending (marks_end s) }

rests : (s : State) → Quiet s (after_time_wait s)
unfolding after_time_wait
rests s = either s (after_orderly_end s) s (is_time_wait s.phase) (record { sized = λ a. a; fewer = no_more (span s.sending) }) (same s)

expires : (s : State) (timer : Timer) → Quiet s (expired s timer)
expires s timers.Retransmit = retransmits s
expires s timers.Reorder = reorders s
expires s timers.TimeWait = rests s
expires s timers.User = aborts s

resends-first : (s : State) → Quiet s (after_resend_first s)
unfolding after_resend_first
resends-first s = record { sized = λ a. a; fewer = kept-if s (sends_again s) _ (no_more (span s.sending)) }

resends : (s : State) (from to : ℕ) → Quiet s (after_resend s from to)
unfolding after_resend
resends s from to = record { sized = λ a. a; fewer = kept-if s (resends_between s from to) _ (no_more (span s.sending)) }

-- ---- SO THE END COUNTS WHAT IS IN FLIGHT
nothing : {A : Type 0} (does : State → State) → ((s : State) → Quiet s (does s)) → SendsNothing (machine {A = A}) IsSized (λ w. record { end = does w.end })
nothing does q w a = ((q w.end).sized a, (q w.end).fewer)

pub flights : (A : Type 0) → EndCountsFlight A
flights A = record {
  emitted = λ w a. goes_out w.end a;
  bare = λ w a. bare w.end a;
  alone = nothing after_ack_alone alone_quiet;
  arrived = λ w src dst bytes way a. let t = arrives (intake_of way) w.end src dst bytes in (t.sized a, t.most);
  expired = λ timer. nothing (λ s. expired s timer) (λ s. expires s timer);
  first_resent = nothing after_resend_first resends-first;
  resent = λ from to. nothing (λ s. after_resend s from to) (λ s. resends s from to);
  sent = λ text. nothing (λ s. after_send s text) (λ s. sends s text);
  received = λ room. nothing (λ s. after_receive s room) (λ s. reads s room);
  acknowledged = nothing after_acknowledge asks;
  closed = nothing after_close closes;
  aborted = nothing after_abort aborts;
}

-- ---- AN END THAT IS OPENED is sized
pub opens_sized : (A : Type 0) → EachOpensSized A
unfolding after_connect after_listen
opens_sized A c runs peer rules limits now good = ((good.good.1.0, omega arith), (good.good.1.0, omega arith))
