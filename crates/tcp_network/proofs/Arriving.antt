-- An arrival puts nothing into the network, by whatever rule (RFC 9293, 3.10.7).
use Rattle.std.proofs.Common.{◌≡◌, ℕ, Bool, true, false, List, arith, refl, subst}
use Rattle.std.specs.Prelude.{not, ◌&&◌, if◌then◌else◌, Option, Some, None, Result, Ok, Err}
use Rattle.tcp_wire.specs.Flags.{ack, has, rst, syn}
use Rattle.tcp_wire.specs.Wire.{Content}
use Rattle.tcp_wire.specs.declared.fault.DecodeError.{DecodeError}
use Rattle.tcp_sendq.specs.SendQueue.{count_marked}
use Rattle.tcp_halves.specs.Options.{link_of}
use Rattle.tcp_halves.specs.Sender.{Sending, acks_unsent, after_window_update, is_fin_acked, with_syn_acked, with_window}
use Rattle.tcp_conn.specs.declared.arrive.guard.Intake.{Intake}
use Rattle.tcp_conn.specs.declared.arrive.judgement.Judgement.{Judgement}
use Rattle.tcp_conn.specs.declared.arrive.judgement.Judgement.TheVariants.{Foreign, ResetIgnored, Stray, AckOfListen, OpensNothing, PeerOpens, AckOfNoSyn, PeerRefuses, PeerAccepts, Unacceptable}
use Rattle.tcp_conn.specs.declared.arrive.judgement.Judgement.TheVariants.{PeerResets, ResetElsewhere, SynInWindow, NoAck, AcksUnsent, HandshakeRefused, HandshakeRefusedShut, Taken, TakenShut}
use Rattle.tcp_conn.specs.declared.phase.Phase.{Phase}
use Rattle.tcp_conn.specs.declared.phase.Phase.TheVariants.{Closed, Listen, SynSent, SynReceived, Established, FinWait1, FinWait2, CloseWait, Closing, LastAck, TimeWait}
use Rattle.tcp_conn.specs.Arrival.{after_acked_text, after_fin, after_its_ack, after_its_text, after_judgement, after_own_fin, after_own_syn, after_peer_accepts, after_peer_opens}
use Rattle.tcp_conn.specs.Arrival.{after_taking, after_taking_shut, after_window_and_blocks, blocks_used, is_current, takes_fin, with_window_and_blocks}
use Rattle.tcp_conn.specs.Guard.{after_intake, after_intake_of, guarded, intake_judgement, is_kept_out, reading_of}
use Rattle.tcp_conn.specs.Judgement.{ack_judgement, acceptable_judgement, acks_syn, closed_judgement, is_acceptable_segment, is_allowed_shut, is_foreign, judgement, judgement_after_syn, listen_judgement}
use Rattle.tcp_conn.specs.Judgement.{phase_judgement, position_near, syn_sent_judgement, unacceptable_judgement}
use Rattle.tcp_conn.specs.Phase.{is_closed, is_handshake, is_last_ack, is_listening, is_syn_received, is_syn_sent, phase_after_fin, phase_after_own_fin}
use Rattle.tcp_conn.specs.State.{State}
use Rattle.tcp_conn.specs.Windows.{window_from}
use Rattle.tcp_network.proofs.Moves.{InOrder, Moves, Ordered, Quiet, after_fin_later, after_own_fin_later, discards, either, ends, later_if, left_in, moves_on, none_left, same, stays, syn_acked, then_quiet}
use Rattle.tcp_network.proofs.Steps.{Leaves, as_before, blocks_taken, if_leaves, no_more, text_acked, window_taken}
use Rattle.tcp_network.specs.NetworkOfEnds.{IsInOrder}

-- ---- THIS END'S SYN IS ACKNOWLEDGED, in SYN-RECEIVED
record IsAnswered (phase : Phase) : Type 0 where
  handshake : is_handshake phase ≡ true
  closed : is_closed phase ≡ false

syn-received : (phase : Phase) → is_syn_received phase ≡ true → IsAnswered phase
syn-received Closed e = absurd (cc)
syn-received Listen e = absurd (cc)
syn-received SynSent e = absurd (cc)
syn-received SynReceived e = record { handshake = refl; closed = refl }
syn-received Established e = absurd (cc)
syn-received FinWait1 e = absurd (cc)
syn-received FinWait2 e = absurd (cc)
syn-received CloseWait e = absurd (cc)
syn-received Closing e = absurd (cc)
syn-received LastAck e = absurd (cc)
syn-received TimeWait e = absurd (cc)

answered : (d : Sending) (phase : Phase) (closing : Bool) → IsAnswered phase → InOrder d phase closing
    → IsInOrder d true (not closing && true)
answered d phase closing i p =
    subst (λ h. IsInOrder d h (not closing && true)) i.handshake (subst (λ c. IsInOrder d (is_handshake phase) (not closing && not c)) i.closed p)

own-syn-by : (d : Sending) (phase : Phase) (closing b : Bool) (seq acked window : ℕ) → is_syn_received phase ≡ b → InOrder d phase closing
    → Moves phase d (if b then (if closing then FinWait1 else Established) else phase) closing (if b then with_window (with_syn_acked d) seq acked window else d)
own-syn-by d phase true true seq acked window e p = record {
  order = syn_acked d seq acked window false (answered d phase true (syn-received phase e) p);
  fewer = none_left d.snd_nxt (count_marked d.queue.marks) (left_in phase d);
}
own-syn-by d phase false true seq acked window e p = record {
  order = syn_acked d seq acked window true (answered d phase false (syn-received phase e) p);
  fewer = none_left d.snd_nxt (count_marked d.queue.marks) (left_in phase d);
}
own-syn-by d phase closing false seq acked window e p = record { order = p; fewer = no_more (left_in phase d) }

own-syn : (s : State) (v : Content) → Ordered s → Quiet s (after_own_syn s v)
unfolding after_own_syn
own-syn s v p = own-syn-by s.sending s.phase s.closing (is_syn_received s.phase) v.seq v.ack (window_from s.link v.window) refl p

-- ---- TEXT IS, and its window and its blocks are taken
acked-text : (s : State) (v : Content) → Ordered s → Quiet s (after_acked_text s v)
unfolding after_acked_text
acked-text s v p = stays s.phase s.closing s.sending _ (text_acked s.sending (position_near s v.ack) _ _ p)

updated : (s : State) (v : Content) (h o : Bool) → IsInOrder s.sending h o → Leaves s.sending (with_window_and_blocks s v) h o
updated s v h o p =
    let window = window_from s.link v.window in
    let one = window_taken s.sending v.seq v.ack window h o p in
    let rest = blocks_taken s.config.isn.0 (after_window_update s.sending v.seq v.ack window) (blocks_used s v) h o one.order in
    record { order = rest.order; fewer = omega (arith, one.fewer, rest.fewer) }

window-and-blocks : (s : State) (v : Content) → Ordered s → Quiet s (after_window_and_blocks s v)
unfolding after_window_and_blocks
window-and-blocks s v p =
    stays s.phase s.closing s.sending _
    (if_leaves (is_current s v) s.sending (with_window_and_blocks s v) s.sending _ _ (updated s v _ _ p) (as_before s.sending _ _ p))

own-fin : (s : State) → Ordered s → Quiet s (after_own_fin s)
unfolding after_own_fin
own-fin s p =
    either s _ s (is_fin_acked s.sending)
    (either s _ _ (is_last_ack s.phase) (ends s.phase s.closing s.closing s.sending p)
    (moves_on s.phase (phase_after_own_fin s.phase) s.closing s.sending (after_own_fin_later s.phase) p))
    (same s p)

its-ack : (s : State) (v : Content) → Ordered s → Quiet s (after_its_ack s v)
unfolding after_its_ack
its-ack s v p =
    let one = after_own_syn s v in
    let two = after_acked_text one v in
    let three = after_window_and_blocks two v in
    let four = after_own_fin three in
    let a = own-syn s v p in
    let b = acked-text one v a.order in
    let c = window-and-blocks two v b.order in
    then_quiet s one four a (then_quiet one two four b (then_quiet two three four c (own-fin three c.order)))

-- ---- TEXT AND FIN, and what is answered alone
its-text : (s : State) (v : Content) → Ordered s → Quiet s (after_its_text s v)
unfolding after_its_text
its-text s v p = record { order = p; fewer = no_more (left_in s.phase s.sending) }

its-fin : (s : State) (v : Content) → Ordered s → Quiet s (after_fin s v)
unfolding after_fin
its-fin s v p =
    moves_on s.phase (if takes_fin s v then phase_after_fin s.phase else s.phase) s.closing s.sending
    (later_if s.phase (phase_after_fin s.phase) (takes_fin s v) (after_fin_later s.phase)) p

taking : (s : State) (v : Content) → Ordered s → Quiet s (after_taking s v)
unfolding after_taking
taking s v p =
    let one = after_its_ack s v in
    let two = after_its_text one v in
    let three = after_fin two v in
    let a = its-ack s v p in
    let b = its-text one v a.order in
    then_quiet s one three a (then_quiet one two three b (its-fin two v b.order))

taking-shut : (s : State) (v : Content) → Ordered s → Quiet s (after_taking_shut s v)
unfolding after_taking_shut
taking-shut s v p = let a = its-ack s v p in record { order = a.order; fewer = a.fewer }

-- ---- A SYN opens in LISTEN alone, and accepts in SYN-SENT alone
abbrev IsOf : State → Judgement → Type 0
IsOf s PeerOpens = is_listening s.phase ≡ true
IsOf s PeerAccepts = is_syn_sent s.phase ≡ true
IsOf s other = Unit {0}

of-if : (s : State) (b : Bool) (one two : Judgement) → (b ≡ true → IsOf s one) → IsOf s two → IsOf s (if b then one else two)
of-if s true one two e f = e refl
of-if s false one two e f = f

closed-is : (s : State) (v : Content) → IsOf s (closed_judgement v)
unfolding closed_judgement
closed-is s v = of-if s (has rst v.flags) ResetIgnored Stray (λ e. tt) tt

listen-is : (s : State) (v : Content) → is_listening s.phase ≡ true → IsOf s (listen_judgement v)
unfolding listen_judgement
listen-is s v is =
    of-if s (has rst v.flags) ResetIgnored _ (λ e. tt)
    (of-if s (has ack v.flags) AckOfListen _ (λ e. tt) (of-if s (has syn v.flags) PeerOpens OpensNothing (λ e. is) tt))

syn-sent-is : (s : State) (v : Content) → is_syn_sent s.phase ≡ true → IsOf s (syn_sent_judgement s v)
unfolding syn_sent_judgement
syn-sent-is s v is =
    of-if s (has ack v.flags && not (acks_syn s v)) _ _ (λ e. of-if s (has rst v.flags) ResetIgnored AckOfNoSyn (λ f. tt) tt)
    (of-if s (has rst v.flags) _ _ (λ e. of-if s (has ack v.flags) PeerRefuses ResetIgnored (λ f. tt) tt)
    (of-if s (has syn v.flags && has ack v.flags) PeerAccepts OpensNothing (λ e. is) tt))

ack-is : (s : State) (v : Content) (good refused : Judgement) → IsOf s good → IsOf s refused → IsOf s (ack_judgement s v good refused)
unfolding ack_judgement
ack-is s v good refused g r =
    of-if s (is_syn_received s.phase) _ _ (λ e. of-if s (acks_syn s v) good refused (λ f. g) r)
    (of-if s (acks_unsent s.sending (position_near s v.ack)) AcksUnsent good (λ e. tt) g)

unacceptable-is : (s : State) (v : Content) → IsOf s (unacceptable_judgement s v)
unfolding unacceptable_judgement
unacceptable-is s v =
    of-if s (has rst v.flags) ResetIgnored _ (λ e. tt)
    (of-if s (is_allowed_shut s v) _ Unacceptable (λ e. ack-is s v TakenShut HandshakeRefusedShut tt tt) tt)

acceptable-is : (s : State) (v : Content) → IsOf s (acceptable_judgement s v)
unfolding acceptable_judgement
acceptable-is s v =
    of-if s (has rst v.flags) _ _ (λ e. of-if s _ PeerResets ResetElsewhere (λ f. tt) tt)
    (of-if s (has syn v.flags) SynInWindow _ (λ e. tt)
    (of-if s (not (has ack v.flags)) NoAck _ (λ e. tt) (ack-is s v Taken HandshakeRefused tt tt)))

after-syn-is : (s : State) (v : Content) → IsOf s (judgement_after_syn s v)
unfolding judgement_after_syn
after-syn-is s v = of-if s (is_acceptable_segment s v) _ _ (λ e. acceptable-is s v) (unacceptable-is s v)

phase-is : (s : State) (v : Content) → IsOf s (phase_judgement s v)
unfolding phase_judgement
phase-is s v =
    of-if s (is_closed s.phase) _ _ (λ e. closed-is s v)
    (of-if s (is_listening s.phase) _ _ (λ e. listen-is s v e)
    (of-if s (is_syn_sent s.phase) _ _ (λ e. syn-sent-is s v e) (after-syn-is s v)))

judgement-is : (s : State) (src dst : List ℕ) (v : Content) → IsOf s (judgement s src dst v)
unfolding judgement
judgement-is s src dst v = of-if s (is_foreign s src dst v) Foreign _ (λ e. tt) (phase-is s v)

guarded-is : (s : State) (v : Content) (guard : Option ℕ) (rule : Judgement) → IsOf s rule → IsOf s (guarded guard rule s v)
unfolding guarded
guarded-is s v None rule is = is
guarded-is s v (Some reach) rule is = of-if s (is_kept_out reach rule s v) Unacceptable rule (λ e. tt) is

-- in LISTEN the SYN is all that is sent then
listening : (phase : Phase) → is_listening phase ≡ true → is_closed phase ≡ false
listening Closed e = absurd (cc)
listening Listen e = refl
listening SynSent e = refl
listening SynReceived e = refl
listening Established e = refl
listening FinWait1 e = refl
listening FinWait2 e = refl
listening CloseWait e = refl
listening Closing e = refl
listening LastAck e = refl
listening TimeWait e = refl

opens : (s : State) (src : List ℕ) (v : Content) → is_listening s.phase ≡ true → Ordered s → Quiet s (after_peer_opens s src v)
unfolding after_peer_opens link_of
opens s src v is p =
    let q = subst (λ c. IsInOrder s.sending (is_handshake s.phase) (not s.closing && not c)) (listening s.phase is) p in
    record {
      order = record {
        flags = q.flags;
        una = λ some. omega arith;
        syn = λ e. omega arith;
        text = λ t. let o = q.text t in record { una = omega arith; nxt = omega arith; range = o.range };
      };
      fewer = omega arith;
    }

-- and in SYN-SENT nothing but the SYN was
syn-sent : (phase : Phase) → is_syn_sent phase ≡ true → IsAnswered phase
syn-sent Closed e = absurd (cc)
syn-sent Listen e = absurd (cc)
syn-sent SynSent e = record { handshake = refl; closed = refl }
syn-sent SynReceived e = absurd (cc)
syn-sent Established e = absurd (cc)
syn-sent FinWait1 e = absurd (cc)
syn-sent FinWait2 e = absurd (cc)
syn-sent CloseWait e = absurd (cc)
syn-sent Closing e = absurd (cc)
syn-sent LastAck e = absurd (cc)
syn-sent TimeWait e = absurd (cc)

accepts : (s : State) (v : Content) → is_syn_sent s.phase ≡ true → Ordered s → Quiet s (after_peer_accepts s v)
unfolding after_peer_accepts link_of
accepts s v is p = record {
  order = syn_acked s.sending v.seq v.ack v.window (not s.closing && true) (answered s.sending s.phase s.closing (syn-sent s.phase is) p);
  fewer = none_left s.sending.snd_nxt (count_marked s.sending.queue.marks) (left_in s.phase s.sending);
}

-- ---- AN ARRIVAL, by whatever rule
judged : (rule : Judgement) (s : State) (src : List ℕ) (v : Content) → IsOf s rule → Ordered s → Quiet s (after_judgement rule s src v)
judged Foreign s src v is p = same s p
judged ResetIgnored s src v is p = same s p
judged Stray s src v is p = same s p
judged AckOfListen s src v is p = same s p
judged OpensNothing s src v is p = same s p
judged PeerOpens s src v is p = opens s src v is p
judged AckOfNoSyn s src v is p = same s p
judged PeerRefuses s src v is p = discards s.phase s.closing s.closing s.sending p
judged PeerAccepts s src v is p = accepts s v is p
judged Unacceptable s src v is p = same s p
judged PeerResets s src v is p = discards s.phase s.closing s.closing s.sending p
judged ResetElsewhere s src v is p = same s p
judged SynInWindow s src v is p = same s p
judged NoAck s src v is p = same s p
judged AcksUnsent s src v is p = same s p
judged HandshakeRefused s src v is p = same s p
judged HandshakeRefusedShut s src v is p = same s p
judged Taken s src v is p = taking s v p
judged TakenShut s src v is p = taking-shut s v p

read : (way : Intake) (s : State) (src dst : List ℕ) (r : Result Content DecodeError) → Ordered s
    → Quiet s (after_intake_of way s src dst r)
read way s src dst (Ok v) p = judged (intake_judgement way s src dst v) s src v (guarded-is s v way.guard (judgement s src dst v) (judgement-is s src dst v)) p
read way s src dst (Err fault) p = same s p

pub arrives : (way : Intake) (s : State) (src dst bytes : List ℕ) → Ordered s → Quiet s (after_intake way s src dst bytes)
unfolding after_intake
arrives way s src dst bytes p = read way s src dst (reading_of way src dst bytes) p
