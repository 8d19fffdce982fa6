-- ONE END by itself: a segment that arrives, whatever is judged of it, and the user's calls and the timers.
use Rattle.tcp_replay.proofs.Words.{◌&&◌, ◌+◌, ◌++◌, ◌-◌, ◌<◌, ◌==◌, ◌^◌, Aborted, ack, advertised_window, after_judgement, after_peer_accepts}
use Rattle.tcp_replay.proofs.Words.{after_peer_opens, after_read, and_parts, ap, AreBytes, arith, Bool, cond_both, Content, count_numbers, count_sendable}
use Rattle.tcp_replay.proofs.Words.{discards, end_of_marks, end_of_marks-le, Ended, false, has, has_peer, IfSome, is_closed, is_ended, is_full}
use Rattle.tcp_replay.proofs.Words.{is_handshake, is_listening, is_syn_sent, IsAlone, IsValid, IsWritable, Judgement, judgement, last_mark_end, length}
use Rattle.tcp_replay.proofs.Words.{length-drop, length-replicate, List, Listen, max, min, nat_lt, None, not, NotConnected, NotEnded, NotOpen, number}
use Rattle.tcp_replay.proofs.Words.{open_refusal, opens_window, Option, option_or, or_cases, own_reset, PartyState, Peer, phase_after_close, position_at}
use Rattle.tcp_replay.proofs.Words.{Queue, receive_refusal, refl, refusal_if, replicate, reset_after_abort, reset_at_ack, reset_of_stray, resets_on_abort}
use Rattle.tcp_replay.proofs.Words.{send_refusal, Sending, Sends, sends_text, Seq, Some, State, StreamFull, sym, take, takes_text, true}
use Rattle.tcp_replay.proofs.Words.{WaitingReset, with_ack_pending, with_all_resent, with_bytes_received, with_connection}
use Rattle.tcp_replay.proofs.Words.{with_gaps_resent, with_resent, with_reset, with_text, without_marks, ◌||◌, ℕ, ◌∙◌, ◌≡◌, ◌≤◌, ⊎_elim}
use Rattle.tcp_conn.specs.declared.phase.Ending.TheVariants.{Reset}
use Rattle.tcp_replay.proofs.one_end.Phases.{after_syn-knows, after_syn-opened, closed-unknown, discards-not_ended, end-closed, end-listen, end-syn_sent}
use Rattle.tcp_replay.proofs.one_end.Phases.{end-synchronized, fits-closing, handshake-closing, handshake-knows, knows-closing, not_ended}
use Rattle.tcp_replay.proofs.one_end.Phases.{resets_on_abort-knows, sends_text-synchronized, syn_sent-knows, time_wait-synchronized}
use Rattle.tcp_replay.proofs.one_end.Alone.{alone-ack_pending, alone-discarded, alone-orderly, alone-reset, alone-sending, alone-taking, alone-taking_shut}
use Rattle.tcp_replay.proofs.one_end.Alone.{alone-with_pending, pending-taking}
use Rattle.tcp_conn.specs.declared.outcome.CallError.TheVariants.{Closing}
use Rattle.tcp_replay.proofs.{pair.Halves.sends-closed, pair.Halves.sends-more, pair.Halves.sends-syn, pair.Halves.sends-syn_acked, one_end.Judgements.IsAfterSyn, one_end.Judgements.judged}
use Rattle.tcp_replay.proofs.{one_end.Dues.or-none, pair.Calls.CanOpen, pair.Calls.KeptByCalls, pair.Calls.pending_on_timeout, pair.Calls.refusal_if-none}
use Rattle.tcp_replay.proofs.Words.{Stray, HandshakeRefused, HandshakeRefusedShut, Unacceptable, PeerResets, PeerOpens, PeerAccepts, Taken, TakenShut}
use Rattle.tcp_replay.proofs.one_end.Judgements.{IsTaken, IsAckOnly, IsSyn}

-- RESETS can be written
pub writable-at_ack : (src : List ℕ) (v : Content) → IsValid v → IsWritable (reset_at_ack src v)
writable-at_ack src v valid = record { port = valid.src_port; seq = valid.ack; ack = tt }

-- the answer to a stray segment fits its fields
pub writable-stray : (src : List ℕ) (v : Content) → IsValid v → IsWritable (reset_of_stray src v)
writable-stray src v valid = record {
  port = valid.src_port;
  seq = cond_both (has ack v.flags) v.ack 0 (λ n. n < 2 ^ 32) (λ _. valid.ack) (λ _. omega arith);
  ack =
      cond_both (has ack v.flags) None (Some (record { 0 = number v.seq (count_numbers v) })) (λ (o : Option Seq). IfSome o (λ seq. seq.0 < 2 ^ 32)) (λ _. tt)
      (λ _. omega arith);
}

-- in LISTEN
pub alone-opening : (s : State) (accepted : List ℕ) (closed : Bool) (src : List ℕ) (v : Content) → IsValid v → is_listening s.phase ≡ true
    → IsAlone s accepted closed → IsAlone (after_peer_opens s src v) accepted closed
unfolding after_peer_opens
alone-opening s accepted closed src v valid listening h =
    let d = s.sending in
    let at = end-listen s listening h.progress in
    record {
      config = h.config;
      closing = h.closing;
      progress = (at.0, record { snd_nxt_is = refl; is_opened = refl; goes_on = h.unopened at.1.not_opened });
      port = λ _. valid.src_port;
      syn = λ _. refl;
      ack = λ _. (refl, refl);
      reset = h.reset;
      sends = sends-syn d accepted closed (discards s.ending) at.1.snd_nxt_is h.sends;
      next = omega arith;
      unopened = λ never. absurd (cc);
    }

-- in SYN-SENT
pub alone-acceptance : (s : State) (accepted : List ℕ) (closed : Bool) (v : Content) → is_syn_sent s.phase ≡ true → IsAlone s accepted closed
    → IsAlone (after_peer_accepts s v) accepted closed
unfolding after_peer_accepts
alone-acceptance s accepted closed v sent h =
    let d = s.sending in
    let at = end-syn_sent s sent h.progress in
    record {
      config = h.config;
      closing = h.closing;
      progress = (at.0, record { least = omega (arith, at.1.snd_nxt_is); is_opened = refl; goes_on = h.unopened at.1.not_opened });
      port = λ _. h.port (syn_sent-knows s.phase sent);
      syn = λ never. absurd (cc);
      ack = λ _. (refl, refl);
      reset = h.reset;
      sends = sends-syn_acked d accepted closed (discards s.ending) v.window v.seq v.ack at.1.snd_nxt_is h.sends;
      next = omega arith;
      unopened = λ never. absurd (cc);
    }

-- an acknowledgement may be owed in the phases that aren't tested first
pub after_syn-pending : (s : State) (accepted : List ℕ) (closed : Bool) → IsAfterSyn s → IsAlone s accepted closed
    → (has_peer s.phase ≡ true) × (s.receiving.opened ≡ true)
after_syn-pending s accepted closed after_syn h = (
  after_syn-knows s.phase after_syn.shut after_syn.listening,
  after_syn-opened s.phase s.ending s.sending.snd_una s.sending.snd_nxt s.receiving.opened s.receiving.finished after_syn.shut after_syn.listening
      after_syn.syn_sent h.progress,
)

with_pending-after_syn : (s : State) (accepted : List ℕ) (closed : Bool) → IsAlone s accepted closed → IsAfterSyn s → IsAlone (with_ack_pending s) accepted closed
with_pending-after_syn s accepted closed h after_syn = let has_pending = after_syn-pending s accepted closed after_syn h in alone-with_pending s accepted closed has_pending.0 has_pending.1 h

refused_shut : (s : State) (accepted : List ℕ) (closed : Bool) (src : List ℕ) (v : Content) → IsValid v → IsAlone s accepted closed → IsAfterSyn s
    → IsAlone (with_ack_pending (with_reset s (reset_at_ack src v))) accepted closed
refused_shut s accepted closed src v valid h after_syn =
    with_pending-after_syn (with_reset s (reset_at_ack src v)) accepted closed (alone-reset s accepted closed (reset_at_ack src v) (writable-at_ack src v valid) h)
    (record { shut = after_syn.shut; listening = after_syn.listening; syn_sent = after_syn.syn_sent })

-- whatever is judged of a segment, the end keeps what it keeps by itself
pub alone-judgement : (s : State) (accepted : List ℕ) (closed : Bool) (src dst : List ℕ) (v : Content) → IsValid v → IsAlone s accepted closed
    → IsAlone (after_judgement (judgement s src dst v) s src v) accepted closed
alone-judgement s accepted closed src dst v valid h =
    let P : Judgement → Type 0 = λ j. IsAlone (after_judgement j s src v) accepted closed in
    let stray : P Stray = alone-reset s accepted closed (reset_of_stray src v) (writable-stray src v valid) h in
    let refused : P HandshakeRefused = alone-reset s accepted closed (reset_at_ack src v) (writable-at_ack src v valid) h in
    let refused_shut : IsAfterSyn s → P HandshakeRefusedShut = refused_shut s accepted closed src v valid h in
    let adds_pending : IsAfterSyn s → P Unacceptable = with_pending-after_syn s accepted closed h in
    let gone : P PeerResets = alone-discarded s accepted closed Reset refl h in
    let opens : is_listening s.phase ≡ true → IsSyn v → P PeerOpens = λ listening _. alone-opening s accepted closed src v valid listening h in
    let accepts : is_syn_sent s.phase ≡ true → IsSyn v → P PeerAccepts = λ sent _. alone-acceptance s accepted closed v sent h in
    let taken : IsAfterSyn s → IsTaken s v → P Taken = λ after_syn _. alone-taking s accepted closed v after_syn h in
    let shut : IsAfterSyn s → IsAckOnly v → P TakenShut = λ after_syn _. alone-taking_shut s accepted closed v after_syn h in
    judged s v P (assumption) src dst

-- OPEN
pub alone-connection : (s : State) (accepted : List ℕ) (closed : Bool) (peer : Peer) → peer.port < 2 ^ 16 → CanOpen s → IsAlone s accepted closed
    → IsAlone (with_connection s peer) accepted closed
alone-connection s accepted closed peer port can h =
    let d = s.sending in
    let new = end-closed s can.shut can.ending h.progress in
    record {
      config = h.config;
      closing = h.closing;
      progress = (can.ending, record { snd_nxt_is = refl; not_opened = new.not_opened });
      port = λ _. port;
      syn = λ _. refl;
      ack = λ e. (refl, (h.ack e).1);
      reset = h.reset;
      sends = sends-syn d accepted closed (discards s.ending) new.snd_nxt_is h.sends;
      next = h.next;
      unopened = h.unopened;
    }

-- LISTEN
pub alone-passive : (s : State) (accepted : List ℕ) (closed : Bool) → CanOpen s → IsAlone s accepted closed
    → IsAlone (record s { phase = Listen }) accepted closed
alone-passive s accepted closed can h =
    let new = end-closed s can.shut can.ending h.progress in
    record {
      config = h.config;
      closing = h.closing;
      progress = (can.ending, new);
      port = λ never. absurd (cc);
      syn = λ e. absurd (closed-unknown s.phase can.shut (handshake-knows s.phase (h.syn e)));
      ack = λ e. absurd (closed-unknown s.phase can.shut (h.ack e).0);
      reset = h.reset;
      sends = h.sends;
      next = h.next;
      unopened = h.unopened;
    }

-- SEND
pub send-open : (s : State) (text : List ℕ) → send_refusal s text ≡ None → (s.ending ≡ NotEnded) × (s.closing ≡ false)
send-open s text e =
    let full = refusal_if (is_full s text) StreamFull in
    let closes = refusal_if s.closing Closing in
    let first = or-none (open_refusal s) (option_or (refusal_if (is_listening s.phase) NotConnected) (option_or closes full)) e in
    let second = or-none (refusal_if (is_listening s.phase) NotConnected) (option_or closes full) first.1 in
    let third = or-none closes full second.1 in
    let parts = or-none (refusal_if (is_ended s.ending) (Ended s.ending)) (refusal_if (is_closed s.phase) NotOpen) first.0 in
    (not_ended s.ending (refusal_if-none (is_ended s.ending) (Ended s.ending) parts.0), refusal_if-none s.closing Closing third.0)

-- nothing is accepted after a close
pub send-unclosed : (s : State) (accepted text : List ℕ) (closed : Bool) → send_refusal s text ≡ None → IsAlone s accepted closed → closed ≡ false
send-unclosed s accepted text closed e h = sym h.closing ∙ (send-open s text e).1

-- what the queue has room for is accepted
pub alone-with_text : (s : State) (accepted text : List ℕ) (closed : Bool) → AreBytes text → send_refusal s text ≡ None → IsAlone s accepted closed
    → IsAlone (record s { sending = with_text s.sending s.config.limit text }) (accepted ++ take (count_sendable s.sending s.config.limit text) text) closed
alone-with_text s accepted text closed bytes e h =
    let more = take (count_sendable s.sending s.config.limit text) text in
    let none : discards s.ending ≡ false = discards-not_ended s.ending (send-open s text e).0 in
    let unclosed : closed ≡ false = send-unclosed s accepted text closed e h in
    let sends : Sends (with_text s.sending s.config.limit text) (accepted ++ more) closed (discards s.ending) = rw (unclosed, none)
    (sends-more s.sending s.config.limit accepted text h.config.good.3.1 bytes (rw (unclosed, none) at h.sends)) in
    assumption

-- RECEIVE
pub receive-open : (s : State) → receive_refusal s ≡ None → discards s.ending ≡ false
receive-open s e =
    refusal_if-none (discards s.ending) (Ended s.ending)
    (or-none (refusal_if (discards s.ending) (Ended s.ending)) (refusal_if (is_closed s.phase && not (is_ended s.ending)) NotOpen) e).0

-- a read may open the window, which owes an acknowledgement
pub alone-bytes_received : (s : State) (accepted : List ℕ) (closed : Bool) (room : ℕ) → IsAlone s accepted closed
    → IsAlone (with_bytes_received s room) accepted closed
alone-bytes_received s accepted closed room h =
    let shut = advertised_window s s.receiving.inbox == 0 in
    let has_pending = alone-ack_pending s accepted closed (opens_window s room)
    (λ opens. pending-taking s accepted closed
    (and_parts (takes_text s.phase) (shut && nat_lt 0 (advertised_window s (after_read s.receiving.inbox room))) opens).0 h) h in
    let ack = has_pending.ack in
    assumption

-- CLOSE
pub alone-close_asked : (s : State) (accepted : List ℕ) (closed : Bool) → IsAlone s accepted closed → IsAlone (record s { closing = true }) accepted true
alone-close_asked s accepted closed h =
    let closing : true ≡ true = refl in
    let sends = sends-closed s.sending accepted closed (discards s.ending) h.sends in
    assumption

-- the phase after a close: the FIN is still to be sent
pub alone-close_begun : (s : State) (accepted : List ℕ) (closed : Bool) → IsAlone s accepted closed
    → IsAlone (record s { phase = phase_after_close s.phase }) accepted closed
alone-close_begun s accepted closed h =
    let d = s.sending in
    let knows : has_peer (phase_after_close s.phase) ≡ has_peer s.phase = knows-closing s.phase in
    let progress = fits-closing s.phase s.ending d.snd_una d.snd_nxt s.receiving.opened s.receiving.finished h.progress in
    let port : has_peer (phase_after_close s.phase) ≡ true → s.peer.port < 2 ^ 16 = λ e. h.port (sym knows ∙ e) in
    let syn : s.pending.syn ≡ true → is_handshake (phase_after_close s.phase) ≡ true = λ e. handshake-closing s.phase ∙ h.syn e in
    let ack : s.pending.ack ≡ true → (has_peer (phase_after_close s.phase) ≡ true) × (s.receiving.opened ≡ true) = λ e. (knows ∙ (h.ack e).0, (h.ack e).1) in
    assumption

-- ABORT
pub alone-own_reset : (s : State) (accepted : List ℕ) (closed : Bool) → IsAlone s accepted closed
    → IsAlone (record s { pending = record s.pending { reset = reset_after_abort s } }) accepted closed
alone-own_reset s accepted closed h =
    let reset : IfSome (reset_after_abort s) IsWritable = cond_both (resets_on_abort s.phase) (Some (own_reset s)) s.pending.reset
    (λ (o : Option WaitingReset). IfSome o IsWritable)
    (λ e. record { port = h.port (resets_on_abort-knows s.phase e); seq = omega arith; ack = tt }) (λ _. h.reset) in
    assumption

-- TIMERS
sends-all_resent : (d : Sending) (accepted : List ℕ) (closed gone : Bool) → Sends d accepted closed gone → Sends (with_all_resent d) accepted closed gone
unfolding without_marks
sends-all_resent d accepted closed gone h =
    let flags : length (replicate (length d.queue.bytes) false) ≡ length d.queue.bytes = length-replicate (length d.queue.bytes) false in
    let range : d.snd_nxt ≤ max d.snd_nxt (1 + length accepted) = omega arith in
    assumption

sends-resent : (d : Sending) (accepted : List ℕ) (closed gone : Bool) (from to : ℕ) → Sends d accepted closed gone
    → Sends (with_resent d from to) accepted closed gone
sends-resent d accepted closed gone from to h =
    let range : min d.snd_nxt to ≤ max d.snd_nxt (1 + length accepted) = omega arith in
    assumption

mark_end-inside : (q : Queue) (end : ℕ) → last_mark_end q ≡ Some end → end ≤ length q.marks
unfolding last_mark_end
mark_end-inside q end =
    cond_both (nat_lt 0 (end_of_marks q.marks)) (Some (end_of_marks q.marks)) None (λ (o : Option ℕ). o ≡ Some end → end ≤ length q.marks)
    (λ _ e. let same : end_of_marks q.marks ≡ end = cc in omega (arith, end_of_marks-le q.marks)) (λ _ e. absurd (cc))

sends-gaps_resent : (d : Sending) (accepted : List ℕ) (closed : Bool) (end : ℕ) → end ≤ length d.queue.marks → Sends d accepted closed false
    → Sends (with_gaps_resent d end) accepted closed false
sends-gaps_resent d accepted closed end inside h =
    let count : length d.queue.bytes ≡ length accepted - d.released = ap length (h.queue refl) ∙ length-drop d.released accepted in
    let range : position_at d end ≤ max d.snd_nxt (1 + length accepted) = omega (arith, count, inside, h.flags, h.released) in
    assumption

alone-timeout : (s : State) (accepted : List ℕ) (closed : Bool) (d : Sending) → IsAlone (record s { sending = d }) accepted closed
    → IsAlone (record s { sending = d; pending = pending_on_timeout s }) accepted closed
alone-timeout s accepted closed d h =
    let syn : (s.pending.syn || is_handshake s.phase) ≡ true → is_handshake s.phase ≡ true = λ e. ⊎_elim h.syn (λ (now : is_handshake s.phase ≡ true). now)
    (or_cases s.pending.syn (is_handshake s.phase) e) in
    assumption

alone-gaps : (s : State) (accepted : List ℕ) (closed : Bool) (end : ℕ) → last_mark_end s.sending.queue ≡ Some end → sends_text s.phase ≡ true
    → IsAlone s accepted closed
    → IsAlone (record s { sending = with_gaps_resent s.sending end }) accepted closed
alone-gaps s accepted closed end e sends h =
    let d = s.sending in
    let at = end-synchronized s (sends_text-synchronized s.phase sends) h.progress in
    let none : discards s.ending ≡ false = discards-not_ended s.ending at.0 in
    alone-sending s accepted closed (with_gaps_resent d end) refl refl
    (rw none (sends-gaps_resent d accepted closed end (mark_end-inside d.queue end e) (rw none at h.sends))) h

-- a party whose end keeps what it does by itself
abbrev pub IsAloneIn : PartyState → Type 0
IsAloneIn p = IsAlone p.endpoint p.accepted p.closed

-- ALL OF THEM
pub alone-calls : (peer : Peer) (p : PartyState) → peer.port < 2 ^ 16 → IsAloneIn p → KeptByCalls peer p IsAloneIn
alone-calls peer p port h =
    let s = p.endpoint in
    let d = s.sending in
    let asked = alone-close_asked s p.accepted p.closed h in
    record {
      same = h;
      connects = λ can. alone-connection s p.accepted p.closed peer port can h;
      listens = λ can. alone-passive s p.accepted p.closed can h;
      sends = λ text fits e. alone-with_text s p.accepted text p.closed fits e h;
      reads = λ room _. alone-bytes_received s p.accepted p.closed room h;
      withdraws = alone-discarded (record s { closing = true }) p.accepted true Aborted refl asked;
      closes = λ _ _. alone-close_begun (record s { closing = true }) p.accepted true asked;
      aborts = alone-discarded (record s { pending = record s.pending { reset = reset_after_abort s } }) p.accepted p.closed Aborted refl
          (alone-own_reset s p.accepted p.closed h);
      acknowledges = alone-ack_pending s p.accepted p.closed (takes_text s.phase) (λ takes. pending-taking s p.accepted p.closed takes h) h;
      resends = λ _. alone-timeout s p.accepted p.closed (with_all_resent d)
          (alone-sending s p.accepted p.closed (with_all_resent d) refl refl (sends-all_resent d p.accepted p.closed (discards s.ending) h.sends) h);
      probes = alone-timeout s p.accepted p.closed d h;
      fills = λ end sends e. alone-gaps s p.accepted p.closed end e sends h;
      ends = λ e.
          let synced = time_wait-synchronized s.phase e in
          alone-orderly s p.accepted p.closed (end-synchronized s synced h.progress).0 h;
      resends-between = λ from to _. alone-sending s p.accepted p.closed (with_resent d from to) refl refl
          (sends-resent d p.accepted p.closed (discards s.ending) from to h.sends) h;
      emits = λ due _ out. out.alone;
    }
