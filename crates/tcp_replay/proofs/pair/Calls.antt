-- THE CALLS, TIMERS AND EMISSIONS OF A PARTY, gone through once: what each has to keep, where it isn't refused.
use Rattle.tcp_replay.proofs.Words.{◌++◌, Aborted, ack_alone, after_abort, after_ack_alone, after_acknowledge, after_close, after_closing, after_connect}
use Rattle.tcp_replay.proofs.Words.{after_discarding, after_due, after_emission, after_gaps, after_listen, after_orderly_end, after_receive, after_reorder}
use Rattle.tcp_replay.proofs.Words.{after_resend, after_resend_first, after_retransmit, and_parts, arith, after_send, after_time_wait, AlreadyOpen, answer_unless, append-nil, AreBytes}
use Rattle.tcp_replay.proofs.Words.{and_from, Bool, bytes_unless, CallError, close_refusal, cond_both, count_sendable, Due, due_of, Ended, false, front_taken}
use Rattle.tcp_replay.proofs.Words.{IfSome, inl, inr, is_closed, is_end_of_stream, is_ended, is_handshake, is_ok, is_time_wait, is_unanswered, IsAlone}
use Rattle.tcp_replay.proofs.Words.{last_mark_end, length, List, Listen, lt-ltb, ltb-true, max, min, nat_lt, needs_probe, None, not, not-false, NotEnded, Ok, open_refusal}
use Rattle.tcp_replay.proofs.Words.{opening_refusal, Option, or_right, party_after_abort, party_after_acknowledge, party_after_close, party_after_connect}
use Rattle.tcp_replay.proofs.Words.{party_after_listen, party_after_receive, party_after_resend, party_after_resend_first, party_after_send, party_after_timer, PartyState}
use Rattle.tcp_replay.proofs.Words.{Peer, Pending, receive_refusal, Received, received_value, refl, refusal_if, Reorder, resends_between, Retransmit, send_refusal, Sending}
use Rattle.tcp_replay.proofs.Words.{sends_again, sends_text, Some, State, state_after, state_unless, take, takes_text, text_limit, true, with_abort}
use Rattle.tcp_replay.proofs.Words.{with_all_resent, with_bytes_received, with_closing, with_connection, with_gaps_resent, with_resent, with_text}
use Rattle.tcp_replay.proofs.Words.{◌+◌, ◌||◌, ℕ, ◌≡◌, ◌⊎◌, if◌then◌else◌}
use Rattle.tcp_conn.specs.declared.phase.Timer.{Timer}
use Rattle.tcp_conn.specs.declared.phase.Timer.TheVariants.{TimeWait}
use Rattle.tcp_replay.proofs.{one_end.Dues.or-none, one_end.AloneEmissions.ack-alone-goes, one_end.AloneEmissions.due-alone, one_end.AloneEmissions.GoesOutAlone, one_end.Phases.not_ended}

-- REFUSALS: a call that is refused changes nothing
pub unless-kept : (P : State → Type 0) (o : Option CallError) (s s' : State) → P s → (o ≡ None → P s') → P (state_unless o s s')
unless-kept P None s s' same next = next refl
unless-kept P (Some error) s s' same next = same

-- the reason of a refusal isn't there
pub refusal_if-none : (b : Bool) (error : CallError) → refusal_if b error ≡ None → b ≡ false
refusal_if-none true error e = absurd (cc)
refusal_if-none false error e = refl

-- an end that can be opened was never used
pub record CanOpen (s : State) : Type 0 where
  pub ending : s.ending ≡ NotEnded
  pub shut : is_closed s.phase ≡ true

-- an end at which CONNECT and LISTEN are not refused can be opened
pub can-open : (s : State) → opening_refusal s ≡ None → CanOpen s
can-open s e =
    let parts = or-none (refusal_if (is_ended s.ending) (Ended s.ending)) (refusal_if (not (is_closed s.phase)) AlreadyOpen) e in
    record {
      ending = not_ended s.ending (refusal_if-none (is_ended s.ending) (Ended s.ending) parts.0);
      shut = not-false (is_closed s.phase) (refusal_if-none (not (is_closed s.phase)) AlreadyOpen parts.1);
    }

-- nothing is added to a test
pub or-false : (b : Bool) → b || false ≡ b
or-false true = refl
or-false false = refl

-- a party with another end, one that has more accepted, and one that handed over more
abbrev pub with_end : PartyState → State → PartyState
with_end p s = record p { endpoint = s }

-- it has this end, and more accepted
abbrev pub with_accepted : PartyState → State → List ℕ → PartyState
with_accepted p s more = record p { endpoint = s; accepted = p.accepted ++ more }

-- it has this end, more delivered, and perhaps the end of the stream
abbrev pub with_delivered : PartyState → State → List ℕ → Bool → PartyState
with_delivered p s more ends = record p { endpoint = s; delivered = p.delivered ++ more; ended = p.ended || ends }

-- it has this end, and perhaps a close
abbrev pub with_closed : PartyState → State → Bool → PartyState
with_closed p s closes = record p { endpoint = s; closed = p.closed || closes }

-- what is owed after a retransmission timeout
abbrev pub pending_on_timeout : State → Pending
pending_on_timeout s = record s.pending { syn = s.pending.syn || is_handshake s.phase; probe = s.pending.probe || needs_probe s }

-- WHAT MAY GO OUT of an end: what is due, or the acknowledgement alone
abbrev pub MayGoOut : State → Due → Type 0
MayGoOut s due = (due_of s ≡ Some due) ⊎ (ack_alone s ≡ Some due)

-- where something in flight lies between two positions, something is in flight
between-in_flight : (s : State) (from to : ℕ) → resends_between s from to ≡ true → sends_again s ≡ true
between-in_flight s from to e =
    let parts = and_parts (sends_text s.phase) (nat_lt (max s.sending.snd_una from) (min s.sending.snd_nxt to)) e in
    and_from (sends_text s.phase) (nat_lt s.sending.snd_una s.sending.snd_nxt) parts.0
    (lt-ltb s.sending.snd_una s.sending.snd_nxt (omega (arith, ltb-true (max s.sending.snd_una from) (min s.sending.snd_nxt to) parts.1)))

-- WHAT EACH HAS TO KEEP of party p, a connection being opened to this peer
pub record KeptByCalls (peer : Peer) (p : PartyState) (P : PartyState → Type 0) : Type 0 where
  pub same : P p
  pub connects : CanOpen p.endpoint → P (with_end p (with_connection p.endpoint peer))
  pub listens : CanOpen p.endpoint → P (with_end p (record p.endpoint { phase = Listen }))
  pub sends : (text : List ℕ) → AreBytes text → send_refusal p.endpoint text ≡ None
      → P (with_accepted p (record p.endpoint { sending = with_text p.endpoint.sending p.endpoint.config.limit text })
      (take (count_sendable p.endpoint.sending p.endpoint.config.limit text) text))
  pub reads : (room : ℕ) → receive_refusal p.endpoint ≡ None
      → P (with_delivered p (with_bytes_received p.endpoint room) (take (min room (length p.endpoint.receiving.inbox.unread)) p.endpoint.receiving.inbox.unread)
      (is_end_of_stream (Ok (received_value p.endpoint room))))
  pub withdraws : P (record p { endpoint = record (after_discarding p.endpoint Aborted) { closing = true }; closed = true })
  pub closes : close_refusal p.endpoint ≡ None → is_unanswered p.endpoint.phase ≡ false → P (record p { endpoint = with_closing p.endpoint; closed = true })
  pub aborts : P (with_end p (with_abort p.endpoint))
  pub acknowledges : P (with_end p (record p.endpoint { pending = record p.endpoint.pending { ack = p.endpoint.pending.ack || takes_text p.endpoint.phase } }))
  pub resends : sends_again p.endpoint ≡ true
      → P (with_end p (record p.endpoint { sending = with_all_resent p.endpoint.sending; pending = pending_on_timeout p.endpoint }))
  pub probes : P (with_end p (record p.endpoint { pending = pending_on_timeout p.endpoint }))
  pub fills : (end : ℕ) → sends_text p.endpoint.phase ≡ true → last_mark_end p.endpoint.sending.queue ≡ Some end
      → P (with_end p (record p.endpoint { sending = with_gaps_resent p.endpoint.sending end }))
  pub ends : is_time_wait p.endpoint.phase ≡ true → P (with_end p (after_orderly_end p.endpoint))
  pub resends-between : (from to : ℕ) → sends_again p.endpoint ≡ true
      → P (with_end p (record p.endpoint { sending = with_resent p.endpoint.sending from to }))
  pub emits : (due : Due) → MayGoOut p.endpoint due → GoesOutAlone p.endpoint p.accepted p.closed due → P (with_end p (state_after p.endpoint due))

module _ (peer : Peer) (p : PartyState) (P : PartyState → Type 0) (h : KeptByCalls peer p P) where
  -- CONNECT, LISTEN
  pub on-connect : P (party_after_connect p peer)
  unfolding party_after_connect after_connect
  on-connect =
      unless-kept (λ s. P (with_end p s)) (opening_refusal p.endpoint) p.endpoint (with_connection p.endpoint peer) h.same
      (λ e. h.connects (can-open p.endpoint e))

  -- P holds after LISTEN
  pub on-listen : P (party_after_listen p)
  unfolding party_after_listen after_listen
  on-listen = unless-kept (λ s. P (with_end p s)) (opening_refusal p.endpoint) p.endpoint _ h.same (λ e. h.listens (can-open p.endpoint e))

  -- SEND, RECEIVE
  sent-unless : (o : Option CallError) (s : State) (n : ℕ) (text : List ℕ) → (o ≡ None → P (with_accepted p s (take n text)))
      → P (with_accepted p (state_unless o p.endpoint s) (front_taken (answer_unless o n) text))
  sent-unless None s n text next = next refl
  sent-unless (Some error) s n text next = rw (append-nil p.accepted) h.same

  -- after SEND
  pub on-send : (text : List ℕ) → AreBytes text → P (party_after_send p text)
  unfolding party_after_send after_send
  on-send text fits = sent-unless (send_refusal p.endpoint text) _ _ text (h.sends text fits)

  received-unless : (o : Option CallError) (s : State) (value : Received) (bytes : List ℕ)
      → (o ≡ None → P (with_delivered p s bytes (is_end_of_stream (Ok value))))
      → P (with_delivered p (state_unless o p.endpoint s) (bytes_unless o bytes) (is_end_of_stream (answer_unless o value)))
  received-unless None s value bytes next = next refl
  received-unless (Some error) s value bytes next = rw (append-nil p.delivered, or-false p.ended) h.same

  -- after RECEIVE
  pub on-receive : (room : ℕ) → P (party_after_receive p room)
  unfolding party_after_receive after_receive
  on-receive room = received-unless (receive_refusal p.endpoint) _ _ _ (h.reads room)

  -- CLOSE, ABORT, ACKNOWLEDGE
  closed-unless : (o : Option CallError) (s : State) → (o ≡ None → P (record p { endpoint = s; closed = true }))
      → P (with_closed p (state_unless o p.endpoint s) (is_ok (answer_unless {A = Unit {0}} o tt)))
  closed-unless None s next = rw (or_right p.closed true refl) (next refl)
  closed-unless (Some error) s next = rw (or-false p.closed) h.same

  -- after CLOSE
  pub on-close : P (party_after_close p)
  unfolding party_after_close after_close
  on-close = closed-unless (close_refusal p.endpoint) (after_closing p.endpoint) (λ e.
      cond_both (is_unanswered p.endpoint.phase) (record (after_discarding p.endpoint Aborted) { closing = true }) (with_closing p.endpoint)
      (λ (s : State). P (record p { endpoint = s; closed = true })) (λ _. h.withdraws) (h.closes e))

  -- after ABORT
  pub on-abort : P (party_after_abort p)
  unfolding party_after_abort after_abort
  on-abort = unless-kept (λ s. P (with_end p s)) (open_refusal p.endpoint) p.endpoint (with_abort p.endpoint) h.same (λ _. h.aborts)

  -- after the call that asks for an acknowledgement
  pub on-acknowledge : P (party_after_acknowledge p)
  unfolding party_after_acknowledge after_acknowledge
  on-acknowledge = h.acknowledges

  -- TIMERS
  on-gaps : (end : Option ℕ) → last_mark_end p.endpoint.sending.queue ≡ end → sends_text p.endpoint.phase ≡ true
      → P (with_end p (record p.endpoint { sending = after_gaps p.endpoint.sending end }))
  on-gaps None e sends = h.same
  on-gaps (Some end) e sends = h.fills end sends e

  -- after any of the timers
  pub on-timer : (timer : Timer) → P (party_after_timer p timer)
  unfolding party_after_timer after_retransmit after_reorder after_time_wait
  on-timer Retransmit =
      cond_both (sends_again p.endpoint) (with_all_resent p.endpoint.sending) p.endpoint.sending
      (λ (d : Sending). P (with_end p (record p.endpoint { sending = d; pending = pending_on_timeout p.endpoint }))) h.resends (λ _. h.probes)
  on-timer Reorder =
      cond_both (sends_text p.endpoint.phase) (last_mark_end p.endpoint.sending.queue) None
      (λ (end : Option ℕ). P (with_end p (record p.endpoint { sending = after_gaps p.endpoint.sending end })))
      (on-gaps (last_mark_end p.endpoint.sending.queue) refl) (λ _. h.same)
  on-timer TimeWait = cond_both (is_time_wait p.endpoint.phase) (after_orderly_end p.endpoint) p.endpoint (λ (s : State). P (with_end p s)) h.ends (λ _. h.same)

  -- A STRETCH AGAIN, where a test of what is in flight says so
  on-stretch : (test : Bool) (from to : ℕ) → (test ≡ true → sends_again p.endpoint ≡ true)
      → P (with_end p (record p.endpoint { sending = if test then with_resent p.endpoint.sending from to else p.endpoint.sending }))
  on-stretch test from to flight =
      cond_both test (with_resent p.endpoint.sending from to) p.endpoint.sending
      (λ (d : Sending). P (with_end p (record p.endpoint { sending = d }))) (λ e. h.resends-between from to (flight e)) (λ _. h.same)

  -- after the call that sends the first segment again
  pub on-resend-first : P (party_after_resend_first p)
  unfolding party_after_resend_first after_resend_first
  on-resend-first =
      let una = p.endpoint.sending.snd_una in
      on-stretch (sends_again p.endpoint) una (una + text_limit p.endpoint) (λ e. e)

  -- after the call that sends what lies between two positions again
  pub on-resend : (from to : ℕ) → P (party_after_resend p from to)
  unfolding party_after_resend after_resend
  on-resend from to = on-stretch (resends_between p.endpoint from to) from to (between-in_flight p.endpoint from to)

  -- EMIT, by what goes out
  pub on-due : (due : Option Due) → ((d : Due) → due ≡ Some d → MayGoOut p.endpoint d) → IfSome due (GoesOutAlone p.endpoint p.accepted p.closed)
      → P (with_end p (after_due p.endpoint due))
  on-due None may out = h.same
  on-due (Some due) may out = h.emits due (may due refl) out

  -- after an emission
  pub on-emission : IsAlone p.endpoint p.accepted p.closed → P (with_end p (after_emission p.endpoint))
  unfolding after_emission
  on-emission alone = on-due (due_of p.endpoint) (λ d e. inl e) (due-alone p.endpoint p.accepted p.closed alone)

  -- and after that of the acknowledgement alone
  pub on-ack-alone : IsAlone p.endpoint p.accepted p.closed → P (with_end p (after_ack_alone p.endpoint))
  unfolding after_ack_alone
  on-ack-alone alone = on-due (ack_alone p.endpoint) (λ d e. inr e) (ack-alone-goes p.endpoint p.accepted p.closed alone)
