-- The user's calls, the timers and the emissions: both directions stay sound.
use Rattle.tcp_replay.proofs.Words.{◌++◌, ◌==◌, [], Aborted, address_of, after_discarding, append-nil, AreBytes, arith, Bytes, cond_both, count_sendable}
use Rattle.tcp_replay.proofs.Words.{discards, EndOfStream, eqb-true, false, false≢true, has_peer, IfSome, if◌then◌else◌, is_end_of_stream, IsSoundPair}
use Rattle.tcp_replay.proofs.Words.{length, List, min, nil_from_length, None, Nothing, Ok, Option, own_reset, PartyState, phase_after_close}
use Rattle.tcp_replay.proofs.Words.{receive_refusal, Received, received_value, refl, reset_after_abort, resets_on_abort, send_refusal, Some, SpeaksTo}
use Rattle.tcp_replay.proofs.Words.{State, sym, take, true, WaitingReset, with_bytes_received, with_text, ◌||◌, ℕ, ◌∙◌, ◌≡◌}
use Rattle.tcp_replay.proofs.one_end.Phases.{discards-not_ended, end-synchronized, knows-closing, resets_on_abort-knows, time_wait-synchronized}
use Rattle.tcp_replay.proofs.one_end.AloneCalls.{alone-bytes_received, alone-calls, alone-close_asked, alone-close_begun, alone-own_reset, alone-with_text}
use Rattle.tcp_replay.proofs.one_end.AloneCalls.{receive-open, send-open, send-unclosed}
use Rattle.tcp_replay.proofs.{pair.Calls.KeptByCalls, pair.Emissions.goes-out, pair.Halves.accepted-limit, pair.Halves.delivers-ended}
use Rattle.tcp_replay.proofs.{pair.Halves.delivers-read, pair.Halves.takes-read, pair.Steps.Kept, pair.Steps.kept-alone, pair.Steps.kept-discarded}
use Rattle.tcp_replay.proofs.{pair.Steps.kept-orderly, pair.Steps.kept-same, pair.Steps.Moved}

-- SEND
moved-sent : (p q : PartyState) (text : List ℕ) → AreBytes text → IsSoundPair p q → send_refusal p.endpoint text ≡ None
    → Moved p (record p {
      endpoint = record p.endpoint { sending = with_text p.endpoint.sending p.endpoint.config.limit text };
      accepted = p.accepted ++ take
          (count_sendable p.endpoint.sending p.endpoint.config.limit text) text;
    }) q
moved-sent p q text bytes h e =
    let s = p.endpoint in
    let unclosed : p.closed ≡ false = send-unclosed s p.accepted text p.closed e h.there.alone in
    let none : discards s.ending ≡ false = discards-not_ended s.ending (send-open s text e).0 in
    let takes = h.there.takes in
    let delivers = h.there.delivers in
    let alone = alone-with_text s p.accepted text p.closed bytes e h.there.alone in
    let limit = accepted-limit s.sending s.config.limit p.accepted text p.closed h.there.limit (rw none at h.there.alone.sends) in
    record {
      here = assumption;
      config = refl;
      grows = record {
        iss = refl;
        irs = refl;
        more = take (count_sendable s.sending s.config.limit text) text;
        accepted = refl;
        closed = λ closed. absurd (false≢true (sym unclosed ∙ closed));
        opened = λ opened. opened;
        next = omega arith;
      };
    }

-- RECEIVE
-- the end of the stream is handed over where nothing is unread and the FIN was taken
ends-all : (s : State) (room : ℕ) → is_end_of_stream (Ok (received_value s room)) ≡ true → (s.receiving.finished ≡ true) × (s.receiving.inbox.unread ≡ [])
ends-all s room =
    let P : Received → Type 0 = λ value. is_end_of_stream (Ok value) ≡ true → (s.receiving.finished ≡ true) × (s.receiving.inbox.unread ≡ []) in
    cond_both (length s.receiving.inbox.unread == 0) (if s.receiving.finished then EndOfStream else Nothing)
    (Bytes (min room (length s.receiving.inbox.unread))) P
    (λ none. cond_both s.receiving.finished EndOfStream Nothing P
    (λ finished told. (finished, nil_from_length s.receiving.inbox.unread (eqb-true (length s.receiving.inbox.unread) 0 none)))
    (λ _ never. absurd (cc)))
    (λ _ never. absurd (cc))

moved-received : (p q : PartyState) (room : ℕ) → IsSoundPair p q → receive_refusal p.endpoint ≡ None
    → Moved p (record p {
      endpoint = with_bytes_received p.endpoint room;
      delivered = p.delivered ++ take (min room (length p.endpoint.receiving.inbox.unread)) p.endpoint.receiving.inbox.unread;
      ended = p.ended || is_end_of_stream (Ok (received_value p.endpoint room));
    }) q
moved-received p q room h e =
    let s = p.endpoint in
    let irs = q.endpoint.config.isn.0 in
    let gone = receive-open s e in
    let ends = is_end_of_stream (Ok (received_value s room)) in
    let last = delivers-ended s.receiving irs q.accepted q.closed p.delivered p.ended (discards s.ending) ends
    (ends-all s room) gone h.there.takes h.there.delivers in
    let takes = takes-read s.receiving irs q.accepted q.closed room h.there.takes in
    let delivers = delivers-read s.receiving q.accepted q.closed p.delivered (p.ended || ends) (discards s.ending) room last in
    let alone = alone-bytes_received s p.accepted p.closed room h.there.alone in
    record {
      here = assumption;
      config = refl;
      grows = record {
        iss = refl;
        irs = refl;
        more = [];
        accepted = sym (append-nil p.accepted);
        closed = λ closed. (refl, closed);
        opened = λ opened. opened;
        next = omega arith;
      };
    }

-- CLOSE: the FIN may follow
moved-closed : (p q : PartyState) (s : State) → Kept p q s → Moved p (record p { endpoint = record s { closing = true }; closed = true }) q
moved-closed p q s h =
    let alone = alone-close_asked s p.accepted p.closed h.here.alone in
    record {
      here = assumption;
      config = h.config;
      grows = record {
        iss = h.grows.iss;
        irs = h.grows.irs;
        more = [];
        accepted = sym (append-nil p.accepted);
        closed = λ _. (refl, refl);
        opened = h.grows.opened;
        next = h.grows.next;
      };
    }

-- ABORT: the waiting reset goes to the peer
reset-speaks : (s : State) (addr : List ℕ) → SpeaksTo s addr → IfSome (reset_after_abort s) (λ r. r.to.addr.0 ≡ addr)
reset-speaks s addr h =
    cond_both (resets_on_abort s.phase) (Some (own_reset s)) s.pending.reset (λ (o : Option WaitingReset). IfSome o (λ r. r.to.addr.0 ≡ addr))
    (λ e. h.peer (resets_on_abort-knows s.phase e)) (λ _. h.reset)

-- ALL OF THEM, timers and emissions
pub sound-calls : (p q : PartyState) → IsSoundPair p q → KeptByCalls (address_of q) p (λ p'. Moved p p' q)
sound-calls p q h =
    let s = p.endpoint in
    let addr = q.endpoint.config.addr.0 in
    let alone = alone-calls (address_of q) p h.back.alone.config.port h.there.alone in
    let k : Kept p q s = kept-same p q h in
    let peer = h.there.speaks.peer in
    let reset = h.there.speaks.reset in
    let knows : has_peer (phase_after_close s.phase) ≡ has_peer s.phase = knows-closing s.phase in
    let low = h.there.between in
    record {
      same = k;
      connects = λ can. kept-alone p q s _ k refl (alone.connects can) (record { peer = λ _. refl; reset = reset }) refl refl (omega arith);
      listens = λ can. kept-alone p q s _ k refl (alone.listens can) (record { peer = λ never. absurd (cc); reset = reset }) refl refl low;
      sends = λ text fits e. moved-sent p q text fits h e;
      reads = λ room e. moved-received p q room h e;
      withdraws = moved-closed p q (after_discarding s Aborted) (kept-discarded p q s Aborted refl k);
      closes = λ _ _. moved-closed p q (record s { phase = phase_after_close s.phase })
          (kept-alone p q s _ k refl (alone-close_begun s p.accepted p.closed h.there.alone)
          (record { peer = λ e. peer (sym knows ∙ e); reset = reset }) refl refl low);
      aborts =
          let told : State = record s { pending = record s.pending { reset = reset_after_abort s } } in
          let speaks : SpeaksTo told addr = record { peer = peer; reset = reset-speaks s addr h.there.speaks } in
          kept-discarded p q told Aborted refl (kept-alone p q s told k refl (alone-own_reset s p.accepted p.closed h.there.alone) speaks refl refl low);
      acknowledges = kept-alone p q s _ k refl alone.acknowledges (record { peer = peer; reset = reset }) refl refl low;
      resends = λ e. kept-alone p q s _ k refl (alone.resends e) (record { peer = peer; reset = reset }) refl refl low;
      probes = kept-alone p q s _ k refl alone.probes (record { peer = peer; reset = reset }) refl refl low;
      fills = λ end sends e. kept-alone p q s _ k refl (alone.fills end sends e) (record { peer = peer; reset = reset }) refl refl low;
      ends = λ e.
          let synced = time_wait-synchronized s.phase e in
          kept-orderly p q s (end-synchronized s synced h.there.alone.progress).0 k;
      resends-between = λ from to e. kept-alone p q s _ k refl (alone.resends-between from to e) (record { peer = peer; reset = reset }) refl refl low;
      emits = λ due _ out. (goes-out p q due h out).kept;
    }
