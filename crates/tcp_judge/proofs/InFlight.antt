-- WHAT AN END SENDS AGAIN was sent: what its peer reports as received lies before SND.NXT, and so does what a timer asks for (RFC
-- 9293, 3.8.1; RFC 2018, 5). And SND.NXT itself moves on with what goes out, and from 0 to 1 with an opening.
use Rattle.tcp_replay.proofs.Words.{◌≡◌, ℕ, ◌+◌, ◌-◌, ◌<◌, ◌≤◌, ◌&&◌, max, Bool, true, List, length, Option, Some, None, IfSome, subst, arith}
use Rattle.tcp_replay.proofs.Words.{nat_lt, nat_le, and_parts, ltb-true, leb-true, cond_both, ⊎_elim, inl, inr, slice_get_within}
use Rattle.tcp_replay.proofs.Words.{IsMarked, after_release, after_mark, can_mark, marks_with, marks_with-only, last_mark_end, end_of_marks, end_of_marks-marked}
use Rattle.tcp_replay.proofs.Words.{IsMarked-after_offer, IsMarked-after_release, IsMarked-without_marks}
use Rattle.tcp_replay.proofs.Words.{Sending, Sends, place_of, position_at, count_below, acks_more, with_acked, after_ack, is_of_flight, marks_text, with_marks}
use Rattle.tcp_replay.proofs.Words.{with_text, with_window, with_syn_sent, with_syn_acked, without_resend, without_text, after_gaps, range_after, end_of_text}
use Rattle.tcp_replay.proofs.Words.{State, Content, IsAlone, Due, Text, text_limit, new_count, PartyState, Peer}
use Rattle.tcp_replay.proofs.Words.{after_discarding, Aborted, after_own_syn, after_acked_text, after_window_and_blocks, after_own_fin, after_its_ack, after_its_text, after_fin}
use Rattle.tcp_replay.proofs.Words.{after_taking, after_taking_shut, after_peer_opens, after_peer_accepts, after_judgement, Judgement, judgement, is_listening, is_syn_received}
use Rattle.tcp_replay.proofs.Words.{position_near, window_from, discards, sending_after}
use Rattle.tcp_replay.proofs.Words.{Foreign, PeerResets, PeerOpens, PeerAccepts, Taken, TakenShut}
use Rattle.tcp_replay.proofs.Lemmas.{range-more, range_after-ends, KeptByCalls, KeptByDue, due-kept, ack_alone-kept, again-kept, IsAfterSyn, judged}
use Rattle.tcp_replay.proofs.Lemmas.{end-closed, end-listen, own_fin-cases, window_and_blocks-cases, windowed-sends, marked-sends}
use Rattle.tcp_replay.proofs.one_end.Alone.{alone-own_syn, own_syn-synced, alone-acked_text}
use Rattle.tcp_replay.proofs.one_end.Judgements.{IsTaken, IsAckOnly, IsSyn}

pub record IsInFlight (d : Sending) : Type 0 where
  -- what goes out again ends at SND.NXT at most
  pub range : IfSome d.resend (λ range. range.end ≤ d.snd_nxt)
  -- and what the peer marked lies below it
  pub marks : (place : ℕ) → IsMarked d.queue place → position_at d place < d.snd_nxt

-- ---- CALLS AND TIMERS
flight-syn_sent : (d : Sending) → d.snd_nxt ≡ 0 → IsInFlight d → IsInFlight (with_syn_sent d)
flight-syn_sent d new h = record {
  range = range-more d.snd_nxt 1 d.resend (omega (arith, new)) h.range;
  marks = λ place is. omega (arith, new, h.marks place is);
}

flight-text : (d : Sending) (limit : ℕ) (text : List ℕ) → IsInFlight d → IsInFlight (with_text d limit text)
flight-text d limit text h = record { range = h.range; marks = λ at is. h.marks at (IsMarked-after_offer d.queue _ at is) }

flight-orderly : (d : Sending) → IsInFlight d → IsInFlight (without_resend d)
flight-orderly d h = record { range = tt; marks = h.marks }

none-marked : (d : Sending) (place : ℕ) → length d.queue.marks ≡ length d.queue.bytes → IsMarked (after_release d.queue (length d.queue.bytes)) place → ⊥
none-marked d place flags is =
    let inside : length d.queue.bytes + place < length d.queue.marks = slice_get_within d.queue.marks (length d.queue.bytes + place) true
    (IsMarked-after_release d.queue (length d.queue.bytes) place is) in
    omega (arith, flags)

flight-discarded : (d : Sending) → length d.queue.marks ≡ length d.queue.bytes → IsInFlight d → IsInFlight (without_text d)
flight-discarded d flags h = record { range = tt; marks = λ place is. absurd (none-marked d place flags is) }

mark_end-sent : (d : Sending) (end : ℕ) → last_mark_end d.queue ≡ Some end → IsInFlight d → position_at d end ≤ d.snd_nxt
unfolding last_mark_end
mark_end-sent d end e h =
    let last = end_of_marks d.queue.marks in
    cond_both (nat_lt 0 last) (Some last) None (λ (o : Option ℕ). o ≡ Some end → position_at d end ≤ d.snd_nxt) (λ some e.
    let same : last ≡ end = cc in
    let least : 0 < last = ltb-true 0 last some in
    let below : position_at d (last - 1) < d.snd_nxt = h.marks (last - 1) (end_of_marks-marked d.queue.marks least) in
    omega (arith, same, least, below)) (λ _ e. absurd (cc)) e

flight-gaps : (d : Sending) (end : Option ℕ) → last_mark_end d.queue ≡ end → IsInFlight d → IsInFlight (after_gaps d end)
flight-gaps d None e h = h
flight-gaps d (Some end) e h = record { range = mark_end-sent d end e h; marks = h.marks }

-- ---- WHAT GOES OUT
flight-moved : (d : Sending) (n : ℕ) → IsInFlight d → IsInFlight (record d { snd_nxt = max d.snd_nxt n })
flight-moved d n h = record {
  range = range-more d.snd_nxt (max d.snd_nxt n) d.resend (omega arith) h.range;
  marks = λ place is. omega (arith, h.marks place is);
}

flight-again : (d : Sending) (n : ℕ) → IsInFlight d → IsInFlight (record d { snd_nxt = max d.snd_nxt n; resend = range_after n d.resend })
flight-again d n h = record {
  range = range_after-ends (max d.snd_nxt n) n d.resend (range-more d.snd_nxt (max d.snd_nxt n) d.resend (omega arith) h.range);
  marks = λ place is. omega (arith, h.marks place is);
}

flight-due : (s : State) → IsInFlight s.sending → KeptByDue s (λ due. IsInFlight (sending_after s.sending due))
flight-due s h =
    let d = s.sending in
    record {
      resets = λ _ _. flight-moved d 0 h;
      syn = λ _. flight-moved d 1 h;
      acks = λ _. flight-moved d d.snd_nxt h;
      again = λ _. again-kept d (text_limit s) (λ sent. IsInFlight (sending_after d (Text sent)))
          (record { text = λ range start k again ends _ _. flight-again d (start + k) h; fin = λ range again. flight-again d (end_of_text d + 1) h });
      new_text = λ _ _. flight-moved d (d.snd_nxt + new_count d (text_limit s) s.pending.probe) h;
      fin = λ _ _ _. flight-moved d (d.snd_nxt + 1) h;
    }

-- ALL CALLS, timers and emissions
pub flight-calls : (peer : Peer) (p : PartyState) → IsAlone p.endpoint p.accepted p.closed → IsInFlight p.endpoint.sending
    → KeptByCalls peer p (λ p'. IsInFlight p'.endpoint.sending)
flight-calls peer p alone h =
    let s = p.endpoint in
    let d = s.sending in
    let gone : IsInFlight (after_discarding s Aborted).sending = flight-discarded d alone.sends.flags h in
    record {
      same = h;
      connects = λ can. flight-syn_sent d (end-closed s can.shut can.ending alone.progress).snd_nxt_is h;
      listens = λ _. h;
      sends = λ text _ _. flight-text d s.config.limit text h;
      reads = λ _ _. h;
      withdraws = gone;
      closes = λ _ _. h;
      aborts = gone;
      acknowledges = h;
      resends = λ _. record { range = omega arith; marks = λ place is. absurd (IsMarked-without_marks d.queue place is) };
      probes = h;
      fills = λ end _ e. flight-gaps d (Some end) e h;
      ends = λ _. flight-orderly d h;
      resends-between = λ from to _. record { range = omega arith; marks = h.marks };
      emits = λ due may _. elim may [
        | inl is ↦ subst (λ (o : Option Due). IfSome o (λ due. IsInFlight (sending_after d due))) is
            (due-kept s (λ due. IsInFlight (sending_after d due)) (flight-due s h))
        | inr is ↦ subst (λ (o : Option Due). IfSome o (λ due. IsInFlight (sending_after d due))) is
            (ack_alone-kept s (λ due. IsInFlight (sending_after d due)) (flight-due s h))
      ];
    }

-- ---- WHAT ARRIVES
flight-window : (d : Sending) (seq ack window : ℕ) → IsInFlight d → IsInFlight (with_window d seq ack window)
flight-window d seq ack window h = record { range = h.range; marks = h.marks }

flight-syn_acked : (d : Sending) → IsInFlight d → IsInFlight (with_syn_acked d)
flight-syn_acked d h = record { range = h.range; marks = h.marks }

-- a release takes bytes with their marks
flight-acked : (d : Sending) (a : ℕ) → IsInFlight d → IsInFlight (after_ack d a)
unfolding after_ack
flight-acked d a h =
    cond_both (acks_more d a) (with_acked d a) d IsInFlight (λ _. record {
      range = h.range;
      marks = λ place is. omega (arith, h.marks (count_below d a + place) (IsMarked-after_release d.queue (count_below d a) place is));
    }) (λ _. h)

-- blocks mark what was sent
flight-marked : (d : Sending) (left right : ℕ) → marks_text d left right ≡ true → length d.queue.marks ≡ length d.queue.bytes → IsInFlight d
    → IsInFlight (with_marks d left right)
unfolding after_mark
flight-marked d left right e flags h =
    let from = place_of d left in
    let to = count_below d right in
    let parts = and_parts (is_of_flight d left right) (nat_lt from to) e in
    let order : from < to = ltb-true from to parts.1 in
    let flight = and_parts (nat_lt d.snd_una left) (nat_lt left right && nat_le right d.snd_nxt) parts.0 in
    let sent : right ≤ d.snd_nxt = leb-true right d.snd_nxt (and_parts (nat_lt left right) (nat_le right d.snd_nxt) flight.1).1 in
    record {
      range = h.range;
      marks = cond_both (can_mark d.queue from to) (marks_with from to d.queue.marks) d.queue.marks
          (λ (marks : List Bool). (place : ℕ) → IsMarked (record d.queue { marks = marks }) place → position_at d place < d.snd_nxt) (λ _ place is.
          ⊎_elim (h.marks place) (λ (inside : (from ≤ place) × (place < to)). omega (arith, inside.0, inside.1, sent))
          (marks_with-only from to d.queue.marks place (omega (arith, order)) (omega (arith, flags)) is)) (λ _. h.marks);
    }

flight-own_syn : (s : State) (v : Content) → IsInFlight s.sending → IsInFlight (after_own_syn s v).sending
unfolding after_own_syn
flight-own_syn s v h =
    let d = s.sending in
    let told = window_from s.link v.window in
    cond_both (is_syn_received s.phase) (with_window (with_syn_acked d) v.seq v.ack told) d IsInFlight
    (λ _. flight-window (with_syn_acked d) v.seq v.ack told (flight-syn_acked d h)) (λ _. h)

flight-acked_text : (s : State) (v : Content) → IsInFlight s.sending → IsInFlight (after_acked_text s v).sending
unfolding after_acked_text
flight-acked_text s v h = flight-acked s.sending (position_near s v.ack) h

flight-news : (s : State) (v : Content) (accepted : List ℕ) (closed : Bool) → Sends s.sending accepted closed (discards s.ending) → IsInFlight s.sending
    → IsInFlight (after_window_and_blocks s v).sending
flight-news s v accepted closed sends h =
    let gone = discards s.ending in
    (window_and_blocks-cases (λ d. Sends d accepted closed gone × IsInFlight d) s v
    (λ d k. (windowed-sends d v.seq v.ack _ accepted closed gone k.0, flight-window d v.seq v.ack _ k.1))
    (λ d left right e k. (marked-sends d left right accepted closed gone e k.0, flight-marked d left right e k.0.flags k.1)) (sends, h)).1

flight-own_fin : (s : State) → IsInFlight s.sending → IsInFlight (after_own_fin s).sending
flight-own_fin s h = own_fin-cases s (λ (x : State). IsInFlight x.sending) (λ _ _. flight-orderly s.sending h) (λ _ _. h) (λ _. h)

flight-its_ack : (s : State) (v : Content) (accepted : List ℕ) (closed : Bool) → IsAfterSyn s → IsAlone s accepted closed → IsInFlight s.sending
    → IsInFlight (after_its_ack s v).sending
unfolding after_its_ack
flight-its_ack s v accepted closed after_syn a h =
    let first = after_own_syn s v in
    let second = after_acked_text first v in
    let alone = alone-acked_text first accepted closed v (own_syn-synced s v after_syn) (alone-own_syn s accepted closed v after_syn a) in
    flight-own_fin (after_window_and_blocks second v)
    (flight-news second v accepted closed alone.sends (flight-acked_text first v (flight-own_syn s v h)))

flight-taking : (s : State) (v : Content) (accepted : List ℕ) (closed : Bool) → IsAfterSyn s → IsAlone s accepted closed → IsInFlight s.sending
    → IsInFlight (after_taking s v).sending
unfolding after_taking after_its_text after_fin
flight-taking s v accepted closed after_syn a h = flight-its_ack s v accepted closed after_syn a h

flight-shut : (s : State) (v : Content) (accepted : List ℕ) (closed : Bool) → IsAfterSyn s → IsAlone s accepted closed → IsInFlight s.sending
    → IsInFlight (after_taking_shut s v).sending
unfolding after_taking_shut
flight-shut s v accepted closed after_syn a h = flight-its_ack s v accepted closed after_syn a h

flight-opens : (s : State) (src : List ℕ) (v : Content) (accepted : List ℕ) (closed : Bool) → is_listening s.phase ≡ true → IsAlone s accepted closed
    → IsInFlight s.sending → IsInFlight (after_peer_opens s src v).sending
unfolding after_peer_opens
flight-opens s src v accepted closed listening a h = flight-syn_sent s.sending (end-listen s listening a.progress).1.snd_nxt_is h

flight-accepts : (s : State) (v : Content) → IsInFlight s.sending → IsInFlight (after_peer_accepts s v).sending
unfolding after_peer_accepts
flight-accepts s v h = flight-window (with_syn_acked s.sending) v.seq v.ack v.window (flight-syn_acked s.sending h)

pub flight-judgement : (s : State) (src dst : List ℕ) (v : Content) (accepted : List ℕ) (closed : Bool) → IsAlone s accepted closed → IsInFlight s.sending
    → IsInFlight (after_judgement (judgement s src dst v) s src v).sending
flight-judgement s src dst v accepted closed a h =
    let J : Judgement → Type 0 = λ j. IsInFlight (after_judgement j s src v).sending in
    let same : J Foreign = h in
    let gone : J PeerResets = flight-discarded s.sending a.sends.flags h in
    let opens : is_listening s.phase ≡ true → IsSyn v → J PeerOpens = λ listening _. flight-opens s src v accepted closed listening a h in
    let accepts : J PeerAccepts = flight-accepts s v h in
    let taken : IsAfterSyn s → IsTaken s v → J Taken = λ after_syn _. flight-taking s v accepted closed after_syn a h in
    let shut : IsAfterSyn s → IsAckOnly v → J TakenShut = λ after_syn _. flight-shut s v accepted closed after_syn a h in
    judged s v J (assumption) src dst
