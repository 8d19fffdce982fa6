-- NO END SENDS PAST WHAT THE OTHER HAS ROOM FOR, on the definitions: every event keeps it, where the windows that the ends advertise fit their room.
use Rattle.tcp_replay.proofs.Words.{◌&&◌, ◌+◌, ◌++◌, ◌-◌, ◌<◌, ◌==◌, Aborted, acks_more, address_of, after_ack, after_acked_text, after_discarding}
use Rattle.tcp_replay.proofs.Words.{after_gaps, after_mark, after_own_syn, after_peer_accepts, after_peer_opens, after_release, after_window_and_blocks}
use Rattle.tcp_replay.proofs.Words.{and_parts, arith, Bool, can_mark, cond_both, Config, Content, count_allowed, count_below, count_sendable, count_unsent}
use Rattle.tcp_replay.proofs.Words.{discards, Due, end_of_marks, end_of_marks-marked, end_of_text, eqb-true, false, IfSome, inl, inr, is_of_flight}
use Rattle.tcp_replay.proofs.Words.{is_probe_needed, is_syn_received, IsAlone, IsMarked, IsMarked-after_offer, IsMarked-after_release}
use Rattle.tcp_replay.proofs.Words.{IsMarked-without_marks, IsSoundPair, last_mark_end, leb-true, length, length-append, List, ltb-true, marks_text}
use Rattle.tcp_replay.proofs.Words.{marks_with, marks_with-only, max, min, nat_le, nat_lt, nat_tests, needs_probe, new_count, party_with_runs, NewText, None}
use Rattle.tcp_replay.proofs.Words.{Option, or_cases, PartyState, Pending, pending_after, place_of, position_at, position_near, Range, range_after}
use Rattle.tcp_replay.proofs.Words.{rcv_position_of, send_refusal, Sending, sending_after, Sends, sends_text, SentSegment, slice_get_within, Some, State}
use Rattle.tcp_replay.proofs.Words.{subst, take, text_limit, true, window_from, with_acked, with_marks, with_syn_acked, with_syn_sent, with_text}
use Rattle.tcp_replay.proofs.Words.{with_window, without_resend, without_text, ◌||◌, ℕ, ◌≡◌, ◌≤◌, ⊎_elim}
use Rattle.tcp_replay.proofs.Lemmas.{ack_alone-kept, after_segment, after_syn-opened, again-kept, Arrives, Both, both-swapped, due-kept, end-closed}
use Rattle.tcp_replay.proofs.Lemmas.{end-is, end-listen, going-on, IsAckOnly, IsAfterSyn, kept-same, KeptByCalls, KeptByDue, marked-sends, on-arrival}
use Rattle.tcp_replay.proofs.Lemmas.{one_if-false, PairKept, range-more, range_after-ends, send-unclosed, window_and_blocks-cases, windowed-sends}
use Rattle.tcp_progress.proofs.Words.{AdvertisesWithin}
use Rattle.tcp_replay.proofs.Words.{Text}

-- what x keeps of the direction to y, of whose stream it has `count` bytes from its user, when y wants `next` and has room for `capacity`
pub record KeepsEdge (d : Sending) (probe : Bool) (count next capacity : ℕ) : Type 0 where
  pub sent : min d.snd_nxt (1 + count) ≤ next + capacity
  -- in flight is no more than that room
  pub near : min d.snd_nxt (1 + count) ≤ d.snd_una + capacity
  pub window : d.snd_wnd ≤ capacity
  -- a probe is granted only while no text is in flight (RFC 9293, 3.8.6.1)
  pub probed : probe ≡ true → (1 ≤ d.snd_una) × (min d.snd_nxt (1 + count) ≤ d.snd_una)
  -- what goes out again ends at SND.NXT at most
  pub range : IfSome d.resend (λ range. range.end ≤ d.snd_nxt)
  -- and what the peer marked lies below it
  pub marks : (place : ℕ) → IsMarked d.queue place → position_at d place < d.snd_nxt

-- the peer wants a later position, and more may have been accepted of what wasn't sent
pub edge-more : (d : Sending) (probe : Bool) (count count' next next' capacity : ℕ) → min d.snd_nxt (1 + count') ≤ min d.snd_nxt (1 + count) → next ≤ next'
    → KeepsEdge d probe count next capacity → KeepsEdge d probe count' next' capacity
edge-more d probe count count' next next' capacity same more h = record {
  sent = omega (arith, same, more, h.sent);
  near = omega (arith, same, h.near);
  window = h.window;
  probed = λ e. let at = h.probed e in (at.0, omega (arith, same, at.1));
  range = h.range;
  marks = h.marks;
}

module _ (count next capacity : ℕ) where
  -- the half keeps its edge
  abbrev pub Edge : Sending → Bool → Type 0
  Edge d probe = KeepsEdge d probe count next capacity

  -- nothing is pending any more
  edge-unprobed : (d : Sending) (probe : Bool) → Edge d probe → Edge d false
  edge-unprobed d probe h = record { sent = h.sent; near = h.near; window = h.window; probed = λ never. absurd (cc); range = h.range; marks = h.marks }

  -- the SYN is sent
  pub edge-syn_sent : (d : Sending) (probe : Bool) → d.snd_nxt ≡ 0 → d.snd_una ≤ d.snd_nxt → 1 ≤ next → 1 ≤ capacity → Edge d probe → Edge (with_syn_sent d) probe
  edge-syn_sent d probe new order some wide h = record {
    sent = omega (arith, some);
    near = omega (arith, wide);
    window = h.window;
    probed = λ e. absurd (omega (arith, new, order, (h.probed e).0));
    range = range-more d.snd_nxt 1 d.resend (omega (arith, new)) h.range;
    marks = λ place is. omega (arith, new, h.marks place is);
  }

  -- text is accepted
  pub edge-text : (d : Sending) (probe : Bool) (limit : ℕ) (text : List ℕ) → Edge d probe → Edge (with_text d limit text) probe
  edge-text d probe limit text h =
      record {
        sent = h.sent;
        near = h.near;
        window = h.window;
        probed = h.probed;
        range = h.range;
        marks = λ at is. h.marks at (IsMarked-after_offer d.queue _ at is);
      }

  -- the connection has ended
  pub edge-orderly : (d : Sending) (probe : Bool) → Edge d probe → Edge (without_resend d) false
  edge-orderly d probe h = record { sent = h.sent; near = h.near; window = h.window; probed = λ never. absurd (cc); range = tt; marks = h.marks }

  none-marked : (d : Sending) (place : ℕ) → length d.queue.marks ≡ length d.queue.bytes → IsMarked (after_release d.queue (length d.queue.bytes)) place → ⊥
  none-marked d place flags is =
      let inside : length d.queue.bytes + place < length d.queue.marks = slice_get_within d.queue.marks (length d.queue.bytes + place) true
      (IsMarked-after_release d.queue (length d.queue.bytes) place is) in
      omega (arith, flags)

  pub edge-discarded : (d : Sending) (probe : Bool) → length d.queue.marks ≡ length d.queue.bytes → Edge d probe → Edge (without_text d) false
  edge-discarded d probe flags h =
      record {
        sent = h.sent;
        near = h.near;
        window = h.window;
        probed = λ never. absurd (cc);
        range = tt;
        marks = λ place is. absurd (none-marked d place flags is);
      }

  -- a probe is granted where nothing is in flight
  pub edge-probe : (d : Sending) (probe needs : Bool) → (needs ≡ true → (1 ≤ d.snd_una) × (d.snd_una ≡ d.snd_nxt)) → Edge d probe → Edge d (probe || needs)
  edge-probe d probe needs granted h = record {
    sent = h.sent;
    near = h.near;
    window = h.window;
    probed = λ e. ⊎_elim h.probed (λ (now : needs ≡ true). let at = granted now in (at.0, omega (arith, at.1))) (or_cases probe needs e);
    range = h.range;
    marks = h.marks;
  }

  -- REORDERING TIMEOUT: the last mark is of a position that was sent
  mark_end-sent : (d : Sending) (probe : Bool) (end : ℕ) → last_mark_end d.queue ≡ Some end → Edge d probe → position_at d end ≤ d.snd_nxt
  unfolding last_mark_end
  mark_end-sent d probe end e h =
      let last = end_of_marks d.queue.marks in
      cond_both (nat_lt 0 last) (Some last) None (λ (o : Option ℕ). o ≡ Some end → position_at d end ≤ d.snd_nxt) (λ some e.
      let same : last ≡ end = cc in
      let least : 0 < last = ltb-true 0 last some in
      let below : position_at d (last - 1) < d.snd_nxt = h.marks (last - 1) (end_of_marks-marked d.queue.marks least) in
      omega (arith, same, least, below)) (λ _ e. absurd (cc)) e

  pub edge-gaps : (d : Sending) (probe : Bool) (end : Option ℕ) → last_mark_end d.queue ≡ end → Edge d probe → Edge (after_gaps d end) probe
  edge-gaps d probe None e h = h
  edge-gaps d probe (Some end) e h = record {
    sent = h.sent;
    near = h.near;
    window = h.window;
    probed = h.probed;
    range = mark_end-sent d probe end e h;
    marks = h.marks;
  }

  -- SND.NXT moves on
  pub edge-moved : (d : Sending) (probe : Bool) (n : ℕ) → min (max d.snd_nxt n) (1 + count) ≤ next + capacity
      → min (max d.snd_nxt n) (1 + count) ≤ d.snd_una + capacity → (probe ≡ true → min (max d.snd_nxt n) (1 + count) ≤ d.snd_una) → Edge d probe
      → Edge (record d { snd_nxt = max d.snd_nxt n }) probe
  edge-moved d probe n fits close shut h = record {
    sent = fits;
    near = close;
    window = h.window;
    probed = λ e. ((h.probed e).0, shut e);
    range = range-more d.snd_nxt (max d.snd_nxt n) d.resend (omega arith) h.range;
    marks = λ place is. omega (arith, h.marks place is);
  }

  -- what was sent before goes out again
  edge-again : (d : Sending) (probe : Bool) (n : ℕ) → n ≤ d.snd_nxt → Edge d probe → Edge (record d { snd_nxt = max d.snd_nxt n; resend = range_after n d.resend }) probe
  edge-again d probe n before h = record {
    sent = omega (arith, before, h.sent);
    near = omega (arith, before, h.near);
    window = h.window;
    probed = λ e. let at = h.probed e in (at.0, omega (arith, before, at.1));
    range = range_after-ends (max d.snd_nxt n) n d.resend (range-more d.snd_nxt (max d.snd_nxt n) d.resend (omega arith) h.range);
    marks = λ place is. omega (arith, h.marks place is);
  }

  -- ---- WHAT ARRIVES
  -- its own SYN is acknowledged
  edge-syn_acked : (d : Sending) (probe : Bool) → d.snd_una ≤ d.snd_nxt → Edge d probe → Edge (with_syn_acked d) probe
  edge-syn_acked d probe order h =
      record {
        sent = h.sent;
        near = omega arith;
        window = h.window;
        probed = λ e. (omega (arith, order, (h.probed e).0), omega arith);
        range = h.range;
        marks = h.marks;
      }

  -- a window is taken
  edge-window : (d : Sending) (probe : Bool) (seq ack window : ℕ) → window ≤ capacity → Edge d probe → Edge (with_window d seq ack window) probe
  edge-window d probe seq ack window fits h = record { sent = h.sent; near = h.near; window = fits; probed = h.probed; range = h.range; marks = h.marks }

  -- ACKNOWLEDGEMENT: a release takes bytes with their marks
  edge-after_ack : (d : Sending) (probe : Bool) (a : ℕ) → Edge d probe → Edge (after_ack d a) probe
  unfolding after_ack
  edge-after_ack d probe a h =
      cond_both (acks_more d a) (with_acked d a) d (λ (x : Sending). Edge x probe) (λ e.
      let new : d.snd_una < a = ltb-true d.snd_una a (and_parts (nat_lt d.snd_una a) (nat_le a d.snd_nxt) e).0 in
      record {
        sent = h.sent;
        near = omega (arith, new, h.near);
        window = h.window;
        probed = λ e. let at = h.probed e in (omega (arith, new), omega (arith, new, at.1));
        range = h.range;
        marks = λ place is. omega (arith, h.marks (count_below d a + place) (IsMarked-after_release d.queue (count_below d a) place is));
      }) (λ _. h)

  -- BLOCKS mark what was sent
  edge-marked : (d : Sending) (probe : Bool) (left right : ℕ) → marks_text d left right ≡ true → length d.queue.marks ≡ length d.queue.bytes
      → Edge d probe → Edge (with_marks d left right) probe
  unfolding after_mark
  edge-marked d probe left right e flags h =
      let from = place_of d left in
      let to = count_below d right in
      let parts = and_parts (is_of_flight d left right) (nat_lt from to) e in
      let order : from < to = ltb-true from to parts.1 in
      let flight = and_parts (nat_lt d.snd_una left) (nat_lt left right && nat_le right d.snd_nxt) parts.0 in
      let sent : right ≤ d.snd_nxt = leb-true right d.snd_nxt (and_parts (nat_lt left right) (nat_le right d.snd_nxt) flight.1).1 in
      record {
        sent = h.sent;
        near = h.near;
        window = h.window;
        probed = h.probed;
        range = h.range;
        marks = cond_both (can_mark d.queue from to) (marks_with from to d.queue.marks) d.queue.marks
            (λ (marks : List Bool). (place : ℕ) → IsMarked (record d.queue { marks = marks }) place → position_at d place < d.snd_nxt) (λ _ place is.
            ⊎_elim (h.marks place) (λ (inside : (from ≤ place) × (place < to)). omega (arith, inside.0, inside.1, sent))
            (marks_with-only from to d.queue.marks place (omega (arith, order)) (omega (arith, flags)) is)) (λ _. h.marks);
      }

  -- ---- WHAT GOES OUT of the half
  module _ (d : Sending) (opened : Bool) (pending : Pending) where
    -- the half after something went out
    abbrev pub EdgeAfter : Due → Type 0
    EdgeAfter due = Edge (sending_after d due) (pending_after opened pending due).probe

    -- NEW TEXT ends at SND.UNA + SND.WND at most, or is one byte at SND.UNA (RFC 9293, 3.8.6.1)
    new-reaches : (k : ℕ) → k ≤ count_allowed d pending.probe → d.snd_nxt + k ≤ max d.snd_nxt (1 + count) → 1 ≤ capacity → Edge d pending.probe
        → min (d.snd_nxt + k) (1 + count) ≤ d.snd_una + capacity
    new-reaches k allowed inside some h = grind (arith, nat_tests, allowed, inside, some, h.near, h.window, h.probed)

    edge-new : (k : ℕ) → k ≤ count_unsent d → k ≤ count_allowed d pending.probe → d.snd_una ≤ d.snd_nxt → 1 + d.released ≤ d.snd_una → end_of_text d ≡ 1 + count
        → d.snd_una ≤ next → 1 ≤ capacity → Edge d pending.probe → EdgeAfter (Text (NewText d.snd_nxt k))
    edge-new k unsent allowed order released last had some h =
        let fits = new-reaches k allowed (omega (arith, unsent, last, order, released)) some h in
        edge-moved d false (d.snd_nxt + k) (omega (arith, fits, had)) (omega (arith, fits)) (λ never. absurd (cc)) (edge-unprobed d pending.probe h)

-- the edge of an end that party p may have, its peer q being where it is, and its user's bytes being these
abbrev pub EdgedWith : PartyState → State → List ℕ → Type 0
EdgedWith q s accepted = KeepsEdge s.sending s.pending.probe (length accepted) (rcv_position_of q) q.endpoint.config.recv_capacity

abbrev pub Edged : PartyState → PartyState → State → Type 0
Edged p q s = EdgedWith q s p.accepted

-- SEND: text is accepted only before a close, and until then nothing was sent behind it
edge-with_text : (p q : PartyState) (text : List ℕ) → send_refusal p.endpoint text ≡ None → IsSoundPair p q → Edged p q p.endpoint
    → EdgedWith q (record p.endpoint { sending = with_text p.endpoint.sending p.endpoint.config.limit text })
    (p.accepted ++ take (count_sendable p.endpoint.sending p.endpoint.config.limit text) text)
edge-with_text p q text e pair h =
    let s = p.endpoint in
    let more = take (count_sendable s.sending s.config.limit text) text in
    let unclosed = send-unclosed s p.accepted text p.closed e pair.there.alone in
    let snd_nxt : s.sending.snd_nxt ≤ 1 + length p.accepted = omega (arith, pair.there.alone.sends.most, one_if-false p.closed unclosed) in
    edge-text _ _ _ s.sending s.pending.probe s.config.limit text
    (edge-more s.sending s.pending.probe _ _ _ _ _ (omega (arith, snd_nxt, length-append p.accepted more)) (omega arith) h)

-- TIMERS
probe-needed : (s : State) (accepted : List ℕ) (closed : Bool) → IsAlone s accepted closed → needs_probe s ≡ true
    → (1 ≤ s.sending.snd_una) × (s.sending.snd_una ≡ s.sending.snd_nxt)
probe-needed s accepted closed h e =
    let d = s.sending in
    let parts = and_parts (sends_text s.phase) (is_probe_needed d) e in
    let none = and_parts (d.snd_una == d.snd_nxt) (nat_lt 0 (count_unsent d) && (d.snd_wnd == 0)) parts.1 in
    ((going-on s accepted closed parts.0 h).0, eqb-true d.snd_una d.snd_nxt none.0)

-- EMIT
abbrev EdgedAfter : PartyState → PartyState → Due → Type 0
EdgedAfter p q due =
    EdgeAfter (length p.accepted) (rcv_position_of q) q.endpoint.config.recv_capacity p.endpoint.sending p.endpoint.receiving.opened p.endpoint.pending due

-- whatever is due
edge-due : (p q : PartyState) → IsSoundPair p q → Edged p q p.endpoint → KeptByDue p.endpoint (EdgedAfter p q)
edge-due p q pair h =
    let s = p.endpoint in
    let d = s.sending in
    let alone = pair.there.alone in
    let sends : sends_text s.phase ≡ true → Sends d p.accepted p.closed false = λ e. rw (going-on s p.accepted p.closed e alone).1 at alone.sends in
    let wide = pair.back.alone.config.good.0.1.0 in
    let inside : (range : Range ℕ) → d.resend ≡ Some range → range.end ≤ d.snd_nxt = λ range is.
    subst (λ (o : Option (Range ℕ)). IfSome o (λ r. r.end ≤ d.snd_nxt)) is h.range in
    record {
      resets = λ _ _. edge-moved _ _ _ d s.pending.probe 0 (omega (arith, h.sent)) (omega (arith, h.near)) (λ e. omega (arith, (h.probed e).1)) h;
      syn = λ _.
          let shut : s.pending.probe ≡ true → min (max d.snd_nxt 1) (1 + length p.accepted) ≤ d.snd_una = λ e.
          omega (arith, (h.probed e).0, (h.probed e).1, alone.sends.order) in
          edge-moved _ _ _ d s.pending.probe 1 (omega (arith, h.sent)) (omega (arith, h.near, wide)) shut h;
      acks = λ _. edge-moved _ _ _ d s.pending.probe d.snd_nxt (omega (arith, h.sent)) (omega (arith, h.near)) (λ e. omega (arith, (h.probed e).1)) h;
      again = λ _. again-kept d (text_limit s) (λ sent. EdgedAfter p q (Text sent)) (record {
        text = λ range start k again ends _ _. edge-again _ _ _ d s.pending.probe (start + k) (omega (arith, ends, inside range again.is)) h;
        fin = λ range again. edge-again _ _ _ d s.pending.probe (end_of_text d + 1) (omega (arith, again.inside, inside range again.is)) h;
      });
      new_text = λ e _.
          let had = sends e in
          edge-new _ _ _ d s.receiving.opened s.pending (new_count d (text_limit s) s.pending.probe) (omega arith) (omega arith) had.order
          (omega (arith, (going-on s p.accepted p.closed e alone).0, had.released)) (end-is d p.accepted p.closed had) pair.there.between
          pair.back.alone.config.good.0.1.0 h;
      -- the FIN, whatever the window
      fin = λ e _ at.
          let last = end-is d p.accepted p.closed (sends e) in
          edge-moved _ _ _ d s.pending.probe (d.snd_nxt + 1) (omega (arith, at, last, h.sent)) (omega (arith, at, last, h.near))
          (λ e. omega (arith, at, last, (h.probed e).1)) h;
    }

-- ALL OF THEM
pub edge-calls : (p q : PartyState) → IsSoundPair p q → Edged p q p.endpoint → KeptByCalls (address_of q) p (λ p'. EdgedWith q p'.endpoint p'.accepted)
edge-calls p q pair h =
    let s = p.endpoint in
    let d = s.sending in
    let alone = pair.there.alone in
    let gone : Edged p q (after_discarding s Aborted) = edge-discarded _ _ _ d s.pending.probe alone.sends.flags h in
    let probe : Edge (length p.accepted) (rcv_position_of q) q.endpoint.config.recv_capacity d (s.pending.probe || needs_probe s) =
    edge-probe _ _ _ d s.pending.probe (needs_probe s)
    (probe-needed s p.accepted p.closed alone) h in
    record {
      same = h;
      connects = λ can.
          let new = end-closed s can.shut can.ending alone.progress in
          edge-syn_sent _ _ _ d s.pending.probe new.snd_nxt_is alone.sends.order (omega arith) pair.back.alone.config.good.0.1.0 h;
      listens = λ _. h;
      sends = λ text _ e. edge-with_text p q text e pair h;
      reads = λ _ _. h;
      withdraws = gone;
      closes = λ _ _. h;
      aborts = gone;
      acknowledges = h;
      resends = λ _. record {
        sent = probe.sent;
        near = probe.near;
        window = probe.window;
        probed = probe.probed;
        range = omega arith;
        marks = λ place is. absurd (IsMarked-without_marks d.queue place is);
      };
      probes = probe;
      fills = λ end _ e. edge-gaps _ _ _ d s.pending.probe (Some end) e h;
      ends = λ _. edge-orderly _ _ _ d s.pending.probe h;
      resends-between = λ from to _. record { sent = h.sent; near = h.near; window = h.window; probed = h.probed; range = omega arith; marks = h.marks };
      emits = λ due may _. elim may [
        | inl is ↦ subst (λ (o : Option Due). IfSome o (EdgedAfter p q)) is (due-kept s (EdgedAfter p q) (edge-due p q pair h))
        | inr is ↦ subst (λ (o : Option Due). IfSome o (EdgedAfter p q)) is (ack_alone-kept s (EdgedAfter p q) (edge-due p q pair h))
      ];
    }

-- ---- THE NEWS of an acknowledgement: its window, and its blocks
edge-window_and_blocks : (p q : PartyState) (s : State) (v : Content) → Sends s.sending p.accepted p.closed (discards s.ending)
    → window_from s.link v.window ≤ q.endpoint.config.recv_capacity → Edged p q s → Edged p q (after_window_and_blocks s v)
unfolding after_window_and_blocks
edge-window_and_blocks p q s v sends fits h =
    let gone = discards s.ending in
    (window_and_blocks-cases (λ d. Sends d p.accepted p.closed gone × Edge (length p.accepted) (rcv_position_of q) q.endpoint.config.recv_capacity d s.pending.probe) s v
    (λ d k. (windowed-sends d v.seq v.ack _ p.accepted p.closed gone k.0, edge-window _ _ _ d s.pending.probe v.seq v.ack _ fits k.1)) (λ d left right e k.
    (marked-sends d left right p.accepted p.closed gone e k.0, edge-marked _ _ _ d s.pending.probe left right e k.0.flags k.1)) (sends, h)).1

-- WHAT ARRIVES, with a window that fits the room that the peer has: a SYN's as it is, another's scaled
pub edge-arrives : (p q : PartyState) (g : SentSegment) (v : Content) → AdvertisesWithin q p → IsSoundPair p q → Arrives p q g v → Edged p q p.endpoint
    → Edged p q (after_segment p q v)
unfolding after_own_syn after_acked_text after_window_and_blocks after_peer_opens after_peer_accepts
edge-arrives p q g v tells pair a h =
    let s = p.endpoint in
    let d = s.sending in
    let r = s.receiving in
    let alone = pair.there.alone in
    let told = window_from s.link v.window in
    let acked : Edged p q (record s { sending = with_syn_acked d }) = edge-syn_acked _ _ _ d s.pending.probe alone.sends.order h in
    let fits : IsAfterSyn s → IsAckOnly v → told ≤ q.endpoint.config.recv_capacity = λ after_syn only. tells.plain a.place g v a.sent a.read only.plain only.no_syn
    (after_syn-opened s.phase s.ending d.snd_una d.snd_nxt r.opened r.finished after_syn.shut after_syn.listening after_syn.syn_sent alone.progress) in
    let B : State → Type 0 = λ x. (window_from x.link v.window ≤ q.endpoint.config.recv_capacity) × Edged p q x in
    on-arrival p q v g.position g.wanted (Edged p q) B a.comes (kept-same p q pair) (record {
      same = h;
      has_pending = λ _ _. h;
      gone = edge-discarded _ _ _ d s.pending.probe alone.sends.flags h;
      opens = λ listening is.
          let at = end-listen s listening alone.progress in
          edge-syn_sent _ _ _ d s.pending.probe at.1.snd_nxt_is alone.sends.order (omega arith) pair.back.alone.config.good.0.1.0 h;
      accepts = λ sent is. edge-window _ _ _ (with_syn_acked d) s.pending.probe v.seq v.ack v.window
          (tells.syn a.place g v a.sent a.read is.plain is.is_syn) acked;
      own_syn = λ after_syn only. (
        fits after_syn only,
        cond_both (is_syn_received s.phase) (with_window (with_syn_acked d) v.seq v.ack told) d (λ (x : Sending). Edged p q (record s { sending = x }))
            (λ _. edge-window _ _ _ (with_syn_acked d) s.pending.probe v.seq v.ack told (fits after_syn only) acked) (λ _. h),
      );
      acked_text = λ x _ _ _ b. (b.0, edge-after_ack _ _ _ x.sending x.pending.probe (position_near x v.ack) b.1);
      window_and_blocks = λ x _ synced _ b. (b.0, edge-window_and_blocks p q x v synced.kept.here.alone.sends b.0 b.1);
      last = λ x _ _ _ b. edge-orderly _ _ _ x.sending x.pending.probe b.1;
      passes = λ _ _ _ _ b. b.1;
      stays = λ _ _ _ b. b.1;
      text = λ _ _ _ _ _ _ b. b;
      fin = λ _ _ _ _ _ _ b. b;
      adds_pending = λ _ _ b. b;
    }) s.config.addr.0

-- each end keeps its edge to the other
abbrev pub KeepsEdges : PartyState → PartyState → Type 0
KeepsEdges x y = Edged x y x.endpoint

-- EVERY EVENT, where the windows that the ends advertise fit their room
pub edges-kept : PairKept (λ x y. AdvertisesWithin y x) (Both KeepsEdges) (λ p q s accepted. EdgedWith q s accepted)
edges-kept = record {
  swapped = both-swapped KeepsEdges;
  calls = λ p q pair h. edge-calls p q pair h.there;
  arrives = λ p q g v tells pair a h. edge-arrives p q g v tells pair a h.there;
  has_pending = λ p q ack reset pair h. h.there;
  -- p became p', whose Config is the same, and which wants no earlier position
  moved = λ p p' q pair moved out edge h. record {
    there = edge;
    back = rw moved.config (edge-more q.endpoint.sending q.endpoint.pending.probe _ _ _ _ _ (omega arith) moved.grows.next h.back);
  };
}

-- new parties
pub new-edge : (a b : Config) (runs_a runs_b : ℕ) → Edged (party_with_runs a runs_a) (party_with_runs b runs_b) (party_with_runs a runs_a).endpoint
new-edge a b runs_a runs_b = record {
  sent = omega arith;
  near = omega arith;
  window = omega arith;
  probed = λ never. absurd (cc);
  range = tt;
  marks = λ place never. absurd (cc);
}
