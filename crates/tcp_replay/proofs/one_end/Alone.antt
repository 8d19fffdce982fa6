-- ONE END by itself: what a rule may do to it, whoever its peer is, and a segment that it takes, stage by stage.
use Rattle.tcp_replay.proofs.Words.{◌&&◌, ◌+◌, ◌<◌, ◌==◌, [], ◌^◌, acks_more, after_ack, after_acked_text, after_block, after_discarding, after_fin}
use Rattle.tcp_replay.proofs.Words.{after_its_ack, after_its_text, after_mark, after_orderly_end, after_own_fin, after_own_syn, after_taking}
use Rattle.tcp_replay.proofs.Words.{after_taking_shut, after_text, after_window_and_blocks, after_window_update, and_parts, arith, Bool, can_mark}
use Rattle.tcp_replay.proofs.Words.{cond_both, Config, Content, count_below, discards, Ending, Established, false, false≢true, fin, FinWait1, first_reset}
use Rattle.tcp_replay.proofs.Words.{FitsPhase, has, has_fin, has_peer, IfSome, if◌then◌else◌, is_closed, is_fin_due, is_handshake, is_newer, is_of_flight}
use Rattle.tcp_replay.proofs.Words.{is_syn_received, IsAlone, IsConfig, IsWritable, leb-true, length, length-marks_with, List, ltb-true, marks_text}
use Rattle.tcp_replay.proofs.Words.{marks_with, max, nat_le, nat_lt, end_with_runs, None, not, not-true, NotEnded, number, Option, or_cases, phase_after_fin}
use Rattle.tcp_replay.proofs.Words.{phase_after_own_fin, place_of, position_near, refl, Sending, Sends, Some, State, sym, takes_fin, takes_text}
use Rattle.tcp_replay.proofs.Words.{takes_text_of, true, WaitingReset, window_from, with_ack_pending, with_acked, with_fin, with_marks, with_reset}
use Rattle.tcp_replay.proofs.Words.{with_syn_acked, with_window, without_resend, ◌||◌, ℕ, ◌∙◌, ◌≡◌, ◌≤◌, ⊎_elim}
use Rattle.tcp_replay.proofs.one_end.Phases.{after_syn-knows, discards-not_ended, end-syn_received, end-synchronized, end-takes_text, fits-acked, fits-fin}
use Rattle.tcp_replay.proofs.one_end.Phases.{fits-own_fin, fits-own_syn, handshake-fin, handshake-own_fin, is_synchronized, knows-fin, knows-own_fin}
use Rattle.tcp_replay.proofs.one_end.Phases.{knows-own_syn, own_syn-synchronized, synchronized-knows, synchronized-own_fin, takes_text-synchronized}
use Rattle.tcp_replay.proofs.{pair.Halves.sends-acked, pair.Halves.sends-discarded, pair.Halves.sends-syn_acked, Lists.by_test, one_end.Judgements.IsAfterSyn, Cases.window_and_blocks-cases}
use Rattle.tcp_replay.proofs.{Cases.own_fin-cases}

-- a new end
pub alone-new : (c : Config) (runs : ℕ) → IsConfig c → IsAlone (end_with_runs c runs) [] false
alone-new c runs is = record {
  config = is;
  closing = refl;
  progress = λ _. record { snd_nxt_is = refl; not_opened = refl };
  port = λ never. absurd (cc);
  syn = λ never. absurd (cc);
  ack = λ never. absurd (cc);
  reset = tt;
  sends =
      record {
        order = omega arith;
        most = omega arith;
        limit = omega arith;
        capacity = is.good.0.0.1;
        ahead = omega arith;
        bytes = λ i. omega arith;
        released = refl;
        queue = λ _. refl;
        flags = refl;
        range = tt;
      };
  next = omega arith;
  unopened = λ _. refl;
}

-- a reset waits, unless one did
pub first_reset-keeps : (P : WaitingReset → Type 0) (waiting : Option WaitingReset) (reset : WaitingReset) → IfSome waiting P → P reset
    → IfSome (first_reset waiting reset) P
first_reset-keeps P None reset h fits = fits
first_reset-keeps P (Some waiting) reset h fits = h

-- a reset may wait at any end
pub alone-reset : (s : State) (accepted : List ℕ) (closed : Bool) (reset : WaitingReset) → IsWritable reset → IsAlone s accepted closed
    → IsAlone (with_reset s reset) accepted closed
alone-reset s accepted closed reset fits h =
    let waits : IfSome (first_reset s.pending.reset reset) IsWritable = first_reset-keeps IsWritable s.pending.reset reset h.reset fits in
    assumption

-- an acknowledgement is owed to the peer, whose SYN was taken
pub alone-with_pending : (s : State) (accepted : List ℕ) (closed : Bool) → has_peer s.phase ≡ true → s.receiving.opened ≡ true → IsAlone s accepted closed
    → IsAlone (with_ack_pending s) accepted closed
alone-with_pending s accepted closed knows opened h = assumption

-- an acknowledgement may be owed where the peer is known and its SYN was taken
pub alone-ack_pending : (s : State) (accepted : List ℕ) (closed adds_pending : Bool) → (adds_pending ≡ true → (has_peer s.phase ≡ true) × (s.receiving.opened ≡ true))
    → IsAlone s accepted closed
    → IsAlone (record s { pending = record s.pending { ack = s.pending.ack || adds_pending } }) accepted closed
alone-ack_pending s accepted closed adds_pending fits h =
    let ack : (s.pending.ack || adds_pending) ≡ true → (has_peer s.phase ≡ true) × (s.receiving.opened ≡ true) = λ e. ⊎_elim h.ack fits (or_cases s.pending.ack adds_pending e) in
    assumption

-- a reset or an abort ends the connection
pub alone-discarded : (s : State) (accepted : List ℕ) (closed : Bool) (ending : Ending) → discards ending ≡ true → IsAlone s accepted closed
    → IsAlone (after_discarding s ending) accepted closed
alone-discarded s accepted closed ending gone h = record {
  config = h.config;
  closing = h.closing;
  progress = λ e. absurd (false≢true (sym (discards-not_ended ending e) ∙ gone));
  port = λ never. absurd (cc);
  syn = λ never. absurd (cc);
  ack = λ never. absurd (cc);
  reset = h.reset;
  sends = rw gone (sends-discarded s.sending accepted closed (discards s.ending) h.sends);
  next = h.next;
  unopened = h.unopened;
}

-- nothing goes out again
sends-no_resend : (d : Sending) (accepted : List ℕ) (closed : Bool) → Sends d accepted closed false → Sends (without_resend d) accepted closed false
sends-no_resend d accepted closed h = let range : IfSome (without_resend d).resend (λ r. r.end ≤ max d.snd_nxt (1 + length accepted)) = tt in assumption

-- both sides closed, and both know it
pub alone-orderly : (s : State) (accepted : List ℕ) (closed : Bool) → s.ending ≡ NotEnded → IsAlone s accepted closed
    → IsAlone (after_orderly_end s) accepted closed
alone-orderly s accepted closed going h =
    let none : discards s.ending ≡ false = discards-not_ended s.ending going in
    let sends : Sends s.sending accepted closed false = rw none at h.sends in
    record {
      config = h.config;
      closing = h.closing;
      progress = λ e. absurd (cc);
      port = λ never. absurd (cc);
      syn = λ never. absurd (cc);
      ack = λ never. absurd (cc);
      reset = h.reset;
      sends = sends-no_resend s.sending accepted closed sends;
      next = h.next;
      unopened = h.unopened;
    }

-- the half that sends moves, SND.UNA and SND.NXT being where they were
pub alone-sending : (s : State) (accepted : List ℕ) (closed : Bool) (d : Sending) → d.snd_una ≡ s.sending.snd_una → d.snd_nxt ≡ s.sending.snd_nxt
    → Sends d accepted closed (discards s.ending)
    → IsAlone s accepted closed → IsAlone (record s { sending = d }) accepted closed
alone-sending s accepted closed d snd_una snd_nxt sends h =
    let progress : FitsPhase s.phase s.ending d.snd_una d.snd_nxt s.receiving.opened s.receiving.finished = rw (snd_una, snd_nxt) h.progress in
    assumption

-- OWN SYN
pub alone-own_syn : (s : State) (accepted : List ℕ) (closed : Bool) (v : Content) → IsAfterSyn s → IsAlone s accepted closed
    → IsAlone (after_own_syn s v) accepted closed
unfolding after_own_syn
alone-own_syn s accepted closed v after_syn h =
    by_test (is_syn_received s.phase) (λ b. IsAlone (record s {
      phase = if b then (if s.closing then FinWait1 else Established) else s.phase;
      sending = if b then with_window (with_syn_acked s.sending) v.seq v.ack (window_from s.link v.window) else s.sending;
      pending = record s.pending { syn = s.pending.syn && not b };
    }) accepted closed)
    (λ e.
    let d = s.sending in
    let r = s.receiving in
    let at = end-syn_received s e h.progress in
    let knows : has_peer s.phase ≡ true = after_syn-knows s.phase after_syn.shut after_syn.listening in
    record {
      config = h.config;
      closing = h.closing;
      progress = fits-own_syn s.closing s.ending d.snd_una d.snd_nxt r.opened r.finished at;
      port = λ _. h.port knows;
      syn = λ never. absurd (false≢true (and_parts s.pending.syn false never).1);
      ack = λ _. (knows-own_syn s.closing, at.1.is_opened);
      reset = h.reset;
      sends = sends-syn_acked d accepted closed (discards s.ending) (window_from s.link v.window) v.seq v.ack at.1.snd_nxt_is h.sends;
      next = h.next;
      unopened = h.unopened;
    })
    (λ _.
    let syn : (s.pending.syn && true) ≡ true → is_handshake s.phase ≡ true = λ e. h.syn (and_parts s.pending.syn true e).0 in
    assumption)

-- ACKNOWLEDGEMENT, of whatever position
alone-acked : (s : State) (accepted : List ℕ) (closed : Bool) (a : ℕ) → is_synchronized s.phase ≡ true → IsAlone s accepted closed
    → IsAlone (record s { sending = after_ack s.sending a }) accepted closed
unfolding after_ack
alone-acked s accepted closed a synced h =
    let d = s.sending in
    let r = s.receiving in
    let at = end-synchronized s synced h.progress in
    let none : discards s.ending ≡ false = discards-not_ended s.ending at.0 in
    cond_both (acks_more d a) (with_acked d a) d (λ (x : Sending). IsAlone (record s { sending = x }) accepted closed)
    (λ e.
    let parts = and_parts (nat_lt d.snd_una a) (nat_le a d.snd_nxt) e in
    let new : d.snd_una < a = ltb-true d.snd_una a parts.0 in
    let sent : a ≤ d.snd_nxt = leb-true a d.snd_nxt parts.1 in
    let sends : Sends (with_acked d a) accepted closed (discards s.ending) = rw none (sends-acked d accepted closed a new sent (rw none at h.sends)) in
    let progress : FitsPhase s.phase s.ending a d.snd_nxt r.opened r.finished = fits-acked s.phase s.ending d.snd_una a d.snd_nxt r.opened r.finished synced
    (omega arith) h.progress in
    assumption)
    (λ _. h)

-- so it is of the acknowledgement of a segment, read near SND.UNA
pub alone-acked_text : (s : State) (accepted : List ℕ) (closed : Bool) (v : Content) → is_synchronized s.phase ≡ true → IsAlone s accepted closed
    → IsAlone (after_acked_text s v) accepted closed
unfolding after_acked_text
alone-acked_text s accepted closed v synced h = alone-acked s accepted closed (position_near s v.ack) synced h

-- WINDOW UPDATE, and the blocks: what both leave as it was
pub record SameText (d d' : Sending) (accepted : List ℕ) (closed gone : Bool) : Type 0 where
  pub snd_una : d'.snd_una ≡ d.snd_una
  pub snd_nxt : d'.snd_nxt ≡ d.snd_nxt
  pub sends : Sends d' accepted closed gone

same-text : (d : Sending) (accepted : List ℕ) (closed gone : Bool) → Sends d accepted closed gone → SameText d d accepted closed gone
same-text d accepted closed gone h = record { snd_una = refl; snd_nxt = refl; sends = h }

-- a window is no part of it
pub windowed-sends : (d : Sending) (seq ack window : ℕ) (accepted : List ℕ) (closed gone : Bool) → Sends d accepted closed gone
    → Sends (with_window d seq ack window) accepted closed gone
windowed-sends d seq ack window accepted closed gone h = assumption

-- a window update leaves SND.UNA and SND.NXT, and what is kept of the half that sends
pub same-window : (d : Sending) (seq ack window : ℕ) (accepted : List ℕ) (closed gone : Bool) → Sends d accepted closed gone
    → SameText d (after_window_update d seq ack window) accepted closed gone
unfolding after_window_update
same-window d seq ack window accepted closed gone h =
    cond_both (is_newer d seq ack) (with_window d seq ack window) d (λ (x : Sending). SameText d x accepted closed gone)
    (λ _. record { snd_una = refl; snd_nxt = refl; sends = windowed-sends d seq ack window accepted closed gone h }) (λ _. same-text d accepted closed gone h)

-- there are as many marks as queued bytes where a block is marked
pub marked-sends : (d : Sending) (left right : ℕ) (accepted : List ℕ) (closed gone : Bool) → marks_text d left right ≡ true → Sends d accepted closed gone
    → Sends (with_marks d left right) accepted closed gone
unfolding after_mark
marked-sends d left right accepted closed gone e h =
    let from = place_of d left in
    let to = count_below d right in
    let order : from < to = ltb-true from to (and_parts (is_of_flight d left right) (nat_lt from to) e).1 in
    cond_both (can_mark d.queue from to) (marks_with from to d.queue.marks) d.queue.marks
    (λ (marks : List Bool). Sends (record d { queue = record d.queue { marks = marks } }) accepted closed gone)
    (λ _.
    let flags : length (marks_with from to d.queue.marks) ≡ length d.queue.bytes = length-marks_with from to d.queue.marks (omega arith)
    (omega (arith, h.flags)) ∙ h.flags in
    assumption)
    (λ _. h)

-- a reported block marks queued bytes, and leaves these, too
pub same-marks : (d : Sending) (left right : ℕ) (accepted : List ℕ) (closed gone : Bool) → Sends d accepted closed gone
    → SameText d (after_block d left right) accepted closed gone
unfolding after_block
same-marks d left right accepted closed gone h =
    cond_both (marks_text d left right) (with_marks d left right) d (λ (x : Sending). SameText d x accepted closed gone)
    (λ e. record { snd_una = refl; snd_nxt = refl; sends = marked-sends d left right accepted closed gone e h }) (λ _. same-text d accepted closed gone h)

-- so it is of window and blocks of a segment together
pub same-window_and_blocks : (s : State) (accepted : List ℕ) (closed gone : Bool) (v : Content) → Sends s.sending accepted closed gone
    → SameText s.sending (after_window_and_blocks s v).sending accepted closed gone
same-window_and_blocks s accepted closed gone v h =
    window_and_blocks-cases (λ d. SameText s.sending d accepted closed gone) s v
    (λ d k. record { snd_una = k.snd_una; snd_nxt = k.snd_nxt; sends = windowed-sends d v.seq v.ack _ accepted closed gone k.sends })
    (λ d left right e k. record { snd_una = k.snd_una; snd_nxt = k.snd_nxt; sends = marked-sends d left right accepted closed gone e k.sends })
    (same-text s.sending accepted closed gone h)

window_and_blocks-sending : (s : State) (v : Content) → after_window_and_blocks s v ≡ record s { sending = (after_window_and_blocks s v).sending }
unfolding after_window_and_blocks
window_and_blocks-sending s v = refl

-- an end keeps what it keeps over window and blocks
pub alone-window_and_blocks : (s : State) (accepted : List ℕ) (closed : Bool) (v : Content) → IsAlone s accepted closed → IsAlone (after_window_and_blocks s v) accepted closed
alone-window_and_blocks s accepted closed v h =
    let same = same-window_and_blocks s accepted closed (discards s.ending) v h.sends in
    rw (window_and_blocks-sending s v) (alone-sending s accepted closed (after_window_and_blocks s v).sending same.snd_una same.snd_nxt same.sends h)

-- OWN FIN: the connection goes on, or has ended
pub own_fin-phase : (s : State) (accepted : List ℕ) (closed : Bool) → IsAlone s accepted closed
    → IsAlone (record s { phase = phase_after_own_fin s.phase }) accepted closed
own_fin-phase s accepted closed h =
    let d = s.sending in
    let knows : has_peer (phase_after_own_fin s.phase) ≡ has_peer s.phase = knows-own_fin s.phase in
    let progress : FitsPhase (phase_after_own_fin s.phase) s.ending d.snd_una d.snd_nxt s.receiving.opened s.receiving.finished =
    fits-own_fin s.phase s.ending d.snd_una d.snd_nxt s.receiving.opened s.receiving.finished h.progress in
    let port : has_peer (phase_after_own_fin s.phase) ≡ true → s.peer.port < 2 ^ 16 = λ e. h.port (sym knows ∙ e) in
    let syn : s.pending.syn ≡ true → is_handshake (phase_after_own_fin s.phase) ≡ true = λ e. handshake-own_fin s.phase ∙ h.syn e in
    let ack : s.pending.ack ≡ true → (has_peer (phase_after_own_fin s.phase) ≡ true) × (s.receiving.opened ≡ true) = λ e. (knows ∙ (h.ack e).0, (h.ack e).1) in
    assumption

alone-own_fin : (s : State) (accepted : List ℕ) (closed : Bool) → is_synchronized s.phase ≡ true → IsAlone s accepted closed
    → IsAlone (after_own_fin s) accepted closed
alone-own_fin s accepted closed synced h =
    own_fin-cases s (λ (x : State). IsAlone x accepted closed) (λ _ _. alone-orderly s accepted closed (end-synchronized s synced h.progress).0 h)
    (λ _ _. own_fin-phase s accepted closed h) (λ _. h)

own_fin-goes_on : (s : State) → is_synchronized s.phase ≡ true → is_closed (after_own_fin s).phase ≡ false → is_synchronized (after_own_fin s).phase ≡ true
own_fin-goes_on s synced =
    own_fin-cases s (λ x. is_closed x.phase ≡ false → is_synchronized x.phase ≡ true) (λ _ _ never. absurd (cc))
    (λ _ _ _. synchronized-own_fin s.phase ∙ synced) (λ _ _. synced)

-- ALL OF AN ACKNOWLEDGEMENT, whatever it acknowledges
pub own_syn-synced : (s : State) (v : Content) → IsAfterSyn s → is_synchronized (after_own_syn s v).phase ≡ true
unfolding after_own_syn
own_syn-synced s v after_syn = own_syn-synchronized s.phase s.closing after_syn.shut after_syn.listening after_syn.syn_sent

window_and_blocks-synced : (s : State) (v : Content) → IsAfterSyn s → is_synchronized (after_window_and_blocks (after_acked_text (after_own_syn s v) v) v).phase ≡ true
unfolding after_own_syn after_acked_text after_window_and_blocks
window_and_blocks-synced s v after_syn = own_syn-synchronized s.phase s.closing after_syn.shut after_syn.listening after_syn.syn_sent

-- and over all that an acknowledgement does
pub alone-its_ack : (s : State) (accepted : List ℕ) (closed : Bool) (v : Content) → IsAfterSyn s → IsAlone s accepted closed
    → IsAlone (after_its_ack s v) accepted closed
unfolding after_its_ack
alone-its_ack s accepted closed v after_syn h =
    let first = after_own_syn s v in
    let second = after_acked_text first v in
    alone-own_fin (after_window_and_blocks second v) accepted closed (window_and_blocks-synced s v after_syn)
    (alone-window_and_blocks second accepted closed v (alone-acked_text first accepted closed v (own_syn-synced s v after_syn) (alone-own_syn s accepted closed v after_syn h)))

its_ack-goes_on : (s : State) (v : Content) → IsAfterSyn s → is_closed (after_its_ack s v).phase ≡ false → is_synchronized (after_its_ack s v).phase ≡ true
unfolding after_its_ack
its_ack-goes_on s v after_syn = own_fin-goes_on (after_window_and_blocks (after_acked_text (after_own_syn s v) v) v) (window_and_blocks-synced s v after_syn)

-- TEXT
pub pending-taking : (s : State) (accepted : List ℕ) (closed : Bool) → takes_text s.phase ≡ true → IsAlone s accepted closed
    → (has_peer s.phase ≡ true) × (s.receiving.opened ≡ true)
pending-taking s accepted closed e h = (
  synchronized-knows s.phase (takes_text-synchronized s.phase e),
  (end-takes_text s e h.progress).1.is_opened,
)

-- an end keeps what it keeps where text is placed,
pub alone-text : (s : State) (accepted : List ℕ) (closed : Bool) (v : Content) → IsAlone s accepted closed
    → IsAlone (record s { receiving = after_text s.receiving v.seq v.text }) accepted closed
unfolding after_text
alone-text s accepted closed v h =
    let next : (after_text s.receiving v.seq v.text).rcv_nxt < 2 ^ 32 = omega arith in
    assumption

-- and where text comes, placed or not
pub alone-its_text : (s : State) (accepted : List ℕ) (closed : Bool) (v : Content) → IsAlone s accepted closed → IsAlone (after_its_text s v) accepted closed
unfolding after_its_text
alone-its_text s accepted closed v h =
    let after = record s { receiving = if takes_text_of s v then after_text s.receiving v.seq v.text else s.receiving } in
    let stage : IsAlone after accepted closed = by_test (takes_text_of s v)
    (λ b. IsAlone (record s { receiving = if b then after_text s.receiving v.seq v.text else s.receiving }) accepted closed)
    (λ _. alone-text s accepted closed v h) (λ _. h) in
    alone-ack_pending after accepted closed (takes_text_of s v)
    (λ e. pending-taking after accepted closed (and_parts (takes_text s.phase) (not (length v.text == 0)) e).0 stage) stage

-- THE PEER'S FIN
pub alone-fin_taken : (s : State) (accepted : List ℕ) (closed : Bool) → takes_text s.phase ≡ true → IsAlone s accepted closed
    → IsAlone (record s { phase = phase_after_fin s.phase; receiving = with_fin s.receiving }) accepted closed
alone-fin_taken s accepted closed e h =
    let d = s.sending in
    let r = s.receiving in
    let at = end-takes_text s e h.progress in
    let knows : has_peer (phase_after_fin s.phase) ≡ has_peer s.phase = knows-fin s.phase in
    let progress = fits-fin s.phase s.ending d.snd_una d.snd_nxt r.opened r.finished e h.progress in
    let port : has_peer (phase_after_fin s.phase) ≡ true → s.peer.port < 2 ^ 16 = λ known. h.port (sym knows ∙ known) in
    let syn : s.pending.syn ≡ true → is_handshake (phase_after_fin s.phase) ≡ true = λ pending. handshake-fin s.phase ∙ h.syn pending in
    let ack : s.pending.ack ≡ true → (has_peer (phase_after_fin s.phase) ≡ true) × (r.opened ≡ true) = λ pending. (knows ∙ (h.ack pending).0, (h.ack pending).1) in
    let next : (with_fin r).rcv_nxt < 2 ^ 32 = omega arith in
    let unopened : r.opened ≡ false → true ≡ false = λ never. absurd (cc (at.1.is_opened)) in
    assumption

alone-fin : (s : State) (accepted : List ℕ) (closed : Bool) (v : Content) → IsAlone s accepted closed → IsAlone (after_fin s v) accepted closed
unfolding after_fin
alone-fin s accepted closed v h =
    let adds_pending : State = record s { pending = record s.pending { ack = s.pending.ack || has_fin s v } } in
    let has_pending : IsAlone adds_pending accepted closed = alone-ack_pending s accepted closed (has_fin s v)
    (λ e. pending-taking s accepted closed (and_parts (takes_text s.phase) (has fin v.flags) e).0 h) h in
    by_test (takes_fin s v)
    (λ b. IsAlone (record adds_pending {
      phase = if b then phase_after_fin s.phase else s.phase;
      receiving = if b then with_fin s.receiving else s.receiving;
    }) accepted closed)
    (λ e. alone-fin_taken adds_pending accepted closed
    (and_parts (takes_text s.phase) (has fin v.flags) (and_parts (has_fin s v) (is_fin_due s.receiving (number v.seq (length v.text))) e).0).0 has_pending)
    (λ _. has_pending)

-- ALL OF IT, and with the window shut
pub alone-taking : (s : State) (accepted : List ℕ) (closed : Bool) (v : Content) → IsAfterSyn s → IsAlone s accepted closed
    → IsAlone (after_taking s v) accepted closed
unfolding after_taking
alone-taking s accepted closed v after_syn h =
    alone-fin (after_its_text (after_its_ack s v) v) accepted closed v
    (alone-its_text (after_its_ack s v) accepted closed v (alone-its_ack s accepted closed v after_syn h))

-- where an answer is owed to what was taken while the window is shut
abbrev pub answers_shut : State → Bool
answers_shut x = not (is_closed x.phase)

-- then the peer is known, and its SYN was taken
pub pending-going_on : (s : State) (accepted : List ℕ) (closed : Bool) (v : Content) → IsAfterSyn s → IsAlone (after_its_ack s v) accepted closed
    → answers_shut (after_its_ack s v) ≡ true
    → (has_peer (after_its_ack s v).phase ≡ true) × ((after_its_ack s v).receiving.opened ≡ true)
pending-going_on s accepted closed v after_syn h e =
    let x = after_its_ack s v in
    let synced : is_synchronized x.phase ≡ true = its_ack-goes_on s v after_syn (not-true (is_closed x.phase) e) in
    (synchronized-knows x.phase synced, (end-synchronized x synced h.progress).1.is_opened)

-- while the window is shut only the acknowledgement is taken
pub alone-taking_shut : (s : State) (accepted : List ℕ) (closed : Bool) (v : Content) → IsAfterSyn s → IsAlone s accepted closed
    → IsAlone (after_taking_shut s v) accepted closed
unfolding after_taking_shut
alone-taking_shut s accepted closed v after_syn h =
    let x = after_its_ack s v in
    let first = alone-its_ack s accepted closed v after_syn h in
    alone-ack_pending x accepted closed (answers_shut x) (pending-going_on s accepted closed v after_syn first) first
