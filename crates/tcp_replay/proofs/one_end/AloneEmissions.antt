-- WHAT IS DUE at one end by itself: it is what may go out, it can be written, it is of what its user sent, and the end keeps what it does.
use Rattle.tcp_replay.proofs.Words.{◌+◌, ◌-◌, ◌<◌, ◌^◌, ack_alone, Acknowledgement, and_parts, ap, AreBytes, arith, Bool, count_of, count_unsent}
use Rattle.tcp_replay.proofs.Words.{destination_of, discards, drop, drop-drop, Due, due_of, end_of, end_of_text, false, false≢true, Fin, FitsFields}
use Rattle.tcp_replay.proofs.Words.{FitsPhase, has_peer, IfSome, is_fin, is_handshake, IsAlone, IsValid, IsWritable, length, length-drop, length-take}
use Rattle.tcp_replay.proofs.Words.{List, max, new_count, NewText, None, not, Option, pending_after, place_of, plain_segment, Range}
use Rattle.tcp_replay.proofs.Words.{range_after, refl, report_options_short, Resend, resend_after, ResentFin, Reset, reset_ack, reset_segment_valid, segment_of, Sending, Sends}
use Rattle.tcp_replay.proofs.Words.{sends_text, Seq, Some, start_of, State, state_after, subst, sym, Syn, syn_segment_valid, take, text_limit, text_of, text_segment_valid}
use Rattle.tcp_replay.proofs.Words.{true, WaitingReset, ℕ, ◌∙◌, ◌≡◌, ◌≤◌}
use Rattle.tcp_replay.proofs.one_end.Phases.{discards-not_ended, end-synchronized, fits-sent, fits-sent_text, handshake-knows, knows-nxt}
use Rattle.tcp_replay.proofs.one_end.Phases.{sends_text-synchronized, synchronized-knows}
use Rattle.tcp_replay.proofs.{one_end.Dues.ack_alone-kept, one_end.Dues.again-kept, one_end.Dues.due-kept, one_end.Dues.IsAgain, one_end.Dues.KeptAgain, one_end.Dues.KeptByDue}
use Rattle.tcp_wire.proofs.Bytes.{bytes_drop, bytes_take}
use Rattle.tcp_replay.proofs.{Lists.one_if, Lists.one_if-most, pair.Halves.range-more, pair.Halves.sends-sent}
use Rattle.tcp_replay.proofs.Words.{Text, is_some}

-- text from a position on that was not released, or the FIN after a close
record IsOut (d : Sending) (accepted : List ℕ) (closed : Bool) (due : Due) : Type 0 where
  least : 1 + d.released ≤ start_of d due
  most : end_of d due ≤ 1 + length accepted + one_if closed
  within : start_of d due ≤ end_of d due
  short : count_of due ≤ 1460
  last : is_fin due ≡ true → (closed ≡ true) × (start_of d due ≡ 1 + length accepted) × (count_of due ≡ 0)

-- where the queue ends, the accepted bytes do
pub end-is : (d : Sending) (accepted : List ℕ) (closed : Bool) → Sends d accepted closed false → end_of_text d ≡ 1 + length accepted
end-is d accepted closed h = omega (arith, ap length (h.queue refl), length-drop d.released accepted, h.released)

-- what was sent after all text is the FIN
sent-fin : (d : Sending) (accepted : List ℕ) (closed gone : Bool) → Sends d accepted closed gone → 1 + length accepted < d.snd_nxt → closed ≡ true
sent-fin d accepted true gone h more = refl
sent-fin d accepted false gone h more = absurd (omega (arith, h.most))

-- what follows from a fact of what is due, where something is
pub if-some-map : (P P' : Due → Type 0) (o : Option Due) → ((due : Due) → P due → P' due) → IfSome o P → IfSome o P'
if-some-map P P' None further h = tt
if-some-map P P' (Some due) further h = further due h

-- TEXT: from its position on it is what was accepted
text-is : (d : Sending) (accepted : List ℕ) (closed : Bool) (start count : ℕ) → 1 + d.released ≤ start → Sends d accepted closed false
    → take count (drop (place_of d start) d.queue.bytes) ≡ take count (drop (start - 1) accepted)
text-is d accepted closed start count least h =
    let whole : d.released + (start - (1 + d.released)) ≡ start - 1 = omega arith in
    ap (take count) (ap (drop (place_of d start)) (h.queue refl) ∙ drop-drop (place_of d start) d.released accepted ∙ ap (λ k. drop k accepted) whole)

-- text of the queue
pub text-of_due : (d : Sending) (due : Due) → text_of d due ≡ take (count_of due) (drop (place_of d (start_of d due)) d.queue.bytes)
text-of_due d Reset = refl
text-of_due d Syn = refl
text-of_due d (Text sent) = refl
text-of_due d Acknowledgement = refl

-- what a segment with text says
pub record IsPlain (d : Sending) (accepted : List ℕ) (closed : Bool) (due : Due) : Type 0 where
  pub least : 1 ≤ start_of d due
  -- it lies near SND.UNA
  pub behind : d.snd_una ≤ 1 + start_of d due
  pub within : start_of d due ≤ 1 + length accepted + one_if closed
  pub text : text_of d due ≡ take (count_of due) (drop (start_of d due - 1) accepted)
  pub short : count_of due ≤ 1460
  pub last : is_fin due ≡ true → (closed ≡ true) × (start_of d due ≡ 1 + length accepted) × (count_of due ≡ 0)

-- what text, FIN and acknowledgement have in common
pub record IsCommon (s : State) (due : Due) : Type 0 where
  pub segment : segment_of s due ≡ plain_segment s due
  pub to : destination_of s due ≡ s.peer
  pub reset : (pending_after s.receiving.opened s.pending due).reset ≡ s.pending.reset

-- one of them is said to a peer whose SYN was taken
pub record IsSaid (s : State) (accepted : List ℕ) (closed : Bool) (due : Due) : Type 0 where
  pub common : IsCommon s due
  pub plain : IsPlain s.sending accepted closed due
  pub knows : has_peer s.phase ≡ true
  pub opened : s.receiving.opened ≡ true

-- each kind of segment
abbrev pub IsOfKind : State → List ℕ → Bool → Due → Type 0
IsOfKind s accepted closed Reset = is_some s.pending.reset ≡ true
IsOfKind s accepted closed Syn = is_handshake s.phase ≡ true
IsOfKind s accepted closed other = IsSaid s accepted closed other

-- WHAT GOES OUT
pub record GoesOutAlone (s : State) (accepted : List ℕ) (closed : Bool) (due : Due) : Type 0 where
  pub alone : IsAlone (state_after s due) accepted closed
  pub valid : IsValid (segment_of s due)
  pub kind : IsOfKind s accepted closed due

-- text and FIN also acknowledge
record Acknowledges (s : State) (due : Due) : Type 0 where
  common : IsCommon s due
  syn : (pending_after s.receiving.opened s.pending due).syn ≡ s.pending.syn
  ack : (pending_after s.receiving.opened s.pending due).ack ≡ false

-- a range of which a front went out ends where it did
pub range_after-ends : (m start : ℕ) (range : Option (Range ℕ)) → IfSome range (λ r. r.end ≤ m) → IfSome (range_after start range) (λ r. r.end ≤ m)
range_after-ends m start None h = tt
range_after-ends m start (Some range) h = h

ack-fits : (seq : Option Seq) → IfSome seq (λ n. n.0 < 2 ^ 32) → reset_ack seq < 2 ^ 32
ack-fits None h = omega arith
ack-fits (Some seq) h = h

-- an end in a phase that sends text has its SYN acknowledged, and its queue
pub going-on : (s : State) (accepted : List ℕ) (closed : Bool) → sends_text s.phase ≡ true → IsAlone s accepted closed
    → (1 ≤ s.sending.snd_una) × (discards s.ending ≡ false)
going-on s accepted closed e h =
    let at = end-synchronized s (sends_text-synchronized s.phase e) h.progress in
    (at.1.least, discards-not_ended s.ending at.0)

module _ (s : State) (accepted : List ℕ) (closed : Bool) (h : IsAlone s accepted closed) where
  -- SND.NXT moves on
  alone-after : (due : Due)
      → FitsPhase s.phase s.ending s.sending.snd_una (max s.sending.snd_nxt (end_of s.sending due)) s.receiving.opened s.receiving.finished
      → max s.sending.snd_nxt (end_of s.sending due) ≤ 1 + length accepted + one_if closed
      → IfSome (resend_after s.sending due) (λ r. r.end ≤ max s.sending.snd_nxt (1 + length accepted))
      → ((pending_after s.receiving.opened s.pending due).syn ≡ true → is_handshake s.phase ≡ true)
      → ((pending_after s.receiving.opened s.pending due).ack ≡ true → (has_peer s.phase ≡ true) × (s.receiving.opened ≡ true))
      → IfSome (pending_after s.receiving.opened s.pending due).reset IsWritable → IsAlone (state_after s due) accepted closed
  alone-after due progress most range syn ack reset =
      let d = s.sending in
      let n = max d.snd_nxt (end_of d due) in
      let sends = sends-sent d accepted closed (discards s.ending) n (resend_after d due) (omega arith) most
      (range-more (max d.snd_nxt (1 + length accepted)) (max n (1 + length accepted)) (resend_after d due) (omega arith) range) h.sends in
      assumption

  fits-fields : has_peer s.phase ≡ true → FitsFields s
  fits-fields knows = record { port = h.config.port; peer_port = h.port knows; next = h.next; mss = h.config.good.1.1; shift = h.config.good.2 }

  plain-valid : (due : Due) → has_peer s.phase ≡ true → IsPlain s.sending accepted closed due → IsValid (plain_segment s due)
  plain-valid due knows plain =
      let before = start_of s.sending due - 1 in
      text_segment_valid s due (fits-fields knows)
      (subst AreBytes (sym plain.text) (bytes_take (count_of due) (drop before accepted) (bytes_drop before accepted h.sends.bytes)))
      (omega (arith, report_options_short s, ap length plain.text, length-take (count_of due) (drop before accepted), plain.short))

  -- a reset
  out-reset : (reset : WaitingReset) → s.pending.reset ≡ Some reset → GoesOutAlone s accepted closed Reset
  unfolding segment_of
  out-reset reset waits =
      let d = s.sending in
      let fits : IsWritable reset = subst (λ (o : Option WaitingReset). IfSome o IsWritable) waits h.reset in
      record {
        alone = alone-after Reset
            (fits-sent s.phase s.ending d.snd_una d.snd_nxt (max d.snd_nxt 0) s.receiving.opened s.receiving.finished (λ _ e. omega arith) (λ e. omega arith) h.progress)
            (omega (arith, h.sends.most)) h.sends.range h.syn h.ack tt;
        valid = rw waits (reset_segment_valid s reset h.config.port fits.port fits.seq (ack-fits reset.ack fits.ack));
        kind = ap is_some waits;
      }

  -- a SYN
  out-syn : is_handshake s.phase ≡ true → GoesOutAlone s accepted closed Syn
  unfolding segment_of
  out-syn handshake =
      let d = s.sending in
      let knows : has_peer s.phase ≡ true = handshake-knows s.phase handshake in
      record {
        alone = alone-after Syn
            (fits-sent s.phase s.ending d.snd_una d.snd_nxt (max d.snd_nxt 1) s.receiving.opened s.receiving.finished (λ none e. absurd (false≢true (sym none ∙ knows)))
            (λ e. omega arith) h.progress)
            (omega (arith, h.sends.most)) h.sends.range (λ never. absurd (cc)) (λ e. h.ack (and_parts s.pending.ack (not s.receiving.opened) e).0) h.reset;
        valid = syn_segment_valid s (fits-fields knows);
        kind = handshake;
      }

  -- an acknowledgement alone
  out-ack : s.pending.ack ≡ true → GoesOutAlone s accepted closed Acknowledgement
  unfolding segment_of
  out-ack pending =
      let d = s.sending in
      let knows = (h.ack pending).0 in
      let plain : IsPlain d accepted closed Acknowledgement = record {
        least = knows-nxt s.phase s.ending d.snd_una d.snd_nxt s.receiving.opened s.receiving.finished knows h.sends.order h.progress;
        behind = omega (arith, h.sends.order);
        within = h.sends.most;
        text = refl;
        short = omega arith;
        last = λ never. absurd (cc);
      } in
      record {
        alone = alone-after Acknowledgement
            (fits-sent s.phase s.ending d.snd_una d.snd_nxt (max d.snd_nxt d.snd_nxt) s.receiving.opened s.receiving.finished (λ _ e. omega arith) (λ e. omega arith)
            h.progress)
            (omega (arith, h.sends.most)) h.sends.range h.syn (λ never. absurd (cc)) h.reset;
        valid = plain-valid Acknowledgement knows plain;
        kind = record { common = record { segment = refl; to = refl; reset = refl }; plain = plain; knows = knows; opened = (h.ack pending).1 };
      }

  -- text or FIN, in the phases that send any
  module _ (e : sends_text s.phase ≡ true) where
    going : Sends s.sending accepted closed false
    going = rw (going-on s accepted closed e h).1 at h.sends

    out-plain : (due : Due) → Acknowledges s due → IsOut s.sending accepted closed due
        → IfSome (resend_after s.sending due) (λ r. r.end ≤ max s.sending.snd_nxt (1 + length accepted))
        → (IsSaid s accepted closed due → IsOfKind s accepted closed due) → GoesOutAlone s accepted closed due
    out-plain due acks is range kind =
        let d = s.sending in
        let r = s.receiving in
        let synced = sends_text-synchronized s.phase e in
        let knows : has_peer s.phase ≡ true = synchronized-knows s.phase synced in
        let plain : IsPlain d accepted closed due = record {
          least = omega (arith, is.least);
          behind = omega (arith, is.least, going.released, going.order, going.most, one_if-most closed);
          within = omega (arith, is.within, is.most);
          text = text-of_due d due ∙ text-is d accepted closed (start_of d due) (count_of due) is.least going;
          short = is.short;
          last = is.last;
        } in
        record {
          alone = alone-after due (fits-sent_text s.phase s.ending d.snd_una d.snd_nxt (max d.snd_nxt (end_of d due)) r.opened r.finished synced h.progress)
              (omega (arith, going.most, is.most)) range (λ pending. h.syn (sym acks.syn ∙ pending)) (λ pending. absurd (false≢true (sym acks.ack ∙ pending)))
              (rw acks.common.reset h.reset);
          valid = rw acks.common.segment (plain-valid due knows plain);
          kind = kind (record { common = acks.common; plain = plain; knows = knows; opened = (end-synchronized s synced h.progress).1.is_opened });
        }

    text-out : (due : Due) → is_fin due ≡ false → end_of s.sending due ≡ start_of s.sending due + count_of due → 1 + s.sending.released ≤ start_of s.sending due
        → end_of s.sending due ≤ max s.sending.snd_nxt (1 + length accepted) → count_of due ≤ text_limit s → IsOut s.sending accepted closed due
    text-out due no_fin ends least most short = record {
      least = least;
      most = omega (arith, most, going.most);
      within = omega (arith, ends);
      short = omega (arith, short, h.config.good.1.1);
      last = λ told. absurd (false≢true (sym no_fin ∙ told));
    }

    fin-out : (due : Due) → count_of due ≡ 0 → end_of s.sending due ≡ start_of s.sending due + 1 → start_of s.sending due ≡ end_of_text s.sending
        → closed ≡ true → IsOut s.sending accepted closed due
    fin-out due none ends place is_closed =
        let at : start_of s.sending due ≡ 1 + length accepted = place ∙ end-is s.sending accepted closed going in
        record {
          least = omega (arith, at, going.released);
          most = rw is_closed (omega (arith, at, ends));
          within = omega (arith, ends);
          short = omega (arith, none);
          last = λ _. (is_closed, at, none);
        }

    range-ends : (range : Range ℕ) (start : ℕ) → IsAgain s.sending range start → range.end ≤ max s.sending.snd_nxt (1 + length accepted)
    range-ends range start again = subst (λ (o : Option (Range ℕ)). IfSome o (λ r. r.end ≤ max s.sending.snd_nxt (1 + length accepted))) again.is h.sends.range

    out-again : KeptAgain s.sending (text_limit s) (λ sent. GoesOutAlone s accepted closed (Text sent))
    unfolding segment_of
    out-again =
        let d = s.sending in
        record {
          text = λ range start count again inside short _.
              let ends = range-ends range start again in
              out-plain (Text (Resend start count)) (record { common = record { segment = refl; to = refl; reset = refl }; syn = refl; ack = refl })
              (text-out (Text (Resend start count)) refl refl (omega (arith, going.released, again.ahead, (going-on s accepted closed e h).0))
              (omega (arith, inside, ends)) short) (range_after-ends (max d.snd_nxt (1 + length accepted)) (start + count) d.resend h.sends.range) (λ said. said);
          fin = λ range again.
              let last = end_of_text d in
              let beyond : 1 + length accepted < d.snd_nxt
              = omega (arith, range-ends range last again, again.inside, end-is d accepted closed going) in
              out-plain (Text (ResentFin last)) (record { common = record { segment = refl; to = refl; reset = refl }; syn = refl; ack = refl })
              (fin-out (Text (ResentFin last)) refl refl refl (sent-fin d accepted closed false going beyond))
              (range_after-ends (max d.snd_nxt (1 + length accepted)) (last + 1) d.resend h.sends.range) (λ said. said);
        }

    out-new : (count : ℕ) → count ≤ text_limit s → count ≤ count_unsent s.sending → GoesOutAlone s accepted closed (Text (NewText s.sending.snd_nxt count))
    unfolding segment_of
    out-new count short unsent =
        let d = s.sending in
        out-plain (Text (NewText d.snd_nxt count)) (record { common = record { segment = refl; to = refl; reset = refl }; syn = refl; ack = refl })
        (text-out (Text (NewText d.snd_nxt count)) refl refl (omega (arith, going.released, going.order, (going-on s accepted closed e h).0))
        (omega (arith, unsent, end-is d accepted closed going, going.released, going.order)) short) h.sends.range (λ said. said)

    out-fin : s.closing ≡ true → s.sending.snd_nxt ≡ end_of_text s.sending → GoesOutAlone s accepted closed (Text (Fin s.sending.snd_nxt))
    unfolding segment_of
    out-fin closing all =
        out-plain (Text (Fin s.sending.snd_nxt)) (record { common = record { segment = refl; to = refl; reset = refl }; syn = refl; ack = refl })
        (fin-out (Text (Fin s.sending.snd_nxt)) refl refl all (sym h.closing ∙ closing)) h.sends.range (λ said. said)

  -- whatever is due
  out-all : KeptByDue s (GoesOutAlone s accepted closed)
  out-all = record {
    resets = out-reset;
    syn = λ pending. out-syn (h.syn pending);
    acks = out-ack;
    again = λ e. again-kept s.sending (text_limit s) (λ sent. GoesOutAlone s accepted closed (Text sent)) (out-again e);
    new_text = λ e some. out-new e (new_count s.sending (text_limit s) s.pending.probe) (omega arith) (omega arith);
    fin = out-fin;
  }

-- whatever is due goes out: the end keeps what it keeps, and the segment can be written
pub due-alone : (s : State) (accepted : List ℕ) (closed : Bool) → IsAlone s accepted closed → IfSome (due_of s) (GoesOutAlone s accepted closed)
due-alone s accepted closed h = due-kept s (GoesOutAlone s accepted closed) (out-all s accepted closed h)

-- and so does the acknowledgement alone
pub ack-alone-goes : (s : State) (accepted : List ℕ) (closed : Bool) → IsAlone s accepted closed → IfSome (ack_alone s) (GoesOutAlone s accepted closed)
ack-alone-goes s accepted closed h = ack_alone-kept s (GoesOutAlone s accepted closed) (out-all s accepted closed h)
