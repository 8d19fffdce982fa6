-- NOTHING IS TAKEN BEFORE IT IS SENT, on the definitions: every event keeps it.
use Rattle.tcp_halves.specs.Sent as half
use Rattle.tcp_replay.proofs.Words.{◌+◌, ◌-◌, ◌<◌, ◌==◌, [], ◌^◌, Aborted, Acknowledgement, acks_more, address_of, after_ack, after_acked_text}
use Rattle.tcp_replay.proofs.Words.{after_delivering, after_discarding, after_due, after_own_syn, after_peer_accepts, after_peer_opens, after_place}
use Rattle.tcp_replay.proofs.Words.{after_read, after_text, after_window_and_blocks, and_parts, ap, arith, cases_lt, Cell, cond_both, Config, Content}
use Rattle.tcp_replay.proofs.Words.{count_numbers, count_of, discards, drop, Due, eqb-false, EventContent, false, false≢true, Fin, fin, has, has_fin}
use Rattle.tcp_replay.proofs.Words.{HasBytes, is_fin, is_fin_due, is_syn_received, IsSound, IsSoundPair, IsTruthful, length, length-drop, length-take}
use Rattle.tcp_replay.proofs.Words.{List, min, party_with_runs, world_with_runs, NewText, None, not, not-true, number, offset, offset_of_earlier, offset_of_later}
use Rattle.tcp_replay.proofs.Words.{Option, PartyState, piece, plain_segment, position_near, position_of, position_of_number, receive_refusal, Receiving}
use Rattle.tcp_replay.proofs.Words.{refl, refusal_of, Resend, ResentFin, Reset, rst, segment_of, Sending, Sent, SentSegment, slice_get, Some, start_of}
use Rattle.tcp_replay.proofs.Words.{State, state_after, subst, suc, sym, Syn, syn, syn_segment, takes_fin, takes_text, Text, text_of, true, window}
use Rattle.tcp_replay.proofs.Words.{window_from, with_acked, with_bytes_received, with_connection, with_fin, with_syn, with_syn_acked, with_window}
use Rattle.tcp_replay.proofs.Words.{without_bytes, witness_of, world_with_effect, WorldState, zero, ℕ, ℤ, ◌∙◌, ◌∷◌, ◌≡◌, ◌≤◌, ⊎_elim}
use Rattle.tcp_replay.proofs.Lemmas.{after_segment, AllHeld, AllSaid, AllText, Arrives, Both, both-swapped, Brings, brings-place, CanOpen, due-bits}
use Rattle.tcp_replay.proofs.Lemmas.{due-position, end-closed, end-listen, end-syn_sent, fin-in_turn, GoesOutAlone, handshake-una, held-more, held-moved}
use Rattle.tcp_replay.proofs.Lemmas.{held-none, held-same, in-world, IsAhead, IsSaid, IsYoung, Kept, kept-after_all, kept-run, kept-same, KeptByCalls}
use Rattle.tcp_replay.proofs.Lemmas.{MayGoOut, Moved, on-arrival, one_if, one_if-false, one_if-most, PairKept, placed, said-after, said-back}
use Rattle.tcp_replay.proofs.Lemmas.{same-window_and_blocks, sound-after, sound-new, Speaks, syn-bits, text_advance, uncapped_rcv_position}
use Rattle.tcp_progress.proofs.Words.{NothingIsTakenBeforeItIsSentWithRuns, TakeOnlySent, TakesOnlySent}
use Rattle.tcp_replay.proofs.Lemmas.{waiting-bit}

-- the byte at this place behind a position lies below another one
abbrev pub Below : ℕ → ℕ → ℕ → ℕ → Type 0
Below from n place byte = from + place < n

-- what a half has, and what it holds, lies below n
pub record IsReached (r : Receiving) (n : ℕ) : Type 0 where
  pub next : r.opened ≡ true → uncapped_rcv_position r ≤ n
  pub held : AllHeld (Below (1 + r.ordered) n) 0 r.inbox.held

pub reached-more : (r : Receiving) (n n' : ℕ) → n ≤ n' → IsReached r n → IsReached r n'
reached-more r n n' more h = record {
  next = λ e. omega (arith, more, h.next e);
  held = held-same (Below (1 + r.ordered) n) (Below (1 + r.ordered) n') 0 r.inbox.held (λ place byte is. omega (arith, more, is)) h.held;
}

pub reached-read : (r : Receiving) (n room : ℕ) → IsReached r n → IsReached (after_delivering r room) n
unfolding after_read
reached-read r n room h = record { next = h.next; held = held-more (Below (1 + r.ordered) n) 0 (min room (length r.inbox.unread)) r.inbox.held h.held }

pub reached-discarded : (r : Receiving) (n : ℕ) → IsReached r n → IsReached (without_bytes r) n
reached-discarded r n h = record { next = h.next; held = held-none (Below (1 + r.ordered) n) 0 r.inbox.capacity }

-- a text that ends below n
all-below : (from n place : ℕ) (text : List ℕ) → from + place + length text ≤ n → AllText (Below from n) place text
all-below from n place [] h = tt
all-below from n place (byte ∷ text) h = (omega (arith, h), all-below from n (suc place) text (omega (arith, h)))

text-ends_below : (from n place : ℕ) (text : List ℕ) → from + place ≤ n → AllText (Below from n) place text → from + place + length text ≤ n
text-ends_below from n place [] h t = omega (arith, h)
text-ends_below from n place (byte ∷ text) h t =
    let rest : from + suc place + length text ≤ n = text-ends_below from n (suc place) text (omega (arith, t.0)) t.1 in omega (arith, rest)

piece-below : (irs ordered position next seq n : ℕ) (text : List ℕ) → 1 + ordered ≤ position + 2 ^ 31 → position < 1 + ordered + 2 ^ 31
    → next ≡ number irs (1 + ordered) → seq ≡ number irs position
    → 1 + ordered ≤ n → position + length text ≤ n → AllText (Below (1 + ordered) n) (piece (offset next seq) text).start (piece (offset next seq) text).text
piece-below irs ordered position next seq n text young close next_is seq_is had fits =
    let P : ℤ → Type 0 = λ z. AllText (Below (1 + ordered) n) (piece z text).start (piece z text).text in
    subst (λ (k : ℕ). P (offset k seq)) (sym next_is) (subst (λ (m : ℕ). P (offset (number irs (1 + ordered)) m)) (sym seq_is) (⊎_elim (λ less.
    let k = suc (1 + ordered - position - 1) in
    subst P (sym (offset_of_earlier irs (1 + ordered) position less (omega (arith, young))))
    (all-below (1 + ordered) n 0 (drop k text) (omega (arith, had, fits, less, length-drop k text))))
    (λ more. subst P (sym (offset_of_later irs (1 + ordered) position more (omega (arith, close))))
    (all-below (1 + ordered) n (position - (1 + ordered)) text (omega (arith, fits, more)))) (cases_lt position (1 + ordered))))

-- TEXT
pub reached-text : (p q : PartyState) (s : State) (v : Content) (n : ℕ) → takes_text s.phase ≡ true → IsAhead p q → (truth : IsTruthful (witness_of q p) v)
    → IsYoung s truth.own.position → (length v.text ≡ 0 → ⊥)
    → truth.own.position + count_numbers v ≤ n → Kept p q s → IsReached s.receiving n → IsReached (after_text s.receiving v.seq v.text) n
unfolding after_text
reached-text p q s v n e close truth young some below kept h =
    let r = s.receiving in
    let m = text_advance s v in
    let at = placed p q s v e kept in
    let had : 1 + r.ordered ≤ n = omega (arith, h.next at.opened) in
    let P : ℕ → ℕ → Type 0 = Below (1 + r.ordered) n in
    let part : AllText P (piece (offset r.rcv_nxt v.seq) v.text).start (piece (offset r.rcv_nxt v.seq) v.text).text =
    piece-below q.endpoint.config.isn.0 r.ordered truth.own.position r.rcv_nxt v.seq n v.text (omega (arith, young))
    (omega (arith, truth.own.within, close.ahead, kept.grows.next, one_if-most r.finished, one_if-most q.closed)) at.next truth.own.seq had
    (omega (arith, below)) in
    let brings : Brings P r.inbox _ m = brings-place P r.inbox (offset r.rcv_nxt v.seq) v.text h.held part in
    let end : 1 + r.ordered + 0 + length brings.bytes ≤ n = text-ends_below (1 + r.ordered) n 0 brings.bytes (omega (arith, had)) brings.text in
    let ordered = (after_text r v.seq v.text).ordered in
    record {
      next = λ _. omega (arith, end, brings.count, one_if-false r.finished at.unfinished);
      held = held-moved P (Below (1 + ordered) n) m (λ i byte is. omega (arith, is)) m 0 (after_place r.inbox (offset r.rcv_nxt v.seq) v.text).held
          (omega arith) brings.held;
    }

-- THE PEER'S FIN
pub reached-fin : (p q : PartyState) (s : State) (v : Content) (n : ℕ) → IsAhead p q → (truth : IsTruthful (witness_of q p) v) → takes_fin s v ≡ true
    → truth.own.position + count_numbers v ≤ n → Kept p q s → IsReached (with_fin s.receiving) n
reached-fin p q s v n close truth e below kept =
    let r = s.receiving in
    let turn = fin-in_turn p q s v close truth e kept in
    let told = and_parts (has_fin s v) (is_fin_due r (number v.seq (length v.text))) e in
    let flag = and_parts (takes_text s.phase) (has fin v.flags) told.0 in
    let last = truth.own.has_fin flag.1 in
    let one : one_if (has fin v.flags) ≡ 1 = ap one_if flag.1 in
    record { next = λ _. omega (arith, turn.all, last.1, below, one); held = held-none (Below (1 + r.ordered) n) 0 (window r.inbox) }

-- Party p's end may be in this state, its peer q being where it is: SND.NXT didn't go back, and nothing was taken that q didn't send.
abbrev pub Reaches : PartyState → PartyState → State → Type 0
Reaches p q s = (p.endpoint.sending.snd_nxt ≤ s.sending.snd_nxt) × IsReached s.receiving q.endpoint.sending.snd_nxt

-- ---- THE CALLS, the timers and the emissions
pub reaches-calls : (p q : PartyState) → IsSoundPair p q → IsReached p.endpoint.receiving q.endpoint.sending.snd_nxt
    → KeptByCalls (address_of q) p (λ p'. Reaches p q p'.endpoint)
reaches-calls p q pair taken =
    let s = p.endpoint in
    let n = q.endpoint.sending.snd_nxt in
    let h : Reaches p q s = (omega arith, taken) in
    let gone : Reaches p q (after_discarding s Aborted) = (h.0, reached-discarded s.receiving n h.1) in
    let connects : CanOpen s → Reaches p q (with_connection s (address_of q)) = λ can.
    (omega (arith, (end-closed s can.shut can.ending pair.there.alone.progress).snd_nxt_is), h.1) in
    let reads : (room : ℕ) → receive_refusal s ≡ None → Reaches p q (with_bytes_received s room) = λ room _. (h.0, reached-read s.receiving n room h.1) in
    let emits : (due : Due) → MayGoOut s due → GoesOutAlone s p.accepted p.closed due → Reaches p q (state_after s due) = λ due _ _. (omega arith, h.1) in
    assumption

-- ---- ARRIVALS
acked-nxt : (d : Sending) (a : ℕ) → (after_ack d a).snd_nxt ≡ d.snd_nxt
unfolding after_ack
acked-nxt d a = cond_both (acks_more d a) (with_acked d a) d (λ (x : Sending). x.snd_nxt ≡ d.snd_nxt) (λ _. refl) (λ _. refl)

-- a segment that ends below what the peer sent
pub reaches-arrive : (p q : PartyState) (g : SentSegment) (v : Content) → IsSoundPair p q → Arrives p q g v
    → (has rst v.flags ≡ false → g.position + count_numbers v ≤ q.endpoint.sending.snd_nxt)
    → IsReached p.endpoint.receiving q.endpoint.sending.snd_nxt → Reaches p q (after_segment p q v)
unfolding after_own_syn after_acked_text after_window_and_blocks after_peer_opens after_peer_accepts
reaches-arrive p q g v pair a below taken =
    let s = p.endpoint in
    let d = s.sending in
    let r = s.receiving in
    let n = q.endpoint.sending.snd_nxt in
    let h : Reaches p q s = (omega arith, taken) in
    let acked = with_window (with_syn_acked d) v.seq v.ack (window_from s.link v.window) in
    let opening : has rst v.flags ≡ false → has syn v.flags ≡ true → r.opened ≡ false → IsReached (with_syn r v.seq) n = λ plain e shut.
    let none = pair.there.takes.unopened shut in
    record { next = λ _. omega (arith, none.1, ap one_if none.2, ap one_if e, below plain); held = taken.held } in
    on-arrival p q v g.position g.wanted (Reaches p q) (Reaches p q) a.comes (kept-same p q pair) (record {
      same = h;
      has_pending = λ _ _. h;
      gone = (h.0, reached-discarded r n h.1);
      opens = λ listening is.
          let at = end-listen s listening pair.there.alone.progress in
          (omega (arith, at.1.snd_nxt_is), opening is.plain is.is_syn at.1.not_opened);
      accepts = λ sent is.
          let at = end-syn_sent s sent pair.there.alone.progress in
          (h.0, opening is.plain is.is_syn at.1.not_opened);
      own_syn = λ _ _. (cond_both (is_syn_received s.phase) acked d (λ (x : Sending). d.snd_nxt ≤ x.snd_nxt) (λ _. h.0) (λ _. h.0), h.1);
      acked_text = λ x _ _ _ b. (omega (arith, acked-nxt x.sending (position_near x v.ack), b.0), b.1);
      window_and_blocks = λ x _ synced _ b. (omega (arith, (same-window_and_blocks x p.accepted p.closed (discards x.ending) v synced.kept.here.alone.sends).snd_nxt, b.0), b.1);
      last = λ _ _ _ _ b. b;
      passes = λ _ _ _ _ b. b;
      stays = λ _ _ _ b. b;
      text = λ x _ told kept young e b.
          let stands = a.comes.truthful told.plain in
          let parts = and_parts (takes_text x.phase) (not (length v.text == 0)) e in
          let some = eqb-false (length v.text) 0 (not-true (length v.text == 0) parts.1) in (
            b.0,
            reached-text p q x v n parts.0 a.comes.close stands.truth (omega (arith, young, stands.position_is)) some
                (omega (arith, stands.position_is, below told.plain)) kept b.1,
          );
      fin = λ x _ told kept _ e b.
          let stands = a.comes.truthful told.plain in
          (b.0, reached-fin p q x v n a.comes.close stands.truth e (omega (arith, stands.position_is, below told.plain)) kept);
      adds_pending = λ _ _ b. b;
    }) s.config.addr.0

-- what x emitted ends at SND.NXT at most
abbrev pub EndsBy : ℕ → SentSegment → Content → Type 0
EndsBy n g v = has rst v.flags ≡ false → g.position + count_numbers v ≤ n

pub record KeepsSent (x y : PartyState) : Type 0 where
  pub taken : IsReached x.endpoint.receiving y.endpoint.sending.snd_nxt
  pub emitted : AllSaid x y (EndsBy x.endpoint.sending.snd_nxt)

-- EMIT: what is due ends where SND.NXT is after it
plain-ends : (p q : PartyState) (due : Due) (n : ℕ) → IsSaid p.endpoint p.accepted p.closed due → IsSoundPair p q
    → start_of p.endpoint.sending due + count_of due + one_if (is_fin due) ≤ n
    → position_of p.endpoint.config.isn.0 p.endpoint.sending.snd_una (plain_segment p.endpoint due).seq + count_numbers (plain_segment p.endpoint due) ≤ n
plain-ends p q due n said h fits =
    let s = p.endpoint in
    let d = s.sending in
    let sends = h.there.alone.sends in
    let plain = said.plain in
    let start = start_of d due in
    let bits = due-bits d due in
    let at : position_of s.config.isn.0 d.snd_una (plain_segment s due).seq ≡ start =
    position_of_number s.config.isn.0 d.snd_una start h.there.alone.config.isn (omega (arith, plain.within, one_if-most p.closed, sends.ahead, sends.released))
    (omega (arith, plain.behind)) in
    let no_syn : one_if (has syn (plain_segment s due).flags) ≡ 0 = ap one_if bits.0 in
    let last : one_if (has fin (plain_segment s due).flags) ≡ one_if (is_fin due) = ap one_if bits.1 in
    let count : length (text_of d due) ≤ count_of due = omega (arith, ap length plain.text, length-take (count_of due) (drop (start - 1) p.accepted)) in
    omega (arith, at, no_syn, last, count, fits)

abbrev pub DueEnds : PartyState → Due → Type 0
DueEnds p due = has rst (segment_of p.endpoint due).flags ≡ false
    → position_of p.endpoint.config.isn.0 p.endpoint.sending.snd_una (segment_of p.endpoint due).seq + count_numbers (segment_of p.endpoint due) ≤
    (after_due p.endpoint (Some due)).sending.snd_nxt

sent-ends : (sent : Sent) → half.start_of sent + half.count_of sent + one_if (half.is_fin sent) ≤ half.end_of sent
sent-ends (Resend start count) = omega arith
sent-ends (NewText start count) = omega arith
sent-ends (Fin start) = omega arith
sent-ends (ResentFin start) = omega arith

pub due-ends : (p q : PartyState) (due : Due) → IsSoundPair p q → GoesOutAlone p.endpoint p.accepted p.closed due → DueEnds p due
unfolding segment_of
due-ends p q Reset h out plain = absurd (false≢true (sym plain ∙ waiting-bit p.endpoint p.endpoint.pending.reset out.kind))
due-ends p q Syn h out plain =
    let s = p.endpoint in
    let d = s.sending in
    let first : d.snd_una ≤ 1 =
    handshake-una s.phase s.ending d.snd_una d.snd_nxt s.receiving.opened s.receiving.finished out.kind h.there.alone.sends.order h.there.alone.progress in
    let at : position_of s.config.isn.0 d.snd_una (syn_segment s).seq ≡ 0 = position_of_number s.config.isn.0 d.snd_una 0 h.there.alone.config.isn (omega arith)
    (omega (arith, first)) in
    let bits = syn-bits s.receiving.opened in
    let is_syn : one_if (has syn (syn_segment s).flags) ≡ 1 = ap one_if bits.0 in
    let no_fin : one_if (has fin (syn_segment s).flags) ≡ 0 = ap one_if bits.1 in
    omega (arith, at, is_syn, no_fin)
due-ends p q (Text sent) h out plain = plain-ends p q (Text sent) _ out.kind h (omega (arith, sent-ends sent))
due-ends p q Acknowledgement h out plain = plain-ends p q Acknowledgement _ out.kind h (omega arith)

-- p became p', and emitted what is due
sent-moved : (p p' q : PartyState) → IsSoundPair p q → Moved p p' q → Speaks p p' q → Reaches p q p'.endpoint → Both KeepsSent p q → Both KeepsSent p' q
sent-moved p p' q pair moved out reaches h = record {
  there = record {
    taken = reaches.1;
    emitted = said-after p p' q (EndsBy p'.endpoint.sending.snd_nxt) moved.config out
        (λ k g v is read plain. omega (arith, h.there.emitted k g v is read plain, reaches.0))
        (λ due goes alone after plain. omega (arith, due-position p q due goes, due-ends p q due pair alone plain, ap (λ (s : State). s.sending.snd_nxt) after));
  };
  back = assumption (
    reached-more q.endpoint.receiving p.endpoint.sending.snd_nxt p'.endpoint.sending.snd_nxt reaches.0 h.back.taken,
    said-back p p' q (EndsBy q.endpoint.sending.snd_nxt) moved.config h.back.emitted,
  );
}

pub sent-kept : PairKept (λ _ _. Unit {0}) (Both KeepsSent) (λ p q s _. Reaches p q s)
sent-kept = record {
  swapped = both-swapped KeepsSent;
  calls = λ p q pair h. reaches-calls p q pair h.there.taken;
  has_pending = λ p q ack reset pair h. (omega arith, h.there.taken);
  arrives = λ p q g v _ pair a h. reaches-arrive p q g v pair a (h.back.emitted a.place g v a.sent a.read) h.there.taken;
  moved = sent-moved;
}

-- what a world keeps
record IsSoundAndSent (w : WorldState) : Type 0 where
  sound : IsSound w
  sent : Both KeepsSent w.a w.b

sent-after : (w : WorldState) (event : EventContent) → HasBytes event → refusal_of w event ≡ None → IsSoundAndSent w
    → IsSoundAndSent (world_with_effect w event)
sent-after w event fits e h =
    record { sound = sound-after w event fits e h.sound; sent = in-world _ _ _ sent-kept w event h.sound.life fits e tt tt h.sound.ends h.sent }

pub new-sent : (a b : Config) (runs_a runs_b : ℕ) → KeepsSent (party_with_runs a runs_a) (party_with_runs b runs_b)
new-sent a b runs_a runs_b = record { taken = record { next = λ never. absurd (cc); held = held-none (Below 1 0) 0 a.recv_capacity }; emitted = λ k g v never. absurd (cc) }

-- each held byte, by its place
held-below : (from n start : ℕ) (held : List (Option Cell)) (place : ℕ) (cell : Cell) → AllHeld (Below from n) start held
    → slice_get held place ≡ Some (Some cell) → from + start + place < n
held-below from n start [] place cell h is = absurd (cc)
held-below from n start (None ∷ held) zero cell h is = absurd (cc)
held-below from n start (Some first ∷ held) zero cell h is = omega (arith, h.0)
held-below from n start (None ∷ held) (suc place) cell h is = omega (arith, held-below from n (suc start) held place cell h is)
held-below from n start (Some first ∷ held) (suc place) cell h is = omega (arith, held-below from n (suc start) held place cell h.1 is)

pub takes-only_sent : (x y : PartyState) → Both KeepsSent x y → TakesOnlySent x y
takes-only_sent x y h = record {
  taken = h.back.taken.next;
  held = λ place cell is. omega (
    arith,
    held-below (1 + y.endpoint.receiving.ordered) x.endpoint.sending.snd_nxt 0 y.endpoint.receiving.inbox.held place cell h.back.taken.held is,
  );
  emitted = h.there.emitted;
}

pub only_sent : (w : WorldState) → Both KeepsSent w.a w.b → TakeOnlySent w
only_sent w h = record { there = takes-only_sent w.a w.b h; back = takes-only_sent w.b w.a (both-swapped KeepsSent _ _ h) }

pub only_sent_lem : NothingIsTakenBeforeItIsSentWithRuns
only_sent_lem life a b runs_a runs_b list most one two fits =
    let w = world_with_runs life a b runs_a runs_b in
    let new : Both KeepsSent w.a w.b = record { there = new-sent a b runs_a runs_b; back = new-sent b a runs_b runs_a } in
    let start : IsSoundAndSent w = record { sound = sound-new life a b runs_a runs_b most one two; sent = new } in
    let stops = kept-run IsSoundAndSent sent-after w list fits start in
    let goes_on = kept-after_all IsSoundAndSent sent-after w list fits start in
    (only_sent _ stops.sent, only_sent _ goes_on.sent)
