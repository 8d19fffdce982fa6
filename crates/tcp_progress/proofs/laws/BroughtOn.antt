-- A text that covers place 0 and ends within the window comes in order, whatever is held.
use Rattle.tcp_replay.proofs.Words.{◌%◌, ◌++◌, ◌+ℤ◌, ◌+◌, ◌-◌, ◌<◌, ◌==◌, [], ◌^◌, advance_of, advance_of-answer_for, after_place, after_text, and_from}
use Rattle.tcp_replay.proofs.Words.{answer_for, ap, append-nil, arith, Bool, bytes_in_order, cases_Bool, cases_lt, Cell, distance, drop, false, greatest_stamp}
use Rattle.tcp_replay.proofs.Words.{if◌then◌else◌, Inbox, inl, inr, ints, is_fin_due, is_refused, length, length-append, length-drop, List, max_ordered, min}
use Rattle.tcp_replay.proofs.Words.{nat_lt, nat_tests, near_ahead, near_behind, negsuc, not, NotKept, number, offset, Option, or_right, overlay}
use Rattle.tcp_replay.proofs.Words.{overlay_of, Piece, place_answer, pos, Receiving, refl, suc, sym, true, true≢false, window, with_fin, with_overlay}
use Rattle.tcp_replay.proofs.Words.{zero, ◌||◌, ℕ, ℤ, ◌∙◌, ◌∷◌, ◌≡◌, ◌≤ℤ◌, ◌≤◌, ◌⊎◌}
use Rattle.tcp_replay.proofs.one_end.Room.{in_order-most, overlay-length}
use Rattle.tcp_progress.proofs.Words.{BringsOn}

-- what is laid over the first places is in order
overlay-in_order : (text : List ℕ) (stamp : ℕ) (held : List (Option Cell)) → length text ≤ length held
    → length text ≤ length (bytes_in_order (overlay 0 text stamp held))
overlay-in_order [] stamp held fits = omega arith
overlay-in_order (byte ∷ text) stamp [] fits = absurd (omega arith)
overlay-in_order (byte ∷ text) stamp (place ∷ places) fits = omega (arith, overlay-in_order text stamp places (omega (arith, fits)))

-- n bytes come in order: up to `end` at least, and no more than the window has places
pub record Brings (q q' : Inbox) (end : ℤ) (n : ℕ) : Type 0 where
  pub more : List ℕ
  pub count : n ≡ length more
  pub unread : q'.unread ≡ q.unread ++ more
  pub capacity : q'.capacity ≡ q.capacity
  pub least : end ≤ℤ pos n
  pub most : n ≤ length q.held

abbrev front : List ℕ → Piece
front text = record { start = 0; text = text }

-- a piece at place 0 is refused where it is empty alone
refused-empty : (q : Inbox) (text : List ℕ) → length text ≤ length q.held → is_refused q (front text) ≡ true → length text ≡ 0
refused-empty q text fits e = grind (arith, nat_tests, fits, e)

by-refusal : (q : Inbox) (text : List ℕ) (end : ℤ) (refused : Bool) → (refused ≡ true → length text ≡ 0) → length text ≤ length q.held
    → (end ≤ℤ pos (length text))
    → Brings q (if refused then q else with_overlay q (overlay_of q (front text))) end
    (advance_of (if refused then NotKept else answer_for (length (bytes_in_order (overlay_of q (front text))))))
by-refusal q text end true empty fits ends = record {
  more = [];
  count = refl;
  unread = sym (append-nil q.unread);
  capacity = refl;
  least = omega (arith, ints, ends, empty refl);
  most = omega arith;
}
by-refusal q text end false empty fits ends =
    let stamp = suc (greatest_stamp q.held) in
    let over = overlay 0 text stamp q.held in
    rw advance_of-answer_for (record {
      more = bytes_in_order over;
      count = refl;
      unread = refl;
      capacity = refl;
      least = omega (arith, ints, ends, overlay-in_order text stamp q.held fits);
      most = omega (arith, in_order-most over, overlay-length 0 text stamp q.held);
    })

brings-front : (q : Inbox) (text : List ℕ) (end : ℤ) → length text ≤ length q.held → (end ≤ℤ pos (length text))
    → Brings q (if is_refused q (front text) then q else with_overlay q (overlay_of q (front text))) end
    (advance_of (if is_refused q (front text) then NotKept else answer_for (length (bytes_in_order (overlay_of q (front text))))))
brings-front q text end fits ends = by-refusal q text end (is_refused q (front text)) (refused-empty q text fits) fits ends

-- what lies before place 0 is cut off
pub covering-brings : (q : Inbox) (offset : ℤ) (text : List ℕ) → (offset ≤ℤ pos 0) → ((offset +ℤ pos (length text)) ≤ℤ pos (length q.held))
    → Brings q (after_place q offset text) (offset +ℤ pos (length text)) (advance_of (place_answer q offset text))
unfolding after_place place_answer
covering-brings q (pos zero) text begins within = brings-front q text (pos 0 +ℤ pos (length text)) (omega (arith, ints, within)) (omega (arith, ints))
covering-brings q (pos (suc n)) text begins within = absurd (omega (arith, ints, begins))
covering-brings q (negsuc n) text begins within =
    let left : length (drop (suc n) text) ≡ length text - suc n = length-drop (suc n) text in
    brings-front q (drop (suc n) text) (negsuc n +ℤ pos (length text)) (omega (arith, ints, within, left)) (omega (arith, ints, left))

-- ---- What is next brings the half that receives on: its text, and its FIN.
-- TEXT: so much of it comes in order
pub record Moves (r r' : Receiving) (end : ℤ) : Type 0 where
  pub more : List ℕ
  pub next : r'.rcv_nxt ≡ number r.rcv_nxt (length more)
  pub unread : r'.inbox.unread ≡ r.inbox.unread ++ more
  pub ordered : r'.ordered ≡ min max_ordered (r.ordered + length more)
  pub finished : r'.finished ≡ r.finished
  pub least : end ≤ℤ pos (length more)
  pub most : length more ≤ window r.inbox
  pub room : window r'.inbox ≡ window r.inbox - length more

text-moves : (r : Receiving) (seq : ℕ) (text : List ℕ) → length r.inbox.held ≡ window r.inbox → (offset r.rcv_nxt seq ≤ℤ pos 0)
    → ((offset r.rcv_nxt seq +ℤ pos (length text)) ≤ℤ pos (window r.inbox)) → Moves r (after_text r seq text) (offset r.rcv_nxt seq +ℤ pos (length text))
unfolding after_text
text-moves r seq text whole begins within =
    let brings = covering-brings r.inbox (offset r.rcv_nxt seq) text begins (omega (arith, ints, within, whole)) in
    let longer : length (after_place r.inbox (offset r.rcv_nxt seq) text).unread ≡ length r.inbox.unread + length brings.more =
    ap length brings.unread ∙ length-append r.inbox.unread brings.more in
    record {
      more = brings.more;
      next = ap (number r.rcv_nxt) brings.count;
      unread = brings.unread;
      ordered = ap (λ n. min max_ordered (r.ordered + n)) brings.count;
      finished = refl;
      least = omega (arith, ints, brings.least, brings.count);
      most = omega (arith, brings.most, brings.count, whole);
      room = omega (arith, longer, brings.capacity);
    }

none-moves : (r : Receiving) (end : ℤ) → r.rcv_nxt < 2 ^ 32 → r.ordered ≤ max_ordered → (end ≤ℤ pos 0) → Moves r r end
none-moves r end small counted begins = record {
  more = [];
  next = omega (arith, small);
  unread = sym (append-nil r.inbox.unread);
  ordered = omega (arith, counted);
  finished = refl;
  least = begins;
  most = omega arith;
  room = omega arith;
}

pub its_text-moves : (r : Receiving) (seq : ℕ) (text : List ℕ) → r.rcv_nxt < 2 ^ 32 → r.ordered ≤ max_ordered → length r.inbox.held ≡ window r.inbox
    → (offset r.rcv_nxt seq ≤ℤ pos 0) → ((offset r.rcv_nxt seq +ℤ pos (length text)) ≤ℤ pos (window r.inbox))
    → Moves r (if not (length text == 0) then after_text r seq text else r) (offset r.rcv_nxt seq +ℤ pos (length text))
its_text-moves r seq text small counted whole begins within =
    elim (cases_Bool (length text == 0)) [
      | inl none ↦
          let empty : length text ≡ 0 = grind (arith, nat_tests, none) in
          rw none (none-moves r (offset r.rcv_nxt seq +ℤ pos (length text)) small counted (omega (arith, ints, begins, empty)))
      | inr some ↦ rw some (text-moves r seq text whole begins within)
    ]

-- FIN: where a text ends right at a position, its end's number is that position's
same-number : (n seq count k : ℕ) → (offset n seq +ℤ pos count) ≡ pos k → number seq count ≡ number n k
unfolding offset
same-number n seq count k e =
    elim (cases_lt (distance (n % 2 ^ 32) seq) (2 ^ 31)) [
      | inl close ↦
          let place : distance (n % 2 ^ 32) seq + count ≡ k = omega (arith, ints, near_ahead n seq close, e) in
          omega (arith, place)
      | inr far ↦
          let place : distance (n % 2 ^ 32) seq + count ≡ k + 2 ^ 32 = omega (arith, ints, near_behind n seq far, e) in
          omega (arith, place)
    ]

-- an end that lies at a position or before it
at-or-before : (z : ℤ) (k : ℕ) → (z ≤ℤ pos k) → (z ≡ pos k) ⊎ ((z +ℤ pos 1) ≤ℤ pos k)
at-or-before z k below = grind (arith, ints, below)

fin-due : (r r' : Receiving) (seq count : ℕ) (m : Moves r r' (offset r.rcv_nxt seq +ℤ pos count)) → (offset r.rcv_nxt seq +ℤ pos count) ≡ pos (length m.more)
    → length m.more < window r.inbox → is_fin_due r' (number seq count) ≡ true
fin-due r r' seq count m e room =
    let same : number seq count ≡ r'.rcv_nxt = same-number r.rcv_nxt seq count (length m.more) e ∙ sym m.next in
    and_from (number seq count == r'.rcv_nxt) (nat_lt 0 (window r'.inbox)) (grind (arith, nat_tests, same)) (grind (arith, nat_tests))

or-none : (b : Bool) → b ≡ (b || false)
or-none b = grind arith

-- without a FIN the text alone
pub without-fin : (r r' : Receiving) (end end' : ℤ) → (m : Moves r r' end) → (end' ≤ℤ pos (length m.more)) → BringsOn r r' end'
without-fin r r' end end' m least = record {
  count = length m.more;
  next = m.next;
  least = least;
  most = m.most;
  text = m.more;
  unread = m.unread;
  ordered = m.ordered;
  fin = false;
  counted = omega arith;
  finished = m.finished ∙ or-none r.finished;
}

-- with a FIN the segment is one number longer
pub with-fin : (r r' : Receiving) (seq count : ℕ) (m : Moves r r' (offset r.rcv_nxt seq +ℤ pos count)) (due : Bool) → is_fin_due r' (number seq count) ≡ due
    → ((offset r.rcv_nxt seq +ℤ pos (count + 1)) ≤ℤ pos (window r.inbox)) → BringsOn r (if due then with_fin r' else r') (offset r.rcv_nxt seq +ℤ pos (count + 1))
with-fin r r' seq count m true e within =
    let open_still : 1 ≤ window r'.inbox = grind (arith, nat_tests, e) in
    record {
      count = length m.more + 1;
      next = omega (arith, m.next);
      least = omega (arith, ints, m.least);
      most = omega (arith, open_still, m.room, m.most);
      text = m.more;
      unread = m.unread;
      ordered = m.ordered;
      fin = true;
      counted = refl;
      finished = sym (or_right r.finished true refl);
    }
with-fin r r' seq count m false e within =
    without-fin r r' (offset r.rcv_nxt seq +ℤ pos count) (offset r.rcv_nxt seq +ℤ pos (count + 1)) m
    (elim (at-or-before (offset r.rcv_nxt seq +ℤ pos count) (length m.more) m.least) [
      | inl right_there ↦ absurd (true≢false (sym (fin-due r r' seq count m right_there (omega (arith, ints, right_there, within))) ∙ e))
      | inr further ↦ omega (arith, ints, further)
    ])
