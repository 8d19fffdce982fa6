-- WHAT AN END HAS of the other direction, and keeps until it gives up; and the marks of the half that sends, each of a position that the other end has.
use Rattle.tcp_replay.proofs.Words.{◌&&◌, ◌+◌, ◌++◌, ◌-◌, ◌<◌, [], ◌^◌, acks_more, Advances, after_ack, after_block, after_blocks, after_delivering}
use Rattle.tcp_replay.proofs.Words.{after_mark, after_read, after_window_update, Agrees, and_parts, ap, AreBlocksBehind, arith, Bool, byte_at, byte_of}
use Rattle.tcp_replay.proofs.Words.{can_mark, cases_lt, Cell, cond_both, count_below, drop, false, get_or, get_or-append-add, HasPosition, Inbox, inl, inr}
use Rattle.tcp_replay.proofs.Words.{is_newer, is_of_flight, IsBlockBehind, IsMarked, IsMarked-after_offer, IsMarked-after_release, IsMarked-without_marks}
use Rattle.tcp_replay.proofs.Words.{KeepsBytes, length, length-append, length-drop, length-map, length-take-le, List, ltb-true, map, marks_text}
use Rattle.tcp_replay.proofs.Words.{marks_with, marks_with-only, max_capacity, max_ordered, min, nat_le, nat_lt, None, Option, place_of, position_at}
use Rattle.tcp_replay.proofs.Words.{position_of, position_of_number, Queue, Receiving, refl, replicate, Sending, Sends, slice_get, slice_get_within, Some}
use Rattle.tcp_replay.proofs.Words.{stream_limit, subst, suc, sym, take, true, with_acked, with_fin, with_inbox, with_marks, with_text, with_window}
use Rattle.tcp_replay.proofs.Words.{without_marks, without_text, Witness, zero, ℕ, ◌∙◌, ◌∷◌, ◌≡◌, ◌≤◌, ◌⊎◌, ⊎_elim}
use Rattle.tcp_replay.proofs.{Lists.one_if, Lists.one_if-false, Lists.one_if-most, pair.Steps.uncapped_rcv_position, one_end.Alone.same-marks}

-- a position that is held: so many places after the next one
abbrev pub IsHeldAt : Receiving → ℕ → Type 0
IsHeldAt r n = (cell : Cell) × (uncapped_rcv_position r ≤ n) × (slice_get r.inbox.held (n - uncapped_rcv_position r) ≡ Some (Some cell))

-- a position that the half that receives has
abbrev pub Has : Receiving → ℕ → Type 0
Has r n = (n < uncapped_rcv_position r) ⊎ IsHeldAt r n

-- a position that the one half has, the other has
abbrev pub HasMore : Receiving → Receiving → Type 0
HasMore r r' = (n : ℕ) → Has r n → Has r' n

-- what is held lies within the text
held-inside : (held : List (Option Cell)) (rest : List ℕ) (k : ℕ) (cell : Cell) → Agrees held rest → slice_get held k ≡ Some (Some cell) → k < length rest
held-inside [] rest k cell h e = absurd (cc)
held-inside (None ∷ places) [] zero cell h e = absurd (cc)
held-inside (None ∷ places) [] (suc k) cell h e = absurd (omega (arith, held-inside places [] k cell h e))
held-inside (None ∷ places) (byte ∷ rest) (suc k) cell h e = omega (arith, held-inside places rest k cell h e)
held-inside (Some first ∷ places) [] k cell h e = absurd h
held-inside (Some first ∷ places) (byte ∷ rest) (suc k) cell h e = omega (arith, held-inside places rest k cell h.1 e)
held-inside other (byte ∷ rest) zero cell h e = omega arith

below-inside : (ordered whole n : ℕ) (finished : Bool) → ordered ≤ whole → n < 1 + ordered + one_if finished → n ≤ 1 + whole
below-inside ordered whole n true order below = omega arith
below-inside ordered whole n false order below = omega arith

-- so that every position that is had does, the FIN's aside
pub has-inside : (r : Receiving) (accepted : List ℕ) (n : ℕ) → r.ordered ≤ length accepted → Agrees r.inbox.held (drop r.ordered accepted) → Has r n
    → n ≤ 1 + length accepted
has-inside r accepted n order held (inl below) = below-inside r.ordered (length accepted) n r.finished order below
has-inside r accepted n order held (inr is) =
    let k = n - uncapped_rcv_position r in
    let inside : k < length (drop r.ordered accepted) = held-inside r.inbox.held (drop r.ordered accepted) k is.0 held is.2 in
    omega (arith, inside, length-drop r.ordered accepted, is.1, one_if-most r.finished, order)

-- reading brings places into the window
pub slice_get-before : {X : Type 0} (xs ys : List X) (k : ℕ) (x : X) → slice_get xs k ≡ Some x → slice_get (xs ++ ys) k ≡ Some x
slice_get-before [] ys k x e = absurd (cc)
slice_get-before (first ∷ xs) ys zero x e = e
slice_get-before (first ∷ xs) ys (suc k) x e = slice_get-before xs ys k x e

-- a read leaves all positions
pub has-read : (r : Receiving) (n : ℕ) → HasMore r (after_delivering r n)
unfolding after_read
has-read r n position (inl below) = inl below
has-read r n position (inr is) =
    inr (is.0, is.1, slice_get-before r.inbox.held (replicate (min n (length r.inbox.unread)) None) (position - uncapped_rcv_position r) (Some is.0) is.2)

-- the FIN is taken where nothing is held after it
pub has-fin : (r : Receiving) (accepted : List ℕ) → r.finished ≡ false → r.ordered ≡ length accepted → Agrees r.inbox.held (drop r.ordered accepted)
    → HasMore r (with_fin r)
has-fin r accepted unfinished all held position (inl below) = inl (omega (arith, below, one_if-false r.finished unfinished))
has-fin r accepted unfinished all held position (inr is) =
    let inside : position - uncapped_rcv_position r < length (drop r.ordered accepted) = held-inside r.inbox.held (drop r.ordered accepted)
    (position - uncapped_rcv_position r) is.0 held is.2 in
    absurd (omega (arith, inside, length-drop r.ordered accepted))

-- text is placed: a byte that is there stays
byte-held : (held : List (Option Cell)) (k : ℕ) (cell : Cell) → slice_get held k ≡ Some (Some cell) → get_or (map byte_of held) k None ≡ Some cell.byte
byte-held [] k cell e = absurd (cc)
byte-held (place ∷ held) zero cell e = let is : place ≡ Some cell = cc in ap byte_of is
byte-held (place ∷ held) (suc k) cell e = byte-held held k cell e

held-byte : (held : List (Option Cell)) (k byte : ℕ) → get_or (map byte_of held) k None ≡ Some byte → (cell : Cell) × (slice_get held k ≡ Some (Some cell))
held-byte [] k byte e = absurd (cc)
held-byte (None ∷ held) zero byte e = absurd (cc)
held-byte (Some cell ∷ held) zero byte e = (cell, refl)
held-byte (place ∷ held) (suc k) byte e = held-byte held k byte e

-- places are counted from the first unread byte there
after-unread : (q : Inbox) (k : ℕ) → byte_at q (length q.unread + k) ≡ get_or (map byte_of q.held) k None
after-unread q k =
    let read = map (λ (byte : ℕ). Some byte) q.unread in
    let count : length read ≡ length q.unread = length-map q.unread (λ (byte : ℕ). Some byte) in
    ap (λ n. get_or (read ++ map byte_of q.held) (n + k) None) (sym count) ∙ get_or-append-add read (map byte_of q.held) k None

stays-held : (q q' : Inbox) (n k : ℕ) (cell : Cell) → KeepsBytes q q' → length q'.unread ≡ length q.unread + n → n ≤ k → slice_get q.held k ≡ Some (Some cell)
    → (cell : Cell) × (slice_get q'.held (k - n) ≡ Some (Some cell))
stays-held q q' n k cell keeps longer further e =
    let there : byte_at q (length q.unread + k) ≡ Some cell.byte = after-unread q k ∙ byte-held q.held k cell e in
    let place : length q.unread + k ≡ length q'.unread + (k - n) = omega (arith, longer) in
    held-byte q'.held (k - n) cell.byte (sym (after-unread q' (k - n)) ∙ ap (byte_at q') (sym place) ∙ keeps (length q.unread + k) cell.byte there)

-- placing text leaves all positions
pub has-text : (r : Receiving) (q' : Inbox) (accepted : List ℕ) (n : ℕ) → r.ordered ≤ length accepted → length accepted ≤ stream_limit → KeepsBytes r.inbox q'
    → Advances r.inbox q' (drop r.ordered accepted) n → HasMore r (with_inbox r q' n)
has-text r q' accepted n order limit keeps steps position had =
    let room : n ≤ length accepted - r.ordered = omega (arith, steps.within, length-drop r.ordered accepted) in
    let further : min max_ordered (r.ordered + n) ≡ r.ordered + n = omega arith in
    let next : uncapped_rcv_position (with_inbox r q' n) ≡ uncapped_rcv_position r + n = omega (arith, further) in
    let longer : length q'.unread ≡ length r.inbox.unread + n = ap length steps.unread ∙ length-append r.inbox.unread (take n (drop r.ordered accepted)) ∙ ap
    (λ m. length r.inbox.unread + m) (length-take-le n (drop r.ordered accepted) steps.within) in
    ⊎_elim (λ (below : position < uncapped_rcv_position r). inl (omega (arith, next)))
    (λ (is : IsHeldAt r position).
    let k = position - uncapped_rcv_position r in
    ⊎_elim (λ (passed : k < n). inl (omega (arith, next, is.1)))
    (λ (behind : n ≤ k).
    let still = stays-held r.inbox q' n k is.0 keeps longer behind is.2 in
    let place : k - n ≡ position - uncapped_rcv_position (with_inbox r q' n) = omega (arith, next) in
    inr (still.0, omega (arith, next, is.1), ap (slice_get q'.held) (sym place) ∙ still.1))
    (cases_lt k n)) had

-- each marked byte is at a position that the other half has
abbrev pub AreTrueMarks : Sending → Receiving → Type 0
AreTrueMarks d r = (place : ℕ) → IsMarked d.queue place → Has r (position_at d place)

-- a release takes bytes with their marks
marks-acked : (d : Sending) (r : Receiving) (a : ℕ) → AreTrueMarks d r → AreTrueMarks (with_acked d a) r
marks-acked d r a h place is =
    let same : 1 + d.released + (count_below d a + place) ≡ 1 + (d.released + count_below d a) + place = omega arith in
    subst (Has r) same (h (count_below d a + place) (IsMarked-after_release d.queue (count_below d a) place is))

-- an acknowledgement leaves marks true
pub marks-after_ack : (d : Sending) (r : Receiving) (a : ℕ) → AreTrueMarks d r → AreTrueMarks (after_ack d a) r
unfolding after_ack
marks-after_ack d r a h = cond_both (acks_more d a) (with_acked d a) d (λ (x : Sending). AreTrueMarks x r) (λ _. marks-acked d r a h) (λ _. h)

-- what is offered isn't marked
pub marks-text : (d : Sending) (r : Receiving) (limit : ℕ) (text : List ℕ) → AreTrueMarks d r → AreTrueMarks (with_text d limit text) r
marks-text d r limit text h place is = h place (IsMarked-after_offer d.queue _ place is)

-- nothing is, after a timeout or a reset
pub marks-none : (d d' : Sending) (r : Receiving) → d'.queue ≡ without_marks d.queue → AreTrueMarks d' r
marks-none d d' r e place is = absurd (IsMarked-without_marks d.queue place (subst (λ (q : Queue). IsMarked q place) e is))

-- an end that gives up has no marks
pub marks-discarded : (d : Sending) (r : Receiving) → length d.queue.marks ≡ length d.queue.bytes → AreTrueMarks (without_text d) r
marks-discarded d r flags place is =
    let inside : length d.queue.bytes + place < length d.queue.marks = slice_get_within d.queue.marks (length d.queue.bytes + place) true
    (IsMarked-after_release d.queue (length d.queue.bytes) place is) in
    absurd (omega (arith, flags))

-- a window update leaves them
pub marks-window : (d : Sending) (r : Receiving) (seq ack window : ℕ) → AreTrueMarks d r → AreTrueMarks (after_window_update d seq ack window) r
unfolding after_window_update
marks-window d r seq ack window h = cond_both (is_newer d seq ack) (with_window d seq ack window) d (λ (x : Sending). AreTrueMarks x r) (λ _. h) (λ _. h)

-- A BLOCK marks positions that the other end has
marks-block : (d : Sending) (r : Receiving) (left right : ℕ) → 1 + d.released ≤ d.snd_una → length d.queue.marks ≡ length d.queue.bytes
    → ((n : ℕ) → left ≤ n → n < right → Has r n)
    → AreTrueMarks d r → AreTrueMarks (after_block d left right) r
unfolding after_block after_mark
marks-block d r left right low flags has h =
    let from = place_of d left in
    let to = count_below d right in
    cond_both (marks_text d left right) (with_marks d left right) d (λ (x : Sending). AreTrueMarks x r)
    (λ e.
    let parts = and_parts (is_of_flight d left right) (nat_lt from to) e in
    let order : from < to = ltb-true from to parts.1 in
    let new : d.snd_una < left = ltb-true d.snd_una left (and_parts (nat_lt d.snd_una left) (nat_lt left right && nat_le right d.snd_nxt) parts.0).0 in
    cond_both (can_mark d.queue from to) (marks_with from to d.queue.marks) d.queue.marks
    (λ (marks : List Bool). AreTrueMarks (record d { queue = record d.queue { marks = marks } }) r)
    (λ _ place is. ⊎_elim (h place) (λ (inside : (from ≤ place) × (place < to)). has (position_at d place) (omega arith) (omega arith))
    (marks_with-only from to d.queue.marks place (omega arith) (omega (arith, flags)) is))
    (λ _. h))
    (λ _. h)

-- edges are read near SND.UNA
block-positions : (x : Witness) (snd_una wanted most : ℕ) (block : ℕ × ℕ) → x.irs < 2 ^ 32 → snd_una ≤ wanted + 2 ^ 31 → most ≤ snd_una + max_capacity
    → ((n : ℕ) → HasPosition x n → n ≤ 1 + most) → IsBlockBehind x wanted block
    → (n : ℕ) → position_of x.irs snd_una block.0 ≤ n → n < position_of x.irs snd_una block.1 → HasPosition x n
block-positions x snd_una wanted most block fits low close small behind n from to =
    let h = behind.0 in
    let least : wanted ≤ h.0 = behind.1 in
    let first = h.0 in
    let last = h.1 in
    let few : first ≤ 1 + most = small first (h.5 first (omega arith) h.2) in
    let many : last - 1 ≤ 1 + most = small (last - 1) (h.5 (last - 1) (omega (arith, h.2)) (omega (arith, h.2))) in
    let left : position_of x.irs snd_una block.0 ≡ first = ap (position_of x.irs snd_una) h.3 ∙ position_of_number x.irs snd_una first fits (omega arith)
    (omega (arith, least)) in
    let right : position_of x.irs snd_una block.1 ≡ last = ap (position_of x.irs snd_una) h.4 ∙ position_of_number x.irs snd_una last fits (omega arith)
    (omega (arith, least, h.2)) in
    h.5 n (omega (arith, left)) (omega (arith, right))

-- the blocks of a segment in turn
pub marks-blocks : (x : Witness) (r : Receiving) (d : Sending) (wanted : ℕ) (blocks : List (ℕ × ℕ)) (accepted : List ℕ) (closed gone : Bool) → x.irs < 2 ^ 32
    → d.snd_una ≤ wanted + 2 ^ 31 → 1 ≤ d.snd_una
    → ((n : ℕ) → HasPosition x n → n ≤ 1 + length accepted) → ((n : ℕ) → HasPosition x n → Has r n) → AreBlocksBehind x wanted blocks
    → Sends d accepted closed gone → AreTrueMarks d r → AreTrueMarks (after_blocks x.irs d blocks) r
marks-blocks x r d wanted [] accepted closed gone fits low least small has true_ones sends h = h
marks-blocks x r d wanted (block ∷ blocks) accepted closed gone fits low least small has true_ones sends h =
    let left = position_of x.irs d.snd_una block.0 in
    let right = position_of x.irs d.snd_una block.1 in
    let first = same-marks d left right accepted closed gone sends in
    let all = block-positions x d.snd_una wanted (length accepted) block fits low (omega (arith, sends.ahead, sends.released)) small (true_ones 0 block refl) in
    marks-blocks x r (after_block d left right) wanted blocks accepted closed gone fits (omega (arith, first.snd_una)) (omega (arith, first.snd_una)) small has
    (λ k other is. true_ones (suc k) other is) first.sends
    (marks-block d r left right (omega (arith, sends.released)) sends.flags (λ n from to. has n (all n from to)) h)
