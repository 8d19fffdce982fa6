-- Placing a text: how many bytes come in order, and how long a segment's text can be.
use Rattle.std.proofs.Common.{◌≡◌, ℕ, ◌+◌, ◌-◌, min, List, ◌++◌, length, drop, replicate, refl, sym, ◌∙◌, ap, arith, length-append, length-drop}
use Rattle.std.proofs.lemmas.List.{length-replicate}
use Rattle.std.specs.Prelude.{ℤ, Option, None, Bool, true, false, if◌then◌else◌}
use Rattle.tcp_reasm.specs.declared.placed.Placed.TheVariants.{NotKept}
use Rattle.tcp_reasm.specs.Reassembly.{Cell, Inbox, piece, is_refused, with_overlay, overlay_of, bytes_in_order, answer_for, after_place, place_answer, after_read, without_held, empty_inbox, window}
use Rattle.tcp_reasm.specs.Agreement.{advance_of}
use Rattle.tcp_reasm.proofs.Agreement.{advance_of-answer_for}

length-placed_by : (refused : Bool) (q : Inbox) (over : List (Option Cell)) → length (if refused then q else with_overlay q over).unread ≡ length q.unread + advance_of (if refused then NotKept else answer_for (length (bytes_in_order over)))
length-placed_by true q over = omega arith
length-placed_by false q over = length-append q.unread (bytes_in_order over) ∙ ap (λ n. length q.unread + n) (sym (advance_of-answer_for (length (bytes_in_order over))))

-- as many more bytes are unread as the answer says
pub length_placed : (q : Inbox) (offset : ℤ) (text : List ℕ) → length (after_place q offset text).unread ≡ length q.unread + advance_of (place_answer q offset text)
unfolding after_place place_answer
length_placed q offset text = length-placed_by (is_refused q (piece offset text)) q (overlay_of q (piece offset text))

capacity-placed_by : (refused : Bool) (q : Inbox) (over : List (Option Cell)) → (if refused then q else with_overlay q over).capacity ≡ q.capacity
capacity-placed_by true q over = refl
capacity-placed_by false q over = refl

-- the capacity is the same
pub capacity_placed : (q : Inbox) (offset : ℤ) (text : List ℕ) → (after_place q offset text).capacity ≡ q.capacity
unfolding after_place
capacity_placed q offset text = capacity-placed_by (is_refused q (piece offset text)) q (overlay_of q (piece offset text))

pub capacity_read : (q : Inbox) (n : ℕ) → (after_read q n).capacity ≡ q.capacity
unfolding after_read
capacity_read q n = refl

-- what is read adds as many offsets to the window
pub whole_read : (q : Inbox) (n : ℕ) → length q.unread + length q.held ≡ q.capacity → length (after_read q n).unread + length (after_read q n).held ≡ q.capacity
unfolding after_read
whole_read q n whole =
    let read : length (drop n q.unread) ≡ length q.unread - n = length-drop n q.unread in
    let more : length (q.held ++ replicate (min n (length q.unread)) None) ≡ length q.held + min n (length q.unread) =
    length-append q.held (replicate (min n (length q.unread)) None) ∙ ap (λ k. length q.held + k) (length-replicate (min n (length q.unread)) None) in
    omega (arith, read, more)

-- without what is out of order the window is as long as before
pub whole_without_held : (q : Inbox) → length q.unread + length q.held ≡ q.capacity → length (without_held q).unread + length (without_held q).held ≡ q.capacity
whole_without_held q whole =
    let free : length (without_held q).held ≡ q.capacity - length q.unread = length-replicate (window q) None in
    omega (arith, whole, free)

-- an empty inbox is window alone
pub whole_empty : (capacity : ℕ) → length (empty_inbox capacity).unread + length (empty_inbox capacity).held ≡ capacity
whole_empty capacity = omega (arith, length-replicate {A = Option Cell} capacity None)
