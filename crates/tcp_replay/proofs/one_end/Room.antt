-- THE ROOM of the half that receives: what is unread and the places of the window make up the capacity, whatever is placed, read or given up.
use Rattle.tcp_replay.proofs.Words.{◌+◌, ◌++◌, [], after_delivering, after_place, after_text, arith, bytes_in_order, capacity_placed, capacity_read}
use Rattle.tcp_replay.proofs.Words.{Cell, cond_both, drop, greatest_stamp, HoldsWithin, Inbox, is_refused, length, length-append, length-drop, List, None}
use Rattle.tcp_replay.proofs.Words.{Option, overlay, overlay_of, piece, Receiving, refl, Run, runs, Some, suc, sym, whole_empty, whole_read}
use Rattle.tcp_replay.proofs.Words.{whole_without_held, with_fin, with_overlay, with_ranks, with_ranks_from, without_bytes, zero, ℕ, ℤ, ◌∙◌, ◌∷◌, ◌≡◌, ◌≤◌}

-- a text that is laid over what is held leaves as many places
pub overlay-length : (start : ℕ) (text : List ℕ) (stamp : ℕ) (held : List (Option Cell)) → length (overlay start text stamp held) ≡ length held
overlay-length start text stamp [] = refl
overlay-length zero [] stamp (place ∷ places) = refl
overlay-length zero (byte ∷ text) stamp (place ∷ places) = omega (arith, overlay-length zero text stamp places)
overlay-length (suc start) text stamp (place ∷ places) = omega (arith, overlay-length start text stamp places)

-- no more comes in order than there are places
pub in_order-most : (held : List (Option Cell)) → length (bytes_in_order held) ≤ length held
in_order-most [] = omega arith
in_order-most (None ∷ places) = omega arith
in_order-most (Some cell ∷ places) = omega (arith, in_order-most places)

ranks_from-length : (all : List Run) (place : ℕ) (held : List (Option Cell)) → length (with_ranks_from all place held) ≡ length held
ranks_from-length all place [] = refl
ranks_from-length all place (None ∷ places) = omega (arith, ranks_from-length all (suc place) places)
ranks_from-length all place (Some cell ∷ places) = omega (arith, ranks_from-length all (suc place) places)

ranks-length : (held : List (Option Cell)) → length (with_ranks held) ≡ length held
unfolding with_ranks
ranks-length held = ranks_from-length (runs held) 0 held

laid-whole : (q : Inbox) (over : List (Option Cell)) → length over ≡ length q.held → length q.unread + length q.held ≡ q.capacity
    → length (with_overlay q over).unread + length (with_overlay q over).held ≡ q.capacity
laid-whole q over same whole =
    let n = length (bytes_in_order over) in
    let unread : length (q.unread ++ bytes_in_order over) ≡ length q.unread + n = length-append q.unread (bytes_in_order over) in
    let held : length (with_ranks (drop n over)) ≡ length (drop n over) = ranks-length (drop n over) in
    omega (arith, unread, held, length-drop n over, in_order-most over, same, whole)

placed-whole : (q : Inbox) (offset : ℤ) (text : List ℕ) → length q.unread + length q.held ≡ q.capacity
    → length (after_place q offset text).unread + length (after_place q offset text).held ≡ q.capacity
unfolding after_place
placed-whole q offset text whole =
    let part = piece offset text in
    cond_both (is_refused q part) q (with_overlay q (overlay_of q part)) (λ (x : Inbox). length x.unread + length x.held ≡ q.capacity)
    (λ _. whole) (λ _. laid-whole q (overlay_of q part) (overlay-length part.start part.text (suc (greatest_stamp q.held)) q.held) whole)

-- TEXT is placed, the FIN is taken,
pub within-text : (capacity : ℕ) (r : Receiving) (seq : ℕ) (text : List ℕ) → HoldsWithin capacity r.inbox → HoldsWithin capacity (after_text r seq text).inbox
unfolding after_text
within-text capacity r seq text h = record {
  size = capacity_placed r.inbox _ text ∙ h.size;
  received = placed-whole r.inbox _ text (h.received ∙ sym h.size) ∙ h.size;
}

pub within-fin : (capacity : ℕ) (r : Receiving) → HoldsWithin capacity r.inbox → HoldsWithin capacity (with_fin r).inbox
within-fin capacity r h = record { size = h.size; received = whole_without_held r.inbox (h.received ∙ sym h.size) ∙ h.size }

-- the user reads, and what is unread and held is given up
pub within-read : (capacity : ℕ) (r : Receiving) (n : ℕ) → HoldsWithin capacity r.inbox → HoldsWithin capacity (after_delivering r n).inbox
within-read capacity r n h = record { size = capacity_read r.inbox n ∙ h.size; received = whole_read r.inbox n (h.received ∙ sym h.size) ∙ h.size }

pub within-discarded : (capacity : ℕ) (r : Receiving) → HoldsWithin capacity r.inbox → HoldsWithin capacity (without_bytes r).inbox
within-discarded capacity r h = record { size = h.size; received = whole_empty r.inbox.capacity ∙ h.size }
