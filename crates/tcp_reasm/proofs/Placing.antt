-- The effect of placing, place by place: bytes that are there stay, those of the piece come, and other places are as they
-- were.
use Rattle.std.proofs.Common.{◌≡◌, ◌≢◌, ◌⊎◌, ℕ, zero, suc, ◌+◌, ◌-◌, ◌<◌, ◌≤◌, List, [], ◌∷◌, ◌++◌, length, get_or, drop, refl, sym, ◌∙◌, ap, inl, inr, arith, append_assoc}
use Rattle.std.specs.Prelude.{ℤ, true, false, map, slice_get, Option, Some, None, if◌then◌else◌}
use Rattle.std.proofs.lemmas.Bool.{cases_lt}
use Rattle.std.proofs.lemmas.List.{map-append, length-map, get_or_append_left, get_or-append_right}
use Rattle.tcp_reasm.specs.declared.placed.Placed.TheVariants.{NotKept}
use Rattle.tcp_reasm.specs.Reassembly.{Cell, Inbox, Piece, Run, piece, window, overlay, overlay_of, bytes_in_order, with_ranks, with_ranks_from, runs, greatest_stamp, is_refused, with_overlay, answer_for, after_place, place_answer}
use Rattle.tcp_reasm.specs.Laws.{cell_at, byte_of, bytes_by_place, KeepsBytes, TakesPiece, LeavesOthers, EndsAtMissing}

abbrev Known : Type 0
Known = List (Option ℕ)

-- the bytes of places, and those of bytes in order
abbrev held_bytes : List (Option Cell) → Known
held_bytes held = map byte_of held

abbrev read_bytes : List ℕ → Known
read_bytes bytes = map (λ (byte : ℕ). Some byte) bytes

-- ranks change no byte
bytes_of-with_ranks_from : (all : List Run) (place : ℕ) (held : List (Option Cell)) → held_bytes (with_ranks_from all place held) ≡ held_bytes held
bytes_of-with_ranks_from all place [] = refl
bytes_of-with_ranks_from all place (None ∷ places) = ap (λ (rest : Known). None ∷ rest) (bytes_of-with_ranks_from all (suc place) places)
bytes_of-with_ranks_from all place (Some cell ∷ places) = ap (λ (rest : Known). Some cell.byte ∷ rest) (bytes_of-with_ranks_from all (suc place) places)

bytes_of-with_ranks : (held : List (Option Cell)) → held_bytes (with_ranks held) ≡ held_bytes held
unfolding with_ranks
bytes_of-with_ranks held = bytes_of-with_ranks_from (runs held) 0 held

-- what is in order, and what is after it
bytes_split : (over : List (Option Cell)) → read_bytes (bytes_in_order over) ++ held_bytes (drop (length (bytes_in_order over)) over) ≡ held_bytes over
bytes_split [] = refl
bytes_split (None ∷ places) = refl
bytes_split (Some cell ∷ places) = ap (λ (rest : Known). Some cell.byte ∷ rest) (bytes_split places)

-- an overlay taken in: each place has the byte that the overlay has there
bytes_by_place-with_overlay : (q : Inbox) (over : List (Option Cell)) → bytes_by_place (with_overlay q over) ≡ read_bytes q.unread ++ held_bytes over
bytes_by_place-with_overlay q over =
    let rest = drop (length (bytes_in_order over)) over in
    ap (λ (bytes : Known). bytes ++ held_bytes (with_ranks rest)) (map-append (λ (byte : ℕ). Some byte) q.unread (bytes_in_order over))
    ∙ append_assoc (read_bytes q.unread) (read_bytes (bytes_in_order over)) (held_bytes (with_ranks rest))
    ∙ ap (λ (bytes : Known). read_bytes q.unread ++ (read_bytes (bytes_in_order over) ++ bytes)) (bytes_of-with_ranks rest)
    ∙ ap (λ (bytes : Known). read_bytes q.unread ++ bytes) (bytes_split over)

-- ---- a text laid over places

overlay_keeps : (start : ℕ) (text : List ℕ) (stamp : ℕ) (held : List (Option Cell)) (k byte : ℕ) → get_or (held_bytes held) k None ≡ Some byte → get_or (held_bytes (overlay start text stamp held)) k None ≡ Some byte
overlay_keeps start text stamp [] k byte there = there
overlay_keeps zero [] stamp (place ∷ places) k byte there = there
overlay_keeps zero (first ∷ text) stamp (None ∷ places) zero byte there = absurd cc
overlay_keeps zero (first ∷ text) stamp (Some cell ∷ places) zero byte there = there
overlay_keeps zero (first ∷ text) stamp (place ∷ places) (suc k) byte there = overlay_keeps zero text stamp places k byte there
overlay_keeps (suc start) text stamp (place ∷ places) zero byte there = there
overlay_keeps (suc start) text stamp (place ∷ places) (suc k) byte there = overlay_keeps start text stamp places k byte there

overlay_takes : (start : ℕ) (text : List ℕ) (stamp : ℕ) (held : List (Option Cell)) (i k byte : ℕ) → k ≡ start + i → slice_get text i ≡ Some byte → k < length held → get_or (held_bytes held) k None ≡ None → get_or (held_bytes (overlay start text stamp held)) k None ≡ Some byte
overlay_takes start text stamp [] i k byte e is inside missing = absurd (omega arith)
overlay_takes zero [] stamp (place ∷ places) i k byte e is inside missing = absurd cc
overlay_takes zero (first ∷ text) stamp (None ∷ places) zero zero byte e is inside missing = is
overlay_takes zero (first ∷ text) stamp (Some cell ∷ places) zero zero byte e is inside missing = absurd cc
overlay_takes zero (first ∷ text) stamp (place ∷ places) zero (suc k) byte e is inside missing = absurd (omega arith)
overlay_takes zero (first ∷ text) stamp (place ∷ places) (suc i) zero byte e is inside missing = absurd (omega arith)
overlay_takes zero (first ∷ text) stamp (place ∷ places) (suc i) (suc k) byte e is inside missing = overlay_takes zero text stamp places i k byte (omega arith) is (omega arith) missing
overlay_takes (suc start) text stamp (place ∷ places) i zero byte e is inside missing = absurd (omega arith)
overlay_takes (suc start) text stamp (place ∷ places) i (suc k) byte e is inside missing = overlay_takes start text stamp places i k byte (omega arith) is (omega arith) missing

overlay_leaves : (start : ℕ) (text : List ℕ) (stamp : ℕ) (held : List (Option Cell)) (k : ℕ) → (k < start) ⊎ (start + length text ≤ k) → get_or (held_bytes (overlay start text stamp held)) k None ≡ get_or (held_bytes held) k None
overlay_leaves start text stamp [] k outside = refl
overlay_leaves zero [] stamp (place ∷ places) k outside = refl
overlay_leaves zero (first ∷ text) stamp (place ∷ places) zero outside = absurd (omega arith)
overlay_leaves zero (first ∷ text) stamp (place ∷ places) (suc k) outside = overlay_leaves zero text stamp places k (inr (omega arith))
overlay_leaves (suc start) text stamp (place ∷ places) zero outside = refl
overlay_leaves (suc start) text stamp (place ∷ places) (suc k) (inl before) = overlay_leaves start text stamp places k (inl (omega arith))
overlay_leaves (suc start) text stamp (place ∷ places) (suc k) (inr behind) = overlay_leaves start text stamp places k (inr (omega arith))

-- ---- after the unread bytes

length-read_bytes : (bytes : List ℕ) → length (read_bytes bytes) ≡ length bytes
length-read_bytes bytes = length-map bytes (λ (byte : ℕ). Some byte)

at_unread : (bytes : List ℕ) (known : Known) (place : ℕ) → place < length bytes → get_or (read_bytes bytes ++ known) place None ≡ get_or (read_bytes bytes) place None
at_unread bytes known place inside = get_or_append_left (read_bytes bytes) known None place (omega (arith, length-read_bytes bytes))

at_after : (bytes : List ℕ) (known : Known) (place : ℕ) → length bytes ≤ place → get_or (read_bytes bytes ++ known) place None ≡ get_or known (place - length bytes) None
at_after bytes known place behind = get_or-append_right (read_bytes bytes) known (length bytes) place None (length-read_bytes bytes) behind

-- where the overlay is taken in
taken_keeps : (q : Inbox) (p : Piece) → KeepsBytes q (with_overlay q (overlay_of q p))
taken_keeps q p place byte there =
    let over = overlay_of q p in
    ap (λ (known : Known). get_or known place None) (bytes_by_place-with_overlay q over)
    ∙ elim (cases_lt place (length q.unread)) [
      | inl unread ↦ at_unread q.unread (held_bytes over) place unread ∙ sym (at_unread q.unread (held_bytes q.held) place unread) ∙ there
      | inr behind ↦
          at_after q.unread (held_bytes over) place behind
          ∙ overlay_keeps p.start p.text (suc (greatest_stamp q.held)) q.held (place - length q.unread) byte (sym (at_after q.unread (held_bytes q.held) place behind) ∙ there)
    ]

taken_takes : (q : Inbox) (p : Piece) → length q.held ≡ window q → TakesPiece q (with_overlay q (overlay_of q p)) p
taken_takes q p wide i byte is inside missing =
    let over = overlay_of q p in
    let place = length q.unread + (p.start + i) in
    let behind : length q.unread ≤ place = omega arith in
    let same : place - length q.unread ≡ p.start + i = omega arith in
    ap (λ (known : Known). get_or known place None) (bytes_by_place-with_overlay q over)
    ∙ at_after q.unread (held_bytes over) place behind
    ∙ overlay_takes p.start p.text (suc (greatest_stamp q.held)) q.held i (place - length q.unread) byte same is (omega (arith, wide, inside, same)) (sym (at_after q.unread (held_bytes q.held) place behind) ∙ missing)

taken_leaves : (q : Inbox) (p : Piece) → LeavesOthers q (with_overlay q (overlay_of q p)) p
taken_leaves q p place outside =
    let over = overlay_of q p in
    ap (λ (known : Known). get_or known place None) (bytes_by_place-with_overlay q over)
    ∙ elim (cases_lt place (length q.unread)) [
      | inl unread ↦ at_unread q.unread (held_bytes over) place unread ∙ sym (at_unread q.unread (held_bytes q.held) place unread)
      | inr behind ↦
          let covered : (place - length q.unread < p.start) ⊎ (p.start + length p.text ≤ place - length q.unread) = elim outside [
            | inl before ↦ inl (omega arith)
            | inr later ↦ inr (omega arith)
          ] in
          at_after q.unread (held_bytes over) place behind
          ∙ overlay_leaves p.start p.text (suc (greatest_stamp q.held)) q.held (place - length q.unread) covered
          ∙ sym (at_after q.unread (held_bytes q.held) place behind)
    ]

-- ---- placing

pub after_place-keeps : (q : Inbox) (offset : ℤ) (text : List ℕ) → KeepsBytes q (after_place q offset text)
unfolding after_place
after_place-keeps q offset text =
    let over = overlay_of q (piece offset text) in
    elim (is_refused q (piece offset text)) as (λ refused. KeepsBytes q (if refused then q else with_overlay q over)) [
      | true ↦ λ place byte there. there
      | false ↦ taken_keeps q (piece offset text)
    ]

pub after_place-takes : (q : Inbox) (offset : ℤ) (text : List ℕ) → length q.held ≡ window q → place_answer q offset text ≢ NotKept → TakesPiece q (after_place q offset text) (piece offset text)
unfolding after_place place_answer
after_place-takes q offset text wide =
    let over = overlay_of q (piece offset text) in
    elim (is_refused q (piece offset text)) as (λ refused. (if refused then NotKept else answer_for (length (bytes_in_order over))) ≢ NotKept → TakesPiece q (if refused then q else with_overlay q over) (piece offset text)) [
      | true ↦ λ kept. absurd (kept refl)
      | false ↦ λ kept. taken_takes q (piece offset text) wide
    ]

pub after_place-leaves : (q : Inbox) (offset : ℤ) (text : List ℕ) → LeavesOthers q (after_place q offset text) (piece offset text)
unfolding after_place
after_place-leaves q offset text =
    let over = overlay_of q (piece offset text) in
    elim (is_refused q (piece offset text)) as (λ refused. LeavesOthers q (if refused then q else with_overlay q over) (piece offset text)) [
      | true ↦ λ place outside. refl
      | false ↦ taken_leaves q (piece offset text)
    ]

first_missing : (held : List (Option Cell)) → cell_at held 0 ≡ None → get_or (held_bytes held) 0 None ≡ None
first_missing [] missing = refl
first_missing (None ∷ places) missing = refl
first_missing (Some cell ∷ places) missing = absurd cc

pub ends_at_missing : (q : Inbox) → cell_at q.held 0 ≡ None → EndsAtMissing q
ends_at_missing q missing =
    let first : length q.unread - length q.unread ≡ 0 = omega arith in
    at_after q.unread (held_bytes q.held) (length q.unread) (omega arith)
    ∙ ap (λ n. get_or (held_bytes q.held) n None) first
    ∙ first_missing q.held missing

settled_missing : (over : List (Option Cell)) → cell_at (drop (length (bytes_in_order over)) over) 0 ≡ None
settled_missing [] = refl
settled_missing (None ∷ places) = refl
settled_missing (Some cell ∷ places) = settled_missing places

ranked_missing : (all : List Run) (place : ℕ) (held : List (Option Cell)) → cell_at held 0 ≡ None → cell_at (with_ranks_from all place held) 0 ≡ None
ranked_missing all place [] missing = refl
ranked_missing all place (None ∷ places) missing = refl
ranked_missing all place (Some cell ∷ places) missing = absurd cc

overlay_missing : (over : List (Option Cell)) → cell_at (with_ranks (drop (length (bytes_in_order over)) over)) 0 ≡ None
unfolding with_ranks
overlay_missing over = ranked_missing (runs (drop (length (bytes_in_order over)) over)) 0 (drop (length (bytes_in_order over)) over) (settled_missing over)

pub after_place-missing : (q : Inbox) (offset : ℤ) (text : List ℕ) → cell_at q.held 0 ≡ None → EndsAtMissing (after_place q offset text)
unfolding after_place
after_place-missing q offset text missing =
    elim (is_refused q (piece offset text)) as (λ refused. EndsAtMissing (if refused then q else with_overlay q (overlay_of q (piece offset text)))) [
      | true ↦ ends_at_missing q missing
      | false ↦ ends_at_missing (with_overlay q (overlay_of q (piece offset text))) (overlay_missing (overlay_of q (piece offset text)))
    ]
