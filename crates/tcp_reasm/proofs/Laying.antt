-- A text laid over places by their stamps and bytes, and what is then in order.
use Rattle.std.proofs.Common.{◌≡◌, ℕ, zero, suc, ◌+◌, ◌<◌, ◌≤◌, ◌⊎◌, inl, inr, List, [], ◌∷◌, ◌++◌, length, take, drop, refl, sym, ◌∙◌, ap, arith}
use Rattle.std.specs.Prelude.{replicate, Option, Some, None}
use Rattle.std.specs.List.{AllByRecursion}
use Rattle.tcp_reasm.specs.Reassembly.{Cell, Run, first_byte, overlay, greatest_stamp, bytes_in_order, stamp_of_run}
use Rattle.tcp_reasm.specs.Laws.{SomeCovers, cell_at}
use Rattle.tcp_reasm.specs.Store.{ranked, cell_of, cells, IsInside, fresh_byte, laid}
use Rattle.tcp_reasm.proofs.Described.{stamp_cell_of, stamp_first, stamp_or, stamp_none}
use Rattle.tcp_reasm.proofs.Joins.{piece_of, inside_ranked}

pub length_cells : (stamps : ℕ → ℕ) (place : ℕ) (bytes : List ℕ) → length (cells stamps place bytes) ≡ length bytes
length_cells stamps place [] = refl
length_cells stamps place (byte ∷ bytes) = ap suc (length_cells stamps (suc place) bytes)

pub length_laid : (stamps : ℕ → ℕ) (place start : ℕ) (text bytes : List ℕ) → length (laid stamps place start text bytes) ≡ length bytes
length_laid stamps place start text [] = refl
length_laid stamps place zero [] (byte ∷ bytes) = refl
length_laid stamps place zero (new ∷ text) (byte ∷ bytes) = ap suc (length_laid stamps (suc place) zero text bytes)
length_laid stamps place (suc start) text (byte ∷ bytes) = ap suc (length_laid stamps (suc place) start text bytes)

-- stamps that agree from a place on
pub cells_same : (stamps others : ℕ → ℕ) (place : ℕ) (bytes : List ℕ) → ((i : ℕ) → place ≤ i → stamps i ≡ others i) → cells stamps place bytes ≡ cells others place bytes
cells_same stamps others place [] same = refl
cells_same stamps others place (byte ∷ bytes) same =
    ap (λ n. cell_of n byte ∷ cells stamps (suc place) bytes) (same place (omega arith))
    ∙ ap (λ (rest : List (Option Cell)). cell_of (others place) byte ∷ rest) (cells_same stamps others (suc place) bytes (λ i h. same i (omega arith)))

first_byte_cell_of : (stamp new old : ℕ) → first_byte (cell_of stamp old) new ≡ fresh_byte stamp new old
first_byte_cell_of zero new old = refl
first_byte_cell_of (suc n) new old = refl

overlay_cells_from : (stamps news : ℕ → ℕ) (place start n : ℕ) (text bytes : List ℕ) → ((i : ℕ) → place + start ≤ i → i < place + start + length text → news i ≡ suc n) → ((i : ℕ) → place ≤ i → (i < place + start) ⊎ (place + start + length text ≤ i) → news i ≡ stamps i) →
    overlay start text (suc n) (cells stamps place bytes) ≡ cells news place (laid stamps place start text bytes)
overlay_cells_from stamps news place start n text [] inside outside = refl
overlay_cells_from stamps news place zero n [] (byte ∷ bytes) inside outside =
    sym (cells_same news stamps place (byte ∷ bytes) (λ i h. outside i h (inr (omega arith))))
overlay_cells_from stamps news place zero n (new ∷ text) (byte ∷ bytes) inside outside =
    ap (λ b. Some (record { byte = b; stamp = suc n }) ∷ overlay zero text (suc n) (cells stamps (suc place) bytes)) (first_byte_cell_of (stamps place) new byte)
    ∙ ap (λ k. cell_of k (fresh_byte (stamps place) new byte) ∷ overlay zero text (suc n) (cells stamps (suc place) bytes)) (sym (inside place (omega arith) (omega arith)))
    ∙ ap (λ (rest : List (Option Cell)). cell_of (news place) (fresh_byte (stamps place) new byte) ∷ rest)
    (overlay_cells_from stamps news (suc place) zero n text bytes (λ i low high. inside i (omega arith) (omega arith))
    (λ i low out. outside i (omega arith) (elim out [ inl h ↦ absurd (omega arith) | inr h ↦ inr (omega arith) ])))
overlay_cells_from stamps news place (suc start) n text (byte ∷ bytes) inside outside =
    ap (λ k. cell_of k byte ∷ overlay start text (suc n) (cells stamps (suc place) bytes)) (sym (outside place (omega arith) (inl (omega arith))))
    ∙ ap (λ (rest : List (Option Cell)). cell_of (news place) byte ∷ rest)
    (overlay_cells_from stamps news (suc place) start n text bytes (λ i low high. inside i (omega arith) (omega arith))
    (λ i low out. outside i (omega arith) (elim out [ inl h ↦ inl (omega arith) | inr h ↦ inr (omega arith) ])))

-- the piece as one more run, before the others
pub overlay_cells : (all : List Run) (start end n : ℕ) (text bytes : List ℕ) → start + length text ≡ end →
    overlay start text (suc n) (cells (stamp_of_run all) 0 bytes) ≡ cells (stamp_of_run (piece_of start end (suc n) ∷ all)) 0 (laid (stamp_of_run all) 0 start text bytes)
overlay_cells all start end n text bytes e =
    let piece = piece_of start end (suc n) in
    overlay_cells_from (stamp_of_run all) (stamp_of_run (piece ∷ all)) 0 start n text bytes
    (λ i low high. stamp_first piece all i (omega arith) (omega arith))
    (λ i low out. elim (stamp_or piece all i) [
      | inl h ↦ absurd (elim out [ inl k ↦ omega (arith, h.0) | inr k ↦ omega (arith, h.1) ])
      | inr same ↦ same
    ])

-- places further on
pub cells_moved : (stamps : ℕ → ℕ) (count place from : ℕ) (bytes : List ℕ) → count + place ≡ from → cells stamps from bytes ≡ cells (λ i. stamps (count + i)) place bytes
cells_moved stamps count place from [] e = refl
cells_moved stamps count place from (byte ∷ bytes) e =
    ap (λ n. cell_of (stamps n) byte ∷ cells stamps (suc from) bytes) (sym e)
    ∙ ap (λ (rest : List (Option Cell)). cell_of (stamps (count + place)) byte ∷ rest) (cells_moved stamps count (suc place) (suc from) bytes (omega arith))

drop_cells_from : (stamps : ℕ → ℕ) (count place from : ℕ) (bytes : List ℕ) → count + place ≡ from → drop count (cells stamps place bytes) ≡ cells stamps from (drop count bytes)
drop_cells_from stamps zero place from bytes e = let same : place ≡ from = omega arith in ap (λ n. cells stamps n bytes) same
drop_cells_from stamps (suc count) place from [] e = refl
drop_cells_from stamps (suc count) place from (byte ∷ bytes) e = drop_cells_from stamps count (suc place) from bytes (omega arith)

pub drop_cells : (stamps : ℕ → ℕ) (count : ℕ) (bytes : List ℕ) → drop count (cells stamps 0 bytes) ≡ cells (λ i. stamps (count + i)) 0 (drop count bytes)
drop_cells stamps count bytes =
    drop_cells_from stamps count 0 (count + 0) bytes refl ∙ cells_moved stamps count 0 (count + 0) (drop count bytes) refl

-- ---- in order

in_order_held : (stamp byte : ℕ) (rest : List (Option Cell)) → 0 < stamp → bytes_in_order (cell_of stamp byte ∷ rest) ≡ byte ∷ bytes_in_order rest
in_order_held zero byte rest h = absurd (omega arith)
in_order_held (suc n) byte rest h = refl

in_order_from : (stamps : ℕ → ℕ) (place count : ℕ) (bytes : List ℕ) → count ≤ length bytes → ((i : ℕ) → place ≤ i → i < place + count → 0 < stamps i) → (count < length bytes → stamps (place + count) ≡ 0) → bytes_in_order (cells stamps place bytes) ≡ take count bytes
in_order_from stamps place zero [] fits held missing = refl
in_order_from stamps place (suc count) [] fits held missing = absurd (omega arith)
in_order_from stamps place zero (byte ∷ bytes) fits held missing =
    let first : place + 0 ≡ place = omega arith in
    ap (λ n. bytes_in_order (cell_of n byte ∷ cells stamps (suc place) bytes)) (sym (ap stamps first) ∙ missing (omega arith))
in_order_from stamps place (suc count) (byte ∷ bytes) fits held missing =
    let next : suc place + count ≡ place + suc count = omega arith in
    in_order_held (stamps place) byte (cells stamps (suc place) bytes) (held place (omega arith) (omega arith))
    ∙ ap (λ rest. byte ∷ rest) (in_order_from stamps (suc place) count bytes (omega arith) (λ i low high. held i (omega arith) (omega arith)) (λ h. ap stamps next ∙ missing (omega arith)))

pub in_order_cells : (stamps : ℕ → ℕ) (count : ℕ) (bytes : List ℕ) → count ≤ length bytes → ((i : ℕ) → i < count → 0 < stamps i) → (count < length bytes → stamps count ≡ 0) → bytes_in_order (cells stamps 0 bytes) ≡ take count bytes
in_order_cells stamps count bytes fits held missing =
    let same : 0 + count ≡ count = omega arith in
    in_order_from stamps 0 count bytes fits (λ i low high. held i (omega arith)) (λ h. ap stamps same ∙ missing h)

pub none_in_order : (stamps : ℕ → ℕ) (bytes : List ℕ) → stamps 0 ≡ 0 → bytes_in_order (cells stamps 0 bytes) ≡ []
none_in_order stamps bytes none = in_order_cells stamps 0 bytes (omega arith) (λ i h. absurd (omega arith)) (λ h. none)

-- ---- the greatest stamp

greatest_most : (stamps : ℕ → ℕ) (most place : ℕ) (bytes : List ℕ) → ((i : ℕ) → stamps i ≤ most) → greatest_stamp (cells stamps place bytes) ≤ most
greatest_most stamps most place [] h = omega arith
greatest_most stamps most place (byte ∷ bytes) h =
    omega (arith, stamp_cell_of (stamps place) byte, h place, greatest_most stamps most (suc place) bytes h)

greatest_least : (stamps : ℕ → ℕ) (place i at : ℕ) (bytes : List ℕ) → place + i ≡ at → i < length bytes → stamps at ≤ greatest_stamp (cells stamps place bytes)
greatest_least stamps place i at [] e h = absurd (omega arith)
greatest_least stamps place zero at (byte ∷ bytes) e h =
    let same : place ≡ at = omega arith in omega (arith, stamp_cell_of (stamps place) byte, ap stamps same)
greatest_least stamps place (suc i) at (byte ∷ bytes) e h = omega (arith, greatest_least stamps (suc place) i at bytes (omega arith) (omega arith))

ranked_most : (all : List Run) (i : ℕ) → stamp_of_run (ranked all) i ≤ length all
ranked_most [] i = omega arith
ranked_most (run ∷ others) i =
    elim (stamp_or (record run { stamp = suc (length others) }) (ranked others) i) [
      | inl h ↦ omega (arith, stamp_first (record run { stamp = suc (length others) }) (ranked others) i h.0 h.1)
      | inr e ↦ omega (arith, e, ranked_most others i)
    ]

pub greatest_cells : (all : List Run) (bytes : List ℕ) → AllByRecursion (IsInside (length bytes)) all → greatest_stamp (cells (stamp_of_run (ranked all)) 0 bytes) ≡ length all
greatest_cells [] bytes h = omega (arith, greatest_most (stamp_of_run (ranked [])) 0 0 bytes (λ i. omega arith))
greatest_cells (run ∷ others) bytes h =
    let stamps = stamp_of_run (ranked (run ∷ others)) in
    let first : stamps run.from ≡ suc (length others) = stamp_first (record run { stamp = suc (length others) }) (ranked others) run.from (omega arith) h.0.1 in
    let least : stamps run.from ≤ greatest_stamp (cells stamps 0 bytes) = greatest_least stamps 0 run.from run.from bytes (omega arith) (omega (arith, h.0.1, h.0.2)) in
    omega (arith, greatest_most stamps (suc (length others)) 0 bytes (λ i. ranked_most (run ∷ others) i), first, least)

-- ---- nothing kept

pub cells_none : (stamps : ℕ → ℕ) (place : ℕ) (bytes : List ℕ) → ((i : ℕ) → place ≤ i → stamps i ≡ 0) → cells stamps place bytes ≡ replicate (length bytes) None
cells_none stamps place [] none = refl
cells_none stamps place (byte ∷ bytes) none =
    ap (λ n. cell_of n byte ∷ cells stamps (suc place) bytes) (none place (omega arith))
    ∙ ap (λ (rest : List (Option Cell)). None ∷ rest) (cells_none stamps (suc place) bytes (λ i h. none i (omega arith)))

pub cells_append : (stamps : ℕ → ℕ) (place from : ℕ) (bytes others : List ℕ) → place + length bytes ≡ from → cells stamps place (bytes ++ others) ≡ cells stamps place bytes ++ cells stamps from others
cells_append stamps place from [] others e = let same : place ≡ from = omega arith in ap (λ n. cells stamps n others) same
cells_append stamps place from (byte ∷ bytes) others e =
    ap (λ (rest : List (Option Cell)). cell_of (stamps place) byte ∷ rest) (cells_append stamps (suc place) from bytes others (omega arith))

-- beyond the window nothing is kept
none_beyond : (window i : ℕ) (all : List Run) → AllByRecursion (IsInside window) all → window ≤ i → SomeCovers all i → ⊥
none_beyond window i [] h beyond c = c
none_beyond window i (run ∷ others) h beyond (inl c) = omega (arith, h.0.2, c.1)
none_beyond window i (run ∷ others) h beyond (inr c) = none_beyond window i others h.1 beyond c

pub stamp_beyond : (window i : ℕ) (all : List Run) → AllByRecursion (IsInside window) all → window ≤ i → stamp_of_run (ranked all) i ≡ 0
stamp_beyond window i all h beyond = stamp_none (ranked all) i (none_beyond window i (ranked all) (inside_ranked window all h) beyond)

none_first : (window : ℕ) (all : List Run) → AllByRecursion (IsInside window) all → SomeCovers all 0 → ⊥
none_first window [] h c = c
none_first window (run ∷ others) h (inl c) = omega (arith, h.0.0, c.0)
none_first window (run ∷ others) h (inr c) = none_first window others h.1 c

pub stamp_missing : (window : ℕ) (all : List Run) → AllByRecursion (IsInside window) all → stamp_of_run (ranked all) 0 ≡ 0
stamp_missing window all h = stamp_none (ranked all) 0 (none_first window (ranked all) (inside_ranked window all h))

cell_missing : (stamp byte : ℕ) → stamp ≡ 0 → cell_of stamp byte ≡ None
cell_missing zero byte e = refl
cell_missing (suc n) byte e = absurd (omega arith)

pub first_missing : (stamps : ℕ → ℕ) (bytes : List ℕ) → stamps 0 ≡ 0 → cell_at (cells stamps 0 bytes) 0 ≡ None
first_missing stamps [] e = refl
first_missing stamps (byte ∷ bytes) e = cell_missing (stamps 0) byte e

-- what of a text lies beyond the places is cut off
pub overlay_cut : (start : ℕ) (text : List ℕ) (stamp : ℕ) (places : List (Option Cell)) (n : ℕ) → length places ≤ start + n → overlay start (take n text) stamp places ≡ overlay start text stamp places
overlay_cut start text stamp [] n h = refl
overlay_cut zero [] stamp (place ∷ places) zero h = refl
overlay_cut zero [] stamp (place ∷ places) (suc n) h = refl
overlay_cut zero (byte ∷ text) stamp (place ∷ places) zero h = absurd (omega arith)
overlay_cut zero (byte ∷ text) stamp (place ∷ places) (suc n) h =
    ap (λ (rest : List (Option Cell)). Some (record { byte = first_byte place byte; stamp = stamp }) ∷ rest) (overlay_cut zero text stamp places n (omega arith))
overlay_cut (suc start) text stamp (place ∷ places) n h = ap (λ (rest : List (Option Cell)). place ∷ rest) (overlay_cut start text stamp places n (omega arith))
