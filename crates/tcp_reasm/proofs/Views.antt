-- The ring and the table after a call are seen as the definitions make an inbox.
use Rattle.std.proofs.Common.{◌≡◌, ℕ, suc, ◌+◌, ◌-◌, ◌<◌, ◌≤◌, inl, inr, List, [], ◌∷◌, ◌++◌, length, take, drop, refl, sym, ◌∙◌, ap, arith, length-drop, length-take, append-nil}
use Rattle.std.specs.Prelude.{min, map, replicate, Option, Some, None}
use Rattle.std.specs.List.{AllByRecursion}
use Rattle.std.proofs.lemmas.Bool.{cases_lt}
use Rattle.std.proofs.lemmas.List.{drop-drop, drop-append-le, take-append-le, drop-take, drop_min, take_min, take-map}
use Rattle.tcp_reasm.specs.declared.table.Run.{Run as Entry}
use Rattle.tcp_reasm.specs.Reassembly.{Cell, Inbox, IsInbox, Run, overlay, greatest_stamp, bytes_in_order, runs, runs_newest_first, with_ranks, with_overlay, stamp_of_run, after_read, without_held, empty_with_runs, blocks, max_blocks}
use Rattle.tcp_reasm.specs.Laws.{SomeCovers, cell_at}
use Rattle.tcp_reasm.specs.Store.{run_of, runs_in, ranked, cells, held_of, inbox_of, IsInside, AreAway, IsKept, rest_of, union_of, moved, laid, overlay_at}
use Rattle.tcp_reasm.proofs.Described.{Described, described_newest, described_count, described_ranks, stamp_or}
use Rattle.tcp_reasm.proofs.Joins.{piece_of, joined_described, moved_described, kept_described, after_first, ranked_joined, ranked_moved, union_count, length_rest, union_wraps, union_within, length_ranked, moved_inside, moved_away, joined_inside, joined_are_away}
use Rattle.tcp_reasm.proofs.Laying.{length_cells, length_laid, cells_none, cells_append, overlay_cells, drop_cells, in_order_cells, none_in_order, greatest_cells, stamp_missing, stamp_beyond, first_missing}
use Rattle.tcp_reasm.proofs.Rings.{take_further, length_turned as length_advanced}

-- the places with a piece laid over them
pub laid_over : (bytes text : List ℕ) (start end : ℕ) (all : List Run) → start + length text ≡ end → AllByRecursion (IsInside (length bytes)) all →
    let held = cells (stamp_of_run (ranked all)) 0 bytes in
    overlay start text (suc (greatest_stamp held)) held ≡ cells (stamp_of_run (piece_of start end (suc (length all)) ∷ ranked all)) 0 (laid (stamp_of_run (ranked all)) 0 start text bytes)
laid_over bytes text start end all e inside =
    let held = cells (stamp_of_run (ranked all)) 0 bytes in
    ap (λ n. overlay start text (suc n) held) (greatest_cells all bytes inside)
    ∙ overlay_cells (ranked all) start end (length all) text bytes e

described_over : (bytes text : List ℕ) (start end : ℕ) (all : List Run) → start + length text ≡ end → start < end → end ≤ length bytes → AllByRecursion (IsInside (length bytes)) all → AreAway all →
    let piece = piece_of start end (suc (length all)) in
    Described (stamp_of_run (piece ∷ ranked all)) (length (laid (stamp_of_run (ranked all)) 0 start text bytes)) (union_of piece piece (ranked all) ∷ rest_of piece (ranked all))
described_over bytes text start end all e some fits inside away =
    let piece = piece_of start end (suc (length all)) in
    rw length_laid (joined_described (length bytes) start end (length all) all some fits refl inside away)

-- the number of runs with it
pub count_over : (bytes text : List ℕ) (start end n : ℕ) (all : List Run) → start + length text ≡ end → start < end → end ≤ length bytes → AllByRecursion (IsInside (length bytes)) all → AreAway all →
    let held = cells (stamp_of_run (ranked all)) 0 bytes in
    length (runs (overlay start text (suc (greatest_stamp held)) held)) ≡ suc (length (rest_of (piece_of start end n) all))
count_over bytes text start end n all e some fits inside away =
    let piece = piece_of start end (suc (length all)) in
    let after = laid (stamp_of_run (ranked all)) 0 start text bytes in
    ap (λ (over : List (Option Cell)). length (runs over)) (laid_over bytes text start end all e inside)
    ∙ described_count (stamp_of_run (piece ∷ ranked all)) after (union_of piece piece (ranked all) ∷ rest_of piece (ranked all)) (described_over bytes text start end all e some fits inside away)
    ∙ ap suc (length_rest start end (suc (length all)) n all)

-- a piece after a gap: nothing is in order
held_over : (bytes text : List ℕ) (start end : ℕ) (all : List Run) → 0 < start → start + length text ≡ end → AllByRecursion (IsInside (length bytes)) all →
    let held = cells (stamp_of_run (ranked all)) 0 bytes in
    bytes_in_order (overlay start text (suc (greatest_stamp held)) held) ≡ []
held_over bytes text start end all gap e inside =
    let piece = piece_of start end (suc (length all)) in
    let missing : stamp_of_run (piece ∷ ranked all) 0 ≡ 0 =
    elim (stamp_or piece (ranked all) 0) [ inl h ↦ absurd (omega (arith, h.0)) | inr same ↦ same ∙ stamp_missing (length bytes) all inside ] in
    ap bytes_in_order (laid_over bytes text start end all e inside)
    ∙ none_in_order (stamp_of_run (piece ∷ ranked all)) (laid (stamp_of_run (ranked all)) 0 start text bytes) missing

ranks_over : (bytes text : List ℕ) (start end n : ℕ) (all : List Run) → start + length text ≡ end → start < end → end ≤ length bytes → AllByRecursion (IsInside (length bytes)) all → AreAway all →
    let held = cells (stamp_of_run (ranked all)) 0 bytes in
    let piece = piece_of start end n in
    with_ranks (overlay start text (suc (greatest_stamp held)) held) ≡ cells (stamp_of_run (ranked (union_of piece piece all ∷ rest_of piece all))) 0 (laid (stamp_of_run (ranked all)) 0 start text bytes)
ranks_over bytes text start end n all e some fits inside away =
    let piece = piece_of start end (suc (length all)) in
    let after = laid (stamp_of_run (ranked all)) 0 start text bytes in
    ap with_ranks (laid_over bytes text start end all e inside)
    ∙ described_ranks (stamp_of_run (piece ∷ ranked all)) after (union_of piece piece (ranked all) ∷ rest_of piece (ranked all)) (described_over bytes text start end all e some fits inside away)
    ∙ ap (λ (rs : List Run). cells (stamp_of_run rs) 0 after) (ranked_joined start end (suc (length all)) n all)

abbrev inbox : ℕ → ℕ → List ℕ → List (Option Cell) → Inbox
inbox most capacity unread held = record { capacity = capacity; most_runs = most; unread = unread; held = held }

inbox_parts : {most : ℕ} (capacity other : ℕ) (unread others : List ℕ) (held places : List (Option Cell)) → capacity ≡ other → unread ≡ others → held ≡ places → inbox most capacity unread held ≡ inbox most other others places
inbox_parts {most} capacity other unread others held places c u h =
    ap (λ n. inbox most n unread held) c ∙ ap (λ (bytes : List ℕ). inbox most other bytes held) u ∙ ap (λ (ps : List (Option Cell)). inbox most other others ps) h

-- a piece that is kept out of order
pub held_view : {most : ℕ} (ring after : List ℕ) (unread : ℕ) (table table' : List Entry) (place end n : ℕ) (text : List ℕ) → 0 < place → place + length text ≡ end → place < end → unread ≤ length ring → end ≤ length ring - unread →
    AllByRecursion (IsInside (length ring - unread)) (runs_in table) → AreAway (runs_in table) →
    length after ≡ length ring → take unread after ≡ take unread ring →
    drop unread after ≡ laid (stamp_of_run (ranked (runs_in table))) 0 place text (drop unread ring) →
    (let piece = piece_of place end n in runs_in table' ≡ union_of piece piece (runs_in table) ∷ rest_of piece (runs_in table)) →
    inbox_of most after unread table' ≡ with_overlay (inbox_of most ring unread table) (overlay_at (inbox_of most ring unread table) place text)
held_view {most} ring after unread table table' place end n text gap e some room fits inside away size front behind joined =
    let all = runs_in table in
    let bytes = drop unread ring in
    let over = overlay_at (inbox_of most ring unread table) place text in
    let wide : length bytes ≡ length ring - unread = length-drop unread ring in
    let are_inside : AllByRecursion (IsInside (length bytes)) all = rw wide inside in
    let none : bytes_in_order over ≡ [] = held_over bytes text place end all gap e are_inside in
    let unread_same : take unread after ≡ take unread ring ++ bytes_in_order over =
    front ∙ sym (append-nil (take unread ring)) ∙ ap (λ (rest : List ℕ). take unread ring ++ rest) (sym none) in
    let held_same : cells (stamp_of_run (ranked (runs_in table'))) 0 (drop unread after) ≡ with_ranks (drop (length (bytes_in_order over)) over) =
    ap (λ (rs : List Run). cells (stamp_of_run (ranked rs)) 0 (drop unread after)) joined
    ∙ ap (cells (stamp_of_run (ranked (union_of (piece_of place end n) (piece_of place end n) all ∷ rest_of (piece_of place end n) all))) 0) behind
    ∙ sym (ranks_over bytes text place end n all e some (omega arith) are_inside away)
    ∙ ap (λ (front_bytes : List ℕ). with_ranks (drop (length front_bytes) over)) (sym none) in
    inbox_parts (length after) (length ring) (take unread after) (take unread ring ++ bytes_in_order over) (cells (stamp_of_run (ranked (runs_in table'))) 0 (drop unread after)) (with_ranks (drop (length (bytes_in_order over)) over))
    size unread_same held_same

nothing_first : (count : ℕ) (all : List Run) → AllByRecursion (λ (run : Run). count < run.from) all → SomeCovers all count → ⊥
nothing_first count [] h c = c
nothing_first count (run ∷ others) h (inl c) = omega (arith, h.0, c.0)
nothing_first count (run ∷ others) h (inr c) = nothing_first count others h.1 c

ends_at : (stamps : ℕ → ℕ) (size : ℕ) (union : Run) (rest : List Run) → Described stamps size (union ∷ rest) → union.from ≡ 0 → union.to < size → 0 < stamps union.to → ⊥
ends_at stamps size union rest d from below held =
    elim (d.covers union.to below held) [
      | inl h ↦ omega (arith, h.1)
      | inr c ↦ nothing_first union.to rest (after_first union rest union.to from refl d.away.0) c
    ]

-- a piece that begins at the next byte: what is in order with it
in_order_over : (bytes text : List ℕ) (end n : ℕ) (all : List Run) → length text ≡ end → 0 < end → end ≤ length bytes → AllByRecursion (IsInside (length bytes)) all → AreAway all →
    let held = cells (stamp_of_run (ranked all)) 0 bytes in
    let piece = piece_of 0 end n in
    bytes_in_order (overlay 0 text (suc (greatest_stamp held)) held) ≡ take (union_of piece piece all).to (laid (stamp_of_run (ranked all)) 0 0 text bytes)
in_order_over bytes text end n all e some fits inside away =
    let piece = piece_of 0 end (suc (length all)) in
    let stamps = stamp_of_run (piece ∷ ranked all) in
    let after = laid (stamp_of_run (ranked all)) 0 0 text bytes in
    let union = union_of piece piece (ranked all) in
    let d = described_over bytes text 0 end all (omega arith) some fits inside away in
    let from : union.from ≡ 0 = omega (arith, (union_wraps piece piece (ranked all)).0) in
    ap bytes_in_order (laid_over bytes text 0 end all (omega arith) inside)
    ∙ in_order_cells stamps union.to after (omega (arith, length_laid (stamp_of_run (ranked all)) 0 0 text bytes, d.lie.0.1))
    (λ i below. d.held i (inl (omega (arith, from), below)))
    (λ below. elim (cases_lt 0 (stamps union.to)) [
      | inl held ↦ absurd (ends_at stamps (length after) union (rest_of piece (ranked all)) d from below held)
      | inr none ↦ omega arith
    ])
    ∙ ap (λ k. take k after) (union_count 0 end (suc (length all)) n all)

ranks_after : (bytes text : List ℕ) (end n count : ℕ) (all : List Run) → length text ≡ end → 0 < end → end ≤ length bytes → AllByRecursion (IsInside (length bytes)) all → AreAway all →
    let held = cells (stamp_of_run (ranked all)) 0 bytes in
    let piece = piece_of 0 end n in
    count ≡ (union_of piece piece all).to →
    with_ranks (drop count (overlay 0 text (suc (greatest_stamp held)) held)) ≡ cells (stamp_of_run (ranked (map (moved count) (rest_of piece all)))) 0 (drop count (laid (stamp_of_run (ranked all)) 0 0 text bytes))
ranks_after bytes text end n count all e some fits inside away is_count =
    let piece = piece_of 0 end (suc (length all)) in
    let stamps = stamp_of_run (piece ∷ ranked all) in
    let after = laid (stamp_of_run (ranked all)) 0 0 text bytes in
    let union = union_of piece piece (ranked all) in
    let rest = rest_of piece (ranked all) in
    let d = described_over bytes text 0 end all (omega arith) some fits inside away in
    let from : union.from ≡ 0 = omega (arith, (union_wraps piece piece (ranked all)).0) in
    let to : union.to ≡ count = union_count 0 end (suc (length all)) n all ∙ sym is_count in
    let behind : Described (λ i. stamps (count + i)) (length (drop count after)) (map (moved count) rest) = rw length-drop (moved_described stamps (length after) count union rest d from to) in
    ap (λ (over : List (Option Cell)). with_ranks (drop count over)) (laid_over bytes text 0 end all (omega arith) inside)
    ∙ ap with_ranks (drop_cells stamps count after)
    ∙ described_ranks (λ i. stamps (count + i)) (drop count after) (map (moved count) rest) behind
    ∙ ap (λ (rs : List Run). cells (stamp_of_run rs) 0 (drop count after)) (ranked_moved 0 end (suc (length all)) n count all)

-- a piece that begins at the next byte
pub advanced_view : {most : ℕ} (ring after : List ℕ) (unread count : ℕ) (table table' : List Entry) (end n : ℕ) (text : List ℕ) → length text ≡ end → 0 < end → unread ≤ length ring → end ≤ length ring - unread →
    AllByRecursion (IsInside (length ring - unread)) (runs_in table) → AreAway (runs_in table) →
    length after ≡ length ring → take unread after ≡ take unread ring →
    drop unread after ≡ laid (stamp_of_run (ranked (runs_in table))) 0 0 text (drop unread ring) →
    (let piece = piece_of 0 end n in count ≡ (union_of piece piece (runs_in table)).to) →
    (let piece = piece_of 0 end n in runs_in table' ≡ map (moved count) (rest_of piece (runs_in table))) →
    (let q = inbox_of most ring unread table in let over = overlay_at q 0 text in
    (inbox_of most after (unread + count) table' ≡ with_overlay q over) × (count ≡ length (bytes_in_order over)))
advanced_view {most} ring after unread count table table' end n text e some room fits inside away size front behind is_count moved_up =
    let all = runs_in table in
    let bytes = drop unread ring in
    let new_bytes = laid (stamp_of_run (ranked all)) 0 0 text bytes in
    let over = overlay_at (inbox_of most ring unread table) 0 text in
    let piece = piece_of 0 end n in
    let wide : length bytes ≡ length ring - unread = length-drop unread ring in
    let are_inside : AllByRecursion (IsInside (length bytes)) all = rw wide inside in
    let in_order : bytes_in_order over ≡ take count new_bytes = in_order_over bytes text end n all e some (omega arith) are_inside away ∙ ap (λ k. take k new_bytes) (sym is_count) in
    let within : count ≤ length bytes = omega (arith, union_within (length bytes) piece piece all (omega arith) are_inside) in
    let counted : length (bytes_in_order over) ≡ count = ap length in_order ∙ omega (arith, length-take count new_bytes, length_laid (stamp_of_run (ranked all)) 0 0 text bytes) in
    let unread_same : take (unread + count) after ≡ take unread ring ++ bytes_in_order over =
    sym (take_further unread count after)
    ∙ ap (λ (x : List ℕ). x ++ take count (drop unread after)) front
    ∙ ap (λ (x : List ℕ). take unread ring ++ take count x) behind
    ∙ ap (λ (x : List ℕ). take unread ring ++ x) (sym in_order) in
    let held_same : cells (stamp_of_run (ranked (runs_in table'))) 0 (drop (unread + count) after) ≡ with_ranks (drop (length (bytes_in_order over)) over) =
    ap (λ (rs : List Run). cells (stamp_of_run (ranked rs)) 0 (drop (unread + count) after)) moved_up
    ∙ ap (cells (stamp_of_run (ranked (map (moved count) (rest_of piece all)))) 0) (sym (drop-drop count unread after) ∙ ap (drop count) behind)
    ∙ sym (ranks_after bytes text end n count all e some (omega arith) are_inside away is_count)
    ∙ ap (λ k. with_ranks (drop k over)) (sym counted) in (
      inbox_parts (length after) (length ring) (take (unread + count) after) (take unread ring ++ bytes_in_order over) (cells (stamp_of_run (ranked (runs_in table'))) 0 (drop (unread + count) after)) (with_ranks (drop (length (bytes_in_order over)) over))
          size unread_same held_same,
      sym counted,
    )

-- ---- a table alone

pub blocks_view : (ring : List ℕ) (unread : ℕ) (table : List Entry) → AllByRecursion (IsInside (length ring - unread)) (runs_in table) → AreAway (runs_in table) →
    runs_newest_first (runs (held_of ring unread table)) ≡ ranked (runs_in table)
blocks_view ring unread table inside away =
    let bytes = drop unread ring in
    let wide : length bytes ≡ length ring - unread = length-drop unread ring in
    described_newest (stamp_of_run (ranked (runs_in table))) bytes (ranked (runs_in table)) (kept_described (length bytes) (runs_in table) (rw wide inside) away)

pub count_view : (ring : List ℕ) (unread : ℕ) (table : List Entry) → AllByRecursion (IsInside (length ring - unread)) (runs_in table) → AreAway (runs_in table) →
    length (runs (held_of ring unread table)) ≡ length (runs_in table)
count_view ring unread table inside away =
    let bytes = drop unread ring in
    let wide : length bytes ≡ length ring - unread = length-drop unread ring in
    described_count (stamp_of_run (ranked (runs_in table))) bytes (ranked (runs_in table)) (kept_described (length bytes) (runs_in table) (rw wide inside) away) ∙ length_ranked (runs_in table)

pub missing_view : (ring : List ℕ) (unread : ℕ) (table : List Entry) → AllByRecursion (IsInside (length ring - unread)) (runs_in table) →
    cell_at (held_of ring unread table) 0 ≡ None
missing_view ring unread table inside =
    first_missing (stamp_of_run (ranked (runs_in table))) (drop unread ring) (stamp_missing (length ring - unread) (runs_in table) inside)

pub length_held : (ring : List ℕ) (unread : ℕ) (table : List Entry) → length (held_of ring unread table) ≡ length ring - unread
length_held ring unread table =
    length_cells (stamp_of_run (ranked (runs_in table))) 0 (drop unread ring) ∙ length-drop unread ring

-- nothing kept out of order
pub bare_view : (ring : List ℕ) (unread : ℕ) → held_of ring unread [] ≡ replicate (length ring - unread) None
bare_view ring unread =
    cells_none (stamp_of_run []) 0 (drop unread ring) (λ i h. refl)
    ∙ ap (λ n. replicate n None) (length-drop unread ring)

-- ---- what is seen of the parts

pub seen_parts : {most : ℕ} (ring : List ℕ) (unread : ℕ) (table : List Entry) (q : Inbox) → inbox_of most ring unread table ≡ q → unread ≤ length ring → (length q.unread ≡ unread) × (q.capacity ≡ length ring)
seen_parts {most} ring unread table q e fits =
    (omega (arith, ap (λ (p : Inbox). length p.unread) e, length-take unread ring), ap (λ (p : Inbox). p.capacity) (sym e))

pub none_moved : (all : List Run) → map (moved 0) all ≡ all
none_moved [] = refl
none_moved (run ∷ others) =
    let from : run.from - 0 ≡ run.from = omega arith in
    let to : run.to - 0 ≡ run.to = omega arith in
    ap (λ n. record { from = n; to = run.to - 0; stamp = run.stamp } ∷ map (moved 0) others) from
    ∙ ap (λ n. record { from = run.from; to = n; stamp = run.stamp } ∷ map (moved 0) others) to
    ∙ ap (λ rs. run ∷ rs) (none_moved others)

-- a piece after a gap: nothing comes in order with it
pub none_view : {most : ℕ} (ring : List ℕ) (unread : ℕ) (table : List Entry) (q : Inbox) (place end : ℕ) (text : List ℕ) → inbox_of most ring unread table ≡ q → 0 < place → place + length text ≡ end →
    AllByRecursion (IsInside (length ring - unread)) (runs_in table) → bytes_in_order (overlay_at q place text) ≡ []
none_view {most} ring unread table q place end text seen gap e inside =
    let bytes = drop unread ring in
    let wide : length bytes ≡ length ring - unread = length-drop unread ring in
    ap (λ (p : Inbox). bytes_in_order (overlay_at p place text)) (sym seen)
    ∙ held_over bytes text place end (runs_in table) gap e (rw wide inside)

-- how many runs there are with it
pub runs_view : {most : ℕ} (ring : List ℕ) (unread : ℕ) (table : List Entry) (q : Inbox) (place end n : ℕ) (text : List ℕ) → inbox_of most ring unread table ≡ q → place + length text ≡ end → place < end → end ≤ length ring - unread →
    AllByRecursion (IsInside (length ring - unread)) (runs_in table) → AreAway (runs_in table) →
    length (runs (overlay_at q place text)) ≡ suc (length (rest_of (piece_of place end n) (runs_in table)))
runs_view {most} ring unread table q place end n text seen e some fits inside away =
    let bytes = drop unread ring in
    let wide : length bytes ≡ length ring - unread = length-drop unread ring in
    ap (λ (p : Inbox). length (runs (overlay_at p place text))) (sym seen)
    ∙ count_over bytes text place end n (runs_in table) e some (omega arith) (rw wide inside) away

pub empty_view : {most : ℕ} (ring : List ℕ) → inbox_of most ring 0 [] ≡ empty_with_runs (length ring) most
empty_view {most} ring = ap (λ (places : List (Option Cell)). inbox most (length ring) [] places) (bare_view ring 0 ∙ ap (λ n. replicate n None) (omega arith))

-- where nothing is left the bytes don't matter
bare_same : {most : ℕ} (ring after : List ℕ) (left : ℕ) (table : List Entry) → length after ≡ length ring → left ≡ 0 → length table ≡ 0 → inbox_of most after left table ≡ inbox_of most ring left table
bare_same {most} ring after left [] size none bare =
    ap (λ n. inbox_of most after n []) none ∙ empty_view after ∙ ap (λ n. empty_with_runs n most) size ∙ sym (empty_view ring) ∙ ap (λ n. inbox_of most ring n []) (sym none)
bare_same {most} ring after left (run ∷ table) size none bare = absurd (omega (arith, bare))

-- the user takes bytes
read_places : (ring : List ℕ) (unread count : ℕ) (table : List Entry) → count ≤ unread → unread ≤ length ring → AllByRecursion (IsInside (length ring - unread)) (runs_in table) →
    cells (stamp_of_run (ranked (runs_in table))) 0 (drop (unread - count) (drop count ring ++ take count ring)) ≡ held_of ring unread table ++ replicate count None
read_places ring unread count table few fits inside =
    let stamps = stamp_of_run (ranked (runs_in table)) in
    let window : length (drop unread ring) ≡ length ring - unread = length-drop unread ring in
    let whole : count + (unread - count) ≡ unread = omega arith in
    ap (cells stamps 0) (
    drop-append-le (unread - count) (drop count ring) (take count ring) (omega (arith, length-drop count ring))
    ∙ ap (λ (x : List ℕ). x ++ take count ring) (drop-drop (unread - count) count ring ∙ ap (λ n. drop n ring) whole)
    )
    ∙ cells_append stamps 0 (length ring - unread) (drop unread ring) (take count ring) (omega arith)
    ∙ ap (λ (x : List (Option Cell)). cells stamps 0 (drop unread ring) ++ x)
    (cells_none stamps (length ring - unread) (take count ring) (λ i h. stamp_beyond (length ring - unread) i (runs_in table) inside h)
    ∙ ap (λ n. replicate n None) (omega (arith, length-take count ring)))

read_bytes : (bytes : List ℕ) (unread count : ℕ) → count ≤ unread → unread ≤ length bytes → take (unread - count) (drop count bytes ++ take count bytes) ≡ drop count (take unread bytes)
read_bytes bytes unread count few fits =
    let whole : count + (unread - count) ≡ unread = omega arith in
    take-append-le (unread - count) (drop count bytes) (take count bytes) (omega (arith, length-drop count bytes))
    ∙ sym (drop-take count (unread - count) bytes)
    ∙ ap (λ n. drop count (take n bytes)) whole

pub read_view : {most : ℕ} (ring after : List ℕ) (unread count n : ℕ) (table : List Entry) → count ≡ min n unread → unread ≤ length ring → AllByRecursion (IsInside (length ring - unread)) (runs_in table) →
    after ≡ drop count ring ++ take count ring → inbox_of most after (unread - count) table ≡ after_read (inbox_of most ring unread table) n
unfolding after_read
read_view {most} ring after unread count n table c fits inside on =
    let size : length (take unread ring) ≡ unread = omega (arith, length-take unread ring) in
    let is_count : count ≡ min n (length (take unread ring)) = omega arith in
    inbox_parts (length after) (length ring) (take (unread - count) after) (drop n (take unread ring)) (cells (stamp_of_run (ranked (runs_in table))) 0 (drop (unread - count) after)) (held_of ring unread table ++ replicate (min n (length (take unread ring))) None)
    (ap length on ∙ length_advanced count ring)
    (ap (take (unread - count)) on ∙ read_bytes ring unread count (omega arith) fits ∙ ap (λ k. drop k (take unread ring)) is_count ∙ drop_min n (take unread ring))
    (ap (λ (x : List ℕ). cells (stamp_of_run (ranked (runs_in table))) 0 (drop (unread - count) x)) on
    ∙ read_places ring unread count table (omega arith) fits inside
    ∙ ap (λ k. held_of ring unread table ++ replicate k None) is_count)

-- all is consumed, and nothing is kept out of order
pub emptied_view : {most : ℕ} (ring after : List ℕ) (unread count n : ℕ) (table : List Entry) → count ≡ min n unread → unread ≤ length ring → AllByRecursion (IsInside (length ring - unread)) (runs_in table) →
    length after ≡ length ring → unread - count ≡ 0 → length table ≡ 0 → inbox_of most after (unread - count) table ≡ after_read (inbox_of most ring unread table) n
emptied_view {most} ring after unread count n table c fits inside size none bare =
    let on : List ℕ = drop count ring ++ take count ring in
    bare_same on after (unread - count) table (omega (arith, size, length_advanced count ring)) none bare ∙ read_view ring on unread count n table c fits inside refl

pub bare_is_without : {most : ℕ} (ring : List ℕ) (unread : ℕ) (table : List Entry) → unread ≤ length ring → inbox_of most ring unread [] ≡ without_held (inbox_of most ring unread table)
bare_is_without {most} ring unread table fits =
    let size : length (take unread ring) ≡ unread = omega (arith, length-take unread ring) in
    ap (λ (places : List (Option Cell)). inbox most (length ring) (take unread ring) places) (bare_view ring unread ∙ ap (λ n. replicate (length ring - n) None) (sym size))

-- ---- the edges

abbrev pub edges_of : Run → ℕ × ℕ
edges_of run = (run.from, run.to)

edges_ranked : (all : List Run) → map edges_of (ranked all) ≡ map edges_of all
edges_ranked [] = refl
edges_ranked (run ∷ others) = ap (λ (rest : List (ℕ × ℕ)). edges_of run ∷ rest) (edges_ranked others)

pub blocks_are : (most : ℕ) (ring : List ℕ) (unread count : ℕ) (table : List Entry) → count ≡ min (length table) max_blocks → AllByRecursion (IsInside (length ring - unread)) (runs_in table) → AreAway (runs_in table) →
    map edges_of (runs_in (take count table)) ≡ blocks (inbox_of most ring unread table)
unfolding blocks
blocks_are most ring unread count table c inside away =
    ap (λ (entries : List Entry). map edges_of (runs_in entries)) (ap (λ n. take n table) (omega (arith, c)) ∙ take_min max_blocks table)
    ∙ ap (map edges_of) (sym (take-map run_of max_blocks table))
    ∙ sym (take-map edges_of max_blocks (runs_in table))
    ∙ ap (take max_blocks) (sym (edges_ranked (runs_in table)))
    ∙ take-map edges_of max_blocks (ranked (runs_in table))
    ∙ ap (λ (rs : List Run). map edges_of (take max_blocks rs)) (sym (blocks_view ring unread table inside away))

-- ---- the invariant, afterwards

pub advanced_kept : {most : ℕ} (ring after : List ℕ) (unread count end n : ℕ) (table table' : List Entry) → IsKept most ring unread (runs_in table) → length after ≡ length ring → 0 < end → end ≤ length ring - unread →
    (let piece = piece_of 0 end n in count ≡ (union_of piece piece (runs_in table)).to) →
    (let piece = piece_of 0 end n in runs_in table' ≡ map (moved count) (rest_of piece (runs_in table))) → length (runs_in table') ≤ most →
    IsKept most after (unread + count) (runs_in table')
advanced_kept {most} ring after unread count end n table table' kept size some fits is_count moved_up few =
    let piece = piece_of 0 end n in
    let all = runs_in table in
    let room = length ring - unread in
    let rest_is : runs_in table' ≡ map (moved (union_of piece piece all).to) (rest_of piece all) = moved_up ∙ ap (λ k. map (moved k) (rest_of piece all)) is_count in
    let left : length after - (unread + count) ≡ room - (union_of piece piece all).to = omega arith in
    let within : (union_of piece piece all).to ≤ room = union_within room piece piece all fits kept.inside in
    record {
      some = omega (arith, kept.some);
      most = omega (arith, kept.most);
      fits = omega (arith, kept.fits);
      inside = rw (left, rest_is) (moved_inside room piece all refl kept.inside kept.away);
      away = rw rest_is (moved_away room piece all refl kept.inside kept.away);
      least_runs = kept.least_runs;
      most_of_runs = kept.most_of_runs;
      few = few;
    }

pub held_kept : {most : ℕ} (ring after : List ℕ) (unread place end n : ℕ) (table table' : List Entry) → IsKept most ring unread (runs_in table) → length after ≡ length ring → 0 < place → place < end → end ≤ length ring - unread →
    (let piece = piece_of place end n in runs_in table' ≡ union_of piece piece (runs_in table) ∷ rest_of piece (runs_in table)) → length (runs_in table') ≤ most →
    IsKept most after unread (runs_in table')
held_kept {most} ring after unread place end n table table' kept size gap some fits joined_up few =
    let piece = piece_of place end n in
    let all = runs_in table in
    let room = length ring - unread in
    let left : length after - unread ≡ room = omega arith in
    record {
      some = omega (arith, kept.some);
      most = omega (arith, kept.most);
      fits = omega (arith, kept.fits);
      inside = rw (left, joined_up) (joined_inside room piece all (gap, some, fits) kept.inside);
      away = rw joined_up (joined_are_away room piece all kept.inside kept.away);
      least_runs = kept.least_runs;
      most_of_runs = kept.most_of_runs;
      few = few;
    }

pub seen_held : {most : ℕ} (ring : List ℕ) (unread : ℕ) (table : List Entry) (q : Inbox) → inbox_of most ring unread table ≡ q → length q.held ≡ length ring - unread
seen_held {most} ring unread table q e = ap (λ (p : Inbox). length p.held) (sym e) ∙ length_held ring unread table

-- ---- the invariant

inside_more : (low high : ℕ) (all : List Run) → low ≤ high → AllByRecursion (IsInside low) all → AllByRecursion (IsInside high) all
inside_more low high [] h inside = tt
inside_more low high (run ∷ others) h inside = ((inside.0.0, inside.0.1, omega (arith, inside.0.2)), inside_more low high others h inside.1)

none_first : (held : List (Option Cell)) → cell_at held 0 ≡ None → bytes_in_order held ≡ []
none_first [] e = refl
none_first (None ∷ places) e = refl
none_first (Some cell ∷ places) e = absurd (cc)

pub read_kept : {most : ℕ} (ring after : List ℕ) (unread left : ℕ) (table : List Entry) → IsKept most ring unread (runs_in table) → length after ≡ length ring → left ≤ unread → IsKept most after left (runs_in table)
read_kept {most} ring after unread left table kept size less = record {
  some = omega (arith, kept.some, size);
  most = omega (arith, kept.most, size);
  fits = omega (arith, kept.fits, size);
  inside = inside_more (length ring - unread) (length after - left) (runs_in table) (omega (arith, size)) kept.inside;
  away = kept.away;
  least_runs = kept.least_runs;
  most_of_runs = kept.most_of_runs;
  few = kept.few;
}

pub kept_sound : {most : ℕ} (ring : List ℕ) (unread : ℕ) (table : List Entry) → IsKept most ring unread (runs_in table) → IsInbox (inbox_of most ring unread table)
kept_sound {most} ring unread table kept =
    let parts = seen_parts ring unread table (inbox_of most ring unread table) refl kept.fits in
    record {
      least = omega (arith, kept.some);
      most = kept.most;
      whole = omega (arith, length_held ring unread table, parts.0, kept.fits);
      least_runs = kept.least_runs;
      most_of_runs = kept.most_of_runs;
      few = omega (arith, count_view ring unread table kept.inside kept.away, kept.few);
      missing = none_first (held_of ring unread table) (missing_view ring unread table kept.inside);
    }
