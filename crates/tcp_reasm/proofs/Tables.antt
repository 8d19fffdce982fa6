-- The two orders of a table have the same runs.
use Rattle.std.proofs.Common.{◌≡◌, ℕ, ◌-◌, ◌<◌, ◌≤◌, ◌⊎◌, inl, inr, List, length, take, ◌∙◌, ap, subst, arith, length-take}
use Rattle.std.specs.Prelude.{true, false}
use Rattle.std.proofs.lemmas.List.{length-map, get_or-take}
use Rattle.tcp_reasm.specs.declared.rows.Row.{Row}
use Rattle.tcp_reasm.specs.declared.table.Run.{Run as Entry}
use Rattle.tcp_reasm.specs.Store.{run_of, touches}
use Rattle.tcp_reasm.specs.Rows.{at, count, olders, orders, spans, loop_of, run_in, run_at, newest, placed, IsTable, AreTouched}
use Rattle.tcp_reasm.proofs.Links.{length-chain}
use Rattle.tcp_reasm.proofs.Freed.{index_of, counted_at, count-take}
use Rattle.tcp_reasm.proofs.Rises.{run_at-runs_at, touch_true, touch_before, touch_behind}

pub length_loop : (rows : List Row) → length (loop_of rows) ≡ length rows - 1
length_loop rows = length-chain (length rows - 1) 0 (olders rows)

pub length_orders : (rows : List Row) → length (orders rows) ≡ length rows
length_orders rows = length-map rows (λ row. row.order)

pub length_recent : (len : ℕ) (rows : List Row) → len < length rows → length (take len (loop_of rows)) ≡ len
length_recent len rows below = omega (arith, length-take len (loop_of rows), length_loop rows, below)

pub length_ids : (len : ℕ) (rows : List Row) → len < length rows → length (take len (orders rows)) ≡ len
length_ids len rows below = omega (arith, length-take len (orders rows), length_orders rows, below)

pub length_newest : (base len : ℕ) (rows : List Row) → len < length rows → length (newest base len rows) ≡ len
length_newest base len rows below = length-map (take len (loop_of rows)) (run_in base (spans rows)) ∙ length_recent len rows below

pub length_placed : (base len : ℕ) (rows : List Row) → len < length rows → length (placed base len rows) ≡ len
length_placed base len rows below = length-map (take len (orders rows)) (run_in base (spans rows)) ∙ length_ids len rows below

pub at_ids : (len index : ℕ) (rows : List Row) → index < len → at (take len (orders rows)) index ≡ at (orders rows) index
at_ids len index rows below = get_or-take len (orders rows) index 0 below

-- the row at an index is in the ring's front
pub counted_row : (base len index : ℕ) (rows : List Row) → IsTable base len rows → index < len → 0 < count (at (orders rows) index) (take len (loop_of rows))
counted_row base len index rows table below =
    let id : ℕ = at (orders rows) index in
    let some : 0 < count (at (take len (orders rows)) index) (take len (orders rows)) = counted_at index (take len (orders rows)) (omega (arith, length_ids len rows table.some, below)) in
    omega (arith, some, ap (λ x. count x (take len (orders rows))) (at_ids len index rows below), table.same id)

pub row_below : (base len index : ℕ) (rows : List Row) → IsTable base len rows → index < len → at (orders rows) index < length rows
row_below base len index rows table below =
    table.ring.inside (at (orders rows) index) (omega (arith, counted_row base len index rows table below, count-take (at (orders rows) index) len (loop_of rows)))

pub placed_at : (base len index : ℕ) (rows : List Row) → len < length rows → index < len → run_at (placed base len rows) index ≡ run_in base (spans rows) (at (orders rows) index)
placed_at base len index rows some below =
    run_at-runs_at base (spans rows) (take len (orders rows)) index (omega (arith, length_ids len rows some, below)) ∙ ap (run_in base (spans rows)) (at_ids len index rows below)

-- what holds of the runs by place holds of the newest
pub each_newest : (base len : ℕ) (rows : List Row) (P : Entry → Type 0) → IsTable base len rows → ((k : ℕ) → k < len → P (run_at (placed base len rows) k)) → (x : ℕ) → 0 < count x (take len (loop_of rows)) → P (run_in base (spans rows) x)
each_newest base len rows P table h x some =
    let place = index_of x (take len (orders rows)) (omega (arith, some, table.same x)) in
    let below : place.0 < len = omega (arith, place.1, length_ids len rows table.some) in
    subst P (run_at-runs_at base (spans rows) (take len (orders rows)) place.0 place.1 ∙ ap (run_in base (spans rows)) place.2) (h place.0 below)

-- which runs a piece touches
pub touched_inside : (base len first past k : ℕ) (rows : List Row) (piece : Entry) → AreTouched (placed base len rows) piece first past → first ≤ k → k < past → touches (run_of piece) (run_of (run_at (placed base len rows) k)) ≡ true
touched_inside base len first past k rows piece touched low high =
    touch_true (run_of piece) (run_of (run_at (placed base len rows) k)) (touched.inside k low high).0 (touched.inside k low high).1

pub touched_outside : (base len first past k : ℕ) (rows : List Row) (piece : Entry) → AreTouched (placed base len rows) piece first past → k < length (placed base len rows) → (k < first) ⊎ (past ≤ k) → touches (run_of piece) (run_of (run_at (placed base len rows) k)) ≡ false
touched_outside base len first past k rows piece touched below (inl h) = touch_before (run_of piece) (run_of (run_at (placed base len rows) k)) (touched.before k h)
touched_outside base len first past k rows piece touched below (inr h) = touch_behind (run_of piece) (run_of (run_at (placed base len rows) k)) (touched.behind k h below)
