-- What a table has after a piece is put into it, or comes in order.
use Rattle.std.proofs.Common.{◌≡◌, ℕ, zero, suc, ◌+◌, ◌-◌, ◌<◌, ◌≤◌, ◌⊎◌, inl, inr, List, [], ◌∷◌, ◌++◌, length, get_or, take, drop, refl, sym, ◌∙◌, ap, subst, arith, length-take, length-drop}
use Rattle.std.specs.Prelude.{map, true, false, min, max}
use Rattle.std.proofs.lemmas.Bool.{cases_lt}
use Rattle.std.proofs.lemmas.List.{length-map, map-append, take-take, take-map, drop-map, take-append-le, take_more, get_or_append_left, get_or-take, get_or-drop}
use Rattle.std.proofs.Math.Seq.{drop-cons, drop-append_seam}
use Rattle.std.proofs.Math.ListN.{get_or-map}
use Rattle.tcp_reasm.specs.declared.rows.Row.{Row}
use Rattle.tcp_reasm.specs.declared.table.Run.{Run as Entry}
use Rattle.tcp_reasm.specs.Reassembly.{Run}
use Rattle.tcp_reasm.specs.Store.{run_of, runs_in, touches, rest_of, union_of, moved}
use Rattle.tcp_reasm.specs.Rows.{at, once, count, without, minus, olders, orders, span, spans, loop_of, chain, run_in, runs_at, run_at, newest, placed, lowered, greatest_base, Rising, IsRing, IsTable, AreTouched}
use Rattle.tcp_reasm.proofs.Links.{once_same, count-without}
use Rattle.tcp_reasm.proofs.Freed.{index_of, counted_at, count-take, count-minus, length-minus, rest_without, rest_minus, rest_none}
use Rattle.tcp_reasm.proofs.Rises.{run_at-runs_at, rising_put, rising_moved}
use Rattle.tcp_reasm.proofs.Tables.{length_loop, length_recent, length_ids, length_placed, at_ids, each_newest, touched_inside, touched_outside}
use Rattle.tcp_reasm.proofs.Searches.{alone, joined_all, union_behind}
use Rattle.tcp_reasm.proofs.Changes.{count-parts}

pub table_at : (base b len n : ℕ) (rows final : List Row) → b ≡ base → n ≡ len → final ≡ rows → IsTable base len rows → IsTable b n final
table_at base b len n rows final same_base same_len same table = subst (λ k. IsTable k n final) (sym same_base) (subst (λ k. IsTable base k final) (sym same_len) (subst (IsTable base len) (sym same) table))

-- ---- what is left of the newest

-- how often each number is in the ring's front
once_recent : (base len : ℕ) (rows : List Row) → IsTable base len rows → (y : ℕ) → count y (take len (loop_of rows)) ≤ 1
once_recent base len rows table y = omega (arith, count-take y len (loop_of rows), table.ring.apart y)

untouched_left : (base len first past : ℕ) (rows : List Row) (piece : Entry) (l : List ℕ) → IsTable base len rows → AreTouched (placed base len rows) piece first past
    → ((y : ℕ) → count y l + count y (take (past - first) (drop first (take len (orders rows)))) ≡ count y (take len (loop_of rows)))
    → (y : ℕ) → 0 < count y l → touches (run_of piece) (run_of (run_in base (spans rows) y)) ≡ false
untouched_left base len first past rows piece l table touched parts y some =
    let ids : List ℕ = take len (orders rows) in
    let xs : List ℕ = take (past - first) (drop first ids) in
    let place = index_of y ids (omega (arith, some, parts y, table.same y)) in
    let k : ℕ = place.0 in
    let below : k < len = omega (arith, place.1, length_ids len rows table.some) in
    let is : run_at (placed base len rows) k ≡ run_in base (spans rows) y = run_at-runs_at base (spans rows) ids k place.1 ∙ ap (run_in base (spans rows)) place.2 in
    let within : k < length (placed base len rows) = omega (arith, below, length_placed base len rows table.some) in
    let outside : (k < first) ⊎ (past ≤ k) → touches (run_of piece) (run_of (run_in base (spans rows) y)) ≡ false =
    λ side. sym (ap (λ run. touches (run_of piece) (run_of run)) is) ∙ touched_outside base len first past k rows piece touched within side in
    elim (cases_lt k first) [
      | inl less ↦ outside (inl less)
      | inr least ↦ elim (cases_lt k past) [
        | inl less ↦
            let size : k - first < length xs = omega (arith, length-take (past - first) (drop first ids), length-drop first ids, least, less, place.1) in
            let back : first + (k - first) ≡ k = omega (arith, least) in
            let word : at xs (k - first) ≡ y = get_or-take (past - first) (drop first ids) (k - first) 0 (omega (arith, least, less)) ∙ (get_or-drop first ids (k - first) 0 ∙ (ap (at ids) back ∙ place.2)) in
            absurd (omega (arith, some, parts y, once_recent base len rows table y, counted_at (k - first) xs size, ap (λ z. count z xs) word))
        | inr more ↦ outside (inr more)
      ]
    ]

-- the touched ones
touched_xs : (base len first past from : ℕ) (rows : List Row) (piece : Entry) → IsTable base len rows → AreTouched (placed base len rows) piece first past → first ≤ from → (y : ℕ) → 0 < count y (take (past - from) (drop from (take len (orders rows)))) →
    touches (run_of piece) (run_of (run_in base (spans rows) y)) ≡ true
touched_xs base len first past from rows piece table touched least y some =
    let ids : List ℕ = take len (orders rows) in
    let xs : List ℕ = take (past - from) (drop from ids) in
    let place = index_of y xs some in
    let inside : place.0 < past - from = omega (arith, place.1, length-take (past - from) (drop from ids)) in
    let word : at ids (from + place.0) ≡ y = sym (get_or-take (past - from) (drop from ids) place.0 0 inside ∙ get_or-drop from ids place.0 0) ∙ place.2 in
    let below : from + place.0 < length ids = omega (arith, place.1, length-take (past - from) (drop from ids), length-drop from ids) in
    ap (λ run. touches (run_of piece) (run_of run)) (sym (run_at-runs_at base (spans rows) ids (from + place.0) below ∙ ap (run_in base (spans rows)) word))
    ∙ touched_inside base len first past (from + place.0) rows piece touched (omega (arith, least)) (omega (arith, inside))

sub_xs : (base len first past : ℕ) (rows : List Row) → IsTable base len rows → first ≤ past → (y : ℕ) → count y (take (past - first) (drop first (take len (orders rows)))) ≤ count y (take len (loop_of rows))
sub_xs base len first past rows table ordered y = omega (arith, count-parts y first past (take len (orders rows)) ordered, table.same y)

-- without those that a piece touches
pub rest_removed : (base len first past : ℕ) (rows : List Row) (piece : Entry) → IsTable base len rows → AreTouched (placed base len rows) piece first past
    → rest_of (run_of piece) (runs_in (newest base len rows)) ≡ runs_in (runs_at base (spans rows) (minus (take (past - first) (drop first (take len (orders rows)))) (take len (loop_of rows))))
rest_removed base len first past rows piece table touched =
    let xs : List ℕ = take (past - first) (drop first (take len (orders rows))) in
    let recent : List ℕ = take len (loop_of rows) in
    let sub = sub_xs base len first past rows table touched.ordered in
    sym (rest_minus (run_in base (spans rows)) (run_of piece) xs recent sub (touched_xs base len first past first rows piece table touched (omega arith)))
    ∙ rest_none (run_in base (spans rows)) (run_of piece) (minus xs recent) (untouched_left base len first past rows piece (minus xs recent) table touched (λ y. count-minus xs recent sub y))

-- and where one of them stays for the union
pub rest_renewed : (base len first past base1 len1 : ℕ) (rows rows1 : List Row) (piece : Entry) → IsTable base len rows → AreTouched (placed base len rows) piece first past → first < past
    → base1 ≡ base → spans rows1 ≡ spans rows → first < len1 → take len1 (orders rows1) ≡ take (first + 1) (take len (orders rows)) ++ drop past (take len (orders rows))
    → take len1 (loop_of rows1) ≡ minus (take (past - (first + 1)) (drop (first + 1) (take len (orders rows)))) (take len (loop_of rows))
    → rest_of (run_of piece) (runs_in (newest base len rows)) ≡ runs_in (runs_at base1 (spans rows1) (without (at (orders rows1) first) (take len1 (loop_of rows1))))
rest_renewed base len first past base1 len1 rows rows1 piece table touched some same_base same_spans within places recents =
    let ids : List ℕ = take len (orders rows) in
    let recent : List ℕ = take len (loop_of rows) in
    let id : ℕ = at ids first in
    let xs : List ℕ = take (past - (first + 1)) (drop (first + 1) ids) in
    let l : List ℕ = without id (minus xs recent) in
    let first_in : first < length ids = omega (arith, touched.within, length_placed base len rows table.some, length_ids len rows table.some, some) in
    let id_is : at (orders rows1) first ≡ id =
    sym (at_ids len1 first rows1 within) ∙ (ap (λ (ys : List ℕ). at ys first) places
    ∙ (get_or_append_left (take (first + 1) ids) (drop past ids) 0 first (omega (arith, length-take (first + 1) ids, first_in)) ∙ get_or-take (first + 1) ids first 0 (omega arith))) in
    let sub = sub_xs base len (first + 1) past rows table (omega (arith, some)) in
    let suc_is : first + 1 ≡ suc first = omega arith in
    let count_is : past - first ≡ suc (past - (first + 1)) = omega (arith, some) in
    let all : take (past - first) (drop first ids) ≡ id ∷ xs =
    ap (take (past - first)) (drop-cons ids first 0 first_in) ∙ (ap (λ n. take n (id ∷ drop (suc first) ids)) count_is ∙ ap (λ n. id ∷ take (past - (first + 1)) (drop n ids)) (sym suc_is)) in
    let whole : (y : ℕ) → once y id + count y xs ≤ count y recent = λ y. omega (arith, sub_xs base len first past rows table (omega (arith, some)) y, ap (count y) all) in
    let more : 0 < count id (minus xs recent) = omega (arith, whole id, once_same id id refl, count-minus xs recent sub id) in
    let touch_id = touched_xs base len first past first rows piece table touched (omega arith) id (omega (arith, ap (count id) all, once_same id id refl)) in
    let parts : (y : ℕ) → count y l + count y (take (past - first) (drop first ids)) ≡ count y recent = λ y. omega (arith, ap (count y) all, count-without id y (minus xs recent) more, count-minus xs recent sub y) in
    sym (rest_minus (run_in base (spans rows)) (run_of piece) xs recent sub (touched_xs base len first past (first + 1) rows piece table touched (omega arith)))
    ∙ (sym (rest_without (run_in base (spans rows)) (run_of piece) id (minus xs recent) more touch_id)
    ∙ (rest_none (run_in base (spans rows)) (run_of piece) l (untouched_left base len first past rows piece l table touched parts)
    ∙ (ap (λ b. runs_in (runs_at b (spans rows) l)) (sym same_base)
    ∙ (ap (λ (all : List Entry). runs_in (runs_at base1 all l)) (sym same_spans)
    ∙ (ap (λ (ys : List ℕ). runs_in (runs_at base1 (spans rows1) (without id ys))) (sym recents) ∙ ap (λ x. runs_in (runs_at base1 (spans rows1) (without x (take len1 (loop_of rows1))))) (sym id_is))))))

-- where none is touched
pub rest_alone : (base len first past : ℕ) (rows : List Row) (piece : Entry) → IsTable base len rows → AreTouched (placed base len rows) piece first past → past ≤ first → runs_in (newest base len rows) ≡ rest_of (run_of piece) (runs_in (newest base len rows))
rest_alone base len first past rows piece table touched none =
    sym (rest_none (run_in base (spans rows)) (run_of piece) (take len (loop_of rows))
    (each_newest base len rows (λ run. touches (run_of piece) (run_of run) ≡ false) table
    (λ k below. touched_outside base len first past k rows piece touched (omega (arith, below, length_placed base len rows table.some))
    (elim (cases_lt k first) [ inl less ↦ inl less | inr not ↦ inr (omega (arith, not, none)) ]))))

-- how many are left
pub rest_counted : (base len first past : ℕ) (rows : List Row) (piece : Entry) → IsTable base len rows → AreTouched (placed base len rows) piece first past → length (rest_of (run_of piece) (runs_in (newest base len rows))) ≡ len - (past - first)
rest_counted base len first past rows piece table touched =
    let xs : List ℕ = take (past - first) (drop first (take len (orders rows))) in
    let recent : List ℕ = take len (loop_of rows) in
    omega (
      arith,
      ap length (rest_removed base len first past rows piece table touched),
      length-map (runs_at base (spans rows) (minus xs recent)) run_of,
      length-map (minus xs recent) (run_in base (spans rows)),
      length-minus xs recent (sub_xs base len first past rows table touched.ordered),
      length_recent len rows table.some,
      length-take (past - first) (drop first (take len (orders rows))),
      length-drop first (take len (orders rows)),
      length_ids len rows table.some,
      touched.within,
      length_placed base len rows table.some,
      touched.ordered,
    )

-- ---- the order with the union in it

pub placed_removed : (base len first past base1 len1 : ℕ) (rows rows1 : List Row) → base1 ≡ base → spans rows1 ≡ spans rows → take len1 (orders rows1) ≡ take first (take len (orders rows)) ++ drop past (take len (orders rows))
    → placed base1 len1 rows1 ≡ take first (placed base len rows) ++ drop past (placed base len rows)
placed_removed base len first past base1 len1 rows rows1 same_base same_spans places =
    let ids : List ℕ = take len (orders rows) in
    ap (λ b. runs_at b (spans rows1) (take len1 (orders rows1))) same_base
    ∙ (ap (λ (all : List Entry). runs_at base all (take len1 (orders rows1))) same_spans
    ∙ (ap (runs_at base (spans rows)) places
    ∙ (map-append (run_in base (spans rows)) (take first ids) (drop past ids)
    ∙ (ap (λ (ys : List Entry). ys ++ runs_at base (spans rows) (drop past ids)) (sym (take-map (run_in base (spans rows)) first ids)) ∙ ap (λ (ys : List Entry). take first (placed base len rows) ++ ys) (sym (drop-map (run_in base (spans rows)) past ids))))))

pub rising_renewed : (base len first past base1 len1 : ℕ) (rows rows1 : List Row) (u : Entry) → IsTable base len rows → first < past → past ≤ len → 0 < u.from → u.from < u.to
    → ((k : ℕ) → k < first → (run_at (placed base len rows) k).to < u.from) → ((k : ℕ) → past ≤ k → k < len → u.to < (run_at (placed base len rows) k).from)
    → base1 ≡ base → spans rows1 ≡ spans rows → take len1 (orders rows1) ≡ take (first + 1) (take len (orders rows)) ++ drop past (take len (orders rows))
    → Rising 0 (take first (placed base1 len1 rows1) ++ u ∷ drop (suc first) (placed base1 len1 rows1))
rising_renewed base len first past base1 len1 rows rows1 u table some within above full before behind same_base same_spans places =
    let runs : List Entry = placed base len rows in
    let size : length runs ≡ len = length_placed base len rows table.some in
    let is : placed base1 len1 rows1 ≡ take (first + 1) runs ++ drop past runs = placed_removed base len (first + 1) past base1 len1 rows rows1 same_base same_spans places in
    let front : length (take (first + 1) runs) ≡ suc first = omega (arith, length-take (first + 1) runs, size, some, within) in
    let low : take first (take (first + 1) runs ++ drop past runs) ≡ take first runs = take-append-le first (take (first + 1) runs) (drop past runs) (omega (arith, front)) ∙ take-take first (first + 1) runs (omega arith) in
    let high : drop (suc first) (take (first + 1) runs ++ drop past runs) ≡ drop past runs = ap (λ n. drop n (take (first + 1) runs ++ drop past runs)) (sym front) ∙ drop-append_seam (take (first + 1) runs) (drop past runs) in
    subst (λ (ys : List Entry). Rising 0 (take first ys ++ u ∷ drop (suc first) ys)) (sym is)
    (subst (λ (ys : List Entry). Rising 0 (ys ++ u ∷ drop (suc first) (take (first + 1) runs ++ drop past runs))) (sym low)
    (subst (λ (ys : List Entry). Rising 0 (take first runs ++ u ∷ ys)) (sym high)
    (rising_put 0 first past runs u table.rising (omega (arith, some)) above full (λ k less below. before k less) (λ k least below. behind k least (omega (arith, below, size))))))

-- ---- counting from another place

sub_sub : (a b n : ℕ) → a - (b + n) ≡ a - b - n
sub_sub a b n = omega arith

moved_one : (base n : ℕ) (run : Entry) → run_of (lowered (base + n) run) ≡ moved n (run_of (lowered base run))
moved_one base n run =
    ap (λ a. record { from = a; to = run.to - (base + n); stamp = 0 }) (sub_sub run.from base n) ∙ ap (λ a. record { from = run.from - base - n; to = a; stamp = 0 }) (sub_sub run.to base n)

pub moved_runs : (base n : ℕ) (all : List Entry) (ids : List ℕ) → runs_in (runs_at (base + n) all ids) ≡ map (moved n) (runs_in (runs_at base all ids))
moved_runs base n all [] = refl
moved_runs base n all (x ∷ ids) =
    ap (λ (run : Run). run ∷ runs_in (runs_at (base + n) all ids)) (moved_one base n (get_or all x (span 0 0))) ∙ ap (λ (runs : List Run). moved n (run_of (run_in base all x)) ∷ runs) (moved_runs base n all ids)

moved_placed : (base n : ℕ) (all : List Entry) (ids : List ℕ) → runs_at (base + n) all ids ≡ map (λ run. span (run.from - n) (run.to - n)) (runs_at base all ids)
moved_placed base n all [] = refl
moved_placed base n all (x ∷ ids) =
    let run : Entry = get_or all x (span 0 0) in
    ap (λ a. span a (run.to - (base + n)) ∷ runs_at (base + n) all ids) (sub_sub run.from base n)
    ∙ (ap (λ a. span (run.from - base - n) a ∷ runs_at (base + n) all ids) (sub_sub run.to base n) ∙ ap (λ (runs : List Entry). span (run.from - base - n) (run.to - base - n) ∷ runs) (moved_placed base n all ids))

pub moved_rising : (base n : ℕ) (all : List Entry) (ids : List ℕ) → Rising n (runs_at base all ids) → Rising 0 (runs_at (base + n) all ids)
moved_rising base n all ids h =
    let none : n - n ≡ 0 = omega arith in
    subst (Rising 0) (sym (moved_placed base n all ids))
    (subst (λ low. Rising low (map (λ (run : Entry). span (run.from - n) (run.to - n)) (runs_at base all ids))) none
    (rising_moved n n (runs_at base all ids) (λ run. span (run.from - n) (run.to - n)) h (λ run. (refl, refl)) (omega arith)))

pub moved_table : (base n len : ℕ) (rows : List Row) → IsTable base len rows → Rising n (placed base len rows) → base + n ≤ greatest_base → IsTable (base + n) len rows
moved_table base n len rows table rising low = record {
  some = table.some;
  most = table.most;
  ring = table.ring;
  same = table.same;
  rising = moved_rising base n (spans rows) (take len (orders rows)) rising;
  low = low;
}

-- places that are counted anew
settled_one : (base x : ℕ) (all : List Entry) → run_in 0 (map (lowered base) all) x ≡ run_in base all x
settled_one base x all =
    let none : 0 - base ≡ 0 = omega arith in
    let run : Entry = get_or all x (span 0 0) in
    let from : run.from - base - 0 ≡ run.from - base = omega arith in
    let to : run.to - base - 0 ≡ run.to - base = omega arith in
    ap (lowered 0) (ap (get_or (map (lowered base) all) x) (sym (ap (λ n. span n (0 - base)) none ∙ ap (span 0) none)) ∙ get_or-map (lowered base) all x (span 0 0))
    ∙ (ap (λ n. span n (run.to - base - 0)) from ∙ ap (span (run.from - base)) to)

pub settled_runs : (base : ℕ) (all : List Entry) (ids : List ℕ) → runs_at 0 (map (lowered base) all) ids ≡ runs_at base all ids
settled_runs base all [] = refl
settled_runs base all (x ∷ ids) = ap (λ run. run ∷ runs_at 0 (map (lowered base) all) ids) (settled_one base x all) ∙ ap (λ (runs : List Entry). run_in base all x ∷ runs) (settled_runs base all ids)

pub settled_table : (base n len : ℕ) (rows after : List Row) → IsTable base len rows → Rising n (placed base len rows) → IsRing after × (loop_of after ≡ loop_of rows) → length after ≡ length rows → orders after ≡ orders rows → spans after ≡ map (lowered (base + n)) (spans rows)
    → IsTable 0 len after × (runs_in (newest 0 len after) ≡ map (moved n) (runs_in (newest base len rows)))
settled_table base n len rows after table rising ring size order runs =
    let ids : take len (orders after) ≡ take len (orders rows) = ap (take len) order in
    let recent : take len (loop_of after) ≡ take len (loop_of rows) = ap (take len) ring.1 in
    let by : (ys : List ℕ) → runs_at 0 (spans after) ys ≡ runs_at (base + n) (spans rows) ys = λ ys. ap (λ (all : List Entry). runs_at 0 all ys) runs ∙ settled_runs (base + n) (spans rows) ys in (
      record {
        some = omega (arith, size, table.some);
        most = omega (arith, size, table.most);
        ring = ring.0;
        same = λ x. omega (arith, ap (count x) ids, ap (count x) recent, table.same x);
        rising = subst (Rising 0) (sym (ap (runs_at 0 (spans after)) ids ∙ by (take len (orders rows)))) (moved_rising base n (spans rows) (take len (orders rows)) rising);
        low = omega arith;
      },
      ap runs_in (ap (runs_at 0 (spans after)) recent ∙ by (take len (loop_of rows))) ∙ moved_runs base n (spans rows) (take len (loop_of rows)),
    )

-- ---- the newest, one after another

chain_next : (n x k : ℕ) (older : List ℕ) → k < n → at older (at (x ∷ chain n x older) k) ≡ at (chain n x older) k
chain_next zero x k older below = absurd (omega (arith, below))
chain_next (suc n) x zero older below = refl
chain_next (suc n) x (suc k) older below = chain_next n (at older x) k older (omega (arith, below))

pub next_row : (rows : List Row) (k id : ℕ) → suc k < length rows → id ≡ at (0 ∷ loop_of rows) k → at (olders rows) id ≡ at (loop_of rows) k
next_row rows k id below is = ap (at (olders rows)) is ∙ chain_next (length rows - 1) 0 k (olders rows) (omega (arith, below))

pub ring_row : (rows : List Row) (k : ℕ) → IsRing rows → k < length rows → at (0 ∷ loop_of rows) k < length rows
ring_row rows k ring below = ring.inside (at (0 ∷ loop_of rows) k) (counted_at k (0 ∷ loop_of rows) (omega (arith, length_loop rows, below)))

pub newest_at : (base len k : ℕ) (rows : List Row) → len < length rows → k < len → run_at (newest base len rows) k ≡ run_in base (spans rows) (at (loop_of rows) k)
newest_at base len k rows some below =
    run_at-runs_at base (spans rows) (take len (loop_of rows)) k (omega (arith, length_recent len rows some, below)) ∙ ap (run_in base (spans rows)) (get_or-take len (loop_of rows) k 0 below)

pub edges_more : (base len k x : ℕ) (rows : List Row) → len < length rows → k < len → x ≡ at (loop_of rows) k
    → map {B = ℕ × ℕ} (λ (run : Run). (run.from, run.to)) (runs_in (take (k + 1) (newest base len rows))) ≡ map {B = ℕ × ℕ} (λ (run : Run). (run.from, run.to)) (runs_in (take k (newest base len rows))) ++ ((run_in base (spans rows) x).from, (run_in base (spans rows) x).to) ∷ []
edges_more base len k x rows some below is =
    let runs : List Entry = newest base len rows in
    let here : run_at runs k ≡ run_in base (spans rows) x = newest_at base len k rows some below ∙ ap (run_in base (spans rows)) (sym is) in
    let size : k < length runs = omega (arith, length-map (take len (loop_of rows)) (run_in base (spans rows)), length_recent len rows some, below) in
    ap (λ (ys : List Entry). map {B = ℕ × ℕ} (λ (run : Run). (run.from, run.to)) (runs_in ys)) (take_more runs k (span 0 0) size)
    ∙ (ap (map {B = ℕ × ℕ} (λ (run : Run). (run.from, run.to))) (map-append run_of (take k runs) (run_at runs k ∷ []))
    ∙ (map-append {B = ℕ × ℕ} (λ (run : Run). (run.from, run.to)) (runs_in (take k runs)) (run_of (run_at runs k) ∷ [])
    ∙ ap (λ (run : Entry). map {B = ℕ × ℕ} (λ (run : Run). (run.from, run.to)) (runs_in (take k runs)) ++ (run.from, run.to) ∷ []) here))

-- ---- what is behind a union

-- it reaches no run that a piece doesn't touch
pub left_behind : (base len past to : ℕ) (rows : List Row) (piece : Entry) → IsTable base len rows → AreTouched (placed base len rows) piece 0 past → to ≡ (union_of (run_of piece) (run_of piece) (runs_in (newest base len rows))).to
    → (k : ℕ) → past ≤ k → k < length (placed base len rows) → to < (run_at (placed base len rows) k).from
left_behind base len past to rows piece table touched is k least below =
    let size : length (placed base len rows) ≡ len = length_placed base len rows table.some in
    elim (cases_lt 0 past) [
      | inl some ↦
          let last : ℕ = past - 1 in
          let u : Entry = span (min piece.from (run_at (placed base len rows) 0).from) (max piece.to (run_at (placed base len rows) last).to) in
          let whole = joined_all base len 0 past rows piece u table touched some refl refl in
          union_behind base len 0 past to rows piece table touched some (is ∙ sym (ap (λ (run : Run). run.to) whole)) k least (omega (arith, below, size))
      | inr none ↦
          let whole = alone base len 0 past rows piece table touched none in
          omega (arith, is, ap (λ (run : Run). run.to) whole, touched.behind k least below)
    ]
