-- What is found by halves.
use Rattle.std.proofs.Common.{◌≡◌, ℕ, ◌+◌, ◌-◌, ◌<◌, ◌≤◌, ◌⊎◌, inl, inr, List, length, take, sym, ◌∙◌, ap, arith}
use Rattle.std.specs.Prelude.{Bool, true, false, min, max}
use Rattle.std.proofs.lemmas.Bool.{cases_lt, false≢true}
use Rattle.tcp_reasm.specs.declared.rows.Row.{Row}
use Rattle.tcp_reasm.specs.declared.table.Run.{Run as Entry}
use Rattle.tcp_reasm.specs.Store.{run_of, runs_in, touches, union_of, held_to, gap_to}
use Rattle.tcp_reasm.specs.Rows.{at, orders, spans, loop_of, run_in, run_at, newest, placed, IsTable, AreTouched}
use Rattle.tcp_reasm.proofs.Gaps.{gap_to_most, gap_to_least}
use Rattle.tcp_reasm.proofs.Rises.{rising_some, rising_apart, rising_ends, rising_begins, held_none, held_some, gap_above, gap_below, union_alone, union_some}
use Rattle.tcp_reasm.proofs.Tables.{length_placed, counted_row, placed_at, each_newest, touched_inside, touched_outside}

never : {b : Bool} → b ≡ true → b ≡ false → ⊥
never t f = absurd (false≢true (sym f ∙ t))

below_in : (base len k : ℕ) (rows : List Row) → IsTable base len rows → k < len → k < length (placed base len rows)
below_in base len k rows table below = omega (arith, length_placed base len rows table.some, below)

-- ---- a search by halves

pub ended_to : (base len place m : ℕ) (rows : List Row) → IsTable base len rows → m < len → (run_at (placed base len rows) m).to < place → (k : ℕ) → k < m + 1 → (run_at (placed base len rows) k).to < place
ended_to base len place m rows table below is k less =
    omega (arith, rising_ends 0 (placed base len rows) k m table.rising (omega (arith, less)) (below_in base len m rows table below), is)

pub not_ended_from : (base len place m : ℕ) (rows : List Row) → IsTable base len rows → place ≤ (run_at (placed base len rows) m).to → (k : ℕ) → m ≤ k → k < len → place ≤ (run_at (placed base len rows) k).to
not_ended_from base len place m rows table is k least below =
    omega (arith, rising_ends 0 (placed base len rows) m k table.rising least (below_in base len k rows table below), is)

pub begins_from : (base len place m : ℕ) (rows : List Row) → IsTable base len rows → place < (run_at (placed base len rows) m).from → (k : ℕ) → m ≤ k → k < len → place < (run_at (placed base len rows) k).from
begins_from base len place m rows table is k least below =
    omega (arith, rising_begins 0 (placed base len rows) m k table.rising least (below_in base len k rows table below), is)

-- ---- how far bytes are kept

pub held_past : (base len place index : ℕ) (rows : List Row) → IsTable base len rows → len ≤ index → ((k : ℕ) → k < index → (run_at (placed base len rows) k).to < place + 1) → place ≡ held_to (runs_in (newest base len rows)) place
held_past base len place index rows table past before =
    held_none (run_in base (spans rows)) place (take len (loop_of rows))
    (each_newest base len rows (λ run. (place < run.from) ⊎ (run.to ≤ place)) table (λ k below. inr (omega (arith, before k (omega (arith, below, past))))))

pub held_before : (base len place index : ℕ) (rows : List Row) → IsTable base len rows → ((k : ℕ) → k < index → (run_at (placed base len rows) k).to < place + 1) → place < (run_at (placed base len rows) index).from
    → place ≡ held_to (runs_in (newest base len rows)) place
held_before base len place index rows table before gap =
    held_none (run_in base (spans rows)) place (take len (loop_of rows))
    (each_newest base len rows (λ run. (place < run.from) ⊎ (run.to ≤ place)) table
    (λ k below. elim (cases_lt k index) [ inl less ↦ inr (omega (arith, before k less)) | inr not ↦ inl (begins_from base len place index rows table gap k not below) ]))

pub held_in : (base len place index : ℕ) (rows : List Row) → IsTable base len rows → index < len → ((k : ℕ) → k < index → (run_at (placed base len rows) k).to < place + 1) → (run_at (placed base len rows) index).from ≤ place → place < (run_at (placed base len rows) index).to
    → (run_at (placed base len rows) index).to ≡ held_to (runs_in (newest base len rows)) place
held_in base len place index rows table below before from to =
    let x : ℕ = at (orders rows) index in
    let is = placed_at base len index rows table.some below in
    ap (λ (run : Entry). run.to) is
    ∙ held_some (run_in base (spans rows)) place x (take len (loop_of rows)) (counted_row base len index rows table below) (omega (arith, ap (λ (run : Entry). run.from) is, from)) (omega (arith, ap (λ (run : Entry). run.to) is, to))
    (each_newest base len rows (λ run. (place < run.from) ⊎ (run.to ≤ place) ⊎ (run.to ≡ (run_in base (spans rows) x).to)) table
    (λ k in_k. elim (cases_lt k index) [
      | inl less ↦ inr (inl (omega (arith, before k less)))
      | inr not ↦ elim (cases_lt index k) [
        | inl more ↦ inl (omega (arith, rising_apart 0 (placed base len rows) index k table.rising more (below_in base len k rows table in_k), to))
        | inr most ↦ let same : k ≡ index = omega (arith, not, most) in inr (inr (ap (λ i. (run_at (placed base len rows) i).to) same ∙ ap (λ (run : Entry). run.to) is))
      ]
    ]))

-- ---- how far none is

pub gap_past : (base len place end index : ℕ) (rows : List Row) → IsTable base len rows → place ≤ end → len ≤ index → ((k : ℕ) → k < index → (run_at (placed base len rows) k).to < place + 1) → end ≡ gap_to (runs_in (newest base len rows)) place end
gap_past base len place end index rows table ordered past before =
    omega (
      arith,
      gap_to_most (runs_in (newest base len rows)) place end ordered,
      gap_above (run_in base (spans rows)) place end end (take len (loop_of rows)) ordered (omega arith)
          (each_newest base len rows (λ run. (run.from < run.to) × (place < run.to → end ≤ max place run.from)) table
          (λ k below. (rising_some 0 (placed base len rows) k table.rising (below_in base len k rows table below), λ less. absurd (omega (arith, less, before k (omega (arith, below, past))))))),
    )

pub gap_at : (base len place end index g : ℕ) (rows : List Row) → IsTable base len rows → place ≤ end → index < len → ((k : ℕ) → k < index → (run_at (placed base len rows) k).to < place + 1) → place + 1 ≤ (run_at (placed base len rows) index).to
    → g ≡ min end (max place (run_at (placed base len rows) index).from) → g ≡ gap_to (runs_in (newest base len rows)) place end
gap_at base len place end index g rows table ordered below before behind is =
    let x : ℕ = at (orders rows) index in
    let run = placed_at base len index rows table.some below in
    omega (
      arith,
      is,
      gap_to_most (runs_in (newest base len rows)) place end ordered,
      gap_below (run_in base (spans rows)) place end x (take len (loop_of rows)) (counted_row base len index rows table below) ordered (omega (arith, ap (λ (run : Entry). run.to) run, behind)),
      ap (λ (run : Entry). run.from) run,
      gap_above (run_in base (spans rows)) place end g (take len (loop_of rows)) ordered (omega (arith, is))
          (each_newest base len rows (λ run. (run.from < run.to) × (place < run.to → g ≤ max place run.from)) table
          (λ k in_k. (
            rising_some 0 (placed base len rows) k table.rising (below_in base len k rows table in_k),
            λ less. elim (cases_lt k index) [
              | inl early ↦ absurd (omega (arith, less, before k early))
              | inr not ↦ omega (arith, is, rising_begins 0 (placed base len rows) index k table.rising not (below_in base len k rows table in_k))
            ],
          ))),
    )

-- ---- from one run to the next

pub held_or : (base len place index : ℕ) (rows : List Row) → IsTable base len rows → index < len → ((k : ℕ) → k < index → (run_at (placed base len rows) k).to < place + 1) → (run_at (placed base len rows) index).from ≤ place → place ≤ (run_at (placed base len rows) index).to
    → (run_at (placed base len rows) index).to ≡ held_to (runs_in (newest base len rows)) place
held_or base len place index rows table below before from to =
    elim (cases_lt place (run_at (placed base len rows) index).to) [
      | inl less ↦ held_in base len place index rows table below before from less
      | inr not ↦
          let same : (run_at (placed base len rows) index).to ≡ place = omega (arith, to, not) in
          same ∙ held_none (run_in base (spans rows)) place (take len (loop_of rows))
          (each_newest base len rows (λ run. (place < run.from) ⊎ (run.to ≤ place)) table
          (λ k in_k. elim (cases_lt k (index + 1)) [
            | inl early ↦ inr (omega (arith, same, rising_ends 0 (placed base len rows) k index table.rising (omega (arith, early)) (below_in base len index rows table below)))
            | inr late ↦ inl (omega (arith, same, rising_apart 0 (placed base len rows) index k table.rising (omega (arith, late)) (below_in base len k rows table in_k)))
          ]))
    ]

pub ended_all : (base len place index : ℕ) (rows : List Row) → IsTable base len rows → index < len → (run_at (placed base len rows) index).to ≤ place → (k : ℕ) → k < index + 1 → (run_at (placed base len rows) k).to ≤ place
ended_all base len place index rows table below is k less =
    omega (arith, is, rising_ends 0 (placed base len rows) k index table.rising (omega (arith, less)) (below_in base len index rows table below))

pub begun_behind : (base len place index : ℕ) (rows : List Row) → IsTable base len rows → index < len → place ≤ (run_at (placed base len rows) index).to → (k : ℕ) → index + 1 ≤ k → k < len → place < (run_at (placed base len rows) k).from
begun_behind base len place index rows table below is k least in_k =
    omega (arith, is, rising_apart 0 (placed base len rows) index k table.rising (omega (arith, least)) (below_in base len k rows table in_k))

pub gap_none : (base len from end : ℕ) (rows : List Row) → from ≡ end → end ≡ gap_to (runs_in (newest base len rows)) from end
gap_none base len from end rows same =
    omega (arith, same, gap_to_least (runs_in (newest base len rows)) from end (omega (arith, same)), gap_to_most (runs_in (newest base len rows)) from end (omega (arith, same)))

pub free_past : (base len from end index : ℕ) (rows : List Row) → IsTable base len rows → from ≤ end → len ≤ index → (from < end → (k : ℕ) → k < index → (run_at (placed base len rows) k).to ≤ from) → end ≡ gap_to (runs_in (newest base len rows)) from end
free_past base len from end index rows table ordered past before =
    elim (cases_lt from end) [
      | inl less ↦ gap_past base len from end index rows table ordered past (λ k below. omega (arith, before less k below))
      | inr not ↦ gap_none base len from end rows (omega (arith, ordered, not))
    ]

pub free_at : (base len from end index g : ℕ) (rows : List Row) → IsTable base len rows → from ≤ end → index < len → (from < end → (k : ℕ) → k < index → (run_at (placed base len rows) k).to ≤ from) → from < (run_at (placed base len rows) index).from
    → g ≡ min end (run_at (placed base len rows) index).from → g ≡ gap_to (runs_in (newest base len rows)) from end
free_at base len from end index g rows table ordered below before behind is =
    let some = rising_some 0 (placed base len rows) index table.rising (below_in base len index rows table below) in
    elim (cases_lt from end) [
      | inl less ↦ gap_at base len from end index g rows table ordered below (λ k early. omega (arith, before less k early)) (omega (arith, some, behind)) (omega (arith, is, behind))
      | inr not ↦ let same : from ≡ end = omega (arith, ordered, not) in let g_end : g ≡ end = omega (arith, is, behind, same) in g_end ∙ gap_none base len from end rows same
    ]

pub here_ends : (base len index g end : ℕ) (rows : List Row) → IsTable base len rows → index < len → g ≡ min end (run_at (placed base len rows) index).from → g ≤ (run_at (placed base len rows) index).to
here_ends base len index g end rows table below is = omega (arith, is, rising_some 0 (placed base len rows) index table.rising (below_in base len index rows table below))

-- the first run that a piece touches doesn't end before it, nor one behind it
pub touched_here : (base len first past : ℕ) (rows : List Row) (piece : Entry) → IsTable base len rows → AreTouched (placed base len rows) piece first past → piece.from ≤ piece.to → first < len → piece.from ≤ (run_at (placed base len rows) first).to
touched_here base len first past rows piece table touched ordered below =
    elim (cases_lt first past) [
      | inl less ↦ (touched.inside first (omega arith) less).0
      | inr not ↦
          omega (arith, ordered, touched.behind first not (below_in base len first rows table below), rising_some 0 (placed base len rows) first table.rising (below_in base len first rows table below))
    ]

-- ---- a union

pub alone : (base len first past : ℕ) (rows : List Row) (piece : Entry) → IsTable base len rows → AreTouched (placed base len rows) piece first past → past ≤ first → run_of piece ≡ union_of (run_of piece) (run_of piece) (runs_in (newest base len rows))
alone base len first past rows piece table touched none =
    union_alone (run_in base (spans rows)) piece (take len (loop_of rows))
    (each_newest base len rows (λ run. touches (run_of piece) (run_of run) ≡ false) table
    (λ k below. touched_outside base len first past k rows piece touched (below_in base len k rows table below) (elim (cases_lt k first) [ inl less ↦ inl less | inr not ↦ inr (omega (arith, not, none)) ])))

pub joined_all : (base len first past : ℕ) (rows : List Row) (piece u : Entry) → IsTable base len rows → AreTouched (placed base len rows) piece first past → first < past
    → u.from ≡ min piece.from (run_at (placed base len rows) first).from → u.to ≡ max piece.to (run_at (placed base len rows) (past - 1)).to
    → run_of u ≡ union_of (run_of piece) (run_of piece) (runs_in (newest base len rows))
joined_all base len first past rows piece u table touched some from to =
    let runs : List Entry = placed base len rows in
    let within : past ≤ len = omega (arith, touched.within, length_placed base len rows table.some) in
    let first_in : first < len = omega (arith, some, within) in
    let last_in : past - 1 < len = omega (arith, some, within) in
    let first_is = placed_at base len first rows table.some first_in in
    let last_is = placed_at base len (past - 1) rows table.some last_in in
    let touch_first = sym (ap (λ run. touches (run_of piece) (run_of run)) first_is) ∙ touched_inside base len first past first rows piece touched (omega arith) some in
    let touch_last = sym (ap (λ run. touches (run_of piece) (run_of run)) last_is) ∙ touched_inside base len first past (past - 1) rows piece touched (omega (arith, some)) (omega (arith, some)) in
    union_some (run_in base (spans rows)) piece u (at (orders rows) first) (at (orders rows) (past - 1)) (take len (loop_of rows)) (counted_row base len first rows table first_in) (counted_row base len (past - 1) rows table last_in) touch_first touch_last
    (from ∙ ap (λ (run : Entry). min piece.from run.from) first_is) (to ∙ ap (λ (run : Entry). max piece.to run.to) last_is)
    (each_newest base len rows
    (λ run. touches (run_of piece) (run_of run) ≡ true → ((run_in base (spans rows) (at (orders rows) first)).from ≤ run.from) × (run.to ≤ (run_in base (spans rows) (at (orders rows) (past - 1))).to)) table
    (λ k below t. elim (cases_lt k first) [
      | inl less ↦ absurd (never t (touched_outside base len first past k rows piece touched (below_in base len k rows table below) (inl less)))
      | inr not ↦ elim (cases_lt k past) [
        | inl less ↦ (
          omega (arith, ap (λ (run : Entry). run.from) first_is, rising_begins 0 runs first k table.rising not (below_in base len k rows table below)),
          omega (arith, ap (λ (run : Entry). run.to) last_is, rising_ends 0 runs k (past - 1) table.rising (omega (arith, less)) (below_in base len (past - 1) rows table last_in)),
        )
        | inr more ↦ absurd (never t (touched_outside base len first past k rows piece touched (below_in base len k rows table below) (inr more)))
      ]
    ]))

-- what is before it, and behind it
pub union_before : (base len first past from : ℕ) (rows : List Row) (piece : Entry) → IsTable base len rows → AreTouched (placed base len rows) piece first past → first < past → from ≡ min piece.from (run_at (placed base len rows) first).from
    → (k : ℕ) → k < first → (run_at (placed base len rows) k).to < from
union_before base len first past from rows piece table touched some is k less =
    omega (arith, is, touched.before k less, rising_apart 0 (placed base len rows) k first table.rising less (omega (arith, touched.within, some)))

pub union_behind : (base len first past to : ℕ) (rows : List Row) (piece : Entry) → IsTable base len rows → AreTouched (placed base len rows) piece first past → first < past → to ≡ max piece.to (run_at (placed base len rows) (past - 1)).to
    → (k : ℕ) → past ≤ k → k < len → to < (run_at (placed base len rows) k).from
union_behind base len first past to rows piece table touched some is k least below =
    let in_k = below_in base len k rows table below in
    omega (arith, is, touched.behind k least in_k, rising_apart 0 (placed base len rows) (past - 1) k table.rising (omega (arith, some, least)) in_k)
