-- The table of runs as it is kept: rows in a ring by recency, and an order of them by place.
use Rattle.std.specs.Prelude.{◌≡◌, ℕ, zero, suc, ◌+◌, ◌-◌, ◌<◌, ◌≤◌, ◌==◌, if◌then◌else◌, List, [], ◌∷◌, ◌++◌, length, map, take, drop, slice_index_or}
use Rattle.tcp_reasm.specs.declared.rows.Row.{Row}
use Rattle.tcp_reasm.specs.declared.table.Run.{Run as Entry}

-- ---- the rows, field by field

abbrev pub olders : List Row → List ℕ
olders rows = map (λ row. row.older) rows

abbrev pub newers : List Row → List ℕ
newers rows = map (λ row. row.newer) rows

abbrev pub orders : List Row → List ℕ
orders rows = map (λ row. row.order) rows

abbrev pub span : ℕ → ℕ → Entry
span from to = record { from = from; to = to }

abbrev pub span_of : Row → Entry
span_of row = span row.from row.to

abbrev pub spans : List Row → List Entry
spans rows = map span_of rows

-- the greatest number of rows: one for each run, and one for the ends of the ring
abbrev pub most_rows : ℕ
most_rows = 4097

-- ---- the ring

abbrev pub at : List ℕ → ℕ → ℕ
at xs i = slice_index_or xs i 0

-- how often a number is in a list
abbrev pub once : ℕ → ℕ → ℕ
once x y = if x == y then 1 else 0

abbrev pub count : ℕ → List ℕ → ℕ
count x [] = 0
count x (y ∷ ys) = once x y + count x ys

-- a list without a number, where it is first
abbrev pub without : ℕ → List ℕ → List ℕ
without x [] = []
without x (y ∷ ys) = if x == y then ys else y ∷ without x ys

-- so many rows behind one, each told by the one before it
abbrev pub chain : ℕ → ℕ → List ℕ → List ℕ
chain zero x older = []
chain (suc n) x older = at older x ∷ chain n (at older x) older

-- from one row over these to another each is told by the one before it, and tells it
abbrev pub IsPath : List ℕ → List ℕ → ℕ → List ℕ → ℕ → Type 0
IsPath older newer x [] y = (at older x ≡ y) × (at newer y ≡ x)
IsPath older newer x (z ∷ zs) y = (at older x ≡ z) × (at newer z ≡ x) × IsPath older newer z zs y

-- a ring over so many rows, which goes through each once, and begins and ends at row 0
pub record IsLoop (size : ℕ) (older newer : List ℕ) : Type 0 where
  pub some : 0 < size
  pub olders : length older ≡ size
  pub newers : length newer ≡ size
  pub path : IsPath older newer 0 (chain (size - 1) 0 older) 0
  pub apart : (x : ℕ) → count x (0 ∷ chain (size - 1) 0 older) ≤ 1
  pub inside : (x : ℕ) → 0 < count x (0 ∷ chain (size - 1) 0 older) → x < size

-- the rows of the ring, without row 0
abbrev pub loop_of : List Row → List ℕ
loop_of rows = chain (length rows - 1) 0 (olders rows)

abbrev pub IsRing : List Row → Type 0
IsRing rows = IsLoop (length rows) (olders rows) (newers rows)

-- a list of numbers in order moves up by one from an index on, and another stands there
abbrev pub opened : ℕ → ℕ → ℕ → List ℕ → List ℕ
opened index len x xs = take index xs ++ x ∷ take (len - index) (drop index xs) ++ drop (suc len) xs

-- the runs of rows, seen from a base
abbrev pub lowered : ℕ → Entry → Entry
lowered base run = span (run.from - base) (run.to - base)

abbrev pub run_in : ℕ → List Entry → ℕ → Entry
run_in base runs id = lowered base (slice_index_or runs id (span 0 0))

-- the runs of some rows
abbrev pub runs_at : ℕ → List Entry → List ℕ → List Entry
runs_at base runs ids = map (run_in base runs) ids

-- ---- the table

-- the runs, the newest first
abbrev pub newest : ℕ → ℕ → List Row → List Entry
newest base len rows = runs_at base (spans rows) (take len (loop_of rows))

-- the runs by place
abbrev pub placed : ℕ → ℕ → List Row → List Entry
placed base len rows = runs_at base (spans rows) (take len (orders rows))

abbrev pub run_at : List Entry → ℕ → Entry
run_at runs i = slice_index_or runs i (span 0 0)

-- none of the runs is empty, and each begins after a place, and after the end of the one before it
abbrev pub Rising : ℕ → List Entry → Type 0
Rising low [] = Unit {0}
Rising low (run ∷ rest) = (low < run.from) × (run.from < run.to) × Rising run.to rest

-- the greatest base
abbrev pub greatest_base : ℕ
greatest_base = 2147483648

-- the first rows of the ring are those of the order, and their runs rise
pub record IsTable (base len : ℕ) (rows : List Row) : Type 0 where
  pub some : len < length rows
  pub most : length rows ≤ most_rows
  pub ring : IsRing rows
  pub same : (x : ℕ) → count x (take len (orders rows)) ≡ count x (take len (loop_of rows))
  pub rising : Rising 0 (placed base len rows)
  pub low : base ≤ greatest_base

-- The runs from one index on and before another overlap or touch a piece. Those before it end before it, and those behind
-- begin behind it.
pub record AreTouched (runs : List Entry) (piece : Entry) (first past : ℕ) : Type 0 where
  pub ordered : first ≤ past
  pub within : past ≤ length runs
  pub before : (k : ℕ) → k < first → (run_at runs k).to < piece.from
  pub inside : (k : ℕ) → first ≤ k → k < past → (piece.from ≤ (run_at runs k).to) × ((run_at runs k).from ≤ piece.to)
  pub behind : (k : ℕ) → past ≤ k → k < length runs → piece.to < (run_at runs k).from

-- a list without these numbers, one after another
abbrev pub minus : List ℕ → List ℕ → List ℕ
minus [] ids = ids
minus (x ∷ xs) ids = minus xs (without x ids)

-- a ring whose rows of these numbers are moved behind all others, one after another
abbrev pub freed : List ℕ → List ℕ → List ℕ
freed [] ids = ids
freed (x ∷ xs) ids = freed xs (without x ids ++ x ∷ [])
