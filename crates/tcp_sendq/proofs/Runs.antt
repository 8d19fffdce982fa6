-- Lemmas on runs of marked bytes.
use Rattle.std.proofs.Common.{◌≡◌, ℕ, zero, suc, ◌+◌, ◌<◌, ◌≤◌, Bool, true, false, not, ◌&&◌, if◌then◌else◌, List, [], ◌∷◌, ◌++◌, length, drop, replicate, get_or, count_by, refl, sym, ap, ◌∙◌, arith, add-one}
use Rattle.std.specs.List.{range_with_len}
use Rattle.std.proofs.lemmas.List.{get_or-drop, drop-drop}
use Rattle.std.proofs.lemmas.List.Sums.{sum_by-cons}
use Rattle.tcp_sendq.specs.SendQueue.{count_runs, follows_mark, begins_run, runs_begun}

-- the last flag of a list, where `before` is the flag before it
abbrev pub flag_after : Bool → List Bool → Bool
flag_after before [] = before
flag_after before (marked ∷ marks) = flag_after marked marks

pub count_runs-append : (before : Bool) (front rest : List Bool) → count_runs before (front ++ rest) ≡ count_runs before front + count_runs (flag_after before front) rest
count_runs-append before [] rest = omega arith
count_runs-append before (marked ∷ front) rest = omega (arith, count_runs-append marked front rest)

-- unmarked bytes add no run
pub count_runs-unmarked : (before : Bool) (n : ℕ) → count_runs before (replicate n false) ≡ 0
count_runs-unmarked before zero = refl
count_runs-unmarked before (suc n) = omega (arith, count_runs-unmarked false n)

pub count_runs-marked : (n : ℕ) → count_runs true (replicate n true) ≡ 0
count_runs-marked zero = refl
count_runs-marked (suc n) = omega (arith, count_runs-marked n)

pub flag_after-marked : (before : Bool) (n : ℕ) → 0 < n → flag_after before (replicate n true) ≡ true
flag_after-marked before zero h = absurd (omega arith)
flag_after-marked before (suc zero) h = refl
flag_after-marked before (suc (suc n)) h = flag_after-marked true (suc n) (omega arith)

-- one more flag before a list adds a run at most, and takes none
pub count_runs-before : (marks : List Bool) → (count_runs true marks ≤ count_runs false marks) × (count_runs false marks ≤ count_runs true marks + 1)
count_runs-before [] = (omega arith, omega arith)
count_runs-before (true ∷ marks) = (omega arith, omega arith)
count_runs-before (false ∷ marks) = (omega arith, omega arith)

-- without its front a list has no more runs
pub count_runs-drop : (n : ℕ) (marks : List Bool) → count_runs false (drop n marks) ≤ count_runs false marks
count_runs-drop zero marks = omega arith
count_runs-drop (suc n) [] = omega arith
count_runs-drop (suc n) (true ∷ marks) = omega (arith, count_runs-drop n marks, count_runs-before marks)
count_runs-drop (suc n) (false ∷ marks) = omega (arith, count_runs-drop n marks)

pub count_runs-after_offer : (marks : List Bool) (n : ℕ) → count_runs false (marks ++ replicate n false) ≡ count_runs false marks
count_runs-after_offer marks n =
    omega (arith, count_runs-append false marks (replicate n false), count_runs-unmarked (flag_after false marks) n)

pub flag_after-append : (before : Bool) (front rest : List Bool) → flag_after before (front ++ rest) ≡ flag_after (flag_after before front) rest
flag_after-append before [] rest = refl
flag_after-append before (marked ∷ front) rest = flag_after-append marked front rest

-- a part that is marked is a run of its own, unless it continues one
pub count_runs-part : (before : Bool) (n : ℕ) → 0 < n → count_runs before (replicate n true) ≡ (if before then 0 else 1)
count_runs-part before zero h = absurd (omega arith)
count_runs-part true (suc n) h = count_runs-marked (suc n)
count_runs-part false (suc n) h = omega (arith, count_runs-marked n)

-- A list of flags from an offset on: its runs are the offsets of it that begin one.
runs_from : (marks rest : List Bool) (at : ℕ) → drop at marks ≡ rest → count_runs (follows_mark marks at) rest ≡ count_by (begins_run marks) (range_with_len at (length rest))
runs_from marks [] at e = refl
runs_from marks (marked ∷ rest) at e =
    let none : at ≡ at + 0 = omega arith in
    let here : get_or marks at false ≡ marked =
    ap (λ n. get_or marks n false) none ∙ (sym (get_or-drop at marks 0 false) ∙ ap (λ flags. get_or flags 0 false) e) in
    let beyond : drop (at + 1) marks ≡ rest = sym (drop-drop 1 at marks) ∙ ap (drop 1) e in
    let next : follows_mark marks (at + 1) ≡ marked = rw add-one here in
    let later : count_runs marked rest ≡ count_by (begins_run marks) (range_with_len (at + 1) (length rest)) =
    rw next at (runs_from marks rest (at + 1) beyond) in
    let begins : begins_run marks at ≡ (marked && not (follows_mark marks at)) =
    ap (λ flag. flag && not (follows_mark marks at)) here in
    ap (λ flag. (if flag then 1 else 0) + count_runs marked rest) (sym begins) ∙ ap (λ n. (if begins_run marks at then 1 else 0) + n) later
    ∙ sym (sum_by-cons (λ place. if begins_run marks place then 1 else 0) at (range_with_len (at + 1) (length rest)))

-- the runs counted one by one are the offsets that begin one
pub runs_begun_is : (marks : List Bool) → count_runs false marks ≡ runs_begun marks
runs_begun_is marks = runs_from marks marks 0 refl
