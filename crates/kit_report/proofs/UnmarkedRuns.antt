-- The unmarked runs of a queue, the first of those that are left and the others.
use Rattle.std.proofs.Common.{◌≡◌, ℕ, zero, suc, ◌-◌, ◌<◌, ◌∷◌, ◌++◌, Bool, true, false, Some, None, ap, refl, ◌∙◌, arith}
use Rattle.std.specs.Prelude.{Option, List, []}
use Rattle.std.specs.Option.{option_map_or}
use Rattle.tcp_sendq.specs.SendQueue.{Queue, next_unmarked}
use Rattle.kit_report.specs.Runs.{run_text, runs_text}
use Rattle.kit_report.specs.Steps.{unmarked_runs}

next_run : (left : ℕ) (q : Queue) (at : ℕ) (run : ℕ × ℕ) → 0 < left → next_unmarked q at ≡ Some run → unmarked_runs left q at ≡ run ∷ unmarked_runs (left - 1) q run.1
unfolding unmarked_runs
next_run zero q at run some is = absurd (omega (arith, some))
next_run (suc n) q at run some is =
    let e : suc n - 1 ≡ n = omega arith in
    rw e (ap (λ (m : Option (ℕ × ℕ)). option_map_or (λ run. run ∷ unmarked_runs n q run.1) m []) is)

-- what runs write, the first of them and the others
runs_text-cons : (is_first : Bool) (run : ℕ × ℕ) (runs : List (ℕ × ℕ)) → runs_text is_first (run ∷ runs) ≡ run_text is_first run ++ runs_text false runs
runs_text-cons true run runs = refl
runs_text-cons false run runs = refl

pub next_run_written : (is_first : Bool) (left : ℕ) (q : Queue) (at : ℕ) (run : ℕ × ℕ) → 0 < left → next_unmarked q at ≡ Some run
    → runs_text is_first (unmarked_runs left q at) ≡ run_text is_first run ++ runs_text false (unmarked_runs (left - 1) q run.1)
next_run_written is_first left q at run some is = ap (runs_text is_first) (next_run left q at run some is) ∙ runs_text-cons is_first run _

pub no_run_left : (is_first : Bool) (left : ℕ) (q : Queue) (at : ℕ) → 0 < left → next_unmarked q at ≡ None → runs_text is_first (unmarked_runs left q at) ≡ runs_text is_first []
unfolding unmarked_runs
no_run_left is_first zero q at some none = absurd (omega (arith, some))
no_run_left is_first (suc n) q at some none = ap (λ next. runs_text is_first (option_map_or (λ (run : ℕ × ℕ). run ∷ unmarked_runs n q run.1) next [])) none
