use Rattle.std.proofs.Common.{◌≡◌, ℕ, ◌-◌, List, length, take, drop, subst, arith, length-drop, take_all}
use Rattle.std.specs.Prelude.{true, false}
use Rattle.tcp_numbers.specs.declared.seq.Seq.{Seq}
use Rattle.tcp_judge.specs.Heard.{has_come}
use Rattle.tcp_judge.specs.Run.{number_before}
use Rattle.tcp_judge.proofs.Numbers.{come-behind, come-before, come-neither}
use Rattle.tcp_judge.proofs.lookup.find_from.Goals as goal

-- the rest of a slice is all behind an index
rest : (spans : List (Seq × ℕ)) (at : ℕ) → take (length spans - at) (drop at spans) ≡ drop at spans
rest spans at = take_all (length spans - at) (drop at spans) (omega (arith, length-drop at spans))

pub returns-then-count-gt0-clause-came : goal.returns-then-count-gt0-clause-came
returns-then-count-gt0-clause-came c j less =
    let n = number_before c.args.wanted.0 j in
    come-behind c.args.spans.now c.args.at n
    (subst (λ (xs : List (Seq × ℕ)). has_come xs n ≡ true) (rest c.args.spans.now c.args.at) (c.find_in-place.ensures.came j less))

pub returns-clause-came : goal.returns-clause-came
returns-clause-came c j less = come-before c.args.spans.now c.args.at (number_before c.args.wanted.0 j) (c.find_in.ensures.came j less)

pub returns-clause-none : goal.returns-clause-none
returns-clause-none c none =
    let n = c.args.wanted.0 in
    come-neither c.args.spans.now c.args.at n
    (subst (λ (xs : List (Seq × ℕ)). has_come xs n ≡ false) (rest c.args.spans.now c.args.at)
    (c.find_in-place.ensures.none (omega (arith, c.if-count-gt0.false))))
    (c.find_in.ensures.none none)
