use Rattle.std.proofs.Common.{◌≡◌, ◌-◌, ◌<◌, ℕ, List, ap, length, arith}
use Rattle.std.proofs.lemmas.Grind.{common_steps}
use Rattle.std.proofs.lemmas.List.{take_rest}
use Rattle.tcp_numbers.specs.Checksum.{word_sum}
use Rattle.tcp_numbers.proofs.WordSums.{word_sum_joined_even, word_sum_joined_none, word_sum_joined_odd}
use Rattle.tcp_numbers.proofs.parts.joined_sum.Goals as goal
use Rattle.tcp_numbers.proofs.parts.joined_sum.Goals.{then-first-eq0-via-then-first-eq0, then-first-eq0-via-else-first-eq0+then-is_empty}

pub returns-then-first-eq0-clause-exact : goal.returns-then-first-eq0-clause-exact
returns-then-first-eq0-clause-exact c =
    elim c.then-first-eq0.branch [
      | then-first-eq0-via-then-first-eq0 w ↦
          omega (arith, word_sum_joined_even c.args.first.now c.args.second.now w.if-first-eq0.true, c.word_sum.ensures.exact, c.word_sum-then-first-eq0.ensures.exact)
      | then-first-eq0-via-else-first-eq0+then-is_empty w ↦
          (let none : length c.args.second.now ≡ 0 = grind (arith, common_steps, w.is_empty.ensures, w.if-is_empty.true) in
          omega (arith, word_sum_joined_none c.args.first.now c.args.second.now none, c.word_sum.ensures.exact, c.word_sum-then-first-eq0.ensures.exact))
    ]

pub returns-clause-exact : goal.returns-clause-exact
returns-clause-exact c =
    let first : List ℕ = c.args.first.now in
    let second : List ℕ = c.args.second.now in
    let some : 0 < length second = grind (arith, common_steps, c.is_empty.ensures, c.if-is_empty.false) in
    let odd = c.if-first-eq0.false in
    let whole = word_sum_joined_odd first second (length first - 1) (omega (arith, odd)) (omega (arith, odd)) some in
    omega (arith, whole, c.word_sum-2.ensures.exact, c.word_sum-3.ensures.exact, ap word_sum (take_rest second 1), c.from.ensures, c.from-2.ensures)
