use Rattle.tcp_judge.specs.Run.{number_before}
use Rattle.tcp_judge.proofs.Numbers.{come-at}
use Rattle.tcp_judge.proofs.lookup.find_in.Goals as goal

pub returns-then-count-gt0-clause-came : goal.returns-then-count-gt0-clause-came
returns-then-count-gt0-clause-came c j less =
    come-at c.args.spans.now c.loop-i.i (number_before c.args.wanted.0 j) (record { 0 = 0 }, 0) c.loop-i-test.true (c.count_in-count.ensures.came j less)
