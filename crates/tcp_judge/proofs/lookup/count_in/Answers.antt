use Rattle.std.proofs.Common.{arith}
use Rattle.std.proofs.lemmas.Bool.{le-ltb}
use Rattle.tcp_wire.specs.Position.{distance}
use Rattle.tcp_judge.proofs.Numbers.{covers-before}
use Rattle.tcp_judge.proofs.lookup.count_in.Goals as goal

pub returns-then-before-span-clause-came : goal.returns-then-before-span-clause-came
returns-then-before-span-clause-came c j less = covers-before c.args.span c.args.wanted.0 j (omega arith) (omega arith) (omega arith) (omega (arith, less))

pub returns-else-before-span-clause-none : goal.returns-else-before-span-clause-none
returns-else-before-span-clause-none c none = le-ltb (distance c.args.span.0.0 c.args.wanted.0) c.args.span.1 (omega (arith, none))
