use Rattle.std.proofs.Common.{arith}
use Rattle.tcp_judge.proofs.Numbers.{begins-within}
use Rattle.tcp_judge.proofs.heard.count_back.Goals as goal

pub returns-then-not-is_empty-clause-syns : goal.returns-then-not-is_empty-clause-syns
returns-then-not-is_empty-clause-syns g c =
    begins-within c.args.spans.now c.args.syns.now c.args.acked_number.0 c.count_before.result
    (λ from small. c.count_before.ensures from small (omega arith))
