use Rattle.std.proofs.Common.{arith}
use Rattle.std.proofs.lemmas.Grind.{common_steps}
use Rattle.kit_report.proofs.SentLines.{next_line, no_line_left}
use Rattle.kit_report.proofs.sent.push_sent_lines.Goals as goal

pub loop-k-preserved : goal.loop-k-preserved
loop-k-preserved g c =
    let next = next_line c.args.world.now c.args.side c.loop-k.k (grind (arith, c.loop-k-test.true)) in
    grind (arith, common_steps, next)

pub returns : goal.returns
returns g c =
    let none = no_line_left c.args.world.now c.args.side c.loop-k.k (grind (arith, c.loop-k-test.false)) in
    grind (arith, common_steps, none)
