use Rattle.std.proofs.Common.{arith, sym, ◌∙◌, rules}
use Rattle.std.proofs.lemmas.Grind.{common_steps}
use Rattle.kit_report.proofs.UnmarkedRuns.{next_run_written, no_run_left}
use Rattle.kit_report.proofs.states.push_unmarked.Goals as goal

pub loop-left-preserved : goal.loop-left-preserved
loop-left-preserved g c =
    let next = next_run_written c.loop-left.is_first c.loop-left.left c.args.end.now.sending.queue c.loop-left.at (c.in-Some.from, c.in-Some.to) (search rules) (sym c.next_unmarked.ensures.value ∙ c.in-Some.is) in
    grind (arith, common_steps, next)

pub returns-in_default : goal.returns-in_default
returns-in_default g c =
    let none = no_run_left c.loop-left.is_first c.loop-left.left c.args.end.now.sending.queue c.loop-left.at (search rules) (sym c.next_unmarked.ensures.value ∙ c.in_default.is) in
    grind (arith, common_steps, none)
