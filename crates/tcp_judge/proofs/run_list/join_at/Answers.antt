use Rattle.std.proofs.Common.{◌-◌, arith, sym, subst}
use Rattle.std.proofs.lemmas.List.Elements.{All-get_or, All-set}
use Rattle.tcp_judge.specs.Run.{IsRun}
use Rattle.tcp_judge.proofs.run_list.join_at.Goals as goal

pub returns-then-touches-clause-runs : goal.returns-then-touches-clause-runs
returns-then-touches-clause-runs g c last spans h =
    let xs = c.args.runs.now.items in
    let P = IsRun last spans in
    All-set P xs (c.args.kept - 1) c.joined.result
    (c.joined.ensures last spans
    (subst P (sym c.index-before.ensures) (All-get_or P xs (c.args.kept - 1) c.index-before.result.now (omega arith) h))
    (subst P (sym c.index-run.ensures) (All-get_or P xs c.args.i c.index-run.result.now (omega arith) h))) h

pub returns-clause-runs : goal.returns-clause-runs
returns-clause-runs g c last spans h =
    let xs = c.args.runs.now.items in
    let P = IsRun last spans in
    All-set P xs c.args.kept c.index-run.result.now
    (subst P (sym c.index-run.ensures) (All-get_or P xs c.args.i c.index-run.result.now (omega arith) h)) h
