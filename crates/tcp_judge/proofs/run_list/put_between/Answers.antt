use Rattle.std.proofs.lemmas.List.Elements.{All-set}
use Rattle.tcp_judge.specs.Run.{IsRun}
use Rattle.tcp_judge.proofs.run_list.put_between.Goals as goal

pub returns-then-to-from-gt1 : goal.returns-then-to-from-gt1
returns-then-to-from-gt1 g c last spans h all =
    c.remove_between.ensures last spans (All-set (IsRun last spans) c.args.runs.now.items c.args.from c.args.run h all)
