use Rattle.std.proofs.lemmas.List.Sorted.{All-permutation}
use Rattle.tcp_judge.specs.Run.{IsRun}
use Rattle.tcp_judge.proofs.run_list.order.Goals as goal

pub returns : goal.returns
returns g c last spans h =
    c.join_all.ensures last spans (All-permutation (IsRun last spans) _ _ c.sort_unstable_by_key.ensures.permutation h)
