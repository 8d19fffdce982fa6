use Rattle.std.proofs.Common.{arith, rules}
use Rattle.std.proofs.lemmas.List.Elements.{All-same, All-take}
use Rattle.tcp_judge.specs.Run.{IsRun}
use Rattle.tcp_judge.proofs.run_list.join_all.Goals as goal

pub loop-i-preserved : goal.loop-i-preserved
loop-i-preserved g c = record {
  before = omega (arith, c.loop-i.invariant.before, c.join_at-kept.ensures.kept);
  long = search rules;
  kept = λ last spans h. c.join_at-kept.ensures.runs last spans (c.loop-i.invariant.kept last spans h);
}

pub returns : goal.returns
returns g c last spans h =
    All-same (IsRun last spans) _ _ c.truncate.ensures.items (All-take (IsRun last spans) c.loop-i.kept c.loop-i.runs.items (c.loop-i.invariant.kept last spans h))
