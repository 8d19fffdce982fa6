use Rattle.std.proofs.Common.{arith, rules, sym, subst}
use Rattle.std.proofs.lemmas.List.Elements.{All-get_or, All-set, All-same, All-take}
use Rattle.tcp_judge.specs.Run.{IsRun}
use Rattle.tcp_judge.proofs.run_list.remove_between.Goals as goal

pub loop-i-preserved : goal.loop-i-preserved
loop-i-preserved g c =
    let xs = c.loop-i.runs.items in
    let now = c.loop-i.invariant in
    record {
      before = omega (arith, now.before);
      long = search rules;
      kept = λ last spans h.
          let all = now.kept last spans h in
          All-set (IsRun last spans) xs c.loop-i.at c.index.result.now
          (subst (IsRun last spans) (sym c.index.ensures) (All-get_or (IsRun last spans) xs c.loop-i.i c.index.result.now (omega arith) all)) all;
    }

pub returns : goal.returns
returns g c last spans h =
    All-same (IsRun last spans) _ _ c.truncate.ensures.items (All-take (IsRun last spans) c.loop-i.at c.loop-i.runs.items (c.loop-i.invariant.kept last spans h))
