use Rattle.std.proofs.Common.{arith, rules, sym, subst}
use Rattle.std.proofs.lemmas.List.Elements.{AllWithin-more_set, All-same}
use Rattle.tcp_judge.specs.Run.{IsRun}
use Rattle.tcp_judge.proofs.Joining.{part-run, behind-set, behind-one, all-front}
use Rattle.tcp_judge.proofs.run_list.cut.Goals as goal
use Rattle.tcp_judge.proofs.run_list.cut.Goals.{then-run-gt0, else-run-gt0}

pub loop-i-preserved : goal.loop-i-preserved
loop-i-preserved g c =
    let xs = c.loop-i.runs.items in
    let now = c.loop-i.invariant in
    let last = c.args.last.0 in
    let a = c.args.acked_number.0 in
    let v = c.ahead_of-run.result in
    elim c.if-run-gt0.branch [
      | then-run-gt0 w ↦ rw (w.runs-is, w.kept-is) (record {
        before = omega (arith, now.before);
        long = search rules;
        left = λ spans h. behind-set (IsRun last spans) xs c.loop-i.kept c.loop-i.i _ v now.before (now.left spans h);
        done = λ spans h.
            let was = subst (IsRun last spans) (sym c.index.ensures) (now.left spans h c.loop-i.i c.index.result.now (omega arith) (omega arith)) in
            AllWithin-more_set xs c.loop-i.kept v (omega arith) (IsRun a spans) (now.done spans h)
            (part-run last a spans c.index.result.now v (omega arith) c.ahead_of-run.ensures.near c.ahead_of-run.ensures.part was);
      })
      | else-run-gt0 w ↦ rw (w.runs-is, w.kept-is) (record {
        before = omega (arith, now.before);
        long = now.long;
        left = λ spans h. behind-one (IsRun last spans) xs c.loop-i.i _ (now.left spans h);
        done = now.done;
      })
    ]

pub returns : goal.returns
returns g c spans h =
    let Q = IsRun c.args.acked_number.0 spans in
    All-same Q _ _ c.truncate.ensures.items (all-front Q c.loop-i.runs.items c.loop-i.kept (omega arith) (c.loop-i.invariant.done spans h))
