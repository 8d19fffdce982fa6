use Rattle.std.proofs.Common.{arith, sym, subst}
use Rattle.std.proofs.lemmas.List.Elements.{All-get_or}
use Rattle.tcp_judge.specs.Run.{IsRun}
use Rattle.tcp_judge.proofs.run_list.put.Goals as goal
use Rattle.tcp_judge.proofs.run_list.put.Goals.{then-at-gt0+then-touches, else-at-gt0}

pub loop-to-init : goal.loop-to-init
loop-to-init g c =
    let xs = c.args.runs.now.items in
    record {
      before = elim c.if-at-gt0.branch [ then-at-gt0+then-touches w ↦ omega (arith, w.from-is) | else-at-gt0 w ↦ omega (arith, w.from-is) ];
      inside = omega arith;
      whole = λ last spans h all.
          elim c.if-at-gt0.branch [
            | then-at-gt0+then-touches w ↦
                rw w.whole-is (w.joined-whole.ensures last spans
                (subst (IsRun last spans) (sym w.index-then-touches.ensures) (All-get_or (IsRun last spans) xs _ w.index-then-touches.result.now (omega arith) all)) h)
            | else-at-gt0 w ↦ rw w.whole-is h
          ];
    }

pub loop-to-preserved : goal.loop-to-preserved
loop-to-preserved g c =
    let xs = c.args.runs.now.items in
    let now = c.loop-to.invariant in
    record {
      before = omega (arith, now.before);
      inside = omega arith;
      whole = λ last spans h all. c.joined-whole-in-loop-to.ensures last spans (now.whole last spans h all)
          (subst (IsRun last spans) (sym c.index-in-loop-to-2.ensures) (All-get_or (IsRun last spans) xs c.loop-to.to c.index-in-loop-to-2.result.now (omega arith) all));
    }

pub returns : goal.returns
returns g c last spans h all = c.put_between.ensures last spans (c.loop-to.invariant.whole last spans h all) all
