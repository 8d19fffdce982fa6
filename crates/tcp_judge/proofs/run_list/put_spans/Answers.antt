use Rattle.std.proofs.Common.{arith}
use Rattle.std.proofs.lemmas.List.Elements.{All-same}
use Rattle.tcp_judge.specs.Run.{IsRun}
use Rattle.tcp_judge.proofs.Joining.{span-run}
use Rattle.tcp_judge.proofs.run_list.put_spans.Goals as goal
use Rattle.tcp_judge.proofs.run_list.put_spans.Goals.{then-run-gt0, else-run-gt0}

pub loop-at-preserved : goal.loop-at-preserved
loop-at-preserved g c h =
    let P = IsRun c.args.acked_number.0 c.args.spans.now in
    let run = span-run c.args.acked_number.0 c.args.spans.now c.loop-at.at (record { 0 = 0 }, 0) c.ahead_of-run.result (omega arith) (omega arith)
    c.ahead_of-run.ensures.near c.ahead_of-run.ensures.part in
    let same = All-same P _ _ c.reserve.ensures.items (c.loop-at.invariant h) in
    elim c.if-run-gt0.branch [
      | then-run-gt0 w ↦ rw w.runs-is (w.put.ensures c.args.acked_number.0 c.args.spans.now run same)
      | else-run-gt0 w ↦ rw w.runs-is same
    ]
