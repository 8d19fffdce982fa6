use Rattle.std.proofs.Common.{arith}
use Rattle.tcp_judge.proofs.Joining.{kept-left}
use Rattle.tcp_judge.proofs.spans.Spans.forget.Goals as goal

pub invariant_of-self : goal.invariant_of-self
invariant_of-self g c =
    let spans = c.self.inside.list.items in
    kept-left c.args.acked_number.0 _ spans _ _ _ (omega arith) c.remove_passed.ensures (omega arith) c.clear.ensures.items (c.cut.ensures spans (c.clear_if.ensures _ _ c.self.invariant.2))
