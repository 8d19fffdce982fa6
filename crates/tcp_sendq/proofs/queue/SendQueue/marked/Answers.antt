use Rattle.std.proofs.Common.{◌≡◌, length, sym, ap, ◌∙◌, arith}
use Rattle.tcp_sendq.specs.SendQueue.{count_marked}
use Rattle.tcp_sendq.specs.Marks.{lowered}
use Rattle.tcp_sendq.proofs.Counts.{count_marked-marks_of, total-within}
use Rattle.tcp_sendq.proofs.queue.SendQueue.marked.Goals as goal

pub count_from-requires : goal.count_from-requires
count_from-requires g c =
    omega (arith, total-within 0 (length c.self.inside.bytes.items) (lowered c.self.inside.base c.self.inside.marks.table.items) (omega arith) c.self.invariant.0.in_order, c.self.invariant.0.sound.within, c.self.invariant.0.sound.most)

pub returns-clause-value : goal.returns-clause-value
returns-clause-value g c =
    c.count_from.ensures
    ∙ (sym (count_marked-marks_of (lowered c.self.inside.base c.self.inside.marks.table.items) (length c.self.inside.bytes.items) c.self.invariant.0.in_order)
    ∙ ap (λ q. count_marked q.marks) c.self.view_is)

pub returns-clause-within : goal.returns-clause-within
returns-clause-within g c =
    let table = lowered c.self.inside.base c.self.inside.marks.table.items in
    let same : length c.self.inside.bytes.items ≡ length c.args.self.now.bytes = ap (λ q. length q.bytes) c.self.view_is in
    omega (arith, c.count_from.ensures, total-within 0 (length c.self.inside.bytes.items) table (omega arith) c.self.invariant.0.in_order, same)
