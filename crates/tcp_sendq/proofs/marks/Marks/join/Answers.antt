use Rattle.std.proofs.Common.{◌≡◌}
use Rattle.std.specs.Prelude.{min, max}
use Rattle.tcp_sendq.proofs.Merges.{joined-together}
use Rattle.tcp_sendq.proofs.marks.Marks.join.Goals as goal

pub returns-clause-items : goal.returns-clause-items
returns-clause-items g c =
    let first = c.index.result.now in
    let last = c.index-2.result.now in
    let whole = joined-together c.args.from c.args.to c.args.place c.args.past c.args.self.now.table.items first last c.requires.ordered c.requires.in_order c.requires.first c.requires.behind c.requires.some c.index.ensures c.index-2.ensures in
    let start : c.min.result ≡ min c.args.from first.start = c.min.ensures in
    let end : c.max.result ≡ max c.args.to last.end = c.max.ensures in
    cc (c.replace.ensures.items, whole)
