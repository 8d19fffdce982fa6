use Rattle.std.proofs.Common.{◌∙◌}
use Rattle.tcp_sendq.proofs.Merges.{replaced}
use Rattle.tcp_sendq.proofs.marks.Marks.replace.Goals as goal

pub returns-clause-items : goal.returns-clause-items
returns-clause-items g c = c.remove_range.ensures.items ∙ replaced c.args.self.now.table.items c.args.place c.args.past c.args.run c.requires.some c.requires.within
