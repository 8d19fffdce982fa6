use Rattle.std.proofs.Common.{sym}
use Rattle.tcp_reasm.proofs.Tables.{length_newest, length_placed}
use Rattle.tcp_reasm.proofs.table.Table.len.Goals as goal

pub returns-clause-value : goal.returns-clause-value
returns-clause-value g c = sym (length_newest c.args.self.now.base c.args.self.now.len c.args.self.now.rows.items c.requires.some)

pub returns-clause-places : goal.returns-clause-places
returns-clause-places g c = sym (length_placed c.args.self.now.base c.args.self.now.len c.args.self.now.rows.items c.requires.some)
