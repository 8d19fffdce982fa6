use Rattle.std.proofs.Common.{ap, arith, ◌∙◌}
use Rattle.tcp_reasm.specs.declared.rows.Row.{Row}
use Rattle.tcp_reasm.proofs.Fields.{found, order_at}
use Rattle.tcp_reasm.proofs.Tables.{row_below}
use Rattle.tcp_reasm.proofs.table.Table.row_at.Goals as goal

pub returns-clause-below : goal.returns-clause-below
returns-clause-below g c =
    omega (
      arith,
      ap (λ (row : Row). row.order) (found c.args.self.now.rows.items c.args.index c.index.result.now (omega (arith, c.requires.within, c.requires.table.some)) c.index.ensures) ∙ order_at c.args.self.now.rows.items c.args.index,
      row_below c.args.self.now.base c.args.self.now.len c.args.index c.args.self.now.rows.items c.requires.table c.requires.within,
    )
