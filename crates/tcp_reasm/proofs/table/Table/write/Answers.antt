use Rattle.std.proofs.Common.{ap}
use Rattle.std.proofs.lemmas.List.{map-set}
use Rattle.std.proofs.Math.Seq.{map-set_same}
use Rattle.tcp_reasm.specs.declared.rows.Row.{Row}
use Rattle.tcp_reasm.specs.Rows.{span_of}
use Rattle.tcp_reasm.proofs.table.Table.write.Goals as goal

pub returns-clause-spans : goal.returns-clause-spans
returns-clause-spans g c = map-set span_of _ _ _

pub returns-clause-olders : goal.returns-clause-olders
returns-clause-olders g c = map-set_same (λ (row : Row). row.older) _ _ _ c.index-row.result.now (ap (λ (row : Row). row.older) c.index-row.ensures)

pub returns-clause-newers : goal.returns-clause-newers
returns-clause-newers g c = map-set_same (λ (row : Row). row.newer) _ _ _ c.index-row.result.now (ap (λ (row : Row). row.newer) c.index-row.ensures)

pub returns-clause-orders : goal.returns-clause-orders
returns-clause-orders g c = map-set_same (λ (row : Row). row.order) _ _ _ c.index-row.result.now (ap (λ (row : Row). row.order) c.index-row.ensures)
