use Rattle.tcp_reasm.specs.Rows.{newest}
use Rattle.std.proofs.Common.{ap, arith, length}
use Rattle.std.proofs.lemmas.List.{length-map}
use Rattle.tcp_reasm.specs.Reassembly.{Inbox, runs}
use Rattle.tcp_reasm.specs.Store.{run_of}
use Rattle.tcp_reasm.proofs.Views.{count_view}
use Rattle.tcp_reasm.proofs.reassembly.Reassembly.held_runs.Goals as goal

pub returns : goal.returns
returns g c =
    let counted = count_view c.self.inside.ring.bytes c.self.inside.unread (newest c.self.inside.table.base c.self.inside.table.len c.self.inside.table.rows.items) c.self.invariant.0.inside c.self.invariant.0.away in
    omega (arith, ap (λ (q : Inbox). length (runs q.held)) c.self.view_is, counted, length-map (newest c.self.inside.table.base c.self.inside.table.len c.self.inside.table.rows.items) run_of, c.len.ensures.value)
