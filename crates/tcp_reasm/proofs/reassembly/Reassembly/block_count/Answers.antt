use Rattle.tcp_reasm.specs.Rows.{newest}
use Rattle.std.proofs.Common.{◌≤◌, ◌∙◌, sym, ap, length, take, length-take-le, arith}
use Rattle.std.proofs.lemmas.List.{length-map}
use Rattle.tcp_reasm.specs.Reassembly.{blocks}
use Rattle.tcp_reasm.specs.Store.{run_of, runs_in}
use Rattle.tcp_reasm.proofs.Views.{edges_of, blocks_are}
use Rattle.tcp_reasm.proofs.reassembly.Reassembly.block_count.Goals as goal

pub returns-clause-value : goal.returns-clause-value
returns-clause-value g c =
    let table = (newest c.self.inside.table.base c.self.inside.table.len c.self.inside.table.rows.items) in
    let count = c.min.result in
    let few : count ≤ length table = omega (arith, c.min.ensures, c.len.ensures.value) in
    let are = blocks_are c.self.inside.most_runs c.self.inside.ring.bytes c.self.inside.unread count table (omega (arith, c.min.ensures, c.len.ensures.value)) c.self.invariant.0.inside c.self.invariant.0.away in
    sym (length-take-le count table few)
    ∙ sym (length-map (take count table) run_of)
    ∙ sym (length-map (runs_in (take count table)) edges_of)
    ∙ ap length (are ∙ ap blocks c.self.view_is)
