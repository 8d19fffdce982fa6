use Rattle.tcp_reasm.specs.Rows.{newest}
use Rattle.std.proofs.Common.{subst}
use Rattle.tcp_reasm.specs.Reassembly.{IsInbox}
use Rattle.tcp_reasm.proofs.Views.{kept_sound}
use Rattle.std.proofs.Common.{ap, arith, ◌∙◌, sym, length}
use Rattle.std.specs.Prelude.{min}
use Rattle.tcp_reasm.proofs.Tables.{length_newest}
use Rattle.std.proofs.lemmas.List.{length-map}
use Rattle.tcp_reasm.specs.Laws.{cell_at}
use Rattle.tcp_reasm.specs.Reassembly.{Inbox, blocks, runs, max_blocks}
use Rattle.tcp_reasm.specs.Store.{run_of}
use Rattle.tcp_reasm.proofs.Views.{blocks_are, count_view, missing_view}
use Rattle.tcp_reasm.proofs.reassembly.Reassembly.blocks.Goals as goal

pub returns-clause-value : goal.returns-clause-value
returns-clause-value g c =
    let size = length_newest c.self.inside.table.base c.self.inside.table.len c.self.inside.table.rows.items c.self.invariant.3.some in
    c.edges.ensures
    ∙ blocks_are c.self.inside.most_runs c.self.inside.ring.bytes c.self.inside.unread (min max_blocks c.self.inside.table.len) (newest c.self.inside.table.base c.self.inside.table.len c.self.inside.table.rows.items) (omega (arith, size)) c.self.invariant.0.inside c.self.invariant.0.away
    ∙ ap blocks c.self.view_is

pub returns-clause-few : goal.returns-clause-few
returns-clause-few g c =
    let counted = count_view c.self.inside.ring.bytes c.self.inside.unread (newest c.self.inside.table.base c.self.inside.table.len c.self.inside.table.rows.items) c.self.invariant.0.inside c.self.invariant.0.away in
    omega (arith, ap (λ (q : Inbox). length (runs q.held)) c.self.view_is, counted, length-map (newest c.self.inside.table.base c.self.inside.table.len c.self.inside.table.rows.items) run_of, ap (λ (q : Inbox). q.most_runs) c.self.view_is, c.self.invariant.0.few)

pub returns-clause-missing : goal.returns-clause-missing
returns-clause-missing g c =
    sym (ap (λ (q : Inbox). cell_at q.held 0) c.self.view_is)
    ∙ missing_view c.self.inside.ring.bytes c.self.inside.unread (newest c.self.inside.table.base c.self.inside.table.len c.self.inside.table.rows.items) c.self.invariant.0.inside

pub returns-clause-sound : goal.returns-clause-sound
returns-clause-sound g c =
    subst IsInbox c.self.view_is (kept_sound c.self.inside.ring.bytes c.self.inside.unread (newest c.self.inside.table.base c.self.inside.table.len c.self.inside.table.rows.items) c.self.invariant.0)
