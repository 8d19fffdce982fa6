use Rattle.tcp_reasm.specs.Rows.{newest}
use Rattle.std.proofs.lemmas.Grind.{common_steps}
use Rattle.std.proofs.Common.{subst}
use Rattle.tcp_reasm.specs.Reassembly.{IsInbox}
use Rattle.tcp_reasm.proofs.Views.{kept_sound}
use Rattle.std.proofs.Common.{ap, arith, length}
use Rattle.tcp_reasm.specs.Reassembly.{Inbox}
use Rattle.tcp_reasm.proofs.Views.{length_held}
use Rattle.tcp_reasm.proofs.reassembly.Reassembly.window.Goals as goal

pub returns-clause-places : goal.returns-clause-places
returns-clause-places g c =
    omega (arith, ap (λ (q : Inbox). length q.held) c.self.view_is, length_held c.self.inside.ring.bytes c.self.inside.unread (newest c.self.inside.table.base c.self.inside.table.len c.self.inside.table.rows.items))

pub returns-clause-sound : goal.returns-clause-sound
returns-clause-sound g c =
    subst IsInbox c.self.view_is (kept_sound c.self.inside.ring.bytes c.self.inside.unread (newest c.self.inside.table.base c.self.inside.table.len c.self.inside.table.rows.items) c.self.invariant.0)

pub returns-clause-value : goal.returns-clause-value
returns-clause-value g c = grind (arith, common_steps)
