use Rattle.tcp_reasm.specs.Rows.{newest}
use Rattle.std.proofs.lemmas.Grind.{common_steps}
use Rattle.std.proofs.Common.{arith}
use Rattle.std.proofs.Common.{subst}
use Rattle.tcp_reasm.specs.Reassembly.{IsInbox}
use Rattle.tcp_reasm.proofs.Views.{kept_sound}
use Rattle.tcp_reasm.proofs.reassembly.Reassembly.capacity.Goals as goal

pub returns-clause-sound : goal.returns-clause-sound
returns-clause-sound g c =
    subst IsInbox c.self.view_is (kept_sound c.self.inside.ring.bytes c.self.inside.unread (newest c.self.inside.table.base c.self.inside.table.len c.self.inside.table.rows.items) c.self.invariant.0)

pub returns-clause-value : goal.returns-clause-value
returns-clause-value g c = grind (arith, common_steps)
