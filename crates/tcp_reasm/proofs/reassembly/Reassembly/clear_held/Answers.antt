use Rattle.tcp_reasm.specs.Rows.{newest}
use Rattle.tcp_reasm.proofs.Views.{kept_sound}
use Rattle.std.proofs.Common.{ap, sym, subst, arith, [], ◌∙◌}
use Rattle.tcp_reasm.specs.declared.table.Run.{Run as Entry}
use Rattle.std.proofs.Common.{List}
use Rattle.tcp_reasm.specs.Reassembly.{IsInbox, without_held}
use Rattle.tcp_reasm.specs.Store.{inbox_of}
use Rattle.tcp_reasm.proofs.Views.{bare_is_without}
use Rattle.tcp_reasm.proofs.reassembly.Reassembly.clear_held.Goals as goal

pub returns-clause-state : goal.returns-clause-state
returns-clause-state g c =
    ap (λ (table : List Entry). inbox_of c.self.inside.most_runs c.self.inside.ring.bytes c.self.inside.unread table) c.clear.ensures.none
    ∙ bare_is_without c.self.inside.ring.bytes c.self.inside.unread (newest c.self.inside.table.base c.self.inside.table.len c.self.inside.table.rows.items) c.self.invariant.0.fits
    ∙ ap without_held c.self.view_is

pub returns-clause-sound : goal.returns-clause-sound
returns-clause-sound g c =
    subst (λ (table : List Entry). IsInbox (inbox_of c.self.inside.most_runs c.self.inside.ring.bytes c.self.inside.unread table)) (sym c.clear.ensures.none)
    (kept_sound c.self.inside.ring.bytes c.self.inside.unread [] (record {
      some = c.self.invariant.0.some;
      most = c.self.invariant.0.most;
      fits = c.self.invariant.0.fits;
      inside = tt;
      away = tt;
      least_runs = c.self.invariant.0.least_runs;
      most_of_runs = c.self.invariant.0.most_of_runs;
      few = omega arith;
    }))
