use Rattle.std.specs.Prelude.{option_map}
use Rattle.tcp_repair.proofs.Resting.{recovery_rests, still_ready}
use Rattle.tcp_repair.proofs.repairing.Repairing.emit_repairing.Goals as goal

pub returns-in_default-clause-rests : goal.returns-in_default-clause-rests
returns-in_default-clause-rests g c =
    λ none. (
      c.emit-sent.ensures.rests none,
      recovery_rests g.C.Core.machine g.C.Paced.smss_of g.C.Reporting.reports c.emit-sent.new.self (option_map (λ b. b.value) c.self.inside.recovery) c.args.now
          c.deadlines_are_losses.ensures
          (still_ready c.make_ready.new.self c.self.inside.connection (option_map (λ b. b.value) c.self.inside.recovery) c.args.now c.self.view_is
          c.make_ready.ensures.rests),
    )
