use Rattle.std.proofs.Common.{false}
use Rattle.std.specs.Prelude.{option_map}
use Rattle.tcp_repair.proofs.Heard.{arrived_alone, none_there}
use Rattle.tcp_repair.proofs.repairing.Repairing.arrive.Goals as goal

pub returns-then-is_none-clause-state : goal.returns-then-is_none-clause-state
returns-then-is_none-clause-state g c =
    arrived_alone g.C.Core.machine g.C.Deferring.insight g.C.Paced.smss_of g.W.Congestion.control g.C.Reporting.reports
    c.args.self.now c.self.inside.connection c.arrive.new.self (option_map (λ b. b.value) c.self.inside.recovery)
    c.args.now c.args.src c.args.dst c.args.bytes.now false
    c.self.view_is (none_there (λ b. b.value) c.self.inside.recovery c.is_none.result c.is_none.ensures c.if-is_none.true) c.arrive.ensures.state
