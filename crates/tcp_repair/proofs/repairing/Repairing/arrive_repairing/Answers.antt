use Rattle.std.proofs.Common.{false}
use Rattle.std.specs.Prelude.{option_map}
use Rattle.tcp_repair.proofs.Heard.{arrived}
use Rattle.tcp_repair.proofs.repairing.Repairing.arrive_repairing.Goals as goal

pub returns-clause-state : goal.returns-clause-state
returns-clause-state g c =
    arrived g.C.Core.machine g.C.Deferring.insight g.C.Paced.smss_of g.W.Congestion.control g.C.Reporting.reports g.C.Core.arrival_answer
    c.args.self.now c.hear_of.new.self c.self.inside.connection c.arrive-taken.new.self (option_map (λ b. b.value) c.self.inside.recovery)
    c.before-before.result c.arrive-taken.result c.args.now c.args.src c.args.dst c.args.bytes.now false
    c.self.view_is c.before-before.ensures c.arrive-taken.ensures.state c.arrive-taken.ensures.answer c.hear_of.ensures
