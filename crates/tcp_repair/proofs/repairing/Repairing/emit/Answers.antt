use Rattle.std.specs.Prelude.{option_map}
use Rattle.tcp_repair.proofs.Alone.{emitted_alone, sent_alone, written_alone}
use Rattle.tcp_repair.proofs.Heard.{none_there}
use Rattle.tcp_repair.proofs.repairing.Repairing.emit.Goals as goal

pub returns-then-is_none-clause-sent : goal.returns-then-is_none-clause-sent
returns-then-is_none-clause-sent g c =
    sent_alone g.C.Core.machine g.C.Deferring.insight g.C.Paced.smss_of g.W.Congestion.control g.C.Reporting.reports
    c.args.self.now c.self.inside.connection (option_map (λ b. b.value) c.self.inside.recovery) c.emit.result c.args.now c.args.window
    c.self.view_is (none_there (λ b. b.value) c.self.inside.recovery c.is_none.result c.is_none.ensures c.if-is_none.true) c.emit.ensures.sent

pub returns-then-is_none-clause-written : goal.returns-then-is_none-clause-written
returns-then-is_none-clause-written g c =
    written_alone g.C.Core.machine g.C.Deferring.insight g.C.Paced.smss_of g.W.Congestion.control g.C.Reporting.reports
    c.args.self.now c.self.inside.connection (option_map (λ b. b.value) c.self.inside.recovery) c.emit.new.out c.args.now c.args.window c.args.out.now
    c.self.view_is (none_there (λ b. b.value) c.self.inside.recovery c.is_none.result c.is_none.ensures c.if-is_none.true) c.emit.ensures.written

pub returns-then-is_none-clause-state : goal.returns-then-is_none-clause-state
returns-then-is_none-clause-state g c =
    emitted_alone g.C.Core.machine g.C.Deferring.insight g.C.Paced.smss_of g.W.Congestion.control g.C.Reporting.reports
    c.args.self.now c.self.inside.connection c.emit.new.self (option_map (λ b. b.value) c.self.inside.recovery) c.args.now c.args.window
    c.self.view_is (none_there (λ b. b.value) c.self.inside.recovery c.is_none.result c.is_none.ensures c.if-is_none.true) c.emit.ensures.state
