use Rattle.std.specs.Prelude.{length, option_map}
use Rattle.tcp_repair.proofs.Alone.{train_alone, train_emitted_alone, train_written_alone}
use Rattle.tcp_repair.proofs.Heard.{none_there}
use Rattle.tcp_repair.proofs.repairing.Repairing.emit_train.Goals as goal

pub returns-then-is_none-clause-train : goal.returns-then-is_none-clause-train
returns-then-is_none-clause-train g c =
    train_alone g.C.Core.machine g.C.Deferring.insight g.C.Paced.smss_of g.C.Core.train_answer g.W.Congestion.control g.C.Reporting.reports
    c.args.self.now c.self.inside.connection (option_map (λ b. b.value) c.self.inside.recovery) c.emit_train.result c.args.now c.args.window c.args.most (length c.args.out.now)
    c.self.view_is (none_there (λ b. b.value) c.self.inside.recovery c.is_none.result c.is_none.ensures c.if-is_none.true) c.emit_train.ensures.train

pub returns-then-is_none-clause-written : goal.returns-then-is_none-clause-written
returns-then-is_none-clause-written g c =
    train_written_alone g.C.Core.machine g.C.Deferring.insight g.C.Paced.smss_of g.W.Congestion.control g.C.Reporting.reports
    c.args.self.now c.self.inside.connection (option_map (λ b. b.value) c.self.inside.recovery) c.emit_train.new.out c.args.now c.args.window c.args.most c.args.out.now
    c.self.view_is (none_there (λ b. b.value) c.self.inside.recovery c.is_none.result c.is_none.ensures c.if-is_none.true) c.emit_train.ensures.written

pub returns-then-is_none-clause-state : goal.returns-then-is_none-clause-state
returns-then-is_none-clause-state g c =
    train_emitted_alone g.C.Core.machine g.C.Deferring.insight g.C.Paced.smss_of g.C.Core.train_answer g.C.Reporting.start_of g.C.Paced.numbers_of g.W.Congestion.control g.C.Reporting.reports
    c.args.self.now c.self.inside.connection c.emit_train.new.self (option_map (λ b. b.value) c.self.inside.recovery) c.args.now c.args.window c.args.most (length c.args.out.now)
    c.self.view_is (none_there (λ b. b.value) c.self.inside.recovery c.is_none.result c.is_none.ensures c.if-is_none.true) c.emit_train.ensures.state
