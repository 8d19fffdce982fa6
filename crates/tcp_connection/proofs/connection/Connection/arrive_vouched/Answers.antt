use Rattle.std.proofs.Common.{true}
use Rattle.tcp_connection.proofs.Reports.{arrived_heard, arrived_plainly}
use Rattle.tcp_connection.proofs.connection.Connection.arrive_vouched.Goals as goal

pub returns-then-not-self-clause-state : goal.returns-then-not-self-clause-state
returns-then-not-self-clause-state g c =
    arrived_plainly g.C.Core.machine g.C.Deferring.insight g.C.Paced.smss_of g.W.Congestion.control
    (record { flowing = c.self.inside.flow; policy = c.self.inside.policy; smss = c.self.inside.smss; ack = c.self.inside.ack; text = c.self.inside.text; limiter = c.self.inside.limiter; bare = c.self.inside.is_bare; edge = c.self.inside.edge })
    c.args.self.now c.self.inside.is_deferring c.arrive_vouched.new.self c.args.now c.args.src c.args.dst c.args.bytes.now true
    c.self.view_is c.self.invariant.any c.if-not-self.true c.arrive_vouched.ensures.state

pub returns-clause-state : goal.returns-clause-state
returns-clause-state g c =
    arrived_heard g.C.Core.machine g.C.Deferring.insight g.C.Paced.smss_of g.W.Congestion.control g.C.Core.arrival_answer
    (record { flowing = c.self.inside.flow; policy = c.self.inside.policy; smss = c.self.inside.smss; ack = c.self.inside.ack; text = c.self.inside.text; limiter = c.self.inside.limiter; bare = c.self.inside.is_bare; edge = c.self.inside.edge })
    c.args.self.now c.hear_of.new.self c.self.inside.is_deferring c.arrive_vouched-taken.new.self c.before-before.result c.arrive_vouched-taken.result
    c.args.now c.args.src c.args.dst c.args.bytes.now true
    c.self.view_is c.self.invariant.any c.if-not-self.false c.arrive_vouched-taken.ensures.state c.before-before.ensures
    c.arrive_vouched-taken.ensures.answer c.hear_of.ensures
