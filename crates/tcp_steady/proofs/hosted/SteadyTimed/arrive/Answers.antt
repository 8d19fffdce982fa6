use Rattle.std.proofs.Common.{sym, ap, ◌∙◌}
use Rattle.tcp_steady.specs.Hosted.{of_steady}
use Rattle.tcp_steady.proofs.hosted.SteadyTimed.arrive.Goals as goal

pub returns-then-is_vouched-clause-state : goal.returns-then-is_vouched-clause-state
returns-then-is_vouched-clause-state g c =
    c.arrive_vouched.ensures.state
    ∙ ap ((of_steady g.W.Congestion.control).arrived c.args.self.now c.args.now c.args.src c.args.dst c.args.bytes.now) (sym c.if-is_vouched.true)

pub returns-clause-state : goal.returns-clause-state
returns-clause-state g c =
    c.arrive.ensures.state
    ∙ ap ((of_steady g.W.Congestion.control).arrived c.args.self.now c.args.now c.args.src c.args.dst c.args.bytes.now) (sym c.if-is_vouched.false)
