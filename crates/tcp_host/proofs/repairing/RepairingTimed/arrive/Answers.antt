use Rattle.std.proofs.Common.{sym, ap, ◌∙◌}
use Rattle.tcp_host.specs.Repairing.{of_repairing}
use Rattle.tcp_host.proofs.repairing.RepairingTimed.arrive.Goals as goal

pub returns-then-is_vouched-clause-state : goal.returns-then-is_vouched-clause-state
returns-then-is_vouched-clause-state g c =
    c.arrive_vouched.ensures.state
    ∙ ap ((of_repairing g.C.Core.machine g.C.Deferring.insight g.C.Paced.smss_of g.W.Congestion.control g.C.Reporting.reports).arrived c.args.self.now
    c.args.now c.args.src c.args.dst c.args.bytes.now) (sym c.if-is_vouched.true)

pub returns-clause-state : goal.returns-clause-state
returns-clause-state g c =
    c.arrive.ensures.state
    ∙ ap ((of_repairing g.C.Core.machine g.C.Deferring.insight g.C.Paced.smss_of g.W.Congestion.control g.C.Reporting.reports).arrived c.args.self.now
    c.args.now c.args.src c.args.dst c.args.bytes.now) (sym c.if-is_vouched.false)
