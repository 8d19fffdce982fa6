use Rattle.std.proofs.Common.{Some, ap, option_map, sym, ◌∙◌}
use Rattle.tcp_end.proofs.Within.{after_within_same, idle, sent_within, under, written_within}
use Rattle.tcp_end.proofs.wired.WiredCore.transmit_within.Goals as goal
use Rattle.tcp_end.specs.Wired.{sent_by}

pub returns-in_err-sent-clause-sent : goal.returns-in_err-sent-clause-sent
returns-in_err-sent-clause-sent g c =
    c.from_residual.ensures ∙ ap (option_map sent_by) c.in_err-sent.ensures.report ∙ sent_within c.args.self.now c.args.window

pub returns-in_err-sent-clause-written : goal.returns-in_err-sent-clause-written
returns-in_err-sent-clause-written g c = c.transmit_within.ensures.bytes ∙ written_within c.args.self.now c.args.window c.args.out.now

pub returns-in_err-sent-clause-state : goal.returns-in_err-sent-clause-state
returns-in_err-sent-clause-state g c = ap under c.transmit_within.ensures.state ∙ after_within_same c.args.self.now c.args.window

pub returns-clause-sent : goal.returns-clause-sent
returns-clause-sent g c =
    ap Some c.sent_by.ensures ∙ ap (option_map sent_by) c.in_ok-sent.ensures.report ∙ sent_within c.args.self.now c.args.window

pub returns-clause-written : goal.returns-clause-written
returns-clause-written g c = c.transmit_within.ensures.bytes ∙ written_within c.args.self.now c.args.window c.args.out.now

pub returns-clause-state : goal.returns-clause-state
returns-clause-state g c = ap under c.transmit_within.ensures.state ∙ after_within_same c.args.self.now c.args.window

pub returns-in_err-sent-clause-idle : goal.returns-in_err-sent-clause-idle
returns-in_err-sent-clause-idle g c none =
    ap under c.transmit_within.ensures.state ∙ idle c.args.self.now c.args.window (sym c.in_err-sent.ensures.report)
