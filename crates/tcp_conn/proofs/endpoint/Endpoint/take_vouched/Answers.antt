use Rattle.std.proofs.Common.{◌∙◌, true}
use Rattle.tcp_conn.proofs.Unguarded.{same-after, same-answer, same-at_once, same-brought, same-duplicate, same-rule, same-window}
use Rattle.tcp_conn.proofs.endpoint.Endpoint.take_vouched.Goals as goal

pub returns-clause-answer : goal.returns-clause-answer
returns-clause-answer g c = c.take_with.ensures.answer ∙ same-answer true c.args.self.now c.args.src.0 c.args.dst.0 c.args.bytes.now

pub returns-clause-at_once : goal.returns-clause-at_once
returns-clause-at_once g c = c.take_with.ensures.at_once ∙ same-at_once true c.args.self.now c.args.src.0 c.args.dst.0 c.args.bytes.now

pub returns-clause-rule : goal.returns-clause-rule
returns-clause-rule g c = c.take_with.ensures.rule ∙ same-rule true c.args.self.now c.args.src.0 c.args.dst.0 c.args.bytes.now

pub returns-clause-duplicate : goal.returns-clause-duplicate
returns-clause-duplicate g c = c.take_with.ensures.duplicate ∙ same-duplicate true c.args.self.now c.args.src.0 c.args.dst.0 c.args.bytes.now

pub returns-clause-window : goal.returns-clause-window
returns-clause-window g c = c.take_with.ensures.window ∙ same-window true c.args.self.now c.args.src.0 c.args.dst.0 c.args.bytes.now

pub returns-clause-brought : goal.returns-clause-brought
returns-clause-brought g c = c.take_with.ensures.brought ∙ same-brought true c.args.self.now c.args.src.0 c.args.dst.0 c.args.bytes.now

pub returns-clause-state : goal.returns-clause-state
returns-clause-state g c = c.take_with.ensures.state ∙ same-after true c.args.self.now c.args.src.0 c.args.dst.0 c.args.bytes.now
