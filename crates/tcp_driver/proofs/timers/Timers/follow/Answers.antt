use Rattle.std.proofs.Common.{is_some, ap, sym, ◌∙◌}
use Rattle.tcp_driver.proofs.Standing.{followed_same, left_as_wanted, time_wait_as_wanted}
use Rattle.tcp_driver.proofs.timers.Timers.follow.Goals as goal

pub returns-then-stands-clause-state : goal.returns-then-stands-clause-state
returns-then-stands-clause-state c =
    c.pass.ensures.state ∙ sym (followed_same c.args.self.now c.args.wants c.args.una c.args.now (c.stands.ensures c.if-stands.true))

pub returns-then-stands-clause-left : goal.returns-then-stands-clause-left
returns-then-stands-clause-left c =
    ap (λ t. is_some t.left) c.pass.ensures.state
    ∙ left_as_wanted c.args.self.now c.args.wants c.args.una (c.stands.ensures c.if-stands.true)

pub returns-then-stands-clause-time_wait : goal.returns-then-stands-clause-time_wait
returns-then-stands-clause-time_wait c =
    ap (λ t. is_some t.deadlines.time_wait) c.pass.ensures.state
    ∙ time_wait_as_wanted c.args.self.now c.args.wants c.args.una (c.stands.ensures c.if-stands.true)
