use Rattle.std.proofs.Common.{◌≡◌, ℕ, ◌≤◌, Option, Some, None, sym, subst, ◌∙◌}
use Rattle.std.specs.Prelude.{IfSome}
use Rattle.tcp_host.specs.Hosting.{IsLeast, deadline_at}
use Rattle.tcp_host.proofs.roll.Roll.poll_at.Goals as goal

pub returns-in-Some-clause-least : goal.returns-in-Some-clause-least
returns-in-Some-clause-least g c =
    let time = c.in-Some.time in
    let ends = c.self.inside.ends in
    let least : IsLeast g.T.Timed.behaviour ends time =
    λ slot. subst (λ (o : Option ℕ). IfSome o (λ t. time ≤ t)) (c.self.invariant.0.due slot) (c.in-Some.ensures.first.least slot) in
    rw (← c.self.view_is) least

pub returns-in-Some-clause-of_an_end : goal.returns-in-Some-clause-of_an_end
returns-in-Some-clause-of_an_end g c =
    let slot = c.in-Some.field-0-1 in
    let is : deadline_at g.T.Timed.behaviour c.self.inside.ends slot ≡ Some c.in-Some.time =
    sym (c.self.invariant.0.due slot) ∙ c.in-Some.ensures.first.due in
    (slot, rw (← c.self.view_is) is)

pub returns-in-None-clause-none : goal.returns-in-None-clause-none
returns-in-None-clause-none g c slot =
    let is : deadline_at g.T.Timed.behaviour c.self.inside.ends slot ≡ None = sym (c.self.invariant.0.due slot) ∙ c.in-None.ensures.none slot in
    rw (← c.self.view_is) is
