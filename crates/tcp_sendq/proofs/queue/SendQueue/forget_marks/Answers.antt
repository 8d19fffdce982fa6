use Rattle.std.proofs.Common.{◌≡◌, [], arith, ap, ◌∙◌}
use Rattle.std.proofs.lemmas.Grind.{common_steps}
use Rattle.tcp_sendq.specs.SendQueue.{without_marks}
use Rattle.tcp_sendq.proofs.Calls.{unmarked}
use Rattle.tcp_sendq.proofs.queue.SendQueue.forget_marks.Goals as goal

pub invariant_of-self : goal.invariant_of-self
invariant_of-self g c =
    let table : c.clear.new.self.table.items ≡ [] = grind (arith, common_steps) in
    (rw (table) (unmarked c.self.invariant.0).kept, omega (arith, c.clear.ensures.room, c.self.invariant.1), rw (table) (record { behind = tt; most = omega arith }))

pub returns-clause-state : goal.returns-clause-state
returns-clause-state g c =
    let table : c.clear.new.self.table.items ≡ [] = grind (arith, common_steps) in
    rw (table) ((unmarked c.self.invariant.0).state ∙ ap (λ q. without_marks q) c.self.view_is)

pub returns-clause-sound : goal.returns-clause-sound
returns-clause-sound g c =
    let table : c.clear.new.self.table.items ≡ [] = grind (arith, common_steps) in
    rw (table) (unmarked c.self.invariant.0).kept.sound
