use Rattle.std.proofs.Common.{◌≡◌, false, set, sym, ap, ◌∙◌, arith}
use Rattle.std.proofs.lemmas.Grind.{common_steps}
use Rattle.std.specs.Prelude.{IsNone}
use Rattle.tcp_host.proofs.Due.{timed_followed}
use Rattle.tcp_host.proofs.Turned.{wait_heard, wait_silent}
use Rattle.tcp_host.specs.Hosting.{after_call, is_owed}
use Rattle.tcp_host.proofs.roll.Roll.emit.Goals as goal

pub invariant_of-self-then-is_none : goal.invariant_of-self-then-is_none
invariant_of-self-then-is_none g c =
    let b = g.T.Timed.behaviour in
    let ends = c.self.inside.ends in
    let slot = c.in_ok-slot.slot in
    let old = c.in-Some.guest.now in
    let new = after_call old c.emit-sent.new.self in
    let silent : IsNone c.emit-sent.result = grind (arith, common_steps, c.if-is_none.true, c.is_none.ensures) in
    let rests : is_owed b new ≡ false = c.emit-sent.ensures.rests silent in (
      timed_followed b ends c.self.inside.deadlines c.self.inside.turns.room c.self.invariant.0 slot old
          (sym c.in-Some.ensures.value) new c.set.new.self c.next.new.self.room
          (c.set.ensures ∙ ap (set c.self.inside.deadlines slot) c.due.ensures) c.next.ensures.room,
      wait_silent b ends slot c.self.inside.turns.queue c.next.new.self.queue c.self.invariant.1
          c.in_ok-slot.ensures.first old (sym c.in-Some.ensures.value) new rests,
    )

pub invariant_of-self-2 : goal.invariant_of-self-2
invariant_of-self-2 g c =
    let b = g.T.Timed.behaviour in
    let ends = c.self.inside.ends in
    let slot = c.in_ok-slot.slot in
    let old = c.in-Some.guest.now in
    let new = after_call old c.emit-sent.new.self in (
      timed_followed b ends c.self.inside.deadlines c.self.inside.turns.room c.self.invariant.0 slot old
          (sym c.in-Some.ensures.value) new c.set.new.self c.add.new.self.room
          (c.set.ensures ∙ ap (set c.self.inside.deadlines slot) c.due.ensures)
          (ap (λ t. t.room) c.add.ensures ∙ c.next.ensures.room),
      wait_heard b ends slot c.self.inside.turns.queue c.next.new.self.queue c.add.new.self.queue c.self.invariant.1
          c.in_ok-slot.ensures.first (ap (λ t. t.queue) c.add.ensures) new,
    )
