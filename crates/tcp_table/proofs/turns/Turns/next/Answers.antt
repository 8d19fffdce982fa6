use Rattle.std.proofs.Common.{◌<◌, ◌∷◌, ℕ, List, length, ap, arith, subst}
use Rattle.std.specs.VecDeque.{deque_capacity}
use Rattle.tcp_table.specs.Turns.{IsQueue}
use Rattle.tcp_table.proofs.InTurn.{first_within, queue_after}
use Rattle.tcp_table.proofs.turns.Turns.next.Goals as goal

pub index_mut-requires : goal.index_mut-requires
index_mut-requires g c =
    let notes = c.self.inside.notes.items in
    let capacity : ℕ = deque_capacity c.self.inside.queue in
    let is : IsQueue notes (c.in_ok-id.id ∷ c.pop_front.new.self.items) capacity =
    subst (λ (queue : List ℕ). IsQueue notes queue capacity) c.in_ok-id.ensures.items c.self.invariant in
    let within : c.in_ok-id.id < length notes = first_within notes c.in_ok-id.id c.pop_front.new.self.items is.noted in
    omega (arith, within, c.self.inside.notes.ok.0)

pub invariant_of-self-2 : goal.invariant_of-self-2
invariant_of-self-2 g c =
    let notes = c.self.inside.notes.items in
    let capacity : ℕ = deque_capacity c.self.inside.queue in
    let is : IsQueue notes (c.in_ok-id.id ∷ c.pop_front.new.self.items) capacity =
    subst (λ (queue : List ℕ). IsQueue notes queue capacity) c.in_ok-id.ensures.items c.self.invariant in
    rw c.in_ok-id.ensures.capacity (queue_after notes c.pop_front.new.self.items capacity c.in_ok-id.id is)

pub returns-clause-within : goal.returns-clause-within
returns-clause-within g c =
    let notes = c.self.inside.notes.items in
    let capacity : ℕ = deque_capacity c.self.inside.queue in
    let is : IsQueue notes (c.in_ok-id.id ∷ c.pop_front.new.self.items) capacity =
    subst (λ (queue : List ℕ). IsQueue notes queue capacity) c.in_ok-id.ensures.items c.self.invariant in
    let within : c.in_ok-id.id < length notes = first_within notes c.in_ok-id.id c.pop_front.new.self.items is.noted in
    omega (arith, within, ap (λ t. t.room) c.self.view_is)
