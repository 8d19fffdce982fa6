use Rattle.std.proofs.Common.{◌≡◌, ◌<◌, false, length, slice_index_or, sym, ap, ◌∙◌, arith}
use Rattle.std.proofs.lemmas.List.{get_or_read_under}
use Rattle.tcp_table.proofs.InTurn.{has_room, queue_with}
use Rattle.tcp_table.proofs.turns.Turns.add.Goals as goal

pub push_back_reserved-requires : goal.push_back_reserved-requires
push_back_reserved-requires g c =
    let notes = c.self.inside.notes in
    let id = c.args.id in
    let inside : id < length notes.items = omega (arith, c.requires, ap (λ t. t.room) c.self.view_is) in
    let read : c.index.result.now ≡ slice_index_or notes.items id false =
    get_or_read_under notes.items id notes.len c.index.result.now false c.index.ensures (omega (arith, inside, notes.ok.0)) notes.ok.0 in
    let absent : slice_index_or notes.items id false ≡ false = sym read ∙ c.if-index.false in
    omega (arith, has_room notes.items c.self.inside.queue.items _ id c.self.invariant inside absent, c.self.inside.queue.ok.0)

pub invariant_of-self : goal.invariant_of-self
invariant_of-self g c =
    let notes = c.self.inside.notes in
    let id = c.args.id in
    let inside : id < length notes.items = omega (arith, c.requires, ap (λ t. t.room) c.self.view_is) in
    let read : c.index.result.now ≡ slice_index_or notes.items id false =
    get_or_read_under notes.items id notes.len c.index.result.now false c.index.ensures (omega (arith, inside, notes.ok.0)) notes.ok.0 in
    let absent : slice_index_or notes.items id false ≡ false = sym read ∙ c.if-index.false in
    rw (c.push_back_reserved.ensures.items, c.push_back_reserved.ensures.capacity)
    (queue_with notes.items c.self.inside.queue.items _ id c.self.invariant inside absent)
