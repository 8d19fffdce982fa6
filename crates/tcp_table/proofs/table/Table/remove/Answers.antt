use Rattle.std.proofs.Common.{◌≡◌, Some, None, refl, sym}
use Rattle.tcp_table.specs.Table.{Changes, Table, held_at}
use Rattle.tcp_table.proofs.Placed.{in_place_without}
use Rattle.tcp_table.proofs.table.Table.remove.Goals as goal

pub invariant_of-self-2 : goal.invariant_of-self-2
invariant_of-self-2 g c =
    let K = g.row.K.Denot in
    let T = g.row.T.Denot in
    let old : Table K T = record { slots = c.self.inside.slots.slots; next = c.self.inside.next } in
    let new : Table K T = record { slots = c.try_remove.new.self.slots; next = c.self.inside.next } in
    let held = c.in_ok-held.held in
    let was : held_at old c.args.slot ≡ Some held = sym c.in_ok-held.ensures.value in
    let changes : Changes old new c.args.slot None =
    record { changed = c.try_remove.ensures.updates.changed; others = c.try_remove.ensures.updates.others } in
    in_place_without g.K.Ord.cmp g.met.K.Ord.total old c.self.inside.places c.self.invariant new c.remove.new.self c.args.slot held
    was changes refl c.remove.ensures.updates.0
