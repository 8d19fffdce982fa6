use Rattle.std.proofs.Common.{◌≡◌, ◌+◌, ℕ, List, Option, Some, None, cond, slice_index_or, refl, sym, ap, subst, ◌∙◌}
use Rattle.std.specs.BTreeMap.{get, is_at}
use Rattle.tcp_table.specs.Table.{Changes, LacksKey, Table, held_at}
use Rattle.tcp_table.specs.declared.held.Held.{Held}
use Rattle.tcp_table.proofs.Placed.{in_place_with}
use Rattle.tcp_table.proofs.table.Table.insert.Goals as goal

pub invariant_of-self-2 : goal.invariant_of-self-2
invariant_of-self-2 g c =
    let K = g.row.K.Denot in
    let T = g.row.T.Denot in
    let cmp = g.K.Ord.cmp in
    let key = c.args.key in
    let held : Held K T = record { key = key; number = c.self.inside.next; value = c.args.value } in
    let old : Table K T = record { slots = c.self.inside.slots.slots; next = c.self.inside.next } in
    let new : Table K T = record { slots = c.insert_reserved-slot.new.self.slots; next = c.self.inside.next + 1 } in
    let slot = c.insert_reserved-slot.result in
    let kept : c.reserve.new.self.slots ≡ old.slots = ap (λ s. s.slots) c.reserve.ensures.rest_kept in
    let lacks : LacksKey cmp old key = subst (λ (t : Table K T). LacksKey cmp t key) (sym c.self.view_is) c.requires in
    let free : held_at old slot ≡ None = subst (λ (xs : List (Option (Held K T))). slice_index_or xs slot None ≡ None) kept c.insert_reserved-slot.ensures.was_vacant in
    let changes : Changes old new slot (Some held) = record {
      changed = c.insert_reserved-slot.ensures.updates.changed;
      others = λ other apart.
          c.insert_reserved-slot.ensures.updates.others other apart ∙ ap (λ (xs : List (Option (Held K T))). slice_index_or xs other None) kept;
    } in
    let here : c.vacant_key-slot.result ≡ slot = c.vacant_key-slot.ensures.value ∙ sym c.insert_reserved-slot.ensures.key in
    in_place_with cmp g.met.K.Ord.total old c.self.inside.places c.self.invariant new c.insert.new.self slot held lacks free changes refl refl
    (λ q. c.in-Ok.ensures.updates.0 q ∙ ap (λ (s : ℕ). cond (is_at (cmp key) q) (Some s) (get cmp c.self.inside.places q)) here)
