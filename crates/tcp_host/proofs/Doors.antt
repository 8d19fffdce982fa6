-- Of the listeners that of one handle changes at most, and of the ends that in one slot.
use Rattle.std.proofs.Common.{◌≡◌, ℕ, Bool, true, false, Option, Some, None, refl, sym, ap, ◌∙◌}
use Rattle.std.proofs.lemmas.List.{get_or-set_other}
use Rattle.std.specs.Prelude.{is_some, not, ◌&&◌, if◌then◌else◌, option_map}
use Rattle.std.specs.Option.{IsSomeAnd}
use Rattle.tcp_table.specs.declared.held.Id.{Id}
use Rattle.tcp_table.specs.Table.{Table, held_at, revalued, slot_of, value_at, with_value}
use Rattle.tcp_host.specs.Door.{Door, announced}
use Rattle.tcp_host.specs.Hosting.{after_call, announced_at, listeners_after, origin_at, origin_of, with_door, with_door_by}
use Rattle.tcp_host.proofs.Due.{value_with}
use Rattle.tcp_host.specs.declared.guest.Guest.{Guest}
use Rattle.tcp_host.specs.declared.pair.Pair.{Pair}
use Rattle.tcp_host.specs.declared.pair.Socket.{Socket}

module _ {L : Type 0} (t : Table Socket (Door L)) where
  other : (id : Id) (does : Door L → Door L) (slot : ℕ) → (id.slot ≡ slot → ⊥) → held_at (with_door t id does) slot ≡ held_at t slot
  other id does slot apart = by (is_some (slot_of t id)) (value_at t id.slot)
    where
      by : (there : Bool) (door : Option (Door L)) → held_at (if there then with_door_by t id.slot does door else t) slot ≡ held_at t slot
      by false door = refl
      by true None = refl
      by true (Some door) =
          get_or-set_other t.slots id.slot slot (option_map (revalued (does door)) (held_at t id.slot)) None (λ e. apart (sym e))

  pub other_door : (was is : Bool) (origin id : Option Id) (slot : ℕ) → (IsSomeAnd origin (λ origin. origin.slot ≡ slot) → ⊥)
      → held_at (listeners_after t was is origin id) slot ≡ held_at t slot
  other_door was is origin id slot apart = by (not was && is) origin id apart
    where
      by : (over : Bool) (origin id : Option Id) → (IsSomeAnd origin (λ origin. origin.slot ≡ slot) → ⊥)
          → held_at (if over then announced_at t origin id else t) slot ≡ held_at t slot
      by false origin id apart = refl
      by true None id apart = refl
      by true (Some origin) None apart = refl
      by true (Some origin) (Some id) apart = other origin (λ door. announced door id) slot apart

module _ {S : Type 0} (ends new : Table Pair (Guest S)) (found : ℕ) (does : Guest S → S) where
  -- what is called of an end changes no other
  pub others_kept : (slot : ℕ) → (slot ≡ found → ⊥) → IsSomeAnd (value_at ends found) (λ guest. new ≡ with_value ends found (after_call guest (does guest)))
      → held_at new slot ≡ held_at ends slot
  others_kept slot apart = by (value_at ends found)
    where
      by : (o : Option (Guest S)) → IsSomeAnd o (λ guest. new ≡ with_value ends found (after_call guest (does guest)))
          → held_at new slot ≡ held_at ends slot
      by None h = absurd h
      by (Some guest) h =
          ap (λ t. held_at t slot) h
          ∙ get_or-set_other ends.slots found slot (option_map (revalued (after_call guest (does guest))) (held_at ends found)) None apart

  -- nor the listener that has opened it
  pub origin_kept : IsSomeAnd (value_at ends found) (λ guest. new ≡ with_value ends found (after_call guest (does guest)))
      → origin_at new found ≡ origin_at ends found
  origin_kept = by (value_at ends found) refl
    where
      by : (o : Option (Guest S)) → value_at ends found ≡ o
          → IsSomeAnd o (λ guest. new ≡ with_value ends found (after_call guest (does guest))) → origin_at new found ≡ origin_at ends found
      by None e h = absurd h
      by (Some guest) e h =
          ap (λ t. origin_at t found) h ∙ ap origin_of (value_with ends found guest e (after_call guest (does guest))) ∙ sym (ap origin_of e)
