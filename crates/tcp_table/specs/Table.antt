-- VALUES UNDER KEYS (own), each in a slot of its own and with a number of its own.
use Rattle.std.specs.Prelude.{◌≡◌, ◌≢◌, ℕ, ◌<◌, ◌==◌, Bool, false, if◌then◌else◌, List, Option, Some, None, IfSome, slice_index_or, slice_set, option_map}
use Rattle.std.specs.Option.{IsSomeAnd}
use Rattle.std.specs.Ordering.{is_eq}
use Rattle.std.specs.BTreeMap.{BTreeMap, get}
use Rattle.std.specs.declared.cmp.Ordering.{Ordering}
use Rattle.std.specs.declared.cmp.Ordering.TheVariants.{Equal}
use Rattle.tcp_table.specs.declared.held.Held.{Held}
use Rattle.tcp_table.specs.declared.held.Id.{Id}

-- what each slot has, and the number of the next value: it is greater than all that were given, and than 0, which no value has
pub record Table (K T : Type 0) : Type 0 where
  pub slots : List (Option (Held K T))
  pub next : ℕ

module _ {K T : Type 0} where
  -- what a slot has
  abbrev pub held_at : Table K T → ℕ → Option (Held K T)
  held_at t slot = slice_index_or t.slots slot None

  -- the value of a slot
  abbrev pub value_at : Table K T → ℕ → Option T
  value_at t slot = option_map (λ held. held.value) (held_at t slot)

  -- A HANDLE is of a slot's value where it has its number
  abbrev pub is_of : Option (Held K T) → ℕ → Bool
  is_of None number = false
  is_of (Some held) number = held.number == number

  -- the slot of a handle, while the value is there that it was given for
  abbrev pub slot_of : Table K T → Id → Option ℕ
  slot_of t id = if is_of (held_at t id.slot) id.number then Some id.slot else None

  -- the handle of the value in a slot
  abbrev pub id_at : Table K T → ℕ → Option Id
  id_at t slot = option_map (λ held. record { slot = slot; number = held.number }) (held_at t slot)

  -- ONE SLOT has this from now on, and every other what it had
  pub record Changes (old new : Table K T) (slot : ℕ) (held : Option (Held K T)) : Type 0 where
    pub changed : held_at new slot ≡ held
    pub others : (other : ℕ) → other ≢ slot → held_at new other ≡ held_at old other

  -- every slot has what it had
  abbrev pub IsAsBefore : Table K T → Table K T → Type 0
  IsAsBefore old new = ((slot : ℕ) → held_at new slot ≡ held_at old slot) × (new.next ≡ old.next)

  -- another value in a slot that has one
  abbrev pub revalued : T → Held K T → Held K T
  revalued value held = record held { value = value }

  abbrev pub with_value : Table K T → ℕ → T → Table K T
  with_value t slot value = record t { slots = slice_set t.slots slot (option_map (revalued value) (held_at t slot)) }

  module _ (cmp : K → K → Ordering) where
    -- a slot has a value under this key
    abbrev pub HasKey : Table K T → K → ℕ → Type 0
    HasKey t key slot = IsSomeAnd (held_at t slot) (λ held. cmp key held.key ≡ Equal)

    -- no slot has
    abbrev pub LacksKey : Table K T → K → Type 0
    LacksKey t key = (slot : ℕ) → IfSome (held_at t slot) (λ held. is_eq (cmp key held.key) ≡ false)

    -- NO TWO VALUES ARE UNDER ONE KEY
    abbrev pub IsDistinct : Table K T → Type 0
    IsDistinct t = (key : K) (one other : ℕ) → HasKey t key one → HasKey t key other → one ≡ other

    -- each key leads to its slot. No public clause cites it
    pub record IsInPlace (t : Table K T) (places : BTreeMap K ℕ) : Type 0 where
      pub placed : (key : K) (slot : ℕ) → get cmp places key ≡ Some slot → HasKey t key slot
      pub found : (slot : ℕ) (held : Held K T) → held_at t slot ≡ Some held → get cmp places held.key ≡ Some slot
      pub below : (slot : ℕ) → IfSome (held_at t slot) (λ held. held.number < t.next)
      pub above : (slot : ℕ) → IfSome (held_at t slot) (λ held. 0 < held.number)
      pub next_above : 0 < t.next

  -- numbers that were given are below the next
  abbrev pub AreBelow : Table K T → Type 0
  AreBelow t = (slot : ℕ) → IfSome (held_at t slot) (λ held. held.number < t.next)

  -- and none is 0
  abbrev pub AreAboveZero : Table K T → Type 0
  AreAboveZero t = (slot : ℕ) → IfSome (held_at t slot) (λ held. 0 < held.number)
