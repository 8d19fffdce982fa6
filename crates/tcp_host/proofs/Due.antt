-- The deadlines are those of the ends, through a change of one.
use Rattle.std.proofs.Common.{◌≡◌, ◌≢◌, ℕ, ◌<◌, ◌≤◌, ◌⊎◌, inl, inr, true, List, Option, Some, None, Result, Ok, Err, length, set, get_or, refl, sym, ap, subst, ◌∙◌, arith}
use Rattle.std.proofs.lemmas.Bool.{cases_eq, cases_lt}
use Rattle.std.proofs.lemmas.List.{get_or-set_same, get_or-set_other, get_or_past, length-set}
use Rattle.std.specs.Prelude.{IfSome, OnOk, option_map}
use Rattle.std.specs.Result.{is_ok}
use Rattle.tcp_table.specs.declared.held.Held.{Held}
use Rattle.tcp_table.specs.Deadlines.{Times, due_at}
use Rattle.tcp_table.specs.Table.{Changes, HasKey, Table, held_at, revalued, value_at, with_value}
use Rattle.tcp_host.specs.Behaviour.{Behaviour}
use Rattle.tcp_host.specs.declared.guest.Guest.{Guest}
use Rattle.tcp_host.specs.Hosting.{IsFor, IsTimed, deadline_at, deadline_of, due_of}
use Rattle.std.specs.Option.{IsSomeAnd}
use Rattle.std.specs.declared.cmp.Ordering.{Ordering}
use Rattle.tcp_host.specs.Pair.{pair_of}
use Rattle.tcp_host.specs.declared.pair.Pair.{Pair}

-- what is said of an `Ok`
pub from_ok : {T E : Type 0} (r : Result T E) (P : Type 0) → is_ok r ≡ true → OnOk r P → P
from_ok (Ok x) P e h = h
from_ok (Err x) P e h = absurd (cc (e))

-- a place that has something is one of the list
pub within : {X : Type 0} (xs : List (Option X)) (i : ℕ) (x : X) → get_or xs i None ≡ Some x → i < length xs
within xs i x is = by (cases_lt i (length xs))
  where
    by : (i < length xs) ⊎ (length xs ≤ i) → i < length xs
    by (inl inside) = inside
    by (inr past) = absurd (cc (get_or_past xs i None past, is))

-- the end in a slot that has changed
pub value_with : {S : Type 0} (ends : Table Pair (Guest S)) (slot : ℕ) (old : Guest S) → value_at ends slot ≡ Some old
    → (end : Guest S)
    → value_at (with_value ends slot end) slot ≡ Some end
value_with {S = S} ends slot old is end = by (held_at ends slot) refl is
  where
    by : (o : Option (Held Pair (Guest S))) → held_at ends slot ≡ o → option_map (λ h. h.value) o ≡ Some old
        → value_at (with_value ends slot end) slot ≡ Some end
    by None e is = absurd (cc (is))
    by (Some held) e is =
        ap (option_map (λ h. h.value))
        (get_or-set_same ends.slots slot (option_map (revalued end) (held_at ends slot)) None
        (within ends.slots slot held e)
        ∙ ap (option_map (revalued end)) e)

-- what is put into a free slot and taken out again has changed nothing
pub put_back : {S : Type 0} (ends mid new : Table Pair (Guest S)) (slot : ℕ) (held : Held Pair (Guest S)) → Changes ends mid slot (Some held)
    → held_at ends slot ≡ None → Changes mid new slot None → (at : ℕ) → held_at new at ≡ held_at ends at
put_back ends mid new slot held put free taken at = by (cases_eq at slot)
  where
    by : (at ≡ slot) ⊎ (at ≡ slot → ⊥) → held_at new at ≡ held_at ends at
    by (inl here) = subst (λ k. held_at new k ≡ held_at ends k) (sym here) (taken.changed ∙ sym free)
    by (inr apart) = taken.others at apart ∙ put.others at apart

-- the deadline of a slot whose end has changed
pub deadline_with : {S : Type 0} (b : Behaviour S) (ends : Table Pair (Guest S)) (slot : ℕ) (old : Guest S) → value_at ends slot ≡ Some old
    → (end : Guest S) → deadline_at b (with_value ends slot end) slot ≡ due_of b end
deadline_with {S = S} b ends slot old is end = by (held_at ends slot) refl is
  where
    by : (o : Option (Held Pair (Guest S))) → held_at ends slot ≡ o → option_map (λ h. h.value) o ≡ Some old
        → deadline_at b (with_value ends slot end) slot ≡ due_of b end
    by None e is = absurd (cc (is))
    by (Some held) e is =
        ap (λ o. deadline_of b (option_map (λ h. h.value) o))
        (get_or-set_same ends.slots slot (option_map (revalued end) (held_at ends slot)) None (within ends.slots slot held e)
        ∙ ap (option_map (revalued end)) e)

module _ {S : Type 0} (b : Behaviour S) (ends : Table Pair (Guest S)) (deadlines : Times) (room : ℕ) (is-timed : IsTimed b ends deadlines room) where
  -- an end has room for its deadline and its turn
  pub end_timed : (slot : ℕ) (held : Held Pair (Guest S)) → held_at ends slot ≡ Some held → slot < length deadlines
  end_timed slot held is = subst (λ (o : Option (Held Pair (Guest S))). IfSome o (λ h. slot < length deadlines)) is (is-timed.timed slot)

  pub end_roomy : (slot : ℕ) (held : Held Pair (Guest S)) → held_at ends slot ≡ Some held → slot < room
  end_roomy slot held is = subst (λ (o : Option (Held Pair (Guest S))). IfSome o (λ h. slot < room)) is (is-timed.roomy slot)

  -- the end of one slot changes, and its deadline with it
  pub timed_with : (slot : ℕ) (held : Held Pair (Guest S)) → held_at ends slot ≡ Some held → (end : Guest S)
      → IsTimed b (with_value ends slot end) (set deadlines slot (due_of b end)) room
  timed_with slot held is end = record { due = due; timed = timed; roomy = roomy }
    where
      new : Table Pair (Guest S)
      new = with_value ends slot end

      changed : held_at new slot ≡ Some (revalued end held)
      changed =
          get_or-set_same ends.slots slot (option_map (revalued end) (held_at ends slot)) None (within ends.slots slot held is)
          ∙ ap (option_map (revalued end)) is

      kept : (other : ℕ) → other ≢ slot → held_at new other ≡ held_at ends other
      kept other apart = get_or-set_other ends.slots slot other (option_map (revalued end) (held_at ends slot)) None apart

      value : Option (Held Pair (Guest S)) → Option ℕ
      value o = deadline_of b (option_map (λ h. h.value) o)

      due : (at : ℕ) → due_at (set deadlines slot (due_of b end)) at ≡ deadline_at b new at
      due at = by (cases_eq at slot)
        where
          by : (at ≡ slot) ⊎ (at ≡ slot → ⊥) → due_at (set deadlines slot (due_of b end)) at ≡ deadline_at b new at
          by (inl here) =
              let there : due_at (set deadlines slot (due_of b end)) slot ≡ due_of b end =
              get_or-set_same deadlines slot (due_of b end) None (end_timed slot held is) in
              let now : deadline_at b new slot ≡ due_of b end = ap (λ o. deadline_of b (option_map (λ h. h.value) o)) changed in
              subst (λ k. due_at (set deadlines slot (due_of b end)) k ≡ deadline_at b new k) (sym here) (there ∙ sym now)
          by (inr apart) =
              get_or-set_other deadlines slot at (due_of b end) None apart ∙ is-timed.due at
              ∙ ap (λ o. deadline_of b (option_map (λ h. h.value) o)) (sym (kept at apart))

      timed : (at : ℕ) → IfSome (held_at new at) (λ h. at < length (set deadlines slot (due_of b end)))
      timed at = rw (length-set deadlines slot (due_of b end)) (by (cases_eq at slot))
        where
          by : (at ≡ slot) ⊎ (at ≡ slot → ⊥) → IfSome (held_at new at) (λ h. at < length deadlines)
          by (inl here) =
              subst (λ k. IfSome (held_at new k) (λ h. k < length deadlines)) (sym here)
              (subst (λ (o : Option (Held Pair (Guest S))). IfSome o (λ h. slot < length deadlines)) (sym changed) (end_timed slot held is))
          by (inr apart) = subst (λ (o : Option (Held Pair (Guest S))). IfSome o (λ h. at < length deadlines)) (sym (kept at apart)) (is-timed.timed at)

      roomy : (at : ℕ) → IfSome (held_at new at) (λ h. at < room)
      roomy at = by (cases_eq at slot)
        where
          by : (at ≡ slot) ⊎ (at ≡ slot → ⊥) → IfSome (held_at new at) (λ h. at < room)
          by (inl here) =
              subst (λ k. IfSome (held_at new k) (λ h. k < room)) (sym here)
              (subst (λ (o : Option (Held Pair (Guest S))). IfSome o (λ h. slot < room)) (sym changed) (end_roomy slot held is))
          by (inr apart) = subst (λ (o : Option (Held Pair (Guest S))). IfSome o (λ h. at < room)) (sym (kept at apart)) (is-timed.roomy at)

  -- the same, from the value that the slot had
  pub timed_from : (slot : ℕ) (old : Guest S) → value_at ends slot ≡ Some old → (end : Guest S)
      → IsTimed b (with_value ends slot end) (set deadlines slot (due_of b end)) room
  timed_from slot old is end = by (held_at ends slot) refl is
    where
      by : (o : Option (Held Pair (Guest S))) → held_at ends slot ≡ o → option_map (λ h. h.value) o ≡ Some old
          → IsTimed b (with_value ends slot end) (set deadlines slot (due_of b end)) room
      by None e is = absurd (cc (is))
      by (Some held) e is = timed_with slot held e end

  -- the same, by what the deadlines and the room are behind it
  pub timed_followed : (slot : ℕ) (old : Guest S) → value_at ends slot ≡ Some old → (end : Guest S) (after : Times) (more : ℕ)
      → after ≡ set deadlines slot (due_of b end) → more ≡ room → IsTimed b (with_value ends slot end) after more
  timed_followed slot old is end after more due roomy = rw (due, roomy) (timed_from slot old is end)

  pub has_time : (slot : ℕ) (old : Guest S) → value_at ends slot ≡ Some old → slot < length deadlines
  has_time slot old is = by (held_at ends slot) refl is
    where
      by : (o : Option (Held Pair (Guest S))) → held_at ends slot ≡ o → option_map (λ h. h.value) o ≡ Some old → slot < length deadlines
      by None e is = absurd (cc (is))
      by (Some held) e is = end_timed slot held e

  pub has_turn : (slot : ℕ) (old : Guest S) → value_at ends slot ≡ Some old → slot < room
  has_turn slot old is = by (held_at ends slot) refl is
    where
      by : (o : Option (Held Pair (Guest S))) → held_at ends slot ≡ o → option_map (λ h. h.value) o ≡ Some old → slot < room
      by None e is = absurd (cc (is))
      by (Some held) e is = end_roomy slot held e

  -- an end goes
  pub timed_without : (new : Table Pair (Guest S)) (slot : ℕ) → Changes ends new slot None → IsTimed b new (set deadlines slot None) room
  timed_without new slot changes = record { due = due; timed = timed; roomy = roomy }
    where
      cleared : due_at (set deadlines slot None) slot ≡ None
      cleared = by (cases_lt slot (length deadlines))
        where
          by : (slot < length deadlines) ⊎ (length deadlines ≤ slot) → due_at (set deadlines slot None) slot ≡ None
          by (inl inside) = get_or-set_same deadlines slot None None inside
          by (inr past) = get_or_past (set deadlines slot None) slot None (omega (arith, past, length-set deadlines slot None))

      due : (at : ℕ) → due_at (set deadlines slot None) at ≡ deadline_at b new at
      due at = by (cases_eq at slot)
        where
          by : (at ≡ slot) ⊎ (at ≡ slot → ⊥) → due_at (set deadlines slot None) at ≡ deadline_at b new at
          by (inl here) =
              let now : deadline_at b new slot ≡ None = ap (λ o. deadline_of b (option_map (λ h. h.value) o)) changes.changed in
              subst (λ k. due_at (set deadlines slot None) k ≡ deadline_at b new k) (sym here) (cleared ∙ sym now)
          by (inr apart) =
              get_or-set_other deadlines slot at None None apart ∙ is-timed.due at
              ∙ ap (λ o. deadline_of b (option_map (λ h. h.value) o)) (sym (changes.others at apart))

      timed : (at : ℕ) → IfSome (held_at new at) (λ h. at < length (set deadlines slot None))
      timed at = rw (length-set deadlines slot None) (by (cases_eq at slot))
        where
          by : (at ≡ slot) ⊎ (at ≡ slot → ⊥) → IfSome (held_at new at) (λ h. at < length deadlines)
          by (inl here) =
              subst (λ k. IfSome (held_at new k) (λ h. k < length deadlines)) (sym here)
              (subst (λ (o : Option (Held Pair (Guest S))). IfSome o (λ h. slot < length deadlines)) (sym changes.changed) tt)
          by (inr apart) = subst (λ (o : Option (Held Pair (Guest S))). IfSome o (λ h. at < length deadlines)) (sym (changes.others at apart)) (is-timed.timed at)

      roomy : (at : ℕ) → IfSome (held_at new at) (λ h. at < room)
      roomy at = by (cases_eq at slot)
        where
          by : (at ≡ slot) ⊎ (at ≡ slot → ⊥) → IfSome (held_at new at) (λ h. at < room)
          by (inl here) =
              subst (λ k. IfSome (held_at new k) (λ h. k < room)) (sym here)
              (subst (λ (o : Option (Held Pair (Guest S))). IfSome o (λ h. slot < room)) (sym changes.changed) tt)
          by (inr apart) = subst (λ (o : Option (Held Pair (Guest S))). IfSome o (λ h. at < room)) (sym (changes.others at apart)) (is-timed.roomy at)

  -- the same ends, and as much room or more
  pub timed_as_before : (new : Table Pair (Guest S)) (after : Times) (more : ℕ) → ((slot : ℕ) → held_at new slot ≡ held_at ends slot)
      → ((slot : ℕ) → due_at after slot ≡ due_at deadlines slot) → length deadlines ≤ length after → room ≤ more → IsTimed b new after more
  timed_as_before new after more same times longer roomier = record {
    due = λ at. times at ∙ is-timed.due at ∙ ap (λ o. deadline_of b (option_map (λ h. h.value) o)) (sym (same at));
    timed = λ at. subst (λ (o : Option (Held Pair (Guest S))). IfSome o (λ h. at < length after)) (sym (same at)) (further at (length deadlines) (length after) longer (held_at ends at) (is-timed.timed at));
    roomy = λ at. subst (λ (o : Option (Held Pair (Guest S))). IfSome o (λ h. at < more)) (sym (same at)) (further at room more roomier (held_at ends at) (is-timed.roomy at));
  }
    where
      further : (at least most : ℕ) → least ≤ most → (o : Option (Held Pair (Guest S))) → IfSome o (λ h. at < least) → IfSome o (λ h. at < most)
      further at least most e None h = tt
      further at least most e (Some held) h = omega (arith, e, h)

  -- an end comes
  pub timed_opened : (new : Table Pair (Guest S)) (after : Times) (more slot : ℕ) (held : Held Pair (Guest S))
      → Changes ends new slot (Some held) → ((at : ℕ) → due_at after at ≡ due_at deadlines at) → length deadlines ≤ length after → room ≤ more
      → slot < length after → slot < more → IsTimed b new (set after slot (due_of b held.value)) more
  timed_opened new after more slot held changes times longer roomier inside enough = record { due = due; timed = timed; roomy = roomy }
    where
      further : (at least most : ℕ) → least ≤ most → (o : Option (Held Pair (Guest S))) → IfSome o (λ h. at < least) → IfSome o (λ h. at < most)
      further at least most e None h = tt
      further at least most e (Some one) h = omega (arith, e, h)

      due : (at : ℕ) → due_at (set after slot (due_of b held.value)) at ≡ deadline_at b new at
      due at = by (cases_eq at slot)
        where
          by : (at ≡ slot) ⊎ (at ≡ slot → ⊥) → due_at (set after slot (due_of b held.value)) at ≡ deadline_at b new at
          by (inl here) =
              let there : due_at (set after slot (due_of b held.value)) slot ≡ due_of b held.value =
              get_or-set_same after slot (due_of b held.value) None inside in
              let now : deadline_at b new slot ≡ due_of b held.value = ap (λ o. deadline_of b (option_map (λ h. h.value) o)) changes.changed in
              subst (λ k. due_at (set after slot (due_of b held.value)) k ≡ deadline_at b new k) (sym here) (there ∙ sym now)
          by (inr apart) =
              get_or-set_other after slot at (due_of b held.value) None apart ∙ times at ∙ is-timed.due at
              ∙ ap (λ o. deadline_of b (option_map (λ h. h.value) o)) (sym (changes.others at apart))

      timed : (at : ℕ) → IfSome (held_at new at) (λ h. at < length (set after slot (due_of b held.value)))
      timed at = rw (length-set after slot (due_of b held.value)) (by (cases_eq at slot))
        where
          by : (at ≡ slot) ⊎ (at ≡ slot → ⊥) → IfSome (held_at new at) (λ h. at < length after)
          by (inl here) =
              subst (λ k. IfSome (held_at new k) (λ h. k < length after)) (sym here)
              (subst (λ (o : Option (Held Pair (Guest S))). IfSome o (λ h. slot < length after)) (sym changes.changed) inside)
          by (inr apart) = subst (λ (o : Option (Held Pair (Guest S))). IfSome o (λ h. at < length after)) (sym (changes.others at apart)) (further at (length deadlines) (length after) longer (held_at ends at) (is-timed.timed at))

      roomy : (at : ℕ) → IfSome (held_at new at) (λ h. at < more)
      roomy at = by (cases_eq at slot)
        where
          by : (at ≡ slot) ⊎ (at ≡ slot → ⊥) → IfSome (held_at new at) (λ h. at < more)
          by (inl here) =
              subst (λ k. IfSome (held_at new k) (λ h. k < more)) (sym here)
              (subst (λ (o : Option (Held Pair (Guest S))). IfSome o (λ h. slot < more)) (sym changes.changed) enough)
          by (inr apart) = subst (λ (o : Option (Held Pair (Guest S))). IfSome o (λ h. at < more)) (sym (changes.others at apart)) (further at room more roomier (held_at ends at) (is-timed.roomy at))

-- a segment is for the end that is found by its pair
pub is_for : {S : Type 0} (cmp : Pair → Pair → Ordering) (ends : Table Pair (Guest S)) (src dst bytes : List ℕ) (pair : Pair) (slot : ℕ)
    → pair_of src dst bytes ≡ Some pair → HasKey cmp ends pair slot → IsFor cmp ends src dst bytes slot
is_for cmp ends src dst bytes pair slot is has = subst (λ (o : Option Pair). IsSomeAnd o (λ p. HasKey cmp ends p slot)) (sym is) has
