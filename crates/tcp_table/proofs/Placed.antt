-- Each key leads to its slot, through an insertion and a removal.
use Rattle.std.proofs.Common.{◌≡◌, ◌≢◌, ℕ, ◌+◌, ◌<◌, ◌≤◌, true, false, cond, ◌⊎◌, inl, inr, List, [], ◌∷◌, Option, Some, None, length, set, refl, sym, ap, subst, ◌∙◌, arith, Ordering}
use Rattle.std.proofs.lemmas.Bool.{cases_eq, cases_lt, cases_Bool, false≢true}
use Rattle.std.proofs.lemmas.List.{get_or-set_same, get_or-set_other, get_or_past}
use Rattle.std.proofs.lemmas.Cmp.{tied_itself, tied_back}
use Rattle.std.specs.Prelude.{IfSome}
use Rattle.std.specs.Cmp.{IsTotalOrder}
use Rattle.std.specs.Option.{IsSomeAnd}
use Rattle.std.specs.Ordering.{is_eq}
use Rattle.std.specs.Map.{lookup}
use Rattle.std.specs.BTreeMap.{BTreeMap, get, is_at}
use Rattle.std.specs.declared.cmp.Ordering.TheVariants.{Less, Equal, Greater}
use Rattle.tcp_table.specs.declared.held.Held.{Held}
use Rattle.tcp_table.specs.Table.{AreAboveZero, AreBelow, Changes, HasKey, IsDistinct, IsInPlace, LacksKey, Table, held_at, revalued}

equal-from : (o : Ordering) → is_eq o ≡ true → o ≡ Equal
equal-from Less e = absurd (false≢true e)
equal-from Equal e = refl
equal-from Greater e = absurd (false≢true e)

module _ {K : Type 0} (cmp : K → K → Ordering) (total : IsTotalOrder cmp) where
  -- equal keys are looked up alike
  lookup-congr : (x y : K) → cmp x y ≡ Equal → (es : List (K × ℕ)) → lookup (is_at (cmp x)) es ≡ lookup (is_at (cmp y)) es
  lookup-congr x y same [] = refl
  lookup-congr x y same (e ∷ es) =
      ap (λ o. cond (is_eq o) (Some e.1) (lookup (is_at (cmp x)) es)) (total.congr x y e.0 same)
      ∙ ap (λ rest. cond (is_eq (cmp y e.0)) (Some e.1) rest) (lookup-congr x y same es)

module _ {K T : Type 0} (cmp : K → K → Ordering) (total : IsTotalOrder cmp) where
  -- what a slot has under a key
  pub record Has (t : Table K T) (key : K) (slot : ℕ) : Type 0 where
    pub held : Held K T
    pub is : held_at t slot ≡ Some held
    pub same : cmp key held.key ≡ Equal

  has : (t : Table K T) (key : K) (slot : ℕ) → HasKey cmp t key slot → Has t key slot
  has t key slot h = by (held_at t slot) refl h
    where
      by : (o : Option (Held K T)) → held_at t slot ≡ o → IsSomeAnd o (λ held. cmp key held.key ≡ Equal) → Has t key slot
      by None e h = absurd h
      by (Some held) e h = record { held = held; is = e; same = h }

  has-key : (t : Table K T) (key : K) (slot : ℕ) (held : Held K T) → held_at t slot ≡ Some held → cmp key held.key ≡ Equal → HasKey cmp t key slot
  has-key t key slot held is same = rw is same

  module _ (t : Table K T) (places : BTreeMap K ℕ) (in-place : IsInPlace cmp t places) where
    -- a key that leads nowhere is no slot's
    pub lacks_key : (key : K) → get cmp places key ≡ None → LacksKey cmp t key
    lacks_key key none slot = by (held_at t slot) refl
      where
        by : (o : Option (Held K T)) → held_at t slot ≡ o → IfSome o (λ held. is_eq (cmp key held.key) ≡ false)
        by None e = tt
        by (Some held) e = apart (cases_Bool (is_eq (cmp key held.key)))
          where
            apart : (is_eq (cmp key held.key) ≡ true) ⊎ (is_eq (cmp key held.key) ≡ false) → is_eq (cmp key held.key) ≡ false
            apart (inr differs) = differs
            apart (inl same) =
                let found : get cmp places key ≡ Some slot = lookup-congr cmp total key held.key (equal-from (cmp key held.key) same) places.entries ∙ in-place.found slot held e in
                absurd (cc (none, found))

    pub is_distinct : IsDistinct cmp t
    is_distinct key one other h k =
        let a = has t key one h in
        let b = has t key other k in
        let at-one : get cmp places key ≡ Some one = lookup-congr cmp total key a.held.key a.same places.entries ∙ in-place.found one a.held a.is in
        let at-other : get cmp places key ≡ Some other = lookup-congr cmp total key b.held.key b.same places.entries ∙ in-place.found other b.held b.is in
        cc (at-one, at-other)

    -- a value comes
    pub in_place_with : (new : Table K T) (after : BTreeMap K ℕ) (slot : ℕ) (held : Held K T) → LacksKey cmp t held.key
        → held_at t slot ≡ None → Changes t new slot (Some held) → held.number ≡ t.next → new.next ≡ t.next + 1
        → ((q : K) → get cmp after q ≡ cond (is_at (cmp held.key) q) (Some slot) (get cmp places q))
        → IsInPlace cmp new after
    in_place_with new after slot held lacks free changes number next updates = record { placed = placed; found = found; below = below; above = above; next_above = omega (arith, next) }
      where
        placed : (key : K) (at : ℕ) → get cmp after key ≡ Some at → HasKey cmp new key at
        placed key at e = by (cases_Bool (is_eq (cmp held.key key)))
          where
            by : (is_eq (cmp held.key key) ≡ true) ⊎ (is_eq (cmp held.key key) ≡ false) → HasKey cmp new key at
            by (inl same) =
                let leads : get cmp after key ≡ Some slot = updates key ∙ ap (λ b. cond b (Some slot) (get cmp places key)) same in
                let here : at ≡ slot = cc (leads, e) in
                let is : held_at new at ≡ Some held = rw here changes.changed in
                has-key new key at held is (tied_back total held.key key (equal-from (cmp held.key key) same))
            by (inr differs) =
                let led : get cmp places key ≡ Some at = sym (updates key ∙ ap (λ b. cond b (Some slot) (get cmp places key)) differs) ∙ e in
                let was = has t key at (in-place.placed key at led) in
                let apart : at ≢ slot = λ here. let gone : held_at t at ≡ None = rw here free in absurd (cc (gone, was.is)) in
                has-key new key at was.held (changes.others at apart ∙ was.is) was.same

        found : (at : ℕ) (one : Held K T) → held_at new at ≡ Some one → get cmp after one.key ≡ Some at
        found at one is = by (cases_eq at slot)
          where
            by : (at ≡ slot) ⊎ (at ≡ slot → ⊥) → get cmp after one.key ≡ Some at
            by (inl here) =
                let there : held_at new at ≡ Some held = rw here changes.changed in
                let same : one ≡ held = cc (is, there) in
                let itself : is_eq (cmp held.key held.key) ≡ true = ap is_eq (tied_itself total held.key) in
                let leads : get cmp after held.key ≡ Some slot = updates held.key ∙ ap (λ b. cond b (Some slot) (get cmp places held.key)) itself in
                rw (same, here) leads
            by (inr apart) =
                let was : held_at t at ≡ Some one = sym (changes.others at apart) ∙ is in
                let differs : is_eq (cmp held.key one.key) ≡ false =
                subst (λ (o : Option (Held K T)). IfSome o (λ h. is_eq (cmp held.key h.key) ≡ false)) was (lacks at) in
                updates one.key ∙ ap (λ b. cond b (Some slot) (get cmp places one.key)) differs ∙ in-place.found at one was

        below : AreBelow new
        below at = by (cases_eq at slot)
          where
            by : (at ≡ slot) ⊎ (at ≡ slot → ⊥) → IfSome (held_at new at) (λ h. h.number < new.next)
            by (inl here) = rw (here, changes.changed) (omega (arith, number, next))
            by (inr apart) = rw (changes.others at apart) (later (held_at t at) (in-place.below at))
              where
                later : (o : Option (Held K T)) → IfSome o (λ h. h.number < t.next) → IfSome o (λ h. h.number < new.next)
                later None h = tt
                later (Some one) h = omega (arith, h, next)

        above : AreAboveZero new
        above at = by (cases_eq at slot)
          where
            by : (at ≡ slot) ⊎ (at ≡ slot → ⊥) → IfSome (held_at new at) (λ h. 0 < h.number)
            by (inl here) = rw (here, changes.changed) (omega (arith, number, in-place.next_above))
            by (inr apart) = rw (changes.others at apart) (in-place.above at)

    -- a value goes
    pub in_place_without : (new : Table K T) (after : BTreeMap K ℕ) (slot : ℕ) (held : Held K T) → held_at t slot ≡ Some held
        → Changes t new slot None → new.next ≡ t.next
        → ((q : K) → get cmp after q ≡ cond (is_at (cmp held.key) q) None (get cmp places q))
        → IsInPlace cmp new after
    in_place_without new after slot held was-held changes next updates = record { placed = placed; found = found; below = below; above = above; next_above = omega (arith, next, in-place.next_above) }
      where
        placed : (key : K) (at : ℕ) → get cmp after key ≡ Some at → HasKey cmp new key at
        placed key at e = by (cases_Bool (is_eq (cmp held.key key)))
          where
            by : (is_eq (cmp held.key key) ≡ true) ⊎ (is_eq (cmp held.key key) ≡ false) → HasKey cmp new key at
            by (inl same) =
                let nowhere : get cmp after key ≡ None = updates key ∙ ap (λ b. cond b None (get cmp places key)) same in
                absurd (cc (nowhere, e))
            by (inr differs) =
                let led : get cmp places key ≡ Some at = sym (updates key ∙ ap (λ b. cond b None (get cmp places key)) differs) ∙ e in
                let was = has t key at (in-place.placed key at led) in
                let apart : at ≢ slot = λ here.
                (let there : held_at t at ≡ Some held = rw here was-held in
                let one : was.held ≡ held = cc (there, was.is) in
                let tied : cmp key held.key ≡ Equal = ap (λ h. cmp key h.key) (sym one) ∙ was.same in
                absurd (false≢true (sym differs ∙ ap is_eq (tied_back total key held.key tied)))) in
                has-key new key at was.held (changes.others at apart ∙ was.is) was.same

        found : (at : ℕ) (one : Held K T) → held_at new at ≡ Some one → get cmp after one.key ≡ Some at
        found at one is = by (cases_eq at slot)
          where
            by : (at ≡ slot) ⊎ (at ≡ slot → ⊥) → get cmp after one.key ≡ Some at
            by (inl here) = let there : held_at new at ≡ None = rw here changes.changed in absurd (cc (is, there))
            by (inr apart) = differs (cases_Bool (is_eq (cmp held.key one.key)))
              where
                was : held_at t at ≡ Some one
                was = sym (changes.others at apart) ∙ is

                differs : (is_eq (cmp held.key one.key) ≡ true) ⊎ (is_eq (cmp held.key one.key) ≡ false) → get cmp after one.key ≡ Some at
                differs (inr other) = updates one.key ∙ ap (λ b. cond b None (get cmp places one.key)) other ∙ in-place.found at one was
                differs (inl same) =
                    let here : get cmp places held.key ≡ Some slot = in-place.found slot held was-held in
                    let alike : get cmp places held.key ≡ get cmp places one.key = lookup-congr cmp total held.key one.key (equal-from (cmp held.key one.key) same) places.entries in
                    let there : get cmp places held.key ≡ Some at = alike ∙ in-place.found at one was in
                    absurd (apart (cc (here, there)))

        below : AreBelow new
        below at = by (cases_eq at slot)
          where
            by : (at ≡ slot) ⊎ (at ≡ slot → ⊥) → IfSome (held_at new at) (λ h. h.number < new.next)
            by (inl here) = rw (here, changes.changed) tt
            by (inr apart) = rw (changes.others at apart, next) (in-place.below at)

        above : AreAboveZero new
        above at = by (cases_eq at slot)
          where
            by : (at ≡ slot) ⊎ (at ≡ slot → ⊥) → IfSome (held_at new at) (λ h. 0 < h.number)
            by (inl here) = rw (here, changes.changed) tt
            by (inr apart) = rw (changes.others at apart) (in-place.above at)

    -- another value in a slot
    pub in_place_revalued : (slot : ℕ) (held : Held K T) → held_at t slot ≡ Some held → (value : T)
        → IsInPlace cmp (record { slots = set t.slots slot (Some (revalued value held)); next = t.next }) places
    in_place_revalued slot held was-held value = record { placed = placed; found = found; below = below; above = above; next_above = in-place.next_above }
      where
        new : Table K T
        new = record { slots = set t.slots slot (Some (revalued value held)); next = t.next }

        within : slot < length t.slots
        within = by (cases_lt slot (length t.slots))
          where
            by : (slot < length t.slots) ⊎ (length t.slots ≤ slot) → slot < length t.slots
            by (inl inside) = inside
            by (inr past) = let none : held_at t slot ≡ None = get_or_past t.slots slot None past in absurd (cc (none, was-held))

        changed : held_at new slot ≡ Some (revalued value held)
        changed = get_or-set_same t.slots slot (Some (revalued value held)) None within

        kept : (other : ℕ) → other ≢ slot → held_at new other ≡ held_at t other
        kept other apart = get_or-set_other t.slots slot other (Some (revalued value held)) None apart

        placed : (key : K) (at : ℕ) → get cmp places key ≡ Some at → HasKey cmp new key at
        placed key at e = by (cases_eq at slot)
          where
            was : Has t key at
            was = has t key at (in-place.placed key at e)

            by : (at ≡ slot) ⊎ (at ≡ slot → ⊥) → HasKey cmp new key at
            by (inl here) =
                let there : held_at t at ≡ Some held = rw here was-held in
                let one : was.held ≡ held = cc (there, was.is) in
                let is : held_at new at ≡ Some (revalued value held) = rw here changed in
                has-key new key at (revalued value held) is (ap (λ h. cmp key h.key) (sym one) ∙ was.same)
            by (inr apart) = has-key new key at was.held (kept at apart ∙ was.is) was.same

        found : (at : ℕ) (one : Held K T) → held_at new at ≡ Some one → get cmp places one.key ≡ Some at
        found at one is = by (cases_eq at slot)
          where
            by : (at ≡ slot) ⊎ (at ≡ slot → ⊥) → get cmp places one.key ≡ Some at
            by (inl here) =
                let there : held_at new at ≡ Some (revalued value held) = rw here changed in
                let same : one ≡ revalued value held = cc (is, there) in
                rw (same, here) (in-place.found slot held was-held)
            by (inr apart) = in-place.found at one (sym (kept at apart) ∙ is)

        below : AreBelow new
        below at = by (cases_eq at slot)
          where
            by : (at ≡ slot) ⊎ (at ≡ slot → ⊥) → IfSome (held_at new at) (λ h. h.number < new.next)
            by (inl here) = rw (here, changed) (subst (λ (o : Option (Held K T)). IfSome o (λ h. h.number < t.next)) was-held (in-place.below slot))
            by (inr apart) = rw (kept at apart) (in-place.below at)

        above : AreAboveZero new
        above at = by (cases_eq at slot)
          where
            by : (at ≡ slot) ⊎ (at ≡ slot → ⊥) → IfSome (held_at new at) (λ h. 0 < h.number)
            by (inl here) = rw (here, changed) (subst (λ (o : Option (Held K T)). IfSome o (λ h. 0 < h.number)) was-held (in-place.above slot))
            by (inr apart) = rw (kept at apart) (in-place.above at)
