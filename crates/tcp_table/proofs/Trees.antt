-- The root of a tree of times has the earliest.
use Rattle.std.proofs.Common.{◌≡◌, ℕ, suc, zero, ◌+◌, ◌-◌, ◌*◌, ◌<◌, ◌≤◌, ◌⊎◌, inl, inr, List, Option, Some, None, drop, refl, sym, subst, ◌∙◌, arith}
use Rattle.std.proofs.lemmas.Bool.{cases_lt}
use Rattle.std.proofs.lemmas.List.{get_or-drop, get_or_past}
use Rattle.std.specs.Prelude.{IfSome}
use Rattle.tcp_table.specs.Deadlines.{IsFirst, IsTree, NoneIsDue, due_at, earlier}

-- one time isn't after another, and none is after all
NoLater : Option ℕ → Option ℕ → Type 0
NoLater (Some one) (Some other) = one ≤ other
NoLater None (Some other) = ⊥
NoLater one None = Unit {0}

itself : (o : Option ℕ) → NoLater o o
unfolding NoLater
itself None = tt
itself (Some time) = omega arith

along : (a b c : Option ℕ) → NoLater a b → NoLater b c → NoLater a c
unfolding NoLater
along a b None h k = tt
along (Some a) (Some b) (Some c) h k = omega (arith, h, k)
along None (Some b) (Some c) h k = absurd h
along a None (Some c) h k = absurd k

left : (a b : Option ℕ) → NoLater (earlier a b) a
unfolding NoLater
left None None = tt
left None (Some b) = tt
left (Some a) None = omega arith
left (Some a) (Some b) = omega arith

right : (a b : Option ℕ) → NoLater (earlier a b) b
unfolding NoLater
right None None = tt
right None (Some b) = omega arith
right (Some a) None = tt
right (Some a) (Some b) = omega arith

-- twice a number, or one more
record Half (at : ℕ) : Type 0 where
  half : ℕ
  is : (at ≡ 2 * half) ⊎ (at ≡ 2 * half + 1)

half_of : (at : ℕ) → Half at
half_of zero = record { half = 0; is = inl refl }
half_of (suc at) = let h = half_of at in by h.half h.is
  where
    by : (half : ℕ) → (at ≡ 2 * half) ⊎ (at ≡ 2 * half + 1) → Half (suc at)
    by half (inl e) = record { half = half; is = inr (omega (arith, e)) }
    by half (inr e) = record { half = half + 1; is = inl (omega (arith, e)) }

module _ (tree : List (Option ℕ)) (count : ℕ) (is-tree : IsTree tree count) where
  abbrev AllUpTo : ℕ → Type 0
  AllUpTo most = (at : ℕ) → at ≤ most → 1 ≤ at → at < 2 * count → NoLater (due_at tree 1) (due_at tree at)

  least_below : (fuel at : ℕ) → at ≤ fuel → 1 ≤ at → at < 2 * count → NoLater (due_at tree 1) (due_at tree at)
  least_below zero at enough some within = absurd (omega (arith, enough, some))
  least_below (suc fuel) at enough some within = by (λ half low one high. least_below fuel half low one high) (cases_lt 1 at)
    where
      above : AllUpTo fuel → (half : ℕ) → (at ≡ 2 * half) ⊎ (at ≡ 2 * half + 1) → 1 < at → NoLater (due_at tree 1) (due_at tree at)
      above below half (inl e) more =
          let rest = below half (omega (arith, e, enough, more)) (omega (arith, e, more)) (omega (arith, e, within)) in
          let is = is-tree.earlier half (omega (arith, e, more)) (omega (arith, e, within)) in
          let step : NoLater (due_at tree half) (due_at tree (2 * half)) =
          subst (λ o. NoLater o (due_at tree (2 * half))) (sym is) (left (due_at tree (2 * half)) (due_at tree (2 * half + 1))) in
          along (due_at tree 1) (due_at tree half) (due_at tree at) rest (subst (λ k. NoLater (due_at tree half) (due_at tree k)) (sym e) step)
      above below half (inr e) more =
          let rest = below half (omega (arith, e, enough, more)) (omega (arith, e, more)) (omega (arith, e, within)) in
          let is = is-tree.earlier half (omega (arith, e, more)) (omega (arith, e, within)) in
          let step : NoLater (due_at tree half) (due_at tree (2 * half + 1)) =
          subst (λ o. NoLater o (due_at tree (2 * half + 1))) (sym is) (right (due_at tree (2 * half)) (due_at tree (2 * half + 1))) in
          along (due_at tree 1) (due_at tree half) (due_at tree at) rest (subst (λ k. NoLater (due_at tree half) (due_at tree k)) (sym e) step)

      by : AllUpTo fuel → (1 < at) ⊎ (at ≤ 1) → NoLater (due_at tree 1) (due_at tree at)
      by below (inl more) = let h = half_of at in above below h.half h.is more
      by below (inr one) = let e : at ≡ 1 = omega (arith, one, some) in subst (λ k. NoLater (due_at tree 1) (due_at tree k)) (sym e) (itself (due_at tree 1))

  least : (id : ℕ) → 1 ≤ count → NoLater (due_at tree 1) (due_at (drop count tree) id)
  unfolding NoLater
  least id some = by (cases_lt id count)
    where
      here : due_at (drop count tree) id ≡ due_at tree (count + id)
      here = get_or-drop count tree id None

      by : (id < count) ⊎ (count ≤ id) → NoLater (due_at tree 1) (due_at (drop count tree) id)
      by (inl within) =
          subst (λ o. NoLater (due_at tree 1) o) (sym here)
          (least_below (count + id) (count + id) (omega arith) (omega (arith, some)) (omega (arith, within)))
      by (inr past) =
          let none : due_at tree (count + id) ≡ None = get_or_past tree (count + id) None (omega (arith, past, is-tree.size)) in
          subst (λ o. NoLater (due_at tree 1) o) (sym (here ∙ none)) (nothing (due_at tree 1))
        where
          nothing : (o : Option ℕ) → NoLater o None
          nothing None = tt
          nothing (Some time) = tt

  -- none is due where the root has no time
  pub none_is_due : 1 ≤ count → due_at tree 1 ≡ None → NoneIsDue (drop count tree)
  unfolding NoLater
  none_is_due some none id = by (due_at (drop count tree) id) (subst (λ o. NoLater o (due_at (drop count tree) id)) none (least id some))
    where
      by : (o : Option ℕ) → NoLater None o → o ≡ None
      by None h = refl
      by (Some time) h = absurd h

  -- the leaf that has the time of the root is that of the first
  pub is_first : 1 ≤ count → (time leaf : ℕ) → due_at tree 1 ≡ Some time → count ≤ leaf → due_at tree leaf ≡ due_at tree 1
      → IsFirst (drop count tree) time (leaf - count)
  unfolding NoLater
  is_first some time leaf root past same = record {
    due = get_or-drop count tree (leaf - count) None ∙ subst (λ k. due_at tree k ≡ Some time) (omega (arith, past)) (same ∙ root);
    least = λ other. by (due_at (drop count tree) other) (subst (λ o. NoLater o (due_at (drop count tree) other)) root (least other some));
  }
    where
      by : (o : Option ℕ) → NoLater (Some time) o → IfSome o (λ t. time ≤ t)
      by None h = tt
      by (Some other) h = h
