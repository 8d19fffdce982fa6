-- Rows field by field, and the ring after its links are written.
use Rattle.std.proofs.Common.{◌≡◌, ℕ, suc, ◌-◌, ◌<◌, ◌≤◌, List, [], ◌∷◌, ◌++◌, length, get_or, set, take, drop, append-nil, refl, sym, ◌∙◌, ap, subst, arith}
use Rattle.std.proofs.lemmas.List.{take_all, drop_all, get_or_default}
use Rattle.std.proofs.Math.ListN.{get_or-map}
use Rattle.tcp_reasm.specs.declared.rows.Row.{Row}
use Rattle.tcp_reasm.specs.Rows.{olders, newers, orders, spans, span, span_of, at, count, without, chain, IsLoop, loop_of, IsRing}
use Rattle.tcp_reasm.proofs.Links.{once_same, beside, moved_front, moved_back, grown}

abbrev pub bare : Row
bare = record { from = 0; to = 0; newer = 0; older = 0; order = 0 }

pub older_at : (rows : List Row) (i : ℕ) → (get_or rows i bare).older ≡ at (olders rows) i
older_at rows i = sym (get_or-map (λ (row : Row). row.older) rows i bare)

pub newer_at : (rows : List Row) (i : ℕ) → (get_or rows i bare).newer ≡ at (newers rows) i
newer_at rows i = sym (get_or-map (λ (row : Row). row.newer) rows i bare)

pub order_at : (rows : List Row) (i : ℕ) → (get_or rows i bare).order ≡ at (orders rows) i
order_at rows i = sym (get_or-map (λ (row : Row). row.order) rows i bare)

pub span_at : (rows : List Row) (i : ℕ) → span_of (get_or rows i bare) ≡ get_or (spans rows) i (span 0 0)
span_at rows i = sym (get_or-map span_of rows i bare)

-- an element by its index, whatever stands for none
pub found : (rows : List Row) (i : ℕ) (row : Row) → i < length rows → row ≡ get_or rows i row → row ≡ get_or rows i bare
found rows i row below is = is ∙ get_or_default rows i row bare below

-- ---- the rows beside one

pub near : (rows : List Row) (id : ℕ) → IsRing rows → 0 < count id (loop_of rows) → ((get_or rows id bare).older < length rows) × ((get_or rows id bare).newer < length rows)
near rows id ring some =
    let both = beside (length rows) (olders rows) (newers rows) id ring (omega (arith, some)) in (omega (arith, older_at rows id, both.0), omega (arith, newer_at rows id, both.1))

pub ends : (rows : List Row) → IsRing rows → ((get_or rows 0 bare).older < length rows) × ((get_or rows 0 bare).newer < length rows)
ends rows ring =
    let both = beside (length rows) (olders rows) (newers rows) 0 ring (omega (arith, once_same 0 0 refl)) in (omega (arith, older_at rows 0, both.0), omega (arith, newer_at rows 0, both.1))

pub inside : (rows : List Row) (id : ℕ) → IsRing rows → 0 < count id (loop_of rows) → id < length rows
inside rows id ring some = ring.inside id (omega (arith, some))

-- ---- a row that is moved

pub front_next : (size id p q next : ℕ) (older newer o1 : List ℕ) → IsLoop size older newer → 0 < count id (chain (size - 1) 0 older) → p ≡ at newer id → q ≡ at older id → o1 ≡ set older p q → next ≡ at o1 0 → next < size
front_next size id p q next older newer o1 ring some p_is q_is o1_is next_is =
    let made = moved_front size id older newer ring some in
    let first : o1 ≡ set older (at newer id) (at older id) = o1_is ∙ ap (λ i. set older i q) p_is ∙ ap (λ v. set older (at newer id) v) q_is in
    omega (arith, made.0, next_is ∙ ap (λ (xs : List ℕ). at xs 0) first)

pub front_ring : (size n id p q next : ℕ) (older newer o1 n1 o2 n2 o3 n3 : List ℕ) → n ≡ size → IsLoop size older newer → 0 < count id (chain (size - 1) 0 older) → p ≡ at newer id → q ≡ at older id
    → o1 ≡ set older p q → n1 ≡ set newer q p → next ≡ at o1 0 → o2 ≡ set o1 0 id → n2 ≡ set n1 id 0 → o3 ≡ set o2 id next → n3 ≡ set n2 next id
    → IsLoop n o3 n3 × (chain (n - 1) 0 o3 ≡ id ∷ without id (chain (size - 1) 0 older))
front_ring size n id p q next older newer o1 n1 o2 n2 o3 n3 same ring some p_is q_is o1_is n1_is next_is o2_is n2_is o3_is n3_is =
    let made = moved_front size id older newer ring some in
    let o : List ℕ = set older (at newer id) (at older id) in
    let w : List ℕ = set newer (at older id) (at newer id) in
    let first : o1 ≡ o = o1_is ∙ ap (λ i. set older i q) p_is ∙ ap (λ v. set older (at newer id) v) q_is in
    let second : n1 ≡ w = n1_is ∙ ap (λ i. set newer i p) q_is ∙ ap (λ v. set newer (at older id) v) p_is in
    let after : next ≡ at o 0 = next_is ∙ ap (λ (xs : List ℕ). at xs 0) first in
    let third : o3 ≡ set (set o 0 id) id (at o 0) = o3_is ∙ ap (λ (xs : List ℕ). set xs id next) (o2_is ∙ ap (λ (xs : List ℕ). set xs 0 id) first) ∙ ap (λ v. set (set o 0 id) id v) after in
    let fourth : n3 ≡ set (set w id 0) (at o 0) id = n3_is ∙ ap (λ (xs : List ℕ). set xs next id) (n2_is ∙ ap (λ (xs : List ℕ). set xs id 0) second) ∙ ap (λ i. set (set w id 0) i id) after in (
      subst (λ k. IsLoop k o3 n3) (sym same) (subst (λ xs. IsLoop size xs n3) (sym third) (subst (λ ys. IsLoop size (set (set o 0 id) id (at o 0)) ys) (sym fourth) made.1)),
      ap (λ k. chain (k - 1) 0 o3) same ∙ ap (chain (size - 1) 0) third ∙ made.2,
    )

pub back_next : (size id p q last : ℕ) (older newer n1 : List ℕ) → IsLoop size older newer → 0 < count id (chain (size - 1) 0 older) → p ≡ at newer id → q ≡ at older id → n1 ≡ set newer q p → last ≡ at n1 0 → last < size
back_next size id p q last older newer n1 ring some p_is q_is n1_is last_is =
    let made = moved_back size id older newer ring some in
    let second : n1 ≡ set newer (at older id) (at newer id) = n1_is ∙ ap (λ i. set newer i p) q_is ∙ ap (λ v. set newer (at older id) v) p_is in
    omega (arith, made.0, last_is ∙ ap (λ (xs : List ℕ). at xs 0) second)

pub back_ring : (size n id p q last : ℕ) (older newer o1 n1 o2 n2 o3 n3 : List ℕ) → n ≡ size → IsLoop size older newer → 0 < count id (chain (size - 1) 0 older) → p ≡ at newer id → q ≡ at older id
    → o1 ≡ set older p q → n1 ≡ set newer q p → last ≡ at n1 0 → o2 ≡ set o1 last id → n2 ≡ set n1 id last → o3 ≡ set o2 id 0 → n3 ≡ set n2 0 id
    → IsLoop n o3 n3 × (chain (n - 1) 0 o3 ≡ without id (chain (size - 1) 0 older) ++ id ∷ [])
back_ring size n id p q last older newer o1 n1 o2 n2 o3 n3 same ring some p_is q_is o1_is n1_is last_is o2_is n2_is o3_is n3_is =
    let made = moved_back size id older newer ring some in
    let o : List ℕ = set older (at newer id) (at older id) in
    let w : List ℕ = set newer (at older id) (at newer id) in
    let first : o1 ≡ o = o1_is ∙ ap (λ i. set older i q) p_is ∙ ap (λ v. set older (at newer id) v) q_is in
    let second : n1 ≡ w = n1_is ∙ ap (λ i. set newer i p) q_is ∙ ap (λ v. set newer (at older id) v) p_is in
    let before : last ≡ at w 0 = last_is ∙ ap (λ (xs : List ℕ). at xs 0) second in
    let third : o3 ≡ set (set o (at w 0) id) id 0 = o3_is ∙ ap (λ (xs : List ℕ). set xs id 0) (o2_is ∙ ap (λ (xs : List ℕ). set xs last id) first ∙ ap (λ i. set o i id) before) in
    let fourth : n3 ≡ set (set w id (at w 0)) 0 id = n3_is ∙ ap (λ (xs : List ℕ). set xs 0 id) (n2_is ∙ ap (λ (xs : List ℕ). set xs id last) second ∙ ap (λ v. set w id v) before) in (
      subst (λ k. IsLoop k o3 n3) (sym same) (subst (λ xs. IsLoop size xs n3) (sym third) (subst (λ ys. IsLoop size (set (set o (at w 0) id) id 0) ys) (sym fourth) made.1)),
      ap (λ k. chain (k - 1) 0 o3) same ∙ ap (chain (size - 1) 0) third ∙ made.2,
    )

pub grown_ring : (size n last : ℕ) (older newer o1 n1 o2 n2 o3 n3 : List ℕ) → n ≡ suc size → IsLoop size older newer → last ≡ at newer 0
    → o1 ≡ older ++ 0 ∷ [] → n1 ≡ newer ++ 0 ∷ [] → o2 ≡ set o1 last size → n2 ≡ set n1 size last → o3 ≡ set o2 size 0 → n3 ≡ set n2 0 size
    → IsLoop n o3 n3 × (chain (n - 1) 0 o3 ≡ chain (size - 1) 0 older ++ size ∷ [])
grown_ring size n last older newer o1 n1 o2 n2 o3 n3 same ring last_is o1_is n1_is o2_is n2_is o3_is n3_is =
    let made = grown size 0 0 older newer ring in
    let o : List ℕ = older ++ 0 ∷ [] in
    let w : List ℕ = newer ++ 0 ∷ [] in
    let third : o3 ≡ set (set o (at newer 0) size) size 0 = o3_is ∙ ap (λ (xs : List ℕ). set xs size 0) (o2_is ∙ ap (λ (xs : List ℕ). set xs last size) o1_is ∙ ap (λ i. set o i size) last_is) in
    let fourth : n3 ≡ set (set w size (at newer 0)) 0 size = n3_is ∙ ap (λ (xs : List ℕ). set xs 0 size) (n2_is ∙ ap (λ (xs : List ℕ). set xs size last) n1_is ∙ ap (λ v. set w size v) last_is) in (
      subst (λ k. IsLoop k o3 n3) (sym same) (subst (λ xs. IsLoop (suc size) xs n3) (sym third) (subst (λ ys. IsLoop (suc size) (set (set o (at newer 0) size) size 0) ys) (sym fourth) made.1)),
      ap (λ k. chain (k - 1) 0 o3) same ∙ ap (chain (suc size - 1) 0) third ∙ made.2,
    )

-- ---- what a vector has after a call on its slice

pub whole : (n : ℕ) (xs ys : List Row) → length xs ≡ n → length ys ≤ n → take n (xs ++ drop (length xs) ys) ≡ xs
whole n xs ys same few =
    ap (λ (zs : List Row). take n (xs ++ zs)) (drop_all (length xs) ys (omega (arith, same, few))) ∙ (ap (take n) (append-nil xs) ∙ take_all n xs (omega (arith, same)))

pub whole_twice : (n : ℕ) (xs ys zs : List Row) → length xs ≡ n → length ys ≡ n → length zs ≤ n → take n (xs ++ drop (length xs) (take n (ys ++ drop (length ys) zs))) ≡ xs
whole_twice n xs ys zs first second few =
    ap (λ (rows : List Row). take n (xs ++ drop (length xs) rows)) (whole n ys zs second few) ∙ whole n xs ys first (omega (arith, second))
