-- An interval joined with all that it overlaps or touches at once: they stand side by side.
use Rattle.std.proofs.Common.{◌≡◌, ℕ, suc, ◌+◌, ◌-◌, ◌<◌, ◌≤◌, List, [], ◌∷◌, ◌++◌, length, take, drop, get_or, refl, ap, sym, ◌∙◌, inl, inr, arith, append_assoc}
use Rattle.std.specs.Prelude.{if◌then◌else◌, nat_le, min, max, set}
use Rattle.std.specs.List.{AllByRecursion, insert}
use Rattle.std.proofs.lemmas.Bool.{cases_lt, lt-leb, le-leb, lt-ltb, le-ltb}
use Rattle.std.proofs.lemmas.List.{drop-set-lt, take_more_set}
use Rattle.tcp_sendq.specs.declared.marks.Interval.{Interval}
use Rattle.tcp_sendq.specs.Marks.{interval, union, joined, joined_front, count_before, count_to, AreInOrder}
use Rattle.tcp_sendq.proofs.Intervals.{joined_front-apart, joined_front-touching, joined-before, joined-behind}

-- ---- counts

count_to-in : (to : ℕ) (one : Interval) (rest : List Interval) → one.start ≤ to → count_to to (one ∷ rest) ≡ suc (count_to to rest)
count_to-in to one rest h = ap (λ b. if b then suc (count_to to rest) else 0) (le-leb one.start to h)

count_to-out : (to : ℕ) (one : Interval) (rest : List Interval) → to < one.start → count_to to (one ∷ rest) ≡ 0
count_to-out to one rest h = ap (λ b. if b then suc (count_to to rest) else 0) (lt-leb one.start to h)

count_before-in : (from : ℕ) (one : Interval) (rest : List Interval) → one.end < from → count_before from (one ∷ rest) ≡ suc (count_before from rest)
count_before-in from one rest h = ap (λ b. if b then suc (count_before from rest) else 0) (lt-ltb one.end from h)

count_before-out : (from : ℕ) (one : Interval) (rest : List Interval) → from ≤ one.end → count_before from (one ∷ rest) ≡ 0
count_before-out from one rest h = ap (λ b. if b then suc (count_before from rest) else 0) (le-ltb one.end from h)

-- ---- how far the intervals reach that begin at an offset or before it

-- the end of the last of them, or this one where there is none
abbrev end_reached : ℕ → ℕ → List Interval → ℕ
end_reached to end [] = end
end_reached to end (one ∷ rest) = if nat_le one.start to then end_reached to one.end rest else end

end_reached-in : (to end : ℕ) (one : Interval) (rest : List Interval) → one.start ≤ to → end_reached to end (one ∷ rest) ≡ end_reached to one.end rest
end_reached-in to end one rest h = ap (λ b. if b then end_reached to one.end rest else end) (le-leb one.start to h)

end_reached-out : (to end : ℕ) (one : Interval) (rest : List Interval) → to < one.start → end_reached to end (one ∷ rest) ≡ end
end_reached-out to end one rest h = ap (λ b. if b then end_reached to one.end rest else end) (lt-leb one.start to h)

end_reached-last : (one : Interval) (to : ℕ) (table : List Interval) (d : Interval) → end_reached to one.end table ≡ (get_or (one ∷ table) (count_to to table) d).end
end_reached-last one to [] d = refl
end_reached-last one to (next ∷ rest) d = elim (cases_lt to next.start) [
  | inl out ↦ end_reached-out to one.end next rest out ∙ sym (ap (λ n. (get_or (one ∷ next ∷ rest) n d).end) (count_to-out to next rest out))
  | inr inside ↦ end_reached-in to one.end next rest inside
      ∙ (end_reached-last next to rest d ∙ sym (ap (λ n. (get_or (one ∷ next ∷ rest) n d).end) (count_to-in to next rest inside)))
]

union-later : (start to end : ℕ) (next : Interval) → start ≤ end → end < next.start → next.start < next.end → union (interval start (max to end)) next ≡ interval start (max to next.end)
union-later start to end next low above some =
    let first : min start next.start ≡ start = omega arith in
    let last : max (max to end) next.end ≡ max to next.end = omega arith in
    cc

-- an interval that ends at `to` or at the end of what it was joined with, before some that begin behind that
joined_front-reached : (start to end : ℕ) (table : List Interval) → start ≤ end → AllByRecursion (λ later. end < later.start) table → AreInOrder table
    → joined_front (interval start (max to end)) table ≡ interval start (max to (end_reached to end table)) ∷ drop (count_to to table) table
joined_front-reached start to end [] low above order = refl
joined_front-reached start to end (next ∷ rest) low above order = elim (cases_lt to next.start) [
  | inl out ↦
      let stops : end_reached to end (next ∷ rest) ≡ end = end_reached-out to end next rest out in
      let none : count_to to (next ∷ rest) ≡ 0 = count_to-out to next rest out in
      joined_front-apart (interval start (max to end)) next rest (omega (arith, out, above.0))
      ∙ sym (ap (λ e. interval start (max to e) ∷ drop (count_to to (next ∷ rest)) (next ∷ rest)) stops
      ∙ ap (λ n. interval start (max to end) ∷ drop n (next ∷ rest)) none)
  | inr inside ↦
      let goes : end_reached to end (next ∷ rest) ≡ end_reached to next.end rest = end_reached-in to end next rest inside in
      let more : count_to to (next ∷ rest) ≡ suc (count_to to rest) = count_to-in to next rest inside in
      joined_front-touching (interval start (max to end)) next rest (omega (arith, inside))
      ∙ (ap (λ one. joined_front one rest) (union-later start to end next low above.0 order.0)
      ∙ (joined_front-reached start to next.end rest (omega (arith, low, above.0, order.0)) order.1 order.2
      ∙ sym (ap (λ e. interval start (max to e) ∷ drop (count_to to (next ∷ rest)) (next ∷ rest)) goes
      ∙ ap (λ n. interval start (max to (end_reached to next.end rest)) ∷ drop n (next ∷ rest)) more)))
]

-- ---- the table after a mark

-- one that touches none goes between those before it and those behind it
pub joined-apart : (from to place : ℕ) (table : List Interval) → from < to → AreInOrder table → place ≡ count_before from table → count_to to table ≤ place
    → joined (interval from to) table ≡ insert table place (interval from to)
joined-apart from to place [] ordered order first none = rw first refl
joined-apart from to place (next ∷ rest) ordered order first none = elim (cases_lt next.end from) [
  | inl before ↦
      let more : count_before from (next ∷ rest) ≡ suc (count_before from rest) = count_before-in from next rest before in
      let early : count_to to (next ∷ rest) ≡ suc (count_to to rest) = count_to-in to next rest (omega (arith, order.0)) in
      joined-before (interval from to) next rest before
      ∙ (ap (λ t. next ∷ t) (joined-apart from to (count_before from rest) rest ordered order.2 refl (omega arith))
      ∙ sym (ap (λ n. insert (next ∷ rest) n (interval from to)) (first ∙ more)))
  | inr behind ↦
      let here : count_before from (next ∷ rest) ≡ 0 = count_before-out from next rest behind in
      joined-behind (interval from to) next rest behind
      ∙ (elim (cases_lt to next.start) [
        | inl out ↦ joined_front-apart (interval from to) next rest out
        | inr inside ↦ absurd (omega (arith, count_to-in to next rest inside))
      ]
      ∙ sym (ap (λ n. insert (next ∷ rest) n (interval from to)) (first ∙ here)))
]

-- one that touches some takes their place
pub joined-together : (from to place past : ℕ) (table : List Interval) (first last : Interval) → from < to → AreInOrder table
    → place ≡ count_before from table → past ≡ count_to to table → place < past → first ≡ get_or table place first → last ≡ get_or table (past - 1) last
    → joined (interval from to) table ≡ take place table ++ interval (min from first.start) (max to last.end) ∷ drop past table
joined-together from to place past [] first last ordered order at behind some is_first is_last = absurd (omega arith)
joined-together from to place past (next ∷ rest) first last ordered order at behind some is_first is_last = elim (cases_lt next.end from) [
  | inl before ↦
      let more : place ≡ suc (count_before from rest) = at ∙ count_before-in from next rest before in
      let early : past ≡ suc (count_to to rest) = behind ∙ count_to-in to next rest (omega (arith, order.0)) in
      let index : past - 1 ≡ suc (count_to to rest - 1) = omega arith in
      joined-before (interval from to) next rest before
      ∙ (ap (λ t. next ∷ t) (joined-together from to (count_before from rest) (count_to to rest) rest first last ordered order.2 refl refl (omega arith)
      (is_first ∙ ap (λ n. get_or (next ∷ rest) n first) more) (is_last ∙ ap (λ n. get_or (next ∷ rest) n last) index))
      ∙ sym (ap (λ n. take n (next ∷ rest) ++ interval (min from first.start) (max to last.end) ∷ drop past (next ∷ rest)) more
      ∙ ap (λ n. take (suc (count_before from rest)) (next ∷ rest) ++ interval (min from first.start) (max to last.end) ∷ drop n (next ∷ rest)) early))
  | inr reaches ↦
      let none : place ≡ 0 = at ∙ count_before-out from next rest reaches in
      elim (cases_lt to next.start) [
        | inl out ↦ absurd (omega (arith, count_to-out to next rest out))
        | inr inside ↦
            let more : past ≡ suc (count_to to rest) = behind ∙ count_to-in to next rest inside in
            let index : past - 1 ≡ count_to to rest = omega arith in
            let own : first ≡ next = is_first ∙ ap (λ n. get_or (next ∷ rest) n first) none in
            let end : end_reached to next.end rest ≡ last.end =
            end_reached-last next to rest last ∙ sym (ap (λ one. one.end) (is_last ∙ ap (λ n. get_or (next ∷ rest) n last) index)) in
            joined-behind (interval from to) next rest reaches
            ∙ (joined_front-touching (interval from to) next rest inside
            ∙ (joined_front-reached (min from next.start) to next.end rest (omega (arith, order.0)) order.1 order.2
            ∙ (ap (λ e. interval (min from next.start) (max to e) ∷ drop (count_to to rest) rest) end
            ∙ sym (ap (λ n. take n (next ∷ rest) ++ interval (min from first.start) (max to last.end) ∷ drop past (next ∷ rest)) none
            ∙ (ap (λ n. interval (min from first.start) (max to last.end) ∷ drop n (next ∷ rest)) more
            ∙ ap (λ one. interval (min from one.start) (max to last.end) ∷ drop (count_to to rest) rest) own)))))
      ]
]

-- one in the place of several
pub replaced : (table : List Interval) (place past : ℕ) (run : Interval) → place < past → past ≤ length table
    → take (place + 1) (set table place run) ++ drop past (set table place run) ≡ take place table ++ run ∷ drop past table
replaced table place past run some within =
    ap (λ front. front ++ drop past (set table place run)) (take_more_set table place run (omega arith))
    ∙ (ap (λ rest. (take place table ++ run ∷ []) ++ rest) (drop-set-lt past table place run some) ∙ append_assoc (take place table) (run ∷ []) (drop past table))
