-- Lemmas on marked bytes.
use Rattle.std.proofs.Common.{◌≡◌, ℕ, zero, suc, ◌+◌, ◌-◌, ◌<◌, ◌≤◌, ◌⊎◌, Bool, true, false, not, List, [], ◌∷◌, ◌++◌, length, take, drop, replicate, Some, None, slice_get, refl, sym, ap, subst, ◌∙◌, inl, inr, arith, length-append, length-drop, length-take}
use Rattle.std.proofs.lemmas.List.{length-replicate}
use Rattle.std.proofs.lemmas.Bool.Decides.{nat_tests}
use Rattle.std.proofs.lemmas.Bool.{cases_lt}
use Rattle.tcp_sendq.specs.SendQueue.{Queue, after_release, after_offer, count_taken, without_marks, marks_with, count_leading, first_unmarked, next_unmarked, IsNextUnmarked, AllMarkedFrom, end_of_marks, last_mark_end, IsLastMarkEnd, NoneMarkedFrom, IsMarked}

slice_get-drop : {X : Type 0} (n : ℕ) (xs : List X) (k : ℕ) → slice_get (drop n xs) k ≡ slice_get xs (n + k)
slice_get-drop zero xs k = let e : k ≡ 0 + k = omega arith in ap (slice_get xs) e
slice_get-drop (suc n) [] k = refl
slice_get-drop (suc n) (x ∷ xs) k =
    let e : suc (n + k) ≡ suc n + k = omega arith in slice_get-drop n xs k ∙ ap (slice_get (x ∷ xs)) e

slice_get-append_left : {X : Type 0} (xs ys : List X) (k : ℕ) → k < length xs → slice_get (xs ++ ys) k ≡ slice_get xs k
slice_get-append_left [] ys k h = absurd (omega arith)
slice_get-append_left (x ∷ xs) ys zero h = refl
slice_get-append_left (x ∷ xs) ys (suc k) h = slice_get-append_left xs ys k (omega arith)

slice_get-append_right : {X : Type 0} (xs ys : List X) (k : ℕ) → length xs ≤ k → slice_get (xs ++ ys) k ≡ slice_get ys (k - length xs)
slice_get-append_right [] ys k h = let e : k ≡ k - 0 = omega arith in ap (slice_get ys) e
slice_get-append_right (x ∷ xs) ys zero h = absurd (omega arith)
slice_get-append_right (x ∷ xs) ys (suc k) h =
    let e : k - length xs ≡ suc k - suc (length xs) = omega arith in slice_get-append_right xs ys k (omega arith) ∙ ap (slice_get ys) e

slice_get-replicate : {X : Type 0} (n : ℕ) (x : X) (k : ℕ) → k < n → slice_get (replicate n x) k ≡ Some x
slice_get-replicate zero x k h = absurd (omega arith)
slice_get-replicate (suc n) x zero h = refl
slice_get-replicate (suc n) x (suc k) h = slice_get-replicate n x k (omega arith)

slice_get-take : {X : Type 0} (n : ℕ) (xs : List X) (k : ℕ) → k < n → slice_get (take n xs) k ≡ slice_get xs k
slice_get-take zero xs k h = absurd (omega arith)
slice_get-take (suc n) [] k h = refl
slice_get-take (suc n) (x ∷ xs) zero h = refl
slice_get-take (suc n) (x ∷ xs) (suc k) h = slice_get-take n xs k (omega arith)

-- ---- the marks after each call

-- the part in front of what a call marks, and that part with it
length_front : (from : ℕ) (marks : List Bool) → from ≤ length marks → length (take from marks) ≡ from
length_front from marks h = omega (arith, length-take from marks)

length_marked : (from to : ℕ) (marks : List Bool) → from ≤ to → to ≤ length marks → length (take from marks ++ replicate (to - from) true) ≡ to
length_marked from to marks ordered within =
    omega (arith, length_front from marks (omega arith), length-append (take from marks) (replicate (to - from) true), length-replicate (to - from) true)

pub marks_with-below : (from to : ℕ) (marks : List Bool) (place : ℕ) → from ≤ to → to ≤ length marks → place < from → slice_get (marks_with from to marks) place ≡ slice_get marks place
marks_with-below from to marks place ordered within below =
    slice_get-append_left (take from marks ++ replicate (to - from) true) (drop to marks) place (omega (arith, length_marked from to marks ordered within))
    ∙ (slice_get-append_left (take from marks) (replicate (to - from) true) place (omega (arith, length_front from marks (omega arith)))
    ∙ slice_get-take from marks place below)

pub marks_with-inside : (from to : ℕ) (marks : List Bool) (place : ℕ) → from ≤ place → place < to → to ≤ length marks → slice_get (marks_with from to marks) place ≡ Some true
marks_with-inside from to marks place low high within =
    let front : length (take from marks) ≡ from = length_front from marks (omega arith) in
    slice_get-append_left (take from marks ++ replicate (to - from) true) (drop to marks) place (omega (arith, length_marked from to marks (omega arith) within))
    ∙ (slice_get-append_right (take from marks) (replicate (to - from) true) place (omega arith)
    ∙ slice_get-replicate (to - from) true (place - length (take from marks)) (omega arith))

pub marks_with-above : (from to : ℕ) (marks : List Bool) (place : ℕ) → from ≤ to → to ≤ length marks → to ≤ place → slice_get (marks_with from to marks) place ≡ slice_get marks place
marks_with-above from to marks place ordered within above =
    let front : length (take from marks ++ replicate (to - from) true) ≡ to = length_marked from to marks ordered within in
    let e : to + (place - length (take from marks ++ replicate (to - from) true)) ≡ place = omega arith in
    slice_get-append_right (take from marks ++ replicate (to - from) true) (drop to marks) place (omega arith)
    ∙ (slice_get-drop to marks (place - length (take from marks ++ replicate (to - from) true)) ∙ ap (slice_get marks) e)

-- what is marked then was marked or is in the part
pub marks_with-only : (from to : ℕ) (marks : List Bool) (place : ℕ) → from ≤ to → to ≤ length marks → slice_get (marks_with from to marks) place ≡ Some true → (slice_get marks place ≡ Some true) ⊎ ((from ≤ place) × (place < to))
marks_with-only from to marks place ordered within holds = elim (cases_lt place from) [
  | inl below ↦ inl (sym (marks_with-below from to marks place ordered within below) ∙ holds)
  | inr low ↦ elim (cases_lt place to) [
    | inl high ↦ inr (low, high)
    | inr above ↦ inl (sym (marks_with-above from to marks place ordered within above) ∙ holds)
  ]
]

-- and the other way round
pub marks_with-all : (from to : ℕ) (marks : List Bool) (place : ℕ) → from ≤ to → to ≤ length marks → (slice_get marks place ≡ Some true) ⊎ ((from ≤ place) × (place < to)) → slice_get (marks_with from to marks) place ≡ Some true
marks_with-all from to marks place ordered within (inl held) = elim (cases_lt place from) [
  | inl below ↦ marks_with-below from to marks place ordered within below ∙ held
  | inr low ↦ elim (cases_lt place to) [
    | inl high ↦ marks_with-inside from to marks place low high within
    | inr above ↦ marks_with-above from to marks place ordered within above ∙ held
  ]
]
marks_with-all from to marks place ordered within (inr inside) = marks_with-inside from to marks place inside.0 inside.1 within

no_mark_in_unmarked : (n place : ℕ) → slice_get (replicate n false) place ≡ Some true → ⊥
no_mark_in_unmarked zero place h = cc
no_mark_in_unmarked (suc n) zero h = cc
no_mark_in_unmarked (suc n) (suc place) h = no_mark_in_unmarked n place h

-- after a timeout nothing is marked
pub IsMarked-without_marks : (q : Queue) (place : ℕ) → IsMarked (without_marks q) place → ⊥
unfolding without_marks
IsMarked-without_marks q place holds = no_mark_in_unmarked (length q.bytes) place holds

-- a release moves each mark down
pub IsMarked-after_release : (q : Queue) (n place : ℕ) → IsMarked (after_release q n) place → IsMarked q (n + place)
IsMarked-after_release q n place holds = sym (slice_get-drop n q.marks place) ∙ holds

-- what is offered comes without marks
pub IsMarked-after_offer : (q : Queue) (text : List ℕ) (place : ℕ) → IsMarked (after_offer q text) place → IsMarked q place
IsMarked-after_offer q text place holds = elim (cases_lt place (length q.marks)) [
  | inl old ↦ sym (slice_get-append_left q.marks (replicate (count_taken q text) false) place old) ∙ holds
  | inr new ↦
      let behind : slice_get (replicate (count_taken q text) false) (place - length q.marks) ≡ Some true =
      sym (slice_get-append_right q.marks (replicate (count_taken q text) false) place new) ∙ holds in
      absurd (no_mark_in_unmarked (count_taken q text) (place - length q.marks) behind)
]

-- ---- leading flags

pub count_leading-le : (flag : Bool) (marks : List Bool) → count_leading flag marks ≤ length marks
count_leading-le flag [] = omega arith
count_leading-le true (true ∷ marks) = omega (arith, count_leading-le true marks)
count_leading-le true (false ∷ marks) = omega arith
count_leading-le false (true ∷ marks) = omega arith
count_leading-le false (false ∷ marks) = omega (arith, count_leading-le false marks)

count_leading-at : (flag : Bool) (marks : List Bool) (k : ℕ) → k < count_leading flag marks → slice_get marks k ≡ Some flag
count_leading-at flag [] k h = absurd (omega arith)
count_leading-at true (true ∷ marks) zero h = refl
count_leading-at true (true ∷ marks) (suc k) h = count_leading-at true marks k (omega arith)
count_leading-at true (false ∷ marks) k h = absurd (omega arith)
count_leading-at false (true ∷ marks) k h = absurd (omega arith)
count_leading-at false (false ∷ marks) zero h = refl
count_leading-at false (false ∷ marks) (suc k) h = count_leading-at false marks k (omega arith)

count_leading-stops : (flag : Bool) (marks : List Bool) → count_leading flag marks < length marks → slice_get marks (count_leading flag marks) ≡ Some (not flag)
count_leading-stops flag [] h = absurd (omega arith)
count_leading-stops true (true ∷ marks) h = count_leading-stops true marks (omega arith)
count_leading-stops true (false ∷ marks) h = refl
count_leading-stops false (true ∷ marks) h = refl
count_leading-stops false (false ∷ marks) h = count_leading-stops false marks (omega arith)

count_leading-positive : (flag : Bool) (marks : List Bool) → slice_get marks 0 ≡ Some flag → 0 < count_leading flag marks
count_leading-positive flag [] h = cc
count_leading-positive true (true ∷ marks) h = omega arith
count_leading-positive true (false ∷ marks) h = cc
count_leading-positive false (true ∷ marks) h = cc
count_leading-positive false (false ∷ marks) h = omega arith

-- as count_leading, from an offset on
pub count_leading_between : (flag : Bool) (marks : List Bool) (at place : ℕ) → at ≤ place → place < at + count_leading flag (drop at marks) → slice_get marks place ≡ Some flag
count_leading_between flag marks at place low high =
    let e : at + (place - at) ≡ place = omega arith in
    ap (slice_get marks) (sym e) ∙ (sym (slice_get-drop at marks (place - at)) ∙ count_leading-at flag (drop at marks) (place - at) (omega arith))

pub count_leading_then : (flag : Bool) (marks : List Bool) (at : ℕ) → at + count_leading flag (drop at marks) < length marks → slice_get marks (at + count_leading flag (drop at marks)) ≡ Some (not flag)
count_leading_then flag marks at h =
    sym (slice_get-drop at marks (count_leading flag (drop at marks))) ∙ count_leading-stops flag (drop at marks) (omega (arith, length-drop at marks))

pub count_leading_within : (flag : Bool) (marks : List Bool) (at : ℕ) → at ≤ length marks → at + count_leading flag (drop at marks) ≤ length marks
count_leading_within flag marks at h = omega (arith, count_leading-le flag (drop at marks), length-drop at marks)

-- ---- the next unmarked byte

pub next_some : (q : Queue) (at : ℕ) → first_unmarked q at < length q.marks → next_unmarked q at ≡ Some (first_unmarked q at, first_unmarked q at + count_leading false (drop (first_unmarked q at) q.marks))
unfolding next_unmarked
next_some q at h = grind (arith, nat_tests)

pub next_none : (q : Queue) (at : ℕ) → length q.marks ≤ first_unmarked q at → next_unmarked q at ≡ None
unfolding next_unmarked
next_none q at h = grind (arith, nat_tests)

pub is_next_unmarked : (q : Queue) (at : ℕ) → length q.marks ≡ length q.bytes → first_unmarked q at < length q.marks → IsNextUnmarked q at (first_unmarked q at, first_unmarked q at + count_leading false (drop (first_unmarked q at) q.marks))
is_next_unmarked q at flags h =
    let from = first_unmarked q at in
    let first : slice_get q.marks from ≡ Some false = count_leading_then true q.marks at h in
    let first_of_rest : slice_get (drop from q.marks) 0 ≡ Some false =
    slice_get-drop from q.marks 0 ∙ (ap (slice_get q.marks) (omega arith) ∙ first) in
    let some : 0 < count_leading false (drop from q.marks) = count_leading-positive false (drop from q.marks) first_of_rest in
    let within : from + count_leading false (drop from q.marks) ≤ length q.marks = count_leading_within false q.marks from (omega arith) in
    record {
      from_at = omega arith;
      ordered = omega arith;
      within = omega arith;
      passed_over = λ place low high. count_leading_between true q.marks at place low high;
      unmarked_run = λ place low high. count_leading_between false q.marks from place low high;
      maximal = elim (cases_lt (from + count_leading false (drop from q.marks)) (length q.marks)) [ inl below ↦ inr (count_leading_then false q.marks from below) | inr past ↦ inl (omega arith) ];
    }

pub all_marked : (q : Queue) (at : ℕ) → length q.marks ≡ length q.bytes → length q.marks ≤ first_unmarked q at → AllMarkedFrom q at
all_marked q at flags h = λ place low high. count_leading_between true q.marks at place low (omega arith)

pub not_all_marked : (q : Queue) (at : ℕ) → length q.marks ≡ length q.bytes → first_unmarked q at < length q.marks → AllMarkedFrom q at → ⊥
not_all_marked q at flags h all =
    let first : slice_get q.marks (first_unmarked q at) ≡ Some false = count_leading_then true q.marks at h in
    let same : slice_get q.marks (first_unmarked q at) ≡ Some true = all (first_unmarked q at) (omega arith) (omega arith) in
    cc

-- ---- the end of the marks

end_of_marks-later : (marked : Bool) (marks : List Bool) → 0 < end_of_marks marks → end_of_marks (marked ∷ marks) ≡ suc (end_of_marks marks)
end_of_marks-later marked marks h = grind (arith, nat_tests)

end_of_marks-here : (marks : List Bool) → end_of_marks (true ∷ marks) ≡ suc (end_of_marks marks)
end_of_marks-here marks = grind (arith, nat_tests)

end_of_marks-nowhere : (marks : List Bool) → end_of_marks marks ≡ 0 → end_of_marks (false ∷ marks) ≡ 0
end_of_marks-nowhere marks h = grind (arith, nat_tests)

pub end_of_marks-le : (marks : List Bool) → end_of_marks marks ≤ length marks
end_of_marks-le [] = omega arith
end_of_marks-le (true ∷ marks) = omega (arith, end_of_marks-here marks, end_of_marks-le marks)
end_of_marks-le (false ∷ marks) = elim (cases_lt 0 (end_of_marks marks)) [
  | inl some ↦ omega (arith, end_of_marks-later false marks some, end_of_marks-le marks)
  | inr none ↦ omega (arith, end_of_marks-nowhere marks (omega arith))
]

marked_after : (marked : Bool) (marks : List Bool) → 0 < end_of_marks marks → slice_get marks (end_of_marks marks - 1) ≡ Some true → slice_get (marked ∷ marks) (end_of_marks (marked ∷ marks) - 1) ≡ Some true
marked_after marked marks some behind =
    let next : suc (end_of_marks marks - 1) ≡ end_of_marks (marked ∷ marks) - 1 =
    omega (arith, end_of_marks-later marked marks some) in
    subst (λ k. slice_get (marked ∷ marks) k ≡ Some true) next behind

pub end_of_marks-marked : (marks : List Bool) → 0 < end_of_marks marks → slice_get marks (end_of_marks marks - 1) ≡ Some true
end_of_marks-marked [] h = absurd (omega arith)
end_of_marks-marked (true ∷ marks) h = elim (cases_lt 0 (end_of_marks marks)) [
  | inl some ↦ marked_after true marks some (end_of_marks-marked marks some)
  | inr none ↦
      let whole : 0 ≡ end_of_marks (true ∷ marks) - 1 = omega (arith, end_of_marks-here marks) in
      subst (λ k. slice_get (true ∷ marks) k ≡ Some true) whole refl
]
end_of_marks-marked (false ∷ marks) h = elim (cases_lt 0 (end_of_marks marks)) [
  | inl some ↦ marked_after false marks some (end_of_marks-marked marks some)
  | inr none ↦ absurd (omega (arith, end_of_marks-nowhere marks (omega arith)))
]

pub end_of_marks-beyond : (marks : List Bool) (place : ℕ) → end_of_marks marks ≤ place → place < length marks → slice_get marks place ≡ Some false
end_of_marks-beyond [] place low high = absurd (omega arith)
end_of_marks-beyond (true ∷ marks) zero low high = absurd (omega (arith, end_of_marks-here marks))
end_of_marks-beyond (true ∷ marks) (suc place) low high =
    end_of_marks-beyond marks place (omega (arith, end_of_marks-here marks)) (omega arith)
end_of_marks-beyond (false ∷ marks) zero low high = refl
end_of_marks-beyond (false ∷ marks) (suc place) low high =
    let below : end_of_marks marks ≤ place = elim (cases_lt 0 (end_of_marks marks)) [
      | inl some ↦ omega (arith, end_of_marks-later false marks some)
      | inr none ↦ omega arith
    ] in
    end_of_marks-beyond marks place below (omega arith)

pub is_last_mark_end : (q : Queue) → length q.marks ≡ length q.bytes → 0 < end_of_marks q.marks → IsLastMarkEnd q (end_of_marks q.marks)
is_last_mark_end q flags some = record {
  within = omega (arith, end_of_marks-le q.marks);
  positive = some;
  last_marked = end_of_marks-marked q.marks some;
  none_beyond = λ place low high. end_of_marks-beyond q.marks place low (omega arith);
}

pub none_marked : (q : Queue) → length q.marks ≡ length q.bytes → end_of_marks q.marks ≡ 0 → NoneMarkedFrom q 0
none_marked q flags none = λ place low high. end_of_marks-beyond q.marks place (omega arith) (omega arith)

pub not_none_marked : (q : Queue) → length q.marks ≡ length q.bytes → 0 < end_of_marks q.marks → NoneMarkedFrom q 0 → ⊥
not_none_marked q flags some none =
    let last : slice_get q.marks (end_of_marks q.marks - 1) ≡ Some true = end_of_marks-marked q.marks some in
    let same : slice_get q.marks (end_of_marks q.marks - 1) ≡ Some false = none (end_of_marks q.marks - 1) (omega arith) (omega (arith, end_of_marks-le q.marks)) in
    cc

pub last_some : (q : Queue) → 0 < end_of_marks q.marks → last_mark_end q ≡ Some (end_of_marks q.marks)
unfolding last_mark_end
last_some q h = grind (arith, nat_tests)

pub last_none : (q : Queue) → end_of_marks q.marks ≡ 0 → last_mark_end q ≡ None
unfolding last_mark_end
last_none q h = grind (arith, nat_tests)
