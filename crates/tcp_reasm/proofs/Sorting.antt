-- Runs with strictly falling stamps are the newest-first order of any list of the same runs.
use Rattle.std.proofs.Common.{◌≡◌, ℕ, suc, ◌+◌, ◌<◌, ◌⊎◌, inl, inr, List, [], ◌∷◌, length, refl, sym, ◌∙◌, ap, subst, arith}
use Rattle.std.specs.Prelude.{Bool, true, false, nat_lt, if◌then◌else◌}
use Rattle.std.specs.List.{AllByRecursion, count_by}
use Rattle.std.proofs.lemmas.Bool.Decides.{nat_tests}
use Rattle.std.proofs.lemmas.List.Sums.{sum_by-cons}
use Rattle.tcp_reasm.specs.Reassembly.{Run, insertion_by_stamp, runs_newest_first}

-- a run among others
abbrev pub Among : Run → List Run → Type 0
Among run [] = ⊥
Among run (other ∷ others) = (run ≡ other) ⊎ Among run others

abbrev pub Distinct : List Run → Type 0
Distinct [] = Unit {0}
Distinct (run ∷ others) = (Among run others → ⊥) × Distinct others

-- no two have one stamp, and the greatest comes first
abbrev pub FallsFrom : List Run → Type 0
FallsFrom [] = Unit {0}
FallsFrom (run ∷ others) = AllByRecursion (λ (other : Run). other.stamp < run.stamp) others × FallsFrom others

pub all_among : (P : Run → Type 0) (all : List Run) (run : Run) → AllByRecursion P all → Among run all → P run
all_among P [] run h m = absurd m
all_among P (other ∷ others) run h (inl e) = subst P (sym e) h.0
all_among P (other ∷ others) run h (inr m) = all_among P others run h.1 m

abbrev without : (run : Run) (all : List Run) → Among run all → List Run
without run [] m = []
without run (other ∷ others) (inl e) = others
without run (other ∷ others) (inr m) = other ∷ without run others m

among_without : (run : Run) (all : List Run) (m : Among run all) (x : Run) → Among x (without run all m) → Among x all
among_without run [] m x a = absurd m
among_without run (other ∷ others) (inl e) x a = inr a
among_without run (other ∷ others) (inr m) x (inl e) = inl e
among_without run (other ∷ others) (inr m) x (inr a) = inr (among_without run others m x a)

among_or : (run : Run) (all : List Run) (m : Among run all) (x : Run) → Among x all → (x ≡ run) ⊎ Among x (without run all m)
among_or run [] m x a = absurd m
among_or run (other ∷ others) (inl e) x (inl f) = inl (f ∙ sym e)
among_or run (other ∷ others) (inl e) x (inr a) = inr a
among_or run (other ∷ others) (inr m) x (inl f) = inr (inl f)
among_or run (other ∷ others) (inr m) x (inr a) = elim (among_or run others m x a) [ inl e ↦ inl e | inr b ↦ inr (inr b) ]

below_self : (run other : Run) → run ≡ other → run.stamp < other.stamp → ⊥
below_self run other e h = omega (arith, ap (λ (r : Run). r.stamp) e)

not_among : (run : Run) (all : List Run) (m : Among run all) → FallsFrom all → Among run (without run all m) → ⊥
not_among run [] m falls a = absurd m
not_among run (other ∷ others) (inl e) falls a = below_self run other e (all_among (λ (r : Run). r.stamp < other.stamp) others run falls.0 a)
not_among run (other ∷ others) (inr m) falls (inl e) = below_self run other e (all_among (λ (r : Run). r.stamp < other.stamp) others run falls.0 m)
not_among run (other ∷ others) (inr m) falls (inr a) = not_among run others m falls.1 a

all_without : (P : Run → Type 0) (run : Run) (all : List Run) (m : Among run all) → AllByRecursion P all → AllByRecursion P (without run all m)
all_without P run [] m h = absurd m
all_without P run (other ∷ others) (inl e) h = h.1
all_without P run (other ∷ others) (inr m) h = (h.0, all_without P run others m h.1)

falls_without : (run : Run) (all : List Run) (m : Among run all) → FallsFrom all → FallsFrom (without run all m)
falls_without run [] m falls = absurd m
falls_without run (other ∷ others) (inl e) falls = falls.1
falls_without run (other ∷ others) (inr m) falls = (all_without (λ (r : Run). r.stamp < other.stamp) run others m falls.0, falls_without run others m falls.1)

below : (a b : ℕ) → a < b → nat_lt a b ≡ true
below a b h = grind (arith, nat_tests)

not_below : (a b : ℕ) → b < a → nat_lt a b ≡ false
not_below a b h = grind (arith, nat_tests)

first_inserted : (run : Run) (others : List Run) → AllByRecursion (λ (r : Run). r.stamp < run.stamp) others → insertion_by_stamp run others ≡ run ∷ others
first_inserted run [] h = refl
first_inserted run (other ∷ others) h = ap (λ b. if b then run ∷ other ∷ others else other ∷ insertion_by_stamp run others) (below other.stamp run.stamp h.0)

inserted : (run : Run) (all : List Run) (m : Among run all) → FallsFrom all → insertion_by_stamp run (without run all m) ≡ all
inserted run [] m falls = absurd m
inserted run (other ∷ others) (inl e) falls =
    first_inserted run others (subst (λ (r : Run). AllByRecursion (λ (q : Run). q.stamp < r.stamp) others) (sym e) falls.0)
    ∙ ap (λ (r : Run). r ∷ others) e
inserted run (other ∷ others) (inr m) falls =
    ap (λ b. if b then run ∷ other ∷ without run others m else other ∷ insertion_by_stamp run (without run others m))
    (not_below other.stamp run.stamp (all_among (λ (r : Run). r.stamp < other.stamp) others run falls.0 m))
    ∙ ap (λ rs. other ∷ rs) (inserted run others m falls.1)

pub newest_is : (found all : List Run) → Distinct found → FallsFrom all → ((r : Run) → Among r found → Among r all) → ((r : Run) → Among r all → Among r found) → runs_newest_first found ≡ all
unfolding runs_newest_first
newest_is [] [] distinct falls into back = refl
newest_is [] (run ∷ others) distinct falls into back = absurd (back run (inl refl))
newest_is (run ∷ found) all distinct falls into back =
    let m : Among run all = into run (inl refl) in
    ap (insertion_by_stamp run) (newest_is found (without run all m) distinct.1 (falls_without run all m falls)
    (λ x a. elim (among_or run all m x (into x (inr a))) [ inl e ↦ absurd (distinct.0 (subst (λ (y : Run). Among y found) e a)) | inr b ↦ b ])
    (λ x a. elim (back x (among_without run all m x a)) [ inl e ↦ absurd (not_among run all m falls (subst (λ (y : Run). Among y (without run all m)) e a)) | inr b ↦ b ]))
    ∙ inserted run all m falls

-- ---- the order changes no count

length_inserted : (run : Run) (others : List Run) → length (insertion_by_stamp run others) ≡ suc (length others)
length_inserted run [] = refl
length_inserted run (other ∷ others) =
    elim (nat_lt other.stamp run.stamp) as (λ b. length (if b then run ∷ other ∷ others else other ∷ insertion_by_stamp run others) ≡ suc (suc (length others)))
    [ true ↦ refl | false ↦ ap suc (length_inserted run others) ]

pub length_newest : (all : List Run) → length (runs_newest_first all) ≡ length all
unfolding runs_newest_first
length_newest [] = refl
length_newest (run ∷ others) = length_inserted run (runs_newest_first others) ∙ ap suc (length_newest others)

pub count_cons : (p : Run → Bool) (run : Run) (others : List Run) → count_by p (run ∷ others) ≡ (if p run then 1 else 0) + count_by p others
count_cons p run others = sum_by-cons (λ r. if p r then 1 else 0) run others

count_inserted : (p : Run → Bool) (run : Run) (others : List Run) → count_by p (insertion_by_stamp run others) ≡ count_by p (run ∷ others)
count_inserted p run [] = refl
count_inserted p run (other ∷ others) =
    elim (nat_lt other.stamp run.stamp) as (λ b. count_by p (if b then run ∷ other ∷ others else other ∷ insertion_by_stamp run others) ≡ count_by p (run ∷ other ∷ others)) [
      | true ↦ refl
      | false ↦ omega (arith, count_inserted p run others, count_cons p other (insertion_by_stamp run others), count_cons p run others, count_cons p run (other ∷ others), count_cons p other others)
    ]

pub count_newest : (p : Run → Bool) (all : List Run) → count_by p (runs_newest_first all) ≡ count_by p all
unfolding runs_newest_first
count_newest p [] = refl
count_newest p (run ∷ others) = omega (arith, count_inserted p run (runs_newest_first others), count_newest p others, count_cons p run (runs_newest_first others), count_cons p run others)
