-- Renumbered stamps change no block: only the order of stamps matters.
use Rattle.std.proofs.Common.{◌≡◌, ℕ, zero, suc, ◌+◌, ◌<◌, ◌≤◌, inl, inr, List, [], ◌∷◌, refl, sym, ◌∙◌, ap, subst, arith}
use Rattle.std.specs.Prelude.{Bool, true, false, max, take, map, nat_lt, nat_le, ◌==◌, if◌then◌else◌, Option, Some, None, IsSome}
use Rattle.std.specs.List.{AllByRecursion}
use Rattle.std.proofs.lemmas.Bool.{cases_lt}
use Rattle.std.proofs.lemmas.Bool.Decides.{nat_tests}
use Rattle.tcp_reasm.specs.Reassembly.{Cell, Run, runs, runs_from, with_place, stamp_of_run, rank_in, with_ranks, with_ranks_from, insertion_by_stamp, runs_newest_first, blocks, max_blocks}
use Rattle.tcp_reasm.specs.Laws.{cell_at, IsHeld, IsMaximal, SomeCovers, RanksKeepBlocks}
use Rattle.tcp_reasm.proofs.Maximal.{runs_are_maximal_lem, runs_cover_lem}
use Rattle.tcp_reasm.proofs.Sorting.{count_cons, Among, all_among}
use Rattle.tcp_reasm.proofs.Described.{covering, stamp_maximal}

-- ---- a run with the rank of the run that its first place is in

abbrev first_rank : List Run → Run → Run
first_rank all run = record run { stamp = rank_in all (stamp_of_run all run.from) }

-- the first of some runs begins at a place or after it
abbrev BeginsFrom : ℕ → List Run → Type 0
BeginsFrom place [] = Unit {0}
BeginsFrom place (run ∷ others) = place ≤ run.from

begins_choice : (b : Bool) (place : ℕ) (joined other run : Run) (others : List Run) → joined.from ≡ place → other.from ≡ place → BeginsFrom place (if b then joined ∷ others else other ∷ run ∷ others)
begins_choice true place joined other run others e e' = omega (arith, e)
begins_choice false place joined other run others e e' = omega (arith, e')

begins_with_place : (place stamp : ℕ) (all : List Run) → BeginsFrom place (with_place place stamp all)
begins_with_place place stamp [] = omega arith
begins_with_place place stamp (run ∷ others) =
    begins_choice (run.from == suc place) place (record { from = place; to = run.to; stamp = max stamp run.stamp }) (record { from = place; to = suc place; stamp = stamp }) run others refl refl

begins_weaken : (place : ℕ) (all : List Run) → BeginsFrom (suc place) all → BeginsFrom place all
begins_weaken place [] h = tt
begins_weaken place (run ∷ others) h = omega (arith, h)

begins_from : (place : ℕ) (held : List (Option Cell)) → BeginsFrom place (runs_from place held)
begins_from place [] = tt
begins_from place (None ∷ rest) = begins_weaken place (runs_from (suc place) rest) (begins_from (suc place) rest)
begins_from place (Some cell ∷ rest) = begins_with_place place cell.stamp (runs_from (suc place) rest)

-- where the first of some runs begins right after a place, both are in one run of all
abbrev Joins : List Run → ℕ → List Run → Type 0
Joins all place [] = Unit {0}
Joins all place (run ∷ others) = run.from ≡ suc place → stamp_of_run all place ≡ stamp_of_run all (suc place)

eq_from : (m n : ℕ) → (m == n) ≡ true → m ≡ n
eq_from m n e = grind (arith, nat_tests)

max_same : (a b c : ℕ) → a ≡ c → b ≡ c → max a b ≡ c
max_same a b c e e' = grind (arith, nat_tests)

ranked_choice : (all : List Run) (place stamp rank : ℕ) (run : Run) (others : List Run) (b : Bool) → (run.from == suc place) ≡ b
    → rank ≡ rank_in all (stamp_of_run all place) → (run.from ≡ suc place → stamp_of_run all place ≡ stamp_of_run all (suc place))
    → (if b then record { from = place; to = run.to; stamp = max rank (rank_in all (stamp_of_run all run.from)) } ∷ map (first_rank all) others
    else record { from = place; to = suc place; stamp = rank } ∷ first_rank all run ∷ map (first_rank all) others)
    ≡ map (first_rank all) (if b then record { from = place; to = run.to; stamp = max stamp run.stamp } ∷ others
    else record { from = place; to = suc place; stamp = stamp } ∷ run ∷ others)
ranked_choice all place stamp rank run others true test e joins =
    let same : run.from ≡ suc place = eq_from run.from (suc place) test in
    let other : rank_in all (stamp_of_run all run.from) ≡ rank_in all (stamp_of_run all place) =
    ap (λ n. rank_in all (stamp_of_run all n)) same ∙ ap (rank_in all) (sym (joins same)) in
    ap (λ (n : ℕ). record { from = place; to = run.to; stamp = n } ∷ map (first_rank all) others)
    (max_same rank (rank_in all (stamp_of_run all run.from)) (rank_in all (stamp_of_run all place)) e other)
ranked_choice all place stamp rank run others false test e joins =
    ap (λ (n : ℕ). record { from = place; to = suc place; stamp = n } ∷ first_rank all run ∷ map (first_rank all) others) e

ranked_place : (all : List Run) (place stamp rank : ℕ) (some : List Run) → rank ≡ rank_in all (stamp_of_run all place) → Joins all place some
    → with_place place rank (map (first_rank all) some) ≡ map (first_rank all) (with_place place stamp some)
ranked_place all place stamp rank [] e joins = ap (λ (n : ℕ). record { from = place; to = suc place; stamp = n } ∷ []) e
ranked_place all place stamp rank (run ∷ others) e joins = ranked_choice all place stamp rank run others (run.from == suc place) refl e joins

-- each kept byte is in one run with the kept byte right after it
abbrev AreEven : List Run → ℕ → List (Option Cell) → Type 0
AreEven all place [] = Unit {0}
AreEven all place (None ∷ rest) = AreEven all (suc place) rest
AreEven all place (Some cell ∷ rest) = Joins all place (runs_from (suc place) rest) × AreEven all (suc place) rest

ranked_runs : (all : List Run) (place : ℕ) (held : List (Option Cell)) → AreEven all place held
    → runs_from place (with_ranks_from all place held) ≡ map (first_rank all) (runs_from place held)
ranked_runs all place [] even = refl
ranked_runs all place (None ∷ rest) even = ranked_runs all (suc place) rest even
ranked_runs all place (Some cell ∷ rest) even =
    ap (with_place place (rank_in all (stamp_of_run all place))) (ranked_runs all (suc place) rest even.1)
    ∙ ranked_place all place cell.stamp (rank_in all (stamp_of_run all place)) (runs_from (suc place) rest) refl even.0

-- ---- two kept bytes, one right after the other, are in one run

below_end : (i to : ℕ) → i < to → (suc i ≡ to → ⊥) → suc i < to
below_end i to h ne = omega arith

one_run : (held : List (Option Cell)) (i : ℕ) → IsHeld held i → IsHeld held (suc i) → stamp_of_run (runs held) i ≡ stamp_of_run (runs held) (suc i)
one_run held i here next =
    let are_maximal : AllByRecursion (IsMaximal held) (runs held) = runs_are_maximal_lem held in
    let covers : SomeCovers (runs held) i = runs_cover_lem held i here in
    let run = covering (runs held) i covers in
    let is : IsMaximal held run.0 = all_among (IsMaximal held) (runs held) run.0 are_maximal run.1 in
    let within : suc i < run.0.to = below_end i run.0.to run.3 (λ e. is.after (subst (IsHeld held) e next)) in
    stamp_maximal held (runs held) run.0 i is run.2 run.3 are_maximal covers
    ∙ sym (stamp_maximal held (runs held) run.0 (suc i) is (omega (arith, run.2)) within are_maximal (runs_cover_lem held (suc i) next))

joins_any : (all : List Run) (place : ℕ) (some : List Run) → stamp_of_run all place ≡ stamp_of_run all (suc place) → Joins all place some
joins_any all place [] e = tt
joins_any all place (run ∷ others) e = λ right. e

not_right : (place from : ℕ) → suc (suc place) ≤ from → from ≡ suc place → ⊥
not_right place from h e = omega arith

joins_none : (all : List Run) (place : ℕ) (some : List Run) → BeginsFrom (suc (suc place)) some → Joins all place some
joins_none all place [] h = tt
joins_none all place (run ∷ others) h = λ right. absurd (not_right place run.from h right)

joins_rest : (held : List (Option Cell)) (place : ℕ) (rest : List (Option Cell)) → IsHeld held place → cell_at rest 0 ≡ cell_at held (suc place) → Joins (runs held) place (runs_from (suc place) rest)
joins_rest held place [] here e = tt
joins_rest held place (None ∷ rest) here e = joins_none (runs held) place (runs_from (suc (suc place)) rest) (begins_from (suc (suc place)) rest)
joins_rest held place (Some cell ∷ rest) here e =
    joins_any (runs held) place (runs_from (suc place) (Some cell ∷ rest)) (one_run held place here (subst IsSome e refl))

are_even : (held : List (Option Cell)) (place : ℕ) (rest : List (Option Cell)) → ((i n : ℕ) → n ≡ place + i → cell_at rest i ≡ cell_at held n) → AreEven (runs held) place rest
are_even held place [] same = tt
are_even held place (None ∷ rest) same = are_even held (suc place) rest (λ i n e. same (suc i) n (omega (arith, e)))
are_even held place (Some cell ∷ rest) same = (
  joins_rest held place rest (subst IsSome (same 0 place (omega arith)) refl) (same 1 (suc place) (omega arith)),
  are_even held (suc place) rest (λ i n e. same (suc i) n (omega (arith, e))),
)

-- ---- so each run keeps its places and takes the rank of its own stamp

abbrev own_rank : List Run → Run → Run
own_rank all run = record run { stamp = rank_in all run.stamp }

own_first : (held : List (Option Cell)) (some : List Run) → AllByRecursion (IsMaximal held) some → map (first_rank (runs held)) some ≡ map (own_rank (runs held)) some
own_first held [] maximal = refl
own_first held (run ∷ others) maximal =
    let stamp : stamp_of_run (runs held) run.from ≡ run.stamp =
    stamp_maximal held (runs held) run run.from maximal.0 (omega arith) maximal.0.some (runs_are_maximal_lem held)
    (runs_cover_lem held run.from (maximal.0.inside run.from (omega arith) maximal.0.some)) in
    ap (λ (n : ℕ). record run { stamp = rank_in (runs held) n } ∷ map (first_rank (runs held)) others) stamp
    ∙ ap (λ (rest : List Run). own_rank (runs held) run ∷ rest) (own_first held others maximal.1)

runs_with_ranks : (held : List (Option Cell)) → runs (with_ranks held) ≡ map (own_rank (runs held)) (runs held)
unfolding with_ranks
runs_with_ranks held =
    ranked_runs (runs held) 0 held (are_even held 0 held (λ i n e. ap (cell_at held) (omega (arith, e))))
    ∙ own_first held (runs held) (runs_are_maximal_lem held)

-- ---- ranks have the order of the stamps

counted : (b c : Bool) (m n : ℕ) → (b ≡ true → c ≡ true) → m ≤ n → (if b then 1 else 0) + m ≤ (if c then 1 else 0) + n
counted true true m n h le = omega arith
counted true false m n h le = absurd (cc (h refl))
counted false true m n h le = omega arith
counted false false m n h le = omega arith

le_trans_test : (s a b : ℕ) → a ≤ b → nat_le s a ≡ true → nat_le s b ≡ true
le_trans_test s a b h e = grind (arith, nat_tests)

rank_grows : (all : List Run) (a b : ℕ) → a ≤ b → rank_in all a ≤ rank_in all b
rank_grows [] a b h = omega arith
rank_grows (run ∷ others) a b h =
    rw (count_cons (λ r. nat_le r.stamp a) run others) (rw (count_cons (λ r. nat_le r.stamp b) run others)
    (counted (nat_le run.stamp a) (nat_le run.stamp b) (rank_in others a) (rank_in others b) (le_trans_test run.stamp a b h) (rank_grows others a b h)))

above_test : (s a b : ℕ) → a < b → s ≡ b → nat_le s a ≡ false
above_test s a b h e = grind (arith, nat_tests)

at_test : (s b : ℕ) → s ≡ b → nat_le s b ≡ true
at_test s b e = grind (arith, nat_tests)

one_more : (p q : Bool) (m n : ℕ) → p ≡ false → q ≡ true → m ≤ n → (if p then 1 else 0) + m < (if q then 1 else 0) + n
one_more true q m n e e' h = absurd (cc)
one_more false true m n e e' h = omega arith
one_more false false m n e e' h = absurd (cc)

counted_above : (b c : Bool) (m n : ℕ) → (b ≡ true → c ≡ true) → m < n → (if b then 1 else 0) + m < (if c then 1 else 0) + n
counted_above true true m n h lt = omega arith
counted_above true false m n h lt = absurd (cc (h refl))
counted_above false true m n h lt = omega arith
counted_above false false m n h lt = omega arith

lt_le : (a b : ℕ) → a < b → a ≤ b
lt_le a b h = omega arith

rank_above : (all : List Run) (run : Run) (a : ℕ) → Among run all → a < run.stamp → rank_in all a < rank_in all run.stamp
rank_above [] run a m h = absurd m
rank_above (other ∷ others) run a (inl e) h =
    rw (count_cons (λ r. nat_le r.stamp a) other others) (rw (count_cons (λ r. nat_le r.stamp run.stamp) other others)
    (one_more (nat_le other.stamp a) (nat_le other.stamp run.stamp) (rank_in others a) (rank_in others run.stamp)
    (above_test other.stamp a run.stamp h (ap (λ (r : Run). r.stamp) (sym e))) (at_test other.stamp run.stamp (ap (λ (r : Run). r.stamp) (sym e)))
    (rank_grows others a run.stamp (lt_le a run.stamp h))))
rank_above (other ∷ others) run a (inr m) h =
    rw (count_cons (λ r. nat_le r.stamp a) other others) (rw (count_cons (λ r. nat_le r.stamp run.stamp) other others)
    (counted_above (nat_le other.stamp a) (nat_le other.stamp run.stamp) (rank_in others a) (rank_in others run.stamp)
    (le_trans_test other.stamp a run.stamp (lt_le a run.stamp h)) (rank_above others run a m h)))

below_is : (a b : ℕ) → a < b → nat_lt a b ≡ true
below_is a b h = grind (arith, nat_tests)

not_below_is : (a b : ℕ) → b ≤ a → nat_lt a b ≡ false
not_below_is a b h = grind (arith, nat_tests)

same_order : (all : List Run) (run : Run) (a : ℕ) → Among run all → nat_lt (rank_in all a) (rank_in all run.stamp) ≡ nat_lt a run.stamp
same_order all run a m =
    elim (cases_lt a run.stamp) [
      | inl h ↦ below_is (rank_in all a) (rank_in all run.stamp) (rank_above all run a m h) ∙ sym (below_is a run.stamp h)
      | inr h ↦ not_below_is (rank_in all a) (rank_in all run.stamp) (rank_grows all run.stamp a h) ∙ sym (not_below_is a run.stamp h)
    ]

-- ---- and the blocks are the same

inserted_choice : (all : List Run) (run other : Run) (others : List Run) (b : Bool)
    → insertion_by_stamp (own_rank all run) (map (own_rank all) others) ≡ map (own_rank all) (insertion_by_stamp run others)
    → (if b then own_rank all run ∷ own_rank all other ∷ map (own_rank all) others else own_rank all other ∷ insertion_by_stamp (own_rank all run) (map (own_rank all) others))
    ≡ map (own_rank all) (if b then run ∷ other ∷ others else other ∷ insertion_by_stamp run others)
inserted_choice all run other others true e = refl
inserted_choice all run other others false e = ap (λ (rest : List Run). own_rank all other ∷ rest) e

inserted : (all : List Run) (run : Run) (others : List Run) → Among run all
    → insertion_by_stamp (own_rank all run) (map (own_rank all) others) ≡ map (own_rank all) (insertion_by_stamp run others)
inserted all run [] m = refl
inserted all run (other ∷ others) m =
    ap (λ b. if b then own_rank all run ∷ own_rank all other ∷ map (own_rank all) others else own_rank all other ∷ insertion_by_stamp (own_rank all run) (map (own_rank all) others))
    (same_order all run other.stamp m)
    ∙ inserted_choice all run other others (nat_lt other.stamp run.stamp) (inserted all run others m)

newest_ranked : (all some : List Run) → ((run : Run) → Among run some → Among run all) → runs_newest_first (map (own_rank all) some) ≡ map (own_rank all) (runs_newest_first some)
unfolding runs_newest_first
newest_ranked all [] into = refl
newest_ranked all (run ∷ others) into =
    ap (insertion_by_stamp (own_rank all run)) (newest_ranked all others (λ r m. into r (inr m)))
    ∙ inserted all run (runs_newest_first others) (into run (inl refl))

edges_ranked : (all : List Run) (n : ℕ) (some : List Run)
    → map {B = ℕ × ℕ} (λ (run : Run). (run.from, run.to)) (take n (map (own_rank all) some)) ≡ map {B = ℕ × ℕ} (λ (run : Run). (run.from, run.to)) (take n some)
edges_ranked all zero some = refl
edges_ranked all (suc n) [] = refl
edges_ranked all (suc n) (run ∷ others) = ap (λ (rest : List (ℕ × ℕ)). (run.from, run.to) ∷ rest) (edges_ranked all n others)

pub ranks_keep_blocks_lem : RanksKeepBlocks
unfolding blocks
ranks_keep_blocks_lem q =
    ap (λ (rs : List Run). map {B = ℕ × ℕ} (λ (run : Run). (run.from, run.to)) (take max_blocks (runs_newest_first rs))) (runs_with_ranks q.held)
    ∙ ap (λ (rs : List Run). map {B = ℕ × ℕ} (λ (run : Run). (run.from, run.to)) (take max_blocks rs)) (newest_ranked (runs q.held) (runs q.held) (λ run m. m))
    ∙ edges_ranked (runs q.held) max_blocks (runs_newest_first (runs q.held))
