-- The places of a table: runs that don't touch, with strictly falling stamps, each the greatest stamp in its run, are the
-- runs of the places. They are newest first, and their order gives the ranks.
use Rattle.std.proofs.Common.{◌≡◌, ℕ, zero, suc, ◌+◌, ◌-◌, ◌<◌, ◌≤◌, ◌⊎◌, inl, inr, List, [], ◌∷◌, length, refl, sym, ◌∙◌, ap, subst, arith}
use Rattle.std.specs.Prelude.{true, nat_lt, nat_le, ◌&&◌, if◌then◌else◌, Option, Some, None, is_some}
use Rattle.std.specs.List.{AllByRecursion}
use Rattle.std.proofs.lemmas.Bool.{cases_lt, cases_Bool}
use Rattle.std.proofs.lemmas.Bool.Decides.{nat_tests}
use Rattle.tcp_reasm.specs.Reassembly.{Cell, Run, runs, runs_newest_first, stamp_at, is_within, stamp_of_run, rank_in, with_ranks, with_ranks_from}
use Rattle.tcp_reasm.specs.Laws.{cell_at, IsHeld, IsMaximal, SomeCovers, StandApart}
use Rattle.tcp_reasm.specs.Store.{ranked, cell_of, cells, Away, AreAway}
use Rattle.tcp_reasm.proofs.Maximal.{runs_are_maximal_lem, runs_cover_lem, runs_stand_apart_lem}
use Rattle.tcp_reasm.proofs.Sorting.{count_cons, Among, Distinct, FallsFrom, all_among, newest_is, length_newest, count_newest}

-- the stamp of a run is the greatest in it
pub record Top (stamps : ℕ → ℕ) (run : Run) : Type 0 where
  pub most : (i : ℕ) → run.from ≤ i → i < run.to → stamps i ≤ run.stamp
  pub newest : (i : ℕ) × (run.from ≤ i) × (i < run.to) × (stamps i ≡ run.stamp)

abbrev pub Lies : ℕ → Run → Type 0
Lies size run = (run.from < run.to) × (run.to ≤ size)

pub record Described (stamps : ℕ → ℕ) (size : ℕ) (all : List Run) : Type 0 where
  pub lie : AllByRecursion (Lies size) all
  pub away : AreAway all
  pub covers : (i : ℕ) → i < size → 0 < stamps i → SomeCovers all i
  pub held : (i : ℕ) → SomeCovers all i → 0 < stamps i
  pub tops : AllByRecursion (Top stamps) all
  pub falls : FallsFrom all

-- ---- places by stamps and bytes

pub stamp_cell_of : (s byte : ℕ) → stamp_at (cell_of s byte) ≡ s
stamp_cell_of zero byte = refl
stamp_cell_of (suc n) byte = refl

is_some_cell_of : (s byte : ℕ) → 0 < s → is_some (cell_of s byte) ≡ true
is_some_cell_of zero byte h = absurd (omega arith)
is_some_cell_of (suc n) byte h = refl

some_cell_of : (s byte : ℕ) → is_some (cell_of s byte) ≡ true → 0 < s
some_cell_of zero byte h = absurd cc
some_cell_of (suc n) byte h = omega arith

stamp_at_place : (stamps : ℕ → ℕ) (first : ℕ) (bytes : List ℕ) (i place : ℕ) → first + i ≡ place → i < length bytes → stamp_at (cell_at (cells stamps first bytes) i) ≡ stamps place
stamp_at_place stamps first [] i place e h = absurd (omega arith)
stamp_at_place stamps first (byte ∷ bytes) zero place e h =
    let same : first ≡ place = omega arith in stamp_cell_of (stamps first) byte ∙ ap stamps same
stamp_at_place stamps first (byte ∷ bytes) (suc i) place e h = stamp_at_place stamps (suc first) bytes i place (omega arith) (omega arith)

held_at : (stamps : ℕ → ℕ) (first : ℕ) (bytes : List ℕ) (i place : ℕ) → first + i ≡ place → i < length bytes → 0 < stamps place → is_some (cell_at (cells stamps first bytes) i) ≡ true
held_at stamps first [] i place e h s = absurd (omega arith)
held_at stamps first (byte ∷ bytes) zero place e h s =
    let same : place ≡ first = omega arith in is_some_cell_of (stamps first) byte (subst (λ n. 0 < stamps n) same s)
held_at stamps first (byte ∷ bytes) (suc i) place e h s = held_at stamps (suc first) bytes i place (omega arith) (omega arith) s

held_place : (stamps : ℕ → ℕ) (first : ℕ) (bytes : List ℕ) (i place : ℕ) → first + i ≡ place → is_some (cell_at (cells stamps first bytes) i) ≡ true → (i < length bytes) × (0 < stamps place)
held_place stamps first [] i place e h = absurd cc
held_place stamps first (byte ∷ bytes) zero place e h =
    let same : first ≡ place = omega arith in (omega arith, subst (λ n. 0 < stamps n) same (some_cell_of (stamps first) byte h))
held_place stamps first (byte ∷ bytes) (suc i) place e h =
    let rest = held_place stamps (suc first) bytes i place (omega arith) h in (omega (arith, rest.0), rest.1)

-- ---- a place in a run

pub covered : (all : List Run) (run : Run) (i : ℕ) → Among run all → run.from ≤ i → i < run.to → SomeCovers all i
covered [] run i m low high = absurd m
covered (other ∷ others) run i (inl e) low high =
    inl (omega (arith, ap (λ (r : Run). r.from) e), omega (arith, ap (λ (r : Run). r.to) e))
covered (other ∷ others) run i (inr m) low high = inr (covered others run i m low high)

pub covering : (all : List Run) (i : ℕ) → SomeCovers all i → (run : Run) × Among run all × (run.from ≤ i) × (i < run.to)
covering [] i c = absurd c
covering (run ∷ others) i (inl h) = (run, inl refl, h.0, h.1)
covering (run ∷ others) i (inr c) = let rest = covering others i c in (rest.0, inr rest.1, rest.2, rest.3)

-- a place right beside a run lies in no run that is away from it
beside : (i from to first end : ℕ) → from < to → (to < first) ⊎ (end < from) → (suc i ≡ from) ⊎ (i ≡ to) → first ≤ i → i < end → ⊥
beside i from to first end some (inl before) (inl at) low high = omega arith
beside i from to first end some (inl before) (inr at) low high = omega arith
beside i from to first end some (inr behind) (inl at) low high = omega arith
beside i from to first end some (inr behind) (inr at) low high = omega arith

pub away_swap : (a b : Run) → Away a b → Away b a
away_swap a b (inl h) = inr h
away_swap a b (inr h) = inl h

beside_others : (others : List Run) (run : Run) (i : ℕ) → run.from < run.to → AllByRecursion (Away run) others → (suc i ≡ run.from) ⊎ (i ≡ run.to) → SomeCovers others i → ⊥
beside_others [] run i some away at c = c
beside_others (other ∷ others) run i some away at (inl h) = beside i run.from run.to other.from other.to some away.0 at h.0 h.1
beside_others (other ∷ others) run i some away at (inr c) = beside_others others run i some away.1 at c

beside_itself : (i from to : ℕ) → from < to → (suc i ≡ from) ⊎ (i ≡ to) → from ≤ i → i < to → ⊥
beside_itself i from to some (inl at) low high = omega arith
beside_itself i from to some (inr at) low high = omega arith

not_beside : (all : List Run) (run : Run) (i : ℕ) → Among run all → run.from < run.to → AreAway all → (suc i ≡ run.from) ⊎ (i ≡ run.to) → SomeCovers all i → ⊥
not_beside [] run i m some away at c = m
not_beside (other ∷ others) run i (inl e) some away at (inl h) =
    beside_itself i run.from run.to some at (omega (arith, ap (λ (r : Run). r.from) e, h.0)) (omega (arith, ap (λ (r : Run). r.to) e, h.1))
not_beside (other ∷ others) run i (inl e) some away at (inr c) =
    beside_others others run i some (subst (λ (r : Run). AllByRecursion (Away r) others) (sym e) away.0) at c
not_beside (other ∷ others) run i (inr m) some away at (inl h) =
    beside i run.from run.to other.from other.to some (away_swap other run (all_among (Away other) others run away.0 m)) at h.0 h.1
not_beside (other ∷ others) run i (inr m) some away at (inr c) = not_beside others run i m some away.1 at c

-- ---- the runs of the places

maximal : (stamps : ℕ → ℕ) (bytes : List ℕ) (all : List Run) (run : Run) → Described stamps (length bytes) all → Among run all → IsMaximal (cells stamps 0 bytes) run
maximal stamps bytes all run d m =
    let lies : Lies (length bytes) run = all_among (Lies (length bytes)) all run d.lie m in
    let top : Top stamps run = all_among (Top stamps) all run d.tops m in
    let missing : (i : ℕ) → (suc i ≡ run.from) ⊎ (i ≡ run.to) → IsHeld (cells stamps 0 bytes) i → ⊥ =
    λ i at h.
    let there : (i < length bytes) × (0 < stamps i) = held_place stamps 0 bytes i i (omega arith) h in
    not_beside all run i m lies.0 d.away at (d.covers i there.0 there.1) in
    record {
      some = lies.0;
      inside = λ place low high. held_at stamps 0 bytes place place (omega arith) (omega arith) (d.held place (covered all run place m low high));
      before = λ place e h. missing place (inl e) h;
      after = λ h. missing run.to (inr refl) h;
      stamps = λ place low high. omega (arith, stamp_at_place stamps 0 bytes place place (omega arith) (omega arith), top.most place low high);
      newest = (top.newest.0, top.newest.1, top.newest.2, stamp_at_place stamps 0 bytes top.newest.0 top.newest.0 (omega arith) (omega (arith, top.newest.2)) ∙ top.newest.3);
    }

all_maximal : (stamps : ℕ → ℕ) (bytes : List ℕ) (all : List Run) → Described stamps (length bytes) all → (some : List Run) → ((run : Run) → Among run some → Among run all) → AllByRecursion (IsMaximal (cells stamps 0 bytes)) some
all_maximal stamps bytes all d [] into = tt
all_maximal stamps bytes all d (run ∷ others) into =
    (maximal stamps bytes all run d (into run (inl refl)), all_maximal stamps bytes all d others (λ r m. into r (inr m)))

-- two maximal runs with a place in common are one
begins_first : (held : List (Option Cell)) (a b : Run) (i : ℕ) → IsMaximal held a → IsMaximal held b → i < a.to → b.from ≤ i → b.from ≤ a.from
begins_first held a b i of_a of_b in_a in_b =
    elim (cases_lt a.from b.from) [
      | inl h ↦ absurd (of_b.before (b.from - 1) (omega arith) (of_a.inside (b.from - 1) (omega arith) (omega arith)))
      | inr h ↦ h
    ]

ends_last : (held : List (Option Cell)) (a b : Run) (i : ℕ) → IsMaximal held a → IsMaximal held b → a.from ≤ i → i < b.to → a.to ≤ b.to
ends_last held a b i of_a of_b in_a in_b =
    elim (cases_lt b.to a.to) [ inl h ↦ absurd (of_b.after (of_a.inside b.to (omega arith) h)) | inr h ↦ h ]

newest_most : (held : List (Option Cell)) (a b : Run) → IsMaximal held a → IsMaximal held b → b.from ≤ a.from → a.to ≤ b.to → a.stamp ≤ b.stamp
newest_most held a b of_a of_b low high =
    let at = of_a.newest in omega (arith, at.1, at.2, at.3, of_b.stamps at.0 (omega (arith, at.1)) (omega (arith, at.2)))

same_parts : (a b : Run) → a.from ≡ b.from → a.to ≡ b.to → a.stamp ≡ b.stamp → a ≡ b
same_parts a b from to stamp =
    ap (λ n. record { from = n; to = a.to; stamp = a.stamp }) from
    ∙ ap (λ n. record { from = b.from; to = n; stamp = a.stamp }) to
    ∙ ap (λ n. record { from = b.from; to = b.to; stamp = n }) stamp

same_run : (held : List (Option Cell)) (a b : Run) (i : ℕ) → IsMaximal held a → IsMaximal held b → a.from ≤ i → i < a.to → b.from ≤ i → i < b.to → a ≡ b
same_run held a b i of_a of_b low_a high_a low_b high_b =
    let from_ab = begins_first held a b i of_a of_b high_a low_b in
    let from_ba = begins_first held b a i of_b of_a high_b low_a in
    let to_ab = ends_last held a b i of_a of_b low_a high_b in
    let to_ba = ends_last held b a i of_b of_a low_b high_a in
    same_parts a b (omega (arith, from_ab, from_ba)) (omega (arith, to_ab, to_ba))
    (omega (arith, newest_most held a b of_a of_b from_ab to_ab, newest_most held b a of_b of_a from_ba to_ba))

later_not_among : (run : Run) (others : List Run) → run.from < run.to → AllByRecursion (λ (later : Run). run.to < later.from) others → Among run others → ⊥
later_not_among run others some later m =
    let h : run.to < run.from = all_among (λ (r : Run). run.to < r.from) others run later m in omega arith

distinct_runs : (held : List (Option Cell)) (all : List Run) → StandApart all → AllByRecursion (IsMaximal held) all → Distinct all
distinct_runs held [] apart maximal = tt
distinct_runs held (run ∷ others) apart maximal = (later_not_among run others maximal.0.some apart.0, distinct_runs held others apart.1 maximal.1)

pub described_newest : (stamps : ℕ → ℕ) (bytes : List ℕ) (all : List Run) → Described stamps (length bytes) all → runs_newest_first (runs (cells stamps 0 bytes)) ≡ all
described_newest stamps bytes all d =
    let held = cells stamps 0 bytes in
    let are_maximal : AllByRecursion (IsMaximal held) (runs held) = runs_are_maximal_lem held in
    newest_is (runs held) all (distinct_runs held (runs held) (runs_stand_apart_lem held) are_maximal) d.falls
    (λ run m.
    let is_maximal : IsMaximal held run = all_among (IsMaximal held) (runs held) run are_maximal m in
    let there : (run.from < length bytes) × (0 < stamps run.from) = held_place stamps 0 bytes run.from run.from (omega arith) (is_maximal.inside run.from (omega arith) is_maximal.some) in
    let other = covering all run.from (d.covers run.from there.0 there.1) in
    let same : other.0 ≡ run = same_run held other.0 run run.from (maximal stamps bytes all other.0 d other.1) is_maximal other.2 other.3 (omega arith) is_maximal.some in
    subst (λ (r : Run). Among r all) same other.1)
    (λ run m.
    let is_maximal : IsMaximal held run = maximal stamps bytes all run d m in
    let other = covering (runs held) run.from (runs_cover_lem held run.from (is_maximal.inside run.from (omega arith) is_maximal.some)) in
    let same : other.0 ≡ run = same_run held other.0 run run.from (all_among (IsMaximal held) (runs held) other.0 are_maximal other.1) is_maximal other.2 other.3 (omega arith) is_maximal.some in
    subst (λ (r : Run). Among r (runs held)) same other.1)

pub described_count : (stamps : ℕ → ℕ) (bytes : List ℕ) (all : List Run) → Described stamps (length bytes) all → length (runs (cells stamps 0 bytes)) ≡ length all
described_count stamps bytes all d = sym (length_newest (runs (cells stamps 0 bytes))) ∙ ap length (described_newest stamps bytes all d)

-- ---- the stamp at a place

within_yes : (i from to : ℕ) → from ≤ i → i < to → (nat_le from i && nat_lt i to) ≡ true
within_yes i from to low high = grind (arith, nat_tests)

pub within_tells : (i from to : ℕ) → (nat_le from i && nat_lt i to) ≡ true → (from ≤ i) × (i < to)
within_tells i from to e = (grind (arith, nat_tests), grind (arith, nat_tests))

pub stamp_first : (run : Run) (others : List Run) (i : ℕ) → run.from ≤ i → i < run.to → stamp_of_run (run ∷ others) i ≡ run.stamp
stamp_first run others i low high = ap (λ b. if b then run.stamp else stamp_of_run others i) (within_yes i run.from run.to low high)

-- a place lies in the first run, or its stamp is that among the others
pub stamp_or : (run : Run) (others : List Run) (i : ℕ) → ((run.from ≤ i) × (i < run.to)) ⊎ (stamp_of_run (run ∷ others) i ≡ stamp_of_run others i)
stamp_or run others i =
    elim (cases_Bool (is_within i run)) [
      | inl is ↦ inl (within_tells i run.from run.to is)
      | inr not ↦ inr (ap (λ b. if b then run.stamp else stamp_of_run others i) not)
    ]

pub stamp_none : (all : List Run) (i : ℕ) → (SomeCovers all i → ⊥) → stamp_of_run all i ≡ 0
stamp_none [] i none = refl
stamp_none (run ∷ others) i none =
    elim (stamp_or run others i) [ inl h ↦ absurd (none (inl h)) | inr e ↦ e ∙ stamp_none others i (λ c. none (inr c)) ]

pub stamp_covers : (all : List Run) (i : ℕ) → 0 < stamp_of_run all i → SomeCovers all i
stamp_covers [] i h = absurd (omega arith)
stamp_covers (run ∷ others) i h =
    elim (stamp_or run others i) [ inl c ↦ inl c | inr e ↦ inr (stamp_covers others i (omega (arith, e))) ]

-- the stamp at a place is one of the runs'
pub stamp_all : (P : ℕ → Type 0) (all : List Run) (i : ℕ) → AllByRecursion (λ (run : Run). P run.stamp) all → SomeCovers all i → P (stamp_of_run all i)
stamp_all P [] i h c = absurd c
stamp_all P (run ∷ others) i h (inl c) = subst P (sym (stamp_first run others i c.0 c.1)) h.0
stamp_all P (run ∷ others) i h (inr c) =
    elim (stamp_or run others i) [
      | inl d ↦ subst P (sym (stamp_first run others i d.0 d.1)) h.0
      | inr e ↦ subst P (sym e) (stamp_all P others i h.1 c)
    ]

-- of runs that are all maximal, that of the run that it lies in
pub stamp_maximal : (held : List (Option Cell)) (all : List Run) (run : Run) (i : ℕ) → IsMaximal held run → run.from ≤ i → i < run.to → AllByRecursion (IsMaximal held) all → SomeCovers all i → stamp_of_run all i ≡ run.stamp
stamp_maximal held [] run i is low high maximal c = absurd c
stamp_maximal held (other ∷ others) run i is low high maximal c =
    elim (stamp_or other others i) [
      | inl h ↦ stamp_first other others i h.0 h.1 ∙ ap (λ (r : Run). r.stamp) (same_run held other run i maximal.0 is h.0 h.1 low high)
      | inr e ↦ e ∙ elim c [
        | inl h ↦ sym e ∙ stamp_first other others i h.0 h.1 ∙ ap (λ (r : Run). r.stamp) (same_run held other run i maximal.0 is h.0 h.1 low high)
        | inr d ↦ stamp_maximal held others run i is low high maximal.1 d
      ]
    ]

-- ---- ranks

pub ranked_covers : (all : List Run) (i : ℕ) → SomeCovers all i → SomeCovers (ranked all) i
ranked_covers [] i c = c
ranked_covers (run ∷ others) i (inl h) = inl h
ranked_covers (run ∷ others) i (inr c) = inr (ranked_covers others i c)

pub covers_ranked : (all : List Run) (i : ℕ) → SomeCovers (ranked all) i → SomeCovers all i
covers_ranked [] i c = c
covers_ranked (run ∷ others) i (inl h) = inl h
covers_ranked (run ∷ others) i (inr c) = inr (covers_ranked others i c)

pub ranked_above : (all : List Run) → AllByRecursion (λ (run : Run). 0 < run.stamp) (ranked all)
ranked_above [] = tt
ranked_above (run ∷ others) = (omega arith, ranked_above others)

rank_cons : (run : Run) (others : List Run) (n : ℕ) → rank_in (run ∷ others) n ≡ (if nat_le run.stamp n then 1 else 0) + rank_in others n
rank_cons run others n = count_cons (λ (r : Run). nat_le r.stamp n) run others

one_if : (a b : ℕ) → a ≤ b → ◌≡◌ {A = ℕ} (if nat_le a b then 1 else 0) 1
one_if a b h = grind (arith, nat_tests)

none_if : (a b : ℕ) → b < a → ◌≡◌ {A = ℕ} (if nat_le a b then 1 else 0) 0
none_if a b h = grind (arith, nat_tests)

counted : (n : ℕ) (all : List Run) → AllByRecursion (λ (run : Run). run.stamp < n) all → rank_in all n ≡ length all
counted n [] h = refl
counted n (run ∷ others) h = omega (arith, rank_cons run others n, one_if run.stamp n (omega (arith, h.0)), counted n others h.1)

uncounted : (run : Run) (others : List Run) (n : ℕ) → n < run.stamp → rank_in (run ∷ others) n ≡ rank_in others n
uncounted run others n h = omega (arith, rank_cons run others n, none_if run.stamp n h)

first_counted : (run : Run) (others : List Run) → AllByRecursion (λ (r : Run). r.stamp < run.stamp) others → suc (length others) ≡ rank_in (run ∷ others) run.stamp
first_counted run others h = omega (arith, rank_cons run others run.stamp, one_if run.stamp run.stamp (omega arith), counted run.stamp others h)

-- the rank of the stamp at a place is the stamp there by ranks
ranked_stamp : (all : List Run) (i : ℕ) → FallsFrom all → SomeCovers all i → stamp_of_run (ranked all) i ≡ rank_in all (stamp_of_run all i)
ranked_stamp [] i falls c = absurd c
ranked_stamp (run ∷ others) i falls c =
    elim (stamp_or run others i) [
      | inl h ↦ stamp_first (record run { stamp = suc (length others) }) (ranked others) i h.0 h.1
          ∙ first_counted run others falls.0
          ∙ ap (rank_in (run ∷ others)) (sym (stamp_first run others i h.0 h.1))
      | inr e ↦ elim c [
        | inl h ↦ stamp_first (record run { stamp = suc (length others) }) (ranked others) i h.0 h.1
            ∙ first_counted run others falls.0
            ∙ ap (rank_in (run ∷ others)) (sym (stamp_first run others i h.0 h.1))
        | inr d ↦ elim (stamp_or (record run { stamp = suc (length others) }) (ranked others) i) [
          | inl h ↦ stamp_first (record run { stamp = suc (length others) }) (ranked others) i h.0 h.1
              ∙ first_counted run others falls.0
              ∙ ap (rank_in (run ∷ others)) (sym (stamp_first run others i h.0 h.1))
          | inr f ↦ f ∙ ranked_stamp others i falls.1 d
              ∙ sym (uncounted run others (stamp_of_run others i) (stamp_all (λ n. n < run.stamp) others i falls.0 d))
              ∙ ap (rank_in (run ∷ others)) (sym e)
        ]
      ]
    ]

-- ---- the places with their ranks

some_ranked : (found : List Run) (place byte rank new : ℕ) (rest after : List (Option Cell)) → 0 < new → rank_in found (stamp_of_run found place) ≡ new → with_ranks_from found (suc place) rest ≡ after →
    (stamp : ℕ) → with_ranks_from found place (cell_of (suc stamp) byte ∷ rest) ≡ cell_of new byte ∷ after
some_ranked found place byte rank zero rest after above e later stamp = absurd (omega arith)
some_ranked found place byte rank (suc n) rest after above e later stamp =
    ap (λ r. Some (record { byte = byte; stamp = r }) ∷ with_ranks_from found (suc place) rest) e
    ∙ ap (λ (places : List (Option Cell)). Some (record { byte = byte; stamp = suc n }) ∷ places) later

cell_ranked : (found : List Run) (place byte stamp new : ℕ) (rest after : List (Option Cell)) → (stamp ≡ 0 → new ≡ 0) → (0 < stamp → 0 < new) → (0 < stamp → rank_in found (stamp_of_run found place) ≡ new) → with_ranks_from found (suc place) rest ≡ after →
    with_ranks_from found place (cell_of stamp byte ∷ rest) ≡ cell_of new byte ∷ after
cell_ranked found place byte zero new rest after none above e later =
    ap (λ (places : List (Option Cell)). None ∷ places) later
    ∙ ap (λ n. cell_of n byte ∷ after) (sym (none refl))
cell_ranked found place byte (suc n) new rest after none above e later =
    some_ranked found place byte 0 new rest after (above (omega arith)) (e (omega arith)) later n

ranked_cells : (found : List Run) (stamps news : ℕ → ℕ) (place : ℕ) (bytes : List ℕ) (end : ℕ) → place + length bytes ≤ end →
    ((i : ℕ) → i < end → stamps i ≡ 0 → news i ≡ 0) → ((i : ℕ) → i < end → 0 < stamps i → 0 < news i) → ((i : ℕ) → i < end → 0 < stamps i → rank_in found (stamp_of_run found i) ≡ news i) →
    with_ranks_from found place (cells stamps place bytes) ≡ cells news place bytes
ranked_cells found stamps news place [] end fits none above e = refl
ranked_cells found stamps news place (byte ∷ bytes) end fits none above e =
    cell_ranked found place byte (stamps place) (news place) (cells stamps (suc place) bytes) (cells news (suc place) bytes)
    (none place (omega arith)) (above place (omega arith)) (e place (omega arith))
    (ranked_cells found stamps news (suc place) bytes end (omega arith) none above e)

not_above : (n : ℕ) → n ≡ 0 → 0 < n → ⊥
not_above n e h = omega arith

pub described_ranks : (stamps : ℕ → ℕ) (bytes : List ℕ) (all : List Run) → Described stamps (length bytes) all → with_ranks (cells stamps 0 bytes) ≡ cells (stamp_of_run (ranked all)) 0 bytes
unfolding with_ranks
described_ranks stamps bytes all d =
    let held = cells stamps 0 bytes in
    let found = runs held in
    let are_maximal : AllByRecursion (IsMaximal held) found = runs_are_maximal_lem held in
    ranked_cells found stamps (stamp_of_run (ranked all)) 0 bytes (length bytes) (omega arith)
    (λ i below none. stamp_none (ranked all) i (λ c. not_above (stamps i) none (d.held i (covers_ranked all i c))))
    (λ i below some. stamp_all (λ n. 0 < n) (ranked all) i (ranked_above all) (ranked_covers all i (d.covers i below some)))
    (λ i below some.
    let c : SomeCovers all i = d.covers i below some in
    let run = covering all i c in
    let same_stamp : stamp_of_run found i ≡ stamp_of_run all i =
    stamp_maximal held found run.0 i (maximal stamps bytes all run.0 d run.1) run.2 run.3 are_maximal
    (runs_cover_lem held i (held_at stamps 0 bytes i i (omega arith) below some))
    ∙ sym (stamp_maximal held all run.0 i (maximal stamps bytes all run.0 d run.1) run.2 run.3 (all_maximal stamps bytes all d all (λ r m. m)) c) in
    ap (rank_in found) same_stamp
    ∙ sym (count_newest (λ (r : Run). nat_le r.stamp (stamp_of_run all i)) found)
    ∙ ap (λ (rs : List Run). rank_in rs (stamp_of_run all i)) (described_newest stamps bytes all d)
    ∙ sym (ranked_stamp all i d.falls c))
