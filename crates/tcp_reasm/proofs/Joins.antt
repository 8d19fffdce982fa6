-- A piece joined with the runs that it overlaps or touches, and the runs that it leaves as they are.
use Rattle.std.proofs.Common.{◌≡◌, ℕ, suc, ◌+◌, ◌-◌, ◌<◌, ◌≤◌, ◌⊎◌, inl, inr, List, [], ◌∷◌, length, refl, sym, ◌∙◌, ap, subst, arith}
use Rattle.std.specs.Prelude.{true, false, min, max, map, if◌then◌else◌}
use Rattle.std.specs.List.{AllByRecursion}
use Rattle.std.proofs.lemmas.Bool.{cases_lt}
use Rattle.std.proofs.lemmas.List.{length-map}
use Rattle.std.proofs.lemmas.Bool.Decides.{nat_tests}
use Rattle.tcp_reasm.specs.Reassembly.{Run, stamp_of_run}
use Rattle.tcp_reasm.specs.Laws.{SomeCovers}
use Rattle.tcp_reasm.specs.Store.{ranked, IsInside, Away, AreAway, touches, rest_of, joined, union_of, moved}
use Rattle.tcp_reasm.proofs.Sorting.{Among, FallsFrom, all_among}
use Rattle.tcp_reasm.proofs.Described.{Described, Lies, Top, away_swap, stamp_first, stamp_or, stamp_covers, stamp_all, ranked_above}

-- ---- all of some runs

all_from : (P : Run → Type 0) (all : List Run) → ((run : Run) → Among run all → P run) → AllByRecursion P all
all_from P [] h = tt
all_from P (run ∷ others) h = (h run (inl refl), all_from P others (λ r m. h r (inr m)))

all_map : (P Q : Run → Type 0) (all : List Run) → ((run : Run) → P run → Q run) → AllByRecursion P all → AllByRecursion Q all
all_map P Q [] f h = tt
all_map P Q (run ∷ others) f h = (f run h.0, all_map P Q others f h.1)

-- ---- ranks change no edge

pub inside_ranked : (window : ℕ) (all : List Run) → AllByRecursion (IsInside window) all → AllByRecursion (IsInside window) (ranked all)
inside_ranked window [] h = tt
inside_ranked window (run ∷ others) h = (h.0, inside_ranked window others h.1)

away_ranked_all : (run : Run) (others : List Run) → AllByRecursion (Away run) others → AllByRecursion (Away run) (ranked others)
away_ranked_all run [] h = tt
away_ranked_all run (other ∷ others) h = (h.0, away_ranked_all run others h.1)

away_stamp : (run : Run) (n : ℕ) (others : List Run) → AllByRecursion (Away run) others → AllByRecursion (Away (record run { stamp = n })) others
away_stamp run n [] h = tt
away_stamp run n (other ∷ others) h = (h.0, away_stamp run n others h.1)

pub away_ranked : (all : List Run) → AreAway all → AreAway (ranked all)
away_ranked [] h = tt
away_ranked (run ∷ others) h = (away_stamp run (suc (length others)) (ranked others) (away_ranked_all run others h.0), away_ranked others h.1)

pub length_ranked : (all : List Run) → length (ranked all) ≡ length all
length_ranked [] = refl
length_ranked (run ∷ others) = ap suc (length_ranked others)

pub ranked_below : (n : ℕ) (all : List Run) → length all < n → AllByRecursion (λ (run : Run). run.stamp < n) (ranked all)
ranked_below n [] h = tt
ranked_below n (run ∷ others) h = (h, ranked_below n others (omega arith))

pub ranked_falls : (all : List Run) → FallsFrom (ranked all)
ranked_falls [] = tt
ranked_falls (run ∷ others) = (ranked_below (suc (length others)) others (omega arith), ranked_falls others)

-- ---- what touches

pub touch_tells : (piece run : Run) → touches piece run ≡ true → (run.from ≤ piece.to) × (piece.from ≤ run.to)
touch_tells piece run e = (grind (arith, nat_tests), grind (arith, nat_tests))

no_touch : (piece run : Run) → touches piece run ≡ false → piece.from ≤ run.to → run.from ≤ piece.to → ⊥
no_touch piece run e low high = grind (arith, nat_tests)

untouched : (piece run : Run) → touches piece run ≡ false → Away run piece
untouched piece run e =
    elim (cases_lt run.to piece.from) [
      | inl h ↦ inl h
      | inr h ↦ elim (cases_lt piece.to run.from) [ inl k ↦ inr k | inr k ↦ absurd (no_touch piece run e h k) ]
    ]

-- no place lies in two
away_place : (a b : Run) (i : ℕ) → Away a b → a.from ≤ i → i < a.to → b.from ≤ i → i < b.to → ⊥
away_place a b i (inl h) low_a high_a low_b high_b = omega arith
away_place a b i (inr h) low_a high_a low_b high_b = omega arith

-- ---- the rest

rest_among : (piece : Run) (all : List Run) (run : Run) → Among run (rest_of piece all) → Among run all × (touches piece run ≡ false)
rest_among piece [] run m = absurd m
rest_among piece (other ∷ others) run m =
    (elim (touches piece other) as (λ b. touches piece other ≡ b → Among run (if b then rest_of piece others else other ∷ rest_of piece others) → Among run (other ∷ others) × (touches piece run ≡ false)) [
      | true ↦ λ e a. let rest = rest_among piece others run a in (inr rest.0, rest.1)
      | false ↦ λ e a. elim a [
        | inl same ↦ (inl same, ap (touches piece) same ∙ e)
        | inr later ↦ let rest = rest_among piece others run later in (inr rest.0, rest.1)
      ]
    ]) refl m

pub rest_all : (P : Run → Type 0) (piece : Run) (all : List Run) → AllByRecursion P all → AllByRecursion P (rest_of piece all)
rest_all P piece all h = all_from P (rest_of piece all) (λ run m. all_among P all run h (rest_among piece all run m).0)

falls_rest : (piece : Run) (all : List Run) → FallsFrom all → FallsFrom (rest_of piece all)
falls_rest piece [] h = tt
falls_rest piece (run ∷ others) h =
    elim (touches piece run) as (λ b. FallsFrom (if b then rest_of piece others else run ∷ rest_of piece others)) [
      | true ↦ falls_rest piece others h.1
      | false ↦ (rest_all (λ r. r.stamp < run.stamp) piece others h.0, falls_rest piece others h.1)
    ]

pub away_rest : (piece : Run) (all : List Run) → AreAway all → AreAway (rest_of piece all)
away_rest piece [] h = tt
away_rest piece (run ∷ others) h =
    elim (touches piece run) as (λ b. AreAway (if b then rest_of piece others else run ∷ rest_of piece others)) [
      | true ↦ away_rest piece others h.1
      | false ↦ (rest_all (Away run) piece others h.0, away_rest piece others h.1)
    ]

rest_covers : (piece : Run) (all : List Run) (i : ℕ) → SomeCovers (rest_of piece all) i → SomeCovers all i
rest_covers piece [] i c = c
rest_covers piece (run ∷ others) i c =
    (elim (touches piece run) as (λ b. SomeCovers (if b then rest_of piece others else run ∷ rest_of piece others) i → SomeCovers (run ∷ others) i) [
      | true ↦ λ d. inr (rest_covers piece others i d)
      | false ↦ λ d. elim d [ inl h ↦ inl h | inr h ↦ inr (rest_covers piece others i h) ]
    ]) c

-- ---- the union

pub union_wraps : (union piece : Run) (all : List Run) → ((union_of union piece all).from ≤ union.from) × (union.to ≤ (union_of union piece all).to)
union_wraps union piece [] = (omega arith, omega arith)
union_wraps union piece (run ∷ others) =
    elim (touches piece run) as (λ b. let whole = union_of (if b then joined union run else union) piece others in (whole.from ≤ union.from) × (union.to ≤ whole.to)) [
      | true ↦ let rest = union_wraps (joined union run) piece others in (omega (arith, rest.0), omega (arith, rest.1))
      | false ↦ union_wraps union piece others
    ]

pub stamp_union : (union piece : Run) (all : List Run) → (union_of union piece all).stamp ≡ union.stamp
stamp_union union piece [] = refl
stamp_union union piece (run ∷ others) =
    elim (touches piece run) as (λ b. (union_of (if b then joined union run else union) piece others).stamp ≡ union.stamp) [
      | true ↦ stamp_union (joined union run) piece others
      | false ↦ stamp_union union piece others
    ]

pub union_within : (window : ℕ) (union piece : Run) (all : List Run) → union.to ≤ window → AllByRecursion (IsInside window) all → (union_of union piece all).to ≤ window
union_within window union piece [] fits h = fits
union_within window union piece (run ∷ others) fits h =
    elim (touches piece run) as (λ b. (union_of (if b then joined union run else union) piece others).to ≤ window) [
      | true ↦ union_within window (joined union run) piece others (omega (arith, h.0.2)) h.1
      | false ↦ union_within window union piece others fits h.1
    ]

pub union_after : (low : ℕ) (window : ℕ) (union piece : Run) (all : List Run) → low < union.from → low ≡ 0 → AllByRecursion (IsInside window) all → low < (union_of union piece all).from
union_after low window union piece [] above e h = above
union_after low window union piece (run ∷ others) above e h =
    elim (touches piece run) as (λ b. low < (union_of (if b then joined union run else union) piece others).from) [
      | true ↦ union_after low window (joined union run) piece others (omega (arith, h.0.0)) e h.1
      | false ↦ union_after low window union piece others above e h.1
    ]

union_inside : (union piece : Run) (all : List Run) (i : ℕ) → union.from ≤ piece.from → piece.to ≤ union.to → (union_of union piece all).from ≤ i → i < (union_of union piece all).to →
    ((union.from ≤ i) × (i < union.to)) ⊎ SomeCovers all i
union_inside union piece [] i wide_from wide_to low high = inl (low, high)
union_inside union piece (run ∷ others) i wide_from wide_to low high =
    (elim (touches piece run) as (λ b. touches piece run ≡ b → (union_of (if b then joined union run else union) piece others).from ≤ i → i < (union_of (if b then joined union run else union) piece others).to → ((union.from ≤ i) × (i < union.to)) ⊎ SomeCovers (run ∷ others) i) [
      | true ↦ λ e l h.
          let near : (run.from ≤ piece.to) × (piece.from ≤ run.to) = touch_tells piece run e in
          elim (union_inside (joined union run) piece others i (omega arith) (omega arith) l h) [
            | inl both ↦ elim (cases_lt i run.from) [
              | inl before ↦ inl (omega (arith, both.0), omega (arith, near.0))
              | inr from ↦ elim (cases_lt i run.to) [
                | inl in_run ↦ inr (inl (from, in_run))
                | inr behind ↦ inl (omega (arith, near.1), omega (arith, both.1))
              ]
            ]
            | inr c ↦ inr (inr c)
          ]
      | false ↦ λ e l h. elim (union_inside union piece others i wide_from wide_to l h) [ inl own ↦ inl own | inr c ↦ inr (inr c) ]
    ]) refl low high

union_or_rest : (union piece : Run) (all : List Run) (i : ℕ) → SomeCovers all i →
    (((union_of union piece all).from ≤ i) × (i < (union_of union piece all).to)) ⊎ SomeCovers (rest_of piece all) i
union_or_rest union piece [] i c = absurd c
union_or_rest union piece (run ∷ others) i c =
    elim (touches piece run) as (λ b. (((union_of (if b then joined union run else union) piece others).from ≤ i) × (i < (union_of (if b then joined union run else union) piece others).to)) ⊎ SomeCovers (if b then rest_of piece others else run ∷ rest_of piece others) i) [
      | true ↦ elim c [
        | inl h ↦ let wide = union_wraps (joined union run) piece others in inl (omega (arith, wide.0, h.0), omega (arith, wide.1, h.1))
        | inr d ↦ union_or_rest (joined union run) piece others i d
      ]
      | false ↦ elim c [
        | inl h ↦ inr (inl h)
        | inr d ↦ elim (union_or_rest union piece others i d) [ inl own ↦ inl own | inr e ↦ inr (inr e) ]
      ]
    ]

-- ---- the rest stays away from the union

abbrev Some : Run → Type 0
Some run = run.from < run.to

away_joined : (run union piece other : Run) → run.from < run.to → union.from ≤ piece.from → piece.to ≤ union.to → other.from ≤ piece.to → piece.from ≤ other.to → Away run union → Away run other → Away run (joined union other)
away_joined run union piece other some wide_from wide_to low high (inl h) (inl k) = inl (omega arith)
away_joined run union piece other some wide_from wide_to low high (inl h) (inr k) = absurd (omega arith)
away_joined run union piece other some wide_from wide_to low high (inr h) (inl k) = absurd (omega arith)
away_joined run union piece other some wide_from wide_to low high (inr h) (inr k) = inr (omega arith)

away_union : (run union piece : Run) (all : List Run) → run.from < run.to → union.from ≤ piece.from → piece.to ≤ union.to → Away run union → AllByRecursion (Away run) all → Away run (union_of union piece all)
away_union run union piece [] some wide_from wide_to away h = away
away_union run union piece (other ∷ others) some wide_from wide_to away h =
    (elim (touches piece other) as (λ b. touches piece other ≡ b → Away run (union_of (if b then joined union other else union) piece others)) [
      | true ↦ λ e. let near = touch_tells piece other e in
          away_union run (joined union other) piece others some (omega arith) (omega arith) (away_joined run union piece other some wide_from wide_to near.0 near.1 away h.0) h.1
      | false ↦ λ e. away_union run union piece others some wide_from wide_to away h.1
    ]) refl

-- each that the piece doesn't touch is away from what was joined so far
abbrev Clear : Run → Run → List Run → Type 0
Clear piece union all = AllByRecursion (λ (run : Run). touches piece run ≡ false → Away run union) all

clear_joined : (union piece other : Run) (all : List Run) → union.from ≤ piece.from → piece.to ≤ union.to → other.from ≤ piece.to → piece.from ≤ other.to → Clear piece union all → AllByRecursion (Away other) all → AllByRecursion Some all → Clear piece (joined union other) all
clear_joined union piece other [] wide_from wide_to low high clear away some = tt
clear_joined union piece other (run ∷ others) wide_from wide_to low high clear away some =
    (λ e. away_joined run union piece other some.0 wide_from wide_to low high (clear.0 e) (away_swap other run away.0), clear_joined union piece other others wide_from wide_to low high clear.1 away.1 some.1)

rest_away : (union piece : Run) (all : List Run) → union.from ≤ piece.from → piece.to ≤ union.to → Clear piece union all → AreAway all → AllByRecursion Some all → AllByRecursion (Away (union_of union piece all)) (rest_of piece all)
rest_away union piece [] wide_from wide_to clear away some = tt
rest_away union piece (run ∷ others) wide_from wide_to clear away some =
    (elim (touches piece run) as (λ b. touches piece run ≡ b → AllByRecursion (Away (union_of (if b then joined union run else union) piece others)) (if b then rest_of piece others else run ∷ rest_of piece others)) [
      | true ↦ λ e. let near = touch_tells piece run e in
          rest_away (joined union run) piece others (omega arith) (omega arith) (clear_joined union piece run others wide_from wide_to near.0 near.1 clear.1 away.0 some.1) away.1 some.1
      | false ↦ λ e. (away_swap run (union_of union piece others) (away_union run union piece others some.0 wide_from wide_to (clear.0 e) away.0), rest_away union piece others wide_from wide_to clear.1 away.1 some.1)
    ]) refl

-- ---- what the places are with the piece

own_stamp : (all : List Run) (run : Run) (i : ℕ) → AreAway all → Among run all → run.from ≤ i → i < run.to → stamp_of_run all i ≡ run.stamp
own_stamp [] run i away m low high = absurd m
own_stamp (other ∷ others) run i away (inl e) low high =
    stamp_first other others i (omega (arith, ap (λ (r : Run). r.from) e)) (omega (arith, ap (λ (r : Run). r.to) e)) ∙ ap (λ (r : Run). r.stamp) (sym e)
own_stamp (other ∷ others) run i away (inr m) low high =
    elim (stamp_or other others i) [
      | inl h ↦ absurd (away_place other run i (all_among (Away other) others run away.0 m) h.0 h.1 low high)
      | inr e ↦ e ∙ own_stamp others run i away.1 m low high
    ]

abbrev pub piece_of : ℕ → ℕ → ℕ → Run
piece_of start end stamp = record { from = start; to = end; stamp = stamp }

pub joined_described : (size start end n : ℕ) (all : List Run) → start < end → end ≤ size → length all ≡ n → AllByRecursion (IsInside size) all → AreAway all →
    let piece = piece_of start end (suc n) in
    let before = ranked all in
    Described (stamp_of_run (piece ∷ before)) size (union_of piece piece before ∷ rest_of piece before)
joined_described size start end n all some fits count inside away =
    let piece = piece_of start end (suc n) in
    let before = ranked all in
    let union = union_of piece piece before in
    let rest = rest_of piece before in
    let stamps = stamp_of_run (piece ∷ before) in
    let wide = union_wraps piece piece before in
    let are_inside : AllByRecursion (IsInside size) before = inside_ranked size all inside in
    let are_away : AreAway before = away_ranked all away in
    let above : AllByRecursion (λ (run : Run). 0 < run.stamp) (piece ∷ before) = (omega arith, ranked_above all) in
    let most : AllByRecursion (λ (run : Run). run.stamp ≤ suc n) (piece ∷ before) =
    (omega arith, all_map (λ (run : Run). run.stamp < suc n) (λ run. run.stamp ≤ suc n) before (λ run h. omega arith) (ranked_below (suc n) all (omega arith))) in
    let some_runs : AllByRecursion Some before = all_map (IsInside size) Some before (λ run h. h.1) are_inside in
    let clear : Clear piece piece before = all_map Some (λ run. touches piece run ≡ false → Away run piece) before (λ run h e. untouched piece run e) some_runs in
    let old : (i : ℕ) → SomeCovers (union ∷ rest) i → SomeCovers (piece ∷ before) i =
    λ i c. elim c [ inl h ↦ union_inside piece piece before i (omega arith) (omega arith) h.0 h.1 | inr d ↦ inr (rest_covers piece before i d) ] in
    record {
      lie = ((omega (arith, wide.0, wide.1), union_within size piece piece before fits are_inside), rest_all (Lies size) piece before (all_map (IsInside size) (Lies size) before (λ run h. (h.1, h.2)) are_inside));
      away = (rest_away piece piece before (omega arith) (omega arith) clear are_away some_runs, away_rest piece before are_away);
      covers = λ i below held. elim (stamp_covers (piece ∷ before) i held) [
        | inl h ↦ inl (omega (arith, wide.0, h.0), omega (arith, wide.1, h.1))
        | inr c ↦ union_or_rest piece piece before i c
      ];
      held = λ i c. stamp_all (λ n. 0 < n) (piece ∷ before) i above (old i c);
      tops = (
        record {
          most = λ i low high. omega (arith, stamp_union piece piece before, stamp_all (λ n'. n' ≤ suc n) (piece ∷ before) i most (old i (inl (low, high))));
          newest = (start, omega (arith, wide.0), omega (arith, wide.1), stamp_first piece before start (omega arith) some ∙ sym (stamp_union piece piece before));
        },
        all_from (Top stamps) rest (λ run m.
            let is_old = rest_among piece before run m in
            let own : (i : ℕ) → run.from ≤ i → i < run.to → stamps i ≡ run.stamp =
            λ i low high. elim (stamp_or piece before i) [
              | inl h ↦ absurd (away_place run piece i (untouched piece run is_old.1) low high h.0 h.1)
              | inr e ↦ e ∙ own_stamp before run i are_away is_old.0 low high
            ] in
            let some_run : run.from < run.to = all_among Some before run some_runs is_old.0 in
            record {
              most = λ i low high. omega (arith, own i low high);
              newest = (run.from, omega arith, some_run, own run.from (omega arith) some_run);
            }),
      );
      falls = (
        subst (λ top. AllByRecursion (λ (run : Run). run.stamp < top) rest) (sym (stamp_union piece piece before)) (rest_all (λ run. run.stamp < suc n) piece before (ranked_below (suc n) all (omega arith))),
        falls_rest piece before (ranked_falls all),
      );
    }

-- ---- the runs when bytes came in order

moved_covers : (count : ℕ) (all : List Run) (i : ℕ) → AllByRecursion (λ (run : Run). count < run.from) all → SomeCovers all (count + i) → SomeCovers (map (moved count) all) i
moved_covers count [] i h c = c
moved_covers count (run ∷ others) i h (inl c) = inl (omega (arith, h.0, c.0), omega (arith, h.0, c.1))
moved_covers count (run ∷ others) i h (inr c) = inr (moved_covers count others i h.1 c)

covers_moved : (count : ℕ) (all : List Run) (i : ℕ) → AllByRecursion (λ (run : Run). count < run.from) all → SomeCovers (map (moved count) all) i → SomeCovers all (count + i)
covers_moved count [] i h c = c
covers_moved count (run ∷ others) i h (inl c) = inl (omega (arith, h.0, c.0), omega (arith, h.0, c.1))
covers_moved count (run ∷ others) i h (inr c) = inr (covers_moved count others i h.1 c)

away_moved_both : (count : ℕ) (a b : Run) → count < a.from → count < b.from → Some a → Some b → Away a b → Away (moved count a) (moved count b)
away_moved_both count a b low_a low_b some_a some_b (inl h) = inl (omega arith)
away_moved_both count a b low_a low_b some_a some_b (inr h) = inr (omega arith)

away_moved_all : (count : ℕ) (run : Run) (all : List Run) → count < run.from → Some run → AllByRecursion (λ (r : Run). count < r.from) all → AllByRecursion Some all → AllByRecursion (Away run) all → AllByRecursion (Away (moved count run)) (map (moved count) all)
away_moved_all count run [] low some lows somes h = tt
away_moved_all count run (other ∷ others) low some lows somes h =
    (away_moved_both count run other low lows.0 some somes.0 h.0, away_moved_all count run others low some lows.1 somes.1 h.1)

pub away_moved : (count : ℕ) (all : List Run) → AllByRecursion (λ (r : Run). count < r.from) all → AllByRecursion Some all → AreAway all → AreAway (map (moved count) all)
away_moved count [] lows somes h = tt
away_moved count (run ∷ others) lows somes h = (away_moved_all count run others lows.0 somes.0 lows.1 somes.1 h.0, away_moved count others lows.1 somes.1 h.1)

pub all_moved : (P Q : Run → Type 0) (count : ℕ) (all : List Run) → ((run : Run) → P run → Q (moved count run)) → AllByRecursion P all → AllByRecursion Q (map (moved count) all)
all_moved P Q count [] f h = tt
all_moved P Q count (run ∷ others) f h = (f run h.0, all_moved P Q count others f h.1)

falls_moved : (count : ℕ) (all : List Run) → FallsFrom all → FallsFrom (map (moved count) all)
falls_moved count [] h = tt
falls_moved count (run ∷ others) h = (all_moved (λ r. r.stamp < run.stamp) (λ r. r.stamp < run.stamp) count others (λ r low. low) h.0, falls_moved count others h.1)

both_all : (P Q : Run → Type 0) (all : List Run) → AllByRecursion P all → AllByRecursion Q all → AllByRecursion (λ run. P run × Q run) all
both_all P Q [] h k = tt
both_all P Q (run ∷ others) h k = ((h.0, k.0), both_all P Q others h.1 k.1)

top_moved : (stamps : ℕ → ℕ) (count : ℕ) (run : Run) → count < run.from → Top stamps run → Top (λ i. stamps (count + i)) (moved count run)
top_moved stamps count run low top =
    let same : count + (top.newest.0 - count) ≡ top.newest.0 = omega (arith, top.newest.1) in
    record {
      most = λ i from to. top.most (count + i) (omega arith) (omega arith);
      newest = (top.newest.0 - count, omega (arith, top.newest.1), omega (arith, top.newest.1, top.newest.2), ap stamps same ∙ top.newest.3);
    }

-- runs after one that begins at the first place
pub after_first : (union : Run) (rest : List Run) (count : ℕ) → union.from ≡ 0 → union.to ≡ count → AllByRecursion (Away union) rest → AllByRecursion (λ (run : Run). count < run.from) rest
after_first union rest count from to away =
    all_map (Away union) (λ run. count < run.from) rest (λ run h. elim h [ inl k ↦ omega arith | inr k ↦ absurd (omega arith) ]) away

pub moved_described : (stamps : ℕ → ℕ) (size count : ℕ) (union : Run) (rest : List Run) → Described stamps size (union ∷ rest) → union.from ≡ 0 → union.to ≡ count → Described (λ i. stamps (count + i)) (size - count) (map (moved count) rest)
moved_described stamps size count union rest d from to =
    let behind : AllByRecursion (λ (run : Run). count < run.from) rest = after_first union rest count from to d.away.0 in
    let lie : AllByRecursion (Lies size) rest = d.lie.1 in
    let both = both_all (λ run. count < run.from) (Lies size) rest behind lie in
    record {
      lie = all_moved (λ run. (count < run.from) × Lies size run) (Lies (size - count)) count rest (λ run h. (omega (arith, h.0, h.1.0), omega (arith, h.0, h.1.1))) both;
      away = away_moved count rest behind (all_map (Lies size) Some rest (λ run h. h.0) lie) d.away.1;
      covers = λ i below held. elim (d.covers (count + i) (omega arith) held) [
        | inl h ↦ absurd (omega (arith, h.1))
        | inr c ↦ moved_covers count rest i behind c
      ];
      held = λ i c. d.held (count + i) (inr (covers_moved count rest i behind c));
      tops = all_moved (λ run. (count < run.from) × Top stamps run) (Top (λ i. stamps (count + i))) count rest (λ run h. top_moved stamps count run h.0 h.1) (both_all (λ run. count < run.from) (Top stamps) rest behind d.tops.1);
      falls = falls_moved count rest d.falls.1;
    }

-- ---- ranks once more: only edges and order count

ranked_rest : (start end n m : ℕ) (all : List Run) → ranked (rest_of (piece_of start end n) (ranked all)) ≡ ranked (rest_of (piece_of start end m) all)
ranked_rest start end n m [] = refl
ranked_rest start end n m (run ∷ others) =
    let p = piece_of start end n in
    let q = piece_of start end m in
    let same = ranked_rest start end n m others in
    let size : length (rest_of p (ranked others)) ≡ length (rest_of q others) = sym (length_ranked (rest_of p (ranked others))) ∙ ap length same ∙ length_ranked (rest_of q others) in
    elim (touches q run) as (λ b. ranked (if b then rest_of p (ranked others) else record run { stamp = suc (length others) } ∷ rest_of p (ranked others)) ≡ ranked (if b then rest_of q others else run ∷ rest_of q others)) [
      | true ↦ same
      | false ↦ ap (λ k. record run { stamp = suc k } ∷ ranked (rest_of p (ranked others))) size ∙ ap (λ rs. record run { stamp = suc (length (rest_of q others)) } ∷ rs) same
    ]

same_union : (union other : Run) (start end n m : ℕ) (all : List Run) → union.from ≡ other.from → union.to ≡ other.to →
    ((union_of union (piece_of start end n) (ranked all)).from ≡ (union_of other (piece_of start end m) all).from) × ((union_of union (piece_of start end n) (ranked all)).to ≡ (union_of other (piece_of start end m) all).to)
same_union union other start end n m [] from to = (from, to)
same_union union other start end n m (run ∷ others) from to =
    let q = piece_of start end m in
    let ranked_run : Run = record run { stamp = suc (length others) } in
    elim (touches q run) as (λ b. ((union_of (if b then joined union ranked_run else union) (piece_of start end n) (ranked others)).from ≡ (union_of (if b then joined other run else other) q others).from) × ((union_of (if b then joined union ranked_run else union) (piece_of start end n) (ranked others)).to ≡ (union_of (if b then joined other run else other) q others).to)) [
      | true ↦ same_union (joined union ranked_run) (joined other run) start end n m others (ap (λ k. min k run.from) from) (ap (λ k. max k run.to) to)
      | false ↦ same_union union other start end n m others from to
    ]

pub ranked_joined : (start end n m : ℕ) (all : List Run) →
    let p = piece_of start end n in
    let q = piece_of start end m in
    ranked (union_of p p (ranked all) ∷ rest_of p (ranked all)) ≡ ranked (union_of q q all ∷ rest_of q all)
ranked_joined start end n m all =
    let p = piece_of start end n in
    let q = piece_of start end m in
    let same = ranked_rest start end n m all in
    let size : length (rest_of p (ranked all)) ≡ length (rest_of q all) = sym (length_ranked (rest_of p (ranked all))) ∙ ap length same ∙ length_ranked (rest_of q all) in
    let edges = same_union p q start end n m all refl refl in
    ap (λ k. record { from = k; to = (union_of p p (ranked all)).to; stamp = suc (length (rest_of p (ranked all))) } ∷ ranked (rest_of p (ranked all))) edges.0
    ∙ ap (λ k. record { from = (union_of q q all).from; to = k; stamp = suc (length (rest_of p (ranked all))) } ∷ ranked (rest_of p (ranked all))) edges.1
    ∙ ap (λ k. record { from = (union_of q q all).from; to = (union_of q q all).to; stamp = suc k } ∷ ranked (rest_of p (ranked all))) size
    ∙ ap (λ rs. record { from = (union_of q q all).from; to = (union_of q q all).to; stamp = suc (length (rest_of q all)) } ∷ rs) same

ranked_map : (count : ℕ) (all : List Run) → ranked (map (moved count) all) ≡ map (moved count) (ranked all)
ranked_map count [] = refl
ranked_map count (run ∷ others) =
    let size : length (map (moved count) others) ≡ length others = length-map others (moved count) in
    ap (λ k. record { from = run.from - count; to = run.to - count; stamp = suc k } ∷ ranked (map (moved count) others)) size
    ∙ ap (λ rs. record { from = run.from - count; to = run.to - count; stamp = suc (length others) } ∷ rs) (ranked_map count others)

pub ranked_moved : (start end n m count : ℕ) (all : List Run) →
    ranked (map (moved count) (rest_of (piece_of start end n) (ranked all))) ≡ ranked (map (moved count) (rest_of (piece_of start end m) all))
ranked_moved start end n m count all =
    ranked_map count (rest_of (piece_of start end n) (ranked all))
    ∙ ap (map (moved count)) (ranked_rest start end n m all)
    ∙ sym (ranked_map count (rest_of (piece_of start end m) all))

-- ---- the invariant of a table

-- the places of a table under its invariant
pub kept_described : (size : ℕ) (all : List Run) → AllByRecursion (IsInside size) all → AreAway all → Described (stamp_of_run (ranked all)) size (ranked all)
kept_described size all inside away =
    let before = ranked all in
    let are_inside : AllByRecursion (IsInside size) before = inside_ranked size all inside in
    let are_away : AreAway before = away_ranked all away in
    record {
      lie = all_map (IsInside size) (Lies size) before (λ run h. (h.1, h.2)) are_inside;
      away = are_away;
      covers = λ i below held. stamp_covers before i held;
      held = λ i c. stamp_all (λ n. 0 < n) before i (ranked_above all) c;
      tops = all_from (Top (stamp_of_run before)) before (λ run m.
          let own = λ (i : ℕ) (low : run.from ≤ i) (high : i < run.to). own_stamp before run i are_away m low high in
          let some_run : run.from < run.to = (all_among (IsInside size) before run are_inside m).1 in
          record {
            most = λ i low high. omega (arith, own i low high);
            newest = (run.from, omega arith, some_run, own run.from (omega arith) some_run);
          });
      falls = ranked_falls all;
    }

all_clear : (piece : Run) (all : List Run) → Clear piece piece all
all_clear piece [] = tt
all_clear piece (run ∷ others) = (λ e. untouched piece run e, all_clear piece others)

joined_away : (window : ℕ) (piece : Run) (all : List Run) → AllByRecursion (IsInside window) all → AreAway all → AllByRecursion (Away (union_of piece piece all)) (rest_of piece all)
joined_away window piece all inside away =
    rest_away piece piece all (omega arith) (omega arith) (all_clear piece all) away (all_map (IsInside window) Some all (λ run h. h.1) inside)

pub joined_inside : (window : ℕ) (piece : Run) (all : List Run) → IsInside window piece → AllByRecursion (IsInside window) all → AllByRecursion (IsInside window) (union_of piece piece all ∷ rest_of piece all)
joined_inside window piece all own inside =
    let wide = union_wraps piece piece all in
    ((union_after 0 window piece piece all own.0 refl inside, omega (arith, wide.0, wide.1, own.1), union_within window piece piece all own.2 inside), rest_all (IsInside window) piece all inside)

pub joined_are_away : (window : ℕ) (piece : Run) (all : List Run) → AllByRecursion (IsInside window) all → AreAway all → AreAway (union_of piece piece all ∷ rest_of piece all)
joined_are_away window piece all inside away = (joined_away window piece all inside away, away_rest piece all away)

-- the rest after a piece that begins at the next byte
rest_after : (window : ℕ) (piece : Run) (all : List Run) → piece.from ≡ 0 → AllByRecursion (IsInside window) all → AreAway all → AllByRecursion (λ (run : Run). (union_of piece piece all).to < run.from) (rest_of piece all)
rest_after window piece all from inside away =
    after_first (union_of piece piece all) (rest_of piece all) (union_of piece piece all).to (omega (arith, (union_wraps piece piece all).0)) refl (joined_away window piece all inside away)

pub moved_inside : (window : ℕ) (piece : Run) (all : List Run) → piece.from ≡ 0 → AllByRecursion (IsInside window) all → AreAway all →
    let count = (union_of piece piece all).to in AllByRecursion (IsInside (window - count)) (map (moved count) (rest_of piece all))
moved_inside window piece all from inside away =
    let count = (union_of piece piece all).to in
    all_moved (λ run. (count < run.from) × IsInside window run) (IsInside (window - count)) count (rest_of piece all) (λ run h. (omega (arith, h.0), omega (arith, h.0, h.1.1), omega (arith, h.1.2)))
    (both_all (λ run. count < run.from) (IsInside window) (rest_of piece all) (rest_after window piece all from inside away) (rest_all (IsInside window) piece all inside))

pub moved_away : (window : ℕ) (piece : Run) (all : List Run) → piece.from ≡ 0 → AllByRecursion (IsInside window) all → AreAway all →
    AreAway (map (moved (union_of piece piece all).to) (rest_of piece all))
moved_away window piece all from inside away =
    away_moved (union_of piece piece all).to (rest_of piece all) (rest_after window piece all from inside away)
    (all_map (IsInside window) Some (rest_of piece all) (λ run h. h.1) (rest_all (IsInside window) piece all inside)) (away_rest piece all away)

pub union_count : (start end n m : ℕ) (all : List Run) → (union_of (piece_of start end n) (piece_of start end n) (ranked all)).to ≡ (union_of (piece_of start end m) (piece_of start end m) all).to
union_count start end n m all = (same_union (piece_of start end n) (piece_of start end m) start end n m all refl refl).1

pub length_rest : (start end n m : ℕ) (all : List Run) → length (rest_of (piece_of start end n) (ranked all)) ≡ length (rest_of (piece_of start end m) all)
length_rest start end n m all =
    sym (length_ranked (rest_of (piece_of start end n) (ranked all))) ∙ ap length (ranked_rest start end n m all) ∙ length_ranked (rest_of (piece_of start end m) all)
