-- RUNS of numbers that came: joined, cut at an acknowledgement, and looked up.
use Rattle.std.proofs.Common.{◌≡◌, ◌≢◌, set, get_or-set_other, length-take, get_or-take, length-append, take_all, ℕ, ◌+◌, ◌-◌, ◌^◌, ◌<◌, ◌≤◌, List, [], ◌∷◌, ◌++◌, length, take, get_or, max, arith, All, ⊎_elim, refl, sym, ◌∙◌, ap, subst}
use Rattle.std.specs.Prelude.{Bool, true, not, filter, if◌then◌else◌}
use Rattle.std.specs.List.{AllByRecursion, AllWithin}
use Rattle.std.proofs.lemmas.List.{take-append-le}
use Rattle.std.proofs.lemmas.Bool.{cases_lt, ltb-true, lt-ltb}
use Rattle.std.proofs.lemmas.List.Elements.{All-get_or, All-weaker, All-nil, All-append, All-cons, recursion_from_All, filter_passes}
use Rattle.tcp_numbers.specs.declared.seq.Seq.{Seq}
use Rattle.tcp_wire.specs.Position.{number, distance}
use Rattle.tcp_judge.specs.Heard.{covers, has_come, is_passed, without_passed}
use Rattle.tcp_judge.specs.Run.{IsRun}
use Rattle.tcp_judge.proofs.Numbers.{come-more, come-at, still-come}

-- a number behind another one, by the distances between
distance-sum : (a b n : ℕ) → b < 2 ^ 32 → distance a b + distance b n < 2 ^ 32 → distance a n ≡ distance a b + distance b n
distance-sum a b n small short = omega (arith, small, short)

distance-rest : (a b n : ℕ) → a < 2 ^ 32 → b < 2 ^ 32 → distance a b ≤ distance a n → distance b n ≡ distance a n - distance a b
distance-rest a b n small small' before = omega (arith, small, small', before)

pub joined-run : (last : ℕ) (spans : List (Seq × ℕ)) (one other : Seq × ℕ) (count : ℕ) → distance one.0.0 other.0.0 ≤ one.1
    → count ≤ max one.1 (distance one.0.0 other.0.0 + other.1) → IsRun last spans one → IsRun last spans other → IsRun last spans (one.0, count)
joined-run last spans one other count touches most h h' =
    let small : one.0.0 < 2 ^ 32 = h.number in
    let small' : other.0.0 < 2 ^ 32 = h'.number in
    let sum : distance last other.0.0 ≡ distance last one.0.0 + distance one.0.0 other.0.0 =
    distance-sum last one.0.0 other.0.0 small (omega (arith, h.near, touches)) in
    record {
      number = small;
      near = omega (arith, h.near, h'.near, sum, most);
      came = λ n e.
          let inside : distance one.0.0 n < count = ltb-true (distance one.0.0 n) count e in
          ⊎_elim (λ (first : distance one.0.0 n < one.1). h.came n (lt-ltb (distance one.0.0 n) one.1 first))
          (λ (behind : one.1 ≤ distance one.0.0 n).
          let rest = distance-rest one.0.0 other.0.0 n small small' (omega (arith, touches, behind)) in
          h'.came n (lt-ltb (distance other.0.0 n) other.1 (omega (arith, rest, inside, most, behind, touches))))
          (cases_lt (distance one.0.0 n) one.1);
    }

-- a part of a run that is ahead of another acknowledgement
pub part-run : (last acked_number : ℕ) (spans : List (Seq × ℕ)) (run part : Seq × ℕ) → part.0.0 < 2 ^ 32
    → distance acked_number part.0.0 + part.1 ≤ 2 ^ 31 → ((n : ℕ) → covers n part ≡ true → covers n run ≡ true)
    → IsRun last spans run → IsRun acked_number spans part
part-run last acked_number spans run part small near inside h = record { number = small; near = near; came = λ n e. h.came n (inside n e) }

-- and of a span
pub span-run : (last : ℕ) (spans : List (Seq × ℕ)) (i : ℕ) (d part : Seq × ℕ) → i < length spans → part.0.0 < 2 ^ 32
    → distance last part.0.0 + part.1 ≤ 2 ^ 31 → ((n : ℕ) → covers n part ≡ true → covers n (get_or spans i d) ≡ true) → IsRun last spans part
span-run last spans i d part inside small near is = record { number = small; near = near; came = λ n e. come-at spans i n d inside (is n e) }

-- a run has numbers that are still known to have come when what is acknowledged is forgotten
run-kept : (acked_number : ℕ) (spans : List (Seq × ℕ)) (run : Seq × ℕ) → acked_number < 2 ^ 32 → IsRun acked_number spans run
    → IsRun acked_number (without_passed acked_number spans) run
run-kept acked_number spans run small h = record {
  number = h.number;
  near = h.near;
  came = λ n e.
      let less : distance run.0.0 n < run.1 = ltb-true (distance run.0.0 n) run.1 e in
      let sum = distance-sum acked_number run.0.0 n h.number (omega (arith, less, h.near)) in
      still-come spans acked_number n small (omega (arith, sum, less, h.near)) (h.came n e);
}

pub runs-kept : (acked_number : ℕ) (spans runs : List (Seq × ℕ)) → acked_number < 2 ^ 32 → All (IsRun acked_number spans) runs
    → All (IsRun acked_number (without_passed acked_number spans)) runs
runs-kept acked_number spans runs small h =
    All-weaker (IsRun acked_number spans) (IsRun acked_number (without_passed acked_number spans)) (λ run r. run-kept acked_number spans run small r) runs h

-- still, after more came
pub runs-more : (last : ℕ) (spans more : List (Seq × ℕ)) (runs : List (Seq × ℕ)) → All (IsRun last spans) runs → All (IsRun last (spans ++ more)) runs
runs-more last spans more runs h =
    All-weaker (IsRun last spans) (IsRun last (spans ++ more)) (λ run r. record { number = r.number; near = r.near; came = λ n e. come-more spans more n (r.came n e) }) runs h

-- what is left of a list is left when the same is forgotten again
filter-all : (p : Seq × ℕ → Bool) (xs : List (Seq × ℕ)) → AllByRecursion (λ x. p x ≡ true) xs → filter p xs ≡ xs
filter-all p [] h = refl
filter-all p (x ∷ xs) h = ap (λ b. if b then x ∷ filter p xs else filter p xs) h.0 ∙ ap (λ ys. x ∷ ys) (filter-all p xs h.1)

pub without-twice : (acked_number : ℕ) (xs : List (Seq × ℕ)) → without_passed acked_number (without_passed acked_number xs) ≡ without_passed acked_number xs
without-twice acked_number xs =
    let p : Seq × ℕ → Bool = λ span. not (is_passed acked_number span) in
    filter-all p (filter p xs) (recursion_from_All (λ x. p x ≡ true) (filter p xs) (filter_passes p xs))

-- WHAT IS KEPT: none of the first spans is passed, and the runs came, those ahead of the acknowledgement and those behind it
abbrev pub IsKept : ℕ → ℕ → List (Seq × ℕ) → List (Seq × ℕ) → List (Seq × ℕ) → Type 0
IsKept acked_number clean spans runs older =
    (clean ≤ length spans) × (without_passed acked_number (take clean spans) ≡ take clean spans) × All (IsRun acked_number spans) runs
    × All (IsRun (number acked_number (2 ^ 31)) spans) older

pub kept-more : (acked_number clean : ℕ) (spans spans' runs older : List (Seq × ℕ)) (span : Seq × ℕ) → spans' ≡ spans ++ span ∷ []
    → IsKept acked_number clean spans runs older → IsKept acked_number clean spans' runs older
kept-more acked_number clean spans spans' runs older span e h =
    let front : take clean (spans ++ span ∷ []) ≡ take clean spans = take-append-le clean spans (span ∷ []) h.0 in
    subst (λ xs. IsKept acked_number clean xs runs older) (sym e) (
      omega (arith, h.0, length-append spans (span ∷ [])),
      ap (without_passed acked_number) front ∙ h.1 ∙ sym front,
      runs-more acked_number spans (span ∷ []) runs h.2,
      runs-more (number acked_number (2 ^ 31)) spans (span ∷ []) older h.3,
    )

pub kept-left : (acked_number n : ℕ) (spans spans' runs older : List (Seq × ℕ)) → acked_number < 2 ^ 32 → spans' ≡ without_passed acked_number spans
    → n ≡ length spans' → older ≡ [] → All (IsRun acked_number spans) runs → IsKept acked_number n spans' runs older
kept-left acked_number n spans spans' runs older small e long none h =
    let all : take n spans' ≡ spans' = take_all n spans' (omega (arith, long)) in (
      omega (arith, long),
      ap (without_passed acked_number) all ∙ ap (without_passed acked_number) e ∙ without-twice acked_number spans ∙ sym e ∙ sym all,
      subst (λ xs. All (IsRun acked_number xs) runs) (sym e) (runs-kept acked_number spans runs small h),
      subst (λ xs. All (IsRun (number acked_number (2 ^ 31)) spans') xs) (sym none) (All-nil (IsRun (number acked_number (2 ^ 31)) spans')),
    )

-- a number that one of the runs has
pub run-came : (last : ℕ) (spans runs : List (Seq × ℕ)) (i n : ℕ) (run : Seq × ℕ) → All (IsRun last spans) runs → i < length runs
    → run ≡ get_or runs i run → covers n run ≡ true → has_come spans n ≡ true
run-came last spans runs i n run h inside is covered =
    let it = subst (IsRun last spans) (sym is) (All-get_or (IsRun last spans) runs i run inside h) in
    it.came n covered

-- one more behind all
pub all-more : (P : Seq × ℕ → Type 0) (xs : List (Seq × ℕ)) (x : Seq × ℕ) → All P xs → P x → All P (xs ++ x ∷ [])
all-more P xs x all h = All-append P xs (x ∷ []) all (All-cons P x [] h (All-nil P))

-- WRITES at a place, by index
pub behind-set : (P : Seq × ℕ → Type 0) (xs : List (Seq × ℕ)) (at i n : ℕ) (v : Seq × ℕ) → at ≤ i → AllWithin P xs i n → AllWithin P (set xs at v) (i + 1) n
behind-set P xs at i n v before h = λ k d low high. let ne : k ≢ at = omega (arith, low, before) in rw get_or-set_other (h k d (omega (arith, low)) high)

pub behind-one : (P : Seq × ℕ → Type 0) (xs : List (Seq × ℕ)) (i n : ℕ) → AllWithin P xs i n → AllWithin P xs (i + 1) n
behind-one P xs i n h = λ k d low high. h k d (omega (arith, low)) high

pub all-front : (P : Seq × ℕ → Type 0) (xs : List (Seq × ℕ)) (n : ℕ) → n ≤ length xs → AllWithin P xs 0 n → All P (take n xs)
all-front P xs n inside h = λ k d less.
    let before : k < n = omega (arith, less, length-take n xs) in
    subst P (sym (get_or-take n xs k d before)) (h k d (omega arith) before)
