-- NUMBERS THAT CAME, so many from one on.
use Rattle.std.proofs.Common.{◌≡◌, ℕ, zero, suc, ◌+◌, ◌<◌, ◌≤◌, List, [], ◌∷◌, ◌++◌, refl, sym, ◌-◌, ◌∙◌, ap, subst, arith, ⊎_elim, inl, inr}
use Rattle.std.specs.Prelude.{◌⊎◌, Bool, true, false, ◌&&◌, ◌||◌}
use Rattle.std.proofs.Common.{◌^◌, ◌%◌, length, take, drop, get_or}
use Rattle.std.specs.Prelude.{nat_le, not, if◌then◌else◌}
use Rattle.std.proofs.lemmas.Bool.{and_from, cases_lt, false≢true, and_parts, not-false, or_right, ltb-true, leb-true, le-ltb, lt-ltb, lt-leb, le-leb}
use Rattle.tcp_numbers.specs.declared.seq.Seq.{Seq}
use Rattle.tcp_wire.specs.Position.{number, distance}
use Rattle.tcp_replay.proofs.Lists.{by_test}
use Rattle.tcp_judge.specs.Run.{number_before, any_within}
use Rattle.tcp_judge.specs.Heard.{covers, has_come, all_came, goes_on, begins, is_from, is_passed, without_passed}

not-both : (a b : Bool) → (a ≡ false) ⊎ (b ≡ false) → a && b ≡ false
not-both true b (inl e) = absurd (false≢true (sym e))
not-both true b (inr e) = e
not-both false b h = refl

distance-most : (irs from to : ℕ) → from ≤ to → distance (number irs from) (number irs to) ≤ to - from
distance-most irs from to order = omega arith

pub number-on : (irs from j : ℕ) → number (number irs from) j ≡ number irs (from + j)
number-on irs from j = omega arith

pub all-came : (spans : List (Seq × ℕ)) (from count : ℕ) → ((j : ℕ) → j < count → has_come spans (number from j) ≡ true) → all_came spans from count ≡ true
unfolding all_came
all-came spans from zero h = refl
all-came spans from (suc n) h =
    and_from (has_come spans (number from n)) (all_came spans from n) (h n (omega arith)) (all-came spans from n (λ j less. h j (omega arith)))

pub one-missing : (spans : List (Seq × ℕ)) (from count j : ℕ) → j < count → has_come spans (number from j) ≡ false → all_came spans from count ≡ false
unfolding all_came
one-missing spans from zero j less h = absurd (omega arith)
one-missing spans from (suc n) j less h =
    ⊎_elim
    (λ (before : j < n). not-both (has_come spans (number from n)) (all_came spans from n) (inr (one-missing spans from n j before h)))
    (λ (last : n ≤ j).
    let same : j ≡ n = omega arith in
    not-both (has_come spans (number from n)) (all_came spans from n) (inl (subst (λ (i : ℕ). has_come spans (number from i) ≡ false) same h)))
    (cases_lt j n)

-- THE NUMBERS RIGHT BEFORE one, counted back from it: where so many came, each number that is no further behind goes on to it,
back-number : (from n i : ℕ) → from < 2 ^ 32 → n < 2 ^ 32 → i < distance from n → number from i ≡ number_before n (distance from n - 1 - i + 1)
back-number from n i first small inside = omega (arith, first, small, inside)

pub back-came : (spans : List (Seq × ℕ)) (from n count : ℕ) → from < 2 ^ 32 → n < 2 ^ 32 → distance from n ≤ count
    → ((j : ℕ) → j < count → has_come spans (number_before n (j + 1)) ≡ true) → goes_on spans from n ≡ true
back-came spans from n count first small order came =
    all-came spans from (distance from n)
    (λ i less. subst (λ (k : ℕ). has_come spans k ≡ true) (sym (back-number from n i first small less))
    (came (distance from n - 1 - i) (omega (arith, order, less))))

-- and where the next one didn't, none that is further behind does
missing-number : (from n count : ℕ) → from < 2 ^ 32 → n < 2 ^ 32 → count < distance from n
    → number_before n (count + 1) ≡ number from (distance from n - 1 - count)
missing-number from n count first small order = omega (arith, first, small, order)

pub back-missing : (spans : List (Seq × ℕ)) (from n count : ℕ) → from < 2 ^ 32 → n < 2 ^ 32 → count < distance from n
    → has_come spans (number_before n (count + 1)) ≡ false → goes_on spans from n ≡ false
back-missing spans from n count first small order missing =
    one-missing spans from (distance from n) (distance from n - 1 - count) (omega (arith, order))
    (subst (λ (k : ℕ). has_come spans k ≡ false) (missing-number from n count first small order) missing)

-- so each that is asked goes on where it is no further behind than what came without a gap
pub goes_on-counted : (spans : List (Seq × ℕ)) (from n count : ℕ) → from < 2 ^ 32 → n < 2 ^ 32
    → ((j : ℕ) → j < count → has_come spans (number_before n (j + 1)) ≡ true) → has_come spans (number_before n (count + 1)) ≡ false
    → goes_on spans from n ≡ nat_le (distance from n) count
goes_on-counted spans from n count first small came missing =
    ⊎_elim
    (λ (behind : count < distance from n). back-missing spans from n count first small behind missing ∙ sym (lt-leb (distance from n) count behind))
    (λ (near : distance from n ≤ count). back-came spans from n count first small near came ∙ sym (le-leb (distance from n) count near))
    (cases_lt count (distance from n))

pub goes_on-all : (spans : List (Seq × ℕ)) (from n count : ℕ) → from < 2 ^ 32 → n < 2 ^ 32 → distance from n ≤ count
    → ((j : ℕ) → j < count → has_come spans (number_before n (j + 1)) ≡ true) → goes_on spans from n ≡ nat_le (distance from n) count
goes_on-all spans from n count first small near came =
    back-came spans from n count first small near came ∙ sym (le-leb (distance from n) count near)

pub number_before-next : (n count : ℕ) → n < 2 ^ 32 → count < 2 ^ 32 - 1 → (n + (2 ^ 32 - 1 - count)) % 2 ^ 32 ≡ number_before n (count + 1)
number_before-next n count small less = omega (arith, small, less)

before-before : (n count j : ℕ) → n < 2 ^ 32 → count < 2 ^ 32 - 1 → count ≤ j → j < 2 ^ 32 - 1
    → number_before (number_before n (count + 1)) (j - count) ≡ number_before n (j + 1)
before-before n count j small less order short = omega (arith, small, less, order, short)

pub number_before-sum : (n count j wanted : ℕ) → n < 2 ^ 32 → count < 2 ^ 32 - 1 → count ≤ j → j < 2 ^ 32 - 1 → wanted ≡ number_before n (count + 1)
    → number_before wanted (j - count) ≡ number_before n (j + 1)
number_before-sum n count j wanted small less order short next =
    ap (λ w. number_before w (j - count)) next ∙ before-before n count j small less order short

-- what came, came still when more did
or-more : (a b b' : Bool) → (b ≡ true → b' ≡ true) → a || b ≡ true → a || b' ≡ true
or-more true b b' f e = refl
or-more false b b' f e = f e

or-neither : (a b b' : Bool) → a || b ≡ false → (b ≡ false → b' ≡ false) → a || b' ≡ false
or-neither true b b' e f = absurd (false≢true (sym e))
or-neither false b b' e f = f e

pub come-more : (spans more : List (Seq × ℕ)) (n : ℕ) → has_come spans n ≡ true → has_come (spans ++ more) n ≡ true
come-more [] more n e = absurd (false≢true e)
come-more (span ∷ spans) more n e = or-more (covers n span) (has_come spans n) (has_come (spans ++ more) n) (come-more spans more n) e

pub come-last : (spans : List (Seq × ℕ)) (span : Seq × ℕ) (n : ℕ) → covers n span ≡ true → has_come (spans ++ span ∷ []) n ≡ true
come-last [] span n e = ap (λ b. b || false) e
come-last (first ∷ spans) span n e = or_right (covers n first) (has_come (spans ++ span ∷ []) n) (come-last spans span n e)

-- what has the number is behind an index or before it
pub come-behind : (spans : List (Seq × ℕ)) (k n : ℕ) → has_come (drop k spans) n ≡ true → has_come spans n ≡ true
come-behind spans zero n e = e
come-behind [] (suc k) n e = e
come-behind (span ∷ spans) (suc k) n e = or_right (covers n span) (has_come spans n) (come-behind spans k n e)

pub come-before : (spans : List (Seq × ℕ)) (k n : ℕ) → has_come (take k spans) n ≡ true → has_come spans n ≡ true
come-before spans zero n e = absurd (false≢true e)
come-before [] (suc k) n e = e
come-before (span ∷ spans) (suc k) n e = or-more (covers n span) (has_come (take k spans) n) (has_come spans n) (come-before spans k n) e

pub come-neither : (spans : List (Seq × ℕ)) (k n : ℕ) → has_come (drop k spans) n ≡ false → has_come (take k spans) n ≡ false → has_come spans n ≡ false
come-neither spans zero n e f = e
come-neither [] (suc k) n e f = e
come-neither (span ∷ spans) (suc k) n e f = or-neither (covers n span) (has_come (take k spans) n) (has_come spans n) f (come-neither spans k n e)

-- BACK FROM A NUMBER of a span each down to its first one came
pub covers-before : (span : Seq × ℕ) (n j : ℕ) → span.0.0 < 2 ^ 32 → n < 2 ^ 32 → j ≤ distance span.0.0 n → distance span.0.0 n < span.1
    → covers (number_before n j) span ≡ true
covers-before span n j first small order inside =
    let back : distance span.0.0 (number_before n j) ≡ distance span.0.0 n - j = omega (arith, first, small, order) in
    lt-ltb (distance span.0.0 (number_before n j)) span.1 (omega (arith, back, inside))

pub come-at : (spans : List (Seq × ℕ)) (i n : ℕ) (d : Seq × ℕ) → i < length spans → covers n (get_or spans i d) ≡ true → has_come spans n ≡ true
come-at [] i n d inside e = absurd (omega arith)
come-at (span ∷ spans) zero n d inside e = ap (λ b. b || has_come spans n) e
come-at (span ∷ spans) (suc i) n d inside e = or_right (covers n span) (has_come spans n) (come-at spans i n d (omega arith) e)

-- WHAT IS PASSED covers no number that is less than 2^31 ahead of the acknowledgement,
ahead-not_covered : (span : Seq × ℕ) (acked_number n : ℕ) → acked_number < 2 ^ 32 → distance acked_number n < 2 ^ 31 → is_passed acked_number span ≡ true → covers n span ≡ false
ahead-not_covered span acked_number n small near passed =
    let parts = and_parts (nat_le span.1 (distance span.0.0 acked_number)) (is_from span.0.0 acked_number) passed in
    let beyond : span.1 ≤ distance span.0.0 acked_number = leb-true span.1 (distance span.0.0 acked_number) parts.0 in
    let close : distance span.0.0 acked_number < 2 ^ 31 = ltb-true (distance span.0.0 acked_number) (2 ^ 31) parts.1 in
    let sum : distance span.0.0 n ≡ distance span.0.0 acked_number + distance acked_number n = omega (arith, small, near, close) in
    le-ltb (distance span.0.0 n) span.1 (omega (arith, sum, beyond))

or-uncovered : (a b : Bool) → a ≡ false → a || b ≡ true → b ≡ true
or-uncovered true b e f = absurd (false≢true (sym e))
or-uncovered false b e f = f

-- so each such number that came is still known to have come
pub still-come : (spans : List (Seq × ℕ)) (acked_number n : ℕ) → acked_number < 2 ^ 32 → distance acked_number n < 2 ^ 31 → has_come spans n ≡ true
    → has_come (without_passed acked_number spans) n ≡ true
still-come [] acked_number n small near e = e
still-come (span ∷ spans) acked_number n small near e =
    let rest = without_passed acked_number spans in
    by_test (not (is_passed acked_number span)) (λ b. has_come (if b then span ∷ rest else rest) n ≡ true)
    (λ _. or-more (covers n span) (has_come spans n) (has_come rest n) (still-come spans acked_number n small near) e)
    (λ passed. still-come spans acked_number n small near
    (or-uncovered (covers n span) (has_come spans n) (ahead-not_covered span acked_number n small near (not-false (is_passed acked_number span) passed)) e))

-- a SYN with this number came
abbrev pub HasSyn : List Seq → ℕ → Type 0
HasSyn [] n = ⊥
HasSyn (first ∷ syns) n = (first.0 ≡ n) ⊎ HasSyn syns n

pub syn-more : (syns more : List Seq) (n : ℕ) → HasSyn syns n → HasSyn (syns ++ more) n
syn-more [] more n h = absurd h
syn-more (first ∷ syns) more n (inl e) = inl e
syn-more (first ∷ syns) more n (inr h) = inr (syn-more syns more n h)

pub syn-last : (syns : List Seq) (seq : Seq) → HasSyn (syns ++ seq ∷ []) seq.0
syn-last [] seq = inl refl
syn-last (first ∷ syns) seq = inr (syn-last syns seq)

pub begins-at : (spans : List (Seq × ℕ)) (syns : List Seq) (irs acked_number : ℕ) → HasSyn syns irs → goes_on spans (number irs 1) acked_number ≡ true
    → begins spans syns acked_number ≡ true
begins-at spans [] irs acked_number h e = absurd h
begins-at spans (first ∷ syns) irs acked_number (inl same) e =
    ap (λ b. b || begins spans syns acked_number) (ap (λ n. goes_on spans (number n 1) acked_number) same ∙ e)
begins-at spans (first ∷ syns) irs acked_number (inr h) e =
    or_right (goes_on spans (number first.0 1) acked_number) (begins spans syns acked_number) (begins-at spans syns irs acked_number h e)

-- where each number goes on that is no further before it than so many, an acknowledgement begins where a SYN is none further
pub begins-within : (spans : List (Seq × ℕ)) (syns : List Seq) (acked_number count : ℕ)
    → ((from : ℕ) → from < 2 ^ 32 → goes_on spans from acked_number ≡ nat_le (distance from acked_number) count)
    → begins spans syns acked_number ≡ any_within syns acked_number count
begins-within spans [] acked_number count h = refl
begins-within spans (first ∷ syns) acked_number count h =
    ap (λ b. b || begins spans syns acked_number) (h (number first.0 1) (omega arith))
    ∙ ap (λ b. nat_le (distance (number first.0 1) acked_number) count || b) (begins-within spans syns acked_number count h)

-- the numbers of the positions from one up to another
pub positions-came : (spans : List (Seq × ℕ)) (irs from to : ℕ) → from ≤ to
    → ((p : ℕ) → from ≤ p → p < to → has_come spans (number irs p) ≡ true) → goes_on spans (number irs from) (number irs to) ≡ true
positions-came spans irs from to order h =
    let count : distance (number irs from) (number irs to) ≤ to - from = distance-most irs from to order in
    all-came spans (number irs from) (distance (number irs from) (number irs to))
    (λ j less. subst (λ (n : ℕ). has_come spans n ≡ true) (sym (number-on irs from j)) (h (from + j) (omega arith) (omega (arith, count, less))))
