-- Intervals of places that count from a base.
use Rattle.std.proofs.Common.{◌≡◌, ℕ, zero, suc, ◌+◌, ◌-◌, ◌<◌, ◌≤◌, Bool, true, false, ◌&&◌, nat_lt, List, [], ◌∷◌, length, drop, slice_get, Some, refl, ap, sym, ◌∙◌, inl, inr, arith}
use Rattle.std.specs.Prelude.{if◌then◌else◌, nat_le, min, max, unwrap_or}
use Rattle.std.specs.Option.{option_map}
use Rattle.std.specs.List.{AllByRecursion}
use Rattle.std.proofs.lemmas.Bool.{cases_lt, lt-leb, le-leb, lt-ltb, le-ltb}
use Rattle.std.proofs.lemmas.Bool.Decides.{nat_tests}
use Rattle.std.proofs.lemmas.List.{length-map}
use Rattle.tcp_sendq.specs.declared.marks.Interval.{Interval}
use Rattle.tcp_sendq.specs.Marks.{interval, union, joined, joined_front, has_place, moved_down, first_uncovered, next_start, last_end, count_ended, lowered, AreInOrder, IsTableFrom}
use Rattle.tcp_sendq.proofs.Intervals.{joined_front-apart, joined_front-touching, joined-before, joined-behind}

abbrev low_one : ℕ → Interval → Interval
low_one base one = interval (one.start - base) (one.end - base)

abbrev EndBehind : ℕ → List Interval → Type 0
EndBehind base table = AllByRecursion (λ one. base < one.end) table

pub lowered-none : (table : List Interval) → lowered 0 table ≡ table
lowered-none [] = refl
lowered-none (one ∷ rest) =
    let start : one.start - 0 ≡ one.start = omega arith in
    let end : one.end - 0 ≡ one.end = omega arith in
    ap (λ n. interval n (one.end - 0) ∷ lowered 0 rest) start ∙ (ap (λ n. interval one.start n ∷ lowered 0 rest) end ∙ ap (λ t. one ∷ t) (lowered-none rest))

-- ---- a release

-- all places moved, and the base taken off
pub moved_down-lowered : (b n : ℕ) (table : List Interval) → moved_down (b + n) table ≡ moved_down n (lowered b table)
moved_down-lowered b n [] = refl
moved_down-lowered b n (one ∷ rest) =
    let start : one.start - (b + n) ≡ one.start - b - n = omega arith in
    let end : one.end - (b + n) ≡ one.end - b - n = omega arith in
    ap (λ e. if nat_lt 0 e then interval (one.start - (b + n)) e ∷ moved_down (b + n) rest else moved_down (b + n) rest) end
    ∙ (ap (λ s. if nat_lt 0 (one.end - b - n) then interval s (one.end - b - n) ∷ moved_down (b + n) rest else moved_down (b + n) rest) start
    ∙ ap (λ t. if nat_lt 0 (one.end - b - n) then interval (one.start - b - n) (one.end - b - n) ∷ t else t) (moved_down-lowered b n rest))

pub moved_down-behind : (n : ℕ) (table : List Interval) → EndBehind 0 (moved_down n table)
moved_down-behind n [] = tt
moved_down-behind n (one ∷ rest) = elim (cases_lt 0 (one.end - n)) [
  | inl some ↦ rw (lt-ltb 0 (one.end - n) some) (some, moved_down-behind n rest)
  | inr none ↦ rw (le-ltb 0 (one.end - n) none) (moved_down-behind n rest)
]

kept_behind : (b n : ℕ) (table : List Interval) → EndBehind (b + n) table → moved_down n (lowered b table) ≡ lowered (b + n) table
kept_behind b n [] h = refl
kept_behind b n (one ∷ rest) h =
    let start : one.start - b - n ≡ one.start - (b + n) = omega arith in
    let end : one.end - b - n ≡ one.end - (b + n) = omega arith in
    ap (λ x. if x then interval (one.start - b - n) (one.end - b - n) ∷ moved_down n (lowered b rest) else moved_down n (lowered b rest)) (lt-ltb 0 (one.end - b - n) (omega (arith, h.0)))
    ∙ (ap (λ t. interval (one.start - b - n) (one.end - b - n) ∷ t) (kept_behind b n rest h.1)
    ∙ (ap (λ s. interval s (one.end - b - n) ∷ lowered (b + n) rest) start ∙ ap (λ e. interval (one.start - (b + n)) e ∷ lowered (b + n) rest) end))

all_end_behind : (place least : ℕ) (table : List Interval) → place ≤ least → AllByRecursion (λ later. least < later.start) table → AreInOrder table → EndBehind place table
all_end_behind place least [] low above order = tt
all_end_behind place least (one ∷ rest) low above order = (omega (arith, low, above.0, order.0), all_end_behind place least rest low above.1 order.2)

count_ended-none : (place : ℕ) (one : Interval) (rest : List Interval) → place < one.end → count_ended place (one ∷ rest) ≡ 0
count_ended-none place one rest h = ap (λ x. if x then suc (count_ended place rest) else 0) (lt-leb one.end place h)

count_ended-more : (place : ℕ) (one : Interval) (rest : List Interval) → one.end ≤ place → count_ended place (one ∷ rest) ≡ suc (count_ended place rest)
count_ended-more place one rest h = ap (λ x. if x then suc (count_ended place rest) else 0) (le-leb one.end place h)

-- those that ended cut off, and the base moved
pub lowered-cut : (b n : ℕ) (table : List Interval) → AreInOrder table → lowered (b + n) (drop (count_ended (b + n) table) table) ≡ moved_down n (lowered b table)
lowered-cut b n [] order = refl
lowered-cut b n (one ∷ rest) order = elim (cases_lt (b + n) one.end) [
  | inl stays ↦
      ap (λ k. lowered (b + n) (drop k (one ∷ rest))) (count_ended-none (b + n) one rest stays)
      ∙ sym (kept_behind b n (one ∷ rest) (stays, all_end_behind (b + n) one.end rest (omega arith) order.1 order.2))
  | inr ended ↦
      ap (λ k. lowered (b + n) (drop k (one ∷ rest))) (count_ended-more (b + n) one rest ended)
      ∙ (lowered-cut b n rest order.2
      ∙ sym (ap (λ x. if x then interval (one.start - b - n) (one.end - b - n) ∷ moved_down n (lowered b rest) else moved_down n (lowered b rest)) (le-ltb 0 (one.end - b - n) (omega (arith, ended)))))
]

pub cut-behind : (place : ℕ) (table : List Interval) → AreInOrder table → EndBehind place (drop (count_ended place table) table)
cut-behind place [] order = tt
cut-behind place (one ∷ rest) order = elim (cases_lt place one.end) [
  | inl stays ↦ rw (count_ended-none place one rest stays) (stays, all_end_behind place one.end rest (omega arith) order.1 order.2)
  | inr ended ↦ rw (count_ended-more place one rest ended) (cut-behind place rest order.2)
]

-- ---- the order of the places

raw_above : (b low high least : ℕ) (table : List Interval) → least < b + low → 0 < low → IsTableFrom low high (lowered b table) → AllByRecursion (λ later. least < later.start) table
raw_above b low high least [] less some h = tt
raw_above b low high least (one ∷ rest) less some h = (
  omega (arith, h.0),
  raw_above b (one.end - b + 1) high least rest (omega (arith, h.0, h.1)) (omega arith) h.3,
)

pub raw_in_order : (b low high : ℕ) (table : List Interval) → EndBehind b table → IsTableFrom low high (lowered b table) → AreInOrder table
raw_in_order b low high [] behind h = tt
raw_in_order b low high (one ∷ rest) behind h = (
  omega (arith, h.1),
  raw_above b (one.end - b + 1) high one.end rest (omega (arith, behind.0)) (omega arith) h.3,
  raw_in_order b (one.end - b + 1) high rest behind.1 h.3,
)

-- ---- a mark

lowered-union : (b : ℕ) (one other : Interval) → low_one b (union one other) ≡ union (low_one b one) (low_one b other)
lowered-union b one other =
    let start : min one.start other.start - b ≡ min (one.start - b) (other.start - b) = omega arith in
    let end : max one.end other.end - b ≡ max (one.end - b) (other.end - b) = omega arith in
    cc

lowered-joined_front : (b : ℕ) (one : Interval) (table : List Interval) → b ≤ one.end → lowered b (joined_front one table) ≡ joined_front (low_one b one) (lowered b table)
lowered-joined_front b one [] behind = refl
lowered-joined_front b one (next ∷ rest) behind = elim (cases_lt one.end next.start) [
  | inl apart ↦ ap (lowered b) (joined_front-apart one next rest apart) ∙ sym (joined_front-apart (low_one b one) (low_one b next) (lowered b rest) (omega (arith, apart)))
  | inr touching ↦ ap (lowered b) (joined_front-touching one next rest touching)
      ∙ (lowered-joined_front b (union one next) rest (omega arith)
      ∙ (ap (λ u. joined_front u (lowered b rest)) (lowered-union b one next)
      ∙ sym (joined_front-touching (low_one b one) (low_one b next) (lowered b rest) (omega (arith, touching)))))
]

raised : (b from to : ℕ) → low_one b (interval (b + from) (b + to)) ≡ interval from to
raised b from to =
    let start : b + from - b ≡ from = omega arith in
    let end : b + to - b ≡ to = omega arith in
    cc

pub lowered-joined : (b from to : ℕ) (table : List Interval) → EndBehind b table → lowered b (joined (interval (b + from) (b + to)) table) ≡ joined (interval from to) (lowered b table)
lowered-joined b from to [] h = ap (λ one. one ∷ []) (raised b from to)
lowered-joined b from to (next ∷ rest) h = elim (cases_lt next.end (b + from)) [
  | inl before ↦ ap (lowered b) (joined-before (interval (b + from) (b + to)) next rest before)
      ∙ (ap (λ t. low_one b next ∷ t) (lowered-joined b from to rest h.1)
      ∙ sym (joined-before (interval from to) (low_one b next) (lowered b rest) (omega (arith, before, h.0))))
  | inr behind ↦ ap (lowered b) (joined-behind (interval (b + from) (b + to)) next rest behind)
      ∙ (lowered-joined_front b (interval (b + from) (b + to)) (next ∷ rest) (omega arith)
      ∙ (ap (λ one. joined_front one (lowered b (next ∷ rest))) (raised b from to)
      ∙ sym (joined-behind (interval from to) (low_one b next) (lowered b rest) (omega (arith, behind)))))
]

front-behind : (b : ℕ) (one : Interval) (table : List Interval) → b < one.end → EndBehind b table → EndBehind b (joined_front one table)
front-behind b one [] some h = (some, tt)
front-behind b one (next ∷ rest) some h = elim (cases_lt one.end next.start) [
  | inl apart ↦ rw (joined_front-apart one next rest apart) (some, h)
  | inr touching ↦ rw (joined_front-touching one next rest touching) (front-behind b (union one next) rest (omega (arith, some)) h.1)
]

pub joined-end_behind : (b : ℕ) (one : Interval) (table : List Interval) → b < one.end → EndBehind b table → EndBehind b (joined one table)
joined-end_behind b one [] some h = (some, tt)
joined-end_behind b one (next ∷ rest) some h = elim (cases_lt next.end one.start) [
  | inl before ↦ rw (joined-before one next rest before) (h.0, joined-end_behind b one rest some h.1)
  | inr behind ↦ rw (joined-behind one next rest behind) (front-behind b one (next ∷ rest) some h)
]

-- the table after a mark or its refusal
pub lowered-marked : (b from to : ℕ) (kept : Bool) (table : List Interval) → EndBehind b table
    → lowered b (if kept then joined (interval (b + from) (b + to)) table else table) ≡ (if kept then joined (interval from to) (lowered b table) else lowered b table)
lowered-marked b from to true table h = lowered-joined b from to table h
lowered-marked b from to false table h = refl

pub marked-end_behind : (b from to : ℕ) (kept : Bool) (table : List Interval) → from < to → EndBehind b table → EndBehind b (if kept then joined (interval (b + from) (b + to)) table else table)
marked-end_behind b from to true table some h = joined-end_behind b (interval (b + from) (b + to)) table (omega (arith, some)) h
marked-end_behind b from to false table some h = h

pub length-joined_low : (b from to : ℕ) (table : List Interval) → EndBehind b table → length (joined (interval (b + from) (b + to)) table) ≡ length (joined (interval from to) (lowered b table))
length-joined_low b from to table h = sym (length-map (joined (interval (b + from) (b + to)) table) (low_one b)) ∙ ap length (lowered-joined b from to table h)

pub length-lowered : (b : ℕ) (table : List Interval) → length (lowered b table) ≡ length table
length-lowered b table = length-map table (low_one b)

-- ---- the look-ups

same_place : (b at s e : ℕ) → (nat_le s (b + at) && nat_lt (b + at) e) ≡ (nat_le (s - b) at && nat_lt at (e - b))
same_place b at s e = grind (arith, nat_tests)

choice : (x : Bool) (b e f g : ℕ) → b ≤ e → f ≡ b + g → (if x then e else f) ≡ b + (if x then e - b else g)
choice true b e f g le h = omega arith
choice false b e f g le h = h

pub lowered-first : (b at : ℕ) (table : List Interval) → EndBehind b table → first_uncovered (b + at) table ≡ b + first_uncovered at (lowered b table)
lowered-first b at [] h = refl
lowered-first b at (one ∷ rest) h =
    ap (λ x. if x then one.end else first_uncovered (b + at) rest) (same_place b at one.start one.end)
    ∙ choice (has_place (low_one b one) at) b one.end (first_uncovered (b + at) rest) (first_uncovered at (lowered b rest)) (omega (arith, h.0)) (lowered-first b at rest h.1)

pub lowered-next : (b from len : ℕ) (table : List Interval) → unwrap_or (next_start (b + from) table) (b + len) ≡ b + unwrap_or (next_start from (lowered b table)) len
lowered-next b from len [] = refl
lowered-next b from len (one ∷ rest) = elim (cases_lt (b + from) one.start) [
  | inl after ↦
      let raw : unwrap_or (next_start (b + from) (one ∷ rest)) (b + len) ≡ one.start =
      ap (λ x. unwrap_or (if x then Some one.start else next_start (b + from) rest) (b + len)) (lt-ltb (b + from) one.start after) in
      let seen : unwrap_or (next_start from (lowered b (one ∷ rest))) len ≡ one.start - b =
      ap (λ x. unwrap_or (if x then Some (one.start - b) else next_start from (lowered b rest)) len) (lt-ltb from (one.start - b) (omega (arith, after))) in
      omega (arith, raw, seen, after)
  | inr before ↦
      let raw : unwrap_or (next_start (b + from) (one ∷ rest)) (b + len) ≡ unwrap_or (next_start (b + from) rest) (b + len) =
      ap (λ x. unwrap_or (if x then Some one.start else next_start (b + from) rest) (b + len)) (le-ltb (b + from) one.start before) in
      let seen : unwrap_or (next_start from (lowered b (one ∷ rest))) len ≡ unwrap_or (next_start from (lowered b rest)) len =
      ap (λ x. unwrap_or (if x then Some (one.start - b) else next_start from (lowered b rest)) len) (le-ltb from (one.start - b) (omega (arith, before))) in
      raw ∙ (lowered-next b from len rest ∙ sym (ap (λ n. b + n) seen))
]

found_low : (b i : ℕ) (table : List Interval) → option_map (λ one. one.end) (slice_get (lowered b table) i) ≡ option_map (λ e. e - b) (option_map (λ one. one.end) (slice_get table i))
found_low b i [] = refl
found_low b zero (one ∷ rest) = refl
found_low b (suc i) (one ∷ rest) = found_low b i rest

pub lowered-last : (b : ℕ) (table : List Interval) → last_end (lowered b table) ≡ option_map (λ e. e - b) (last_end table)
lowered-last b table =
    ap (λ n. option_map (λ (one : Interval). one.end) (slice_get (lowered b table) (n - 1))) (length-map table (low_one b)) ∙ found_low b (length table - 1) table
