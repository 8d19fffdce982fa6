-- Numbers of positions, and the position near another that has a number.
use Rattle.std.proofs.Common.{◌≡◌, ℕ, ◌+◌, ◌-◌, ◌/◌, ◌%◌, ◌^◌, ◌<◌, ◌≤◌, true, ltb, refl, sym, ap, subst, ◌∙◌, ⊎_elim, inl, inr, arith}
use Rattle.std.specs.Prelude.{ℤ, pos, negsuc, ◌+ℤ◌, ◌-ℤ◌, ◌*ℤ◌, int_le, int_lt, false, ◌&&◌, nat_lt}
use Rattle.std.proofs.lemmas.Bool.{cases_lt, lt-ltb, le-ltb, le-leb}
use Rattle.std.proofs.lemmas.Bool.Decides.{nat_tests}
use Rattle.std.proofs.lemmas.Int.{ints}
use Rattle.tcp_numbers.specs.Position.{number, distance, is_before, near, natural_of, position_of, offset, is_inside}
use Rattle.tcp_numbers.specs.Laws.{IsNearest, NearIsNearest, OffsetIsModular}

is_below : (a b : ℕ) → a < b → ltb a b ≡ true
is_below a b h = grind (arith, nat_tests)

-- an initial number taken off the number of a position leaves the position modulo 2^32
pub distance_number : (s p : ℕ) → distance (s % 2 ^ 32) (number s p) ≡ p % 2 ^ 32
distance_number s p = omega arith

-- the distance of two numbers is the same with an initial number taken off both
pub distance_shifted : (s a b : ℕ) → s < 2 ^ 32 → a < 2 ^ 32 → b < 2 ^ 32 → distance (distance s a) (distance s b) ≡ distance a b
distance_shifted s a b fs fa fb = omega arith

-- the distance of the numbers of two positions is that of the positions
pub distance_numbers : (s p q : ℕ) → p ≤ q → q < p + 2 ^ 32 → distance (number s p) (number s q) ≡ q - p
distance_numbers s p q le lt = omega arith

-- near, by where the number lies
pub near_ahead : (n w : ℕ) → distance (n % 2 ^ 32) w < 2 ^ 31 → near n w ≡ pos (n + distance (n % 2 ^ 32) w)
near_ahead n w h = rw (is_below (distance (n % 2 ^ 32) w) (2 ^ 31) h) refl

pub near_behind : (n w : ℕ) → 2 ^ 31 ≤ distance (n % 2 ^ 32) w → near n w ≡ pos (n + distance (n % 2 ^ 32) w) -ℤ pos (2 ^ 32)
near_behind n w h = rw (le-ltb (distance (n % 2 ^ 32) w) (2 ^ 31) h) refl

from_above : (n p d : ℕ) → n + d ≡ p + 2 ^ 32 → pos (n + d) -ℤ pos (2 ^ 32) ≡ pos p
from_above n p d e = omega (arith, ints)

-- the position that a number came from is the one near any position within 2^31 of it
pub near_position : (n p : ℕ) → p < n + 2 ^ 31 → n ≤ p + 2 ^ 31 → near n (p % 2 ^ 32) ≡ pos p
near_position n p above behind =
    elim (cases_lt p n) [
      | inl lt ↦
          let d : n + distance (n % 2 ^ 32) (p % 2 ^ 32) ≡ p + 2 ^ 32 = omega arith in
          near_behind n (p % 2 ^ 32) (omega arith) ∙ from_above n p (distance (n % 2 ^ 32) (p % 2 ^ 32)) d
      | inr le ↦
          let d : n + distance (n % 2 ^ 32) (p % 2 ^ 32) ≡ p = omega arith in
          near_ahead n (p % 2 ^ 32) (omega arith) ∙ ap (λ (k : ℕ). pos k) d
    ]

pub near_number : (n p s : ℕ) → p < n + 2 ^ 31 → n ≤ p + 2 ^ 31 → near n (distance (s % 2 ^ 32) (number s p)) ≡ pos p
near_number n p s above behind = ap (near n) (distance_number s p) ∙ near_position n p above behind

-- the distance of a number from the number of a position is that of the two with an initial number taken off both
pub distance_from : (iss una w : ℕ) → iss < 2 ^ 32 → w < 2 ^ 32 → distance (una % 2 ^ 32) (distance iss w) ≡ distance (number iss una) w
distance_from iss una w fits small =
    let whole : iss % 2 ^ 32 ≡ iss = omega arith in
    let expected : distance iss (number iss una) ≡ una % 2 ^ 32 =
    subst (λ (n : ℕ). distance n (number iss una) ≡ una % 2 ^ 32) whole (distance_number iss una) in
    ap (λ n. distance n (distance iss w)) (sym expected) ∙ distance_shifted iss (number iss una) w fits (omega arith) small

-- a difference of whole numbers, read as a natural number
natural_of-minus : (m n : ℕ) → natural_of (pos m -ℤ pos n) ≡ m - n
natural_of-minus m n =
    elim (cases_lt m n) [
      | inl lt ↦
          let negative : pos m -ℤ pos n ≡ negsuc (n - m - 1) = omega (arith, ints) in
          let none : 0 ≡ m - n = omega arith in
          ap natural_of negative ∙ none
      | inr le ↦
          let difference : pos m -ℤ pos n ≡ pos (m - n) = omega (arith, ints) in
          ap natural_of difference
    ]

-- the position that a number is read as, where it is at or ahead of the expected one,
pub position_of_ahead : (iss una w : ℕ) → iss < 2 ^ 32 → w < 2 ^ 32 → distance (number iss una) w < 2 ^ 31
    → position_of iss una w ≡ una + distance (number iss una) w
unfolding position_of
position_of_ahead iss una w fits small close =
    let same = distance_from iss una w fits small in
    ap natural_of (near_ahead una (distance iss w) (omega (arith, same, close))) ∙ ap (λ d. una + d) same

-- where it is behind it,
pub position_of_behind : (iss una w : ℕ) → iss < 2 ^ 32 → w < 2 ^ 32 → 2 ^ 31 ≤ distance (number iss una) w
    → position_of iss una w ≡ una + distance (number iss una) w - 2 ^ 32
unfolding position_of
position_of_behind iss una w fits small far =
    let same = distance_from iss una w fits small in
    ap natural_of (near_behind una (distance iss w) (omega (arith, same, far)))
    ∙ natural_of-minus (una + distance (una % 2 ^ 32) (distance iss w)) (2 ^ 32)
    ∙ ap (λ d. una + d - 2 ^ 32) same

-- and of the number of a position within 2^31 of it
pub position_of_number : (iss una p : ℕ) → iss < 2 ^ 32 → p < una + 2 ^ 31 → una ≤ p + 2 ^ 31 → position_of iss una (number iss p) ≡ p
unfolding position_of
position_of_number iss una p fits above behind =
    let whole : iss % 2 ^ 32 ≡ iss = omega arith in
    ap (λ n. natural_of (near una (distance n (number iss p)))) (sym whole) ∙ ap natural_of (near_number una p iss above behind)

-- where no initial number is taken off: the position that a number is read as, near one that is a number too
near_self : (n : ℕ) → n < 2 ^ 32 → n % 2 ^ 32 ≡ n
near_self n fits = omega arith

pub near_number_ahead : (n w : ℕ) → n < 2 ^ 32 → distance n w < 2 ^ 31 → near n w ≡ pos (n + distance n w)
near_number_ahead n w fits close =
    let e = near_self n fits in
    near_ahead n w (subst (λ (m : ℕ). distance m w < 2 ^ 31) (sym e) close) ∙ ap (λ m. pos (n + distance m w)) e

pub near_number_behind : (n w : ℕ) → n < 2 ^ 32 → 2 ^ 31 ≤ distance n w → near n w ≡ pos (n + distance n w) -ℤ pos (2 ^ 32)
near_number_behind n w fits far =
    let e = near_self n fits in
    near_behind n w (subst (λ (m : ℕ). 2 ^ 31 ≤ distance m w) (sym e) far) ∙ ap (λ m. pos (n + distance m w) -ℤ pos (2 ^ 32)) e

-- ---- what the number of an acknowledgement is read as, by distance and by position

later_close : (una d : ℕ) → d < 2 ^ 31 → nat_lt una (una + d) ≡ (nat_lt 0 d && nat_lt d (2 ^ 31))
later_close una d close = grind (arith, nat_tests)

later_far : (una d : ℕ) → 2 ^ 31 ≤ d → d < 2 ^ 32 → nat_lt una (una + d - 2 ^ 32) ≡ (nat_lt 0 d && nat_lt d (2 ^ 31))
later_far una d far fits = grind (arith, nat_tests)

beyond_close : (una nxt d : ℕ) → una ≤ nxt → d < 2 ^ 31 → nat_lt nxt (una + d) ≡ (nat_lt d (2 ^ 31) && nat_lt (nxt - una) d)
beyond_close una nxt d order close = grind (arith, nat_tests)

beyond_far : (una nxt d : ℕ) → una ≤ nxt → 2 ^ 31 ≤ d → d < 2 ^ 32 → nat_lt nxt (una + d - 2 ^ 32) ≡ (nat_lt d (2 ^ 31) && nat_lt (nxt - una) d)
beyond_far una nxt d order far fits = grind (arith, nat_tests)

-- a number comes after that of the expected position where it is read as a later position
pub position_of_later : (iss una w : ℕ) → iss < 2 ^ 32 → w < 2 ^ 32 → nat_lt una (position_of iss una w) ≡ is_before (number iss una) w
position_of_later iss una w fits small = ⊎_elim
    (λ close. ap (nat_lt una) (position_of_ahead iss una w fits small close) ∙ later_close una (distance (number iss una) w) close)
    (λ far. ap (nat_lt una) (position_of_behind iss una w fits small far) ∙ later_far una (distance (number iss una) w) far (omega arith))
    (cases_lt (distance (number iss una) w) (2 ^ 31))

-- and it is read as one beyond nxt where its distance says so
pub position_of_beyond : (iss una nxt w : ℕ) → iss < 2 ^ 32 → w < 2 ^ 32 → una ≤ nxt
    → nat_lt nxt (position_of iss una w) ≡ (nat_lt (distance (number iss una) w) (2 ^ 31) && nat_lt (nxt - una) (distance (number iss una) w))
position_of_beyond iss una nxt w fits small order = ⊎_elim
    (λ close. ap (nat_lt nxt) (position_of_ahead iss una w fits small close) ∙ beyond_close una nxt (distance (number iss una) w) order close)
    (λ far. ap (nat_lt nxt) (position_of_behind iss una w fits small far) ∙ beyond_far una nxt (distance (number iss una) w) order far (omega arith))
    (cases_lt (distance (number iss una) w) (2 ^ 31))

-- ---- how far ahead of an expected number another lies

risen : (m n : ℕ) → pos (n + m) -ℤ pos n ≡ pos m
risen m n = omega (arith, ints)

fallen : (m n round : ℕ) → pos (n + m) -ℤ pos round -ℤ pos n ≡ pos m -ℤ pos round
fallen m n round = omega (arith, ints)

below_zero : (m k round : ℕ) → m + k + 1 ≡ round → pos m -ℤ pos round ≡ negsuc k
below_zero m k round e = omega (arith, ints)

pub offset_ahead : (n w : ℕ) → n < 2 ^ 32 → distance n w < 2 ^ 31 → offset n w ≡ pos (distance n w)
unfolding offset
offset_ahead n w fits close = ap (λ z. z -ℤ pos n) (near_number_ahead n w fits close) ∙ risen (distance n w) n

pub offset_behind : (n w : ℕ) → n < 2 ^ 32 → 2 ^ 31 ≤ distance n w → offset n w ≡ pos (distance n w) -ℤ pos (2 ^ 32)
unfolding offset
offset_behind n w fits far = ap (λ z. z -ℤ pos n) (near_number_behind n w fits far) ∙ fallen (distance n w) n (2 ^ 32)

-- an offset, by the distance from what 32 bits keep of the position
offset_near : (n w : ℕ) → distance (n % 2 ^ 32) w < 2 ^ 31 → offset n w ≡ pos (distance (n % 2 ^ 32) w)
unfolding offset
offset_near n w close = ap (λ z. z -ℤ pos n) (near_ahead n w close) ∙ risen (distance (n % 2 ^ 32) w) n

offset_far : (n w : ℕ) → 2 ^ 31 ≤ distance (n % 2 ^ 32) w → offset n w ≡ pos (distance (n % 2 ^ 32) w) -ℤ pos (2 ^ 32)
unfolding offset
offset_far n w far = ap (λ z. z -ℤ pos n) (near_behind n w far) ∙ fallen (distance (n % 2 ^ 32) w) n (2 ^ 32)

pub offset_is_modular_lem : OffsetIsModular
offset_is_modular_lem n m w same =
    elim (cases_lt (distance (n % 2 ^ 32) w) (2 ^ 31)) [
      | inl close ↦
          offset_near n w close ∙ ap (λ (k : ℕ). pos (distance k w)) same
          ∙ sym (offset_near m w (subst (λ (k : ℕ). distance k w < 2 ^ 31) same close))
      | inr far ↦
          offset_far n w far ∙ ap (λ (k : ℕ). pos (distance k w) -ℤ pos (2 ^ 32)) same
          ∙ sym (offset_far m w (subst (λ (k : ℕ). 2 ^ 31 ≤ distance k w) same far))
    ]

-- the numbers of two positions within 2^31 lie as far from each other as the positions do
pub offset_of_later : (s n p : ℕ) → n ≤ p → p < n + 2 ^ 31 → offset (number s n) (number s p) ≡ pos (p - n)
offset_of_later s n p order close =
    let d : distance (number s n) (number s p) ≡ p - n = distance_numbers s n p order (omega arith) in
    offset_ahead (number s n) (number s p) (omega arith) (omega (arith, d)) ∙ ap (λ m. pos m) d

pub offset_of_earlier : (s n p : ℕ) → p < n → n ≤ p + 2 ^ 31 → offset (number s n) (number s p) ≡ negsuc (n - p - 1)
offset_of_earlier s n p order close =
    let d : distance (number s n) (number s p) + (n - p) ≡ 2 ^ 32 = omega arith in
    offset_behind (number s n) (number s p) (omega arith) (omega (arith, d)) ∙ below_zero (distance (number s n) (number s p)) (n - p - 1) (2 ^ 32)
    (omega arith)

-- ---- the receive window, by distance and by position

-- a position as far ahead as a distance lies in the window where the distance does
inside_ahead : (next window d : ℕ) → is_inside next window (pos (next + d)) ≡ nat_lt d window
inside_ahead next window d = ⊎_elim
    (λ less. rw (le-leb next (next + d) (omega arith), lt-ltb (next + d) (next + window) (omega arith), lt-ltb d window less) refl)
    (λ more. rw (le-leb next (next + d) (omega arith), le-ltb (next + d) (next + window) (omega arith), le-ltb d window more) refl)
    (cases_lt d window)

round_outside : (m n window round : ℕ) → m < n + round → is_inside n window (pos m -ℤ pos round) ≡ false
round_outside m n window round less =
    let low : int_le (pos n) (pos m -ℤ pos round) ≡ false = grind (arith, ints) in
    ap (λ b. b && int_lt (pos m -ℤ pos round) (pos (n + window))) low

round_plus : (m k round : ℕ) → (pos m -ℤ pos round) +ℤ pos k ≡ pos (m + k) -ℤ pos round
round_plus m k round = omega (arith, ints)

round_back : (m n round : ℕ) → m ≡ n + round → pos m -ℤ pos round ≡ pos n
round_back m n round e = omega (arith, ints)

-- the first number of a segment
pub first_inside : (next window seq : ℕ) → next < 2 ^ 32 → window ≤ 2 ^ 20 → is_inside next window (near next seq) ≡ nat_lt (distance next seq) window
first_inside next window seq fits small = ⊎_elim
    (λ close. ap (is_inside next window) (near_number_ahead next seq fits close) ∙ inside_ahead next window (distance next seq))
    (λ far. ap (is_inside next window) (near_number_behind next seq fits far)
    ∙ (let below : next + distance next seq < next + 2 ^ 32 = omega arith in round_outside (next + distance next seq) next window (2 ^ 32) below)
    ∙ sym (le-ltb (distance next seq) window (omega (arith, far, small))))
    (cases_lt (distance next seq) (2 ^ 31))

-- its last
pub last_inside : (next window seq k : ℕ) → next < 2 ^ 32 → window ≤ 2 ^ 20 → k < 2 ^ 16
    → is_inside next window (near next seq +ℤ pos k) ≡ nat_lt (distance next ((seq + k) % 2 ^ 32)) window
last_inside next window seq k fits small short = ⊎_elim
    (λ close.
    let whole : distance next ((seq + k) % 2 ^ 32) ≡ distance next seq + k = omega arith in
    let place : next + distance next seq + k ≡ next + (distance next seq + k) = omega arith in
    ap (λ z. is_inside next window (z +ℤ pos k)) (near_number_ahead next seq fits close) ∙ ap (λ n. is_inside next window (pos n)) place
    ∙ inside_ahead next window (distance next seq + k) ∙ ap (λ d. nat_lt d window) (sym whole))
    (λ far. ap (λ z. is_inside next window (z +ℤ pos k)) (near_number_behind next seq fits far) ∙ ap (is_inside next window)
    (round_plus (next + distance next seq) k (2 ^ 32))
    ∙ ⊎_elim
    (λ short_of.
    let whole : distance next ((seq + k) % 2 ^ 32) ≡ distance next seq + k = omega arith in
    let below : next + distance next seq + k < next + 2 ^ 32 = omega arith in
    round_outside (next + distance next seq + k) next window (2 ^ 32) below ∙ sym
    (le-ltb (distance next ((seq + k) % 2 ^ 32)) window (omega (arith, whole, far, small))))
    (λ round.
    let whole : distance next ((seq + k) % 2 ^ 32) ≡ distance next seq + k - 2 ^ 32 = omega arith in
    let place : next + distance next seq + k ≡ next + (distance next seq + k - 2 ^ 32) + 2 ^ 32 = omega arith in
    ap (is_inside next window) (round_back (next + distance next seq + k) (next + (distance next seq + k - 2 ^ 32)) (2 ^ 32) place)
    ∙ inside_ahead next window (distance next seq + k - 2 ^ 32) ∙ ap (λ d. nat_lt d window) (sym whole))
    (cases_lt (distance next seq + k) (2 ^ 32)))
    (cases_lt (distance next seq) (2 ^ 31))

-- ---- near is nearest

-- how many times 2^32 lies between a number and the position as far ahead as its distance
times_ahead : ℕ → ℕ → ℤ
times_ahead n w = pos (n / 2 ^ 32 + 1) -ℤ pos ((w + (2 ^ 32 - n % 2 ^ 32)) / 2 ^ 32)

ahead_congruent : (n w : ℕ) → w < 2 ^ 32 → pos (n + distance (n % 2 ^ 32) w) ≡ pos w +ℤ times_ahead n w *ℤ pos (2 ^ 32)
unfolding times_ahead
ahead_congruent n w small = omega (arith, ints)

behind_congruent : (n w : ℕ) → w < 2 ^ 32 → pos (n + distance (n % 2 ^ 32) w) -ℤ pos (2 ^ 32) ≡ pos w +ℤ (times_ahead n w -ℤ pos 1) *ℤ pos (2 ^ 32)
unfolding times_ahead
behind_congruent n w small = omega (arith, ints)

ahead_nearest : (n w : ℕ) → w < 2 ^ 32 → distance (n % 2 ^ 32) w < 2 ^ 31 → IsNearest n w (pos (n + distance (n % 2 ^ 32) w))
ahead_nearest n w small close = record {
  congruent = record { times = times_ahead n w; equal = ahead_congruent n w small };
  from = omega (arith, ints);
  below = omega (arith, ints);
}

behind_nearest : (n w : ℕ) → w < 2 ^ 32 → 2 ^ 31 ≤ distance (n % 2 ^ 32) w → IsNearest n w (pos (n + distance (n % 2 ^ 32) w) -ℤ pos (2 ^ 32))
behind_nearest n w small far = record {
  congruent = record { times = times_ahead n w -ℤ pos 1; equal = behind_congruent n w small };
  from = omega (arith, ints);
  below = omega (arith, ints);
}

near_nearest : (n w : ℕ) → w < 2 ^ 32 → IsNearest n w (near n w)
near_nearest n w small =
    elim (cases_lt (distance (n % 2 ^ 32) w) (2 ^ 31)) [
      | inl close ↦ subst (IsNearest n w) (sym (near_ahead n w close)) (ahead_nearest n w small close)
      | inr far ↦ subst (IsNearest n w) (sym (near_behind n w far)) (behind_nearest n w small far)
    ]

-- two whole numbers less than 2^32 apart of which 32 bits keep the same are one
nearest_only : (n w : ℕ) (y z : ℤ) → IsNearest n w y → IsNearest n w z → z ≡ y
nearest_only n w y z one other =
    omega (arith, ints, one.congruent.equal, one.from, one.below, other.congruent.equal, other.from, other.below)

pub near_is_nearest_lem : NearIsNearest
near_is_nearest_lem n w small = (near_nearest n w small, λ z other. nearest_only n w (near n w) z (near_nearest n w small) other)
