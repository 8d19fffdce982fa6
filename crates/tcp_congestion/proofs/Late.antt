-- No acknowledgement is late.
use Rattle.std.proofs.Common.{◌≡◌, ℕ, ◌+◌, ◌*◌, ◌<◌, ◌≤◌, Bool, true, false, List, [], ◌∷◌, Option, Some, None, arith, refl}
use Rattle.std.specs.Prelude.{min, nat_lt, nat_le, if◌then◌else◌}
use Rattle.std.proofs.lemmas.Bool.Decides.{nat_tests}
use Rattle.tcp_congestion.specs.Sizes.{latest}
use Rattle.tcp_congestion.specs.DelayedAck.{Waiting, Arrival, NoAcknowledgementIsLate, nothing_unacked, after_arrival, after_arrivals, after_delay, is_owed, is_past, is_due, max_delay, first_since, text_of}

-- no arrival changes what is chosen
same-rmss : (w : Waiting) (earlier : List Arrival) → (after_arrivals w earlier).rmss ≡ w.rmss
same-rmss w [] = refl
same-rmss w (a ∷ earlier) = same-rmss w earlier

same-delay : (w : Waiting) (earlier : List Arrival) → (after_arrivals w earlier).delay ≡ w.delay
same-delay w [] = refl
same-delay w (a ∷ earlier) = same-delay w earlier

-- what is owed is due
owed-due : (now : ℕ) (since : Option ℕ) (owed : Bool) → owed ≡ true → is_past (if owed then Some 0 else since) now ≡ true
owed-due now since true e = grind (arith, nat_tests)
owed-due now since false e = absurd (cc)

second-owed : (urgent : Bool) (two unacked : ℕ) → two ≤ unacked → (if urgent then true else nat_le two unacked) ≡ true
second-owed true two unacked h = refl
second-owed false two unacked h = grind (arith, nat_tests, h)

-- all text counts, up to that of two full segments
counted : (w : Waiting) (earlier : List Arrival) → min (2 * w.rmss) (text_of earlier) ≤ (after_arrivals (nothing_unacked w) earlier).unacked
counted w [] = omega arith
counted w (a ∷ earlier) =
    let h : min (2 * w.rmss) (text_of earlier) ≤ (after_arrivals (nothing_unacked w) earlier).unacked = counted w earlier in
    let same : (after_arrivals (nothing_unacked w) earlier).rmss ≡ w.rmss = same-rmss (nothing_unacked w) earlier in
    omega (arith, h, same)

second : (w : Waiting) (earlier : List Arrival) (now : ℕ) → 2 * w.rmss ≤ text_of earlier → is_due (after_arrivals (nothing_unacked w) earlier) now ≡ true
second w earlier now full =
    let v : Waiting = after_arrivals (nothing_unacked w) earlier in
    let h : min (2 * w.rmss) (text_of earlier) ≤ v.unacked = counted w earlier in
    let same : v.rmss ≡ w.rmss = same-rmss (nothing_unacked w) earlier in
    let all : 2 * v.rmss ≤ v.unacked = omega (arith, h, same, full) in
    owed-due now (after_delay v.delay v.since) (is_owed v) (second-owed v.is_urgent (2 * v.rmss) v.unacked all)

-- what is urgent stays so
stays-so : (at_once before : Bool) → before ≡ true → (if at_once then true else before) ≡ true
stays-so true before e = refl
stays-so false before e = e

still-urgent : (w : Waiting) (later : List Arrival) → w.is_urgent ≡ true → (after_arrivals w later).is_urgent ≡ true
still-urgent w [] e = e
still-urgent w (a ∷ earlier) e = stays-so a.at_once (after_arrivals w earlier).is_urgent (still-urgent w earlier e)

urgent-owed : (before : Bool) (two unacked : ℕ) → before ≡ true → (if before then true else nat_le two unacked) ≡ true
urgent-owed true two unacked e = refl
urgent-owed false two unacked e = absurd (cc)

urgent : (w : Waiting) (later : List Arrival) (now : ℕ) → w.is_urgent ≡ true → is_due (after_arrivals w later) now ≡ true
urgent w later now e =
    let v : Waiting = after_arrivals w later in
    owed-due now (after_delay v.delay v.since) (is_owed v) (urgent-owed v.is_urgent (2 * v.rmss) v.unacked (still-urgent w later e))

-- the first text that came is remembered
remembered : (since : Option ℕ) (at count now : ℕ) → since ≡ Some at → first_since since count now ≡ Some at
remembered None at count now e = absurd (cc)
remembered (Some first) at count now e = e

still-since : (w : Waiting) (at : ℕ) (later : List Arrival) → w.since ≡ Some at → (after_arrivals w later).since ≡ Some at
still-since w at [] e = e
still-since w at (a ∷ earlier) e = remembered (after_arrivals w earlier).since at a.count a.now (still-since w at earlier e)

begins : (at count : ℕ) (b : Bool) → nat_lt 0 count ≡ b → 0 < count → (if b then Some at else None) ≡ Some at
begins at count true e h = refl
begins at count false e h = absurd (grind (arith, nat_tests, e, h))

late-by : (since : Option ℕ) (delay at now : ℕ) (owed : Bool) → since ≡ Some at → delay < max_delay → at + max_delay ≤ now
    → is_past (if owed then Some 0 else after_delay delay since) now ≡ true
late-by since delay at now true e short late = grind (arith, nat_tests)
late-by None delay at now false e short late = absurd (cc)
late-by (Some first) delay at now false e short late =
    let same : first ≡ at = cc in
    let past : min latest (first + delay) ≤ now = omega (arith, same, short, late) in
    grind (arith, nat_tests, past)

delayed : (w : Waiting) (later : List Arrival) (at now : ℕ) → w.since ≡ Some at → w.delay < max_delay → at + max_delay ≤ now
    → is_due (after_arrivals w later) now ≡ true
delayed w later at now e short late =
    let v : Waiting = after_arrivals w later in
    let same : v.delay ≡ w.delay = same-delay w later in
    late-by v.since v.delay at now (is_owed v) (still-since w at later e) (omega (arith, same, short)) late

pub late_lem : NoAcknowledgementIsLate
late_lem w arrivals = record {
  second = λ now full. second w arrivals now full;
  urgent = λ count at now later. urgent (after_arrival (after_arrivals (nothing_unacked w) arrivals) count true at) later now refl;
  delayed = λ count at now at_once some short late.
      delayed (after_arrival (nothing_unacked w) count at_once at) arrivals at now (begins at count (nat_lt 0 count) refl some) short late;
}
