-- Bounds of what is measured, and of the timeout.
use Rattle.std.proofs.Common.{◌≡◌, ℕ, zero, suc, ◌+◌, ◌-◌, ◌*◌, ◌/◌, ◌^◌, ◌≤◌, List, [], ◌∷◌, Option, Some, None, arith, refl, ap}
use Rattle.std.specs.Prelude.{min, max}
use Rattle.std.proofs.Math.Nat.{pow-suc}
use Rattle.tcp_timing.specs.declared.rules.Rules.{Rules}
use Rattle.tcp_timing.specs.declared.round_trip.RoundTrip.{RoundTrip}
use Rattle.tcp_timing.specs.Rules.{longest}
use Rattle.tcp_timing.specs.Estimate.{Estimate, bounded, timeout}
use Rattle.tcp_timing.specs.RoundTrip.{distance, trip_after}
use Rattle.tcp_timing.specs.Bounds.{RoundsDown, TimeoutFollowsTrips, FollowsTrips, DoublesEachTime, Happening, Sampled, Expired, SynResent, IsWithin, AllWithin, estimate_after, greatest_rttvar, backed_off}

pub rounds_down_lem : RoundsDown
rounds_down_lem = (
  (λ r. record { srtt = refl; rttvar_least = omega arith; rttvar_most = omega arith }),
  (λ t r. record { srtt_least = omega arith; srtt_most = omega arith; rttvar_least = omega arith; rttvar_most = omega arith }),
)

-- no happening changes the rules
same-rules : (rules : Rules) (happened : List Happening) → (estimate_after rules happened).rules ≡ rules
same-rules rules [] = refl
same-rules rules (Sampled r ∷ earlier) = same-rules rules earlier
same-rules rules (Expired ∷ earlier) = same-rules rules earlier
same-rules rules (SynResent ∷ earlier) = same-rules rules earlier

-- SRTT and RTTVAR lie within what follows of two times
record IsTripWithin (lo hi : ℕ) (t : RoundTrip) : Type 0 where
  srtt : IsWithin lo hi t.srtt
  rttvar : t.rttvar ≤ greatest_rttvar lo hi

abbrev IsMeasuredWithin : ℕ → ℕ → Option RoundTrip → Type 0
IsMeasuredWithin lo hi None = Unit {0}
IsMeasuredWithin lo hi (Some t) = IsTripWithin lo hi t

half : (lo hi r : ℕ) → r ≤ hi → r / 2 ≤ max (hi / 2) (hi - lo)
half lo hi r h = omega arith

moved : (lo hi s r : ℕ) → lo ≤ s → s ≤ hi → lo ≤ r → r ≤ hi → (lo ≤ (7 * s + r) / 8) × ((7 * s + r) / 8 ≤ hi)
moved lo hi s r ls sh lr rh = (omega arith, omega arith)

varied : (lo hi s v r m : ℕ) → lo ≤ s → s ≤ hi → lo ≤ r → r ≤ hi → hi - lo ≤ m → v ≤ m → (3 * v + distance s r) / 4 ≤ m
varied lo hi s v r m ls sh lr rh dm vm = omega arith

distance-most : (lo hi : ℕ) → hi - lo ≤ greatest_rttvar lo hi
distance-most lo hi = omega arith

next-within : (lo hi r : ℕ) (trip : Option RoundTrip) → IsMeasuredWithin lo hi trip → IsWithin lo hi r → IsTripWithin lo hi (trip_after trip r)
next-within lo hi r None h w = record { srtt = w; rttvar = half lo hi r (w.1) }
next-within lo hi r (Some t) h w = record {
  srtt = moved lo hi t.srtt r (h.srtt.0) (h.srtt.1) (w.0) (w.1);
  rttvar = varied lo hi t.srtt t.rttvar r (greatest_rttvar lo hi) (h.srtt.0) (h.srtt.1) (w.0) (w.1) (distance-most lo hi) h.rttvar;
}

-- what is no longer than the longest counts as it is
short : (lo hi r : ℕ) → hi ≤ longest → IsWithin lo hi r → IsWithin lo hi (min longest r)
short lo hi r h w =
    let least : lo ≤ r = w.0 in
    let most : r ≤ hi = w.1 in
    (omega (arith, least, most, h), omega (arith, least, most, h))

always-within : (rules : Rules) (lo hi : ℕ) (happened : List Happening) → hi ≤ longest → AllWithin lo hi happened
    → IsMeasuredWithin lo hi (estimate_after rules happened).trip
always-within rules lo hi [] h all = tt
always-within rules lo hi (Sampled r ∷ earlier) h all =
    next-within lo hi (min longest r) (estimate_after rules earlier).trip (always-within rules lo hi earlier h (all.1)) (short lo hi r h (all.0))
always-within rules lo hi (Expired ∷ earlier) h all = always-within rules lo hi earlier h (all.1)
always-within rules lo hi (SynResent ∷ earlier) h all = always-within rules lo hi earlier h (all.1)

-- a longer time has a longer bounded one
longer : (rules : Rules) (a b : ℕ) → a ≤ b → bounded rules a ≤ bounded rules b
longer rules a b h = omega arith

at-most : (g s v hi m : ℕ) → s ≤ hi → v ≤ m → s + max g (4 * v) ≤ hi + max g (4 * m)
at-most g s v hi m sh vm = omega arith

at-least : (g s v lo : ℕ) → lo ≤ s → lo + g ≤ s + max g (4 * v)
at-least g s v lo ls = omega arith

-- facts of SRTT and RTTVAR are those of the timeout
followed : (rules : Rules) (lo hi : ℕ) (e : Estimate) (t : RoundTrip) → e.trip ≡ Some t → e.rto ≡ timeout rules t → IsTripWithin lo hi t
    → FollowsTrips rules lo hi e
followed rules lo hi e t is rto h =
    let least : bounded rules (lo + rules.granularity) ≤ timeout rules t = longer rules _ _ (at-least rules.granularity t.srtt t.rttvar lo (h.srtt.0)) in
    let most : timeout rules t ≤ bounded rules (hi + max rules.granularity (4 * greatest_rttvar lo hi)) =
    longer rules _ _ (at-most rules.granularity t.srtt t.rttvar hi (greatest_rttvar lo hi) (h.srtt.1) h.rttvar) in
    record {
      measured = t;
      trip = is;
      srtt = h.srtt;
      rttvar = h.rttvar;
      least = omega (arith, least, rto);
      most = omega (arith, most, rto);
    }

pub follows_trips_lem : TimeoutFollowsTrips
follows_trips_lem rules lo hi r earlier h all =
    let t : RoundTrip = trip_after (estimate_after rules earlier).trip (min longest r) in
    let same : (estimate_after rules earlier).rules ≡ rules = same-rules rules earlier in
    followed rules lo hi (estimate_after rules (Sampled r ∷ earlier)) t refl (ap (λ (x : Rules). timeout x t) same)
    (next-within lo hi (min longest r) (estimate_after rules earlier).trip (always-within rules lo hi earlier h (all.1)) (short lo hi r h (all.0)))

-- one doubling more
doubled : (g p x : ℕ) → min g (2 * min g (p * x)) ≡ min g (2 * (p * x))
doubled g p x = omega arith

one-more : (n : ℕ) (e : Estimate) → (backed_off n e).rto ≡ min e.rules.greatest (2 ^ n * e.rto) → (backed_off n e).rules ≡ e.rules
    → (backed_off (suc n) e).rto ≡ min e.rules.greatest (2 ^ suc n * e.rto)
one-more n e h same =
    let rules : (backed_off n e).rules.greatest ≡ e.rules.greatest = ap (λ (x : Rules). x.greatest) same in
    let power : 2 ^ suc n * e.rto ≡ 2 * (2 ^ n * e.rto) = rw pow-suc (omega arith) in
    let step : min e.rules.greatest (2 * min e.rules.greatest (2 ^ n * e.rto)) ≡ min e.rules.greatest (2 * (2 ^ n * e.rto)) =
    doubled e.rules.greatest (2 ^ n) e.rto in
    let new : (backed_off (suc n) e).rto ≡ min (backed_off n e).rules.greatest (2 * (backed_off n e).rto) = refl in
    cc

rules-stay : (n : ℕ) (e : Estimate) → (backed_off n e).rules ≡ e.rules
rules-stay zero e = refl
rules-stay (suc n) e = rules-stay n e

pub doubles_lem : DoublesEachTime
doubles_lem zero e h = omega arith
doubles_lem (suc n) e h = one-more n e (doubles_lem n e h) (rules-stay n e)
