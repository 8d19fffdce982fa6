-- Between which times SRTT, RTTVAR and RTO lie (RFC 6298, 2 and 5), whatever is measured.
use Rattle.std.specs.Prelude.{◌≡◌, ℕ, zero, suc, ◌+◌, ◌-◌, ◌*◌, ◌/◌, ◌^◌, ◌<◌, ◌≤◌, min, max, List, [], ◌∷◌, Some}
use Rattle.tcp_timing.specs.declared.rules.Rules.{Rules}
use Rattle.tcp_timing.specs.declared.round_trip.RoundTrip.{RoundTrip}
use Rattle.tcp_timing.specs.Rules.{longest}
use Rattle.tcp_timing.specs.RoundTrip.{distance, first_trip, next_trip}
use Rattle.tcp_timing.specs.Estimate.{Estimate, after_back_off, after_sample, after_syn_resent, bounded, new_estimate}

-- LESS THAN ONE BELOW: these whole numbers are what the fractions of RFC 6298, 2.2 and 2.3, are without their rest
pub record IsFirstRoundedDown (r : ℕ) (first : RoundTrip) : Type 0 where
  pub srtt : first.srtt ≡ r
  pub rttvar_least : 2 * first.rttvar ≤ r
  pub rttvar_most : r < 2 * (first.rttvar + 1)

pub record IsRoundedDown (t : RoundTrip) (r : ℕ) (next : RoundTrip) : Type 0 where
  pub srtt_least : 8 * next.srtt ≤ 7 * t.srtt + r
  pub srtt_most : 7 * t.srtt + r < 8 * (next.srtt + 1)
  pub rttvar_least : 4 * next.rttvar ≤ 3 * t.rttvar + distance t.srtt r
  pub rttvar_most : 3 * t.rttvar + distance t.srtt r < 4 * (next.rttvar + 1)

abbrev pub RoundsDown : Type 0
RoundsDown = ((r : ℕ) → IsFirstRoundedDown r (first_trip r)) × ((t : RoundTrip) (r : ℕ) → IsRoundedDown t r (next_trip t r))

-- what happens to an estimate: a round trip was measured, the timer expired, data began behind a SYN that was sent again
pub data Happening : Type 0 where
  Sampled : ℕ → Happening
  Expired : Happening
  SynResent : Happening

abbrev pub estimate_next : Estimate → Happening → Estimate
estimate_next e (Sampled r) = after_sample e r
estimate_next e Expired = after_back_off e
estimate_next e SynResent = after_syn_resent e

-- the newest comes first
abbrev pub estimate_after : Rules → List Happening → Estimate
estimate_after rules [] = new_estimate rules
estimate_after rules (newest ∷ earlier) = estimate_next (estimate_after rules earlier) newest

abbrev pub IsWithin : ℕ → ℕ → ℕ → Type 0
IsWithin lo hi r = (lo ≤ r) × (r ≤ hi)

-- what was measured lies between these times
abbrev pub MeasuresWithin : ℕ → ℕ → Happening → Type 0
MeasuresWithin lo hi (Sampled r) = IsWithin lo hi r
MeasuresWithin lo hi Expired = Unit {0}
MeasuresWithin lo hi SynResent = Unit {0}

abbrev pub AllWithin : ℕ → ℕ → List Happening → Type 0
AllWithin lo hi [] = Unit {0}
AllWithin lo hi (newest ∷ earlier) = MeasuresWithin lo hi newest × AllWithin lo hi earlier

-- the greatest RTTVAR where each round trip lies between lo and hi
abbrev pub greatest_rttvar : ℕ → ℕ → ℕ
greatest_rttvar lo hi = max (hi / 2) (hi - lo)

-- WHERE ALL ROUND TRIPS LIE BETWEEN TWO TIMES, so does SRTT; RTTVAR is at most the greater of half of the upper one and their
-- distance; and the timeout that is computed from them lies between what follows of these
pub record FollowsTrips (rules : Rules) (lo hi : ℕ) (e : Estimate) : Type 0 where
  pub measured : RoundTrip
  pub trip : e.trip ≡ Some measured
  pub srtt : IsWithin lo hi measured.srtt
  pub rttvar : measured.rttvar ≤ greatest_rttvar lo hi
  pub least : bounded rules (lo + rules.granularity) ≤ e.rto
  pub most : e.rto ≤ bounded rules (hi + max rules.granularity (4 * greatest_rttvar lo hi))

abbrev pub TimeoutFollowsTrips : Type 0
TimeoutFollowsTrips =
    (rules : Rules) (lo hi r : ℕ) (earlier : List Happening) → hi ≤ longest → AllWithin lo hi (Sampled r ∷ earlier)
    → FollowsTrips rules lo hi (estimate_after rules (Sampled r ∷ earlier))

-- BACKED OFF so many times without a measurement, the timeout is as many times doubled, and the greatest at most (5.5)
abbrev pub backed_off : ℕ → Estimate → Estimate
backed_off zero e = e
backed_off (suc n) e = after_back_off (backed_off n e)

abbrev pub DoublesEachTime : Type 0
DoublesEachTime =
    (n : ℕ) (e : Estimate) → e.rto ≤ e.rules.greatest → (backed_off n e).rto ≡ min e.rules.greatest (2 ^ n * e.rto)
