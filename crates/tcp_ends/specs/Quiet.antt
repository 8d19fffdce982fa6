-- HALF TURNS OF CALLERS THAT EMIT UNTIL NOTHING IS LEFT (RFC 9293, 3.8 and 3.8.6.3). By the driver's rules no window holds back what
-- goes out first behind an expiry, and a pending acknowledgement goes out at SND.NXT: so neither is a premise here.
use Rattle.std.specs.Prelude.{◌≡◌, ℕ, zero, suc, ◌+◌, ◌≤◌, true, false, List, [], ◌∷◌, ◌++◌, length, Some, None, IfSome, ◌⊎◌, Ok}
use Rattle.std.specs.List.{AllByRecursion}
use Rattle.tcp_driver.specs.declared.machine.Sent.{Sent}
use Rattle.tcp_driver.specs.declared.machine.Timer.TheVariants as timers
use Rattle.tcp_driver.specs.Deadlines.{last}
use Rattle.tcp_driver.specs.Driver.{Driving, IsTimely, holds, sent_of}
use Rattle.tcp_driver.specs.Times.{user_deadline}
use Rattle.tcp_halves.specs.Config.{IsConfig}
use Rattle.tcp_halves.specs.declared.config.Config.{Config}
use Rattle.tcp_conn.specs.declared.phase.Timer.TheVariants.{Retransmit}
use Rattle.tcp_conn.specs.Due.{due_of}
use Rattle.tcp_conn.specs.Timers.{after_timer}
use Rattle.tcp_end.specs.declared.wired.Wired.{Wired}
use Rattle.tcp_end.specs.Wired.{machine}
use Rattle.tcp_replay.specs.declared.event.Side.{Side}
use Rattle.tcp_replay.specs.Among.{Happens}
use Rattle.tcp_replay.specs.Events.{Timer}
use Rattle.tcp_replay.specs.World.{max_life, other}
use Rattle.tcp_progress.specs.Fair.{GotThrough, NoneDiscarded}
use Rattle.tcp_progress.specs.Half.{HasReadAll, HaveRoom}
use Rattle.tcp_progress.specs.Measure.{left_in}
use Rattle.tcp_progress.specs.Settled.{IsLive, least_life}
use Rattle.tcp_progress.specs.Steady.{IsSteadyPair}
use Rattle.tcp_ends.specs.Pair as pairs
use Rattle.tcp_ends.specs.Pair.{Member, Opening, Pair, PairCall, end_of, member_after_emission, member_of, LetsLive, guard_in, new_member, opened, opened_with_runs, pair_of, party_in, peer_at, segment_in, world_in}
use Rattle.tcp_ends.specs.Events.{is_lost}
use Rattle.tcp_ends.specs.Among.{Calls, Incident, happening_of, pair_after_incident, pair_after_incidents}
use Rattle.tcp_ends.specs.Halves.{AreCalmIncidents, IsBrought}
use Rattle.tcp_ends.specs.Rests.{IsQuiet}

-- ---- OF ONE END. BEHIND AN EXPIRY WHAT IS DUE GOES OUT, whatever the window, where no reset waits and no acknowledgement is pending: it
-- begins at SND.UNA at most (RFC 9293, 3.8.1)
abbrev pub ExpiredGoesOut : Type 0 → Type 0
ExpiredGoesOut H =
    (m n : Member H) (window : ℕ) → IsSteadyPair (party_in m) (party_in n) → (end_of m).pending.reset ≡ None → (end_of m).pending.ack ≡ false
    → holds machine ((machine {A = H}).expired m.driving.core timers.Retransmit) window ≡ false

-- AN ACKNOWLEDGEMENT THAT IS PENDING GOES OUT AT SND.NXT, alone or with what is new, whatever the window (RFC 9293, 3.8.6.3)
pub record GoesAtNext {H : Type 0} (m : Member H) (window : ℕ) : Type 0 where
  pub sent : Sent
  pub goes : sent_of machine m.driving.core window ≡ Some sent
  pub at_next : sent.start ≡ (end_of m).sending.snd_nxt

abbrev pub PendingGoesAtNext : Type 0 → Type 0
PendingGoesAtNext H =
    (m n : Member H) (window : ℕ) → IsSteadyPair (party_in m) (party_in n) → (end_of m).pending.reset ≡ None → (end_of m).pending.syn ≡ false
    → (end_of m).pending.ack ≡ true → GoesAtNext m window

-- WHO EMITS UNTIL NOTHING IS LEFT, while an acknowledgement is pending and no SYN, sends it. Each emission is at a time, within a
-- window, into a buffer
pub record Emission : Type 0 where
  pub now : ℕ
  pub window : ℕ
  pub out : List ℕ

unfoldable pub member_after_emissions : {H : Type 0} → Member H → List Emission → Member H
member_after_emissions m [] = m
member_after_emissions m (e ∷ list) = member_after_emissions (member_after_emission m e.now e.window e.out) list

-- one of them finds nothing
unfoldable pub FindsNothing : {H : Type 0} → Member H → List Emission → Type 0
FindsNothing m [] = ⊥
FindsNothing m (e ∷ list) = (sent_of machine m.driving.core e.window ≡ None) ⊎ FindsNothing (member_after_emission m e.now e.window e.out) list

-- at one of them the acknowledgement is still pending, and neither a reset nor a SYN goes first
pub record EmitsPending {H : Type 0} (m : Member H) (list : List Emission) : Type 0 where
  pub before : List Emission
  pub emission : Emission
  pub after : List Emission
  pub form : list ≡ before ++ (emission ∷ after)
  pub no_reset : (end_of (member_after_emissions m before)).pending.reset ≡ None
  pub no_syn : (end_of (member_after_emissions m before)).pending.syn ≡ false
  pub has_ack : (end_of (member_after_emissions m before)).pending.ack ≡ true

abbrev pub EmittingAllEmitsPending : Type 0 → Type 0
EmittingAllEmitsPending H =
    (m : Member H) (list : List Emission) → (end_of m).pending.syn ≡ false → (end_of m).pending.ack ≡ true → FindsNothing m list → EmitsPending m list

-- ---- OF TWO. THE ACKNOWLEDGEMENT IS BROUGHT: the side emits while one is pending and neither a reset nor a SYN goes first,
-- and this comes
pub record AcknowledgementIsBrought {H : Type 0} (side : Side) (p : Pair H) (list : List Incident) : Type 0 where
  pub before : List Incident
  pub now : ℕ
  pub window : ℕ
  pub out : List ℕ
  pub after : List Incident
  pub form : list ≡ before ++ (Calls (pairs.Emits side now window out) ∷ after)
  pub no_reset : (end_of (member_of (pair_after_incidents p before) side)).pending.reset ≡ None
  pub no_syn : (end_of (member_of (pair_after_incidents p before) side)).pending.syn ≡ false
  pub has_ack : (end_of (member_of (pair_after_incidents p before) side)).pending.ack ≡ true
  pub comes : IsBrought (pair_after_incident (pair_after_incidents p before) (Calls (pairs.Emits side now window out))) side
      (length (member_of (pair_after_incidents p before) side).sent) after

-- A SEGMENT IS BROUGHT AND ACKNOWLEDGED, where an acknowledgement is then pending
pub record IsAcknowledged {H : Type 0} (side : Side) (k : ℕ) (p : Pair H) (list : List Incident) : Type 0 where
  pub before : List Incident
  pub now : ℕ
  pub after : List Incident
  pub form : list ≡ before ++ (Calls (pairs.Arrives side k now) ∷ after)
  pub taken : is_lost (member_of (pair_after_incidents p before) (other side)) (segment_in (pair_after_incidents p before) side k) ≡ false
  pub answered : (end_of (member_of (pair_after_incident (pair_after_incidents p before) (Calls (pairs.Arrives side k now))) (other side))).pending.ack ≡ true
      → AcknowledgementIsBrought (other side) (pair_after_incident (pair_after_incidents p before) (Calls (pairs.Arrives side k now))) after

-- A HALF TURN of an end that was quiet: the caller had emitted until nothing was left
pub record MakesQuietHalfTurn {H : Type 0} (side : Side) (p : Pair H) (list : List Incident) : Type 0 where
  pub before : List Incident
  pub first : Incident
  pub emits_at : ℕ
  pub window : ℕ
  pub out : List ℕ
  pub after : List Incident
  pub form : list ≡ before ++ (first ∷ Calls (pairs.Emits side emits_at window out) ∷ after)
  pub quiet : IsQuiet (end_of (member_of (pair_after_incidents p before) side))
  pub begins : happening_of (pair_after_incidents p before) first ≡ Some (Happens (Timer side Retransmit))
  pub answered : IfSome (due_of (after_timer (end_of (member_of (pair_after_incidents p before) side)) Retransmit))
      (λ due. IsAcknowledged side (length (member_of (pair_after_incidents p before) side).sent)
      (pair_after_incident (pair_after_incident (pair_after_incidents p before) first) (Calls (pairs.Emits side emits_at window out)))
      after)

-- IT CAN BEGIN: the timer needn't run, or `timeout` has it expire at its deadline, unless time or the user timeout ends first
pub record CanBegin {H : Type 0} (p : Pair H) (side : Side) : Type 0 where
  pub first : Incident
  pub begins : happening_of p first ≡ Some (Happens (Timer side Retransmit))

abbrev pub EachHalfCanBegin : Type 0 → Type 0
EachHalfCanBegin H =
    (p : Pair H) (side : Side) → IsTimely (machine {A = H}) (member_of p side).driving → (member_of p side).driving.times.bursting ≡ false
    → user_deadline (member_of p side).driving.times ≡ None
    → (member_of p side).driving.times.clock + (member_of p side).driving.times.estimate.rules.greatest ≤ last → CanBegin p side

-- A PAIR of them, and this many pairs
pub record MakeBothQuietHalves {H : Type 0} (p : Pair H) (list : List Incident) : Type 0 where
  pub calm : AreCalmIncidents p list
  pub read : (side : Side) → HasReadAll (party_in (member_of p side))
  pub half : (side : Side) → MakesQuietHalfTurn side p list

abbrev pub MakeQuietHalves : {H : Type 0} → ℕ → Pair H → List Incident → Type 0
MakeQuietHalves zero p list = AreCalmIncidents p list
MakeQuietHalves (suc n) p list =
    (before : List Incident) × (pair : List Incident) × (after : List Incident) × (list ≡ before ++ (pair ++ after))
    × AreCalmIncidents p before × MakeBothQuietHalves (pair_after_incidents p before) pair
    × MakeQuietHalves n (pair_after_incidents (pair_after_incidents p before) pair) after

-- TWO ENDS GET THROUGH BY QUIET HALVES, from wherever any calls have brought them
abbrev pub TwoEndsGetThroughByQuietHalves : Type 0 → Type 0
TwoEndsGetThroughByQuietHalves H =
    (life : ℕ) (a b : Config) (opening_a opening_b : Opening) (x y : Driving (Wired H)) (calls : List PairCall) (p : Pair H) (list : List Incident)
    → least_life ≤ life → life ≤ max_life → IsConfig a → IsConfig b → opened a (peer_at b) opening_a ≡ Ok x → opened b (peer_at a) opening_b ≡ Ok y
    → LetsLive life (guard_in opening_a) → LetsLive life (guard_in opening_b)
    → AllByRecursion pairs.CallHasBytes calls → p ≡ pairs.pair_after_all (pair_of life (new_member x) (new_member y)) calls
    → IsLive (party_in p.a) → IsLive (party_in p.b) → HaveRoom (world_in p) → MakeQuietHalves (suc (suc (left_in (world_in p)))) p list
    → NoneDiscarded (world_in (pair_after_incidents p list)) → GotThrough (world_in p) (world_in (pair_after_incidents p list))

-- so it is whatever number of runs either end keeps out of order and remembers of its peer's
abbrev pub TwoEndsGetThroughByQuietHalvesWithRuns : Type 0 → Type 0
TwoEndsGetThroughByQuietHalvesWithRuns H =
    (life : ℕ) (a b : Config) (runs_a runs_b : ℕ) (opening_a opening_b : Opening) (x y : Driving (Wired H)) (calls : List PairCall) (p : Pair H) (list : List Incident)
    → least_life ≤ life → life ≤ max_life → IsConfig a → IsConfig b → opened_with_runs a runs_a (peer_at b) opening_a ≡ Ok x → opened_with_runs b runs_b (peer_at a) opening_b ≡ Ok y
    → LetsLive life (guard_in opening_a) → LetsLive life (guard_in opening_b)
    → AllByRecursion pairs.CallHasBytes calls → p ≡ pairs.pair_after_all (pair_of life (new_member x) (new_member y)) calls
    → IsLive (party_in p.a) → IsLive (party_in p.b) → HaveRoom (world_in p) → MakeQuietHalves (suc (suc (left_in (world_in p)))) p list
    → NoneDiscarded (world_in (pair_after_incidents p list)) → GotThrough (world_in p) (world_in (pair_after_incidents p list))
