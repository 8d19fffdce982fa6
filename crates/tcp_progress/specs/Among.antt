-- IN EVERY WORLD AMONG STRANGERS (RFC 5961, 1): what holds in every world that two ends can come to holds also where others, who
-- aren't on the path between them, have sent bytes to either.
use Rattle.std.specs.Prelude.{◌≡◌, ℕ, ◌≤◌, true, List, ◌⊎◌}
use Rattle.tcp_halves.specs.Config.{IsConfig}
use Rattle.tcp_halves.specs.declared.config.Config.{Config}
use Rattle.tcp_conn.specs.Phase.{takes_text}
use Rattle.tcp_replay.specs.Among.{AreFair, Happening, Injection, IsBlind, after_happenings, world_with_injection}
use Rattle.tcp_replay.specs.declared.event.Side.{Side}
use Rattle.tcp_replay.specs.Events.{Acknowledge}
use Rattle.tcp_replay.specs.World.{WorldState, max_life, new_world_with, other, party_of, world_after}
use Rattle.tcp_progress.specs.Settled.{IsLive, IsNotStuck, least_life}
use Rattle.tcp_progress.specs.Steady.{IsSteady}
use Rattle.tcp_progress.specs.Sent.{TakeOnlySent}
use Rattle.tcp_progress.specs.Handshake.{CanOpen, OpensAndGetsThrough}
use Rattle.tcp_progress.specs.Fair.{BurstEnds, CanHaveTurns, GetsThrough, NeverGrows, NoneDiscarded}
use Rattle.tcp_progress.specs.Half.{CanHaveHalves, GetsThroughByHalves}

-- over every list of what happens, where each injection is blind when it comes, whatever the Configs of the two ends, and
-- however long segments live from `least_life` on
abbrev pub InEveryWorldAmongStrangers : (WorldState → Type 0) → Type 0
InEveryWorldAmongStrangers Holds =
    (life : ℕ) (a b : Config) (list : List Happening) → least_life ≤ life → life ≤ max_life → IsConfig a → IsConfig b
    → AreFair (new_world_with life a b) list → Holds (after_happenings (new_world_with life a b) list)

abbrev pub SteadyAmongStrangers : Type 0
SteadyAmongStrangers = InEveryWorldAmongStrangers IsSteady

abbrev pub NothingIsTakenBeforeItIsSentAmongStrangers : Type 0
NothingIsTakenBeforeItIsSentAmongStrangers = InEveryWorldAmongStrangers TakeOnlySent

abbrev pub NotStuckAmongStrangers : Type 0
NotStuckAmongStrangers = InEveryWorldAmongStrangers IsNotStuck

abbrev pub OpensAmongStrangers : Type 0
OpensAmongStrangers = InEveryWorldAmongStrangers CanOpen

abbrev pub ServedAmongStrangers : Type 0
ServedAmongStrangers = InEveryWorldAmongStrangers GetsThrough

abbrev pub ServedOpensAmongStrangers : Type 0
ServedOpensAmongStrangers = InEveryWorldAmongStrangers OpensAndGetsThrough

abbrev pub HalvesAmongStrangers : Type 0
HalvesAmongStrangers = InEveryWorldAmongStrangers GetsThroughByHalves

abbrev pub TurnsCanBeHadAmongStrangers : Type 0
TurnsCanBeHadAmongStrangers = InEveryWorldAmongStrangers (λ w. NoneDiscarded w → (n : ℕ) → CanHaveTurns n w)

abbrev pub HalvesCanBeHadAmongStrangers : Type 0
HalvesCanBeHadAmongStrangers = InEveryWorldAmongStrangers (λ w. IsLive w.a → IsLive w.b → (n : ℕ) → CanHaveHalves n w)

abbrev pub BurstsEndAmongStrangers : Type 0
BurstsEndAmongStrangers = InEveryWorldAmongStrangers (λ w. (side : Side) → BurstEnds w side)

abbrev pub NeverGrowsAmongStrangers : Type 0
NeverGrowsAmongStrangers = InEveryWorldAmongStrangers NeverGrows

-- ---- A BLIND INJECTION IS A CALM EVENT, or none at all, at an end that takes text (ESTABLISHED, FIN-WAIT-1 and FIN-WAIT-2): it
-- changes nothing, or it makes an acknowledgement pending (RFC 9293, 3.10.7.4), as the user's call `Acknowledge` does. So each
-- law of calm events holds with such injections among them
abbrev pub IsEventOrNone : WorldState → Side → Injection → Type 0
IsEventOrNone w side i = (world_with_injection w side i ≡ w) ⊎ (world_with_injection w side i ≡ world_after w (Acknowledge side))

abbrev pub BlindIsCalm : Type 0
BlindIsCalm =
    (w : WorldState) (side : Side) (i : Injection) → takes_text (party_of w side).endpoint.phase ≡ true
    → IsBlind (party_of w side) (party_of w (other side)) i → IsEventOrNone w side i
