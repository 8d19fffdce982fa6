-- TWO GUARDED ENDS WITH THEIR TIMES AMONG STRANGERS (RFC 5961, 1 and 5.2), who may send whatever the guards keep out, too.
use Rattle.std.specs.Prelude.{◌≡◌, ℕ, ◌≤◌, false, List, [], ◌∷◌, Some, Ok}
use Rattle.tcp_driver.specs.Driver.{Driving}
use Rattle.tcp_halves.specs.Config.{IsConfig}
use Rattle.tcp_halves.specs.declared.config.Config.{Config}
use Rattle.tcp_end.specs.declared.wired.Wired.{Wired}
use Rattle.tcp_replay.specs.declared.event.Side.{Side}
use Rattle.tcp_replay.specs.Guarded.{IsBlindToGuard, after_all_guarded}
use Rattle.tcp_replay.specs.Safe.{FindsDamage, HintsAreTrue, IsSafe}
use Rattle.tcp_replay.specs.World.{max_life, other}
use Rattle.tcp_progress.specs.Settled.{least_life}
use Rattle.tcp_ends.specs.Pair.{CallHasBytes, Opening, Pair, guard_in, guard_of, member_of, new_member, opened_with_runs, pair_of, party_in, peer_at, world_in}
use Rattle.tcp_ends.specs.Events.{is_lost}
use Rattle.tcp_ends.specs.Among.{Calls, Incident, Injects, Rests, happenings_of, pair_after_incident, pair_after_incidents}

-- both have a guard of this reach
abbrev pub AreGuarded : {H : Type 0} → ℕ → Pair H → Type 0
AreGuarded reach p = (side : Side) → guard_of (member_of p side) ≡ Some reach

-- EVERY LIST OF INCIDENTS is a list of what happens in a world of two guarded ends, whatever the ends are
abbrev pub IncidentsHappenToGuarded : Type 0 → Type 0
IncidentsHappenToGuarded H =
    (reach : ℕ) (p : Pair H) (list : List Incident) → AreGuarded reach p
    → world_in (pair_after_incidents p list) ≡ after_all_guarded reach (world_in p) (happenings_of p list)

-- each injection is blind to the guard when it comes, unless the driver refuses or withholds it
abbrev pub IsFairToGuard : {H : Type 0} → ℕ → Pair H → Incident → Type 0
IsFairToGuard reach p (Calls call) = CallHasBytes call
IsFairToGuard reach p (Injects side now i) =
    is_lost (member_of p side) i.bytes ≡ false → IsBlindToGuard reach (party_in (member_of p side)) (party_in (member_of p (other side))) i
IsFairToGuard reach p (Rests side) = Unit {0}

unfoldable pub AreFairToGuard : {H : Type 0} → ℕ → Pair H → List Incident → Type 0
AreFairToGuard reach p [] = Unit {0}
AreFairToGuard reach p (incident ∷ list) = IsFairToGuard reach p incident × AreFairToGuard reach (pair_after_incident p incident) list

-- TWO GUARDED ENDS ARE SAFE AMONG STRANGERS, however far the guards reach, where segments live for `least_life` positions or longer
abbrev pub TwoGuardedEndsAreSafe : Type 0 → Type 0
TwoGuardedEndsAreSafe H =
    (life reach : ℕ) (a b : Config) (runs_a runs_b : ℕ) (opening_a opening_b : Opening) (x y : Driving (Wired H)) (list : List Incident)
    → least_life ≤ life → life ≤ max_life → IsConfig a → IsConfig b → guard_in opening_a ≡ Some reach → guard_in opening_b ≡ Some reach
    → opened_with_runs a runs_a (peer_at b) opening_a ≡ Ok x → opened_with_runs b runs_b (peer_at a) opening_b ≡ Ok y
    → AreFairToGuard reach (pair_of life (new_member x) (new_member y)) list
    → IsSafe (world_in (pair_after_incidents (pair_of life (new_member x) (new_member y)) list))
    × HintsAreTrue (world_in (pair_after_incidents (pair_of life (new_member x) (new_member y)) list))
    × FindsDamage (world_in (pair_after_incidents (pair_of life (new_member x) (new_member y)) list))
