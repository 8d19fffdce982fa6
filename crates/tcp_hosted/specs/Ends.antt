-- TWO ENDS WITH THEIR TIMES AT HOSTS, AMONG STRANGERS (RFC 5961, 1), from where `connect` or `listen` opened them on.
use Rattle.std.specs.Prelude.{◌≡◌, ℕ, ◌≤◌, true, false, List, [], ◌∷◌, length, Some, Ok}
use Rattle.tcp_wire.specs.Checksum.{AreBytes}
use Rattle.tcp_wire.specs.Vouched.{with_right_sum}
use Rattle.tcp_driver.specs.Driver.{Driving}
use Rattle.tcp_halves.specs.Config.{IsConfig}
use Rattle.tcp_halves.specs.declared.config.Config.{Config}
use Rattle.tcp_end.specs.declared.wired.Wired.{Wired}
use Rattle.tcp_end.specs.Wired.{machine}
use Rattle.std.specs.declared.cmp.Ordering.{Ordering}
use Rattle.tcp_table.specs.Table.{HasKey}
use Rattle.tcp_host.specs.declared.pair.Pair.{Pair as FourValues}
use Rattle.tcp_host.specs.Behaviour.{of_driver}
use Rattle.tcp_host.specs.Hosting.{Hosting, end_at}
use Rattle.tcp_replay.specs.Among.{Injection, is_injection_let_in}
use Rattle.tcp_replay.specs.Guarded.{is_injection_passed}
use Rattle.tcp_replay.specs.Safe.{FindsDamage, HintsAreTrue, IsSafe}
use Rattle.tcp_replay.specs.World.{max_life, other}
use Rattle.tcp_progress.specs.Settled.{least_life}
use Rattle.tcp_ends.specs.Among.{Calls, Incident, Injects, Rests}
use Rattle.tcp_ends.specs.Events.{is_lost}
use Rattle.tcp_ends.specs.Pair.{CallHasBytes, LetsLive, Member, Opening, Pair, end_of, guard_in, member_of, new_member, opened_with_runs, pair_after, pair_of, party_in, peer_at, with_member, world_in}
use Rattle.tcp_hosted.specs.Coming.{at_host}
use Rattle.tcp_hosted.specs.Worlds.{is_handed, pair_between}

-- ONE OF THEM at its host, whatever has come there
abbrev pub member_at_host : {H : Type 0} → Member H → Member H → ℕ → Injection → Member H
member_at_host m peer now i = record m {
  driving = at_host (of_driver machine) (pair_between (party_in m) (party_in peer)) m.driving now i.src i.dst i.bytes false;
}

-- WHAT COMES TO A HOST does this to the end that stands there under the four values of the two
abbrev pub ComesAsIncident : {H L : Type 0} → (FourValues → FourValues → Ordering) → Hosting (Driving (Wired H)) L → Hosting (Driving (Wired H)) L
    → ℕ → List ℕ → List ℕ → List ℕ → Type 0
ComesAsIncident {H = H} cmp old new now src dst bytes =
    (m peer : Member H) (slot : ℕ) → HasKey cmp old.ends (pair_between (party_in m) (party_in peer)) slot → end_at old.ends slot ≡ Some m.driving
    → HasKey cmp new.ends (pair_between (party_in m) (party_in peer)) slot
    × (end_at new.ends slot ≡ Some (member_at_host m peer now (record { src = src; dst = dst; bytes = bytes })).driving)

-- WHAT A DEVICE HAS VOUCHED FOR (RFC 9293, 3.1) does what the segment does that is summed, with the right checksum
abbrev pub VouchedIsSummed : Type 0 → Type 0
VouchedIsSummed H =
    (pair : FourValues) (end : Driving (Wired H)) (now : ℕ) (src dst bytes : List ℕ) → 20 ≤ length bytes
    → at_host (of_driver machine) pair end now src dst bytes true ≡ at_host (of_driver machine) pair end now src dst (with_right_sum src dst bytes) false

-- ---- WHAT HAPPENS: a call of the two; what comes to the host of one at a time; or nothing at all, where a side is said to rest
abbrev pub pair_at_hosts : {H : Type 0} → Pair H → Incident → Pair H
pair_at_hosts p (Calls call) = pair_after p call
pair_at_hosts p (Injects side now i) = with_member p side (member_at_host (member_of p side) (member_of p (other side)) now i)
pair_at_hosts p (Rests side) = p

unfoldable pub pair_after_all_at_hosts : {H : Type 0} → Pair H → List Incident → Pair H
pair_after_all_at_hosts p [] = p
pair_after_all_at_hosts p (incident ∷ list) = pair_after_all_at_hosts (pair_at_hosts p incident) list

-- BLIND: what an end is handed isn't let in, unless its driver refuses or withholds it
pub record IsBlindIncident {H : Type 0} (m peer : Member H) (i : Injection) : Type 0 where
  pub are_bytes : AreBytes i.bytes
  pub kept_out : is_handed (party_in m) (party_in peer) i ≡ true → is_lost m i.bytes ≡ false → is_injection_let_in (end_of m) i ≡ false

abbrev pub IsFairAtHosts : {H : Type 0} → Pair H → Incident → Type 0
IsFairAtHosts p (Calls call) = CallHasBytes call
IsFairAtHosts p (Injects side now i) = IsBlindIncident (member_of p side) (member_of p (other side)) i
IsFairAtHosts p (Rests side) = Unit {0}

unfoldable pub AreFairAtHosts : {H : Type 0} → Pair H → List Incident → Type 0
AreFairAtHosts p [] = Unit {0}
AreFairAtHosts p (incident ∷ list) = IsFairAtHosts p incident × AreFairAtHosts (pair_at_hosts p incident) list

-- ---- BLIND TO A GUARD (RFC 5961, 5.2) of this reach: what an end is handed isn't let in past it, unless its driver refuses or withholds
-- it. So strangers may send far more
pub record IsBlindToGuardIncident {H : Type 0} (reach : ℕ) (m peer : Member H) (i : Injection) : Type 0 where
  pub are_bytes : AreBytes i.bytes
  pub kept_out : is_handed (party_in m) (party_in peer) i ≡ true → is_lost m i.bytes ≡ false → is_injection_passed reach (end_of m) i ≡ false

abbrev pub IsFairToGuardAtHosts : {H : Type 0} → ℕ → Pair H → Incident → Type 0
IsFairToGuardAtHosts reach p (Calls call) = CallHasBytes call
IsFairToGuardAtHosts reach p (Injects side now i) = IsBlindToGuardIncident reach (member_of p side) (member_of p (other side)) i
IsFairToGuardAtHosts reach p (Rests side) = Unit {0}

unfoldable pub AreFairToGuardAtHosts : {H : Type 0} → ℕ → Pair H → List Incident → Type 0
AreFairToGuardAtHosts reach p [] = Unit {0}
AreFairToGuardAtHosts reach p (incident ∷ list) = IsFairToGuardAtHosts reach p incident × AreFairToGuardAtHosts reach (pair_at_hosts p incident) list

-- ---- TWO ENDS AT HOSTS ARE SAFE
abbrev pub IsSafePair : {H : Type 0} → Pair H → Type 0
IsSafePair p = IsSafe (world_in p) × HintsAreTrue (world_in p) × FindsDamage (world_in p)

-- without guards, or with guards that let in what lives
abbrev pub TwoEndsAtHostsAreSafe : Type 0 → Type 0
TwoEndsAtHostsAreSafe H =
    (life : ℕ) (a b : Config) (runs_a runs_b : ℕ) (opening_a opening_b : Opening) (x y : Driving (Wired H)) (list : List Incident)
    → life ≤ max_life → IsConfig a → IsConfig b → LetsLive life (guard_in opening_a) → LetsLive life (guard_in opening_b)
    → opened_with_runs a runs_a (peer_at b) opening_a ≡ Ok x → opened_with_runs b runs_b (peer_at a) opening_b ≡ Ok y
    → AreFairAtHosts (pair_of life (new_member x) (new_member y)) list
    → IsSafePair (pair_after_all_at_hosts (pair_of life (new_member x) (new_member y)) list)

-- with guards of one reach, however far that is, where segments live for `least_life` positions or longer
abbrev pub TwoGuardedEndsAtHostsAreSafe : Type 0 → Type 0
TwoGuardedEndsAtHostsAreSafe H =
    (life reach : ℕ) (a b : Config) (runs_a runs_b : ℕ) (opening_a opening_b : Opening) (x y : Driving (Wired H)) (list : List Incident)
    → least_life ≤ life → life ≤ max_life → IsConfig a → IsConfig b → guard_in opening_a ≡ Some reach → guard_in opening_b ≡ Some reach
    → opened_with_runs a runs_a (peer_at b) opening_a ≡ Ok x → opened_with_runs b runs_b (peer_at a) opening_b ≡ Ok y
    → AreFairToGuardAtHosts reach (pair_of life (new_member x) (new_member y)) list
    → IsSafePair (pair_after_all_at_hosts (pair_of life (new_member x) (new_member y)) list)
