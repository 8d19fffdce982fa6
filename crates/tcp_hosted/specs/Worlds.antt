-- TWO ENDS AT HOSTS, AMONG STRANGERS (RFC 5961, 1), who send any bytes to either host, at any time, from and to any address. What doesn't
-- have the four values of the connection isn't handed to its ends, so that only who writes from the peer's address and port has to be blind.
use Rattle.std.specs.Prelude.{◌≡◌, ℕ, ◌≤◌, Bool, true, false, if◌then◌else◌, List, [], ◌∷◌}
use Rattle.tcp_wire.specs.Checksum.{AreBytes}
use Rattle.tcp_halves.specs.Config.{IsConfig}
use Rattle.tcp_halves.specs.declared.config.Config.{Config}
use Rattle.tcp_host.specs.declared.pair.Pair.{Pair}
use Rattle.tcp_host.specs.declared.pair.Socket.{Socket}
use Rattle.tcp_replay.specs.Among.{Happening, Happens, Injection, Injects, is_injection_let_in, party_after_injection}
use Rattle.tcp_replay.specs.Events.{HasBytes}
use Rattle.tcp_replay.specs.Safe.{FindsDamage, HintsAreTrue, IsSafe}
use Rattle.tcp_replay.specs.World.{PartyState, WorldState, max_life, other, party_of, world_after, world_from, world_with_runs}
use Rattle.tcp_hosted.specs.Coming.{comes_to}

-- THE FOUR VALUES of p's connection, whose peer is q
abbrev pub socket_of : PartyState → Socket
socket_of p = record { addr = p.endpoint.config.addr.0; port = p.endpoint.config.port }

abbrev pub pair_between : PartyState → PartyState → Pair
pair_between p q = record { local = socket_of p; peer = socket_of q }

-- whether p is handed a segment at its host
abbrev pub is_handed : PartyState → PartyState → Injection → Bool
is_handed p q i = comes_to (pair_between p q) i.src i.dst i.bytes

abbrev pub party_at_host : PartyState → PartyState → Injection → PartyState
party_at_host p q i = if is_handed p q i then party_after_injection p i else p

-- ---- WHAT HAPPENS: an event of the two ends and of the network between them, or what comes to the host of one. What the network brings
-- goes to the end itself
abbrev pub after_at_hosts : WorldState → Happening → WorldState
after_at_hosts w (Happens event) = world_after w event
after_at_hosts w (Injects side i) = world_from w.life side (party_at_host (party_of w side) (party_of w (other side)) i) (party_of w (other side))

unfoldable pub after_all_at_hosts : WorldState → List Happening → WorldState
after_all_at_hosts w [] = w
after_all_at_hosts w (happening ∷ list) = after_all_at_hosts (after_at_hosts w happening) list

-- BLIND AT A HOST: what an end is handed isn't let in. Nothing is asked of addresses, nor of what the end answers, not in LISTEN or CLOSED
-- either
pub record IsBlindAtHost (p q : PartyState) (i : Injection) : Type 0 where
  pub are_bytes : AreBytes i.bytes
  pub kept_out : is_handed p q i ≡ true → is_injection_let_in p.endpoint i ≡ false

abbrev pub IsFairAtHosts : WorldState → Happening → Type 0
IsFairAtHosts w (Happens event) = HasBytes event
IsFairAtHosts w (Injects side i) = IsBlindAtHost (party_of w side) (party_of w (other side)) i

unfoldable pub AreFairAtHosts : WorldState → List Happening → Type 0
AreFairAtHosts w [] = Unit {0}
AreFairAtHosts w (happening ∷ list) = IsFairAtHosts w happening × AreFairAtHosts (after_at_hosts w happening) list

-- ---- EVERY RUN AT HOSTS IS SAFE, from two new ends on
abbrev pub EveryRunAtHostsIsSafe : Type 0
EveryRunAtHostsIsSafe =
    (life : ℕ) (a b : Config) (runs_a runs_b : ℕ) (list : List Happening) → life ≤ max_life → IsConfig a → IsConfig b
    → AreFairAtHosts (world_with_runs life a b runs_a runs_b) list
    → IsSafe (after_all_at_hosts (world_with_runs life a b runs_a runs_b) list)
    × HintsAreTrue (after_all_at_hosts (world_with_runs life a b runs_a runs_b) list)
    × FindsDamage (after_all_at_hosts (world_with_runs life a b runs_a runs_b) list)
