-- TWO ENDS THAT ASK EACH OTHER whether they are there (RFC 9293, 3.8.4), and what holds of them after every list of what
-- happens. Keep-alives come as all segments do: late, again, in any order, with one byte changed, or never.
use Rattle.std.specs.Prelude.{◌≡◌, ℕ, ◌-◌, ◌<◌, ◌≤◌, ◌⊎◌, Bool, true, false, not, ◌&&◌, ◌==◌, nat_lt, if◌then◌else◌, List, [], ◌∷◌, ◌++◌, length, Option, Some, None, option_map, option_to_list, slice_get}
use Rattle.std.specs.List.{AllByRecursion}
use Rattle.tcp_halves.specs.Config.{IsConfig}
use Rattle.tcp_halves.specs.Receiver.{rcv_position}
use Rattle.tcp_halves.specs.declared.config.Config.{Config}
use Rattle.tcp_reasm.specs.Reassembly.{window}
use Rattle.tcp_conn.specs.declared.arrive.guard.Intake.{Intake}
use Rattle.tcp_conn.specs.Guard.{after_intake}
use Rattle.tcp_conn.specs.Phase.{takes_text}
use Rattle.tcp_conn.specs.State.{State}
use Rattle.tcp_keep_alive.specs.Asking.{keep_alive_due}
use Rattle.tcp_replay.specs.declared.event.Side.{Side}
use Rattle.tcp_replay.specs.declared.event.Side.TheVariants.{A, B}
use Rattle.tcp_replay.specs.Events.{Acknowledge, EventContent, HasBytes}
use Rattle.tcp_replay.specs.World.{WorldState, SentSegment, bytes_with_damage, is_expired, max_life, other, party_of, PartyState, world_after, world_from, world_with_runs}
use Rattle.tcp_replay.specs.Among.{Injection, IsBlind, party_after_injection}
use Rattle.tcp_replay.specs.Safe.{IsSafe, HintsAreTrue, FindsDamage}

-- the keep-alive that an end in this state sends, with its positions then: that of its sequence number in its own direction,
-- and the next that the end expected of the other direction, which it acknowledges
abbrev pub asked_by : State → List ℕ → SentSegment
asked_by s bytes = record { bytes = bytes; position = s.sending.snd_nxt - 1; wanted = rcv_position s.receiving }

-- it sends one where it may ask, and else none
abbrev pub asks_of : State → List SentSegment
asks_of s = option_to_list (option_map (asked_by s) (keep_alive_due s))

-- A WORLD THAT ASKS: two ends, and the keep-alives that each sent
pub record AskingWorld : Type 0 where
  pub world : WorldState
  pub of_a : List SentSegment
  pub of_b : List SentSegment

abbrev pub asks_in : AskingWorld → Side → List SentSegment
asks_in w A = w.of_a
asks_in w B = w.of_b

-- WHAT HAPPENS: an event of the two ends and of the network between them; an end asks; a keep-alive of one side, by its
-- number, reaches the other, which may have a guard of some reach (RFC 5961, 5.2), as it is or with the byte at a place
-- combined with a value by exclusive or
pub data Happening : Type 0 where
  Happens : EventContent → Happening
  Asks : Side → Happening
  Reaches : Side → Option ℕ → ℕ → Happening
  ReachesDamaged : Side → Option ℕ → ℕ → ℕ → ℕ → Happening

abbrev pub after_asking : AskingWorld → Side → AskingWorld
after_asking w A = record w { of_a = w.of_a ++ asks_of w.world.a.endpoint }
after_asking w B = record w { of_b = w.of_b ++ asks_of w.world.b.endpoint }

-- it arrives as any other segment does, unless its lifetime is over
abbrev pub by_guard : Option ℕ → Intake
by_guard guard = record { is_vouched = false; guard = guard }

unfoldable pub party_after_ask : Option ℕ → PartyState → PartyState → List ℕ → PartyState
party_after_ask guard p from bytes = record p {
  endpoint = after_intake (by_guard guard) p.endpoint from.endpoint.config.addr.0 p.endpoint.config.addr.0 bytes;
}

abbrev pub world_with_arrival : WorldState → Side → Option ℕ → SentSegment → WorldState
world_with_arrival w side guard g =
    world_from w.life side (party_of w side) (party_after_ask guard (party_of w (other side)) (party_of w side) g.bytes)

-- where there is none of that number, nothing happens
abbrev pub world_reached_by : WorldState → Side → Option ℕ → Option SentSegment → WorldState
world_reached_by w side guard None = w
world_reached_by w side guard (Some g) =
    if is_expired w.life (party_of w (other side)).endpoint g then w else world_with_arrival w side guard g

-- DAMAGE is a change of a byte that there is
abbrev pub is_change : SentSegment → ℕ → ℕ → Bool
is_change g place value = not (value == 0) && nat_lt place (length g.bytes)

abbrev pub with_damage : SentSegment → ℕ → ℕ → SentSegment
with_damage g place value = record g { bytes = bytes_with_damage g.bytes place value }

abbrev pub world_damaged_by : WorldState → Side → Option ℕ → ℕ → ℕ → Option SentSegment → WorldState
world_damaged_by w side guard place value None = w
world_damaged_by w side guard place value (Some g) =
    if is_change g place value then world_with_arrival w side guard (with_damage g place value) else w

abbrev pub after_happening : AskingWorld → Happening → AskingWorld
after_happening w (Happens event) = record w { world = world_after w.world event }
after_happening w (Asks side) = after_asking w side
after_happening w (Reaches side guard k) = record w { world = world_reached_by w.world side guard (slice_get (asks_in w side) k) }
after_happening w (ReachesDamaged side guard k place value) =
    record w { world = world_damaged_by w.world side guard place value (slice_get (asks_in w side) k) }

unfoldable pub after_happenings : AskingWorld → List Happening → AskingWorld
after_happenings w [] = w
after_happenings w (happening ∷ list) = after_happenings (after_happening w happening) list

-- nobody has asked yet
abbrev pub asking_world : WorldState → AskingWorld
asking_world w = record { world = w; of_a = []; of_b = [] }

-- what is sent are bytes, and so is what a byte is combined with
abbrev pub IsOfBytes : Happening → Type 0
IsOfBytes (Happens event) = HasBytes event
IsOfBytes (ReachesDamaged side guard k place value) = value < 256
IsOfBytes other = Unit {0}

-- AFTER EVERY LIST of what happens: whatever the Configs of the two ends, however long segments live, whatever number of runs
-- either end keeps, and whether events are refused or not
abbrev pub AfterEvery : (AskingWorld → Type 0) → Type 0
AfterEvery P =
    (life : ℕ) (a b : Config) (runs_a runs_b : ℕ) (list : List Happening) → life ≤ max_life → IsConfig a → IsConfig b
    → AllByRecursion IsOfBytes list → P (after_happenings (asking_world (world_with_runs life a b runs_a runs_b)) list)

-- DAMAGE to a keep-alive is found at the checksum, too, and changes neither end
abbrev pub FindsDamagedAsks : AskingWorld → Type 0
FindsDamagedAsks w =
    (side : Side) (guard : Option ℕ) (k place value : ℕ) → value < 256 → (after_happening w (ReachesDamaged side guard k place value)).world ≡ w.world

-- THE HEADLINE OF ENDS THAT ASK
abbrev pub EveryRunThatAsksIsSafe : Type 0
EveryRunThatAsksIsSafe = AfterEvery (λ (w : AskingWorld). IsSafe w.world × HintsAreTrue w.world × FindsDamage w.world × FindsDamagedAsks w)

-- AS THE CALL: the world is as it was, or as after this side's own call `acknowledge`
abbrev pub IsAsTheCall : WorldState → Side → WorldState → Type 0
IsAsTheCall w side w' = (w' ≡ w) ⊎ (w' ≡ world_after w (Acknowledge side))

-- it takes its peer's text, and its window is open
pub record IsOpen (s : State) : Type 0 where
  pub takes : takes_text s.phase ≡ true
  pub some : 0 < window s.receiving.inbox

-- A KEEP-ALIVE IS A CALL to such an end: what happens is an event of a world in which nobody asks, or nothing
abbrev pub KeepAliveIsACall : Type 0
KeepAliveIsACall =
    AfterEvery (λ (w : AskingWorld). (side : Side) (guard : Option ℕ) (k : ℕ) → IsOpen (party_of w.world (other side)).endpoint
    → IsAsTheCall w.world (other side) (after_happening w (Reaches side guard k)).world)

-- ---- AS FROM A STRANGER: at an open window a keep-alive isn't let in, and no reset waits for anybody but the peer after it; what
-- its arrival makes of an end is what its injection does. So whatever holds among strangers (Among of tcp_replay) holds where what
-- they send are keep-alives
abbrev pub as_injection : PartyState → PartyState → SentSegment → Injection
as_injection from to g = record { src = from.endpoint.config.addr.0; dst = to.endpoint.config.addr.0; bytes = g.bytes }

pub record IsAsInjected (from to : PartyState) (g : SentSegment) : Type 0 where
  pub blind : IsBlind to from (as_injection from to g)
  pub same : party_after_ask None to from g.bytes ≡ party_after_injection to (as_injection from to g)

abbrev pub IsBlindTo : PartyState → PartyState → ℕ → SentSegment → Type 0
IsBlindTo from to life g = is_expired life to.endpoint g ≡ false → 0 < window to.endpoint.receiving.inbox → IsAsInjected from to g

abbrev pub KeepAlivesAreBlind : Type 0
KeepAlivesAreBlind =
    AfterEvery (λ (w : AskingWorld). (side : Side) (k : ℕ) (g : SentSegment) → slice_get (asks_in w side) k ≡ Some g
    → IsBlindTo (party_of w.world side) (party_of w.world (other side)) w.world.life g)
