-- HALF TURNS GET THROUGH (RFC 9293, 3.8): two hosts with clocks of their own, each of which may send one segment and no more
-- after a retransmission timeout (RFC 5681, 3.1). Each does half of a turn (`IsTurn`), when its own timer expires. Who isn't on
-- the path between them sends what it likes meanwhile (RFC 5961, 1).
use Rattle.std.specs.Prelude.{◌≡◌, ◌&&◌, false, ℕ, zero, suc, ◌≤◌, true, List, [], ◌∷◌, ◌++◌, length, Some, None, IfSome, ◌⊎◌}
use Rattle.tcp_conn.specs.declared.emit.due.Due.{Due}
use Rattle.tcp_conn.specs.declared.phase.Timer.TheVariants.{Retransmit}
use Rattle.tcp_conn.specs.Due.{ack_alone, due_of, start_of}
use Rattle.tcp_conn.specs.State.{State}
use Rattle.tcp_conn.specs.Timers.{after_timer}
use Rattle.tcp_replay.specs.declared.event.Side.{Side}
use Rattle.tcp_replay.specs.Among.{Happening, Happens, Injects, IsBlind, after_happening, after_happenings}
use Rattle.tcp_replay.specs.Events.{EventContent, Timer, Emit, EmitAcknowledgement, Deliver}
use Rattle.tcp_replay.specs.World.{WorldState, PartyState, party_of, other}
use Rattle.tcp_progress.specs.Everywhere.{InEveryWorld}
use Rattle.tcp_progress.specs.Fair.{IsCalm, GotThrough, NoneDiscarded}
use Rattle.tcp_progress.specs.Measure.{left_in}
use Rattle.tcp_progress.specs.Settled.{IsLive}

-- the end of a side, and how many segments it has sent
abbrev pub endpoint_at : WorldState → Side → State
endpoint_at w side = (party_of w side).endpoint

abbrev pub count_sent : WorldState → Side → ℕ
count_sent w side = length (party_of w side).sent

-- ---- CALM: a calm event, or an injection that is blind when it comes
abbrev pub IsCalmNow : WorldState → Happening → Type 0
IsCalmNow w (Happens event) = IsCalm event
IsCalmNow w (Injects side i) = IsBlind (party_of w side) (party_of w (other side)) i

abbrev pub AreCalm : WorldState → List Happening → Type 0
AreCalm w [] = Unit {0}
AreCalm w (happening ∷ list) = IsCalmNow w happening × AreCalm (after_happening w happening) list

-- the k-th segment of a side arrives among these happenings
abbrev pub Arrives : Side → ℕ → List Happening → Type 0
Arrives side k [] = ⊥
Arrives side k (happening ∷ list) = (happening ≡ Happens (Deliver side k)) ⊎ Arrives side k list

-- ---- WHAT AN EVENT SENDS: a side emits what is due (RFC 9293, 3.8), or its acknowledgement alone (3.8.6.3)
abbrev pub SendsAt : WorldState → Side → EventContent → Due → Type 0
SendsAt w side event due =
    ((event ≡ Emit side) × (due_of (endpoint_at w side) ≡ Some due)) ⊎ ((event ≡ EmitAcknowledgement side) × (ack_alone (endpoint_at w side) ≡ Some due))

-- AN ANSWER ARRIVES: among these happenings the side sends something that begins at SND.NXT, an acknowledgement alone or new text
-- or the FIN, and nothing that is sent again; and it is delivered later (RFC 9293, 3.10.7.4)
pub record AnswerArrives (side : Side) (w : WorldState) (list : List Happening) : Type 0 where
  pub before : List Happening
  pub answer : EventContent
  pub after : List Happening
  pub form : list ≡ before ++ (Happens answer ∷ after)
  pub due : Due
  pub sends : SendsAt (after_happenings w before) side answer due
  pub at : start_of (endpoint_at (after_happenings w before) side).sending due ≡ (endpoint_at (after_happenings w before) side).sending.snd_nxt
  pub arrives : Arrives side (count_sent (after_happenings w before) side) after

-- A SEGMENT IS ANSWERED: the side's k-th segment arrives among them; and where an acknowledgement is then pending at the
-- other side, an answer of that side arrives
pub record SegmentIsAnswered (side : Side) (k : ℕ) (w : WorldState) (list : List Happening) : Type 0 where
  pub before : List Happening
  pub after : List Happening
  pub form : list ≡ before ++ (Happens (Deliver side k) ∷ after)
  pub answered : (endpoint_at (after_happenings w (before ++ (Happens (Deliver side k) ∷ []))) (other side)).pending.ack ≡ true
      → AnswerArrives (other side) (after_happenings w (before ++ (Happens (Deliver side k) ∷ []))) after

-- ---- A HALF TURN of a side is among them: its retransmission timeout expires (RFC 9293, 3.8.1 and 3.10.8), while no reset
-- waits there, and at once it emits. What goes out, if anything does, is answered. Nothing is said of all else: whatever
-- comes before, between and after, also timers of either side, and segments that are lost
abbrev pub timeout : Side → List Happening
timeout side = Happens (Timer side Retransmit) ∷ (Happens (Emit side) ∷ [])

pub record HasHalfTurn (side : Side) (w : WorldState) (list : List Happening) : Type 0 where
  pub before : List Happening
  pub after : List Happening
  pub form : list ≡ before ++ (timeout side ++ after)
  pub no_reset : (endpoint_at (after_happenings w before) side).pending.reset ≡ None
  pub answered : IfSome (due_of (after_timer (endpoint_at (after_happenings w before) side) Retransmit))
      (λ due. SegmentIsAnswered side (count_sent (after_happenings w before) side) (after_happenings w (before ++ timeout side)) after)

-- a user has read all, and the end of the stream where it came (RFC 9293, 3.9.1, RECEIVE)
pub record HasReadAll (p : PartyState) : Type 0 where
  pub all : p.endpoint.receiving.inbox.unread ≡ []
  pub ended : p.endpoint.receiving.finished ≡ true → p.ended ≡ true

-- ---- A PAIR OF HALF TURNS, one of each side: one after the other, interleaved, or one within the other. All that happens is
-- calm, and at its start both users have read all
pub record HasBothHalves (w : WorldState) (list : List Happening) : Type 0 where
  pub calm : AreCalm w list
  pub read : (side : Side) → HasReadAll (party_of w side)
  pub half : (side : Side) → HasHalfTurn side w list

-- THIS MANY PAIRS are in a list, one after another, with whatever is calm before, between and after them
abbrev pub HasHalves : ℕ → WorldState → List Happening → Type 0
HasHalves zero w list = AreCalm w list
HasHalves (suc n) w list =
    (before : List Happening) × (pair : List Happening) × (after : List Happening) × (list ≡ before ++ (pair ++ after))
    × AreCalm w before × HasBothHalves (after_happenings w before) pair × HasHalves n (after_happenings (after_happenings w before) pair) after

-- NOT BOTH ARE FULL: one of the users didn't close, or one of the ends has room for two bytes. Otherwise each may have sent one
-- byte and its FIN, which goes out whatever the window, and have taken the other's byte. Then SND.NXT lies behind the window of
-- either, where no acknowledgement is acceptable (3.10.7.4, first), and the first segment after a timeout is the old byte
abbrev pub HaveRoom : WorldState → Type 0
HaveRoom w = ((w.a.closed && w.b.closed) ≡ false) ⊎ ((2 ≤ w.a.endpoint.config.recv_capacity) ⊎ (2 ≤ w.b.endpoint.config.recv_capacity))

-- GETS THROUGH, with two pairs more than what is left, unless an end is reset
abbrev pub GetsThroughByHalves : WorldState → Type 0
GetsThroughByHalves w =
    IsLive w.a → IsLive w.b → HaveRoom w → (list : List Happening) → HasHalves (suc (suc (left_in w))) w list
    → NoneDiscarded (after_happenings w list) → GotThrough w (after_happenings w list)

-- THERE ARE PAIRS, any number of them, in which no end is reset or aborted
pub record CanHaveHalves (n : ℕ) (w : WorldState) : Type 0 where
  pub list : List Happening
  pub halves : HasHalves n w list
  pub stays : NoneDiscarded (after_happenings w list)

-- ---- THE LAWS, in every world that any list of events leads to
abbrev pub HalfTurnsGetThrough : Type 0
HalfTurnsGetThrough = InEveryWorld GetsThroughByHalves

-- so the claim isn't empty
abbrev pub HalvesCanBeHad : Type 0
HalvesCanBeHad = InEveryWorld (λ w. IsLive w.a → IsLive w.b → (n : ℕ) → CanHaveHalves n w)
