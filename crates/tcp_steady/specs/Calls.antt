-- WHAT FOLLOWS, whatever is called.
use Rattle.std.specs.Prelude.{◌≡◌, ℕ, Bool, true, false, not, if◌then◌else◌, List, [], ◌∷◌, Option, Some, None, flat_map}
use Rattle.std.specs.List.{list_all}
use Rattle.tcp_congestion.specs.Control.{Control}
use Rattle.tcp_driver.specs.declared.machine.Timer.{Timer}
use Rattle.tcp_driver.specs.declared.machine.Timer.TheVariants.{User}
use Rattle.tcp_driver.specs.Driver.{arrival_answer, way_of}
use Rattle.tcp_conn.specs.TrainWithin.{train_within}
use Rattle.tcp_connection.specs.Calls.{Uses}
use Rattle.tcp_connection.specs.Wired.{insight}
use Rattle.tcp_end.specs.declared.wired.Wired.{Wired}
use Rattle.tcp_end.specs.Wired.{intake_of, machine, taken_of}
use Rattle.tcp_flow.specs.Wired.{numbers_of}
use Rattle.tcp_keep_alive.specs.declared.keep_alive.KeepAliveAction.{KeepAliveAction}
use Rattle.tcp_keep_alive.specs.declared.keep_alive.KeepAliveAction.TheVariants.{Asks, GivesUp, Nothing}
use Rattle.tcp_keep_alive.specs.declared.rules.KeepAliveRules.{KeepAliveRules}
use Rattle.tcp_keep_alive.specs.Silence.{Happening, Heard, IsAskedInTime, IsGivenUpInTime, Timeout}
use Rattle.tcp_repair.specs.Calls.{RepairCall, after_repair_call}
use Rattle.tcp_repair.specs.Calls as repair_calls
use Rattle.tcp_repair.specs.Repairing as repair
use Rattle.tcp_repair.specs.Repairing.{Repaired}
use Rattle.tcp_repair.specs.Wired.{reports, start_of}
use Rattle.tcp_steady.specs.declared.steady.Steady.{Steady}
use Rattle.tcp_steady.specs.Steady.{action_of, after_arriving, after_emit, after_tick, after_train, agreed, arrival_answer_of, expired, first_of, first_train_of, is_heard, may_ask_of, next_call, paced_window, sent_by_emit, sent_first, timed, timer_of, train_by_emit, train_first, with_keep_alive, with_pacing, with_repairing, written_by_emit, written_by_train}

-- what is called: an arrival, an emission, one of segments as one, and time; keep-alives that are turned on or off, and pacing; and
-- any other call, which is the connection's alone
pub data SteadyCall (B W : Type 0) : Type 0 where
  Comes : ℕ → List ℕ → List ℕ → List ℕ → Bool → SteadyCall B W
  Goes : ℕ → ℕ → SteadyCall B W
  GoesAsOne : ℕ → ℕ → ℕ → ℕ → SteadyCall B W
  Passes : ℕ → SteadyCall B W
  SetsKeepAlive : Option KeepAliveRules → ℕ → SteadyCall B W
  SetsPacing : Bool → SteadyCall B W
  Calls : RepairCall (Wired B) W → SteadyCall B W

module _ {W B : Type 0} (c : Control W) where
  -- a call of the connection, and calls of it, THE NEWEST FIRST
  abbrev pub after_one : Repaired (Wired B) W → RepairCall (Wired B) W → Repaired (Wired B) W
  after_one r call = after_repair_call machine insight agreed (λ w window most room. train_within w.end window most room) start_of numbers_of c reports r call

  abbrev pub after_all : Repaired (Wired B) W → List (RepairCall (Wired B) W) → Repaired (Wired B) W
  after_all r [] = r
  after_all r (call ∷ earlier) = after_one (after_all r earlier) call

-- ---- A CALL THAT LEAVES KEEP-ALIVES neither turns them on nor off: with either they count anew
abbrev pub leaves_keep_alive : {B W : Type 0} → SteadyCall B W → Bool
leaves_keep_alive (SetsKeepAlive rules now) = false
leaves_keep_alive other = true

-- and one that leaves both off turns neither them on, nor pacing
abbrev pub leaves_off : {B W : Type 0} → SteadyCall B W → Bool
leaves_off (SetsKeepAlive (Some rules) now) = false
leaves_off (SetsPacing is_on) = not is_on
leaves_off other = true

-- THE SAME CALL of the connection, where it has one
abbrev pub same_calls : {B W : Type 0} → SteadyCall B W → List (RepairCall (Wired B) W)
same_calls (Comes now src dst bytes vouched) = repair_calls.Comes now src dst bytes vouched ∷ []
same_calls (Goes now window) = repair_calls.Goes now window ∷ []
same_calls (GoesAsOne now window most room) = repair_calls.GoesAsOne now window most room ∷ []
same_calls (Passes now) = repair_calls.Passes now ∷ []
same_calls (SetsKeepAlive rules now) = []
same_calls (SetsPacing is_on) = []
same_calls (Calls call) = call ∷ []

-- ---- A PEER THAT IS GIVEN UP is a connection that its user aborts
abbrev pub abort_if : {B W : Type 0} → Option Timer → KeepAliveAction → ℕ → List (RepairCall (Wired B) W) → List (RepairCall (Wired B) W)
abort_if (Some timer) action now calls = calls
abort_if None GivesUp now calls = repair_calls.Calls (Uses now (λ w. machine.aborted w)) ∷ calls
abort_if None Asks now calls = calls
abort_if None Nothing now calls = calls

-- ---- A TIME PASSES for the keep-alives where nothing else goes out
abbrev pub passed : {T : Type 0} → Option T → ℕ → Bool → List Happening → List Happening
passed (Some sent) now may_ask happened = happened
passed None now may_ask happened = Timeout now may_ask ∷ happened

-- ---- WITHOUT KEEP-ALIVES, AND UNPACED, it is the connection
pub record IsOff {W B A : Type 0} (s : Steady W B A) : Type 0 where
  pub rules : s.keep_alive.rules ≡ None
  pub unpaced : s.pacer.is_on ≡ false

module _ {W B A : Type 0} (c : Control W) where
  abbrev pub after_call : Steady W B A → SteadyCall B W → Steady W B A
  after_call s (Comes now src dst bytes vouched) = after_arriving c s now src dst bytes vouched
  after_call s (Goes now window) = after_emit c s now window
  after_call s (GoesAsOne now window most room) = after_train c s now window most room
  after_call s (Passes now) = after_tick c s now
  after_call s (SetsKeepAlive rules now) = with_keep_alive s rules now
  after_call s (SetsPacing is_on) = with_pacing s is_on
  after_call s (Calls call) = with_repairing s (after_one c s.repairing call)

  -- calls, THE NEWEST FIRST
  abbrev pub after_calls : Steady W B A → List (SteadyCall B W) → Steady W B A
  after_calls s [] = s
  after_calls s (call ∷ earlier) = after_call (after_calls s earlier) call

  -- THE CONNECTION'S CALLS that a call makes: an emission within the window that the pacer leaves of the caller's; none where
  -- keep-alives or pacing are chosen
  abbrev pub calls_of : Steady W B A → SteadyCall B W → List (RepairCall (Wired B) W)
  calls_of s (Comes now src dst bytes vouched) = repair_calls.Comes now src dst bytes vouched ∷ []
  calls_of s (Goes now window) = repair_calls.Goes now (paced_window c s now window) ∷ []
  calls_of s (GoesAsOne now window most room) = repair_calls.GoesAsOne now (paced_window c s now window) most room ∷ []
  calls_of s (Passes now) = abort_if (timer_of s now) (action_of (timed c s now) now) now (repair_calls.Passes now ∷ [])
  calls_of s (SetsKeepAlive rules now) = []
  calls_of s (SetsPacing is_on) = []
  calls_of s (Calls call) = call ∷ []

  -- what each call answers and writes, and what it makes of the connection
  pub record IsConnection (s : Steady W B A) : Type 0 where
    pub next : next_call s ≡ repair.next_call machine agreed reports s.repairing
    pub expires : (now : ℕ) → expired c s now ≡ timer_of s now
    pub passes : (now : ℕ) → (after_tick c s now).repairing ≡ (timed c s now).repairing
    pub sends : (now window : ℕ) → sent_by_emit c s now window ≡ repair.sent_by_emit machine insight agreed c reports s.repairing now window
    pub writes : (now window : ℕ) (out : List ℕ)
        → written_by_emit c s now window out ≡ repair.written_by_emit machine insight agreed c reports s.repairing now window out
    pub goes : (now window : ℕ) → (after_emit c s now window).repairing ≡ repair.after_emit machine insight agreed c reports s.repairing now window
    pub sends_as_one : (now window most room : ℕ)
        → train_by_emit c s now window most room
        ≡ repair.train_by_emit machine insight agreed (λ w window most room. train_within w.end window most room) c reports s.repairing now window most room
    pub writes_as_one : (now window most : ℕ) (out : List ℕ)
        → written_by_train c s now window most out ≡ repair.written_by_train machine insight agreed c reports s.repairing now window most out
    pub goes_as_one : (now window most room : ℕ)
        → (after_train c s now window most room).repairing
        ≡ repair.after_train machine insight agreed (λ w window most room. train_within w.end window most room) start_of numbers_of c reports s.repairing now
        window most room
    pub answers : (src dst bytes : List ℕ) (vouched : Bool)
        → arrival_answer_of s src dst bytes vouched
        ≡ arrival_answer machine (λ w src dst bytes way. taken_of (intake_of way) w.end src dst bytes) s.repairing.connecting.flowing.driving src dst bytes
        (way_of s.repairing.connecting.flowing.driving vouched)
    pub comes : (now : ℕ) (src dst bytes : List ℕ) (vouched : Bool)
        → (after_arriving c s now src dst bytes vouched).repairing
        ≡ repair.after_arriving machine insight agreed c reports s.repairing now src dst bytes vouched

  -- and behind calls it is off still, and the connection as behind the same ones
  pub record IsLeftOff (s : Steady W B A) (calls : List (SteadyCall B W)) : Type 0 where
    pub off : IsOff (after_calls s calls)
    pub same : (after_calls s calls).repairing ≡ after_all c s.repairing (flat_map same_calls calls)

  -- ---- WHAT ITS KEEP-ALIVES HEAR of a call, nothing yet where they are turned on or off; and of calls, THE NEWEST FIRST
  abbrev pub happened_by : Steady W B A → SteadyCall B W → List Happening → List Happening
  happened_by s (Comes now src dst bytes vouched) happened = if is_heard (arrival_answer_of s src dst bytes vouched) then Heard now ∷ happened else happened
  happened_by s (Goes now window) happened = passed (sent_first c s now window) now (may_ask_of (first_of c s now window)) happened
  happened_by s (GoesAsOne now window most room) happened =
      passed (train_first c s now window most room) now (may_ask_of (first_train_of c s now window most room)) happened
  happened_by s (Passes now) happened = happened
  happened_by s (SetsKeepAlive rules now) happened = []
  happened_by s (SetsPacing is_on) happened = happened
  happened_by s (Calls call) happened = happened

  abbrev pub happened : Steady W B A → List (SteadyCall B W) → List Happening
  happened s [] = []
  happened s (call ∷ earlier) = happened_by (after_calls s earlier) call (happened s earlier)

  -- keep-alives are on by these rules from this time on, and these calls were made since
  abbrev pub since : Steady W B A → KeepAliveRules → ℕ → List (SteadyCall B W) → Steady W B A
  since s r start calls = after_calls (with_keep_alive s (Some r) start) calls

  abbrev pub heard_since : Steady W B A → KeepAliveRules → ℕ → List (SteadyCall B W) → List Happening
  heard_since s r start calls = happened (with_keep_alive s (Some r) start) calls

-- ---- WHATEVER IS CALLED, the connection inside is as after these calls of its own, so that each law of it holds
abbrev pub SteadyIsRepairing : {W : Type 0} → (B A : Type 0) → Control W → Type 0
SteadyIsRepairing {W = W} B A c =
    (s : Steady W B A) (call : SteadyCall B W) → (after_call c s call).repairing ≡ after_all c s.repairing (calls_of c s call)

-- OFF, each call is the connection's; and it stays off whatever is called that turns on neither keep-alives nor pacing
abbrev pub OffIsConnection : {W : Type 0} → (B A : Type 0) → Control W → Type 0
OffIsConnection {W = W} B A c = (s : Steady W B A) → IsOff s → IsConnection c s

abbrev pub OffStaysOff : {W : Type 0} → (B A : Type 0) → Control W → Type 0
OffStaysOff {W = W} B A c = (s : Steady W B A) (calls : List (SteadyCall B W)) → IsOff s → list_all leaves_off calls ≡ true → IsLeftOff c s calls

-- SINCE KEEP-ALIVES WERE TURNED ON, by rules at a time, any calls but those that turn them on or off: with these they count anew. The
-- state at which they were turned on is any, so whatever was called before, too; pacing may be chosen meanwhile.
-- GIVEN UP is only a peer that left as many keep-alives unanswered as the rules say, two or more, each for an interval
abbrev pub GivesUpOnlyTheDead : {W : Type 0} → (B A : Type 0) → Control W → Type 0
GivesUpOnlyTheDead {W = W} B A c =
    (s : Steady W B A) (r : KeepAliveRules) (start now : ℕ) (calls : List (SteadyCall B W)) → list_all leaves_keep_alive calls ≡ true
    → timer_of (since c s r start calls) now ≡ None
    → expired c (since c s r start calls) now ≡ Some User
    → IsGivenUpInTime r start (heard_since c s r start calls) now (may_ask_of (timed c (since c s r start calls) now))

-- ASKED is only a peer that may be, and of which nothing was heard for the idle time, nor for an interval behind each keep-alive
abbrev pub AsksOnlyTheSilent : {W : Type 0} → (B A : Type 0) → Control W → Type 0
AsksOnlyTheSilent {W = W} B A c =
    (s : Steady W B A) (r : KeepAliveRules) (start now window : ℕ) (calls : List (SteadyCall B W)) → list_all leaves_keep_alive calls ≡ true
    → sent_first c (since c s r start calls) now window ≡ None
    → action_of (first_of c (since c s r start calls) now window) now ≡ Asks
    → IsAskedInTime r start (heard_since c s r start calls) now (may_ask_of (first_of c (since c s r start calls) now window))

-- and so by segments as one
abbrev pub AsksOnlyTheSilentAsOne : {W : Type 0} → (B A : Type 0) → Control W → Type 0
AsksOnlyTheSilentAsOne {W = W} B A c =
    (s : Steady W B A) (r : KeepAliveRules) (start now window most room : ℕ) (calls : List (SteadyCall B W)) → list_all leaves_keep_alive calls ≡ true
    → train_first c (since c s r start calls) now window most room ≡ None
    → action_of (first_train_of c (since c s r start calls) now window most room) now ≡ Asks
    → IsAskedInTime r start (heard_since c s r start calls) now (may_ask_of (first_train_of c (since c s r start calls) now window most room))
