-- WHAT FOLLOWS for a connection over time (RFC 9293, 3.8.4): which peers are asked, and which are given up.
use Rattle.std.specs.Prelude.{◌≡◌, ℕ, zero, suc, ◌+◌, ◌*◌, ◌<◌, ◌≤◌, Bool, true, List, [], ◌∷◌, length, Option, Some, None, unwrap_or}
use Rattle.tcp_keep_alive.specs.declared.rules.KeepAliveRules.{KeepAliveRules}
use Rattle.tcp_keep_alive.specs.declared.keep_alive.KeepAliveAction.{KeepAliveAction}
use Rattle.tcp_keep_alive.specs.declared.keep_alive.KeepAliveAction.TheVariants.{Nothing, Asks, GivesUp}
use Rattle.tcp_keep_alive.specs.Rules.{bounded}
use Rattle.tcp_keep_alive.specs.KeepAlive.{Asking, new_asking, after_heard, action_at, after_action, deadline_of, latest}

-- a segment of the connection comes at a time; a time is come, and the peer may be asked or not
pub data Happening : Type 0 where
  Heard : ℕ → Happening
  Timeout : ℕ → Bool → Happening

-- these happened one after another, the newest of which comes first
abbrev pub asking_after : Option KeepAliveRules → ℕ → List Happening → Asking
asking_after rules start [] = new_asking rules start
asking_after rules start (Heard now ∷ earlier) = after_heard (asking_after rules start earlier) now
asking_after rules start (Timeout now may_ask ∷ earlier) = after_action (asking_after rules start earlier) now may_ask

-- when the peer was heard last
abbrev pub last_heard : ℕ → List Happening → ℕ
last_heard start [] = start
last_heard start (Heard now ∷ earlier) = now
last_heard start (Timeout now may_ask ∷ earlier) = last_heard start earlier

-- when keep-alives went out since, the newest of which comes first
abbrev pub with_asked_at : KeepAliveAction → ℕ → List ℕ → List ℕ
with_asked_at Asks now asked = now ∷ asked
with_asked_at Nothing now asked = asked
with_asked_at GivesUp now asked = asked

abbrev pub unanswered_of : Option KeepAliveRules → ℕ → List Happening → List ℕ
unanswered_of rules start [] = []
unanswered_of rules start (Heard now ∷ earlier) = []
unanswered_of rules start (Timeout now may_ask ∷ earlier) =
    with_asked_at (action_at (asking_after rules start earlier) now may_ask) now (unanswered_of rules start earlier)

-- OFF: no peer is asked or given up unless a user chose rules, and there is no time to wait for
pub record IsLeftAlone (k : Asking) : Type 0 where
  pub acts : (now : ℕ) (may_ask : Bool) → action_at k now may_ask ≡ Nothing
  pub waits : (may_ask : Bool) → deadline_of k may_ask ≡ None

abbrev pub OffNeverAsks : Type 0
OffNeverAsks = (start : ℕ) (happened : List Happening) → IsLeftAlone (asking_after None start happened)

-- SILENT up to now, since the peer was heard: for the idle time before the first keep-alive, and for an interval behind each
abbrev pub IsSilent : KeepAliveRules → ℕ → ℕ → List ℕ → Type 0
IsSilent r heard now [] = heard + r.idle ≤ now
IsSilent r heard now (asked ∷ earlier) = (asked + r.interval ≤ now) × IsSilent r heard asked earlier

abbrev pub IsSilentAfter : KeepAliveRules → ℕ → List Happening → ℕ → Type 0
IsSilentAfter r start happened now = IsSilent (bounded r) (last_heard start happened) now (unanswered_of (Some r) start happened)

-- ASKED is only a peer that may be, and was silent for so long
pub record IsAskedInTime (r : KeepAliveRules) (start : ℕ) (happened : List Happening) (now : ℕ) (may_ask : Bool) : Type 0 where
  pub may : may_ask ≡ true
  pub silent : IsSilentAfter r start happened now
  pub few : length (unanswered_of (Some r) start happened) < (bounded r).most

abbrev pub AsksOnlyTheSilent : Type 0
AsksOnlyTheSilent =
    (r : KeepAliveRules) (start now : ℕ) (may_ask : Bool) (happened : List Happening)
    → action_at (asking_after (Some r) start happened) now may_ask ≡ Asks → IsAskedInTime r start happened now may_ask

-- GIVEN UP is only a peer that left as many keep-alives unanswered as the rules say, two or more, each for an interval: so it
-- was silent for that long
pub record IsGivenUpInTime (r : KeepAliveRules) (start : ℕ) (happened : List Happening) (now : ℕ) (may_ask : Bool) : Type 0 where
  pub may : may_ask ≡ true
  pub silent : IsSilentAfter r start happened now
  pub all : length (unanswered_of (Some r) start happened) ≡ (bounded r).most
  pub several : 2 ≤ length (unanswered_of (Some r) start happened)
  pub since : last_heard start happened + (bounded r).idle + (bounded r).most * (bounded r).interval ≤ now

abbrev pub GivesUpOnlyTheDead : Type 0
GivesUpOnlyTheDead =
    (r : KeepAliveRules) (start now : ℕ) (may_ask : Bool) (happened : List Happening)
    → action_at (asking_after (Some r) start happened) now may_ask ≡ GivesUp → IsGivenUpInTime r start happened now may_ask

-- A PEER THAT IS GONE: nothing is heard of it, it may be asked at any time, and each time is kept. What is known then after so many
-- times
abbrev pub after_its_time : Asking → Asking
after_its_time k = after_action k (unwrap_or (deadline_of k true) 0) true

abbrev pub after_times : Asking → ℕ → Asking
after_times k zero = k
after_times k (suc n) = after_its_time (after_times k n)

-- the time of the next keep-alive behind n of them
abbrev pub due_at : KeepAliveRules → ℕ → ℕ → ℕ
due_at r heard n = heard + r.idle + n * r.interval

-- it is asked as often as the rules say, each time when it is due, and then given up
pub record IsOnTime (r : KeepAliveRules) (heard n : ℕ) (k : Asking) : Type 0 where
  pub time : deadline_of k true ≡ Some (due_at r heard n)
  pub asks : n < r.most → action_at k (due_at r heard n) true ≡ Asks
  pub gives_up : n ≡ r.most → action_at k (due_at r heard n) true ≡ GivesUp

abbrev pub TheDeadAreGivenUp : Type 0
TheDeadAreGivenUp =
    (r : KeepAliveRules) (heard n : ℕ) → due_at (bounded r) heard (bounded r).most ≤ latest → n ≤ (bounded r).most
    → IsOnTime (bounded r) heard n (after_times (new_asking (Some r) heard) n)
