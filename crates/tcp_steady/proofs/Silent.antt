-- What its keep-alives know is what was heard, and which times have passed: so the laws of keep-alives hold of a connection.
use Rattle.std.proofs.Common.{◌≡◌, ℕ, Bool, true, false, List, [], ◌∷◌, Option, Some, None, refl, sym, ap, ◌∙◌}
use Rattle.std.specs.Prelude.{if◌then◌else◌}
use Rattle.std.specs.List.{list_all}
use Rattle.tcp_steady.proofs.Both.{first, second}
use Rattle.tcp_congestion.specs.Control.{Control}
use Rattle.tcp_driver.specs.declared.machine.Timer.{Timer}
use Rattle.tcp_driver.specs.declared.machine.Timer.TheVariants.{User}
use Rattle.tcp_keep_alive.specs.declared.keep_alive.KeepAliveAction.{KeepAliveAction}
use Rattle.tcp_keep_alive.specs.declared.keep_alive.KeepAliveAction.TheVariants.{Asks, GivesUp, Nothing}
use Rattle.tcp_keep_alive.specs.declared.rules.KeepAliveRules.{KeepAliveRules}
use Rattle.tcp_keep_alive.specs.KeepAlive.{Asking, action_at, after_action, after_heard, new_asking}
use Rattle.tcp_keep_alive.specs.Silence as keep_alive
use Rattle.tcp_keep_alive.specs.Silence.{Happening, Heard, asking_after}
use Rattle.tcp_steady.specs.declared.steady.Steady.{Steady}
use Rattle.tcp_steady.specs.Steady.{action_of, after_timer, arrival_answer_of, asked_after, first_of, first_train_of, is_heard, may_ask_of, sent_first, timed, timer_by, timer_of, timer_told, train_first, with_keep_alive}
use Rattle.tcp_steady.specs.Calls.{AsksOnlyTheSilent, AsksOnlyTheSilentAsOne, Calls, Comes, GivesUpOnlyTheDead, Goes, GoesAsOne, Passes, SteadyCall, after_call, after_calls, happened, happened_by, heard_since, leaves_keep_alive, passed, SetsKeepAlive, SetsPacing, since}

heard-by : (heard : Bool) (k : Asking) (rules : Option KeepAliveRules) (start now : ℕ) (earlier : List Happening) → k ≡ asking_after rules start earlier
    → (if heard then after_heard k now else k) ≡ asking_after rules start (if heard then Heard now ∷ earlier else earlier)
heard-by true k rules start now earlier e = ap (λ (k : Asking). after_heard k now) e
heard-by false k rules start now earlier e = e

given-up : (action : KeepAliveAction) → timer_by action ≡ Some User → action ≡ GivesUp
given-up GivesUp e = refl
given-up Asks e = absurd (cc)
given-up Nothing e = absurd (cc)

-- where nothing else goes out a time has passed
passed-by : {T : Type 0} (sent : Option T) (k : Asking) (rules : Option KeepAliveRules) (start now : ℕ) (may_ask : Bool) (earlier : List Happening)
    → k ≡ asking_after rules start earlier → asked_after sent k now may_ask ≡ asking_after rules start (passed sent now may_ask earlier)
passed-by (Some sent) k rules start now may_ask earlier e = e
passed-by None k rules start now may_ask earlier e = ap (λ (k : Asking). after_action k now may_ask) e

-- and the time alone changes nothing
rests-by : {W B A : Type 0} (timer : Option Timer) (t : Steady W B A) (now : ℕ) → (after_timer timer t now).keep_alive ≡ t.keep_alive
rests-by (Some timer) t now = refl
rests-by None t now = refl

module _ {W B A : Type 0} (c : Control W) where
  kept-by : (s : Steady W B A) (rules : Option KeepAliveRules) (start : ℕ) (earlier : List Happening) (call : SteadyCall B W)
      → leaves_keep_alive call ≡ true → s.keep_alive ≡ asking_after rules start earlier
      → (after_call c s call).keep_alive ≡ asking_after rules start (happened_by c s call earlier)
  kept-by s rules start earlier (Comes now src dst bytes vouched) leaves e =
      heard-by (is_heard (arrival_answer_of s src dst bytes vouched)) s.keep_alive rules start now earlier e
  kept-by s rules start earlier (Goes now window) leaves e =
      passed-by (sent_first c s now window) s.keep_alive rules start now (may_ask_of (first_of c s now window)) earlier e
  kept-by s rules start earlier (GoesAsOne now window most room) leaves e =
      passed-by (train_first c s now window most room) s.keep_alive rules start now (may_ask_of (first_train_of c s now window most room)) earlier e
  kept-by s rules start earlier (Passes now) leaves e = rests-by (timer_of s now) (timed c s now) now ∙ e
  kept-by s rules start earlier (SetsKeepAlive chosen now) leaves e = absurd (cc)
  kept-by s rules start earlier (SetsPacing is_on) leaves e = e
  kept-by s rules start earlier (Calls call) leaves e = e

  kept : (s : Steady W B A) (rules : Option KeepAliveRules) (start : ℕ) → s.keep_alive ≡ new_asking rules start → (calls : List (SteadyCall B W))
      → list_all leaves_keep_alive calls ≡ true
      → (after_calls c s calls).keep_alive ≡ asking_after rules start (happened c s calls)
  kept s rules start new [] leave = new
  kept s rules start new (call ∷ earlier) leave =
      kept-by (after_calls c s earlier) rules start (happened c s earlier) call (first (leaves_keep_alive call) (list_all leaves_keep_alive earlier) leave)
      (kept s rules start new earlier (second (leaves_keep_alive call) (list_all leaves_keep_alive earlier) leave))

  -- what has to be done is what the keep-alives say of what was heard
  acts : (s : Steady W B A) (r : KeepAliveRules) (start now : ℕ) (calls : List (SteadyCall B W)) (may_ask : Bool) (action : KeepAliveAction)
      → list_all leaves_keep_alive calls ≡ true → action_at (since c s r start calls).keep_alive now may_ask ≡ action
      → action_at (asking_after (Some r) start (heard_since c s r start calls)) now may_ask ≡ action
  acts s r start now calls may_ask action leave e =
      sym (ap (λ (k : Asking). action_at k now may_ask) (kept (with_keep_alive s (Some r) start) (Some r) start refl calls leave)) ∙ e

  pub gives_up_lem : keep_alive.GivesUpOnlyTheDead → GivesUpOnlyTheDead B A c
  gives_up_lem law s r start now calls leave none is =
      let t = timed c (since c s r start calls) now in
      let told : timer_by (action_of t now) ≡ Some User = sym (ap (λ (o : Option Timer). timer_told o t now) none) ∙ is in
      law r start now (may_ask_of t) (heard_since c s r start calls) (acts s r start now calls (may_ask_of t) GivesUp leave (given-up (action_of t now) told))

  pub asks_lem : keep_alive.AsksOnlyTheSilent → AsksOnlyTheSilent B A c
  asks_lem law s r start now window calls leave none is =
      let may = may_ask_of (first_of c (since c s r start calls) now window) in
      law r start now may (heard_since c s r start calls) (acts s r start now calls may Asks leave is)

  pub as_one_lem : keep_alive.AsksOnlyTheSilent → AsksOnlyTheSilentAsOne B A c
  as_one_lem law s r start now window most room calls leave none is =
      let may = may_ask_of (first_train_of c (since c s r start calls) now window most room) in
      law r start now may (heard_since c s r start calls) (acts s r start now calls may Asks leave is)
