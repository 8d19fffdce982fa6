-- Without keep-alives, and unpaced, it is the connection, and stays so.
use Rattle.std.proofs.Common.{◌≡◌, ℕ, ◌+◌, Bool, true, false, List, [], ◌∷◌, ◌++◌, Option, Some, None, refl, ap, ◌∙◌}
use Rattle.std.specs.Prelude.{if◌then◌else◌, flat_map, is_some, length}
use Rattle.std.specs.List.{list_all}
use Rattle.tcp_steady.proofs.Both.{first, second}
use Rattle.tcp_congestion.specs.Control.{Control}
use Rattle.tcp_driver.specs.declared.machine.Timer.{Timer}
use Rattle.tcp_driver.specs.Deadlines.{earlier}
use Rattle.tcp_conn.specs.TrainWithin.{train_within}
use Rattle.tcp_connection.specs.Wired.{insight}
use Rattle.tcp_end.specs.declared.wired.Wired.{Wired}
use Rattle.tcp_end.specs.Wired.{machine}
use Rattle.tcp_flow.specs.Wired.{numbers_of}
use Rattle.tcp_keep_alive.specs.declared.keep_alive.KeepAliveAction.{KeepAliveAction}
use Rattle.tcp_keep_alive.specs.declared.keep_alive.KeepAliveAction.TheVariants.{Asks, GivesUp, Nothing}
use Rattle.tcp_keep_alive.specs.declared.rules.KeepAliveRules.{KeepAliveRules}
use Rattle.tcp_keep_alive.specs.Asking.{keep_alive_due, partial_due}
use Rattle.tcp_keep_alive.specs.KeepAlive.{Asking, action_at, action_by, after, after_heard, deadline_by, deadline_of}
use Rattle.tcp_pacing.specs.declared.pace.Pace.{Pace}
use Rattle.tcp_pacing.specs.Pacer.{Pacing, allowed, begins, poll_at, with_portion}
use Rattle.tcp_repair.specs.Calls.{RepairCall}
use Rattle.tcp_repair.specs.Repairing as repair
use Rattle.tcp_repair.specs.Repairing.{Repaired}
use Rattle.tcp_repair.specs.Wired.{reports, start_of}
use Rattle.tcp_steady.specs.declared.steady.Steady.{Steady}
use Rattle.tcp_steady.specs.Steady.{action_of, after_timer, agreed, arrival_answer_of, asked_after, asked_pacer, asking_deadline, bounded_by, end_of, first_of, first_train_of, flight_of, if_asks, is_heard, keep_alive_sent, keep_alive_train, may_ask_of, pace_of, paced_window, repaired_after_emit, repaired_after_train, repairing_by, sent_first, sent_or, timed, timer_by, timer_of, timer_told, told_pacer, train_first, train_written_first, unsent_of, written_by, written_first, written_or}
use Rattle.tcp_steady.specs.Calls.{Calls, Comes, Goes, GoesAsOne, IsOff, OffIsConnection, OffStaysOff, Passes, SetsKeepAlive, SetsPacing, SteadyCall, after_all, after_call, after_calls, leaves_off, same_calls}

no-portion : (p : Pacing) → p.is_on ≡ false → poll_at p ≡ None
no-portion p off = ap (λ (b : Bool). if b then (if p.is_held then Some p.next_at else None) else None) off

no-question : (k : Asking) (may_ask : Bool) → k.rules ≡ None → deadline_of k may_ask ≡ None
no-question k true off = ap (λ (rules : Option KeepAliveRules). deadline_by k rules) off
no-question k false off = refl

no-action : (k : Asking) (rules : Option KeepAliveRules) (at : Option ℕ) (now : ℕ) → rules ≡ None → action_by k rules at now ≡ Nothing
no-action k None at now off = refl
no-action k (Some r) at now off = absurd (cc)

not-asked : {T : Type 0} (sent due : Option T) (action : KeepAliveAction) → action ≡ Nothing → sent_or sent action due ≡ sent
not-asked None due action off = ap (λ (a : KeepAliveAction). if_asks a due) off
not-asked (Some sent) due action off = refl

not-written : {T : Type 0} (sent : Option T) (due : Option (List ℕ)) (action : KeepAliveAction) (out : List ℕ) → action ≡ Nothing → written_or sent action due out ≡ out
not-written None due action out off = ap (λ (a : KeepAliveAction). written_by a due out) off
not-written (Some sent) due action out off = refl

-- ---- WHAT NO CALL TURNS ON but the two that do
heard-rules : (heard : Bool) (k : Asking) (now : ℕ) → (if heard then after_heard k now else k).rules ≡ k.rules
heard-rules true k now = refl
heard-rules false k now = refl

after-rules : (action : KeepAliveAction) (k : Asking) (now : ℕ) → (after action k now).rules ≡ k.rules
after-rules Asks k now = refl
after-rules Nothing k now = refl
after-rules GivesUp k now = refl

asked-rules : {T : Type 0} (sent : Option T) (k : Asking) (now : ℕ) (may_ask : Bool) → (asked_after sent k now may_ask).rules ≡ k.rules
asked-rules (Some sent) k now may_ask = refl
asked-rules None k now may_ask = after-rules (action_at k now may_ask) k now

asked-on : (b : Bool) (p : Pacing) (now : ℕ) (pace : Pace) → (if b then with_portion p now pace else p).is_on ≡ p.is_on
asked-on true p now pace = refl
asked-on false p now pace = refl

told-off : (p told : Pacing) → p.is_on ≡ false → (if p.is_on then told else p).is_on ≡ false
told-off p told off = ap (λ (b : Bool). (if b then told else p).is_on) off ∙ off

off-timer : {W B A : Type 0} (timer : Option Timer) (t : Steady W B A) (now : ℕ) → IsOff t → IsOff (after_timer timer t now)
off-timer (Some timer) t now off = off
off-timer None t now off = record { rules = off.rules; unpaced = off.unpaced }

-- one call more is one of the connection more
newest : {W B : Type 0} (c : Control W) (r : Repaired (Wired B) W) (call : SteadyCall B W) (older : List (RepairCall (Wired B) W))
    → after_all c (after_all c r older) (same_calls call) ≡ after_all c r (same_calls call ++ older)
newest c r (Comes now src dst bytes vouched) older = refl
newest c r (Goes now window) older = refl
newest c r (GoesAsOne now window most room) older = refl
newest c r (Passes now) older = refl
newest c r (SetsKeepAlive rules now) older = refl
newest c r (SetsPacing is_on) older = refl
newest c r (Calls call) older = refl

module _ {W B A : Type 0} (c : Control W) where
  -- no other timer is told, and nothing else becomes of the connection
  told : (timer : Option Timer) (t : Steady W B A) (now : ℕ) → action_of t now ≡ Nothing → timer_told timer t now ≡ timer
  told (Some timer) t now e = refl
  told None t now e = ap timer_by e

  left : (timer : Option Timer) (t : Steady W B A) (now : ℕ) → action_of t now ≡ Nothing → (after_timer timer t now).repairing ≡ t.repairing
  left (Some timer) t now e = refl
  left None t now e = ap (λ (action : KeepAliveAction). repairing_by action t now) e

  whole : (s : Steady W B A) (now window : ℕ) → s.pacer.is_on ≡ false → paced_window c s now window ≡ window
  whole s now window off =
      ap (λ (b : Bool). if b then bounded_by (unsent_of (end_of s)) (flight_of (end_of s) + allowed s.pacer now (pace_of c s.repairing)) window else window) off

  -- nobody is asked, whatever became of the connection meanwhile
  rests : (s t : Steady W B A) (now : ℕ) → s.keep_alive.rules ≡ None → t.keep_alive ≡ s.keep_alive → action_of t now ≡ Nothing
  rests s t now off same =
      ap (λ (k : Asking). action_at k now (may_ask_of t)) same ∙ no-action s.keep_alive s.keep_alive.rules (deadline_of s.keep_alive (may_ask_of t)) now off

  left-time : (s : Steady W B A) (now : ℕ) → IsOff s → (after_timer (timer_of s now) (timed c s now) now).repairing ≡ (timed c s now).repairing
  left-time s now off = left (timer_of s now) (timed c s now) now (rests s (timed c s now) now off.rules refl)

  goes : (s : Steady W B A) (now window : ℕ) → IsOff s
      → repaired_after_emit c s now window ≡ repair.after_emit machine insight agreed c reports s.repairing now window
  goes s now window off = ap (λ (w : ℕ). repair.after_emit machine insight agreed c reports s.repairing now w) (whole s now window off.unpaced)

  goes-as-one : (s : Steady W B A) (now window most room : ℕ) → IsOff s
      → repaired_after_train c s now window most room
      ≡ repair.after_train machine insight agreed (λ w window most room. train_within w.end window most room) start_of numbers_of c reports s.repairing now
      window most room
  goes-as-one s now window most room off =
      ap (λ (v : ℕ). repair.after_train machine insight agreed (λ w window most room. train_within w.end window most room) start_of numbers_of c reports s.repairing now v most room)
      (whole s now window off.unpaced)

  pub off_lem : OffIsConnection B A c
  off_lem s off =
      let next = repair.next_call machine agreed reports s.repairing in
      record {
        next = ap (λ (o : Option ℕ). earlier o (earlier (asking_deadline s) next)) (no-portion s.pacer off.unpaced)
            ∙ ap (λ (o : Option ℕ). earlier o next) (no-question s.keep_alive (may_ask_of s) off.rules);
        expires = λ now. told (timer_of s now) (timed c s now) now (rests s (timed c s now) now off.rules refl);
        passes = λ now. left-time s now off;
        sends = λ now window.
            not-asked (sent_first c s now window) (keep_alive_sent (end_of (first_of c s now window))) (action_of (first_of c s now window) now)
            (rests s (first_of c s now window) now off.rules refl)
            ∙ ap (λ (w : ℕ). repair.sent_by_emit machine insight agreed c reports s.repairing now w) (whole s now window off.unpaced);
        writes = λ now window out.
            not-written (sent_first c s now window) (keep_alive_due (end_of (first_of c s now window))) (action_of (first_of c s now window) now)
            (written_first c s now window out) (rests s (first_of c s now window) now off.rules refl)
            ∙ ap (λ (w : ℕ). repair.written_by_emit machine insight agreed c reports s.repairing now w out) (whole s now window off.unpaced);
        goes = λ now window. goes s now window off;
        sends_as_one = λ now window most room.
            not-asked (train_first c s now window most room) (keep_alive_train (end_of (first_train_of c s now window most room)))
            (action_of (first_train_of c s now window most room) now) (rests s (first_train_of c s now window most room) now off.rules refl)
            ∙ ap (λ (v : ℕ). repair.train_by_emit machine insight agreed (λ w window most room. train_within w.end window most room) c reports s.repairing now v most room)
            (whole s now window off.unpaced);
        writes_as_one = λ now window most out.
            not-written (train_first c s now window most (length out)) (partial_due (end_of (first_train_of c s now window most (length out))))
            (action_of (first_train_of c s now window most (length out)) now) (train_written_first c s now window most out)
            (rests s (first_train_of c s now window most (length out)) now off.rules refl)
            ∙ ap (λ (w : ℕ). repair.written_by_train machine insight agreed c reports s.repairing now w most out) (whole s now window off.unpaced);
        goes_as_one = λ now window most room. goes-as-one s now window most room off;
        answers = λ src dst bytes vouched. refl;
        comes = λ now src dst bytes vouched. refl;
      }

  -- ---- IT STAYS OFF
  off-asked : (s : Steady W B A) (now : ℕ) → IsOff s → (asked_pacer c s now).is_on ≡ false
  off-asked s now off = asked-on (begins s.pacer now (pace_of c s.repairing)) s.pacer now (pace_of c s.repairing) ∙ off.unpaced

  stays : (s : Steady W B A) (call : SteadyCall B W) → IsOff s → leaves_off call ≡ true → IsOff (after_call c s call)
  stays s (Comes now src dst bytes vouched) off leaves =
      record { rules = heard-rules (is_heard (arrival_answer_of s src dst bytes vouched)) s.keep_alive now ∙ off.rules; unpaced = off.unpaced }
  stays s (Goes now window) off leaves = record {
    rules = asked-rules (sent_first c s now window) s.keep_alive now (may_ask_of (first_of c s now window)) ∙ off.rules;
    unpaced = told-off (asked_pacer c s now)
        (told_pacer c (repaired_after_emit c s now window) (asked_pacer c s now) (is_some (sent_first c s now window)) (flight_of (end_of s)) window)
        (off-asked s now off);
  }
  stays s (GoesAsOne now window most room) off leaves = record {
    rules = asked-rules (train_first c s now window most room) s.keep_alive now (may_ask_of (first_train_of c s now window most room)) ∙ off.rules;
    unpaced = told-off (asked_pacer c s now)
        (told_pacer c (repaired_after_train c s now window most room) (asked_pacer c s now) (is_some (train_first c s now window most room)) (flight_of (end_of s)) window)
        (off-asked s now off);
  }
  stays s (Passes now) off leaves = off-timer (timer_of s now) (timed c s now) now (record { rules = off.rules; unpaced = off.unpaced })
  stays s (SetsKeepAlive (Some rules) now) off leaves = absurd (cc)
  stays s (SetsKeepAlive None now) off leaves = record { rules = refl; unpaced = off.unpaced }
  stays s (SetsPacing true) off leaves = absurd (cc)
  stays s (SetsPacing false) off leaves = record { rules = off.rules; unpaced = refl }
  stays s (Calls call) off leaves = record { rules = off.rules; unpaced = off.unpaced }

  same : (s : Steady W B A) (call : SteadyCall B W) → IsOff s → (after_call c s call).repairing ≡ after_all c s.repairing (same_calls call)
  same s (Comes now src dst bytes vouched) off = refl
  same s (Goes now window) off = goes s now window off
  same s (GoesAsOne now window most room) off = goes-as-one s now window most room off
  same s (Passes now) off = left-time s now off
  same s (SetsKeepAlive rules now) off = refl
  same s (SetsPacing is_on) off = refl
  same s (Calls call) off = refl

  pub stays_lem : OffStaysOff B A c
  stays_lem s [] off leave = record { off = off; same = refl }
  stays_lem s (call ∷ older) off leave =
      let before = stays_lem s older off (second (leaves_off call) (list_all leaves_off older) leave) in
      record {
        off = stays (after_calls c s older) call before.off (first (leaves_off call) (list_all leaves_off older) leave);
        same = same (after_calls c s older) call before.off ∙ ap (λ (r : Repaired (Wired B) W). after_all c r (same_calls call)) before.same
            ∙ newest c s.repairing call (flat_map same_calls older);
      }
