-- No acknowledgement is late.
use Rattle.std.proofs.Common.{◌≡◌, ℕ, ◌+◌, ◌≤◌, Bool, true, false, Option, Some, None, refl, ap, subst, ◌∙◌, arith}
use Rattle.std.specs.Prelude.{is_some, min, nat_le, nat_lt, not, ◌&&◌, ◌||◌, if◌then◌else◌}
use Rattle.std.proofs.lemmas.Bool.Decides.{nat_tests}
use Rattle.tcp_congestion.specs.Control.{Control}
use Rattle.tcp_congestion.specs.DelayedAck.{after_delay, deadline_of, is_owed}
use Rattle.tcp_congestion.specs.Sizes.{latest}
use Rattle.tcp_driver.specs.Deadlines.{earlier}
use Rattle.tcp_driver.specs.Machine.{Machine}
use Rattle.tcp_driver.specs.Times.{next_expiry}
use Rattle.tcp_connection.specs.declared.deferring.Kind.{Kind}
use Rattle.tcp_connection.specs.declared.deferring.Kind.TheVariants.{Acknowledgement, NewText, Other}
use Rattle.tcp_connection.specs.Calls.{IsInTime, NoAcknowledgementIsLate}
use Rattle.tcp_connection.specs.Connection.{Connecting, core_of, is_pending}
use Rattle.tcp_connection.specs.Deadlines.{ack_deadline, text_deadline}
use Rattle.tcp_connection.specs.Going.{ack_waits, holds_back, is_held, is_past, is_to_come, text_waits}
use Rattle.tcp_connection.specs.Insight.{Insight}
use Rattle.tcp_connection.specs.Policy.{holds_any}
use Rattle.tcp_connection.specs.Windows.{has_grown}

-- there is a time, and it is at most another
record IsBy (deadline : Option ℕ) (most : ℕ) : Type 0 where
  time : ℕ
  is : deadline ≡ Some time
  soon : time ≤ most

delayed-by : (owed : Bool) (since : Option ℕ) (delay first : ℕ) → since ≡ Some first
    → IsBy (if owed then Some 0 else after_delay delay since) (first + delay)
delayed-by true since delay first e = record { time = 0; is = refl; soon = omega arith }
delayed-by false None delay first e = absurd (cc)
delayed-by false (Some since) delay first e =
    let same : since ≡ first = cc in
    record { time = min latest (since + delay); is = refl; soon = omega (arith, same) }

earlier-by : (one other : Option ℕ) (most : ℕ) → IsBy one most → IsBy (earlier one other) most
earlier-by None other most by = absurd (let e = by.is in cc)
earlier-by (Some one) None most by = by
earlier-by (Some one) (Some other) most by =
    let e = by.is in
    let same : one ≡ by.time = cc in
    let soon = by.soon in
    record { time = min one other; is = refl; soon = omega (arith, same, soon) }

if-true : (b : Bool) (x : Option ℕ) (most : ℕ) → b ≡ true → IsBy x most → IsBy (if b then x else None) most
if-true true x most e by = by
if-true false x most e by = absurd (cc)

-- then it doesn't wait any more
past-by : (deadline : Option ℕ) (most now : ℕ) → IsBy deadline most → most ≤ now → is_to_come deadline now ≡ false
past-by None most now by late = absurd (let e = by.is in cc)
past-by (Some time) most now by late =
    let e = by.is in
    let same : time ≡ by.time = cc in
    let soon = by.soon in
    let least : time ≤ now = omega (arith, same, soon, late) in
    grind (arith, nat_tests, least)

waits-no-more : (deadline : Option ℕ) (most now : ℕ) (avoids grown : Bool) → IsBy deadline most → most ≤ now
    → (is_to_come deadline now || (avoids && (not (is_some deadline) && not grown))) ≡ false
waits-no-more None most now avoids grown by late = absurd (let e = by.is in cc)
waits-no-more (Some time) most now avoids grown by late =
    neither (is_to_come (Some time) now) avoids (past-by (Some time) most now by late) where
      neither : (b avoids : Bool) → b ≡ false → (b || (avoids && false)) ≡ false
      neither true avoids e = absurd (cc)
      neither false true e = refl
      neither false false e = refl

unheld : (bursting : Bool) (kind : Option Kind) (text pending ack : Bool) → pending ≡ true → ack ≡ false
    → (not bursting && is_held kind text pending ack) ≡ false
unheld true kind text pending ack p a = refl
unheld false None text pending ack p a = refl
unheld false (Some Acknowledgement) text pending ack p a = a
unheld false (Some NewText) true true ack p a = a
unheld false (Some NewText) true false ack p a = absurd (cc)
unheld false (Some NewText) false pending ack p a = refl
unheld false (Some Other) text pending ack p a = refl

pub late_lem : {S W : Type 0} (m : Machine S) (i : Insight S) (c : Control W) → NoAcknowledgementIsLate m i c
late_lem m i c k first any since pending =
    let due = delayed-by (is_owed k.ack) k.ack.since k.ack.delay first since in
    let own = if-true (is_pending m k) (deadline_of k.ack) (first + k.ack.delay) pending due in
    let both = earlier-by (ack_deadline m k) (text_deadline k) (first + k.ack.delay) own in
    let mine = if-true (holds_any k.policy) (earlier (ack_deadline m k) (text_deadline k)) (first + k.ack.delay) any both in
    let next = earlier-by (if holds_any k.policy then earlier (ack_deadline m k) (text_deadline k) else None) (next_expiry k.flowing.driving.times)
    (first + k.ack.delay) mine in
    record {
      time = next.time;
      polled = next.is;
      soon = next.soon;
      goes = λ now window late.
          unheld k.flowing.driving.times.bursting (i.kind (core_of k)) (is_past m c k window || text_waits m i c k window now) (is_pending m k) (ack_waits i k now)
          pending (waits-no-more (deadline_of k.ack) (first + k.ack.delay) now (is_some k.policy.override_timeout) (has_grown i k) due late);
    }
