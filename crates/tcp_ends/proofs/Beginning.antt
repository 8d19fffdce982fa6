-- A half turn can begin: the timer needn't run, or expires at its deadline.
use Rattle.std.proofs.Common.{◌≡◌, ℕ, ◌+◌, ◌≤◌, Bool, true, false, if◌then◌else◌, Option, Some, None, option_map, refl, ap, subst, ◌∙◌, IfSome, inl, inr, arith}
use Rattle.std.specs.Prelude.{is_some, max, min, nat_le}
use Rattle.tcp_driver.specs.declared.machine.Timer.{Timer as Which}
use Rattle.tcp_driver.specs.declared.machine.Timer.TheVariants as timers
use Rattle.tcp_driver.specs.Deadlines.{last, no_later}
use Rattle.tcp_driver.specs.Driver.{at}
use Rattle.tcp_driver.specs.Times.{Times, expiry, user_deadline}
use Rattle.tcp_conn.specs.declared.phase.Timer.TheVariants.{Retransmit}
use Rattle.tcp_conn.specs.Timers.{timer_answer}
use Rattle.tcp_replay.specs.declared.event.Side.{Side}
use Rattle.tcp_replay.specs.Among.{Happens}
use Rattle.tcp_replay.proofs.Words.{cases_Bool, false≢true, nat_tests}
use Rattle.tcp_ends.specs.Pair as pairs
use Rattle.tcp_ends.specs.Pair.{Pair, end_of, member_of}
use Rattle.tcp_ends.specs.Events.{event_of, expiry_event}
use Rattle.tcp_ends.specs.Among.{Calls, Rests, happening_of, rests_unless}
use Rattle.tcp_ends.specs.Quiet.{CanBegin, EachHalfCanBegin}

-- the order of the timers
abbrev first_of : Bool → Bool → Bool → Option Which → Option Which
first_of bursting user due rest = if bursting then None else (if user then Some timers.User else (if due then Some timers.Retransmit else rest))

first-is : (bursting user due : Bool) (rest : Option Which) → bursting ≡ false → user ≡ false → due ≡ true
    → first_of bursting user due rest ≡ Some timers.Retransmit
first-is bursting user due rest e f g = rw (e, f, g) refl

expires-now : (t : Times) (now time : ℕ) → t.bursting ≡ false → user_deadline t ≡ None → t.deadlines.retransmit ≡ Some time → time ≤ now
    → expiry t now ≡ Some timers.Retransmit
expires-now t now time e f g h =
    let late : nat_le time now ≡ true = grind (arith, nat_tests, h) in
    first-is t.bursting (no_later (user_deadline t) now) (no_later t.deadlines.retransmit now)
    (if no_later t.deadlines.reorder now then Some timers.Reorder else (if no_later t.deadlines.time_wait now then Some timers.TimeWait else None)) e
    (ap (λ (o : Option ℕ). no_later o now) f) (ap (λ (o : Option ℕ). no_later o now) g ∙ late)

record Is (o : Option ℕ) : Type 0 where
  time : ℕ
  is : o ≡ Some time

some-time : (o : Option ℕ) → is_some o ≡ true → Is o
some-time None e = absurd (false≢true e)
some-time (Some time) e = record { time = time; is = refl }

rests-here : {H : Type 0} (p : Pair H) (side : Side) → timer_answer (end_of (member_of p side)) Retransmit ≡ false → CanBegin p side
unfolding happening_of
rests-here p side e = record { first = Rests side; begins = ap (λ (wanted : Bool). rests_unless wanted side) e }

expires-here : {H : Type 0} (p : Pair H) (side : Side) (now : ℕ)
    → expiry (member_of p side).driving.times (at (member_of p side).driving now) ≡ Some timers.Retransmit → CanBegin p side
unfolding happening_of event_of
expires-here p side now e =
    record { first = Calls (pairs.Expires side now); begins = ap (λ (o : Option Which). option_map Happens (expiry_event side o)) e }

pub begins_lem : (H : Type 0) → EachHalfCanBegin H
begins_lem H p side h burst user ends =
    let d = (member_of p side).driving in
    let t = d.times in
    elim (cases_Bool (timer_answer (end_of (member_of p side)) Retransmit)) [
      | inl wanted ↦
          let found = some-time t.deadlines.retransmit (h.retransmit ∙ wanted) in
          let soon : found.time ≤ t.clock + t.estimate.rules.greatest =
          subst (λ (o : Option ℕ). IfSome o (λ time. time ≤ t.clock + t.estimate.rules.greatest)) found.is h.soon.retransmit in
          let late : found.time ≤ max t.clock (min last found.time) = omega (arith, soon, ends) in
          expires-here p side found.time (expires-now t (at d found.time) found.time burst user found.is late)
      | inr rests ↦ rests-here p side rests
    ]
