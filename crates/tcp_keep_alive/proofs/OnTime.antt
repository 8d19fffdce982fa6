-- A peer that is gone is asked when it is due, and given up.
use Rattle.std.proofs.Common.{◌≡◌, ℕ, zero, suc, ◌+◌, ◌*◌, ◌<◌, ◌≤◌, true, Option, Some, None, arith, refl, subst, sym, ap, ◌∙◌}
use Rattle.std.specs.Prelude.{nat_le, ◌==◌, unwrap_or}
use Rattle.std.proofs.lemmas.Bool.{cond_both, eqb-true, leb-true, leb-false}
use Rattle.std.proofs.lemmas.Nat.{mul-le}
use Rattle.tcp_keep_alive.specs.declared.rules.KeepAliveRules.{KeepAliveRules}
use Rattle.tcp_keep_alive.specs.declared.keep_alive.KeepAliveAction.{KeepAliveAction}
use Rattle.tcp_keep_alive.specs.declared.keep_alive.KeepAliveAction.TheVariants.{Nothing, Asks, GivesUp}
use Rattle.tcp_keep_alive.specs.Rules.{bounded}
use Rattle.tcp_keep_alive.specs.KeepAlive.{Asking, after, action_at, action_by, action_when_due, deadline_of, latest, new_asking, next_time}
use Rattle.tcp_keep_alive.specs.Silence.{after_its_time, after_times, due_at, IsOnTime, TheDeadAreGivenUp}

-- when the last of n went out
abbrev asked_at : KeepAliveRules → ℕ → ℕ → ℕ
asked_at r heard zero = heard
asked_at r heard (suc n) = due_at r heard n

-- what is known behind n of them
abbrev behind : KeepAliveRules → ℕ → ℕ → Asking
behind r heard n = record { rules = Some r; heard_at = heard; asked_at = asked_at r heard n; unanswered = n }

next-is : (r : KeepAliveRules) (heard n : ℕ) → next_time (behind r heard n) r ≡ due_at r heard n
next-is r heard zero = omega arith
next-is r heard (suc n) =
    let more : suc n * r.interval ≡ n * r.interval + r.interval = omega arith in
    cond_both (suc n == 0) (heard + r.idle) (due_at r heard n + r.interval) (λ (at : ℕ). at ≡ due_at r heard (suc n))
    (λ e. absurd (omega (arith, eqb-true (suc n) 0 e))) (λ _. omega (arith, more))

time-is : (r : KeepAliveRules) (heard n : ℕ) → due_at r heard n ≤ latest → deadline_of (behind r heard n) true ≡ Some (due_at r heard n)
time-is r heard n fits =
    let next = next_time (behind r heard n) r in
    let is = next-is r heard n in
    cond_both (nat_le next latest) (Some next) None (λ (at : Option ℕ). at ≡ Some (due_at r heard n)) (λ _. ap Some is)
    (λ no. absurd (omega (arith, leb-false next latest no, is, fits)))

action-is : (r : KeepAliveRules) (heard n : ℕ) → due_at r heard n ≤ latest → action_at (behind r heard n) (due_at r heard n) true ≡ action_when_due (behind r heard n) r
action-is r heard n fits =
    let k = behind r heard n in
    let due = due_at r heard n in
    ap (λ (at : Option ℕ). action_by k (Some r) at due) (time-is r heard n fits)
    ∙ cond_both (nat_le due due) (action_when_due k r) Nothing (λ (a : KeepAliveAction). a ≡ action_when_due k r) (λ _. refl)
    (λ no. absurd (omega (arith, leb-false due due no)))

asks-then : (r : KeepAliveRules) (heard n : ℕ) → n < r.most → action_when_due (behind r heard n) r ≡ Asks
asks-then r heard n few =
    cond_both (nat_le r.most n) GivesUp Asks (λ (a : KeepAliveAction). a ≡ Asks) (λ e. absurd (omega (arith, leb-true r.most n e, few))) (λ _. refl)

gives_up-then : (r : KeepAliveRules) (heard n : ℕ) → n ≡ r.most → action_when_due (behind r heard n) r ≡ GivesUp
gives_up-then r heard n all =
    cond_both (nat_le r.most n) GivesUp Asks (λ (a : KeepAliveAction). a ≡ GivesUp) (λ _. refl) (λ no. absurd (omega (arith, leb-false r.most n no, all)))

earlier : (r : KeepAliveRules) (heard n : ℕ) → due_at r heard r.most ≤ latest → n ≤ r.most → due_at r heard n ≤ latest
earlier r heard n fits few = omega (arith, fits, mul-le n r.interval r.most r.interval few (omega arith))

steps : (r : KeepAliveRules) (heard n : ℕ) → due_at r heard n ≤ latest → n < r.most → after_its_time (behind r heard n) ≡ behind r heard (suc n)
steps r heard n fits few =
    let k = behind r heard n in
    let due = due_at r heard n in
    let at : unwrap_or (deadline_of k true) 0 ≡ due = ap (λ (o : Option ℕ). unwrap_or o 0) (time-is r heard n fits) in
    ap (λ (now : ℕ). after (action_at k now true) k now) at ∙ ap (λ (a : KeepAliveAction). after a k due) (action-is r heard n fits ∙ asks-then r heard n few)

reached : (r : KeepAliveRules) (heard n : ℕ) → due_at (bounded r) heard (bounded r).most ≤ latest → n ≤ (bounded r).most
    → after_times (new_asking (Some r) heard) n ≡ behind (bounded r) heard n
reached r heard zero fits few = refl
reached r heard (suc n) fits few =
    let below : n ≤ (bounded r).most = omega (arith, few) in
    ap after_its_time (reached r heard n fits below) ∙ steps (bounded r) heard n (earlier (bounded r) heard n fits below) (omega (arith, few))

pub given_up_lem : TheDeadAreGivenUp
given_up_lem r heard n fits few =
    let b = bounded r in
    let due = earlier b heard n fits few in
    let is : IsOnTime b heard n (behind b heard n) = record {
      time = time-is b heard n due;
      asks = λ some. action-is b heard n due ∙ asks-then b heard n some;
      gives_up = λ all. action-is b heard n due ∙ gives_up-then b heard n all;
    } in
    subst (IsOnTime b heard n) (sym (reached r heard n fits few)) is
