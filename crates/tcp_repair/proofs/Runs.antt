-- What blocks report, a run at a time.
use Rattle.std.proofs.Common.{◌≡◌, ℕ, suc, ◌-◌, ◌+◌, ◌<◌, Option, Some, None, ap, sym, subst, ◌∙◌, arith}
use Rattle.tcp_recovery.specs.Rack.{Flight}
use Rattle.tcp_repair.specs.Arrival.{after_run, after_runs}
use Rattle.tcp_repair.specs.History.{Clocked}

-- one run more
none-step : (more at nxt now min_rtt : ℕ) (unmarked : ℕ → Option (ℕ × ℕ)) (f : Flight) (run : Option (ℕ × ℕ)) → unmarked at ≡ run → run ≡ None
    → after_runs (suc more) unmarked at nxt now min_rtt f ≡ after_run f at nxt now min_rtt
unfolding after_runs
none-step more at nxt now min_rtt unmarked f run is e =
    ap (λ o. elim o [
      | None ↦ after_run f at nxt now min_rtt
      | Some run ↦ after_runs more unmarked (run.1) nxt now min_rtt (after_run f at (run.0) now min_rtt)
    ]) (is ∙ e)

some-step : (more at nxt now min_rtt from to : ℕ) (unmarked : ℕ → Option (ℕ × ℕ)) (f : Flight) (run : Option (ℕ × ℕ)) → unmarked at ≡ run → run ≡ Some (from, to)
    → after_runs (suc more) unmarked at nxt now min_rtt f ≡ after_runs more unmarked to nxt now min_rtt (after_run f at from now min_rtt)
unfolding after_runs
some-step more at nxt now min_rtt from to unmarked f run is e =
    ap (λ o. elim o [
      | None ↦ after_run f at nxt now min_rtt
      | Some run ↦ after_runs more unmarked (run.1) nxt now min_rtt (after_run f at (run.0) now min_rtt)
    ]) (is ∙ e)

-- so many are left
pub none_left : (most count at nxt now min_rtt : ℕ) (unmarked : ℕ → Option (ℕ × ℕ)) (f new all : Flight) (run : Option (ℕ × ℕ)) → count < most
    → after_runs (most - count) unmarked at nxt now min_rtt f ≡ all → run ≡ unmarked at → run ≡ None → new ≡ after_run f at nxt now min_rtt → new ≡ all
none_left most count at nxt now min_rtt unmarked f new all run less is r e n =
    let one : most - count ≡ suc (most - (count + 1)) = omega (arith, less) in
    n ∙ sym (none-step (most - (count + 1)) at nxt now min_rtt unmarked f run (sym r) e)
    ∙ subst (λ left. after_runs left unmarked at nxt now min_rtt f ≡ all) one is

pub some_left : (most count at nxt now min_rtt from to : ℕ) (unmarked : ℕ → Option (ℕ × ℕ)) (f new all : Flight) (run : Option (ℕ × ℕ)) → count < most
    → after_runs (most - count) unmarked at nxt now min_rtt f ≡ all → run ≡ unmarked at → run ≡ Some (from, to) → new ≡ after_run f at from now min_rtt
    → after_runs (most - (count + 1)) unmarked to nxt now min_rtt new ≡ all
some_left most count at nxt now min_rtt from to unmarked f new all run less is r e n =
    let one : most - count ≡ suc (most - (count + 1)) = omega (arith, less) in
    ap (λ x. after_runs (most - (count + 1)) unmarked to nxt now min_rtt x) n
    ∙ sym (some-step (most - (count + 1)) at nxt now min_rtt from to unmarked f run (sym r) e)
    ∙ subst (λ left. after_runs left unmarked at nxt now min_rtt f ≡ all) one is

pub nothing_left : (most count at nxt now min_rtt : ℕ) (unmarked : ℕ → Option (ℕ × ℕ)) (f all : Flight) → most - count ≡ 0
    → after_runs (most - count) unmarked at nxt now min_rtt f ≡ all → f ≡ all
unfolding after_runs
nothing_left most count at nxt now min_rtt unmarked f all none is = subst (λ left. after_runs left unmarked at nxt now min_rtt f ≡ all) none is

-- a rack with its clock, by its parts
pub by_parts : (t : Clocked) (rack : Flight) (clock : ℕ) → t.rack ≡ rack → t.clock ≡ clock → t ≡ record { rack = rack; clock = clock }
by_parts t rack clock r c = ap (λ x. record { rack = x; clock = t.clock }) r ∙ ap (λ (x : ℕ). record { rack = rack; clock = x }) c

pub at_clock : (left at nxt now clock min_rtt : ℕ) (unmarked : ℕ → Option (ℕ × ℕ)) (f all : Flight) → clock ≡ now
    → after_runs left unmarked at nxt now min_rtt f ≡ all → after_runs left unmarked at nxt clock min_rtt f ≡ all
at_clock left at nxt now clock min_rtt unmarked f all same is = ap (λ (x : ℕ). after_runs left unmarked at nxt x min_rtt f) same ∙ is
