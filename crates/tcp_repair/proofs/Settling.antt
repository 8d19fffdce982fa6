-- What looks lost and was reported, a stretch at a time.
use Rattle.std.proofs.Common.{◌≡◌, ℕ, suc, ◌-◌, ◌+◌, ◌<◌, Option, Some, None, ap, sym, subst, ◌∙◌, arith}
use Rattle.tcp_recovery.specs.Rack.{after_settled}
use Rattle.tcp_repair.specs.declared.seen.Seen.{Seen}
use Rattle.tcp_repair.specs.Emission.{reported_loss, settled}
use Rattle.tcp_repair.specs.Recovery.{Repair}

-- one stretch more
none-step : (more : ℕ) (r : Repair) (s : Seen) (unmarked : ℕ → Option (ℕ × ℕ)) (lost : Option (ℕ × ℕ)) → reported_loss r s unmarked ≡ lost → lost ≡ None
    → settled (suc more) r s unmarked ≡ r
unfolding settled
none-step more r s unmarked lost is e =
    ap (λ o. elim o [
      | None ↦ r
      | Some lost ↦ settled more (record r { rack = after_settled r.rack (lost.0) (lost.1) }) s unmarked
    ]) (is ∙ e)

some-step : (more from to : ℕ) (r : Repair) (s : Seen) (unmarked : ℕ → Option (ℕ × ℕ)) (lost : Option (ℕ × ℕ)) → reported_loss r s unmarked ≡ lost
    → lost ≡ Some (from, to) → settled (suc more) r s unmarked ≡ settled more (record r { rack = after_settled r.rack from to }) s unmarked
unfolding settled
some-step more from to r s unmarked lost is e =
    ap (λ o. elim o [
      | None ↦ r
      | Some lost ↦ settled more (record r { rack = after_settled r.rack (lost.0) (lost.1) }) s unmarked
    ]) (is ∙ e)

-- so many are left
pub none_left : (most count : ℕ) (r all : Repair) (s : Seen) (unmarked : ℕ → Option (ℕ × ℕ)) (lost : Option (ℕ × ℕ)) → count < most
    → settled (most - count) r s unmarked ≡ all → lost ≡ reported_loss r s unmarked → lost ≡ None → r ≡ all
none_left most count r all s unmarked lost less is l e =
    let one : most - count ≡ suc (most - (count + 1)) = omega (arith, less) in
    sym (none-step (most - (count + 1)) r s unmarked lost (sym l) e) ∙ subst (λ left. settled left r s unmarked ≡ all) one is

pub some_left : (most count from to : ℕ) (r new all : Repair) (s : Seen) (unmarked : ℕ → Option (ℕ × ℕ)) (lost : Option (ℕ × ℕ)) → count < most
    → settled (most - count) r s unmarked ≡ all → lost ≡ reported_loss r s unmarked → lost ≡ Some (from, to)
    → new ≡ record r { rack = after_settled r.rack from to } → settled (most - (count + 1)) new s unmarked ≡ all
some_left most count from to r new all s unmarked lost less is l e n =
    let one : most - count ≡ suc (most - (count + 1)) = omega (arith, less) in
    ap (λ x. settled (most - (count + 1)) x s unmarked) n
    ∙ sym (some-step (most - (count + 1)) from to r s unmarked lost (sym l) e)
    ∙ subst (λ left. settled left r s unmarked ≡ all) one is

pub nothing_left : (most count : ℕ) (r all : Repair) (s : Seen) (unmarked : ℕ → Option (ℕ × ℕ)) → most - count ≡ 0 → settled (most - count) r s unmarked ≡ all
    → r ≡ all
unfolding settled
nothing_left most count r all s unmarked none is = subst (λ left. settled left r s unmarked ≡ all) none is
