use Rattle.std.proofs.Common.{◌≡◌, ℕ, ◌-◌, ◌<◌, ◌≤◌, ⊎_elim, arith, subst, ◌∙◌}
use Rattle.std.specs.Prelude.{true, false}
use Rattle.std.proofs.lemmas.Bool.{cases_lt}
use Rattle.tcp_judge.specs.Heard.{has_come}
use Rattle.tcp_judge.proofs.Numbers.{number_before-sum, number_before-next, goes_on-counted, goes_on-all}
use Rattle.tcp_judge.proofs.spans.Spans.count_before.Goals as goal

-- the number that is looked up is the next one
pub returns-then-more-eq0 : goal.returns-then-more-eq0
returns-then-more-eq0 g c from small order =
    let next = c.plus.ensures ∙ number_before-next c.args.acked_number.0 c.loop-count.count (omega arith) (omega arith) in
    goes_on-counted c.args.self.now from c.args.acked_number.0 c.loop-count.count small (omega arith) c.loop-count.invariant.0
    (subst (λ (n : ℕ). has_come c.args.self.now n ≡ false) next (c.find-place.ensures.none c.if-more-eq0.true))

-- those up to here came, and so many before here
pub loop-count-preserved : goal.loop-count-preserved
loop-count-preserved g c =
    let next = c.plus.ensures ∙ number_before-next c.args.acked_number.0 c.loop-count.count (omega arith) (omega arith) in (
      λ j less. ⊎_elim (λ (before : j < c.loop-count.count). c.loop-count.invariant.0 j before)
          (λ (behind : c.loop-count.count ≤ j).
          let came = c.find-place.ensures.came (j - c.loop-count.count) (omega (arith, c.saturating_add-count.ensures, less, behind)) in
          subst (λ (n : ℕ). has_come c.args.self.now n ≡ true)
          (number_before-sum c.args.acked_number.0 c.loop-count.count j c.plus.result.0 (omega arith) (omega arith) behind (omega arith) next) came)
          (cases_lt j c.loop-count.count),
      c.find-place.ensures.inside,
    )

pub returns : goal.returns
returns g c from small order =
    goes_on-all c.args.self.now from c.args.acked_number.0 c.loop-count.count small (omega arith) (omega arith) c.loop-count.invariant.0
