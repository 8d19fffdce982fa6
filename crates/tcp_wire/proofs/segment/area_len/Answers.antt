use Rattle.std.proofs.Common.{ℕ, Option, subst}
use Rattle.std.specs.Prelude.{IsSome}
use Rattle.tcp_wire.specs.Options.{IsSpellable}
use Rattle.tcp_wire.specs.View.{option_content}
use Rattle.tcp_wire.proofs.OptionLaws.{all_at}
use Rattle.tcp_wire.proofs.segment.area_len.Goals as goal

pub returns-in_err-len-clause-some : goal.returns-in_err-len-clause-some
returns-in_err-len-clause-some c =
    rw c.from_residual.ensures (
      (λ none. absurd cc),
      (λ all. subst (λ (o : Option ℕ). IsSome o) c.in_err-len.was (c.spelled_len.ensures.some.1 (rw c.option-item.is (all_at IsSpellable option_content c.args.options.now c.loop-option.option-index c.option-item.result all c.loop-option-test.true)))),
    )
