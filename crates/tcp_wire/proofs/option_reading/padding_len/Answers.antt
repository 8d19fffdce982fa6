use Rattle.std.proofs.Common.{List, ℕ, Some, arith, sym, ap, ◌∙◌}
use Rattle.std.proofs.lemmas.Grind.{common_steps}
use Rattle.std.proofs.lemmas.List.{take_rest}
use Rattle.tcp_wire.specs.Decoded.{first_option}
use Rattle.tcp_wire.proofs.Listed.{none_padded, first_left}
use Rattle.tcp_wire.proofs.option_reading.padding_len.Goals as goal

pub loop-len-preserved : goal.loop-len-preserved
loop-len-preserved c =
    let option = first_option c.in-Some.len c.loop-len.rest.now in
    let found = c.in-Some.ensures.value ∙ ap (λ (xs : List ℕ). Some (option, xs)) (sym (take_rest c.loop-len.rest.now c.in-Some.len)) in
    let left = first_left c.loop-len.rest.now _ option c.loop-len.invariant.0 c.loop-len.invariant.1 found in (
      grind (arith, common_steps),
      left.0,
      sym left.2 ∙ c.loop-len.invariant.2,
    )

pub returns : goal.returns
returns c =
    sym (none_padded c.loop-len.rest.now c.loop-len.invariant.1 c.in_default.ensures.value) ∙ c.loop-len.invariant.2
