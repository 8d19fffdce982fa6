use Rattle.std.proofs.Common.{arith, inl, inr}
use Rattle.std.proofs.lemmas.Grind.{common_steps}
use Rattle.std.proofs.lemmas.List.{take_rest}
use Rattle.tcp_wire.specs.Decoded.{first_option}
use Rattle.tcp_wire.proofs.ReadOptions.{checked_behind, checked_padding}
use Rattle.tcp_wire.proofs.option_reading.check_options.Goals.{else-loop-left-test, then-loop-left-test+in_default}
use Rattle.tcp_wire.proofs.option_reading.check_options.Goals as goal

pub loop-left-preserved : goal.loop-left-preserved
loop-left-preserved c =
    let behind = take_rest c.loop-left.rest.now c.in-Some.len in (
      grind (arith, common_steps),
      grind (arith, common_steps),
      λ r checks.
          c.loop-left.invariant.2 r (checked_behind r c.loop-left.left c.loop-left.at c.in-Some.len c.loop-left.rest.now _
          (first_option c.in-Some.len c.loop-left.rest.now) (omega (arith, c.loop-left-test.true)) c.in-Some.ensures.inside c.in-Some.ensures.value behind checks),
    )

pub returns : goal.returns
returns c = c.loop-left.invariant.2 c.check_padding.result (checked_padding c.check_padding.result c.loop-left.left c.loop-left.at c.loop-left.rest.now
    (elim c.loop-left-test.branch [ else-loop-left-test w ↦ inl (omega (arith, w.loop-left-test.false)) | then-loop-left-test+in_default w ↦ inr w.in_default.ensures.value ])
    c.check_padding.ensures)
