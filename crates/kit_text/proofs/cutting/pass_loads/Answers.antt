use Rattle.std.proofs.Common.{◌-◌, length, take, drop, sym, ◌∙◌, arith}
use Rattle.std.proofs.lemmas.List.{take_rest}
use Rattle.kit_text.proofs.Blocks.{load_passed}
use Rattle.kit_text.proofs.cutting.pass_loads.Goals as goal

pub loop-i-preserved : goal.loop-i-preserved
loop-i-preserved c =
    let i = c.loop-i.i in let bytes = c.args.bytes.now in
    (omega (arith, c.loop-i.invariant.0, c.loop-i-test.true), load_passed c.args.at i bytes (take (length bytes - i) (drop i bytes)) c.loop-i.invariant.1 (take_rest bytes i) (sym c.is_in_load.ensures ∙ c.if-not-is_in_load.true))
