use Rattle.std.proofs.Common.{◌-◌, length, take, drop, sym, ◌∙◌, arith}
use Rattle.std.proofs.lemmas.List.{take_rest}
use Rattle.kit_text.proofs.AsciiLoads.{load_passed}
use Rattle.kit_text.proofs.lines.ascii_loads.Goals as goal

pub loop-i-preserved : goal.loop-i-preserved
loop-i-preserved c =
    let i = c.loop-i.i in let text = c.args.text.now in
    (omega (arith, c.loop-i.invariant.0, c.loop-i-test.true), load_passed i text (take (length text - i) (drop i text)) c.loop-i-test.true (take_rest text i) (sym c.is_ascii_load.ensures ∙ c.if-is_ascii_load.true) c.loop-i.invariant.1)
