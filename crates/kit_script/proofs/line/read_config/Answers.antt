use Rattle.std.proofs.Common.{sym}
use Rattle.kit_script.proofs.WordCounts.{config_of_words-four}
use Rattle.kit_script.proofs.line.read_config.Goals as goal

pub returns-then-is_some-clause-line : goal.returns-then-is_some-clause-line
returns-then-is_some-clause-line g c =
    rw (c.in_ok-rest.was, c.cut.ensures.pieces, c.in_ok-rest-2.was, c.cut-2.ensures.pieces, c.in-Some.is, c.cut-3.ensures.pieces)
    (sym (config_of_words-four c.args.version c.cut.result.0.now c.cut-2.result.0.now c.cut-3.result.0.now c.cut-3.result.1 (sym c.if-is_some.ensures)))
