use Rattle.std.proofs.Common.{sym}
use Rattle.kit_script.proofs.WordCounts.{event_of-four}
use Rattle.kit_script.proofs.events.after_side.Goals as goal

pub returns-then-is_some : goal.returns-then-is_some
returns-then-is_some g c =
    rw (c.in-Some.is, c.cut.ensures.pieces, c.in-Some-rest.is, c.cut-2.ensures.pieces, c.in_ok-ok_or.ensures.ok_part, c.cut-3.ensures.pieces)
    (event_of-four c.args.kind c.args.side c.cut.result.0.now c.cut-2.result.0.now c.cut-3.result.0.now c.cut-3.result.1 (sym c.if-is_some.ensures))
