use Rattle.std.proofs.Common.{sym}
use Rattle.kit_judge.specs.Logs.{passage_of}
use Rattle.kit_judge.proofs.WordCounts.{passage_of_words-five}
use Rattle.kit_judge.proofs.packet.read_packet.Goals as goal

pub returns-then-is_some : goal.returns-then-is_some
unfolding passage_of
returns-then-is_some g c =
    rw (c.cut.ensures.pieces, c.in_ok-ok_or.ensures.ok_part, c.cut-2.ensures.pieces, c.in_ok-ok_or-2.ensures.ok_part, c.cut-3.ensures.pieces, c.in_ok-ok_or-3.ensures.ok_part, c.cut-4.ensures.pieces)
    (passage_of_words-five c.cut.result.0.now c.cut-2.result.0.now c.cut-3.result.0.now c.cut-4.result.0.now c.cut-4.result.1 (sym c.if-is_some.ensures))
