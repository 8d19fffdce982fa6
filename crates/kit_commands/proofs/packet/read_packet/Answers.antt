use Rattle.std.proofs.Common.{sym}
use Rattle.kit_commands.specs.Listing.{packet_of}
use Rattle.kit_commands.proofs.WordCounts.{packet_of_words-four}
use Rattle.kit_commands.proofs.packet.read_packet.Goals as goal

pub returns-then-is_some : goal.returns-then-is_some
unfolding packet_of
returns-then-is_some g c =
    rw (c.cut.ensures.pieces, c.in_ok-ok_or.ensures.ok_part, c.cut-2.ensures.pieces, c.in_ok-ok_or-2.ensures.ok_part, c.cut-3.ensures.pieces)
    (packet_of_words-four c.cut.result.0.now c.cut-2.result.0.now c.cut-3.result.0.now c.cut-3.result.1 (sym c.if-is_some.ensures))
