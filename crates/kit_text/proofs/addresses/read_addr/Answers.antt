use Rattle.std.proofs.Common.{sym}
use Rattle.kit_text.proofs.WordCounts.{octets_of-five}
use Rattle.kit_text.proofs.addresses.read_addr.Goals as goal

pub returns-then-is_some : goal.returns-then-is_some
returns-then-is_some c =
    rw (c.cut.ensures.pieces, c.in_ok-rest.was, c.cut-2.ensures.pieces, c.in_ok-rest-2.was, c.cut-3.ensures.pieces, c.in_ok-rest-3.was, c.cut-4.ensures.pieces)
    (sym (octets_of-five c.cut.result.0.now c.cut-2.result.0.now c.cut-3.result.0.now c.cut-4.result.0.now 46 c.cut-4.result.1 (sym (c.if-is_some.ensures))))
