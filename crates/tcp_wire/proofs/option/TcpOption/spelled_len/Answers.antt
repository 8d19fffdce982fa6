use Rattle.std.proofs.Common.{length, map, ap, arith}
use Rattle.std.proofs.lemmas.List.{length-map}
use Rattle.tcp_wire.specs.View.{block}
use Rattle.tcp_wire.proofs.OptionLaws.{sack_spelling_length}
use Rattle.tcp_wire.proofs.option.TcpOption.spelled_len.Goals as goal

pub returns-else-is_empty-clause-len : goal.returns-else-is_empty-clause-len
returns-else-is_empty-clause-len c =
    rw c.in-Sack.is (omega (arith, sack_spelling_length (map block c.in-Sack.blocks.items), length-map c.in-Sack.blocks.items block, c.blocks_len.ensures.len, ap length c.as_slice.ensures.value))
