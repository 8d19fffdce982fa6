use Rattle.std.proofs.Common.{length, map, ap, arith}
use Rattle.std.proofs.lemmas.List.{length-map, length-take, length-drop, length-set}
use Rattle.tcp_wire.specs.View.{block}
use Rattle.tcp_wire.proofs.OptionLaws.{sack_spelling_length}
use Rattle.tcp_wire.proofs.option_writing.write_option.Goals as goal

pub write_blocks-requires-clause-room : goal.write_blocks-requires-clause-room
write_blocks-requires-clause-room c =
    let room = rw c.in-Sack.is at c.requires.room in
    simp (length-take, length-drop, length-set) (omega (arith, room, sack_spelling_length (map block c.in-Sack.blocks.items), length-map c.in-Sack.blocks.items block, ap length c.as_slice.ensures.value))

pub returns-in-Sack-clause-len : goal.returns-in-Sack-clause-len
returns-in-Sack-clause-len c =
    rw c.in-Sack.is (omega (arith, sack_spelling_length (map block c.in-Sack.blocks.items), length-map c.in-Sack.blocks.items block, c.len.ensures.value))
