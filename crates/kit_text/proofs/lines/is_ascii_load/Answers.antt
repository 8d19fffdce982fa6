use Rattle.std.proofs.Common.{length, ◌≤◌, arith}
use Rattle.std.proofs.lemmas.List.{take_rest}
use Rattle.kit_text.proofs.HighBits.{words_more}
use Rattle.kit_text.proofs.lines.is_ascii_load.Goals as goal

pub returns : goal.returns
returns c =
    let bytes = c.args.bytes.now in
    let least : 64 ≤ length bytes = c.requires in
    let two = words_more 8 bytes (omega (arith, least)) c.is_ascii_word.ensures (take_rest bytes 8) c.is_ascii_word-2.ensures in
    let three = words_more 16 bytes (omega (arith, least)) two (take_rest bytes 16) c.is_ascii_word-3.ensures in
    let four = words_more 24 bytes (omega (arith, least)) three (take_rest bytes 24) c.is_ascii_word-4.ensures in
    let five = words_more 32 bytes (omega (arith, least)) four (take_rest bytes 32) c.is_ascii_word-5.ensures in
    let six = words_more 40 bytes (omega (arith, least)) five (take_rest bytes 40) c.is_ascii_word-6.ensures in
    let seven = words_more 48 bytes (omega (arith, least)) six (take_rest bytes 48) c.is_ascii_word-7.ensures in
    words_more 56 bytes least seven (take_rest bytes 56) c.is_ascii_word-8.ensures
