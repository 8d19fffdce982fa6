use Rattle.std.proofs.Common.{take, sym, ◌∙◌, w8}
use Rattle.std.proofs.lemmas.Simd.{length-chunk, chunk-fits}
use Rattle.kit_text.proofs.DigitPairs.{load_read}
use Rattle.kit_text.proofs.hexadecimal.decode_load.Goals as goal

pub returns-clause-read : goal.returns-clause-read
returns-clause-read c = λ yes i rest.
    let digits = c.args.digits.now in
    load_read i (take 32 digits) rest c.values-values.result c.join.result c.args.bytes.now c.values-values.ensures
    (sym c.are_digits.ensures ∙ c.if-not-are_digits.false) c.join.ensures
    (length-chunk 0 32 digits c.requires.digits) (chunk-fits w8 0 32 digits c.type_inv.digits) c.requires.room
