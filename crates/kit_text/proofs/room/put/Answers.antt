use Rattle.std.proofs.Common.{◌-◌, length, drop, sym, ◌∙◌, subst, arith}
use Rattle.std.proofs.lemmas.Str.{IsUtf8-append}
use Rattle.std.specs.Str.{IsUtf8}
use Rattle.kit_text.proofs.WrittenParts.{written_before}
use Rattle.kit_text.proofs.room.put.Goals as goal

pub returns-clause-utf8 : goal.returns-clause-utf8
returns-clause-utf8 c = λ behind.
    let end = c.args.end in let room = c.args.room.now in let piece = c.args.piece.now in
    subst IsUtf8 (sym (written_before (end - length piece) end room c.copy_from_slice.new.self piece (c.copy_from_slice.ensures.after ∙ c.as_bytes.ensures.value) (omega arith) (omega (arith, c.told-room, c.requires.within)))) (IsUtf8-append piece (drop end room) c.utf8.piece behind)
