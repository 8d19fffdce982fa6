use Rattle.std.proofs.Common.{length, refl, ap, arith}
use Rattle.std.proofs.lemmas.List.{length-take, length-drop}
use Rattle.tcp_wire.specs.Options.{IsSpellable, spelling}
use Rattle.tcp_wire.specs.View.{option_content}
use Rattle.tcp_wire.proofs.OptionLaws.{all_at, spellings_room}
use Rattle.tcp_wire.proofs.WrittenOptions.{options_written}
use Rattle.tcp_wire.proofs.option_writing.write_options.Goals as goal

pub write_option-at-requires-clause-spellable : goal.write_option-at-requires-clause-spellable
write_option-at-requires-clause-spellable c =
    rw c.option-item.is (all_at IsSpellable option_content c.args.options.now c.loop-option.option-index c.option-item.result c.requires.spellable c.loop-option-test.true)

pub write_option-at-requires-clause-room : goal.write_option-at-requires-clause-room
write_option-at-requires-clause-room c =
    let fits = spellings_room option_content c.args.options.now c.loop-option.option-index c.option-item.result c.loop-option-test.true in
    let here = ap (λ o. length (spelling (option_content o))) c.option-item.is in
    simp (length-take, length-drop) (omega (arith, fits, here, c.loop-option.invariant.1, c.loop-option.auto.out, c.requires.room))

pub loop-option-preserved : goal.loop-option-preserved
loop-option-preserved c =
    options_written c.args.options.now c.loop-option.option-index c.loop-option.at _ c.write_option-at.result c.option-item.result c.args.out.now c.loop-option.out c.write_option-at.new.out
    c.loop-option-test.true c.option-item.is refl c.write_option-at.ensures.len c.write_option-at.ensures.written c.loop-option.invariant
