use Rattle.std.proofs.Common.{refl}
use Rattle.tcp_wire.proofs.Places.{encoded_written}
use Rattle.tcp_wire.proofs.Writing.{IsWire_encoded, only_encoded}
use Rattle.tcp_wire.specs.View.{around}
use Rattle.tcp_wire.proofs.encoding.write_around.Goals as goal

pub returns-clause-wire : goal.returns-clause-wire
returns-clause-wire c = IsWire_encoded c.args.src.0 c.args.dst.0 (around c.args.header.now c.args.options.now c.args.pad c.args.text_len c.args.out.now) c.requires.valid

pub returns-clause-only : goal.returns-clause-only
returns-clause-only c = λ other w. only_encoded c.args.src.0 c.args.dst.0 (around c.args.header.now c.args.options.now c.args.pad c.args.text_len c.args.out.now) other w

pub returns-clause-written : goal.returns-clause-written
returns-clause-written c =
    encoded_written c.args.src.0 c.args.dst.0 (around c.args.header.now c.args.options.now c.args.pad c.args.text_len c.args.out.now) c.checksum-field.result c.write_unsummed-len.result _ c.write_unsummed-len.new.out
    c.write_u16.new.buf _ _ c.write_unsummed-len.ensures.len c.write_unsummed-len.ensures.written c.checksum-field.ensures refl refl c.write_u16.ensures
