use Rattle.std.proofs.Common.{refl, arith}
use Rattle.tcp_wire.specs.View.{around}
use Rattle.tcp_wire.proofs.Partials.{partial_written, partial_completes}
use Rattle.tcp_wire.proofs.partial.write_around_partial.Goals as goal

pub returns-clause-written : goal.returns-clause-written
returns-clause-written c =
    partial_written c.args.src.0 c.args.dst.0 (around c.args.header.now c.args.options.now c.args.pad c.args.text_len c.args.out.now) c.partial_checksum-field.result c.write_unsummed-len.result _
    c.write_unsummed-len.new.out c.write_u16.new.buf _ c.write_unsummed-len.ensures.len c.write_unsummed-len.ensures.written c.partial_checksum-field.ensures.value refl c.write_u16.ensures

pub returns-clause-completes : goal.returns-clause-completes
returns-clause-completes c =
    partial_completes c.args.src.0 c.args.dst.0 (around c.args.header.now c.args.options.now c.args.pad c.args.text_len c.args.out.now) c.partial_checksum-field.result c.write_unsummed-len.result _
    c.write_unsummed-len.new.out c.write_u16.new.buf _ c.requires.valid c.write_unsummed-len.ensures.len c.write_unsummed-len.ensures.written c.partial_checksum-field.ensures.value
    c.partial_checksum-field.ensures.some (omega arith) refl c.write_u16.ensures
