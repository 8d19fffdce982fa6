use Rattle.std.proofs.Common.{◌++◌, map, refl, arith}
use Rattle.tcp_wire.specs.View.{option_content}
use Rattle.tcp_wire.proofs.Fronts.{front_written, front_rest}
use Rattle.tcp_wire.proofs.front.write_front.Goals as goal

pub returns-clause-written : goal.returns-clause-written
returns-clause-written c =
    front_written c.args.src.0 c.args.dst.0 c.args.header.now (map option_content c.args.options.now) c.args.pad c.checksum_in_parts-field.result c.write_unsummed-len.result
    (c.args.first.now ++ c.args.second.now) _ c.write_unsummed-len.new.out c.write_u16.new.buf _ (omega (arith, c.write_unsummed-len.ensures.len)) c.write_unsummed-len.ensures.written c.checksum_in_parts-field.ensures refl c.write_u16.ensures

pub returns-clause-rest : goal.returns-clause-rest
returns-clause-rest c =
    front_rest c.args.header.now (map option_content c.args.options.now) c.args.pad c.checksum_in_parts-field.result c.write_unsummed-len.result _ c.args.out.now c.write_unsummed-len.new.out
    c.write_u16.new.buf _ (omega (arith, c.write_unsummed-len.ensures.len)) refl c.write_unsummed-len.ensures.written refl c.write_u16.ensures
