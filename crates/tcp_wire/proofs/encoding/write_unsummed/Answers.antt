use Rattle.std.proofs.Common.{ℕ, ◌+◌, take, drop, refl, sym, ap, arith}
use Rattle.tcp_wire.specs.View.{around}
use Rattle.tcp_wire.proofs.WrittenOptions.{around_written}
use Rattle.tcp_wire.proofs.encoding.write_unsummed.Goals as goal

pub returns-clause-written : goal.returns-clause-written
returns-clause-written c =
    around_written (around c.args.header.now c.args.options.now c.args.pad c.args.text_len c.args.out.now) (c.write_area-offset.result) _ c.args.text_len _ c.args.out.now _ c.write_area-offset.new.out c.write_header.new.out
    refl (omega (arith, c.write_area-offset.ensures.len)) c.write_area-offset.ensures.len (ap (λ (m : ℕ). take c.args.text_len (drop (20 + m) c.args.out.now)) (sym c.write_area-offset.ensures.len)) (omega arith) c.write_area-offset.ensures.written refl c.write_header.ensures
