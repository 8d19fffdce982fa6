use Rattle.std.proofs.Common.{◌∙◌, arith}
use Rattle.tcp_wire.proofs.AreaLaws.{zeros_end, zeros_done, padding_ok, padding_option, padding_fault}
use Rattle.tcp_wire.proofs.option_reading.check_padding.Goals as goal

pub returns-then-i-eq0 : goal.returns-then-i-eq0
returns-then-i-eq0 c =
    padding_option c.args.at c.args.bytes.now (omega arith) (zeros_end c.args.bytes.now c.loop-i.i c.loop-i-test.true c.if-byte-ne0.true c.loop-i.invariant ∙ c.if-i-eq0.true)

pub returns-then-byte-ne0 : goal.returns-then-byte-ne0
returns-then-byte-ne0 c =
    padding_fault c.args.at c.loop-i.i c.args.bytes.now (zeros_end c.args.bytes.now c.loop-i.i c.loop-i-test.true c.if-byte-ne0.true c.loop-i.invariant) (omega arith) c.loop-i-test.true

pub returns : goal.returns
returns c = padding_ok c.args.at c.args.bytes.now (zeros_done c.args.bytes.now c.loop-i.i (omega arith) (omega arith) c.loop-i.invariant)
