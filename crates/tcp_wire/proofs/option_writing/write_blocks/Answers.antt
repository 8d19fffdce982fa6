use Rattle.std.proofs.Common.{refl}
use Rattle.tcp_wire.proofs.WrittenOptions.{blocks_written}
use Rattle.tcp_wire.proofs.option_writing.write_blocks.Goals as goal

pub loop-i-preserved : goal.loop-i-preserved
loop-i-preserved c = blocks_written c.args.blocks.now c.loop-i.i _ _ c.args.out.now c.loop-i.out c.write_block.new.out c.loop-i-test.true refl c.write_block.ensures c.loop-i.invariant
