use Rattle.std.proofs.lemmas.List.{take_rest}
use Rattle.tcp_wire.proofs.BlockReading.{blocks_read, right_edge}
use Rattle.tcp_wire.proofs.option_reading.read_blocks.Goals as goal

pub loop-rest-preserved : goal.loop-rest-preserved
loop-rest-preserved c = blocks_read c.loop-rest.blocks.items c.push.new.self.items (record { 0 = c.read_u32.result }) (record { 0 = c.read_u32-in-loop-rest.result }) c.loop-rest.rest.now _ _ c.loop-rest-test.true (take_rest c.loop-rest.rest.now 8) c.read_u32.ensures (right_edge c.loop-rest.rest.now c.read_u32-in-loop-rest.result c.read_u32-in-loop-rest.ensures) c.push.ensures.items c.loop-rest.invariant
