use Rattle.std.proofs.Common.{length}
use Rattle.tcp_halves.proofs.sender.Sender.+mark_blocks.Given as goal

abbrev pub decreases-mark_blocks : goal.decreases-mark_blocks
decreases-mark_blocks g l = length l.blocks.now
