use Rattle.tcp_reasm.proofs.Ranks.{ranks_keep_blocks_lem}
use Rattle.tcp_reasm.proofs.laws.ranks_keep_blocks.Goals as goal

pub returns : goal.returns
returns c = ranks_keep_blocks_lem
