use Rattle.std.proofs.Common.{arith}
use Rattle.tcp_judge.proofs.Joining.{joined-run}
use Rattle.tcp_judge.proofs.run_list.joined.Goals as goal

pub returns : goal.returns
returns c last spans h h' = joined-run last spans c.args.one c.args.other _ c.requires (omega arith) h h'
