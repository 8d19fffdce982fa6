use Rattle.tcp_host.proofs.Apart.{pair_itself, same_pair}
use Rattle.tcp_host.proofs.laws.pairs_are_told_apart.Goals as goal

pub returns : goal.returns
returns c = (same_pair c.args.one c.args.other, pair_itself c.args.one c.args.other)
