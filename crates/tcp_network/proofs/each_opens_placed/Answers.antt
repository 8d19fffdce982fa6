use Rattle.tcp_network.proofs.Networks.{opens_placed}
use Rattle.tcp_network.proofs.each_opens_placed.Goals as goal

pub returns : goal.returns
returns g c = opens_placed g.row.A.Denot c.each_opens_sized.ensures
