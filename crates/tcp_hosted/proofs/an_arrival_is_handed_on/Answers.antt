use Rattle.std.specs.Prelude.{false}
use Rattle.tcp_hosted.proofs.Coming.{hands_on}
use Rattle.tcp_hosted.proofs.an_arrival_is_handed_on.Goals as goal

pub returns : goal.returns
returns g c = hands_on g.T.Timed.behaviour c.args.host.now c.arrive.new.self c.args.now c.args.src c.args.dst c.args.bytes.now false c.arrive.ensures.state c.arrive.ensures.others
