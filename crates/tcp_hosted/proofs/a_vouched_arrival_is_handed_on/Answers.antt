use Rattle.std.specs.Prelude.{true}
use Rattle.tcp_hosted.proofs.Coming.{hands_on}
use Rattle.tcp_hosted.proofs.a_vouched_arrival_is_handed_on.Goals as goal

pub returns : goal.returns
returns g c = hands_on g.T.Timed.behaviour c.args.host.now c.arrive_vouched.new.self c.args.now c.args.src c.args.dst c.args.bytes.now true c.arrive_vouched.ensures.state c.arrive_vouched.ensures.others
