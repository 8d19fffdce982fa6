use Rattle.tcp_hosted.proofs.Ends.{comes_as_incident}
use Rattle.tcp_hosted.proofs.an_arrival_is_an_incident.Goals as goal

pub returns : goal.returns
returns g c = comes_as_incident c.args.host.now c.an_arrival_is_handed_on.new.host c.args.now c.args.src c.args.dst c.args.bytes.now c.an_arrival_is_handed_on.ensures
