use Rattle.tcp_hosted.proofs.Ends.{two_ends_lem}
use Rattle.tcp_hosted.proofs.two_ends_at_hosts_are_safe.Goals as goal

pub returns : goal.returns
returns g c = two_ends_lem _
