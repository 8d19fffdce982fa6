use Rattle.tcp_hosted.proofs.Guarded.{two_guarded_lem}
use Rattle.tcp_hosted.proofs.two_guarded_ends_at_hosts_are_safe.Goals as goal

pub returns : goal.returns
returns g c = two_guarded_lem _
