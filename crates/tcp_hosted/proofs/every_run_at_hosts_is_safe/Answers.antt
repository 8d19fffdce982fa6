use Rattle.tcp_hosted.proofs.Worlds.{every_run_lem}
use Rattle.tcp_hosted.proofs.every_run_at_hosts_is_safe.Goals as goal

pub returns : goal.returns
returns c = every_run_lem
