use Rattle.tcp_hosted.proofs.Vouched.{vouched_lem}
use Rattle.tcp_hosted.proofs.what_is_vouched_is_summed.Goals as goal

pub returns : goal.returns
returns g c = vouched_lem _
