use Rattle.tcp_flow.proofs.Pipe.{pipe_lem}
use Rattle.tcp_flow.proofs.laws.pipe_stays_in_threshold.Goals as goal

pub returns : goal.returns
returns g c = pipe_lem g.C.Core.machine g.C.Paced.smss_of g.W.Congestion.control
