use Rattle.tcp_flow.proofs.Pipe.{any_lem, cubic_lem, reno_lem}
use Rattle.tcp_flow.proofs.laws.each_window_keeps_the_pipe.Goals as goal

pub returns-clause-reno : goal.returns-clause-reno
returns-clause-reno c = reno_lem

pub returns-clause-cubic : goal.returns-clause-cubic
returns-clause-cubic c = cubic_lem

pub returns-clause-any : goal.returns-clause-any
returns-clause-any c = any_lem
