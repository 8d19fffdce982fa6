use Rattle.tcp_steady.proofs.Off.{off_lem, stays_lem}
use Rattle.tcp_steady.proofs.laws.off_is_connection.Goals as goal

pub returns-clause-each : goal.returns-clause-each
returns-clause-each g c = off_lem g.W.Congestion.control

pub returns-clause-stays : goal.returns-clause-stays
returns-clause-stays g c = stays_lem g.W.Congestion.control
