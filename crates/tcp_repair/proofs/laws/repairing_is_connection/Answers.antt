use Rattle.tcp_repair.proofs.Calling.{connection_lem}
use Rattle.tcp_repair.proofs.laws.repairing_is_connection.Goals as goal

pub returns : goal.returns
returns g c =
    connection_lem g.C.Core.machine g.C.Deferring.insight g.C.Paced.smss_of g.C.Core.train_answer g.C.Reporting.start_of g.C.Paced.numbers_of
    g.W.Congestion.control g.C.Reporting.reports
