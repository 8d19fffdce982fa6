use Rattle.tcp_conn.proofs.PhaseRows.{phase_table_lem}
use Rattle.tcp_conn.proofs.laws.phase_table.Goals as goal

pub returns : goal.returns
returns c = phase_table_lem
