use Rattle.std.proofs.Common.{arith}
use Rattle.std.proofs.lemmas.Grind.{common_steps}
use Rattle.tcp_conn.proofs.fault.fault_of.Goals as goal

pub returns-then-not-has_good_shift-clause-bad_shift : goal.returns-then-not-has_good_shift-clause-bad_shift
returns-then-not-has_good_shift-clause-bad_shift c = grind (arith, common_steps)
