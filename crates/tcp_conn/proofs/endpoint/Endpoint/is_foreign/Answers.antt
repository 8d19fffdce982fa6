use Rattle.std.proofs.Common.{arith}
use Rattle.std.proofs.lemmas.Grind.{common_steps}
use Rattle.tcp_conn.specs.Judgement.{is_foreign}
use Rattle.tcp_conn.proofs.endpoint.Endpoint.is_foreign.Goals as goal

pub returns-then-has_peer : goal.returns-then-has_peer
unfolding is_foreign
returns-then-has_peer g c = grind (arith, common_steps)
