use Rattle.tcp_replay.proofs.Words.{arith, common_steps, party_after_acknowledge}
use Rattle.tcp_replay.proofs.party.Party.acknowledge.Goals as goal

pub returns-clause-state : goal.returns-clause-state
unfolding party_after_acknowledge
returns-clause-state g c = grind (arith, common_steps)
