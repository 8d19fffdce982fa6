use Rattle.tcp_replay.proofs.Words.{arith, common_steps, party_after_arrival}
use Rattle.tcp_replay.proofs.party.Party.take_in.Goals as goal

pub returns-clause-state : goal.returns-clause-state
unfolding party_after_arrival
returns-clause-state g c = grind (arith, common_steps)

pub returns-clause-answer : goal.returns-clause-answer
returns-clause-answer g c = grind (arith, common_steps)
