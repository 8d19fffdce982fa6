use Rattle.tcp_replay.proofs.Words.{arith, common_steps, party_after_abort}
use Rattle.tcp_replay.proofs.party.Party.abort.Goals as goal

pub returns-clause-state : goal.returns-clause-state
unfolding party_after_abort
returns-clause-state g c = grind (arith, common_steps)

pub returns-clause-outcome : goal.returns-clause-outcome
returns-clause-outcome g c = grind (arith, common_steps)
