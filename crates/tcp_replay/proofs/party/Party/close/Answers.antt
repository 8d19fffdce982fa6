use Rattle.tcp_replay.proofs.Words.{arith, common_steps, party_after_close}
use Rattle.tcp_replay.proofs.party.Party.close.Goals as goal

pub returns-clause-state : goal.returns-clause-state
unfolding party_after_close
returns-clause-state g c = grind (arith, common_steps)
