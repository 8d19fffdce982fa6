use Rattle.tcp_replay.proofs.Words.{rules}
use Rattle.tcp_replay.proofs.party.deliver.Goals as goal

pub returns-clause-state : goal.returns-clause-state
returns-clause-state g c = search rules

pub returns-clause-outcome : goal.returns-clause-outcome
returns-clause-outcome g c = search rules
