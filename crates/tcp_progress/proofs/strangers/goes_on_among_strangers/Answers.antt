use Rattle.tcp_progress.proofs.laws.AmongStrangers.{bursts-among, halves-among, halves_had-among, left-among, not_stuck-among, opens-among, served-among}
use Rattle.tcp_progress.proofs.laws.AmongStrangers.{goes-on-with-runs, served_opens-among, turns-among}
use Rattle.tcp_progress.proofs.strangers.goes_on_among_strangers.Goals as goal

pub returns-clause-not_stuck : goal.returns-clause-not_stuck
returns-clause-not_stuck c = not_stuck-among

pub returns-clause-opens : goal.returns-clause-opens
returns-clause-opens c = opens-among

pub returns-clause-served : goal.returns-clause-served
returns-clause-served c = served-among

pub returns-clause-served_opens : goal.returns-clause-served_opens
returns-clause-served_opens c = served_opens-among

pub returns-clause-half_turns : goal.returns-clause-half_turns
returns-clause-half_turns c = halves-among

pub returns-clause-turns : goal.returns-clause-turns
returns-clause-turns c = turns-among

pub returns-clause-halves : goal.returns-clause-halves
returns-clause-halves c = halves_had-among

pub returns-clause-bursts : goal.returns-clause-bursts
returns-clause-bursts c = bursts-among

pub returns-clause-left : goal.returns-clause-left
returns-clause-left c = left-among

pub returns-clause-with_runs : goal.returns-clause-with_runs
returns-clause-with_runs c = goes-on-with-runs
