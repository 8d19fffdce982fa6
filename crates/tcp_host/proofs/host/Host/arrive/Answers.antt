use Rattle.tcp_host.proofs.host.Host.arrive.Goals as goal

pub returns-clause-taken : goal.returns-clause-taken
returns-clause-taken g c = c.take.ensures.taken

pub returns-clause-state : goal.returns-clause-state
returns-clause-state g c = c.take.ensures.state

pub returns-clause-turn : goal.returns-clause-turn
returns-clause-turn g c = c.take.ensures.turn

pub returns-clause-announces : goal.returns-clause-announces
returns-clause-announces g c = c.take.ensures.announces

pub returns-clause-records_rest : goal.returns-clause-records_rest
returns-clause-records_rest g c = c.take.ensures.records_rest

pub returns-clause-others : goal.returns-clause-others
returns-clause-others g c = c.take.ensures.others

pub returns-clause-late : goal.returns-clause-late
returns-clause-late g c = c.take.ensures.late

pub returns-clause-record : goal.returns-clause-record
returns-clause-record g c = c.take.ensures.record

pub returns-clause-answer : goal.returns-clause-answer
returns-clause-answer g c = c.take.ensures.answer

pub returns-clause-ends_rest : goal.returns-clause-ends_rest
returns-clause-ends_rest g c = c.take.ensures.ends_rest

pub returns-clause-other_records : goal.returns-clause-other_records
returns-clause-other_records g c = c.take.ensures.other_records

pub returns-clause-listeners : goal.returns-clause-listeners
returns-clause-listeners g c = c.take.ensures.listeners

pub returns-clause-other_listeners : goal.returns-clause-other_listeners
returns-clause-other_listeners g c = c.take.ensures.other_listeners

pub returns-clause-stands : goal.returns-clause-stands
returns-clause-stands g c = c.take.ensures.stands

pub returns-clause-none : goal.returns-clause-none
returns-clause-none g c = c.take.ensures.none

pub returns-clause-listening : goal.returns-clause-listening
returns-clause-listening g c = c.take.ensures.listening

pub returns-clause-stray : goal.returns-clause-stray
returns-clause-stray g c = c.take.ensures.stray

pub returns-clause-short : goal.returns-clause-short
returns-clause-short g c = c.take.ensures.short
