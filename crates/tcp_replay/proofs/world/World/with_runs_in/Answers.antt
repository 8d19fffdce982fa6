use Rattle.tcp_replay.proofs.Words.{party_with_runs, ◌≡◌}
use Rattle.tcp_replay.proofs.{run.Parties.fault-of_a, run.Parties.fault-of_b, run.Parties.fault-of_none, run.Worlds.sound-new}
use Rattle.tcp_replay.proofs.world.World.with_runs_in.Goals as goal

-- what two good Configs make is sound
pub invariant_of-result : goal.invariant_of-result
invariant_of-result g c =
    let first : c.in-Ok.party ≡ party_with_runs c.args.a c.args.runs_a = c.in-Ok.ensures.new in
    let second : c.in-Ok-new_in.party ≡ party_with_runs c.args.b c.args.runs_b = c.in-Ok-new_in.ensures.new in
    rw (first, second) (sound-new c.args.life c.args.a c.args.b c.args.runs_a c.args.runs_b c.requires.most c.in-Ok.ensures.made c.in-Ok-new_in.ensures.made)

pub returns-in-Err-clause-fault : goal.returns-in-Err-clause-fault
returns-in-Err-clause-fault g c =
    let e = c.in-Err.ensures in
    fault-of_a c.args.a c.args.b c.in-Err.fault (record { capacity = e.bad_capacity; mss = e.bad_mss; shift = e.bad_shift; limit = e.bad_limit; good = e.good })

pub returns-in-Err-new_in-clause-fault : goal.returns-in-Err-new_in-clause-fault
returns-in-Err-new_in-clause-fault g c =
    let e = c.in-Err-new_in.ensures in
    fault-of_b c.args.a c.args.b c.in-Err-new_in.fault c.in-Ok.ensures.made.good
    (record { capacity = e.bad_capacity; mss = e.bad_mss; shift = e.bad_shift; limit = e.bad_limit; good = e.good })

pub returns-clause-fault : goal.returns-clause-fault
returns-clause-fault g c = fault-of_none c.args.a c.args.b _ c.in-Ok.ensures.made.good
