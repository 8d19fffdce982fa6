use Rattle.tcp_replay.proofs.Words.{after_receive, arith, common_steps}
use Rattle.tcp_replay.proofs.run.Parties.{lent-text, received-state}
use Rattle.tcp_replay.proofs.growth.receive_to.Goals as goal

pub returns-then-count-eq0-clause-state : goal.returns-then-count-eq0-clause-state
returns-then-count-eq0-clause-state g c =
    received-state c.args.endpoint.now c.receive.new.self c.args.room _ (omega arith) c.receive.ensures.state

pub returns-in-Err-clause-state : goal.returns-in-Err-clause-state
unfolding after_receive
returns-in-Err-clause-state g c = grind (arith, common_steps)

pub returns-clause-state : goal.returns-clause-state
returns-clause-state g c =
    received-state c.args.endpoint.now c.consume.new.self c.args.room _ (omega arith) c.consume.ensures.state

pub returns-clause-delivered : goal.returns-clause-delivered
returns-clause-delivered g c =
    let text = lent-text c.args.endpoint.now c.args.room c.min-count.result c.in-Ok.lent.front.now c.in-Ok.lent.back.now
    (grind (arith, common_steps)) (grind (arith, common_steps)) (omega arith) in
    grind (arith, common_steps, text)
