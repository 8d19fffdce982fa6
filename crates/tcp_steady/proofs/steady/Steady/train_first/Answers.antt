use Rattle.std.proofs.Common.{ℕ, ap, ◌∙◌}
use Rattle.std.specs.Prelude.{length}
use Rattle.tcp_conn.specs.TrainWithin.{train_within}
use Rattle.tcp_connection.specs.Wired.{insight}
use Rattle.tcp_end.specs.Wired.{machine}
use Rattle.tcp_flow.specs.Wired.{numbers_of}
use Rattle.tcp_repair.specs.Repairing.{after_train, train_by_emit}
use Rattle.tcp_repair.specs.Wired.{reports, start_of}
use Rattle.tcp_steady.specs.Steady.{agreed, flight_of, repaired_after_train, train_first}
use Rattle.tcp_steady.proofs.Paced.{emitted_by}
use Rattle.tcp_steady.proofs.steady.Steady.train_first.Goals as goal

pub returns-clause-state : goal.returns-clause-state
returns-clause-state g c =
    let k = g.W.Congestion.control in
    let s = c.args.self.now in
    let now = c.args.now in
    let window = c.args.window in
    let most = c.args.most in
    let room = length c.args.out.now in
    let paced = c.before_emission-paced.result in
    let same = ap (λ x. x.repairing) c.before_emission-paced.ensures.state in
    emitted_by k s c.before_emission-paced.new.self c.behind_emission.new.self now window c.flight_of-flight.result c.is_some.result c.emit_train-train.result
    (train_first k s now window most room) c.emit_train-train.new.self (repaired_after_train k s now window most room)
    c.before_emission-paced.ensures.state c.behind_emission.ensures
    (c.flight_of-flight.ensures ∙ ap flight_of c.end.ensures) c.is_some.ensures
    (c.emit_train-train.ensures.train
    ∙ ap (λ r. train_by_emit machine insight agreed (λ w window most room. train_within w.end window most room) k reports r now paced most room) same
    ∙ ap (λ (w : ℕ). train_by_emit machine insight agreed (λ w window most room. train_within w.end window most room) k reports s.repairing now w most room)
    c.before_emission-paced.ensures.window)
    (c.emit_train-train.ensures.state
    ∙ ap (λ r. after_train machine insight agreed (λ w window most room. train_within w.end window most room) start_of numbers_of k reports r now paced most room) same
    ∙ ap (λ (w : ℕ). after_train machine insight agreed (λ w window most room. train_within w.end window most room) start_of numbers_of k reports s.repairing now w most room)
    c.before_emission-paced.ensures.window)
