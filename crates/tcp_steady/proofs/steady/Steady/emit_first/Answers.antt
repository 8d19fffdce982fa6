use Rattle.std.proofs.Common.{ℕ, ap, ◌∙◌}
use Rattle.tcp_connection.specs.Wired.{insight}
use Rattle.tcp_end.specs.declared.wired.Wired.{Wired}
use Rattle.tcp_end.specs.Wired.{machine}
use Rattle.tcp_repair.specs.Repairing.{Repaired, after_emit, sent_by_emit}
use Rattle.tcp_repair.specs.Wired.{reports}
use Rattle.tcp_steady.specs.declared.steady.Steady.{Steady}
use Rattle.tcp_steady.specs.Steady.{agreed, flight_of, repaired_after_emit, sent_first}
use Rattle.tcp_steady.proofs.Paced.{emitted_by}
use Rattle.tcp_steady.proofs.steady.Steady.emit_first.Goals as goal

pub returns-clause-state : goal.returns-clause-state
returns-clause-state g c =
    let k = g.W.Congestion.control in
    let s = c.args.self.now in
    let now = c.args.now in
    let window = c.args.window in
    let same = ap (λ x. x.repairing) c.before_emission-paced.ensures.state in
    emitted_by k s c.before_emission-paced.new.self c.behind_emission.new.self now window c.flight_of-flight.result c.is_some.result c.emit-sent.result
    (sent_first k s now window) c.emit-sent.new.self (repaired_after_emit k s now window) c.before_emission-paced.ensures.state c.behind_emission.ensures
    (c.flight_of-flight.ensures ∙ ap flight_of c.end.ensures) c.is_some.ensures
    (c.emit-sent.ensures.sent ∙ ap (λ r. sent_by_emit machine insight agreed k reports r now c.before_emission-paced.result) same
    ∙ ap (λ (w : ℕ). sent_by_emit machine insight agreed k reports s.repairing now w) c.before_emission-paced.ensures.window)
    (c.emit-sent.ensures.state ∙ ap (λ r. after_emit machine insight agreed k reports r now c.before_emission-paced.result) same
    ∙ ap (λ (w : ℕ). after_emit machine insight agreed k reports s.repairing now w) c.before_emission-paced.ensures.window)
