use Rattle.std.proofs.Common.{◌-◌, Some, subst, sym, ap, ◌∙◌}
use Rattle.std.specs.Option.{option_map}
use Rattle.tcp_sendq.specs.SendQueue.{IsQueue, last_mark_end}
use Rattle.tcp_sendq.specs.Marks.{lowered}
use Rattle.tcp_sendq.proofs.Bases.{lowered-last}
use Rattle.tcp_sendq.proofs.Calls.{last_mark_end-queue_of, last_mark_end-last, last_mark_end-none}
use Rattle.tcp_sendq.proofs.queue.SendQueue.last_mark_end.Goals as goal

pub returns-in_err-end-clause-value : goal.returns-in_err-end-clause-value
returns-in_err-end-clause-value g c =
    let base = c.self.inside.base in
    let raw = c.self.inside.marks.table.items in
    c.from_residual.ensures
    ∙ (sym (lowered-last base raw ∙ ap (option_map (λ end. end - base)) (sym c.last_end.ensures ∙ c.in_err-end.was))
    ∙ (last_mark_end-queue_of c.self.inside.most_runs c.self.inside.bytes.capacity c.self.inside.bytes.items (lowered base raw) c.self.invariant.0 ∙ ap last_mark_end c.self.view_is))

pub returns-in_err-end-clause-none : goal.returns-in_err-end-clause-none
returns-in_err-end-clause-none g c =
    last_mark_end-none c.args.self.now c.from_residual.result (subst IsQueue c.self.view_is c.self.invariant.0.sound) (returns-in_err-end-clause-value g c)

pub returns-clause-value : goal.returns-clause-value
returns-clause-value g c =
    let base = c.self.inside.base in
    let raw = c.self.inside.marks.table.items in
    ap (λ end. Some end) c.saturating_sub.ensures
    ∙ (sym (lowered-last base raw ∙ ap (option_map (λ end. end - base)) (sym c.last_end.ensures ∙ c.in_ok-end.was))
    ∙ (last_mark_end-queue_of c.self.inside.most_runs c.self.inside.bytes.capacity c.self.inside.bytes.items (lowered base raw) c.self.invariant.0 ∙ ap last_mark_end c.self.view_is))

pub returns-clause-last : goal.returns-clause-last
returns-clause-last g c =
    last_mark_end-last c.args.self.now (Some c.saturating_sub.result) (subst IsQueue c.self.view_is c.self.invariant.0.sound) (returns-clause-value g c)

pub returns-clause-none : goal.returns-clause-none
returns-clause-none g c =
    last_mark_end-none c.args.self.now (Some c.saturating_sub.result) (subst IsQueue c.self.view_is c.self.invariant.0.sound) (returns-clause-value g c)
