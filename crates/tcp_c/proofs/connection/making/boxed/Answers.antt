use Rattle.std.proofs.Common.{◌≡◌, Ok, sym, ap, ◌∙◌}
use Rattle.region_heap.specs.declared.region.Region.{Region}
use Rattle.tcp_conn.specs.NewEnd.{end_with_runs}
use Rattle.tcp_conn.specs.State.{State}
use Rattle.tcp_driver.specs.Driver.{Driving}
use Rattle.tcp_end.specs.declared.wired.Wired.{Wired}
use Rattle.tcp_c.specs.Connections.{driven_from, opened}
use Rattle.tcp_c.proofs.Connected.{opened_as}
use Rattle.tcp_c.proofs.connection.making.boxed.Goals as goal

-- it is a connection of the end that was opened
pub returns-in-Ok-new-clause-new : goal.returns-in-Ok-new-clause-new
returns-in-Ok-new-clause-new c =
    let s = end_with_runs c.args.config c.args.runs in
    let o = c.args.opening in
    let is : opened s o ≡ Ok c.in-Ok-opened.end =
    sym (ap (λ (x : State). opened x o) c.in-Ok.ensures.new) ∙ sym c.opened.ensures ∙ c.in-Ok-opened.is in
    c.settled.ensures ∙ c.in-Ok-new.ensures.ok ∙ c.driven_from.ensures
    ∙ ap (λ (x : Driving (Wired Region)). driven_from x o.now) (opened_as s o.peer o.rules o.limits o.now c.in-Ok-opened.end is)
