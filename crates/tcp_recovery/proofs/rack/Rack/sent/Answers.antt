use Rattle.std.proofs.Common.{◌+◌, ◌/◌, ◌∙◌, ap, arith}
use Rattle.std.specs.Prelude.{max}
use Rattle.tcp_recovery.specs.declared.rack.Rack.TheInside.{Inside}
use Rattle.tcp_recovery.specs.Rack.{Flight}
use Rattle.tcp_recovery.proofs.Flights.{flight-again, flight-new, has_room}
use Rattle.tcp_recovery.proofs.rack.Rack.sent.Goals as goal
use Rattle.tcp_recovery.proofs.rack.Rack.sent.Goals.{then-self-start, else-self-start}

pub place_again-requires : goal.place_again-requires
place_again-requires c =
    has_room (record { stretches = c.self.inside.stretches.items; next = c.self.inside.next; delivered = c.self.inside.delivered })
    c.args.start (c.args.start + c.args.count) c.self.invariant (omega arith)

pub invariant_of-self : goal.invariant_of-self
invariant_of-self c =
    let f : Flight = record { stretches = c.self.inside.stretches.items; next = c.self.inside.next; delivered = c.self.inside.delivered } in
    elim c.if-self-start.branch [
      | then-self-start w ↦
          let is = w.self-inside-is in
          flight-new f c.if-self-start.self-inside.stretches.items c.max-self-inside.result c.if-self-start.self-inside.delivered c.args.start
          (c.args.start + c.args.count) c.args.now (c.args.min_rtt / 64) c.self.invariant w.if-self-start.true (omega arith)
          (ap (λ (i : Inside). i.stretches.items) is ∙ w.place_new.ensures)
          (c.max-self-inside.ensures ∙ ap (λ (i : Inside). max i.next (c.args.start + c.args.count)) is)
      | else-self-start w ↦
          let is = w.self-inside-is in
          flight-again f c.if-self-start.self-inside.stretches.items c.max-self-inside.result c.if-self-start.self-inside.delivered c.args.start
          (c.args.start + c.args.count) c.args.now c.self.invariant (omega arith)
          (ap (λ (i : Inside). i.stretches.items) is ∙ w.place_again.ensures)
          (c.max-self-inside.ensures ∙ ap (λ (i : Inside). max i.next (c.args.start + c.args.count)) is)
    ]
