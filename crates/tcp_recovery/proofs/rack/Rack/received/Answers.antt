use Rattle.std.proofs.Common.{arith}
use Rattle.tcp_recovery.proofs.Flights.{flight-without}
use Rattle.tcp_recovery.proofs.rack.Rack.received.Goals as goal

pub after_all-self-inside-requires : goal.after_all-self-inside-requires
after_all-self-inside-requires c = (c.self.inside.next, rw c.as_slice.ensures.value c.self.invariant.order)

pub remove-requires : goal.remove-requires
remove-requires c = record { order = (c.self.inside.next, c.self.invariant.order); some = omega arith; few = c.self.invariant.few }

pub invariant_of-self : goal.invariant_of-self
invariant_of-self c =
    flight-without (record { stretches = c.self.inside.stretches.items; next = c.self.inside.next; delivered = c.self.inside.delivered })
    c.remove.new.all.items _ c.args.start c.min-end.result c.self.invariant (omega arith) (omega arith) c.remove.ensures
