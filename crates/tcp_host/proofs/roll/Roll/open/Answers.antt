use Rattle.std.proofs.Common.{◌≡◌, ◌<◌, ℕ, List, length, set, sym, ap, subst, ◌∙◌}
use Rattle.tcp_table.specs.Turns.{after_adding}
use Rattle.tcp_host.proofs.Turned.{wait_as_before, wait_opened}
use Rattle.tcp_host.specs.Hosting.{EachWaits, due_of, new_guest}
use Rattle.tcp_host.specs.declared.guest.Guest.{Guest}
use Rattle.tcp_table.specs.declared.held.Held.{Held}
use Rattle.tcp_table.specs.Table.{held_at}
use Rattle.tcp_host.proofs.Due.{from_ok, put_back, timed_as_before, timed_opened}
use Rattle.tcp_host.specs.declared.pair.Pair.{Pair}
use Rattle.tcp_host.proofs.roll.Roll.open.Goals as goal

pub invariant_of-self-then-is_err : goal.invariant_of-self-then-is_err
invariant_of-self-then-is_err g c =
    let b = g.T.Timed.behaviour in
    let e = c.make_room.ensures in
    let ends = c.self.inside.ends in
    let new = c.remove.new.self in
    let same = put_back ends c.insert.new.self new c.in-Ok.id.slot _ c.in-Ok.ensures.changes c.in-Ok.ensures.was_free c.remove.ensures.changes in
    let waits = wait_as_before b ends new c.self.inside.turns.queue c.self.invariant.1 same in (
      timed_as_before b ends c.self.inside.deadlines c.self.inside.turns.room c.self.invariant.0 new c.make_room.new.deadlines
          c.make_room.new.turns.room same e.due e.longer e.roomier,
      subst (λ (queue : List ℕ). EachWaits b new queue) (sym e.queue) waits,
    )

pub returns-then-is_err-clause-err : goal.returns-then-is_err-clause-err
returns-then-is_err-clause-err g c at =
    put_back c.self.inside.ends c.insert.new.self c.remove.new.self c.in-Ok.id.slot _ c.in-Ok.ensures.changes c.in-Ok.ensures.was_free c.remove.ensures.changes at
    ∙ ap (λ h. held_at h.ends at) c.self.view_is

pub invariant_of-self-2 : goal.invariant_of-self-2
invariant_of-self-2 g c =
    let b = g.T.Timed.behaviour in
    let e = c.make_room.ensures in
    let slot = c.in-Ok.id.slot in
    let after = c.make_room.new.deadlines in
    let more : ℕ = c.make_room.new.turns.room in
    let held : Held Pair (Guest g.row.T.Denot) = record { key = c.args.pair; number = c.in-Ok.id.number; value = new_guest c.args.end c.args.origin } in
    let timed : slot < length after = from_ok c.make_room.result (slot < length after) c.if-is_err.ensures.negation e.timed in
    let roomy : slot < more = from_ok c.make_room.result (slot < more) c.if-is_err.ensures.negation e.roomy in
    let is = timed_opened b c.self.inside.ends c.self.inside.deadlines c.self.inside.turns.room c.self.invariant.0 c.insert.new.self after more slot held
    c.in-Ok.ensures.changes e.due e.longer e.roomier timed roomy in
    let due : c.set.new.self ≡ set after slot (due_of b (new_guest c.args.end c.args.origin)) = c.set.ensures ∙ ap (set after slot) c.due-deadline.ensures in
    let room : c.add.new.self.room ≡ more = ap (λ t. t.room) c.add.ensures in
    let waits = wait_opened b c.self.inside.ends c.insert.new.self slot held c.self.inside.turns.queue c.self.invariant.1 c.in-Ok.ensures.changes in
    let queue : c.add.new.self.queue ≡ after_adding c.self.inside.turns.queue slot =
    ap (λ t. t.queue) c.add.ensures ∙ ap (λ (q : List ℕ). after_adding q slot) e.queue in
    (rw (due, room) is, subst (λ (q : List ℕ). EachWaits b c.insert.new.self q) (sym queue) waits)
