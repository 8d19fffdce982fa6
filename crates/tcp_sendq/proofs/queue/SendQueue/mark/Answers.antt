use Rattle.std.proofs.Common.{◌≡◌, ◌≤◌, length, arith, ap, sym, subst, ◌∙◌, if◌then◌else◌}
use Rattle.std.specs.Prelude.{nat_le}
use Rattle.std.proofs.lemmas.Grind.{common_steps}
use Rattle.tcp_sendq.specs.SendQueue.{after_mark, can_mark, IsQueue}
use Rattle.tcp_sendq.specs.Marks.{interval, joined, lowered}
use Rattle.tcp_sendq.proofs.Bases.{length-joined_low, length-lowered, lowered-marked, marked-end_behind, raw_in_order}
use Rattle.tcp_sendq.proofs.Calls.{marked, can_mark-queue_of, marked_runs, marked_places}
use Rattle.tcp_sendq.proofs.Intervals.{count_runs-marks_of}
use Rattle.tcp_sendq.proofs.queue.SendQueue.mark.Goals as goal

pub mark-requires-clause-in_order : goal.mark-requires-clause-in_order
mark-requires-clause-in_order g c = raw_in_order c.self.inside.base 0 (length c.self.inside.bytes.items) c.self.inside.marks.table.items c.self.invariant.2.behind c.self.invariant.0.in_order

pub mark-requires-clause-few : goal.mark-requires-clause-few
mark-requires-clause-few g c =
    omega (arith, c.self.invariant.0.sound.few_runs, length-lowered c.self.inside.base c.self.inside.marks.table.items, count_runs-marks_of (lowered c.self.inside.base c.self.inside.marks.table.items) (length c.self.inside.bytes.items) c.self.invariant.0.in_order)

-- what the call does to the offsets
value : (g : _) (c : goal.After-mark g) → c.mark.result ≡ nat_le (length (joined (interval c.args.from c.args.to) (lowered c.self.inside.base c.self.inside.marks.table.items))) c.self.inside.most_runs
value g c = c.mark.ensures.value ∙ ap (λ n. nat_le n c.self.inside.most_runs) (length-joined_low c.self.inside.base c.args.from c.args.to c.self.inside.marks.table.items c.self.invariant.2.behind)

table : (g : _) (c : goal.After-mark g) → lowered c.self.inside.base c.mark.new.self.table.items ≡ (if c.mark.result then joined (interval c.args.from c.args.to) (lowered c.self.inside.base c.self.inside.marks.table.items) else lowered c.self.inside.base c.self.inside.marks.table.items)
table g c = ap (lowered c.self.inside.base) c.mark.ensures.state ∙ lowered-marked c.self.inside.base c.args.from c.args.to c.mark.result c.self.inside.marks.table.items c.self.invariant.2.behind

pub invariant_of-self : goal.invariant_of-self
invariant_of-self g c =
    let within : c.args.to ≤ length c.self.inside.bytes.items = grind (arith, common_steps) in (
      rw (table g c) (marked c.args.from c.args.to c.mark.result c.requires.ordered within c.self.invariant.0 (value g c)).kept,
      omega (arith, c.mark.ensures.room, c.self.invariant.1),
      record { behind = rw c.mark.ensures.state (marked-end_behind c.self.inside.base c.args.from c.args.to c.mark.result c.self.inside.marks.table.items c.requires.ordered c.self.invariant.2.behind); most = c.self.invariant.2.most },
    )

pub returns-clause-state : goal.returns-clause-state
returns-clause-state g c =
    let within : c.args.to ≤ length c.self.inside.bytes.items = grind (arith, common_steps) in
    rw (table g c) ((marked c.args.from c.args.to c.mark.result c.requires.ordered within c.self.invariant.0 (value g c)).state ∙ ap (λ q. after_mark q c.args.from c.args.to) c.self.view_is)

pub returns-clause-sound : goal.returns-clause-sound
returns-clause-sound g c =
    let within : c.args.to ≤ length c.self.inside.bytes.items = grind (arith, common_steps) in
    rw (table g c) (marked c.args.from c.args.to c.mark.result c.requires.ordered within c.self.invariant.0 (value g c)).kept.sound

pub returns-clause-value : goal.returns-clause-value
returns-clause-value g c =
    let within : c.args.to ≤ length c.self.inside.bytes.items = grind (arith, common_steps) in
    value g c
    ∙ (sym (can_mark-queue_of c.self.inside.most_runs c.self.inside.bytes.capacity c.self.inside.bytes.items (lowered c.self.inside.base c.self.inside.marks.table.items) c.args.from c.args.to c.requires.ordered within c.self.invariant.0)
    ∙ ap (λ q. can_mark q c.args.from c.args.to) c.self.view_is)

pub returns-clause-runs : goal.returns-clause-runs
returns-clause-runs g c = marked_runs c.args.self.now c.args.from c.args.to c.mark.result (returns-clause-value g c)

pub returns-clause-places : goal.returns-clause-places
returns-clause-places g c =
    marked_places c.args.self.now _ c.args.from c.args.to c.mark.result (returns-clause-state g c) (returns-clause-value g c) c.requires.ordered c.requires.within (subst IsQueue c.self.view_is c.self.invariant.0.sound)
