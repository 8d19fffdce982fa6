use Rattle.std.proofs.Common.{◌≡◌, ◌≤◌, ◌+◌, length, drop, arith, ap, ◌∙◌}
use Rattle.std.proofs.lemmas.Grind.{common_steps}
use Rattle.tcp_sendq.specs.SendQueue.{after_release}
use Rattle.tcp_sendq.specs.Marks.{moved_down, lowered}
use Rattle.tcp_sendq.proofs.Bases.{cut-behind, lowered-cut, lowered-none, moved_down-behind, moved_down-lowered, raw_in_order}
use Rattle.tcp_sendq.proofs.Calls.{released}
use Rattle.tcp_sendq.proofs.queue.SendQueue.release.Goals as goal

pub invariant_of-self : goal.invariant_of-self
invariant_of-self g c =
    let capacity : c.truncate_front.new.self.capacity ≡ c.self.inside.bytes.capacity = grind (arith, common_steps) in
    let bytes : c.truncate_front.new.self.items ≡ drop c.args.n c.self.inside.bytes.items = grind (arith, common_steps) in
    let within : c.args.n ≤ length c.self.inside.bytes.items = grind (arith, common_steps) in
    let table : lowered 0 c.release.new.self.table.items ≡ moved_down c.args.n (lowered c.self.inside.base c.self.inside.marks.table.items) =
    lowered-none c.release.new.self.table.items ∙ (c.release.ensures.items ∙ moved_down-lowered c.self.inside.base c.args.n c.self.inside.marks.table.items) in (
      rw (capacity, bytes, table) (released c.args.n within c.self.invariant.0).kept,
      omega (arith, c.release.ensures.room, c.self.invariant.1),
      record { behind = rw c.release.ensures.items (moved_down-behind (c.self.inside.base + c.args.n) c.self.inside.marks.table.items); most = omega arith },
    )

pub returns-then-base-gt-MAX_BASE-clause-state : goal.returns-then-base-gt-MAX_BASE-clause-state
returns-then-base-gt-MAX_BASE-clause-state g c =
    let capacity : c.truncate_front.new.self.capacity ≡ c.self.inside.bytes.capacity = grind (arith, common_steps) in
    let bytes : c.truncate_front.new.self.items ≡ drop c.args.n c.self.inside.bytes.items = grind (arith, common_steps) in
    let within : c.args.n ≤ length c.self.inside.bytes.items = grind (arith, common_steps) in
    let table : lowered 0 c.release.new.self.table.items ≡ moved_down c.args.n (lowered c.self.inside.base c.self.inside.marks.table.items) =
    lowered-none c.release.new.self.table.items ∙ (c.release.ensures.items ∙ moved_down-lowered c.self.inside.base c.args.n c.self.inside.marks.table.items) in
    rw (capacity, bytes, table) ((released c.args.n within c.self.invariant.0).state ∙ ap (λ q. after_release q c.args.n) c.self.view_is)

pub returns-then-base-gt-MAX_BASE-clause-sound : goal.returns-then-base-gt-MAX_BASE-clause-sound
returns-then-base-gt-MAX_BASE-clause-sound g c = (invariant_of-self g c).0.sound

pub cut-requires : goal.cut-requires
cut-requires g c = raw_in_order c.self.inside.base 0 (length c.self.inside.bytes.items) c.self.inside.marks.table.items c.self.invariant.2.behind c.self.invariant.0.in_order

pub invariant_of-self-2 : goal.invariant_of-self-2
invariant_of-self-2 g c =
    let capacity : c.truncate_front.new.self.capacity ≡ c.self.inside.bytes.capacity = grind (arith, common_steps) in
    let bytes : c.truncate_front.new.self.items ≡ drop c.args.n c.self.inside.bytes.items = grind (arith, common_steps) in
    let within : c.args.n ≤ length c.self.inside.bytes.items = grind (arith, common_steps) in
    let base = c.self.inside.base in
    let raw = c.self.inside.marks.table.items in
    let order = raw_in_order base 0 (length c.self.inside.bytes.items) raw c.self.invariant.2.behind c.self.invariant.0.in_order in
    let table : lowered (base + c.args.n) c.cut.new.self.table.items ≡ moved_down c.args.n (lowered base raw) =
    ap (lowered (base + c.args.n)) c.cut.ensures.items ∙ lowered-cut base c.args.n raw order in (
      rw (capacity, bytes, table) (released c.args.n within c.self.invariant.0).kept,
      omega (arith, c.cut.ensures.room, c.self.invariant.1),
      record { behind = rw c.cut.ensures.items (cut-behind (base + c.args.n) raw order); most = omega arith },
    )

pub returns-clause-state : goal.returns-clause-state
returns-clause-state g c =
    let capacity : c.truncate_front.new.self.capacity ≡ c.self.inside.bytes.capacity = grind (arith, common_steps) in
    let bytes : c.truncate_front.new.self.items ≡ drop c.args.n c.self.inside.bytes.items = grind (arith, common_steps) in
    let within : c.args.n ≤ length c.self.inside.bytes.items = grind (arith, common_steps) in
    let base = c.self.inside.base in
    let raw = c.self.inside.marks.table.items in
    let table : lowered (base + c.args.n) c.cut.new.self.table.items ≡ moved_down c.args.n (lowered base raw) =
    ap (lowered (base + c.args.n)) c.cut.ensures.items
    ∙ lowered-cut base c.args.n raw (raw_in_order base 0 (length c.self.inside.bytes.items) raw c.self.invariant.2.behind c.self.invariant.0.in_order) in
    rw (capacity, bytes, table) ((released c.args.n within c.self.invariant.0).state ∙ ap (λ q. after_release q c.args.n) c.self.view_is)

pub returns-clause-sound : goal.returns-clause-sound
returns-clause-sound g c = (invariant_of-self-2 g c).0.sound
