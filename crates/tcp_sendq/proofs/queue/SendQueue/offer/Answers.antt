use Rattle.std.proofs.Common.{◌≡◌, ◌++◌, take, arith, ap, ◌∙◌}
use Rattle.std.proofs.lemmas.Grind.{common_steps}
use Rattle.tcp_sendq.specs.SendQueue.{after_offer, count_taken}
use Rattle.tcp_sendq.specs.Marks.{queue_of, lowered}
use Rattle.tcp_sendq.proofs.Calls.{offered}
use Rattle.tcp_sendq.proofs.queue.SendQueue.offer.Goals as goal

pub invariant_of-self : goal.invariant_of-self
invariant_of-self g c =
    let capacity : c.fill_from_slice.new.self.capacity ≡ c.self.inside.bytes.capacity = grind (arith, common_steps) in
    let bytes : c.fill_from_slice.new.self.items ≡ c.self.inside.bytes.items ++ take (count_taken (queue_of c.self.inside.most_runs c.self.inside.bytes.capacity c.self.inside.bytes.items (lowered c.self.inside.base c.self.inside.marks.table.items)) c.args.text.now) c.args.text.now = grind (arith, common_steps) in
    (rw (capacity, bytes) (offered c.args.text.now c.self.invariant.0).kept, c.self.invariant.1, c.self.invariant.2)

pub returns-clause-state : goal.returns-clause-state
returns-clause-state g c =
    let capacity : c.fill_from_slice.new.self.capacity ≡ c.self.inside.bytes.capacity = grind (arith, common_steps) in
    let bytes : c.fill_from_slice.new.self.items ≡ c.self.inside.bytes.items ++ take (count_taken (queue_of c.self.inside.most_runs c.self.inside.bytes.capacity c.self.inside.bytes.items (lowered c.self.inside.base c.self.inside.marks.table.items)) c.args.text.now) c.args.text.now = grind (arith, common_steps) in
    rw (capacity, bytes) ((offered c.args.text.now c.self.invariant.0).state ∙ ap (λ q. after_offer q c.args.text.now) c.self.view_is)

pub returns-clause-sound : goal.returns-clause-sound
returns-clause-sound g c =
    let capacity : c.fill_from_slice.new.self.capacity ≡ c.self.inside.bytes.capacity = grind (arith, common_steps) in
    let bytes : c.fill_from_slice.new.self.items ≡ c.self.inside.bytes.items ++ take (count_taken (queue_of c.self.inside.most_runs c.self.inside.bytes.capacity c.self.inside.bytes.items (lowered c.self.inside.base c.self.inside.marks.table.items)) c.args.text.now) c.args.text.now = grind (arith, common_steps) in
    rw (capacity, bytes) (offered c.args.text.now c.self.invariant.0).kept.sound
