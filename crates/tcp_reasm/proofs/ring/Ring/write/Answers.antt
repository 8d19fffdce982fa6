use Rattle.std.proofs.Common.{◌≡◌, ◌+◌, ◌-◌, ℕ, List, arith, ap, ◌∙◌, length}
use Rattle.tcp_reasm.specs.Store.{IsRing, Turned, turned, put, filled}
use Rattle.tcp_reasm.proofs.Rings.{turned_put_before, turned_put_split, turned_put_after, ring_written, length_filled, length_turned}
use Rattle.tcp_reasm.proofs.ring.Ring.write.Goals as goal

-- the bytes' count, as the ring is seen and as it is kept
sizes : (room capacity start : ℕ) (written seen : List ℕ) → IsRing room capacity start written → turned start (filled capacity written) ≡ seen → (length (filled capacity written) ≡ capacity) × (length seen ≡ capacity)
sizes room capacity start written seen ring view_is =
    let size = length_filled capacity written ring.within in
    (size, omega (arith, ap length view_is, length_turned start (filled capacity written), size))

pub invariant_of-self : goal.invariant_of-self
invariant_of-self g c =
    let capacity : ℕ = c.self.inside.capacity in
    let at : ℕ = c.self.inside.start + c.args.place in
    ring_written _ _ capacity _ at c.args.text.now _ _ c.self.invariant c.write_at.ensures.capacity (c.write_at.ensures.bytes capacity (omega (arith, c.if-place-text.true, c.self.invariant.starts)))

pub invariant_of-self-then-place-until_end : goal.invariant_of-self-then-place-until_end
invariant_of-self-then-place-until_end g c =
    let capacity : ℕ = c.self.inside.capacity in
    let at : ℕ = c.self.inside.start + c.args.place in
    let both = sizes _ capacity _ _ _ c.self.invariant (ap (λ (r : Turned). r.bytes) c.self.view_is) in
    let front = c.write_at-then-place-until_end.ensures.bytes capacity (omega (arith, c.split_at.ensures.front_len, c.if-place-text.false, c.if-place-until_end.true, c.self.invariant.starts)) in
    let back = c.write_at-then-place-until_end-2.ensures.bytes capacity (omega (arith, c.split_at.ensures.back_len, c.requires, both.1)) in
    ring_written _ _ capacity _ 0 c.split_at.result.1.now _ _
    (ring_written _ _ capacity _ at c.split_at.result.0.now _ _ c.self.invariant c.write_at-then-place-until_end.ensures.capacity front)
    c.write_at-then-place-until_end-2.ensures.capacity back

pub invariant_of-self-else-place-until_end : goal.invariant_of-self-else-place-until_end
invariant_of-self-else-place-until_end g c =
    let capacity : ℕ = c.self.inside.capacity in
    let at : ℕ = c.args.place - (capacity - c.self.inside.start) in
    let both = sizes _ capacity _ _ _ c.self.invariant (ap (λ (r : Turned). r.bytes) c.self.view_is) in
    ring_written _ _ capacity _ at c.args.text.now _ _ c.self.invariant c.write_at-else-place-until_end.ensures.capacity (c.write_at-else-place-until_end.ensures.bytes capacity (omega (arith, c.requires, both.1)))

pub returns-then-place-text-clause-bytes : goal.returns-then-place-text-clause-bytes
returns-then-place-text-clause-bytes g c =
    let capacity : ℕ = c.self.inside.capacity in
    let start : ℕ = c.self.inside.start in
    let text : List ℕ = c.args.text.now in
    let block : List ℕ = filled capacity c.self.inside.block.items in
    let both = sizes _ capacity _ _ _ c.self.invariant (ap (λ (r : Turned). r.bytes) c.self.view_is) in
    turned_put_before start c.args.place text block (filled capacity c.write_at.new.block.items) (omega (arith, c.if-place-text.true, both.0))
    (c.write_at.ensures.bytes capacity (omega (arith, c.if-place-text.true, c.self.invariant.starts)))
    ∙ ap (put c.args.place text) (ap (λ (r : Turned). r.bytes) c.self.view_is)

pub returns-then-place-until_end-clause-bytes : goal.returns-then-place-until_end-clause-bytes
returns-then-place-until_end-clause-bytes g c =
    let capacity : ℕ = c.self.inside.capacity in
    let start : ℕ = c.self.inside.start in
    let place : ℕ = c.args.place in
    let text : List ℕ = c.args.text.now in
    let block : List ℕ = filled capacity c.self.inside.block.items in
    let middle : List ℕ = filled capacity c.write_at-then-place-until_end.new.block.items in
    let room : ℕ = capacity - start - place in
    let both = sizes _ capacity _ _ _ c.self.invariant (ap (λ (r : Turned). r.bytes) c.self.view_is) in
    let front = c.write_at-then-place-until_end.ensures.bytes capacity (omega (arith, c.split_at.ensures.front_len, c.if-place-text.false, c.if-place-until_end.true, c.self.invariant.starts)) in
    let back = c.write_at-then-place-until_end-2.ensures.bytes capacity (omega (arith, c.split_at.ensures.back_len, c.requires, both.1)) in
    turned_put_split start place room text block middle (filled capacity c.write_at-then-place-until_end-2.new.block.items) (omega (arith, c.if-place-until_end.true, both.0)) (omega (arith, both.0, c.self.invariant.starts)) (omega (arith, c.requires, both.0, both.1))
    (front ∙ ap (λ (part : List ℕ). put (start + place) part block) c.split_at.ensures.front)
    (back ∙ ap (λ (part : List ℕ). put 0 part middle) c.split_at.ensures.back)
    ∙ ap (put place text) (ap (λ (r : Turned). r.bytes) c.self.view_is)

pub returns-else-place-until_end-clause-bytes : goal.returns-else-place-until_end-clause-bytes
returns-else-place-until_end-clause-bytes g c =
    let capacity : ℕ = c.self.inside.capacity in
    let start : ℕ = c.self.inside.start in
    let text : List ℕ = c.args.text.now in
    let block : List ℕ = filled capacity c.self.inside.block.items in
    let both = sizes _ capacity _ _ _ c.self.invariant (ap (λ (r : Turned). r.bytes) c.self.view_is) in
    turned_put_after start c.args.place (c.args.place - (capacity - start)) text block (filled capacity c.write_at-else-place-until_end.new.block.items)
    (omega (arith, c.if-place-until_end.false, both.0)) (omega (arith, both.0, c.self.invariant.starts)) (omega (arith, c.requires, both.0, both.1))
    (c.write_at-else-place-until_end.ensures.bytes capacity (omega (arith, c.requires, both.1)))
    ∙ ap (put c.args.place text) (ap (λ (r : Turned). r.bytes) c.self.view_is)
