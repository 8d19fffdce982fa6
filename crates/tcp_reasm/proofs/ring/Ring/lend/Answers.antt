use Rattle.std.proofs.Common.{◌≡◌, ◌≤◌, ◌<◌, ◌-◌, ◌+◌, ◌++◌, [], ℕ, List, ap, arith, ◌∙◌, length, take, drop}
use Rattle.std.proofs.lemmas.Bool.Decides.{nat_tests}
use Rattle.tcp_reasm.specs.Store.{Turned, ready_from, turned, filled}
use Rattle.tcp_reasm.proofs.Rings.{lent_before, lent_over, length_turned, length_filled}
use Rattle.tcp_reasm.proofs.ring.Ring.lend.Goals as goal

-- what is ready up to the block's end was written, and what is ready over it lies in a full block
ready_before : (start capacity written count : ℕ) → 0 < count → count ≤ ready_from start capacity written → count ≤ capacity - start → start + count ≤ written
ready_before start capacity written count some ready before = grind (arith, nat_tests)

ready_over : (start capacity written count : ℕ) → count ≤ ready_from start capacity written → capacity - start < count → written ≤ capacity → written ≡ capacity
ready_over start capacity written count ready over within = grind (arith, nat_tests)

-- what is seen, as it is kept
seen_size : (start capacity : ℕ) (block : List ℕ) (seen : Turned) → turned start (filled capacity block) ≡ seen.bytes → length block ≤ capacity → length seen.bytes ≡ capacity
seen_size start capacity block seen is within =
    omega (arith, ap length is, length_turned start (filled capacity block), length_filled capacity block within)

pub returns-else-until_end-eq0-clause-bytes : goal.returns-else-until_end-eq0-clause-bytes
returns-else-until_end-eq0-clause-bytes g c =
    let start : ℕ = c.self.inside.start in
    let capacity : ℕ = c.self.inside.capacity in
    let block : List ℕ = c.self.inside.block.items in
    let past : ℕ = c.args.count - (capacity - start) in
    let ready : c.args.count ≤ ready_from start capacity (length block) = omega (arith, c.requires.ready, ap (λ (r : Turned). r.ready) c.self.view_is) in
    let size = seen_size start capacity block c.args.self.now (ap (λ (r : Turned). r.bytes) c.self.view_is) c.self.invariant.within in
    let full = ready_over start capacity (length block) c.args.count ready c.if-count-until_end.false c.self.invariant.within in
    ap (λ (bytes : List ℕ). take (length bytes - start) (drop start bytes) ++ take past c.deref-else-until_end-eq0-2.result.now) c.deref-else-until_end-eq0.ensures.value
    ∙ ap (λ (bytes : List ℕ). take (length block - start) (drop start block) ++ take past bytes) c.deref-else-until_end-eq0-2.ensures.value
    ∙ lent_over start c.args.count past capacity block full c.self.invariant.starts (omega (arith, c.if-count-until_end.false)) (omega (arith, c.requires.inside, size, c.self.invariant.starts))
    ∙ ap (λ (r : Turned). take c.args.count r.bytes) c.self.view_is

pub returns-then-count-until_end-clause-bytes : goal.returns-then-count-until_end-clause-bytes
returns-then-count-until_end-clause-bytes g c =
    let start : ℕ = c.self.inside.start in
    let capacity : ℕ = c.self.inside.capacity in
    let block : List ℕ = c.self.inside.block.items in
    let size : start + c.args.count - start ≡ c.args.count = omega arith in
    let ready : c.args.count ≤ ready_from start capacity (length block) = omega (arith, c.requires.ready, ap (λ (r : Turned). r.ready) c.self.view_is) in
    let some : 0 < c.args.count = omega (arith, c.if-count-eq0.false) in
    ap (λ n. take n (drop start c.deref.result.now) ++ []) size
    ∙ ap (λ (bytes : List ℕ). take c.args.count (drop start bytes) ++ []) c.deref.ensures.value
    ∙ lent_before start c.args.count capacity block (ready_before start capacity (length block) c.args.count some ready c.if-count-until_end.true) c.self.invariant.within
    ∙ ap (λ (r : Turned). take c.args.count r.bytes) c.self.view_is
