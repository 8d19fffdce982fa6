use Rattle.std.proofs.Common.{◌≤◌, ℕ, List, ap, arith, ◌∙◌, inl, inr, length, take, drop, ◌++◌}
use Rattle.tcp_reasm.specs.Store.{filled, Turned}
use Rattle.tcp_reasm.proofs.Rings.{further_on, length_filled, length_turned}
use Rattle.tcp_reasm.proofs.ring.Ring.advance.Goals as goal
use Rattle.tcp_reasm.proofs.ring.Ring.advance.Goals.{then-count-until_end, else-count-until_end}

pub returns-clause-bytes : goal.returns-clause-bytes
returns-clause-bytes g c =
    let capacity : ℕ = c.self.inside.capacity in
    let start : ℕ = c.self.inside.start in
    let count : ℕ = c.args.count in
    let block : List ℕ = filled capacity c.self.inside.block.items in
    let size = length_filled capacity c.self.inside.block.items c.self.invariant.within in
    let fits : count ≤ capacity = omega (arith, c.requires, ap length (ap (λ (r : Turned). r.bytes) c.self.view_is), length_turned start block, size) in
    further_on start count capacity c.if-count-until_end.self block size c.self.invariant.starts fits (elim c.if-count-until_end.branch [
      | then-count-until_end w ↦ inl (omega (arith, w.if-count-until_end.true), w.self-is)
      | else-count-until_end w ↦ inr (omega (arith, w.if-count-until_end.false), omega (arith, w.self-is))
    ])
    ∙ ap (λ (bytes : List ℕ). drop count bytes ++ take count bytes) (ap (λ (r : Turned). r.bytes) c.self.view_is)
