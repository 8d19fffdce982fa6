use Rattle.std.proofs.Common.{ℕ, ap, arith, ◌∙◌}
use Rattle.tcp_reasm.specs.Store.{Turned, turned, filled}
use Rattle.tcp_reasm.proofs.Rings.{put_nothing}
use Rattle.tcp_reasm.proofs.ring.Ring.reach.Goals as goal

pub returns-then-len-end-clause-bytes : goal.returns-then-len-end-clause-bytes
returns-then-len-end-clause-bytes g c =
    let capacity : ℕ = c.self.inside.capacity in
    ap (turned c.self.inside.start)
    (c.grow.ensures.bytes capacity (omega (arith, c.min-end.ensures)) ∙ put_nothing c.min-end.result (filled capacity c.self.inside.block.items))
    ∙ ap (λ (r : Turned). r.bytes) c.self.view_is
