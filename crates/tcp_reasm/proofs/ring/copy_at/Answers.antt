use Rattle.std.proofs.Common.{◌≡◌, ◌+◌, ◌-◌, ℕ, List, arith, ap, sym, ◌∙◌, length, take, drop, append-nil}
use Rattle.tcp_reasm.proofs.Rings.{read_filled}
use Rattle.tcp_reasm.proofs.ring.copy_at.Goals as goal

pub returns-then-end-block : goal.returns-then-end-block
returns-then-end-block c = λ n fits.
    let at : ℕ = c.args.at in
    let count : ℕ = length c.args.out.now in
    let size : at + count - at ≡ count = omega arith in
    let rest : List ℕ = drop at c.args.block.now in
    c.copy_from_slice.ensures.after
    ∙ ap (λ k. take k rest) size
    ∙ sym (append-nil (take count rest))
    ∙ read_filled count 0 at n c.args.block.now (omega (arith, c.if-end-block.true)) fits
