use Rattle.std.proofs.Common.{◌≡◌, ◌-◌, ◌++◌, ℕ, List, arith, ap, ◌∙◌, length, take, drop, length-drop}
use Rattle.std.specs.Prelude.{min, replicate}
use Rattle.std.proofs.lemmas.List.{take_all}
use Rattle.tcp_reasm.proofs.Rings.{read_filled, take_least, drop_least}
use Rattle.tcp_reasm.proofs.ring.copy_behind.Goals as goal

pub returns : goal.returns
returns c = λ n fits.
    let block : List ℕ = c.args.block.now in
    let at : ℕ = c.args.at in
    let count : ℕ = length c.args.out.now in
    let left : ℕ = length c.split_at_mut-front.result.1.now in
    let behind : List ℕ = take (length block - c.min.result) (drop c.min.result block) in
    let rest : behind ≡ drop at block = take_all (length block - c.min.result) (drop c.min.result block) (omega (arith, length-drop c.min.result block)) ∙ drop_least c.min.result at block c.min.ensures in
    let is_count : c.min-count.result ≡ min (length (drop at block)) count = c.min-count.ensures ∙ ap (λ (bytes : List ℕ). min (length bytes) count) rest in
    let front : c.copy_from_slice.new.self ≡ take count (drop at block) =
    c.copy_from_slice.ensures.after ∙ ap (take c.min-count.result) rest ∙ take_least c.min-count.result count (drop at block) is_count in
    let back : c.fill.new.self ≡ replicate left 0 = c.fill.ensures.after (λ y is. is) in
    ap (λ (bytes : List ℕ). bytes ++ c.fill.new.self) front
    ∙ ap (λ (bytes : List ℕ). take count (drop at block) ++ bytes) back
    ∙ read_filled count left at n block (omega (arith, is_count, length-drop at block, c.split_at_mut-front.ensures.back_len)) fits
