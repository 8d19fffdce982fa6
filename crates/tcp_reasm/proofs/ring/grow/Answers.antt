use Rattle.std.proofs.Common.{◌≡◌, ◌-◌, ◌++◌, ℕ, List, arith, ap, ◌∙◌, length, take}
use Rattle.std.specs.Prelude.{replicate, if◌then◌else◌}
use Rattle.tcp_reasm.specs.Store.{filled}
use Rattle.tcp_reasm.proofs.Rings.{length_reached, filled_behind}
use Rattle.tcp_reasm.proofs.ring.grow.Goals as goal

pub returns-clause-bytes : goal.returns-clause-bytes
returns-clause-bytes g c = λ n fits.
    let at : ℕ = c.args.at in
    let text : List ℕ = c.args.text.now in
    let bytes : List ℕ = c.args.block.now.items in
    let reached : List ℕ = take at bytes ++ replicate (at - length bytes) 0 in
    let len : c.args.block.now.len ≡ length bytes = c.args.block.now.ok.0 in
    let is_reached : c.resize.new.self.items ≡ reached =
    c.resize.ensures.items
    ∙ ap (λ b. if b then take at bytes ++ replicate {A = ℕ} (at - c.args.block.now.len) 0 else bytes) (c.resize.ensures.succeeds (omega (arith, c.requires.room)))
    ∙ ap (λ k. take at bytes ++ replicate {A = ℕ} (at - k) 0) len in
    let is_written : c.extend_from_slice.new.self.items ≡ reached ++ text =
    c.extend_from_slice.ensures.items
    ∙ ap (λ b. if b then c.resize.new.self.items ++ text else c.resize.new.self.items) (c.extend_from_slice.ensures.succeeds (omega (arith, c.requires.room, c.resize.ensures.capacity, c.resize.new.self.ok.0, ap length is_reached, length_reached at bytes)))
    ∙ ap (λ (front : List ℕ). front ++ text) is_reached in
    let after : List ℕ = filled n (reached ++ text) in
    ◌∙◌ {b = after} (ap (filled n) is_written) (filled_behind n at text bytes c.requires.behind fits)
