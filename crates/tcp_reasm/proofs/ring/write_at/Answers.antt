use Rattle.std.proofs.Common.{◌≡◌, ◌+◌, ◌-◌, ◌++◌, ◌≤◌, ℕ, List, arith, ap, ◌∙◌, length, take, refl}
use Rattle.std.specs.Vec.{with_items}
use Rattle.std.proofs.lemmas.Grind.{common_steps}
use Rattle.std.proofs.lemmas.List.{drop-drop, with_items_is}
use borrow.Rule.Slice.PartMut.{put_mid}
use Rattle.tcp_reasm.specs.Store.{filled, put}
use Rattle.tcp_reasm.proofs.Rings.{put_is, length_put, filled_over}
use Rattle.tcp_reasm.proofs.ring.write_at.Goals as goal

pub returns-then-end-len-clause-bytes : goal.returns-then-end-len-clause-bytes
returns-then-end-len-clause-bytes g c = λ n fits.
    let at : ℕ = c.args.at in
    let text : List ℕ = c.args.text.now in
    let bytes : List ℕ = c.args.block.now.items in
    let written : List ℕ = put_mid at (at + length text - at) c.deref_mut.result.now c.copy_from_slice.new.self in
    let size : at + length text - at ≡ length text = omega arith in
    let room : at + length text ≤ length bytes = omega (arith, c.if-end-len.true, c.len.ensures, ap length c.deref_mut.ensures.value, c.deref_mut.ensures.len) in
    let is_put : written ≡ put at text bytes =
    ap (put_mid at (at + length text - at) c.deref_mut.result.now) c.copy_from_slice.ensures.after
    ∙ ap (λ (all : List ℕ). put_mid at (at + length text - at) all text) c.deref_mut.ensures.value
    ∙ ap (λ k. put_mid at k bytes text) size
    ∙ ap (λ (rest : List ℕ). take at bytes ++ (text ++ rest)) (drop-drop (length text) at bytes)
    ∙ put_is at text bytes (at + length text) refl room in
    let long : length written ≡ length bytes = ap length is_put ∙ length_put at text bytes in
    let now : (with_items c.args.block.now written).items ≡ written = grind (arith, common_steps, with_items_is) in
    ap (filled n) (now ∙ is_put) ∙ filled_over n at text bytes room
