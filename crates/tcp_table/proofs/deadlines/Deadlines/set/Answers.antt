use Rattle.std.proofs.Common.{◌≡◌, ◌+◌, drop, set, length, vec_len, ap, ◌∙◌, arith}
use Rattle.std.proofs.lemmas.List.{drop-set-add, with_items_is}
use Rattle.std.specs.Vec.{with_item}
use Rattle.tcp_table.proofs.deadlines.Deadlines.set.Goals as goal

pub returns : goal.returns
returns g c =
    let count = c.self.inside.count in
    let size : length c.raise.new.tree ≡ vec_len c.self.inside.tree =
    omega (arith, c.raise.ensures.tree.size, c.self.invariant.size, c.self.inside.tree.ok.0) in
    ap (drop count) (with_items_is (with_item c.self.inside.tree (count + c.args.id) c.args.time) c.raise.new.tree size)
    ∙ c.raise.ensures.leaves
    ∙ ap (drop count) c.deref_mut.ensures.value
    ∙ drop-set-add count c.self.inside.tree.items c.args.id c.args.time
    ∙ ap (λ xs. set xs c.args.id c.args.time) c.self.view_is
