use Rattle.std.proofs.Common.{◌≡◌, ◌<◌, ◌≤◌, Some, None, vec_len, sym, ◌∙◌, arith}
use Rattle.std.proofs.lemmas.List.{get_or_read_under}
use Rattle.tcp_table.specs.Deadlines.{NoneIsDue, due_at}
use Rattle.tcp_table.proofs.Trees.{is_first, none_is_due}
use Rattle.tcp_table.proofs.deadlines.Deadlines.first.Goals as goal

pub returns-in_err-time-clause-none : goal.returns-in_err-time-clause-none
returns-in_err-time-clause-none g c =
    let tree = c.self.inside.tree in
    let some : 1 ≤ c.self.inside.count = omega (arith, c.if-self-eq0.false) in
    let within : 1 < vec_len tree = omega (arith, some, c.self.invariant.size, tree.ok.0) in
    let root : c.index.result.now ≡ due_at tree.items 1 = get_or_read_under tree.items 1 (vec_len tree) c.index.result.now None c.index.ensures within tree.ok.0 in
    let none : due_at tree.items 1 ≡ None = sym root ∙ c.in_err-time.was in
    let all : NoneIsDue c.args.self.now = rw (← c.self.view_is) (none_is_due tree.items c.self.inside.count c.self.invariant some none) in
    rw c.from_residual.ensures all

pub returns-clause-first : goal.returns-clause-first
returns-clause-first g c =
    let tree = c.self.inside.tree in
    let some : 1 ≤ c.self.inside.count = omega (arith, c.if-self-eq0.false) in
    let within : 1 < vec_len tree = omega (arith, some, c.self.invariant.size, tree.ok.0) in
    let read : c.index.result.now ≡ due_at tree.items 1 = get_or_read_under tree.items 1 (vec_len tree) c.index.result.now None c.index.ensures within tree.ok.0 in
    let root : due_at tree.items 1 ≡ Some c.in_ok-time.time = sym read ∙ c.in_ok-time.was in
    let same : due_at tree.items c.first_leaf.result ≡ due_at tree.items 1 = rw (← c.deref.ensures.value) c.first_leaf.ensures.root in
    rw (← c.self.view_is) (is_first tree.items c.self.inside.count c.self.invariant some c.in_ok-time.time c.first_leaf.result root c.first_leaf.ensures.leaf same)
