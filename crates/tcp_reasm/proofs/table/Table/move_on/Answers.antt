use Rattle.std.proofs.Common.{◌≡◌, ◌+◌, List, ap, sym, subst, ◌∙◌, arith, length, take}
use Rattle.std.specs.Prelude.{map}
use Rattle.tcp_reasm.specs.declared.rows.Row.{Row}
use Rattle.tcp_reasm.specs.Store.{runs_in}
use Rattle.tcp_reasm.specs.Rows.{olders, newers, orders, spans, lowered, loop_of, newest, IsTable}
use Rattle.tcp_reasm.proofs.Fields.{whole}
use Rattle.tcp_reasm.proofs.Changes.{same_ring}
use Rattle.tcp_reasm.proofs.Puts.{moved_table, moved_runs, settled_table}
use Rattle.tcp_reasm.proofs.table.Table.move_on.Goals as goal

pub returns-else-base-gt-MAX_BASE-clause-table : goal.returns-else-base-gt-MAX_BASE-clause-table
returns-else-base-gt-MAX_BASE-clause-table g c =
    moved_table c.args.self.now.base c.args.count c.args.self.now.len c.args.self.now.rows.items c.requires.table c.requires.rising (omega (arith, c.if-base-gt-MAX_BASE.false))

pub returns-else-base-gt-MAX_BASE-clause-runs : goal.returns-else-base-gt-MAX_BASE-clause-runs
returns-else-base-gt-MAX_BASE-clause-runs g c =
    moved_runs c.args.self.now.base c.args.count (spans c.args.self.now.rows.items) (take c.args.self.now.len (loop_of c.args.self.now.rows.items))

pub returns-then-base-gt-MAX_BASE-clause-table : goal.returns-then-base-gt-MAX_BASE-clause-table
returns-then-base-gt-MAX_BASE-clause-table g c =
    let rows : List Row = c.args.self.now.rows.items in
    let after : List Row = c.settle.new.rows in
    let given : c.deref_mut.result.now ≡ rows = c.deref_mut.ensures.value in
    let size : length after ≡ length rows = c.settle.ensures.len ∙ ap length given in
    let final = whole c.args.self.now.rows.len after rows (size ∙ sym c.args.self.now.rows.ok.0) (omega (arith, c.args.self.now.rows.ok.0)) in
    let made =
    settled_table c.args.self.now.base c.args.count c.args.self.now.len rows after c.requires.table c.requires.rising (same_ring rows after size (c.settle.ensures.olders ∙ ap olders given) (c.settle.ensures.newers ∙ ap newers given) c.requires.table.ring)
    size (c.settle.ensures.orders ∙ ap orders given) (c.settle.ensures.spans ∙ ap (λ (xs : List Row). map (lowered (c.args.self.now.base + c.args.count)) (spans xs)) given) in
    subst (IsTable 0 c.args.self.now.len) (sym final) made.0

pub returns-then-base-gt-MAX_BASE-clause-runs : goal.returns-then-base-gt-MAX_BASE-clause-runs
returns-then-base-gt-MAX_BASE-clause-runs g c =
    let rows : List Row = c.args.self.now.rows.items in
    let after : List Row = c.settle.new.rows in
    let given : c.deref_mut.result.now ≡ rows = c.deref_mut.ensures.value in
    let size : length after ≡ length rows = c.settle.ensures.len ∙ ap length given in
    let final = whole c.args.self.now.rows.len after rows (size ∙ sym c.args.self.now.rows.ok.0) (omega (arith, c.args.self.now.rows.ok.0)) in
    let made =
    settled_table c.args.self.now.base c.args.count c.args.self.now.len rows after c.requires.table c.requires.rising (same_ring rows after size (c.settle.ensures.olders ∙ ap olders given) (c.settle.ensures.newers ∙ ap newers given) c.requires.table.ring)
    size (c.settle.ensures.orders ∙ ap orders given) (c.settle.ensures.spans ∙ ap (λ (xs : List Row). map (lowered (c.args.self.now.base + c.args.count)) (spans xs)) given) in
    ap (λ (xs : List Row). runs_in (newest 0 c.args.self.now.len xs)) final ∙ made.1
