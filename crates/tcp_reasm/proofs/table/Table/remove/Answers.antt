use Rattle.std.proofs.Common.{◌≡◌, ◌-◌, ◌++◌, List, ap, sym, subst, ◌∙◌, refl, arith, length, take, drop}
use Rattle.tcp_reasm.specs.declared.rows.Row.{Row}
use Rattle.tcp_reasm.specs.Rows.{olders, newers, orders, spans, count, freed, loop_of, IsTable}
use Rattle.tcp_reasm.proofs.Freed.{count-take}
use Rattle.tcp_reasm.proofs.Fields.{whole, whole_twice}
use Rattle.tcp_reasm.proofs.Changes.{freed_each, removed}
use Rattle.tcp_reasm.proofs.table.Table.remove.Goals as goal

pub free-requires-clause-each : goal.free-requires-clause-each
free-requires-clause-each g c =
    λ x. let each = freed_each c.args.self.now.base c.args.self.now.len c.args.first c.args.past c.args.self.now.rows.items c.requires.table c.requires.ordered c.requires.within x in
    let given = ap (λ (xs : List Row). count x (take (c.args.past - c.args.first) (drop c.args.first (orders xs)))) c.deref_mut.ensures.value in
    omega (arith, each, given, ap (λ (xs : List Row). count x (loop_of xs)) c.deref_mut.ensures.value, count-take x c.args.self.now.len (loop_of c.args.self.now.rows.items))

pub returns-clause-table : goal.returns-clause-table
returns-clause-table g c =
    let rows : List Row = c.args.self.now.rows.items in
    let mid : List Row = c.free.new.rows in
    let given : c.deref_mut.result.now ≡ rows = c.deref_mut.ensures.value in
    let size_mid : length mid ≡ length rows = c.free.ensures.len ∙ ap length given in
    let first_size : length mid ≡ c.args.self.now.rows.len = size_mid ∙ sym c.args.self.now.rows.ok.0 in
    let between : c.deref_mut-2.result.now ≡ mid = c.deref_mut-2.ensures.value ∙ whole c.args.self.now.rows.len mid rows first_size (omega (arith, c.args.self.now.rows.ok.0)) in
    let size : length c.order_out.new.rows ≡ length mid = c.order_out.ensures.len ∙ ap length between in
    let final = whole_twice c.args.self.now.rows.len c.order_out.new.rows mid rows (size ∙ first_size) first_size (omega (arith, c.args.self.now.rows.ok.0)) in
    let made =
    removed c.args.self.now.base c.args.self.now.len c.args.first c.args.past (c.args.self.now.len - (c.args.past - c.args.first)) rows mid c.order_out.new.rows c.requires.table c.requires.ordered c.requires.within refl
    c.free.ensures.ring size_mid (c.free.ensures.after ∙ ap (λ (xs : List Row). freed (take (c.args.past - c.args.first) (drop c.args.first (orders xs))) (loop_of xs)) given) (c.free.ensures.orders ∙ ap orders given) (c.free.ensures.spans ∙ ap spans given)
    size (c.order_out.ensures.orders ∙ ap (λ (xs : List Row). take c.args.first (orders xs) ++ take (c.args.self.now.len - c.args.past) (drop c.args.past (orders xs))) between)
    (c.order_out.ensures.olders ∙ ap olders between) (c.order_out.ensures.newers ∙ ap newers between) (c.order_out.ensures.spans ∙ ap spans between) in
    subst (IsTable c.args.self.now.base (c.args.self.now.len - (c.args.past - c.args.first))) (sym final) made.0

pub returns-clause-spans : goal.returns-clause-spans
returns-clause-spans g c =
    let rows : List Row = c.args.self.now.rows.items in
    let mid : List Row = c.free.new.rows in
    let given : c.deref_mut.result.now ≡ rows = c.deref_mut.ensures.value in
    let size_mid : length mid ≡ length rows = c.free.ensures.len ∙ ap length given in
    let first_size : length mid ≡ c.args.self.now.rows.len = size_mid ∙ sym c.args.self.now.rows.ok.0 in
    let between : c.deref_mut-2.result.now ≡ mid = c.deref_mut-2.ensures.value ∙ whole c.args.self.now.rows.len mid rows first_size (omega (arith, c.args.self.now.rows.ok.0)) in
    let size : length c.order_out.new.rows ≡ length mid = c.order_out.ensures.len ∙ ap length between in
    let final = whole_twice c.args.self.now.rows.len c.order_out.new.rows mid rows (size ∙ first_size) first_size (omega (arith, c.args.self.now.rows.ok.0)) in
    let made =
    removed c.args.self.now.base c.args.self.now.len c.args.first c.args.past (c.args.self.now.len - (c.args.past - c.args.first)) rows mid c.order_out.new.rows c.requires.table c.requires.ordered c.requires.within refl
    c.free.ensures.ring size_mid (c.free.ensures.after ∙ ap (λ (xs : List Row). freed (take (c.args.past - c.args.first) (drop c.args.first (orders xs))) (loop_of xs)) given) (c.free.ensures.orders ∙ ap orders given) (c.free.ensures.spans ∙ ap spans given)
    size (c.order_out.ensures.orders ∙ ap (λ (xs : List Row). take c.args.first (orders xs) ++ take (c.args.self.now.len - c.args.past) (drop c.args.past (orders xs))) between)
    (c.order_out.ensures.olders ∙ ap olders between) (c.order_out.ensures.newers ∙ ap newers between) (c.order_out.ensures.spans ∙ ap spans between) in
    ap spans final ∙ made.1

pub returns-clause-places : goal.returns-clause-places
returns-clause-places g c =
    let rows : List Row = c.args.self.now.rows.items in
    let mid : List Row = c.free.new.rows in
    let given : c.deref_mut.result.now ≡ rows = c.deref_mut.ensures.value in
    let size_mid : length mid ≡ length rows = c.free.ensures.len ∙ ap length given in
    let first_size : length mid ≡ c.args.self.now.rows.len = size_mid ∙ sym c.args.self.now.rows.ok.0 in
    let between : c.deref_mut-2.result.now ≡ mid = c.deref_mut-2.ensures.value ∙ whole c.args.self.now.rows.len mid rows first_size (omega (arith, c.args.self.now.rows.ok.0)) in
    let size : length c.order_out.new.rows ≡ length mid = c.order_out.ensures.len ∙ ap length between in
    let final = whole_twice c.args.self.now.rows.len c.order_out.new.rows mid rows (size ∙ first_size) first_size (omega (arith, c.args.self.now.rows.ok.0)) in
    let made =
    removed c.args.self.now.base c.args.self.now.len c.args.first c.args.past (c.args.self.now.len - (c.args.past - c.args.first)) rows mid c.order_out.new.rows c.requires.table c.requires.ordered c.requires.within refl
    c.free.ensures.ring size_mid (c.free.ensures.after ∙ ap (λ (xs : List Row). freed (take (c.args.past - c.args.first) (drop c.args.first (orders xs))) (loop_of xs)) given) (c.free.ensures.orders ∙ ap orders given) (c.free.ensures.spans ∙ ap spans given)
    size (c.order_out.ensures.orders ∙ ap (λ (xs : List Row). take c.args.first (orders xs) ++ take (c.args.self.now.len - c.args.past) (drop c.args.past (orders xs))) between)
    (c.order_out.ensures.olders ∙ ap olders between) (c.order_out.ensures.newers ∙ ap newers between) (c.order_out.ensures.spans ∙ ap spans between) in
    ap (λ (xs : List Row). take (c.args.self.now.len - (c.args.past - c.args.first)) (orders xs)) final ∙ made.2

pub returns-clause-recent : goal.returns-clause-recent
returns-clause-recent g c =
    let rows : List Row = c.args.self.now.rows.items in
    let mid : List Row = c.free.new.rows in
    let given : c.deref_mut.result.now ≡ rows = c.deref_mut.ensures.value in
    let size_mid : length mid ≡ length rows = c.free.ensures.len ∙ ap length given in
    let first_size : length mid ≡ c.args.self.now.rows.len = size_mid ∙ sym c.args.self.now.rows.ok.0 in
    let between : c.deref_mut-2.result.now ≡ mid = c.deref_mut-2.ensures.value ∙ whole c.args.self.now.rows.len mid rows first_size (omega (arith, c.args.self.now.rows.ok.0)) in
    let size : length c.order_out.new.rows ≡ length mid = c.order_out.ensures.len ∙ ap length between in
    let final = whole_twice c.args.self.now.rows.len c.order_out.new.rows mid rows (size ∙ first_size) first_size (omega (arith, c.args.self.now.rows.ok.0)) in
    let made =
    removed c.args.self.now.base c.args.self.now.len c.args.first c.args.past (c.args.self.now.len - (c.args.past - c.args.first)) rows mid c.order_out.new.rows c.requires.table c.requires.ordered c.requires.within refl
    c.free.ensures.ring size_mid (c.free.ensures.after ∙ ap (λ (xs : List Row). freed (take (c.args.past - c.args.first) (drop c.args.first (orders xs))) (loop_of xs)) given) (c.free.ensures.orders ∙ ap orders given) (c.free.ensures.spans ∙ ap spans given)
    size (c.order_out.ensures.orders ∙ ap (λ (xs : List Row). take c.args.first (orders xs) ++ take (c.args.self.now.len - c.args.past) (drop c.args.past (orders xs))) between)
    (c.order_out.ensures.olders ∙ ap olders between) (c.order_out.ensures.newers ∙ ap newers between) (c.order_out.ensures.spans ∙ ap spans between) in
    ap (λ (xs : List Row). take (c.args.self.now.len - (c.args.past - c.args.first)) (loop_of xs)) final ∙ made.3
