use Rattle.std.proofs.Common.{◌≡◌, ◌-◌, ◌+◌, ◌++◌, ◌∷◌, ℕ, suc, List, ap, sym, subst, ◌∙◌, arith, length, take, drop}
use Rattle.tcp_reasm.specs.declared.rows.Row.{Row}
use Rattle.tcp_reasm.specs.declared.table.Run.{Run as Entry}
use Rattle.tcp_reasm.specs.Rows.{olders, newers, orders, spans, without, loop_of, newest, Rising}
use Rattle.tcp_reasm.proofs.Fields.{whole, whole_twice}
use Rattle.tcp_reasm.proofs.Changes.{inserted}
use Rattle.tcp_reasm.proofs.Puts.{table_at}
use Rattle.tcp_reasm.proofs.table.Table.insert.Goals as goal

pub returns-clause-table : goal.returns-clause-table
returns-clause-table g c =
    let rows : List Row = c.spare-id.new.self.rows.items in
    let mid : List Row = c.write.new.self.rows.items in
    let front : List Row = c.to_front.new.rows in
    let after : List Row = c.order_in.new.rows in
    let plen : ℕ = c.write.new.self.rows.len in
    let given : c.deref_mut.result.now ≡ mid = c.deref_mut.ensures.value in
    let front_size : length front ≡ length mid = c.to_front.ensures.len ∙ ap length given in
    let first_size : length front ≡ plen = front_size ∙ sym c.write.new.self.rows.ok.0 in
    let between : c.deref_mut-2.result.now ≡ front = c.deref_mut-2.ensures.value ∙ whole plen front mid first_size (omega (arith, c.write.new.self.rows.ok.0)) in
    let size : length after ≡ length front = c.order_in.ensures.len ∙ ap length between in
    let final = whole_twice plen after front mid (size ∙ first_size) first_size (omega (arith, c.write.new.self.rows.ok.0)) in
    let base : ℕ = c.spare-id.new.self.base in
    let len : ℕ = c.spare-id.new.self.len in
    let made =
    inserted base len c.args.index c.spare-id.result c.args.run rows mid front after c.spare-id.ensures.table c.spare-id.ensures.more (omega (arith, c.requires.within, c.spare-id.ensures.len)) c.spare-id.ensures.row c.spare-id.ensures.none
    (subst (λ (runs : List Entry). Rising 0 (take c.args.index runs ++ c.args.run ∷ drop c.args.index runs)) (sym c.spare-id.ensures.placed) c.requires.rising)
    c.write.ensures.rows c.write.ensures.spans c.write.ensures.olders c.write.ensures.newers c.write.ensures.orders
    c.to_front.ensures.ring front_size (c.to_front.ensures.after ∙ ap (λ (xs : List Row). c.spare-id.result ∷ without c.spare-id.result (loop_of xs)) given) (c.to_front.ensures.orders ∙ ap orders given) (c.to_front.ensures.spans ∙ ap spans given)
    size
    (ap (λ n. take (suc n) (orders after)) (sym c.write.ensures.len) ∙ (c.order_in.ensures.orders
    ∙ (ap (λ (xs : List Row). take c.args.index (orders xs) ++ c.spare-id.result ∷ take (c.write.new.self.len - c.args.index) (drop c.args.index (orders xs))) between
    ∙ ap (λ n. take c.args.index (orders front) ++ c.spare-id.result ∷ take (n - c.args.index) (drop c.args.index (orders front))) c.write.ensures.len)))
    (c.order_in.ensures.olders ∙ ap olders between) (c.order_in.ensures.newers ∙ ap newers between) (c.order_in.ensures.spans ∙ ap spans between) in
    let len_is : suc len ≡ c.write.new.self.len + 1 = omega (arith, c.write.ensures.len) in
    table_at base c.write.new.self.base (suc len) (c.write.new.self.len + 1) after _ c.write.ensures.base (sym len_is) final made.0

pub returns-clause-runs : goal.returns-clause-runs
returns-clause-runs g c =
    let rows : List Row = c.spare-id.new.self.rows.items in
    let mid : List Row = c.write.new.self.rows.items in
    let front : List Row = c.to_front.new.rows in
    let after : List Row = c.order_in.new.rows in
    let plen : ℕ = c.write.new.self.rows.len in
    let given : c.deref_mut.result.now ≡ mid = c.deref_mut.ensures.value in
    let front_size : length front ≡ length mid = c.to_front.ensures.len ∙ ap length given in
    let first_size : length front ≡ plen = front_size ∙ sym c.write.new.self.rows.ok.0 in
    let between : c.deref_mut-2.result.now ≡ front = c.deref_mut-2.ensures.value ∙ whole plen front mid first_size (omega (arith, c.write.new.self.rows.ok.0)) in
    let size : length after ≡ length front = c.order_in.ensures.len ∙ ap length between in
    let final = whole_twice plen after front mid (size ∙ first_size) first_size (omega (arith, c.write.new.self.rows.ok.0)) in
    let base : ℕ = c.spare-id.new.self.base in
    let len : ℕ = c.spare-id.new.self.len in
    let made =
    inserted base len c.args.index c.spare-id.result c.args.run rows mid front after c.spare-id.ensures.table c.spare-id.ensures.more (omega (arith, c.requires.within, c.spare-id.ensures.len)) c.spare-id.ensures.row c.spare-id.ensures.none
    (subst (λ (runs : List Entry). Rising 0 (take c.args.index runs ++ c.args.run ∷ drop c.args.index runs)) (sym c.spare-id.ensures.placed) c.requires.rising)
    c.write.ensures.rows c.write.ensures.spans c.write.ensures.olders c.write.ensures.newers c.write.ensures.orders
    c.to_front.ensures.ring front_size (c.to_front.ensures.after ∙ ap (λ (xs : List Row). c.spare-id.result ∷ without c.spare-id.result (loop_of xs)) given) (c.to_front.ensures.orders ∙ ap orders given) (c.to_front.ensures.spans ∙ ap spans given)
    size
    (ap (λ n. take (suc n) (orders after)) (sym c.write.ensures.len) ∙ (c.order_in.ensures.orders
    ∙ (ap (λ (xs : List Row). take c.args.index (orders xs) ++ c.spare-id.result ∷ take (c.write.new.self.len - c.args.index) (drop c.args.index (orders xs))) between
    ∙ ap (λ n. take c.args.index (orders front) ++ c.spare-id.result ∷ take (n - c.args.index) (drop c.args.index (orders front))) c.write.ensures.len)))
    (c.order_in.ensures.olders ∙ ap olders between) (c.order_in.ensures.newers ∙ ap newers between) (c.order_in.ensures.spans ∙ ap spans between) in
    let len_is : suc len ≡ c.write.new.self.len + 1 = omega (arith, c.write.ensures.len) in
    ap (newest c.write.new.self.base (c.write.new.self.len + 1)) final
    ∙ (ap (λ b. newest b (c.write.new.self.len + 1) after) c.write.ensures.base ∙ (ap (λ n. newest base n after) (sym len_is) ∙ (made.1 ∙ ap (λ (runs : List Entry). c.args.run ∷ runs) c.spare-id.ensures.newest)))
