use Rattle.std.proofs.Common.{◌≡◌, ◌+◌, ◌∷◌, ℕ, List, ap, sym, ◌∙◌, arith, length, set}
use Rattle.tcp_reasm.specs.declared.rows.Row.{Row}
use Rattle.tcp_reasm.specs.Rows.{at, count, orders, span, spans, without, loop_of, newest}
use Rattle.tcp_reasm.proofs.Fields.{whole}
use Rattle.tcp_reasm.proofs.Freed.{count-take}
use Rattle.tcp_reasm.proofs.Tables.{counted_row}
use Rattle.tcp_reasm.proofs.Changes.{renewed, same_ring}
use Rattle.tcp_reasm.proofs.Puts.{table_at}
use Rattle.tcp_reasm.proofs.table.Table.renew.Goals as goal

pub to_front-requires-clause-row : goal.to_front-requires-clause-row
to_front-requires-clause-row g c =
    let rows : List Row = c.args.self.now.rows.items in
    let mid : List Row = c.write.new.self.rows.items in
    let id : c.row_at-id.result ≡ at (orders rows) c.args.index = c.row_at-id.ensures.value in
    let made = same_ring rows mid c.write.ensures.rows c.write.ensures.olders c.write.ensures.newers c.requires.table.ring in
    omega (
      arith,
      ap (λ (xs : List Row). count c.row_at-id.result (loop_of xs)) c.deref_mut.ensures.value,
      ap (count c.row_at-id.result) made.1,
      ap (λ x. count x (loop_of rows)) id,
      counted_row c.args.self.now.base c.args.self.now.len c.args.index rows c.requires.table c.requires.within,
      count-take (at (orders rows) c.args.index) c.args.self.now.len (loop_of rows),
    )

pub returns-clause-table : goal.returns-clause-table
returns-clause-table g c =
    let rows : List Row = c.args.self.now.rows.items in
    let mid : List Row = c.write.new.self.rows.items in
    let after : List Row = c.to_front.new.rows in
    let plen : ℕ = c.write.new.self.rows.len in
    let id : c.row_at-id.result ≡ at (orders rows) c.args.index = c.row_at-id.ensures.value in
    let given : c.deref_mut.result.now ≡ mid = c.deref_mut.ensures.value in
    let size : length after ≡ length mid = c.to_front.ensures.len ∙ ap length given in
    let final = whole plen after mid (size ∙ sym c.write.new.self.rows.ok.0) (omega (arith, c.write.new.self.rows.ok.0)) in
    let base : ℕ = c.args.self.now.base in
    let len : ℕ = c.args.self.now.len in
    let made =
    renewed base len c.args.index c.args.run rows mid after c.requires.table c.requires.within c.requires.rising
    c.write.ensures.rows (c.write.ensures.spans ∙ ap (λ x. set (spans rows) x (span (base + c.args.run.from) (base + c.args.run.to))) id) c.write.ensures.olders c.write.ensures.newers c.write.ensures.orders
    c.to_front.ensures.ring size (c.to_front.ensures.after ∙ (ap (λ (xs : List Row). c.row_at-id.result ∷ without c.row_at-id.result (loop_of xs)) given ∙ ap (λ x. x ∷ without x (loop_of mid)) id)) (c.to_front.ensures.orders ∙ ap orders given) (c.to_front.ensures.spans ∙ ap spans given) in
    table_at base c.write.new.self.base len c.write.new.self.len after _ c.write.ensures.base c.write.ensures.len final made.0

pub returns-clause-runs : goal.returns-clause-runs
returns-clause-runs g c =
    let rows : List Row = c.args.self.now.rows.items in
    let mid : List Row = c.write.new.self.rows.items in
    let after : List Row = c.to_front.new.rows in
    let plen : ℕ = c.write.new.self.rows.len in
    let id : c.row_at-id.result ≡ at (orders rows) c.args.index = c.row_at-id.ensures.value in
    let given : c.deref_mut.result.now ≡ mid = c.deref_mut.ensures.value in
    let size : length after ≡ length mid = c.to_front.ensures.len ∙ ap length given in
    let final = whole plen after mid (size ∙ sym c.write.new.self.rows.ok.0) (omega (arith, c.write.new.self.rows.ok.0)) in
    let base : ℕ = c.args.self.now.base in
    let len : ℕ = c.args.self.now.len in
    let made =
    renewed base len c.args.index c.args.run rows mid after c.requires.table c.requires.within c.requires.rising
    c.write.ensures.rows (c.write.ensures.spans ∙ ap (λ x. set (spans rows) x (span (base + c.args.run.from) (base + c.args.run.to))) id) c.write.ensures.olders c.write.ensures.newers c.write.ensures.orders
    c.to_front.ensures.ring size (c.to_front.ensures.after ∙ (ap (λ (xs : List Row). c.row_at-id.result ∷ without c.row_at-id.result (loop_of xs)) given ∙ ap (λ x. x ∷ without x (loop_of mid)) id)) (c.to_front.ensures.orders ∙ ap orders given) (c.to_front.ensures.spans ∙ ap spans given) in
    ap (newest c.write.new.self.base c.write.new.self.len) final
    ∙ (ap (λ b. newest b c.write.new.self.len after) c.write.ensures.base ∙ (ap (λ n. newest base n after) c.write.ensures.len ∙ made.1))
