use Rattle.std.proofs.Common.{◌≡◌, ◌+◌, ◌<◌, ◌≤◌, ℕ, true, false, sym, ap, ◌∙◌, length, arith}
use Rattle.std.specs.List.{insert}
use Rattle.std.specs.Prelude.{nat_le, if◌then◌else◌}
use Rattle.std.proofs.lemmas.Bool.Decides.{nat_tests}
use Rattle.std.proofs.lemmas.List.Edits.{length-insert}
use Rattle.tcp_sendq.specs.Marks.{interval, joined}
use Rattle.tcp_sendq.proofs.Merges.{joined-apart}
use Rattle.tcp_sendq.proofs.marks.Marks.mark.Goals as goal

few : (n most : ℕ) → n < most → true ≡ nat_le (n + 1) most
few n most h = grind (arith, nat_tests)

many : (n most : ℕ) → most ≤ n → false ≡ nat_le (n + 1) most
many n most h = grind (arith, nat_tests)

pub returns-then-len-most-clause-value : goal.returns-then-len-most-clause-value
returns-then-len-most-clause-value g c =
    let table = c.args.self.now.table.items in
    let place = c.count_before-place.result in
    let run = interval c.args.from c.args.to in
    let apart : joined run table ≡ insert table place run =
    joined-apart c.args.from c.args.to place table c.requires.ordered c.requires.in_order c.count_before-place.ensures.value (omega (arith, c.count_to-past.ensures.value, c.if-place-past.false)) in
    many (length table) c.args.most (omega (arith, c.len.ensures, c.args.self.now.table.ok.0, c.if-len-most.true))
    ∙ ap (λ n. nat_le n c.args.most) (sym (ap length apart ∙ length-insert table place run c.count_before-place.ensures.within))

pub returns-clause-value : goal.returns-clause-value
returns-clause-value g c =
    let table = c.args.self.now.table.items in
    let place = c.count_before-place.result in
    let run = interval c.args.from c.args.to in
    let apart : joined run table ≡ insert table place run =
    joined-apart c.args.from c.args.to place table c.requires.ordered c.requires.in_order c.count_before-place.ensures.value (omega (arith, c.count_to-past.ensures.value, c.if-place-past.false)) in
    few (length table) c.args.most (omega (arith, c.len.ensures, c.args.self.now.table.ok.0, c.if-len-most.false))
    ∙ ap (λ n. nat_le n c.args.most) (sym (ap length apart ∙ length-insert table place run c.count_before-place.ensures.within))

pub returns-clause-state : goal.returns-clause-state
returns-clause-state g c =
    let table = c.args.self.now.table.items in
    let place = c.count_before-place.result in
    let run = interval c.args.from c.args.to in
    let apart : joined run table ≡ insert table place run =
    joined-apart c.args.from c.args.to place table c.requires.ordered c.requires.in_order c.count_before-place.ensures.value (omega (arith, c.count_to-past.ensures.value, c.if-place-past.false)) in
    c.insert.ensures.items
    ∙ (ap (λ b. if b then insert table place run else table) (c.insert.ensures.succeeds (omega (arith, c.len.ensures, c.if-len-most.false, c.requires.room))) ∙ sym apart)
