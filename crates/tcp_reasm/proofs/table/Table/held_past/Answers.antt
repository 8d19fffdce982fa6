use Rattle.std.proofs.Common.{◌≡◌, ◌<◌, ◌≤◌, ◌+◌, ℕ, ap, sym, arith, ◌∙◌}
use Rattle.std.specs.Prelude.{min}
use Rattle.tcp_reasm.specs.declared.table.Run.{Run as Entry}
use Rattle.tcp_reasm.specs.Rows.{placed, run_at}
use Rattle.tcp_reasm.proofs.Searches.{held_past, held_before, held_or, ended_all, begun_behind, begins_from}
use Rattle.tcp_reasm.proofs.table.Table.held_past.Goals as goal

pub returns-then-index-self-clause-value : goal.returns-then-index-self-clause-value
returns-then-index-self-clause-value g c =
    omega (arith, c.requires.some, held_past c.args.self.now.base c.args.self.now.len c.args.next c.args.index c.args.self.now.rows.items c.requires.table (omega (arith, c.if-index-self.true)) (λ k less. omega (arith, c.requires.before k less)))

pub returns-then-run-next-clause-value : goal.returns-then-run-next-clause-value
returns-then-run-next-clause-value g c =
    let from = ap (λ (run : Entry). run.from) c.run_at-run.ensures in
    let to = ap (λ (run : Entry). run.to) c.run_at-run.ensures in
    omega (
      arith,
      c.min.ensures,
      to,
      held_or c.args.self.now.base c.args.self.now.len c.args.next c.args.index c.args.self.now.rows.items c.requires.table (omega (arith, c.if-index-self.false)) (λ k less. omega (arith, c.requires.before k less)) (omega (arith, from, c.if-run-next.true)) (c.requires.here (omega (arith, c.if-index-self.false))),
    )

pub returns-then-run-next-clause-least : goal.returns-then-run-next-clause-least
returns-then-run-next-clause-least g c =
    omega (arith, c.min.ensures, ap (λ (run : Entry). run.to) c.run_at-run.ensures, c.requires.some, c.requires.here (omega (arith, c.if-index-self.false)))

pub returns-then-run-next-clause-before : goal.returns-then-run-next-clause-before
returns-then-run-next-clause-before g c =
    λ less. ended_all c.args.self.now.base c.args.self.now.len c.min.result c.args.index c.args.self.now.rows.items c.requires.table (omega (arith, c.if-index-self.false)) (omega (arith, less, c.min.ensures, ap (λ (run : Entry). run.to) c.run_at-run.ensures))

pub returns-then-run-next-clause-behind : goal.returns-then-run-next-clause-behind
returns-then-run-next-clause-behind g c =
    begun_behind c.args.self.now.base c.args.self.now.len c.min.result c.args.index c.args.self.now.rows.items c.requires.table (omega (arith, c.if-index-self.false)) (omega (arith, c.min.ensures, ap (λ (run : Entry). run.to) c.run_at-run.ensures))

pub returns-else-run-next-clause-value : goal.returns-else-run-next-clause-value
returns-else-run-next-clause-value g c =
    omega (
      arith,
      c.requires.some,
      held_before c.args.self.now.base c.args.self.now.len c.args.next c.args.index c.args.self.now.rows.items c.requires.table (λ k less. omega (arith, c.requires.before k less)) (omega (arith, ap (λ (run : Entry). run.from) c.run_at-run.ensures, c.if-run-next.false)),
    )

pub returns-else-run-next-clause-behind : goal.returns-else-run-next-clause-behind
returns-else-run-next-clause-behind g c =
    begins_from c.args.self.now.base c.args.self.now.len c.args.next c.args.index c.args.self.now.rows.items c.requires.table (omega (arith, ap (λ (run : Entry). run.from) c.run_at-run.ensures, c.if-run-next.false))
