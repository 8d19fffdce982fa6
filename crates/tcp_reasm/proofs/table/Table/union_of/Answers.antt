use Rattle.std.proofs.Common.{ap, arith, ◌∙◌}
use Rattle.std.specs.Prelude.{min, max}
use Rattle.tcp_reasm.specs.declared.table.Run.{Run as Entry}
use Rattle.tcp_reasm.specs.Rows.{placed}
use Rattle.tcp_reasm.proofs.Rises.{rising_low}
use Rattle.tcp_reasm.proofs.Searches.{alone, joined_all, union_before, union_behind}
use Rattle.tcp_reasm.proofs.table.Table.union_of.Goals as goal

pub returns-then-first-past-clause-union : goal.returns-then-first-past-clause-union
returns-then-first-past-clause-union g c =
    alone c.args.self.now.base c.args.self.now.len c.args.first c.args.past c.args.self.now.rows.items c.args.piece c.requires.table c.requires.touched (omega (arith, c.if-first-past.true))

pub returns-clause-union : goal.returns-clause-union
returns-clause-union g c =
    joined_all c.args.self.now.base c.args.self.now.len c.args.first c.args.past c.args.self.now.rows.items c.args.piece (record { from = c.min.result; to = c.max.result }) c.requires.table c.requires.touched (omega (arith, c.if-first-past.false))
    (c.min.ensures ∙ ap (λ (run : Entry). min c.args.piece.from run.from) c.run_at.ensures) (c.max.ensures ∙ ap (λ (run : Entry). max c.args.piece.to run.to) c.run_at-2.ensures)

pub returns-clause-before : goal.returns-clause-before
returns-clause-before g c =
    union_before c.args.self.now.base c.args.self.now.len c.args.first c.args.past c.min.result c.args.self.now.rows.items c.args.piece c.requires.table c.requires.touched (omega (arith, c.if-first-past.false))
    (c.min.ensures ∙ ap (λ (run : Entry). min c.args.piece.from run.from) c.run_at.ensures)

pub returns-clause-behind : goal.returns-clause-behind
returns-clause-behind g c =
    union_behind c.args.self.now.base c.args.self.now.len c.args.first c.args.past c.max.result c.args.self.now.rows.items c.args.piece c.requires.table c.requires.touched (omega (arith, c.if-first-past.false))
    (c.max.ensures ∙ ap (λ (run : Entry). max c.args.piece.to run.to) c.run_at-2.ensures)

pub returns-clause-above : goal.returns-clause-above
returns-clause-above g c =
    λ some. omega (
      arith,
      some,
      c.min.ensures,
      ap (λ (run : Entry). run.from) c.run_at.ensures,
      rising_low 0 (placed c.args.self.now.base c.args.self.now.len c.args.self.now.rows.items) c.args.first c.requires.table.rising (omega (arith, c.if-first-past.false, c.requires.touched.within)),
    )
