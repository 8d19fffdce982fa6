use Rattle.std.proofs.Common.{◌≡◌, ◌<◌, ◌≤◌, ℕ, ap, sym, arith, ◌∙◌}
use Rattle.std.specs.Prelude.{min}
use Rattle.tcp_reasm.specs.declared.table.Run.{Run as Entry}
use Rattle.tcp_reasm.proofs.Searches.{free_past, free_at, here_ends}
use Rattle.tcp_reasm.proofs.table.Table.free_to.Goals as goal

pub returns-then-index-self-clause-value : goal.returns-then-index-self-clause-value
returns-then-index-self-clause-value g c =
    free_past c.args.self.now.base c.args.self.now.len c.args.from c.args.end c.args.index c.args.self.now.rows.items c.requires.table c.requires.ordered (omega (arith, c.if-index-self.true)) c.requires.before

pub returns-clause-value : goal.returns-clause-value
returns-clause-value g c =
    free_at c.args.self.now.base c.args.self.now.len c.args.from c.args.end c.args.index c.min.result c.args.self.now.rows.items c.requires.table c.requires.ordered (omega (arith, c.if-index-self.false)) c.requires.before
    (c.requires.behind c.args.index (omega arith) (omega (arith, c.if-index-self.false))) (c.min.ensures ∙ ap (λ (run : Entry). min c.args.end run.from) c.run_at.ensures)

pub returns-clause-least : goal.returns-clause-least
returns-clause-least g c =
    omega (arith, c.min.ensures, ap (λ (run : Entry). run.from) c.run_at.ensures, c.requires.ordered, c.requires.behind c.args.index (omega arith) (omega (arith, c.if-index-self.false)))

pub returns-clause-before : goal.returns-clause-before
returns-clause-before g c =
    let least = returns-clause-least g c in
    λ less k early. omega (arith, least, c.requires.before (omega (arith, less, least)) k early)

pub returns-clause-here : goal.returns-clause-here
returns-clause-here g c =
    λ less below. here_ends c.args.self.now.base c.args.self.now.len c.args.index c.min.result c.args.end c.args.self.now.rows.items c.requires.table below (c.min.ensures ∙ ap (λ (run : Entry). min c.args.end run.from) c.run_at.ensures)
