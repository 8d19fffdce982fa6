use Rattle.std.proofs.Common.{◌≡◌, ℕ, List, ap, sym, subst, ◌∙◌, take, drop}
use Rattle.std.specs.Prelude.{map}
use Rattle.tcp_reasm.specs.declared.rows.Row.{Row}
use Rattle.tcp_reasm.specs.declared.table.Run.{Run as Entry}
use Rattle.tcp_reasm.specs.Store.{run_of, runs_in, rest_of, moved}
use Rattle.tcp_reasm.specs.Rows.{orders, spans, loop_of, runs_at, newest, placed, Rising}
use Rattle.tcp_reasm.proofs.Rises.{drop_rises}
use Rattle.tcp_reasm.proofs.Puts.{rest_removed, placed_removed, left_behind}
use Rattle.tcp_reasm.proofs.table.Table.advance.Goals as goal

pub move_on-requires-clause-rising : goal.move_on-requires-clause-rising
move_on-requires-clause-rising g c =
    let rows : List Row = c.args.self.now.rows.items in
    let is : placed c.remove.new.self.base c.remove.new.self.len c.remove.new.self.rows.items ≡ drop c.args.past (placed c.args.self.now.base c.args.self.now.len rows) =
    placed_removed c.args.self.now.base c.args.self.now.len 0 c.args.past c.remove.new.self.base c.remove.new.self.len rows c.remove.new.self.rows.items c.remove.ensures.base c.remove.ensures.spans c.remove.ensures.places in
    subst (Rising c.args.count) (sym is)
    (drop_rises 0 c.args.count c.args.past (placed c.args.self.now.base c.args.self.now.len rows) c.requires.table.rising
    (left_behind c.args.self.now.base c.args.self.now.len c.args.past c.args.count rows c.args.piece c.requires.table c.requires.touched c.requires.count))

pub returns-clause-runs : goal.returns-clause-runs
returns-clause-runs g c =
    let rows : List Row = c.args.self.now.rows.items in
    let ids : List ℕ = take c.args.self.now.len (orders rows) in
    let rest : runs_in (newest c.remove.new.self.base c.remove.new.self.len c.remove.new.self.rows.items) ≡ rest_of (run_of c.args.piece) (runs_in (newest c.args.self.now.base c.args.self.now.len rows)) =
    ap (λ b. runs_in (newest b c.remove.new.self.len c.remove.new.self.rows.items)) c.remove.ensures.base
    ∙ (ap (λ (all : List Entry). runs_in (runs_at c.args.self.now.base all (take c.remove.new.self.len (loop_of c.remove.new.self.rows.items)))) c.remove.ensures.spans
    ∙ (ap (λ (ys : List ℕ). runs_in (runs_at c.args.self.now.base (spans rows) ys)) c.remove.ensures.recent
    ∙ sym (rest_removed c.args.self.now.base c.args.self.now.len 0 c.args.past rows c.args.piece c.requires.table c.requires.touched))) in
    c.move_on.ensures.runs ∙ ap (map (moved c.args.count)) rest
