use Rattle.std.proofs.Common.{◌<◌, ◌∷◌, List, ap, sym, ◌∙◌, arith, take}
use Rattle.tcp_reasm.specs.declared.rows.Row.{Row}
use Rattle.tcp_reasm.specs.Reassembly.{Run}
use Rattle.tcp_reasm.specs.Store.{run_of, runs_in, union_of}
use Rattle.tcp_reasm.specs.Rows.{at, orders, spans, without, loop_of, runs_at, newest, placed}
use Rattle.tcp_reasm.proofs.Rises.{rising_put}
use Rattle.tcp_reasm.proofs.Tables.{length_placed}
use Rattle.tcp_reasm.proofs.Puts.{rest_alone, rest_renewed, rising_renewed}
use Rattle.tcp_reasm.proofs.table.Table.put.Goals as goal

pub insert-requires-clause-rising : goal.insert-requires-clause-rising
insert-requires-clause-rising g c =
    let rows : List Row = c.args.self.now.rows.items in
    rising_put 0 c.args.first c.args.first (placed c.args.self.now.base c.args.self.now.len rows) c.union_of-union.result c.requires.table.rising (omega arith) (c.union_of-union.ensures.above c.requires.some) c.union_of-union.ensures.some
    (λ k less below. c.union_of-union.ensures.before k less) (λ k least below. c.union_of-union.ensures.behind k (omega (arith, least, c.if-first-past.true)) (omega (arith, below, length_placed c.args.self.now.base c.args.self.now.len rows c.requires.table.some)))

pub returns-then-first-past-clause-runs : goal.returns-then-first-past-clause-runs
returns-then-first-past-clause-runs g c =
    let rows : List Row = c.args.self.now.rows.items in
    ap runs_in c.insert.ensures.runs
    ∙ (ap (λ (run : Run). run ∷ runs_in (newest c.args.self.now.base c.args.self.now.len rows)) c.union_of-union.ensures.union
    ∙ ap (λ (runs : List Run). union_of (run_of c.args.piece) (run_of c.args.piece) (runs_in (newest c.args.self.now.base c.args.self.now.len rows)) ∷ runs) (rest_alone c.args.self.now.base c.args.self.now.len c.args.first c.args.past rows c.args.piece c.requires.table c.requires.touched (omega (arith, c.if-first-past.true))))

pub renew-requires-clause-within : goal.renew-requires-clause-within
renew-requires-clause-within g c =
    omega (arith, c.remove.ensures.len, c.if-first-past.false, c.requires.touched.within, length_placed c.args.self.now.base c.args.self.now.len c.args.self.now.rows.items c.requires.table.some)

pub renew-requires-clause-rising : goal.renew-requires-clause-rising
renew-requires-clause-rising g c =
    let rows : List Row = c.args.self.now.rows.items in
    let size = length_placed c.args.self.now.base c.args.self.now.len rows c.requires.table.some in
    rising_renewed c.args.self.now.base c.args.self.now.len c.args.first c.args.past c.remove.new.self.base c.remove.new.self.len rows c.remove.new.self.rows.items c.union_of-union.result c.requires.table (omega (arith, c.if-first-past.false)) (omega (arith, c.requires.touched.within, size))
    (c.union_of-union.ensures.above c.requires.some) c.union_of-union.ensures.some c.union_of-union.ensures.before c.union_of-union.ensures.behind c.remove.ensures.base c.remove.ensures.spans c.remove.ensures.places

pub returns-clause-runs : goal.returns-clause-runs
returns-clause-runs g c =
    let rows : List Row = c.args.self.now.rows.items in
    let within : c.args.first < c.remove.new.self.len = omega (arith, c.remove.ensures.len, c.if-first-past.false, c.requires.touched.within, length_placed c.args.self.now.base c.args.self.now.len rows c.requires.table.some) in
    ap runs_in c.renew.ensures.runs
    ∙ (ap (λ (run : Run). run ∷ runs_in (runs_at c.remove.new.self.base (spans c.remove.new.self.rows.items) (without (at (orders c.remove.new.self.rows.items) c.args.first) (take c.remove.new.self.len (loop_of c.remove.new.self.rows.items))))) c.union_of-union.ensures.union
    ∙ ap (λ (runs : List Run). union_of (run_of c.args.piece) (run_of c.args.piece) (runs_in (newest c.args.self.now.base c.args.self.now.len rows)) ∷ runs)
    (sym (rest_renewed c.args.self.now.base c.args.self.now.len c.args.first c.args.past c.remove.new.self.base c.remove.new.self.len rows c.remove.new.self.rows.items c.args.piece c.requires.table c.requires.touched (omega (arith, c.if-first-past.false)) c.remove.ensures.base c.remove.ensures.spans within c.remove.ensures.places c.remove.ensures.recent)))
