use Rattle.std.proofs.Common.{◌≡◌, ◌<◌, ◌-◌, List, ap, subst, sym, ◌∙◌, arith, length, take}
use Rattle.tcp_reasm.specs.declared.rows.Row.{Row}
use Rattle.tcp_reasm.specs.Rows.{count, loop_of}
use Rattle.tcp_reasm.proofs.Fields.{found, newer_at}
use Rattle.tcp_reasm.proofs.Changes.{grown_table, spare_last}
use Rattle.tcp_reasm.proofs.table.Table.spare.Goals as goal

pub returns-then-self-len-clause-table : goal.returns-then-self-len-clause-table
returns-then-self-len-clause-table g c = (grown_table c.args.self.now.base c.args.self.now.len c.args.self.now.rows.items c.grow.new.rows.items c.requires.table (omega (arith, c.if-self-len.true, c.requires.few, c.len.ensures, c.args.self.now.rows.ok.0)) c.grow.ensures.ring c.grow.ensures.len c.grow.ensures.after c.grow.ensures.orders c.grow.ensures.spans).0

pub returns-then-self-len-clause-newest : goal.returns-then-self-len-clause-newest
returns-then-self-len-clause-newest g c = (grown_table c.args.self.now.base c.args.self.now.len c.args.self.now.rows.items c.grow.new.rows.items c.requires.table (omega (arith, c.if-self-len.true, c.requires.few, c.len.ensures, c.args.self.now.rows.ok.0)) c.grow.ensures.ring c.grow.ensures.len c.grow.ensures.after c.grow.ensures.orders c.grow.ensures.spans).1

pub returns-then-self-len-clause-placed : goal.returns-then-self-len-clause-placed
returns-then-self-len-clause-placed g c = (grown_table c.args.self.now.base c.args.self.now.len c.args.self.now.rows.items c.grow.new.rows.items c.requires.table (omega (arith, c.if-self-len.true, c.requires.few, c.len.ensures, c.args.self.now.rows.ok.0)) c.grow.ensures.ring c.grow.ensures.len c.grow.ensures.after c.grow.ensures.orders c.grow.ensures.spans).2

pub returns-then-self-len-clause-row : goal.returns-then-self-len-clause-row
returns-then-self-len-clause-row g c =
    let id : length c.args.self.now.rows.items ≡ c.len-then-self-len.result - 1 = omega (arith, c.len-then-self-len.ensures, c.grow.new.rows.ok.0, c.grow.ensures.len) in
    subst (λ x. 0 < count x (loop_of c.grow.new.rows.items)) id (grown_table c.args.self.now.base c.args.self.now.len c.args.self.now.rows.items c.grow.new.rows.items c.requires.table (omega (arith, c.if-self-len.true, c.requires.few, c.len.ensures, c.args.self.now.rows.ok.0)) c.grow.ensures.ring c.grow.ensures.len c.grow.ensures.after c.grow.ensures.orders c.grow.ensures.spans).3

pub returns-then-self-len-clause-none : goal.returns-then-self-len-clause-none
returns-then-self-len-clause-none g c =
    let id : length c.args.self.now.rows.items ≡ c.len-then-self-len.result - 1 = omega (arith, c.len-then-self-len.ensures, c.grow.new.rows.ok.0, c.grow.ensures.len) in
    subst (λ x. count x (take c.args.self.now.len (loop_of c.grow.new.rows.items)) ≡ 0) id (grown_table c.args.self.now.base c.args.self.now.len c.args.self.now.rows.items c.grow.new.rows.items c.requires.table (omega (arith, c.if-self-len.true, c.requires.few, c.len.ensures, c.args.self.now.rows.ok.0)) c.grow.ensures.ring c.grow.ensures.len c.grow.ensures.after c.grow.ensures.orders c.grow.ensures.spans).4

pub returns-else-self-len-clause-row : goal.returns-else-self-len-clause-row
returns-else-self-len-clause-row g c =
    let rows : List Row = c.args.self.now.rows.items in
    let both = spare_last c.args.self.now.base c.args.self.now.len rows c.requires.table (omega (arith, c.if-self-len.false, c.requires.table.some, c.len.ensures, c.args.self.now.rows.ok.0)) in
    let id = ap (λ (row : Row). row.newer) (found rows 0 c.index.result.now c.requires.table.ring.some c.index.ensures) ∙ newer_at rows 0 in
    subst (λ x. 0 < count x (loop_of rows)) (sym id) both.0

pub returns-else-self-len-clause-none : goal.returns-else-self-len-clause-none
returns-else-self-len-clause-none g c =
    let rows : List Row = c.args.self.now.rows.items in
    let both = spare_last c.args.self.now.base c.args.self.now.len rows c.requires.table (omega (arith, c.if-self-len.false, c.requires.table.some, c.len.ensures, c.args.self.now.rows.ok.0)) in
    let id = ap (λ (row : Row). row.newer) (found rows 0 c.index.result.now c.requires.table.ring.some c.index.ensures) ∙ newer_at rows 0 in
    ap (λ x. count x (take c.args.self.now.len (loop_of rows))) id ∙ both.1
