use Rattle.std.proofs.Common.{ap, arith}
use Rattle.tcp_reasm.specs.declared.table.Run.{Run as Entry}
use Rattle.tcp_reasm.proofs.Searches.{begins_from}
use Rattle.tcp_reasm.proofs.table.Table.count_to.Goals as goal

pub returns-then-run_at-place-clause-behind : goal.returns-then-run_at-place-clause-behind
returns-then-run_at-place-clause-behind g c =
    begins_from c.args.self.now.base c.args.self.now.len c.args.place c.loop-past.past c.args.self.now.rows.items c.requires.table (omega (arith, ap (λ (run : Entry). run.from) c.run_at.ensures, c.if-run_at-place.true))
