use Rattle.std.proofs.Common.{◌+◌, ◌-◌, ◌<◌, ◌/◌, ℕ, ap, arith}
use Rattle.tcp_reasm.specs.declared.table.Run.{Run as Entry}
use Rattle.tcp_reasm.proofs.Searches.{ended_to, not_ended_from}
use Rattle.tcp_reasm.proofs.table.Table.count_before.Goals as goal

half : (low high : ℕ) → low < high → (low + (high - low) / 2 < high)
half low high less = omega (arith, less)

pub loop-low-preserved-then-run_at-place : goal.loop-low-preserved-then-run_at-place
loop-low-preserved-then-run_at-place g c =
    let middle : ℕ = c.loop-low.low + (c.loop-low.high - c.loop-low.low) / 2 in
    let below = half c.loop-low.low c.loop-low.high c.loop-low-test.true in
    record {
      ordered = omega (arith, below);
      within = c.loop-low.invariant.within;
      before = ended_to c.args.self.now.base c.args.self.now.len c.args.place middle c.args.self.now.rows.items c.requires (omega (arith, below, c.loop-low.invariant.within)) (omega (arith, ap (λ (run : Entry). run.to) c.run_at.ensures, c.if-run_at-place.true));
      behind = c.loop-low.invariant.behind;
    }

pub loop-low-preserved : goal.loop-low-preserved
loop-low-preserved g c =
    let middle : ℕ = c.loop-low.low + (c.loop-low.high - c.loop-low.low) / 2 in
    let below = half c.loop-low.low c.loop-low.high c.loop-low-test.true in
    record {
      ordered = omega arith;
      within = omega (arith, below, c.loop-low.invariant.within);
      before = c.loop-low.invariant.before;
      behind = not_ended_from c.args.self.now.base c.args.self.now.len c.args.place middle c.args.self.now.rows.items c.requires (omega (arith, ap (λ (run : Entry). run.to) c.run_at.ensures, c.if-run_at-place.false));
    }
