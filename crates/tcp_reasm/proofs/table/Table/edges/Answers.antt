use Rattle.std.proofs.Common.{◌≡◌, ◌<◌, ◌+◌, ◌∷◌, ◌++◌, [], suc, ℕ, List, ap, sym, ◌∙◌, arith, length, take}
use Rattle.std.specs.Prelude.{map}
use Rattle.tcp_reasm.specs.declared.rows.Row.{Row}
use Rattle.tcp_reasm.specs.declared.table.Run.{Run as Entry}
use Rattle.tcp_reasm.specs.Reassembly.{Run}
use Rattle.tcp_reasm.specs.Store.{runs_in}
use Rattle.tcp_reasm.specs.Rows.{at, loop_of, newest}
use Rattle.tcp_reasm.proofs.Fields.{found, older_at}
use Rattle.tcp_reasm.proofs.Puts.{next_row, ring_row, edges_more}
use Rattle.tcp_reasm.proofs.table.Table.edges.Goals as goal

suc_of : (k : ℕ) → suc k ≡ k + 1
suc_of k = omega arith

pub index-requires : goal.index-requires
index-requires g c =
    let rows : List Row = c.args.self.now.rows.items in
    omega (arith, c.loop-id.invariant.row, ring_row rows (length c.loop-id.edges.items) c.requires.ring (omega (arith, c.len.ensures.value, c.loop-id-test.true, c.min-count.ensures, c.requires.some)), c.args.self.now.rows.ok.0)

pub run_of-run-requires : goal.run_of-run-requires
run_of-run-requires g c =
    let rows : List Row = c.args.self.now.rows.items in
    let k : ℕ = length c.loop-id.edges.items in
    let id_in : c.loop-id.id < length rows = omega (arith, c.loop-id.invariant.row, ring_row rows k c.requires.ring (omega (arith, c.len.ensures.value, c.loop-id-test.true, c.min-count.ensures, c.requires.some))) in
    let older : c.index.result.now.older ≡ at (loop_of rows) k =
    ap (λ (row : Row). row.older) (found rows c.loop-id.id c.index.result.now id_in c.index.ensures) ∙ (older_at rows c.loop-id.id ∙ next_row rows k c.loop-id.id (omega (arith, c.len.ensures.value, c.loop-id-test.true, c.min-count.ensures, c.requires.some)) c.loop-id.invariant.row) in
    omega (arith, older, ring_row rows (suc k) c.requires.ring (omega (arith, c.len.ensures.value, c.loop-id-test.true, c.min-count.ensures, c.requires.some)))

pub loop-id-preserved : goal.loop-id-preserved
loop-id-preserved g c =
    let rows : List Row = c.args.self.now.rows.items in
    let k : ℕ = length c.loop-id.edges.items in
    let id_in : c.loop-id.id < length rows = omega (arith, c.loop-id.invariant.row, ring_row rows k c.requires.ring (omega (arith, c.len.ensures.value, c.loop-id-test.true, c.min-count.ensures, c.requires.some))) in
    let older : c.index.result.now.older ≡ at (loop_of rows) k =
    ap (λ (row : Row). row.older) (found rows c.loop-id.id c.index.result.now id_in c.index.ensures) ∙ (older_at rows c.loop-id.id ∙ next_row rows k c.loop-id.id (omega (arith, c.len.ensures.value, c.loop-id-test.true, c.min-count.ensures, c.requires.some)) c.loop-id.invariant.row) in
    let more : length c.push.new.self.items ≡ k + 1 = omega (arith, c.push.ensures.len) in
    record {
      few = omega (arith, more, c.len.ensures.value, c.loop-id-test.true);
      row = older ∙ ap (at (0 ∷ loop_of rows)) (suc_of k ∙ sym more);
      made =
          c.push.ensures.items
          ∙ (ap (λ (xs : List (ℕ × ℕ)). xs ++ (c.run_of-run.result.from, c.run_of-run.result.to) ∷ []) c.loop-id.invariant.made
          ∙ (ap (λ (run : Entry). map {B = ℕ × ℕ} (λ (run : Run). (run.from, run.to)) (runs_in (take k (newest c.args.self.now.base c.args.self.now.len rows))) ++ (run.from, run.to) ∷ []) c.run_of-run.ensures
          ∙ (sym (edges_more c.args.self.now.base c.args.self.now.len k c.index.result.now.older rows c.requires.some (omega (arith, c.len.ensures.value, c.loop-id-test.true, c.min-count.ensures)) older)
          ∙ ap (λ n. map {B = ℕ × ℕ} (λ (run : Run). (run.from, run.to)) (runs_in (take n (newest c.args.self.now.base c.args.self.now.len rows)))) (sym more))));
    }
