use Rattle.std.proofs.Common.{◌≡◌, ◌-◌, ◌++◌, ℕ, List, ap, ◌∙◌, refl, arith, get_or, set, take, append-nil}
use Rattle.std.specs.Prelude.{map}
use Rattle.std.proofs.lemmas.List.{map-set, length-map, length-set, take_all, drop_all, get_or_default}
use Rattle.std.proofs.lemmas.List.Edits.{map_over_more}
use Rattle.std.proofs.Math.Seq.{map-set_same}
use Rattle.tcp_reasm.specs.declared.rows.Row.{Row}
use Rattle.tcp_reasm.specs.declared.table.Run.{Run as Entry}
use Rattle.tcp_reasm.specs.Rows.{span, span_of, spans, lowered}
use Rattle.tcp_reasm.proofs.Fields.{bare, span_at}
use Rattle.tcp_reasm.proofs.rows.settle.Goals as goal

pub loop-next-preserved : goal.loop-next-preserved
loop-next-preserved c =
    let rows : List Row = c.loop-next.rows in
    let next : ℕ = c.loop-next.next in
    let run : Entry = span_of (get_or rows next bare) in
    let word : run ≡ get_or (spans rows) next run = span_at rows next ∙ get_or_default (spans rows) next (span 0 0) run (omega (arith, length-map rows span_of, c.loop-next-test.true)) in
    record {
      most = omega (arith, c.loop-next.invariant.size, c.loop-next-test.true);
      size = length-set _ _ _ ∙ c.loop-next.invariant.size;
      runs =
          map-set span_of _ _ _
          ∙ (ap (λ n. set (spans rows) next (span n c.saturating_sub-in-loop-next.result)) c.saturating_sub.ensures
          ∙ (ap (λ n. set (spans rows) next (span (run.from - c.args.base) n)) c.saturating_sub-in-loop-next.ensures
          ∙ map_over_more (lowered c.args.base) (spans c.args.rows.now) (spans rows) next run (omega (arith, length-map c.args.rows.now span_of, c.loop-next.invariant.size, c.loop-next-test.true)) c.loop-next.invariant.runs word));
      older = map-set_same (λ (row : Row). row.older) _ _ _ _ refl ∙ c.loop-next.invariant.older;
      newer = map-set_same (λ (row : Row). row.newer) _ _ _ _ refl ∙ c.loop-next.invariant.newer;
      order = map-set_same (λ (row : Row). row.order) _ _ _ _ refl ∙ c.loop-next.invariant.order;
    }

pub returns-clause-spans : goal.returns-clause-spans
returns-clause-spans c =
    let all : List Entry = spans c.args.rows.now in
    c.loop-next.invariant.runs
    ∙ (ap (λ (ys : List Entry). map (lowered c.args.base) (take c.loop-next.next all) ++ ys) (drop_all c.loop-next.next all (omega (arith, length-map c.args.rows.now span_of, c.loop-next.invariant.size, c.loop-next-test.false)))
    ∙ (append-nil (map (lowered c.args.base) (take c.loop-next.next all)) ∙ ap (map (lowered c.args.base)) (take_all c.loop-next.next all (omega (arith, length-map c.args.rows.now span_of, c.loop-next.invariant.size, c.loop-next-test.false)))))
