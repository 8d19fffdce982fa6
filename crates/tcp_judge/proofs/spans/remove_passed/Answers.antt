use Rattle.std.proofs.Common.{arith, ap, sym, ◌∙◌}
use Rattle.std.specs.Prelude.{not}
use Rattle.std.proofs.lemmas.List.Filters.{FiltersInPlace-more_set, FiltersInPlace-more_no}
use Rattle.tcp_judge.proofs.spans.remove_passed.Goals as goal
use Rattle.tcp_judge.proofs.spans.remove_passed.Goals.{then-not-is_passed, else-not-is_passed}

pub loop-i-preserved : goal.loop-i-preserved
loop-i-preserved g c =
    elim c.if-not-is_passed.branch [
      | then-not-is_passed w ↦ rw (w.spans-is, w.kept-is) (FiltersInPlace-more_set {x = c.index-span.result.now} c.loop-i.invariant (omega arith)
          (ap not (sym c.is_passed.ensures ∙ w.if-not-is_passed.true)) c.index-span.ensures)
      | else-not-is_passed w ↦ rw (w.spans-is, w.kept-is) (FiltersInPlace-more_no {x = c.index-span.result.now} c.loop-i.invariant (omega arith)
          (ap not (sym c.is_passed.ensures ∙ w.if-not-is_passed.false)) c.index-span.ensures)
    ]
