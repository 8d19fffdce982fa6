use Rattle.std.specs.Prelude.{not}
use Rattle.std.proofs.lemmas.List.Filters.{FiltersInPlace}
use Rattle.tcp_judge.specs.Heard.{is_passed}
use Rattle.tcp_judge.proofs.spans.remove_passed.Given as goal

abbrev pub invariant-loop-i : goal.invariant-loop-i
invariant-loop-i g l = FiltersInPlace (λ span. not (is_passed l.acked_number.0 span)) l.fn.spans.items l.spans.items l.kept l.i
