use Rattle.std.proofs.Common.{◌∙◌, refl, ap, List, ℕ, set}
use Rattle.std.proofs.lemmas.List.{map-set}
use Rattle.std.proofs.Math.Seq.{map-set_same}
use Rattle.tcp_reasm.specs.declared.rows.Row.{Row}
use Rattle.tcp_reasm.specs.Rows.{span_of}
use Rattle.tcp_reasm.proofs.rows.link.Goals as goal

pub returns-clause-olders : goal.returns-clause-olders
returns-clause-olders c = map-set_same (λ (row : Row). row.older) _ _ _ _ refl ∙ map-set (λ (row : Row). row.older) _ _ _

pub returns-clause-newers : goal.returns-clause-newers
returns-clause-newers c = map-set (λ (row : Row). row.newer) _ _ _ ∙ ap (λ (xs : List ℕ). set xs c.args.older c.args.newer) (map-set_same (λ (row : Row). row.newer) _ _ _ _ refl)

pub returns-clause-orders : goal.returns-clause-orders
returns-clause-orders c = map-set_same (λ (row : Row). row.order) _ _ _ _ refl ∙ map-set_same (λ (row : Row). row.order) _ _ _ _ refl

pub returns-clause-spans : goal.returns-clause-spans
returns-clause-spans c = map-set_same span_of _ _ _ _ refl ∙ map-set_same span_of _ _ _ _ refl
