use Rattle.std.proofs.Common.{ℕ, ap, ◌∙◌, ◌++◌, ◌∷◌, []}
use Rattle.tcp_numbers.specs.declared.seq.Seq.{Seq}
use Rattle.tcp_judge.proofs.Joining.{kept-more}
use Rattle.tcp_judge.proofs.spans.Spans.push.Goals as goal

pub invariant_of-self-2 : goal.invariant_of-self-2
invariant_of-self-2 g c =
    let span : Seq × ℕ = (c.args.first, c.args.count) in
    kept-more _ _ c.self.inside.list.items _ _ _ span (c.push_reserved.ensures.items ∙ ap (λ xs. xs ++ span ∷ []) c.reserve.ensures.items) c.self.invariant
