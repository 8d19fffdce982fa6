use Rattle.std.proofs.Common.{◌≡◌, ℕ, ◌^◌, List, subst}
use Rattle.std.specs.Prelude.{true}
use Rattle.tcp_numbers.specs.declared.seq.Seq.{Seq}
use Rattle.tcp_wire.specs.Position.{number}
use Rattle.tcp_judge.specs.Heard.{has_come}
use Rattle.tcp_judge.specs.Run.{number_before}
use Rattle.tcp_judge.proofs.spans.Spans.count_in_run.Goals as goal

pub returns-then-is_from : goal.returns-then-is_from
returns-then-is_from g c j less =
    subst (λ (spans : List (Seq × ℕ)). has_come spans (number_before c.args.wanted.0 j) ≡ true) c.self.view_is
    (c.count_among.ensures c.self.inside.acked_number.0 c.self.inside.list.items c.self.invariant.2 j less)

pub returns : goal.returns
returns g c j less =
    subst (λ (spans : List (Seq × ℕ)). has_come spans (number_before c.args.wanted.0 j) ≡ true) c.self.view_is
    (c.count_among-2.ensures (number c.self.inside.acked_number.0 (2 ^ 31)) c.self.inside.list.items c.self.invariant.3 j less)
