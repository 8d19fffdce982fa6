use Rattle.std.proofs.Common.{◌≡◌, ap, sym, ◌∙◌, rules, of_calls, nat_lt, subst}
use Rattle.std.proofs.lemmas.Fn.{always_returns_same}
use Rattle.tcp_sendq.specs.Marks.{AreInOrder, count_before}
use Rattle.tcp_sendq.proofs.Halves.{ends_rise, count_from_point}
use Rattle.tcp_sendq.proofs.marks.Marks.count_before.Goals as goal

pub returns-clause-value : goal.returns-clause-value
returns-clause-value g c =
    let runs = c.as_slice.result.now in
    let same : runs ≡ c.args.self.now.table.items = c.as_slice.ensures.value in
    let point = c.partition_point.ensures.partitioned (λ run. nat_lt run.end c.args.from) (always_returns_same _ _ _ (λ a r f k. search (rules, of_calls)))
    (ends_rise runs c.args.from (subst AreInOrder (sym same) c.requires)) in
    count_from_point runs c.args.from c.partition_point.result c.partition_point.ensures.bound point ∙ ap (count_before c.args.from) same
