use Rattle.std.proofs.Common.{◌≡◌, ap, sym, ◌∙◌, rules, of_calls, nat_le, subst}
use Rattle.std.proofs.lemmas.Fn.{always_returns_same}
use Rattle.tcp_sendq.specs.Marks.{AreInOrder, count_to}
use Rattle.tcp_sendq.proofs.Halves.{starts_rise_to, count_to-from_point}
use Rattle.tcp_sendq.proofs.marks.Marks.count_to.Goals as goal

pub returns-clause-value : goal.returns-clause-value
returns-clause-value g c =
    let runs = c.as_slice.result.now in
    let same : runs ≡ c.args.self.now.table.items = c.as_slice.ensures.value in
    let point = c.partition_point.ensures.partitioned (λ run. nat_le run.start c.args.to) (always_returns_same _ _ _ (λ a r f k. search (rules, of_calls)))
    (starts_rise_to runs c.args.to (subst AreInOrder (sym same) c.requires)) in
    count_to-from_point runs c.args.to c.partition_point.result c.partition_point.ensures.bound point ∙ ap (count_to c.args.to) same
