use Rattle.std.proofs.Common.{ap, sym, ◌∙◌, rules, of_calls, nat_le}
use Rattle.std.specs.Option.{option_map}
use Rattle.std.proofs.lemmas.Fn.{always_returns_same}
use Rattle.tcp_sendq.specs.declared.marks.Interval.{Interval}
use Rattle.tcp_sendq.proofs.Halves.{next_found, none_at, some_found}
use Rattle.tcp_sendq.proofs.marks.Marks.next_start.Goals as goal

pub returns-in_err-run : goal.returns-in_err-run
returns-in_err-run g c =
    let runs = c.as_slice-runs.result.now in
    let place = c.partition_point-place.result in
    let found = next_found runs c.args.self.now.table.items c.args.from place c.as_slice-runs.ensures.value c.requires c.partition_point-place.ensures.bound
    (c.partition_point-place.ensures.partitioned (λ run. nat_le run.start c.args.from) (always_returns_same _ _ _ (λ a r f k. search (rules, of_calls)))) in
    c.from_residual.ensures ∙ (sym (ap (option_map (λ (one : Interval). one.start)) (none_at runs place c.in_err-run.ensures.lookup.3)) ∙ found)

pub returns : goal.returns
returns g c =
    let runs = c.as_slice-runs.result.now in
    let place = c.partition_point-place.result in
    let run = c.in_ok-run.run'.now in
    let found = next_found runs c.args.self.now.table.items c.args.from place c.as_slice-runs.ensures.value c.requires c.partition_point-place.ensures.bound
    (c.partition_point-place.ensures.partitioned (λ run. nat_le run.start c.args.from) (always_returns_same _ _ _ (λ a r f k. search (rules, of_calls)))) in
    sym (ap (option_map (λ (one : Interval). one.start)) (some_found runs place run c.in_ok-run.ensures.lookup.3.0 c.in_ok-run.ensures.lookup.1)) ∙ found
