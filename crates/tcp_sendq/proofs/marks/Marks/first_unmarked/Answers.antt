use Rattle.std.proofs.Common.{ap, sym, ◌∙◌, rules, of_calls, nat_le, if◌then◌else◌}
use Rattle.std.proofs.lemmas.Bool.{le-leb, lt-leb}
use Rattle.std.proofs.lemmas.Fn.{always_returns_same}
use Rattle.tcp_sendq.proofs.Halves.{end_or, first_found, none_at, some_found}
use Rattle.tcp_sendq.proofs.marks.Marks.first_unmarked.Goals as goal

pub returns-in_default : goal.returns-in_default
returns-in_default g c =
    let runs = c.as_slice-runs.result.now in
    let place = c.partition_point-place.result in
    let found = first_found runs c.args.self.now.table.items c.args.at place c.as_slice-runs.ensures.value c.requires c.partition_point-place.ensures.bound
    (c.partition_point-place.ensures.partitioned (λ run. nat_le run.end c.args.at) (always_returns_same _ _ _ (λ a r f k. search (rules, of_calls)))) in
    sym (ap (end_or c.args.at) (none_at runs place c.in_default.ensures.lookup.3)) ∙ found

pub returns-then-run-at : goal.returns-then-run-at
returns-then-run-at g c =
    let runs = c.as_slice-runs.result.now in
    let place = c.partition_point-place.result in
    let run = c.in-Some.run'.now in
    let found = first_found runs c.args.self.now.table.items c.args.at place c.as_slice-runs.ensures.value c.requires c.partition_point-place.ensures.bound
    (c.partition_point-place.ensures.partitioned (λ run. nat_le run.end c.args.at) (always_returns_same _ _ _ (λ a r f k. search (rules, of_calls)))) in
    sym (ap (λ b. if b then run.end else c.args.at) (le-leb run.start c.args.at c.if-run-at.true))
    ∙ (sym (ap (end_or c.args.at) (some_found runs place run c.in-Some.ensures.lookup.3.0 c.in-Some.ensures.lookup.1)) ∙ found)

pub returns-else-run-at : goal.returns-else-run-at
returns-else-run-at g c =
    let runs = c.as_slice-runs.result.now in
    let place = c.partition_point-place.result in
    let run = c.in-Some.run'.now in
    let found = first_found runs c.args.self.now.table.items c.args.at place c.as_slice-runs.ensures.value c.requires c.partition_point-place.ensures.bound
    (c.partition_point-place.ensures.partitioned (λ run. nat_le run.end c.args.at) (always_returns_same _ _ _ (λ a r f k. search (rules, of_calls)))) in
    sym (ap (λ b. if b then run.end else c.args.at) (lt-leb run.start c.args.at c.if-run-at.false))
    ∙ (sym (ap (end_or c.args.at) (some_found runs place run c.in-Some.ensures.lookup.3.0 c.in-Some.ensures.lookup.1)) ∙ found)
