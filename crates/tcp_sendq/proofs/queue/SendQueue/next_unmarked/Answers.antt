use Rattle.std.proofs.Common.{◌≡◌, ◌+◌, ◌-◌, ◌<◌, ◌≤◌, ℕ, length, Some, None, subst, ap, ◌∙◌, arith}
use Rattle.std.specs.Prelude.{unwrap_or}
use Rattle.std.proofs.lemmas.Grind.{common_steps}
use Rattle.tcp_sendq.specs.SendQueue.{IsQueue, next_unmarked}
use Rattle.tcp_sendq.specs.Marks.{first_uncovered, next_start, lowered}
use Rattle.tcp_sendq.proofs.Bases.{lowered-first, lowered-next, raw_in_order}
use Rattle.tcp_sendq.proofs.Calls.{next_unmarked-queue_of_none, next_unmarked-queue_of_some, next_unmarked-first, next_unmarked-none}
use Rattle.tcp_sendq.proofs.Lookups.{first_uncovered-from_at}
use Rattle.tcp_sendq.proofs.queue.SendQueue.next_unmarked.Goals as goal

pub returns-then-at-len-clause-value : goal.returns-then-at-len-clause-value
returns-then-at-len-clause-value g c =
    let base = c.self.inside.base in
    let raw = c.self.inside.marks.table.items in
    let table = lowered base raw in
    let past : length c.self.inside.bytes.items ≤ first_uncovered c.args.at table =
    omega (arith, first_uncovered-from_at table (length c.self.inside.bytes.items) c.args.at c.self.invariant.0.in_order, c.if-at-len.true, c.len-len.ensures.len) in
    next_unmarked-queue_of_none c.self.inside.most_runs c.self.inside.bytes.capacity c.self.inside.bytes.items table c.args.at c.self.invariant.0 past
    ∙ ap (λ q. next_unmarked q c.args.at) c.self.view_is

pub first_unmarked-requires : goal.first_unmarked-requires
first_unmarked-requires g c = raw_in_order c.self.inside.base 0 (length c.self.inside.bytes.items) c.self.inside.marks.table.items c.self.invariant.2.behind c.self.invariant.0.in_order

pub overflow_sub-from : goal.overflow_sub-from
overflow_sub-from g c =
    let base = c.self.inside.base in
    let raw = c.self.inside.marks.table.items in
    let table = lowered base raw in
    let first : c.first_unmarked.result ≡ base + first_uncovered c.args.at table = c.first_unmarked.ensures ∙ lowered-first base c.args.at raw c.self.invariant.2.behind in
    omega (arith, first)

pub returns-then-from-len-clause-value : goal.returns-then-from-len-clause-value
returns-then-from-len-clause-value g c =
    let base = c.self.inside.base in
    let raw = c.self.inside.marks.table.items in
    let table = lowered base raw in
    let first : c.first_unmarked.result ≡ base + first_uncovered c.args.at table = c.first_unmarked.ensures ∙ lowered-first base c.args.at raw c.self.invariant.2.behind in
    let past : length c.self.inside.bytes.items ≤ first_uncovered c.args.at table = omega (arith, first, c.if-from-len.true, c.len-len.ensures.len) in
    next_unmarked-queue_of_none c.self.inside.most_runs c.self.inside.bytes.capacity c.self.inside.bytes.items table c.args.at c.self.invariant.0 past
    ∙ ap (λ q. next_unmarked q c.args.at) c.self.view_is

pub returns-then-from-len-clause-none : goal.returns-then-from-len-clause-none
returns-then-from-len-clause-none g c =
    next_unmarked-none c.args.self.now c.args.at None (subst IsQueue c.self.view_is c.self.invariant.0.sound) (returns-then-from-len-clause-value g c)

pub next_start-requires : goal.next_start-requires
next_start-requires g c = raw_in_order c.self.inside.base 0 (length c.self.inside.bytes.items) c.self.inside.marks.table.items c.self.invariant.2.behind c.self.invariant.0.in_order

-- where the run ends, from the base on
reached : (g : _) (c : goal.After-unwrap_or g) → c.unwrap_or.result ≡ c.self.inside.base + unwrap_or (next_start (c.first_unmarked.result - c.self.inside.base) (lowered c.self.inside.base c.self.inside.marks.table.items)) (length c.self.inside.bytes.items)
reached g c =
    let base = c.self.inside.base in
    let raw = c.self.inside.marks.table.items in
    let from : ℕ = c.first_unmarked.result - base in
    let next : c.unwrap_or.result ≡ unwrap_or (next_start (base + from) raw) (base + length c.self.inside.bytes.items) = grind (arith, common_steps) in
    next ∙ lowered-next base from (length c.self.inside.bytes.items) raw

pub overflow_sub-to : goal.overflow_sub-to
overflow_sub-to g c = omega (arith, reached g c)

pub returns-clause-value : goal.returns-clause-value
returns-clause-value g c =
    let base = c.self.inside.base in
    let raw = c.self.inside.marks.table.items in
    let table = lowered base raw in
    let first : c.first_unmarked.result ≡ base + first_uncovered c.args.at table = c.first_unmarked.ensures ∙ lowered-first base c.args.at raw c.self.invariant.2.behind in
    let count = length c.self.inside.bytes.items in
    let from : c.first_unmarked.result - base ≡ first_uncovered c.args.at table = omega (arith, first) in
    let to : c.unwrap_or.result - base ≡ unwrap_or (next_start (first_uncovered c.args.at table) table) count =
    omega (arith, reached g c ∙ ap (λ n. base + unwrap_or (next_start n table) count) from) in
    let within : first_uncovered c.args.at table < count = omega (arith, from, c.if-from-len.false, c.len-len.ensures.len) in
    ap (λ n. Some (n, c.unwrap_or.result - base)) from
    ∙ (ap (λ n. Some (first_uncovered c.args.at table, n)) to
    ∙ (next_unmarked-queue_of_some c.self.inside.most_runs c.self.inside.bytes.capacity c.self.inside.bytes.items table c.args.at c.self.invariant.0 within ∙ ap (λ q. next_unmarked q c.args.at) c.self.view_is))

pub returns-clause-first : goal.returns-clause-first
returns-clause-first g c =
    next_unmarked-first c.args.self.now c.args.at (Some (c.first_unmarked.result - c.self.inside.base, c.unwrap_or.result - c.self.inside.base)) (subst IsQueue c.self.view_is c.self.invariant.0.sound) (returns-clause-value g c)

pub returns-clause-none : goal.returns-clause-none
returns-clause-none g c =
    next_unmarked-none c.args.self.now c.args.at (Some (c.first_unmarked.result - c.self.inside.base, c.unwrap_or.result - c.self.inside.base)) (subst IsQueue c.self.view_is c.self.invariant.0.sound) (returns-clause-value g c)
