use Rattle.std.proofs.Common.{arith}
use Rattle.tcp_numbers.proofs.WordSums.{word_sum_bound}
use Rattle.tcp_numbers.proofs.sums.long_sum.Goals as goal

pub overflow_add-sum : goal.overflow_add-sum
overflow_add-sum c =
    let bound = word_sum_bound c.args.bytes.now (λ i. omega (arith, c.type_inv.bytes i)) in
    record { fits = omega (arith, bound, c.loop-rest.invariant.sum, c.lane_sum-more.ensures.sum, c.requires) }

pub overflow_add-result : goal.overflow_add-result
overflow_add-result c =
    let bound = word_sum_bound c.args.bytes.now (λ i. omega (arith, c.type_inv.bytes i)) in
    record { fits = omega (arith, bound, c.loop-rest.invariant.sum, c.short_sum.ensures, c.requires) }
