use Rattle.std.proofs.Common.{arith}
use Rattle.tcp_numbers.proofs.WordSums.{word_sum_bound}
use Rattle.tcp_numbers.proofs.sums.short_sum.Goals as goal

pub overflow_add-sum : goal.overflow_add-sum
overflow_add-sum c =
    let bound = word_sum_bound c.args.bytes.now (λ i. omega (arith, c.type_inv.bytes i)) in
    record { fits = omega (arith, bound, c.requires, c.short_lane_sum-front.ensures.sum, c.sum_eight-eight.ensures.sum) }

pub overflow_add-sum-2 : goal.overflow_add-sum-2
overflow_add-sum-2 c =
    let bound = word_sum_bound c.args.bytes.now (λ i. omega (arith, c.type_inv.bytes i)) in
    record { fits = omega (arith, bound, c.requires, c.short_lane_sum-front.ensures.sum, c.sum_eight-eight.ensures.sum, c.sum_four-four.ensures.sum) }

pub overflow_add-sum-3 : goal.overflow_add-sum-3
overflow_add-sum-3 c =
    let bound = word_sum_bound c.args.bytes.now (λ i. omega (arith, c.type_inv.bytes i)) in
    record { fits = omega (arith, bound, c.requires, c.short_lane_sum-front.ensures.sum, c.sum_eight-eight.ensures.sum, c.sum_four-four.ensures.sum, c.sum_two-two.ensures.sum) }

pub overflow_add-sum-in-len1 : goal.overflow_add-sum-in-len1
overflow_add-sum-in-len1 c =
    let bound = word_sum_bound c.args.bytes.now (λ i. omega (arith, c.type_inv.bytes i)) in
    record { fits = omega (arith, bound, c.requires, c.short_lane_sum-front.ensures.sum, c.sum_eight-eight.ensures.sum, c.sum_four-four.ensures.sum, c.sum_two-two.ensures.sum) }
