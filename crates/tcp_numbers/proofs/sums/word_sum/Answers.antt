use Rattle.std.proofs.Common.{arith}
use Rattle.tcp_numbers.proofs.WordSums.{word_sum_bound}
use Rattle.tcp_numbers.proofs.sums.word_sum.Goals as goal

pub returns-then-bytes-lt-LONG-clause-bound : goal.returns-then-bytes-lt-LONG-clause-bound
returns-then-bytes-lt-LONG-clause-bound c =
    let bound = word_sum_bound c.args.bytes.now (λ i. omega (arith, c.type_inv.bytes i)) in
    omega (arith, bound, c.short_sum.ensures)

pub returns-else-bytes-lt-LONG-clause-bound : goal.returns-else-bytes-lt-LONG-clause-bound
returns-else-bytes-lt-LONG-clause-bound c =
    let bound = word_sum_bound c.args.bytes.now (λ i. omega (arith, c.type_inv.bytes i)) in
    omega (arith, bound, c.long_sum.ensures)
