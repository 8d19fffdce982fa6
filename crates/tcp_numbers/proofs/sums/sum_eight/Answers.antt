use Rattle.std.proofs.Common.{ap, arith}
use Rattle.std.proofs.lemmas.List.{take_rest}
use Rattle.tcp_numbers.specs.Checksum.{word_sum}
use Rattle.tcp_numbers.proofs.WordSums.{word_sum_four}
use Rattle.tcp_numbers.proofs.sums.sum_eight.Goals as goal

pub returns-clause-sum : goal.returns-clause-sum
returns-clause-sum c =
    let bytes = c.args.bytes.now in
    let four = word_sum_four bytes (λ i. omega (arith, c.type_inv.bytes i)) (omega arith) in
    omega (arith, four, c.read_u64-four.ensures, ap word_sum (take_rest bytes 8))
