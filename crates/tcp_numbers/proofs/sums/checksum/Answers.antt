use Rattle.std.proofs.Common.{◌+◌, arith}
use Rattle.tcp_numbers.proofs.WordSums.{field_is}
use Rattle.tcp_numbers.proofs.sums.checksum.Goals as goal

pub returns : goal.returns
returns c =
    field_is c.args.src.0 c.args.dst.0 c.args.bytes.now (c.word_sum.result + c.pseudo_sum.result) c.from-own.result
    (omega arith) (omega arith) (omega arith) (omega arith)
