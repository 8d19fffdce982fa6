use Rattle.std.proofs.Common.{arith}
use Rattle.tcp_wire.proofs.Unsummed.{vouched_short, vouched_long, read_through}
use Rattle.tcp_wire.proofs.vouched.read_vouched.Goals as goal

pub returns-then-bytes-lt-HEADER_LEN-clause-computed : goal.returns-then-bytes-lt-HEADER_LEN-clause-computed
returns-then-bytes-lt-HEADER_LEN-clause-computed c =
    vouched_short c.args.src.0 c.args.dst.0 c.args.bytes.now (λ i. omega (arith, c.type_inv.bytes i)) (omega arith)

pub returns-then-bytes-gt-MAX_LEN-clause-computed : goal.returns-then-bytes-gt-MAX_LEN-clause-computed
returns-then-bytes-gt-MAX_LEN-clause-computed c =
    vouched_long c.args.src.0 c.args.dst.0 c.args.bytes.now (λ i. omega (arith, c.type_inv.bytes i)) (omega arith)

pub returns-clause-computed : goal.returns-clause-computed
returns-clause-computed c =
    read_through c.args.src.0 c.args.dst.0 c.args.bytes.now c.lay_out.result (omega arith) (omega arith) c.lay_out.ensures.value
