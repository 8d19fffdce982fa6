use Rattle.std.proofs.Common.{arith}
use Rattle.tcp_wire.proofs.Outcome.{value_of, fault_of}
use Rattle.tcp_wire.proofs.Unsummed.{vouched_bytes}
use Rattle.tcp_wire.specs.View.{raw_content}
use Rattle.tcp_wire.specs.Vouched.{with_right_sum}
use Rattle.tcp_wire.proofs.raw.RawSegment.parse_vouched.Goals as goal

pub returns-clause-value : goal.returns-clause-value
returns-clause-value c =
    value_of raw_content c.args.src.0 c.args.dst.0 (with_right_sum c.args.src.0 c.args.dst.0 c.args.bytes.now) c.read_vouched.result
    (vouched_bytes c.args.src.0 c.args.dst.0 c.args.bytes.now (λ i. omega (arith, c.type_inv.bytes i))) c.read_vouched.ensures.computed

pub returns-clause-fault : goal.returns-clause-fault
returns-clause-fault c =
    fault_of raw_content c.args.src.0 c.args.dst.0 (with_right_sum c.args.src.0 c.args.dst.0 c.args.bytes.now) c.read_vouched.result
    (vouched_bytes c.args.src.0 c.args.dst.0 c.args.bytes.now (λ i. omega (arith, c.type_inv.bytes i))) c.read_vouched.ensures.computed
