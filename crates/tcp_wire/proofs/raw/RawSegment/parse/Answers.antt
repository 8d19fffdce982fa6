use Rattle.std.proofs.Common.{arith}
use Rattle.tcp_wire.proofs.Outcome.{value_of, fault_of, damaged_of}
use Rattle.tcp_wire.specs.View.{raw_content}
use Rattle.tcp_wire.proofs.raw.RawSegment.parse.Goals as goal

pub returns-clause-value : goal.returns-clause-value
returns-clause-value c = value_of raw_content c.args.src.0 c.args.dst.0 c.args.bytes.now c.read_raw.result (λ i. omega (arith, c.type_inv.bytes i)) c.read_raw.ensures.computed

pub returns-clause-fault : goal.returns-clause-fault
returns-clause-fault c = fault_of raw_content c.args.src.0 c.args.dst.0 c.args.bytes.now c.read_raw.result (λ i. omega (arith, c.type_inv.bytes i)) c.read_raw.ensures.computed

pub returns-clause-replaced : goal.returns-clause-replaced
returns-clause-replaced c = λ v sent w d. damaged_of raw_content c.args.src.0 c.args.dst.0 v sent c.args.bytes.now c.read_raw.result c.read_raw.ensures.computed w d
