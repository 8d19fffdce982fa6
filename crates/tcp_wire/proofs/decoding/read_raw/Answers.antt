use Rattle.std.proofs.Common.{arith}
use Rattle.std.proofs.lemmas.Grind.{common_steps}
use Rattle.tcp_wire.proofs.Reading.{checksum_fault}
use Rattle.tcp_wire.proofs.decoding.read_raw.Goals as goal

pub returns-then-not-checks-clause-computed : goal.returns-then-not-checks-clause-computed
returns-then-not-checks-clause-computed c =
    checksum_fault c.args.src.0 c.args.dst.0 c.args.bytes.now (omega arith, omega arith) (λ right. grind (arith, common_steps, right, c.checks.ensures.exact))
