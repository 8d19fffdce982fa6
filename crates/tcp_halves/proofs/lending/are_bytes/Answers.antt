use Rattle.std.proofs.Common.{arith}
use Rattle.tcp_wire.proofs.Bytes.{bytes_append}
use Rattle.tcp_halves.proofs.lending.are_bytes.Goals as goal

pub returns : goal.returns
returns c = bytes_append c.args.first.now c.args.second.now (λ i. omega (arith, c.type_inv.first i)) (λ i. omega (arith, c.type_inv.second i))
