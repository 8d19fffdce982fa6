use Rattle.std.proofs.Common.{◌-◌, length}
use Rattle.kit_text.proofs.Decoding.{Decoded}
use Rattle.kit_text.proofs.hexadecimal.decode_digits.Given as goal

abbrev pub invariant-loop-bytes : goal.invariant-loop-bytes
invariant-loop-bytes l = Decoded l.i l.digits l.bytes

abbrev pub decreases-loop-bytes : goal.decreases-loop-bytes
decreases-loop-bytes l = length l.bytes - l.i
