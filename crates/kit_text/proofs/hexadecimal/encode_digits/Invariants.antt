use Rattle.std.proofs.Common.{◌-◌, length}
use Rattle.kit_text.proofs.Encoding.{Encoded}
use Rattle.kit_text.proofs.hexadecimal.encode_digits.Given as goal

abbrev pub invariant-loop-i : goal.invariant-loop-i
invariant-loop-i l = Encoded l.i l.bytes l.digits

abbrev pub decreases-loop-i : goal.decreases-loop-i
decreases-loop-i l = length l.bytes - l.i
