use Rattle.std.proofs.lemmas.Str.{IsUtf8-from_ascii}
use Rattle.hex.proofs.HexLemmas.{IsAscii-encode_with}
use Rattle.hex.specs.Hex.{lower_digits}
use Rattle.kit_text.proofs.Encoding.{lower_digits_ascii}
use Rattle.kit_text.proofs.hexadecimal.push_block.Goals as goal

pub from_utf8_unchecked-requires : goal.from_utf8_unchecked-requires
from_utf8_unchecked-requires g c =
    IsUtf8-from_ascii _ (rw (← c.encode_digits.ensures) at (IsAscii-encode_with lower_digits c.args.bytes.now lower_digits_ascii))
