use Rattle.std.proofs.Common.{◌≡◌, drop}
use Rattle.std.specs.List.{list_all}
use Rattle.kit_text.specs.Words.{is_digit, value_from}
use Rattle.kit_text.proofs.numbers.read_number.Given as goal

abbrev pub invariant-loop-digit : goal.invariant-loop-digit
invariant-loop-digit l =
    (value_from l.value (drop l.digit-index l.word) ≡ value_from 0 l.word)
    × (list_all is_digit (drop l.digit-index l.word) ≡ list_all is_digit l.word)
