use Rattle.std.proofs.Common.{◌≡◌, ◌+◌, ◌-◌, ◌*◌, suc, ◌∷◌, get_or, drop, sym, ap, ◌∙◌, arith, drop-cons}
use Rattle.kit_text.specs.Words.{value_from}
use Rattle.kit_text.proofs.Digits.{value_from-least, number_of-above}
use Rattle.kit_text.proofs.numbers.read_number.Goals as goal

pub returns-in_err-value-clause-value : goal.returns-in_err-value-clause-value
returns-in_err-value-clause-value c =
    let word = c.args.word.now in let i = c.loop-digit.digit-index in let d = get_or word i 0 in
    let here : drop i word ≡ d ∷ drop (suc i) word = drop-cons word i 0 (omega arith) in
    let goes : value_from 0 word ≡ value_from (10 * c.loop-digit.value + (d - 48)) (drop (suc i) word) = sym c.loop-digit.invariant.0 ∙ ap (value_from c.loop-digit.value) here in
    c.from_residual.ensures
    ∙ number_of-above c.args.most word (omega (arith, goes, value_from-least (10 * c.loop-digit.value + (d - 48)) (drop (suc i) word), c.in_err-value.ensures.above))
