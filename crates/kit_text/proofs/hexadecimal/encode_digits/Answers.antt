use Rattle.std.proofs.Common.{◌*◌, ◌-◌, length, take, drop, ap, ◌∙◌, arith, length-drop}
use Rattle.std.proofs.lemmas.List.{take_rest}
use Rattle.hex.specs.Hex.{encode_lower}
use Rattle.kit_text.proofs.Encoding.{none_encoded, load_encoded, rest_encoded, where_ok}
use Rattle.kit_text.proofs.hexadecimal.encode_digits.Goals as goal

pub loop-i-init : goal.loop-i-init
loop-i-init c = none_encoded c.args.bytes.now c.args.digits.now c.requires

pub loop-i-preserved : goal.loop-i-preserved
loop-i-preserved c =
    let i = c.loop-i.i in let bytes = c.args.bytes.now in let digits = c.loop-i.digits in
    load_encoded i bytes digits (take (length bytes - i) (drop i bytes)) c.encode_load.new.digits c.loop-i.invariant c.loop-i-test.true (take_rest bytes i)
    (c.encode_load.ensures.len ∙ ap length (take_rest digits (2 * i)) ∙ length-drop (2 * i) digits) c.encode_load.ensures.written

pub returns : goal.returns
returns c =
    let i = c.loop-i.i in let bytes = c.args.bytes.now in let digits = c.loop-i.digits in
    let room = ap length (take_rest digits (2 * i)) ∙ length-drop (2 * i) digits in
    let part = ap length (take_rest bytes i) ∙ length-drop i bytes in
    let ok = c.encode_to_slice.ensures.fits.1 (omega (arith, room, part, c.loop-i.invariant.twice, c.loop-i.invariant.inside)) in
    rest_encoded i bytes digits c.encode_to_slice.new.output c.loop-i.invariant
    (where_ok c.encode_to_slice.result ok c.encode_to_slice.ensures.written ∙ ap encode_lower (take_rest bytes i))
