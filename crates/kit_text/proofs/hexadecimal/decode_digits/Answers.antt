use Rattle.std.proofs.Common.{◌*◌, ◌-◌, length, take, drop, sym, ap, ◌∙◌, length-drop, subst, Bool, cond, Some, None}
use borrow.Rule.Slice.PartMut.{put_mid}
use Rattle.std.proofs.lemmas.List.{take_rest}
use Rattle.kit_text.proofs.Decoding.{load_decoded, still_decoded, rest_decoded, Decoded}
use Rattle.kit_text.proofs.hexadecimal.decode_digits.Goals as goal
use Rattle.kit_text.proofs.hexadecimal.decode_digits.Goals.{then-loop-bytes-test+else-decode_load, else-loop-bytes-test}

pub loop-bytes-preserved : goal.loop-bytes-preserved
loop-bytes-preserved c =
    let i = c.loop-bytes.i in let bytes = c.loop-bytes.bytes in let digits = c.args.digits.now in
    load_decoded i digits bytes (take (length digits - 2 * i) (drop (2 * i) digits)) c.decode_load.new.bytes c.loop-bytes.invariant c.loop-bytes-test.true (take_rest digits (2 * i))
    (c.decode_load.ensures.len ∙ ap length (take_rest bytes i) ∙ length-drop i bytes)
    (c.decode_load.ensures.read c.if-decode_load.true)

pub returns : goal.returns
returns c =
    let i = c.loop-bytes.i in let bytes = c.loop-bytes-test.bytes in let digits = c.args.digits.now in
    let before = c.loop-bytes.bytes in
    let done : Decoded i digits bytes = elim c.loop-bytes-test.branch [
      | then-loop-bytes-test+else-decode_load w ↦
          subst (Decoded i digits) (sym w.bytes-is)
          (still_decoded i digits before w.decode_load.new.bytes c.loop-bytes.invariant (w.decode_load.ensures.len ∙ ap length (take_rest before i) ∙ length-drop i before))
      | else-loop-bytes-test w ↦ subst (Decoded i digits) (sym w.bytes-is) c.loop-bytes.invariant
    ] in
    rest_decoded i (length (take (length bytes - i) (drop i bytes))) digits bytes (take (length digits - 2 * i) (drop (2 * i) digits)) c.decode_to_slice.new.out c.decode_to_slice.result
    done (take_rest digits (2 * i)) (ap length (take_rest bytes i) ∙ length-drop i bytes) c.decode_to_slice.ensures.value
    ∙ ap (λ (b : Bool). cond b (Some (put_mid i (length bytes - i) bytes c.decode_to_slice.new.out)) None) (sym c.is_ok.ensures.value)
