use Rattle.std.proofs.Common.{ℕ, ◌*◌, List, length, ap, ◌∙◌, arith, length-drop}
use Rattle.tcp_wire.specs.View.{content_of}
use Rattle.tcp_wire.specs.Wire.{data_offset}
use Rattle.tcp_judge.specs.Taken.{any_offer}
use Rattle.tcp_judge.proofs.Offers.{offer_readable, offer-content}
use Rattle.tcp_judge.proofs.taken.read_around.Goals as goal

-- the options are seven bytes, and the text is what lies behind at least twenty
pub invariant_of-result : goal.invariant_of-result
invariant_of-result c =
    let bytes = c.args.bytes.now in
    record {
      area_fits = omega arith;
      area_reads = offer_readable;
      text_fits = omega (arith, ap (λ (text : List ℕ). length text) c.text_of.ensures, length-drop (4 * data_offset bytes) bytes, c.requires.short, c.requires.behind);
    }

pub returns : goal.returns
returns c =
    let header = c.header_of.result in
    offer-content header c.text_of.result.now ∙ ap (λ (text : List ℕ). content_of header any_offer 0 text) c.text_of.ensures ∙ c.header_of.ensures
