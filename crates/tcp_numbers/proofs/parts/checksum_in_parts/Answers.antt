use Rattle.std.proofs.Common.{◌≡◌, ◌+◌, ◌/◌, ◌++◌, ◌∙◌, ℕ, List, ap, length, length-append, arith}
use Rattle.tcp_numbers.specs.Checksum.{word_sum, pseudo_header, segment_sum, completion}
use Rattle.tcp_numbers.proofs.WordSums.{word_sum-append}
use Rattle.tcp_numbers.proofs.parts.checksum_in_parts.Goals as goal

pub returns : goal.returns
returns c =
    let front : List ℕ = c.args.front.now in
    let text : List ℕ = c.args.first.now ++ c.args.second.now in
    let len : length front + length c.args.first.now + length c.args.second.now ≡ length (front ++ text) =
    omega (arith, length-append front text, length-append c.args.first.now c.args.second.now) in
    let pseudo = c.pseudo_sum.ensures.exact ∙ ap (λ (n : ℕ). word_sum (pseudo_header c.args.src.0 c.args.dst.0 n)) len in
    let whole = word_sum-append (length front / 2) front text (omega (arith, c.requires.words)) in
    let sum : c.word_sum.result + c.joined_sum.result + c.pseudo_sum.result ≡ segment_sum c.args.src.0 c.args.dst.0 (front ++ text) =
    omega (arith, pseudo, whole, c.word_sum.ensures.exact, c.joined_sum.ensures.exact) in
    ap completion sum
