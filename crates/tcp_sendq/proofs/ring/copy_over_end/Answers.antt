use Rattle.std.proofs.Common.{◌≡◌, ◌-◌, [], ◌++◌, length, take, drop, ap, ◌∙◌, arith, length-drop}
use Rattle.std.proofs.lemmas.Grind.{common_steps}
use Rattle.std.proofs.lemmas.List.{append-nil, take_at, nil_from_length, take_min, drop_min}
use Rattle.tcp_sendq.proofs.Joined.{drop-joined, take-joined}
use borrow.Rule.Slice.PartMut.{post_of}
use Rattle.tcp_sendq.proofs.ring.copy_over_end.Goals as goal

pub returns : goal.returns
returns c =
    let count = c.min-count.result in
    let out = c.args.out.now in
    let front = c.args.front.now in
    let back = c.args.back.now in
    let head : c.copy_from_slice.new.self ≡ take (length out) (drop c.args.at front) = grind (arith, common_steps, take_min, drop_min) in
    let tail : c.copy_from_slice-2.new.self ≡ take (length out - length (drop c.args.at front)) (drop (c.args.at - length front) back) =
    grind (arith, common_steps, take_min, drop_min) in
    let written = c.copy_from_slice.new.self ++ drop count out in
    let whole : length c.copy_from_slice.new.self ≡ count = grind (arith, common_steps) in
    let first : take count written ≡ c.copy_from_slice.new.self = take_at c.copy_from_slice.new.self (drop count out) count whole in
    let none : post_of count (length written - count) written ≡ [] = nil_from_length _ (omega (arith, length-drop (length written - count) (drop count written), length-drop count written)) in
    let cut : take (length out) (drop c.args.at (front ++ back)) ≡ take (length out) (drop c.args.at front) ++ take (length out - length (drop c.args.at front)) (drop (c.args.at - length front) back) =
    ap (take (length out)) (drop-joined c.args.at front back) ∙ take-joined (length out) (drop c.args.at front) (drop (c.args.at - length front) back) in
    cc (append-nil c.copy_from_slice-2.new.self)
