-- How many lines a text has at most.
use Rattle.std.proofs.Common.{ℕ, ◌+◌, ◌==◌, ◌≤◌, Bool, true, false, cond, List, [], ◌∷◌, length, arith}
use Rattle.std.proofs.lemmas.List.Splits.{length-slice_split}
use Rattle.std.proofs.lemmas.List.Sums.{count_by-le-length}
use Rattle.kit_text.specs.Lines.{is_passed_over, lines_of, numbered_from, numbered_lines}

length-kept : (b : Bool) (n : ℕ) (line : List ℕ) (lines : List (ℕ × List ℕ)) (m : ℕ) → length lines ≤ m → length (cond b lines ((n, line) ∷ lines)) ≤ m + 1
length-kept true n line lines m few = omega arith
length-kept false n line lines m few = omega arith

length_numbered_from : (n : ℕ) (lines : List (List ℕ)) → length (numbered_from n lines) ≤ length lines
unfolding numbered_from
length_numbered_from n [] = omega arith
length_numbered_from n (line ∷ lines) =
    omega (arith, length-kept (is_passed_over line) n line (numbered_from (n + 1) lines) (length lines) (length_numbered_from (n + 1) lines))

pub length_numbered_lines : (text : List ℕ) → length (numbered_lines text) ≤ length text + 1
length_numbered_lines text = omega (arith, length_numbered_from 1 (lines_of text), length-slice_split (λ b. b == 10) text, count_by-le-length (λ b. b == 10) text)
