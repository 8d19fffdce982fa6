-- A log has no more passages than lines.
use Rattle.std.proofs.Common.{ℕ, ◌+◌, ◌≤◌, List, [], ◌∷◌, length, Option, Some, None, arith}
use Rattle.std.specs.Option.{option_map_or}
use Rattle.tcp_judge.specs.Log.{PassageContent}
use Rattle.kit_judge.specs.Logs.{Passages, passage_of, passages_of}

length-read : (p : Option PassageContent) (n : ℕ) (log : Passages) (m : ℕ) → length log ≤ m → length (option_map_or (λ p. (n, p) ∷ log) p []) ≤ m + 1
length-read None n log m few = omega arith
length-read (Some p) n log m few = omega arith

pub length_passages_of : (lines : List (ℕ × List ℕ)) → length (passages_of lines) ≤ length lines
unfolding passages_of
length_passages_of [] = omega arith
length_passages_of (line ∷ lines) = omega (arith, length-read (passage_of line.1) line.0 (passages_of lines) (length lines) (length_passages_of lines))
