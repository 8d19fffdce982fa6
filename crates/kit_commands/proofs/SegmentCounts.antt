-- A list has no more segments than lines.
use Rattle.std.proofs.Common.{ℕ, ◌+◌, ◌≤◌, List, [], ◌∷◌, length, Option, Some, None, arith}
use Rattle.std.specs.Option.{option_map_or}
use Rattle.kit_commands.specs.Listing.{PacketContent, Segments, meaning_of, packet_of, segments_of}

length-read : (p : Option PacketContent) (n : ℕ) (segments : Segments) (m : ℕ) → length segments ≤ m → length (option_map_or (λ p. (n, meaning_of p) ∷ segments) p []) ≤ m + 1
length-read None n segments m few = omega arith
length-read (Some p) n segments m few = omega arith

pub length_segments_of : (lines : List (ℕ × List ℕ)) → length (segments_of lines) ≤ length lines
unfolding segments_of
length_segments_of [] = omega arith
length_segments_of (line ∷ lines) = omega (arith, length-read (packet_of line.1) line.0 (segments_of lines) (length lines) (length_segments_of lines))
