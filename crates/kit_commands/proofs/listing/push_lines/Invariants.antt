use Rattle.std.proofs.Common.{◌≡◌, ◌+◌, ◌≤◌, ◌++◌, length, string_bytes}
use Rattle.kit_commands.specs.Listing.{segments_of, segment_lines, count_malformed, first_bad_line}
use Rattle.kit_commands.proofs.listing.push_lines.Given as goal

abbrev pub invariant-loop-number : goal.invariant-loop-number
invariant-loop-number g l =
    (string_bytes l.text ++ segment_lines (segments_of l.number-iterator) ≡ string_bytes l.fn.text ++ segment_lines (segments_of l.fn.lines))
    × (l.segments + length (segments_of l.number-iterator) ≡ length (segments_of l.fn.lines))
    × (l.malformed + count_malformed (segments_of l.number-iterator) ≡ count_malformed (segments_of l.fn.lines))
    × (l.malformed ≤ l.segments)
    × (first_bad_line l.number-iterator ≡ first_bad_line l.fn.lines)
