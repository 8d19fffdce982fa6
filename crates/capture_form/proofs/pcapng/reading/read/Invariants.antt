use Rattle.std.proofs.Common.{◌≡◌, ◌≤◌, ◌++◌, map, length}
use Rattle.capture_form.specs.Sections.{start, blocks_of}
use Rattle.capture_form.specs.View.{frame_content}
use Rattle.capture_form.proofs.pcapng.reading.read.Given as goal

-- what was found and what is left are all
abbrev pub invariant-loop-section : goal.invariant-loop-section
invariant-loop-section l = record {
  found : (map frame_content l.frames.items ++ (blocks_of l.section l.rest).0, (blocks_of l.section l.rest).1) ≡ blocks_of start l.bytes;
  inside : length l.rest ≤ length l.bytes;
}

abbrev pub decreases-loop-section : goal.decreases-loop-section
decreases-loop-section l = length l.rest
