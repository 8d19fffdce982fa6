use Rattle.std.proofs.Common.{◌≡◌, length}
use Rattle.capture_form.specs.Extensions.{upper_of}
use Rattle.capture_form.proofs.extension.upper_of.Given as goal

-- what is left leads to the same
abbrev pub invariant-loop-rest : goal.invariant-loop-rest
invariant-loop-rest l = upper_of l.kind l.rest ≡ upper_of l.first l.bytes

abbrev pub decreases-loop-rest : goal.decreases-loop-rest
decreases-loop-rest l = length l.rest
