use Rattle.std.proofs.Common.{◌≡◌, length}
use Rattle.capture_form.specs.Blocks.{value_of}
use Rattle.capture_form.proofs.pcapng.options.value_of.Given as goal

-- what is left has the same option first
abbrev pub invariant-loop-rest : goal.invariant-loop-rest
invariant-loop-rest l = value_of l.order l.code l.rest ≡ value_of l.order l.code l.bytes

abbrev pub decreases-loop-rest : goal.decreases-loop-rest
decreases-loop-rest l = length l.rest
