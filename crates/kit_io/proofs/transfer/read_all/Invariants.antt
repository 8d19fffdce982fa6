use Rattle.std.proofs.Common.{◌≡◌, ◌-◌, ◌^◌, vec_len}
use Rattle.std.specs.Io.KnownBytes.{Consumes}
use Rattle.kit_io.proofs.transfer.read_all.Given as goal

abbrev pub invariant-loop-bytes : goal.invariant-loop-bytes
invariant-loop-bytes g l =
    Consumes (g.I.Input.remaining l.fn.input) (g.I.Input.remaining l.input) l.bytes.items
    × (g.I.Input.failures l.input ≡ g.I.Input.failures l.fn.input) × (g.I.Input.ends l.input ≡ g.I.Input.ends l.fn.input)

abbrev pub decreases-loop-bytes : goal.decreases-loop-bytes
decreases-loop-bytes g l = 2 ^ 63 - vec_len l.bytes
