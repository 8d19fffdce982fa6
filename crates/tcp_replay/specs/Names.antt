-- The names of the two ends.
use Rattle.std.specs.Prelude.{ℕ, List, codes}
use Rattle.tcp_replay.specs.declared.event.Side.{Side}
use Rattle.tcp_replay.specs.declared.event.Side.TheVariants.{A, B}

abbrev pub side_name : Side → List ℕ
side_name A = codes "A"
side_name B = codes "B"
