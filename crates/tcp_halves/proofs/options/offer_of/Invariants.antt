use Rattle.std.proofs.Common.{◌≡◌, length}
use Rattle.std.specs.Prelude.{◌||◌}
use Rattle.std.specs.Option.{option_or}
use Rattle.tcp_halves.specs.Options.{mss_option, shift_option, permits_sack}
use Rattle.tcp_halves.proofs.options.offer_of.Given as goal

-- what was seen counts before what is left
abbrev pub invariant-loop-option : goal.invariant-loop-option
invariant-loop-option l = record {
  mss : option_or l.mss (mss_option l.left) ≡ mss_option l.initial.left;
  shift : option_or l.shift (shift_option l.left) ≡ shift_option l.initial.left;
  sack : (l.sack || permits_sack l.left) ≡ permits_sack l.initial.left;
}

abbrev pub decreases-loop-option : goal.decreases-loop-option
decreases-loop-option l = length l.left
