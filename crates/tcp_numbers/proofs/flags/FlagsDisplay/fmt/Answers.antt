use Rattle.std.proofs.Common.{arith}
use Rattle.std.proofs.lemmas.Grind.{common_steps}
use Rattle.std.proofs.lemmas.List.{map_more}
use Rattle.tcp_numbers.proofs.FlagNames.{joined_more, none_more, set_more}
use Rattle.tcp_numbers.proofs.flags.FlagsDisplay.fmt.Goals as goal

pub loop-is_set-preserved : goal.loop-is_set-preserved
loop-is_set-preserved g c = grind (arith, common_steps, map_more, set_more, joined_more, none_more)
