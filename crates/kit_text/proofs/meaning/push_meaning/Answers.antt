use Rattle.std.proofs.Common.{arith}
use Rattle.std.proofs.lemmas.Grind.{common_steps}
use Rattle.kit_text.proofs.meaning.push_meaning.Goals as goal

pub returns-in_ok-push_named_fault-in-Err-clause-malformed : goal.returns-in_ok-push_named_fault-in-Err-clause-malformed
returns-in_ok-push_named_fault-in-Err-clause-malformed g c = grind (arith, common_steps)
