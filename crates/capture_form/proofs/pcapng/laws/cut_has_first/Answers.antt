use Rattle.capture_form.proofs.StepCuts.{cut_has_first_lem}
use Rattle.capture_form.proofs.pcapng.laws.cut_has_first.Goals as goal

pub returns : goal.returns
returns c = cut_has_first_lem
