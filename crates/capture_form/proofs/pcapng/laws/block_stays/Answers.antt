use Rattle.capture_form.proofs.StepCuts.{step_more}
use Rattle.capture_form.proofs.pcapng.laws.block_stays.Goals as goal

pub returns : goal.returns
returns c = λ section bytes more rest change is. step_more section bytes more rest change is
