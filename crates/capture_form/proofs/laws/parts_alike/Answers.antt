use Rattle.capture_form.proofs.PseudoHeaders.{parts_alike}
use Rattle.capture_form.proofs.laws.parts_alike.Goals as goal

pub returns : goal.returns
returns c = parts_alike
