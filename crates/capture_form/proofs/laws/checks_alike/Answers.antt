use Rattle.capture_form.proofs.PseudoHeaders.{checks_alike}
use Rattle.capture_form.proofs.laws.checks_alike.Goals as goal

pub returns : goal.returns
returns c = checks_alike
