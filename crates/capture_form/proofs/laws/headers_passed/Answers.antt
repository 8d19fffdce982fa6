use Rattle.capture_form.proofs.Extensions.{headers_passed}
use Rattle.capture_form.proofs.laws.headers_passed.Goals as goal

pub returns : goal.returns
returns c = headers_passed
