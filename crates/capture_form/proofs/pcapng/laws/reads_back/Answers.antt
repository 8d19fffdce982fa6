use Rattle.capture_form.proofs.SectionsBack.{reads_back_lem}
use Rattle.capture_form.proofs.pcapng.laws.reads_back.Goals as goal

pub returns : goal.returns
returns c = reads_back_lem
