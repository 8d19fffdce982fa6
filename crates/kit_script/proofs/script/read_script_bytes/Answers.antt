use Rattle.kit_script.proofs.Version1.{says_version_1}
use Rattle.kit_script.proofs.script.read_script_bytes.Goals as goal

pub returns-in-Err-clause-version_1 : goal.returns-in-Err-clause-version_1
returns-in-Err-clause-version_1 g c = says_version_1 c.args.text.now

pub returns-in-Ok-read_lines-clause-version_1 : goal.returns-in-Ok-read_lines-clause-version_1
returns-in-Ok-read_lines-clause-version_1 g c = says_version_1 c.args.text.now

pub returns-in-Err-read_lines-clause-version_1 : goal.returns-in-Err-read_lines-clause-version_1
returns-in-Err-read_lines-clause-version_1 g c = says_version_1 c.args.text.now
