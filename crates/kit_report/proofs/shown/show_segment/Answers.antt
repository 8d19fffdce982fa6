use Rattle.kit_script.specs.Script.{script_content}
use Rattle.kit_report.proofs.MemoryFaults.{memory_fault}
use Rattle.kit_report.proofs.shown.show_segment.Goals as goal

pub returns-in_err-text-clause-fault : goal.returns-in_err-text-clause-fault
returns-in_err-text-clause-fault g c = memory_fault (script_content c.args.script.now) c.from_residual-in_err-text.result c.from_residual-in_err-text.ensures.1
