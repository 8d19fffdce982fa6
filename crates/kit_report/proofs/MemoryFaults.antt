-- Where there is no memory the report's fault is one of its own.
use Rattle.std.proofs.Common.{◌≡◌, sym, subst}
use Rattle.std.specs.Prelude.{Result, Ok, Err, IfErr, IsErrAnd}
use Rattle.kit_script.specs.Script.{ScriptContent}
use Rattle.kit_report.specs.declared.error.ReportError.{ReportError}
use Rattle.kit_report.specs.declared.error.ReportError.TheVariants.{NoMemory}
use Rattle.kit_report.specs.Faults.{HasReportFault}

pub memory_fault : {T : Type 0} (s : ScriptContent) (r : Result T ReportError) → IsErrAnd r (λ e. e ≡ NoMemory) → IfErr r (HasReportFault s)
memory_fault s (Ok x) h = tt
memory_fault s (Err e) h = subst (HasReportFault s) (sym h) tt
