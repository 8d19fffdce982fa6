-- What the refusals of the parts result in.
use Rattle.kit_io.specs.declared.error.ReadError.{ReadError}
use Rattle.kit_io.specs.declared.error.ReadError.TheVariants as reads
use Rattle.kit_script.specs.declared.error.ScriptError.{ScriptError}
use Rattle.kit_script.specs.declared.error.ScriptError.TheVariants as scripts
use Rattle.kit_report.specs.declared.error.ReportError.{ReportError}
use Rattle.kit_report.specs.declared.error.ReportError.TheVariants as reports
use Rattle.kit_commands.specs.declared.errors.ToolError.{ToolError}
use Rattle.kit_commands.specs.declared.errors.ToolError.TheVariants.{BadLine, NoMemory, ReadFault, Config as ConfigFault}

abbrev pub error_of_read : ReadError → ToolError
error_of_read reads.Fault = ReadFault
error_of_read reads.NoMemory = NoMemory

abbrev pub error_of_script : ScriptError → ToolError
error_of_script (scripts.BadLine line) = BadLine line
error_of_script scripts.NoMemory = NoMemory

abbrev pub error_of_report : ReportError → ToolError
error_of_report (reports.Config side fault) = ConfigFault side fault
error_of_report reports.NoMemory = NoMemory
