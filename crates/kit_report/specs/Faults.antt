-- Why no report of a script is made.
use Rattle.std.specs.Prelude.{◌≢◌}
use Rattle.tcp_halves.specs.declared.config.ConfigError.TheVariants as configs
use Rattle.tcp_replay.specs.declared.outcome.WorldError.TheVariants as worlds
use Rattle.tcp_replay.specs.World.{HasNamedFault}
use Rattle.kit_script.specs.Script.{ScriptContent}
use Rattle.kit_report.specs.declared.error.ReportError.{ReportError}
use Rattle.kit_report.specs.declared.error.ReportError.TheVariants.{NoMemory, Config}

-- one of the ends' Configs is refused, never because there is no memory; or there is no memory
abbrev pub HasReportFault : ScriptContent → ReportError → Type 0
HasReportFault s (Config side fault) = (fault ≢ configs.NoMemory) × HasNamedFault s.a s.b (worlds.Config side fault)
HasReportFault s NoMemory = Unit {0}
