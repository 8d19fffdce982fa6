-- What a replay returns, and what it has written then.
use Rattle.std.specs.Prelude.{◌≡◌, ◌≢◌, ℕ, Bool, List, Option, Result, Ok, Err}
use Rattle.std.specs.Io.KnownBytes.{Appends}
use Rattle.tcp_halves.specs.declared.config.ConfigError.{ConfigError}
use Rattle.tcp_halves.specs.declared.config.ConfigError.TheVariants as configs
use Rattle.tcp_replay.specs.declared.event.Side.{Side}
use Rattle.tcp_replay.specs.declared.outcome.WorldError.TheVariants as worlds
use Rattle.tcp_replay.specs.World.{HasNamedFault, HasGoodConfigs}
use Rattle.kit_io.specs.Devices.{AppendsFront}
use Rattle.kit_script.specs.Script.{ScriptContent, script_of}
use Rattle.kit_report.specs.Report.{report_text, report_is_well}
use Rattle.kit_commands.specs.declared.errors.ToolError.{ToolError}
use Rattle.kit_commands.specs.declared.errors.ToolError.TheVariants.{BadLine, NoMemory, ReadFault, WriteFault, Config as ConfigFault}

-- the text is a script of two ends that can be made; this is its report, and whether nothing was refused
pub record IsReport (text report : List ℕ) (well : Bool) : Type 0 where
  pub script : ScriptContent
  pub meaning : script_of text ≡ Ok script
  pub configs : HasGoodConfigs script.a script.b
  pub report_is : report ≡ report_text script
  pub well_is : well ≡ report_is_well script

-- the text is a script, and the Config of this side has this fault, which isn't that there is no memory
pub record HasConfigFault (text : List ℕ) (side : Side) (fault : ConfigError) : Type 0 where
  pub script : ScriptContent
  pub meaning : script_of text ≡ Ok script
  pub named : HasNamedFault script.a script.b (worlds.Config side fault)
  pub cause : fault ≢ configs.NoMemory

-- the claim of a refusal about the text
abbrev pub RefusesText : List ℕ → ToolError → Type 0
RefusesText text (BadLine line) = script_of text ≡ Err line
RefusesText text (ConfigFault side fault) = HasConfigFault text side fault
RefusesText text NoMemory = Unit {0}
RefusesText text ReadFault = Unit {0}
RefusesText text WriteFault = Unit {0}

-- THE WHOLE REPORT of the text was written
pub record WritesReport (text : List ℕ) (old new : Option (List ℕ)) (well : Bool) : Type 0 where
  pub report : List ℕ
  pub is_report : IsReport text report well
  pub written : Appends old new report

-- a prefix of it was written
pub record WritesFront (text : List ℕ) (old new : Option (List ℕ)) : Type 0 where
  pub report : List ℕ
  pub well : Bool
  pub is_report : IsReport text report well
  pub written : AppendsFront old new report

-- a fact where the answer is about the text: a report, or a refusal of the text's content
abbrev pub OnText : Result Bool ToolError → Type 0 → Type 0
OnText (Ok well) P = P
OnText (Err (BadLine line)) P = P
OnText (Err (ConfigFault side fault)) P = P
OnText (Err NoMemory) P = Unit {0}
OnText (Err ReadFault) P = Unit {0}
OnText (Err WriteFault) P = Unit {0}

-- a fact where the replay ended before it wrote
abbrev pub BeforeWriting : Result Bool ToolError → Type 0 → Type 0
BeforeWriting (Ok well) P = Unit {0}
BeforeWriting (Err (BadLine line)) P = P
BeforeWriting (Err (ConfigFault side fault)) P = P
BeforeWriting (Err NoMemory) P = P
BeforeWriting (Err ReadFault) P = P
BeforeWriting (Err WriteFault) P = Unit {0}
