-- The answers of the module: a text, or the line of a fault.
use Rattle.std.specs.Prelude.{◌≡◌, ◌≤◌, ◌⊎◌, ℕ, Bool, List, [], ◌∷◌, ◌++◌, length, codes, decimal, Option, Some, None, Result, Ok, if◌then◌else◌, ◌==◌, true, false, not}
use Rattle.tcp_halves.specs.Config.{config_error_number}
use Rattle.tcp_replay.specs.declared.event.Side.{Side}
use Rattle.tcp_replay.specs.declared.event.Side.TheVariants.{A, B}
use Rattle.tcp_replay.specs.Names.{side_name}
use Rattle.tcp_replay.specs.World.{HasGoodConfigs}
use Rattle.kit_script.specs.Script.{ScriptContent, script_of}
use Rattle.kit_report.specs.Ends.{numbers_text, sent_text}
use Rattle.kit_report.specs.Rules.{shown_rule}
use Rattle.kit_report.specs.Steps.{steps_text, shown_segment}
use Rattle.kit_commands.specs.declared.errors.ToolError.{ToolError}
use Rattle.kit_commands.specs.declared.errors.ToolError.TheVariants.{BadLine, NoMemory, ReadFault, WriteFault, Config as ConfigFault}
use Rattle.kit_commands.specs.Listing.{listing_of}
use Rattle.kit_judge.specs.Verdict.{ReportContent, report_of}
use Rattle.kit_judge.specs.declared.report.Shown.{Shown}
use Rattle.kit_judge.specs.declared.report.Shown.TheVariants.{FirstOfRule, Each}
use Rattle.kit_commands.specs.Replay.{IsReport, RefusesText}

-- the numbers of the answers
abbrev pub well : ℕ
well = 0

abbrev pub refused : ℕ
refused = 1

abbrev pub fault : ℕ
fault = 2

abbrev pub no_memory : ℕ
no_memory = 3

abbrev pub no_room : ℕ
no_room = 4

abbrev pub no_segment : ℕ
no_segment = 5

abbrev pub no_address : ℕ
no_address = 6

abbrev pub nothing_judged : ℕ
nothing_judged = 7

abbrev pub bad_capture : ℕ
bad_capture = 8

-- those with which the report of a capture is written
abbrev pub IsOfReport : ℕ → Type 0
IsOfReport answer = (answer ≤ refused) ⊎ ((nothing_judged ≤ answer) × (answer ≤ bad_capture))

-- THE LINE OF A FAULT, as the program writes it
abbrev pub config_fault_text : Side → ℕ → List ℕ
config_fault_text side number = codes "tcpkit: config " ++ (side_name side ++ (codes " " ++ (decimal number ++ (10 ∷ []))))

abbrev pub fault_text : ToolError → List ℕ
fault_text (BadLine line) = codes "tcpkit: 41 line " ++ (decimal line ++ (10 ∷ []))
fault_text (ConfigFault side error) = config_fault_text side (config_error_number error)
fault_text NoMemory = codes "tcpkit: 42" ++ (10 ∷ [])
fault_text ReadFault = codes "tcpkit: 43" ++ (10 ∷ [])
fault_text WriteFault = codes "tcpkit: 44" ++ (10 ∷ [])

-- a fault of a text: a line that can't be read, or a Config from which no end can be made
abbrev pub IsOfText : ToolError → Type 0
IsOfText (BadLine line) = Unit {0}
IsOfText (ConfigFault side error) = Unit {0}
IsOfText NoMemory = ⊥
IsOfText ReadFault = ⊥
IsOfText WriteFault = ⊥

-- the text has a fault, and this is its line
pub record IsFaultLine (text line : List ℕ) : Type 0 where
  pub error : ToolError
  pub of_text : IsOfText error
  pub cause : RefusesText text error
  pub line_is : line ≡ fault_text error

-- the report of a text, with a refused call or step or without
abbrev pub IsAnyReport : List ℕ → List ℕ → Type 0
IsAnyReport text report = IsReport text report true ⊎ IsReport text report false

-- THE STEPS of a text, which is a script of two ends that can be made
pub record IsSteps (text steps : List ℕ) : Type 0 where
  pub script : ScriptContent
  pub meaning : script_of text ≡ Ok script
  pub configs : HasGoodConfigs script.a script.b
  pub steps_are : steps ≡ steps_text script

-- THE SEGMENT of a side with this number, if its run has one: its meaning
pub record IsSegment (text : List ℕ) (side : Side) (k : ℕ) (shown : Option (List ℕ)) : Type 0 where
  pub script : ScriptContent
  pub meaning : script_of text ≡ Ok script
  pub configs : HasGoodConfigs script.a script.b
  pub shown_is : shown ≡ shown_segment script side k

-- THE LISTING of a list of segments, and how it ends: whether no segment was malformed, or the first bad line
pub record IsListing (list listing : List ℕ) (answer : Result Bool ℕ) : Type 0 where
  pub text_is : listing ≡ (listing_of list).text
  pub answer_is : (listing_of list).answer ≡ answer

-- THE VERDICT on a log of one end: the report of each finding, or of the first of each rule, and whether it is clean; or the
-- first bad line
abbrev pub shown_by : Bool → Shown
shown_by first = if first then FirstOfRule else Each

unfoldable pub verdict_on : List ℕ → Bool → Bool → Result ReportContent ℕ
verdict_on log complete first = report_of (shown_by first) complete log

abbrev pub IsVerdict : List ℕ → Bool → Bool → List ℕ → Bool → Type 0
IsVerdict log complete first report clean = verdict_on log complete first ≡ Ok (record { text = report; is_clean = clean })

-- room is missing for a report of this length
pub record WantsVerdict (log : List ℕ) (complete first : Bool) (len : ℕ) : Type 0 where
  pub report : ReportContent
  pub is_report : verdict_on log complete first ≡ Ok report
  pub len_is : len ≡ length report.text

-- a flag that a page passes as a number
abbrev pub is_set : ℕ → Bool
is_set n = not (n == 0)

-- THE RULE that applies to the segment that event n, from 0, delivers, if it delivers one
pub record IsRule (text : List ℕ) (n : ℕ) (rule : Option (List ℕ)) : Type 0 where
  pub script : ScriptContent
  pub meaning : script_of text ≡ Ok script
  pub configs : HasGoodConfigs script.a script.b
  pub rule_is : rule ≡ shown_rule script n

-- THE NUMBERS and timers of both ends after the first n events, or after all where there are fewer
pub record IsNumbers (text : List ℕ) (n : ℕ) (numbers : List ℕ) : Type 0 where
  pub script : ScriptContent
  pub meaning : script_of text ≡ Ok script
  pub configs : HasGoodConfigs script.a script.b
  pub numbers_are : numbers ≡ numbers_text script n

-- ALL SEGMENTS that the run of a text emits, as a list
pub record IsSent (text sent : List ℕ) : Type 0 where
  pub script : ScriptContent
  pub meaning : script_of text ≡ Ok script
  pub configs : HasGoodConfigs script.a script.b
  pub sent_are : sent ≡ sent_text script

-- ROOM IS MISSING for a text or a fault's line of this length
pub record WantsRoom (IsWritten : List ℕ → Type 0) (script : List ℕ) (len : ℕ) : Type 0 where
  pub text : List ℕ
  pub is_written : IsWritten text ⊎ IsFaultLine script text
  pub len_is : len ≡ length text

-- the side of a number
abbrev pub side_of : ℕ → Option Side
side_of n = if n == 0 then Some A else if n == 1 then Some B else None
