-- THE REPORT of a log: a function from its whole text.
use Rattle.std.specs.Prelude.{◌≡◌, ℕ, ◌==◌, Bool, true, false, ◌&&◌, ◌||◌, not, slice_index, if◌then◌else◌, List, [], ◌∷◌, ◌++◌, length, codes, decimal, string_bytes}
use Rattle.std.specs.Prelude.{Option, Some, None, Result, Ok, Err}
use Rattle.std.specs.List.{list_any}
use Rattle.kit_text.specs.Lines.{ascii_lines}
use Rattle.tcp_judge.specs.Known.{Known, nothing_known}
use Rattle.tcp_judge.specs.Judgement.{finding_at, known_past}
use Rattle.tcp_judge.specs.Log.{PassageContent, Came, Went}
use Rattle.tcp_judge.specs.declared.finding.Finding.{Finding}
use Rattle.kit_judge.specs.Logs.{Passages, passages_of, first_bad_line}
use Rattle.kit_judge.specs.Findings.{rule_number, wants_whole_log, is_damage, finding_lines}
use Rattle.kit_judge.specs.declared.judging.Findings.{Findings}
use Rattle.kit_judge.specs.declared.report.Shown.{Shown}
use Rattle.kit_judge.specs.declared.report.Shown.TheVariants.{FirstOfRule, Each}
use Rattle.kit_judge.specs.declared.report.Report.{Report}
use Rattle.kit_judge.specs.declared.error.LogError.{LogError}
use Rattle.kit_judge.specs.declared.error.LogError.TheVariants.{BadLine, NoMemory}

abbrev pub Found : Type 0
Found = ℕ × Finding

-- THE FINDINGS of a log: each segment that was sent and breaks a rule, with the number of its line. Of a log that isn't complete
-- no finding counts that wants a log of which nothing is missing, and a wrong checksum is a note: it may be damage on the path
abbrev pub is_note : Bool → Finding → Bool
is_note complete finding = not complete && is_damage finding

abbrev pub counts : Bool → Finding → Bool
counts complete finding = not (is_note complete finding) && (complete || not (wants_whole_log finding))

abbrev pub found_at : Bool → ℕ → Option Finding → List Found
found_at complete line None = []
found_at complete line (Some finding) = if counts complete finding then (line, finding) ∷ [] else []

abbrev pub note_at : Bool → ℕ → Option Finding → List ℕ
note_at complete line None = []
note_at complete line (Some finding) = if is_note complete finding then line ∷ [] else []

unfoldable pub findings_from : Bool → Known → Passages → List Found
findings_from complete k [] = []
findings_from complete k (passage ∷ log) =
    found_at complete passage.0 (finding_at k passage.1) ++ findings_from complete (known_past k passage.1) log

abbrev pub findings_of : Bool → Passages → List Found
findings_of complete log = findings_from complete nothing_known log

-- and the lines of the notes
unfoldable pub notes_from : Bool → Known → Passages → List ℕ
notes_from complete k [] = []
notes_from complete k (passage ∷ log) = note_at complete passage.0 (finding_at k passage.1) ++ notes_from complete (known_past k passage.1) log

abbrev pub notes_of : Bool → Passages → List ℕ
notes_of complete log = notes_from complete nothing_known log

-- AN EMPTY LOG has no segment that was sent: nothing in it is judged
abbrev pub is_sent : PassageContent → Bool
is_sent (Came src dst bytes) = false
is_sent (Went src dst bytes) = true

unfoldable pub any_sent : Passages → Bool
any_sent [] = false
any_sent (passage ∷ log) = is_sent passage.1 || any_sent log

-- what is found, where there is memory: the first bad line, or the number of segments, whether one was sent, the findings and
-- the notes
pub record FoundContent : Type 0 where
  pub segments : ℕ
  pub any_sent : Bool
  pub found : List Found
  pub notes : List ℕ

abbrev pub found_content : {A : Type 0} → Findings A → FoundContent
found_content f = record { segments = f.segments; any_sent = f.any_sent; found = f.found.items; notes = f.notes.items }

abbrev pub found_in : Bool → Passages → FoundContent
found_in complete log = record { segments = length log; any_sent = any_sent log; found = findings_of complete log; notes = notes_of complete log }

abbrev pub Finds : {A : Type 0} → Result (Findings A) LogError → Option ℕ → FoundContent → Type 0
Finds (Ok f) bad all = (bad ≡ None) × (found_content f ≡ all)
Finds (Err (BadLine line)) bad all = bad ≡ Some line
Finds (Err NoMemory) bad all = Unit {0}

-- THOSE THAT ARE SHOWN: each, or the first of each rule, which is the one whose rule isn't among those before it
abbrev pub is_among : List ℕ → Found → Bool
is_among rules found = list_any (λ rule. rule == rule_number found.1) rules

abbrev pub unless_among : List ℕ → Found → List Found → List Found
unless_among rules found later = if is_among rules found then later else found ∷ later

abbrev pub with_rule : List ℕ → Found → List ℕ
with_rule rules found = if is_among rules found then rules else rules ++ rule_number found.1 ∷ []

unfoldable pub firsts : List ℕ → List Found → List Found
firsts rules [] = []
firsts rules (found ∷ later) = unless_among rules found (firsts (with_rule rules found) later)

abbrev pub shown : Shown → List Found → List Found
shown Each findings = findings
shown FirstOfRule findings = firsts [] findings

-- THE NOTES have one line, with their number and the first one
unfoldable pub note_text : ℕ → ℕ → List ℕ
note_text count first =
    codes "note: wrong checksums: " ++ (decimal count ++ (codes ", the first in line " ++ (decimal first ++ (codes " (RFC 9293, 3.1)" ++ (10 ∷ [])))))

abbrev pub notes_line : List ℕ → List ℕ
notes_line notes = if length notes == 0 then [] else note_text (length notes) (slice_index notes 0)

-- WHAT ISN'T JUDGED is said: of a log that isn't complete nothing that wants all that was sent or all that came
abbrev pub unjudged_line : Bool → List ℕ
unjudged_line complete =
    if complete then [] else codes "note: order, acknowledgements and blocks aren't judged, as segments may be missing" ++ (10 ∷ [])

-- THE LAST LINE counts all segments, and all that break a rule
unfoldable pub counts_line : ℕ → ℕ → List ℕ
counts_line segments findings = codes "segments " ++ (decimal segments ++ (codes " findings " ++ (decimal findings ++ (10 ∷ []))))

pub record ReportContent : Type 0 where
  pub text : List ℕ
  pub is_clean : Bool

abbrev pub report_content : {A : Type 0} → Report A → ReportContent
report_content r = record { text = string_bytes r.text; is_clean = r.is_clean }

-- a log is clean where something was judged, and no rule is broken
abbrev pub report_of_findings : Shown → Bool → FoundContent → ReportContent
report_of_findings which complete all = record {
  text = finding_lines (shown which all.found)
      ++ (notes_line all.notes ++ (unjudged_line complete ++ counts_line all.segments (length all.found)));
  is_clean = all.any_sent && length all.found == 0;
}

abbrev pub report_of_log : Shown → Bool → Passages → ReportContent
report_of_log which complete log = report_of_findings which complete (found_in complete log)

-- a bad line has no report
abbrev pub report_unless : Option ℕ → ReportContent → Result ReportContent ℕ
report_unless None report = Ok report
report_unless (Some line) report = Err line

abbrev pub report_of_lines : Shown → Bool → Result (List (ℕ × List ℕ)) ℕ → Result ReportContent ℕ
report_of_lines which complete (Ok lines) = report_unless (first_bad_line lines) (report_of_log which complete (passages_of lines))
report_of_lines which complete (Err line) = Err line

-- of a whole text: its report, or its first bad line
unfoldable pub report_of : Shown → Bool → List ℕ → Result ReportContent ℕ
report_of which complete text = report_of_lines which complete (ascii_lines text)

-- whether a segment of a text was sent
abbrev pub any_sent_in : Result (List (ℕ × List ℕ)) ℕ → Bool
any_sent_in (Ok lines) = any_sent (passages_of lines)
any_sent_in (Err line) = false

unfoldable pub sends_any : List ℕ → Bool
sends_any text = any_sent_in (ascii_lines text)

-- what judging a text returns, where there is memory
abbrev pub Reports : {A : Type 0} → Result (Report A) LogError → Result ReportContent ℕ → Type 0
Reports (Ok report) meaning = meaning ≡ Ok (report_content report)
Reports (Err (BadLine line)) meaning = meaning ≡ Err line
Reports (Err NoMemory) meaning = Unit {0}
