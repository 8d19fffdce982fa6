-- A CAPTURE in one of its two forms, and what clauses see of one that was read.
use Rattle.std.specs.Prelude.{ℕ, List, length, Bool, Option, Some, None}
use Rattle.capture_form.specs.declared.form.Form.{Form}
use Rattle.capture_form.specs.Sections.{start}
use Rattle.capture_window.specs.Windows.{wires, section_wires}
use Rattle.capture_ends.specs.declared.capture.CaptureForm.{CaptureForm}
use Rattle.capture_ends.specs.declared.capture.CaptureForm.TheVariants.{Pcap, Sections}

-- how many frames it has, and whether one that is cut short or damaged ends it
pub record CaptureContent : Type 0 where
  pub packets : ℕ
  pub is_cut : Bool

-- THE NUMBER OF FRAMES behind what tells the form: those of the form's definition
abbrev pub frames_behind : CaptureForm → List ℕ → ℕ
frames_behind (Pcap form) bytes = length (wires form bytes)
frames_behind Sections bytes = length (section_wires start bytes)

-- what the first 24 bytes tell of a capture in the pcap form
abbrev pub pcap_form : Option CaptureForm → Option Form
pcap_form None = None
pcap_form (Some (Pcap form)) = Some form
pcap_form (Some Sections) = None
