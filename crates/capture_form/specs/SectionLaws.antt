-- The laws of the pcapng form.
use Rattle.std.specs.Prelude.{◌≡◌, ℕ, List, ◌∷◌, ◌++◌, take, Option, Some, false}
use Rattle.std.specs.List.{AllByRecursion}
use Rattle.capture_form.specs.Pcap.{FrameContent}
use Rattle.capture_form.specs.Sections.{SectionContent, step_at, sections_of}
use Rattle.capture_form.specs.SectionWriter.{SectionWriting, frames_of_all, spell_sections, IsSection}
use Rattle.capture_form.specs.declared.reading.Stop.TheVariants.{Whole}

-- a capture that was cut has the first frames of the whole one
abbrev pub CutHasFirst : Type 0
CutHasFirst = (count : ℕ) (bytes : List ℕ)
    → (later : List FrameContent) × ((sections_of bytes).0.0 ≡ (sections_of (take count bytes)).0.0 ++ later)

-- a block stays one, whatever follows: what a part of a capture tells holds of the whole
abbrev pub BlockStays : Type 0
BlockStays = (section : SectionContent) (bytes more rest : List ℕ) (change : SectionContent × Option FrameContent)
    → step_at section bytes ≡ Some (change, rest) → step_at section (bytes ++ more) ≡ Some (change, rest ++ more)

-- what is written reads back, and reading ends behind it: any sections, one or more, each in its own order
abbrev pub ReadsBack : Type 0
ReadsBack = (w : SectionWriting) (ws : List SectionWriting) → AllByRecursion IsSection (w ∷ ws)
    → sections_of (spell_sections (w ∷ ws)) ≡ ((frames_of_all (w ∷ ws), false), Whole)
