-- A WINDOW on an input.
use Rattle.std.specs.Prelude.{◌≡◌, ℕ, ◌+◌, length, List, [], ◌∷◌, ◌++◌, drop, map, option_map, Option, Some, None, ⊤}
use Rattle.capture_form.specs.declared.form.Form.{Form}
use Rattle.capture_form.specs.Pcap.{FrameContent, record_at, records_of}
use Rattle.capture_form.specs.Sections.{SectionContent, step_at, blocks_of}

-- what the window holds and what remains of the input, where that is known, are together what they were
abbrev pub Holds : Option (List ℕ) → List ℕ → Option (List ℕ) → List ℕ → Type 0
Holds None window new held = ⊤
Holds (Some bytes) window None held = ⊥
Holds (Some bytes) window (Some left) held = window ++ bytes ≡ held ++ left

-- and so they are behind the first 24, which tell a capture's form
abbrev pub HoldsBehind : Option (List ℕ) → List ℕ → Option (List ℕ) → List ℕ → Type 0
HoldsBehind None window new held = ⊤
HoldsBehind (Some bytes) window None held = ⊥
HoldsBehind (Some bytes) window (Some left) held = drop 24 (window ++ bytes) ≡ held ++ left

-- the lengths on the wire of the frames in these bytes
abbrev pub wires : Form → List ℕ → List ℕ
wires form bytes = map (λ (f : FrameContent). f.wire) (records_of form bytes).0

-- that of the first, and the bytes behind its record
abbrev pub first_wire : Form → List ℕ → Option (ℕ × List ℕ)
first_wire form bytes = option_map (λ (r : FrameContent × List ℕ). (r.0.wire, r.1)) (record_at form bytes)

-- those found, and those of what is held and what remains, are those of all
abbrev pub Tells : Form → Option (List ℕ) → List ℕ → List ℕ → Option (List ℕ) → List ℕ → Type 0
Tells form None window found new held = ⊤
Tells form (Some bytes) window found None held = ⊥
Tells form (Some bytes) window found (Some left) held = found ++ wires form (held ++ left) ≡ wires form (window ++ bytes)

-- THE SAME of the pcapng form, in a section that may have begun
abbrev pub section_wires : SectionContent → List ℕ → List ℕ
section_wires s bytes = map (λ (f : FrameContent). f.wire) (blocks_of s bytes).0

-- the section behind the first block, the length of the frame that it is, and the bytes behind it
abbrev pub wire_step : SectionContent → List ℕ → Option ((SectionContent × Option ℕ) × List ℕ)
wire_step s bytes =
    option_map (λ (r : (SectionContent × Option FrameContent) × List ℕ). ((r.0.0, option_map (λ (f : FrameContent). f.wire) r.0.1), r.1)) (step_at s bytes)

-- what a block adds to the lengths that were found
abbrev pub more_wires : List ℕ → Option ℕ → List ℕ
more_wires found None = found
more_wires found (Some wire) = found ++ wire ∷ []

abbrev pub TellsSections : SectionContent → Option (List ℕ) → List ℕ → List ℕ → SectionContent → Option (List ℕ) → List ℕ → Type 0
TellsSections first None window found s new held = ⊤
TellsSections first (Some bytes) window found s None held = ⊥
TellsSections first (Some bytes) window found s (Some left) held = found ++ section_wires s (held ++ left) ≡ section_wires first (window ++ bytes)

-- SO MANY FRAMES were taken, and those of what is held and what remains are all others
abbrev pub Counts : Form → Option (List ℕ) → List ℕ → ℕ → Option (List ℕ) → List ℕ → Type 0
Counts form None window count new held = ⊤
Counts form (Some bytes) window count None held = ⊥
Counts form (Some bytes) window count (Some left) held = count + length (wires form (held ++ left)) ≡ length (wires form (window ++ bytes))

abbrev pub CountsSections : SectionContent → Option (List ℕ) → List ℕ → ℕ → SectionContent → Option (List ℕ) → List ℕ → Type 0
CountsSections first None window count s new held = ⊤
CountsSections first (Some bytes) window count s None held = ⊥
CountsSections first (Some bytes) window count s (Some left) held = count + length (section_wires s (held ++ left)) ≡ length (section_wires first (window ++ bytes))

-- and one more, where a block is a packet
abbrev pub more_frames : ℕ → Option ℕ → ℕ
more_frames count None = count
more_frames count (Some wire) = count + 1
