-- How many frames were taken.
use Rattle.std.proofs.Common.{◌≡◌, ℕ, ◌+◌, length, List, [], ◌∷◌, ◌++◌, Option, Some, None, refl, sym, ap, subst, ◌∙◌, arith}
use Rattle.std.specs.Prelude.{Bool, true, false, IfSome, map, option_map}
use Rattle.std.specs.Io.KnownBytes.{IsAtEnd}
use Rattle.capture_form.specs.declared.form.Form.{Form}
use Rattle.capture_form.specs.Pcap.{FrameContent, is_damaged, record_at}
use Rattle.capture_form.specs.Blocks.{order_at, is_whole, is_broken}
use Rattle.capture_form.specs.Sections.{SectionContent, step_at, with_found, blocks_of}
use Rattle.capture_form.proofs.Records.{records_some}
use Rattle.capture_form.proofs.Cuts.{record_more}
use Rattle.capture_form.proofs.Steps.{blocks_some}
use Rattle.capture_form.proofs.StepCuts.{step_more, step_none_more}
use Rattle.capture_window.specs.Windows.{Holds, first_wire, wires, Counts, section_wires, wire_step, CountsSections, more_frames}
use Rattle.capture_window.proofs.Holding.{none_behind, none_left, rest_or}
use Rattle.capture_window.proofs.SectionsHeld as sections

pub counts_start : (form : Form) (a : Option (List ℕ)) (window : List ℕ) → Counts form a window 0 a window
counts_start form None window = tt
counts_start form (Some bytes) window = omega (arith)

pub counts_filled : (form : Form) (a b c : Option (List ℕ)) (window w held : List ℕ) (count : ℕ) → Counts form a window count b w → Holds b w c held → Counts form a window count c held
counts_filled form None b c window w held count h k = tt
counts_filled form (Some r) None c window w held count h k = absurd h
counts_filled form (Some r) (Some s) None window w held count h k = absurd k
counts_filled form (Some r) (Some s) (Some t) window w held count h k = ap (λ (xs : List ℕ). count + length (wires form xs)) (sym k) ∙ h

counts_frame : (form : Form) (a c : Option (List ℕ)) (window held rest : List ℕ) (count : ℕ) (f : FrameContent) → record_at form held ≡ Some (f, rest)
    → Counts form a window count c held → Counts form a window (count + 1) c rest
counts_frame form None c window held rest count f is h = tt
counts_frame form (Some r) None window held rest count f is h = absurd h
counts_frame form (Some r) (Some t) window held rest count f is h =
    let more = records_some form (held ++ t) (rest ++ t) f (record_more form held t rest f is) in
    let listed : length (wires form (held ++ t)) ≡ length (f.wire ∷ wires form (rest ++ t)) = ap (λ (found : List FrameContent × List ℕ). length (map (λ (f : FrameContent). f.wire) found.0)) more in
    omega (arith, listed, h)

pub counts_popped : (form : Form) (a c : Option (List ℕ)) (window held rest : List ℕ) (count wire : ℕ) (first : Option (FrameContent × List ℕ)) → record_at form held ≡ first
    → first_wire form held ≡ Some (wire, rest) → Counts form a window count c held → Counts form a window (count + 1) c rest
unfolding rest_or
counts_popped form a c window held rest count wire None is popped h =
    let none : first_wire form held ≡ None = ap (λ (r : Option (FrameContent × List ℕ)). option_map (λ (r : FrameContent × List ℕ). (r.0.wire, r.1)) r) is in
    absurd cc
counts_popped form a c window held rest count wire (Some (f, behind)) is popped h =
    let some : first_wire form held ≡ Some (f.wire, behind) = ap (λ (r : Option (FrameContent × List ℕ)). option_map (λ (r : FrameContent × List ℕ). (r.0.wire, r.1)) r) is in
    let same : ◌≡◌ {A = Option (ℕ × List ℕ)} (Some (f.wire, behind)) (Some (wire, rest)) = sym some ∙ popped in
    let rest_same : behind ≡ rest = ap rest_or same in
    subst (λ (bytes : List ℕ). Counts form a window (count + 1) c bytes) rest_same (counts_frame form a c window held behind count f is h)

pub counts_end : (form : Form) (a c : Option (List ℕ)) (window held : List ℕ) (count : ℕ) → record_at form held ≡ None → (is_damaged form held ≡ false → IsAtEnd c)
    → Counts form a window count c held → IfSome a (λ bytes. count ≡ length (wires form (window ++ bytes)))
counts_end form None c window held count is end h = tt
counts_end form (Some r) None window held count is end h = absurd h
counts_end form (Some r) (Some t) window held count is end h =
    let nothing : length (wires form (held ++ t)) ≡ 0 = ap length (none_behind form held t (none_left form held t (is_damaged form held) refl is end)) in
    omega (arith, nothing, h)

-- ---- the same of sections

pub sections_start : (s : SectionContent) (a : Option (List ℕ)) (window : List ℕ) → CountsSections s a window 0 s a window
sections_start s None window = tt
sections_start s (Some bytes) window = omega (arith)

pub sections_filled : (first s : SectionContent) (a b c : Option (List ℕ)) (window w held : List ℕ) (count : ℕ) → CountsSections first a window count s b w → Holds b w c held
    → CountsSections first a window count s c held
sections_filled first s None b c window w held count h k = tt
sections_filled first s (Some r) None c window w held count h k = absurd h
sections_filled first s (Some r) (Some b) None window w held count h k = absurd k
sections_filled first s (Some r) (Some b) (Some t) window w held count h k = ap (λ (xs : List ℕ). count + length (section_wires s xs)) (sym k) ∙ h

frames_found : (f : Option FrameContent) (later : List FrameContent × (SectionContent × List ℕ)) (count : ℕ)
    → count + length (map (λ (f : FrameContent). f.wire) (with_found f later).0) ≡ more_frames count (sections.wire_of f) + length (map (λ (f : FrameContent). f.wire) later.0)
unfolding sections.wire_of
frames_found None later count = refl
frames_found (Some f) later count = omega (arith)

counts_block : (first s t : SectionContent) (a c : Option (List ℕ)) (window held rest : List ℕ) (count : ℕ) (f : Option FrameContent) → step_at s held ≡ Some ((t, f), rest)
    → CountsSections first a window count s c held → CountsSections first a window (more_frames count (sections.wire_of f)) t c rest
counts_block first s t None c window held rest count f is h = tt
counts_block first s t (Some r) None window held rest count f is h = absurd h
counts_block first s t (Some r) (Some left) window held rest count f is h =
    let more = blocks_some s t (held ++ left) (rest ++ left) f (step_more s held left rest (t, f) is) in
    sym (frames_found f (blocks_of t (rest ++ left)) count)
    ∙ ap (λ (r : List FrameContent × (SectionContent × List ℕ)). count + length (map (λ (f : FrameContent). f.wire) r.0)) (sym more)
    ∙ h

pub counts_passed : (first s t : SectionContent) (a c : Option (List ℕ)) (window held rest : List ℕ) (count : ℕ) (wire : Option ℕ) (step : Option ((SectionContent × Option FrameContent) × List ℕ))
    → step_at s held ≡ step → wire_step s held ≡ Some ((t, wire), rest)
    → CountsSections first a window count s c held → CountsSections first a window (more_frames count wire) t c rest
unfolding sections.wire_change sections.wire_of
counts_passed first s t a c window held rest count wire None is passed h =
    let none : wire_step s held ≡ None = ap sections.wire_change is in
    absurd cc
counts_passed first s t a c window held rest count wire (Some ((u, f), behind)) is passed h =
    let some : wire_step s held ≡ Some ((u, sections.wire_of f), behind) = ap sections.wire_change is in
    let same : ◌≡◌ {A = Option ((SectionContent × Option ℕ) × List ℕ)} (Some ((u, sections.wire_of f), behind)) (Some ((t, wire), rest)) = sym some ∙ passed in
    let parts : ◌≡◌ {A = (SectionContent × Option ℕ) × List ℕ} ((u, sections.wire_of f), behind) ((t, wire), rest) = cc in
    subst (λ (p : (SectionContent × Option ℕ) × List ℕ). CountsSections first a window (more_frames count p.0.1) p.0.0 c p.1) parts
    (counts_block first s u a c window held behind count f is h)

counts_last : (first s : SectionContent) (r t window held : List ℕ) (count : ℕ) → step_at s (held ++ t) ≡ None
    → count + length (section_wires s (held ++ t)) ≡ length (section_wires first (window ++ r)) → count ≡ length (section_wires first (window ++ r))
counts_last first s r t window held count is h =
    let nothing : length (section_wires s (held ++ t)) ≡ 0 = ap length (sections.none_behind s held t is) in
    omega (arith, nothing, h)

-- where no block is whole,
pub sections_end : (first s : SectionContent) (a c : Option (List ℕ)) (window held : List ℕ) (count : ℕ) → is_whole (order_at s.order held) held ≡ false
    → (is_broken (order_at s.order held) held ≡ false → IsAtEnd c) → CountsSections first a window count s c held
    → IfSome a (λ bytes. count ≡ length (section_wires first (window ++ bytes)))
sections_end first s None c window held count is end h = tt
sections_end first s (Some r) None window held count is end h = absurd h
sections_end first s (Some r) (Some t) window held count is end h =
    counts_last first s r t window held count (sections.none_left s held t (is_broken (order_at s.order held) held) refl is end) h

-- or one is damaged
pub sections_damaged : (first s : SectionContent) (a c : Option (List ℕ)) (window held : List ℕ) (count : ℕ) → is_whole (order_at s.order held) held ≡ true
    → step_at s held ≡ None → CountsSections first a window count s c held → IfSome a (λ bytes. count ≡ length (section_wires first (window ++ bytes)))
sections_damaged first s None c window held count whole is h = tt
sections_damaged first s (Some r) None window held count whole is h = absurd h
sections_damaged first s (Some r) (Some t) window held count whole is h =
    counts_last first s r t window held count (step_none_more s held t whole is) h
