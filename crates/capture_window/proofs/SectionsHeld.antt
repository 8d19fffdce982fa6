-- What a window holds of a capture's sections.
use Rattle.std.proofs.Common.{◌≡◌, ℕ, ◌-◌, ◌≤◌, length, drop, List, [], ◌∷◌, ◌++◌, Option, Some, None, refl, sym, ap, subst, ◌∙◌, append_assoc, arith}
use Rattle.std.specs.Prelude.{Bool, true, false, IfSome, map, option_map}
use Rattle.std.specs.Io.KnownBytes.{IsAtEnd}
use Rattle.std.proofs.lemmas.List.{append-nil, length-drop}
use Rattle.capture_form.specs.Pcap.{FrameContent}
use Rattle.capture_form.specs.Blocks.{BlockContent, order_at, total_len, is_whole, is_broken}
use Rattle.capture_form.specs.Sections.{SectionContent, step_at, with_found, blocks_of}
use Rattle.capture_form.proofs.Steps.{whole_parts, block_some, step_some, blocks_some, blocks_none}
use Rattle.capture_form.proofs.StepCuts.{step_more, step_none_more, step_of_none, broken_more}
use Rattle.capture_window.specs.Windows.{Holds, section_wires, wire_step, more_wires, TellsSections}

pub told_start : (s : SectionContent) (a : Option (List ℕ)) (window found : List ℕ) → found ≡ [] → TellsSections s a window found s a window
told_start s None window found e = tt
told_start s (Some bytes) window found e = ap (λ (xs : List ℕ). xs ++ section_wires s (window ++ bytes)) e

pub told_filled : (first s : SectionContent) (a b c : Option (List ℕ)) (window found w held : List ℕ) → TellsSections first a window found s b w → Holds b w c held
    → TellsSections first a window found s c held
told_filled first s None b c window found w held h k = tt
told_filled first s (Some r) None c window found w held h k = absurd h
told_filled first s (Some r) (Some b) None window found w held h k = absurd k
told_filled first s (Some r) (Some b) (Some t) window found w held h k = ap (λ (xs : List ℕ). found ++ section_wires s xs) (sym k) ∙ h

unfoldable pub wire_of : Option FrameContent → Option ℕ
wire_of f = option_map (λ (f : FrameContent). f.wire) f

wires_found : (f : Option FrameContent) (later : List FrameContent × (SectionContent × List ℕ)) (found : List ℕ)
    → found ++ map (λ (f : FrameContent). f.wire) (with_found f later).0 ≡ more_wires found (wire_of f) ++ map (λ (f : FrameContent). f.wire) later.0
unfolding wire_of
wires_found None later found = refl
wires_found (Some f) later found = sym (append_assoc found (f.wire ∷ []) (map (λ (f : FrameContent). f.wire) later.0))

told_block : (first s t : SectionContent) (a c : Option (List ℕ)) (window found held rest : List ℕ) (f : Option FrameContent) → step_at s held ≡ Some ((t, f), rest)
    → TellsSections first a window found s c held → TellsSections first a window (more_wires found (wire_of f)) t c rest
told_block first s t None c window found held rest f is h = tt
told_block first s t (Some r) None window found held rest f is h = absurd h
told_block first s t (Some r) (Some left) window found held rest f is h =
    let more = blocks_some s t (held ++ left) (rest ++ left) f (step_more s held left rest (t, f) is) in
    sym (wires_found f (blocks_of t (rest ++ left)) found)
    ∙ ap (λ (r : List FrameContent × (SectionContent × List ℕ)). found ++ map (λ (f : FrameContent). f.wire) r.0) (sym more)
    ∙ h

-- the same by what a block tells of lengths
unfoldable pub wire_change : Option ((SectionContent × Option FrameContent) × List ℕ) → Option ((SectionContent × Option ℕ) × List ℕ)
wire_change found = option_map (λ (r : (SectionContent × Option FrameContent) × List ℕ). ((r.0.0, option_map (λ (f : FrameContent). f.wire) r.0.1), r.1)) found

pub told_passed : (first s t : SectionContent) (a c : Option (List ℕ)) (window found held rest : List ℕ) (wire : Option ℕ) (step : Option ((SectionContent × Option FrameContent) × List ℕ))
    → step_at s held ≡ step → wire_step s held ≡ Some ((t, wire), rest)
    → TellsSections first a window found s c held → TellsSections first a window (more_wires found wire) t c rest
unfolding wire_change wire_of
told_passed first s t a c window found held rest wire None is passed h =
    let none : wire_step s held ≡ None = ap wire_change is in
    absurd cc
told_passed first s t a c window found held rest wire (Some ((u, f), behind)) is passed h =
    let some : wire_step s held ≡ Some ((u, wire_of f), behind) = ap wire_change is in
    let same : ◌≡◌ {A = Option ((SectionContent × Option ℕ) × List ℕ)} (Some ((u, wire_of f), behind)) (Some ((t, wire), rest)) = sym some ∙ passed in
    let parts : ◌≡◌ {A = (SectionContent × Option ℕ) × List ℕ} ((u, wire_of f), behind) ((t, wire), rest) = cc in
    subst (λ (p : (SectionContent × Option ℕ) × List ℕ). TellsSections first a window (more_wires found p.0.1) p.0.0 c p.1) parts
    (told_block first s u a c window found held behind f is h)

-- ---- the end

pub none_behind : (s : SectionContent) (held left : List ℕ) → step_at s (held ++ left) ≡ None → section_wires s (held ++ left) ≡ []
none_behind s held left is = ap (λ (found : List FrameContent × (SectionContent × List ℕ)). map (λ (f : FrameContent). f.wire) found.0) (blocks_none s (held ++ left) is)

told_last : (first s : SectionContent) (r t window found held : List ℕ) → step_at s (held ++ t) ≡ None → found ++ section_wires s (held ++ t) ≡ section_wires first (window ++ r)
    → found ≡ section_wires first (window ++ r)
told_last first s r t window found held is h =
    sym (append-nil found) ∙ ap (λ (xs : List ℕ). found ++ xs) (sym (none_behind s held t is)) ∙ h

pub none_left : (s : SectionContent) (held t : List ℕ) (broken : Bool) → is_broken (order_at s.order held) held ≡ broken → is_whole (order_at s.order held) held ≡ false
    → (broken ≡ false → t ≡ []) → step_at s (held ++ t) ≡ None
none_left s held t true is whole end = broken_more s held t is
none_left s held t false is whole end =
    let all : held ++ t ≡ held = ap (λ (xs : List ℕ). held ++ xs) (end refl) ∙ append-nil held in
    ap (step_at s) all ∙ step_of_none s held whole

-- where no block is whole,
pub told_end : (first s : SectionContent) (a c : Option (List ℕ)) (window found held : List ℕ) → is_whole (order_at s.order held) held ≡ false
    → (is_broken (order_at s.order held) held ≡ false → IsAtEnd c) → TellsSections first a window found s c held
    → IfSome a (λ bytes. found ≡ section_wires first (window ++ bytes))
told_end first s None c window found held is end h = tt
told_end first s (Some r) None window found held is end h = absurd h
told_end first s (Some r) (Some t) window found held is end h =
    told_last first s r t window found held (none_left s held t (is_broken (order_at s.order held) held) refl is end) h

-- or one is damaged
pub told_damaged : (first s : SectionContent) (a c : Option (List ℕ)) (window found held : List ℕ) → is_whole (order_at s.order held) held ≡ true
    → step_at s held ≡ None → TellsSections first a window found s c held → IfSome a (λ bytes. found ≡ section_wires first (window ++ bytes))
told_damaged first s None c window found held whole is h = tt
told_damaged first s (Some r) None window found held whole is h = absurd h
told_damaged first s (Some r) (Some t) window found held whole is h =
    told_last first s r t window found held (step_none_more s held t whole is) h

-- ---- what is behind a block is the end of what is held
pub behind_block : (s : SectionContent) (held rest : List ℕ) (change : SectionContent × Option FrameContent) → step_at s held ≡ Some (change, rest)
    → (length rest ≤ length held) × (drop (length held - length rest) held ≡ rest)
behind_block s held rest change is =
    let o = order_at s.order held in
    let step = step_some s held rest change is in
    let both = block_some o held rest step.block step.is in
    let w = whole_parts o held both.0 in
    let end : drop (total_len o held) held ≡ rest = ap (λ (p : BlockContent × List ℕ). p.1) both.1 in
    let len : length rest ≡ length held - total_len o held = ap length (sym end) ∙ length-drop (total_len o held) held in
    let count : length held - length rest ≡ total_len o held = omega (arith, len, w.fits) in
    (omega (arith, len), ap (λ (k : ℕ). drop k held) count ∙ end)

pub passed_block : (s t : SectionContent) (held rest : List ℕ) (f : Option FrameContent) → step_at s held ≡ Some ((t, f), rest)
    → wire_step s held ≡ Some ((t, option_map (λ (f : FrameContent). f.wire) f), drop (length held - length rest) held)
unfolding wire_change
passed_block s t held rest f is =
    ap wire_change is
    ∙ ap (λ (bytes : List ℕ). Some ((t, option_map (λ (f : FrameContent). f.wire) f), bytes)) (sym (behind_block s held rest (t, f) is).1)
