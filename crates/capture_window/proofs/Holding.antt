-- What a window holds.
use Rattle.std.proofs.Common.{◌≡◌, ℕ, ◌+◌, ◌-◌, ◌≤◌, length, drop, ◌<◌, ltb, List, [], ◌∷◌, ◌++◌, Option, Some, None, refl, sym, ap, subst, ◌∙◌, append_assoc, arith}
use Rattle.std.specs.Prelude.{Bool, true, false, not, IfSome, map, option_map}
use Rattle.std.specs.Io.KnownBytes.{IsAtEnd}
use Rattle.std.proofs.lemmas.Bool.{and_parts, ltb-false, ltb-true}
use Rattle.std.proofs.lemmas.List.{append-nil, drop-append-le, drop-drop, length-drop}
use Rattle.capture_form.specs.declared.form.Form.{Form}
use Rattle.capture_form.specs.Pcap.{FrameContent, captured_len, form_of, is_damaged, max_captured, record_at}
use Rattle.capture_form.proofs.Records.{record_some, records_some, records_none}
use Rattle.capture_form.proofs.Cuts.{damaged_more, form_more, record_more}
use Rattle.capture_window.specs.Windows.{Holds, HoldsBehind, first_wire, wires, Tells}

pub tells_start : (form : Form) (a : Option (List ℕ)) (window found : List ℕ) → found ≡ [] → Tells form a window found a window
tells_start form None window found e = tt
tells_start form (Some bytes) window found e = ap (λ (xs : List ℕ). xs ++ wires form (window ++ bytes)) e

pub tells_filled : (form : Form) (a b c : Option (List ℕ)) (window found w held : List ℕ) → Tells form a window found b w → Holds b w c held → Tells form a window found c held
tells_filled form None b c window found w held h k = tt
tells_filled form (Some r) None c window found w held h k = absurd h
tells_filled form (Some r) (Some s) None window found w held h k = absurd k
tells_filled form (Some r) (Some s) (Some t) window found w held h k = ap (λ (xs : List ℕ). found ++ wires form xs) (sym k) ∙ h

pub tells_frame : (form : Form) (a c : Option (List ℕ)) (window found held rest : List ℕ) (f : FrameContent) → record_at form held ≡ Some (f, rest)
    → Tells form a window found c held → Tells form a window (found ++ f.wire ∷ []) c rest
tells_frame form None c window found held rest f is h = tt
tells_frame form (Some r) None window found held rest f is h = absurd h
tells_frame form (Some r) (Some t) window found held rest f is h =
    let more = records_some form (held ++ t) (rest ++ t) f (record_more form held t rest f is) in
    let listed : wires form (held ++ t) ≡ f.wire ∷ wires form (rest ++ t) = ap (λ (found : List FrameContent × List ℕ). map (λ (f : FrameContent). f.wire) found.0) more in
    append_assoc found (f.wire ∷ []) (wires form (rest ++ t)) ∙ ap (λ (xs : List ℕ). found ++ xs) (sym listed) ∙ h

-- where a record is none, and none follows, whatever remains
pub none_behind : (form : Form) (held left : List ℕ) → record_at form (held ++ left) ≡ None → wires form (held ++ left) ≡ []
none_behind form held left is = ap (λ (found : List FrameContent × List ℕ). map (λ (f : FrameContent). f.wire) found.0) (records_none form (held ++ left) is)

tells_last : (form : Form) (r t window found held : List ℕ) → record_at form (held ++ t) ≡ None → found ++ wires form (held ++ t) ≡ wires form (window ++ r)
    → found ≡ wires form (window ++ r)
tells_last form r t window found held is h =
    sym (append-nil found) ∙ ap (λ (xs : List ℕ). found ++ xs) (sym (none_behind form held t is)) ∙ h

not_true : (b : Bool) → not b ≡ true → b ≡ false
not_true true is = absurd cc
not_true false is = refl

pub none_left : (form : Form) (held t : List ℕ) (damaged : Bool) → is_damaged form held ≡ damaged → record_at form held ≡ None → (damaged ≡ false → t ≡ [])
    → record_at form (held ++ t) ≡ None
none_left form held t true is none end =
    let both = and_parts (not (ltb (length held) 16)) (ltb max_captured (captured_len form held)) is in
    damaged_more form held t (ltb-false _ _ (not_true (ltb (length held) 16) both.0)) (ltb-true _ _ both.1)
none_left form held t false is none end =
    let all : held ++ t ≡ held = ap (λ (xs : List ℕ). held ++ xs) (end refl) ∙ append-nil held in
    ap (record_at form) all ∙ none

pub tells_end : (form : Form) (a c : Option (List ℕ)) (window found held : List ℕ) → record_at form held ≡ None → (is_damaged form held ≡ false → IsAtEnd c)
    → Tells form a window found c held → IfSome a (λ bytes. found ≡ wires form (window ++ bytes))
tells_end form None c window found held is end h = tt
tells_end form (Some r) None window found held is end h = absurd h
tells_end form (Some r) (Some t) window found held is end h =
    tells_last form r t window found held (none_left form held t (is_damaged form held) refl is end) h

wire_or : Option (ℕ × List ℕ) → ℕ
wire_or None = 0
wire_or (Some p) = p.0

unfoldable pub rest_or : Option (ℕ × List ℕ) → List ℕ
rest_or None = []
rest_or (Some p) = p.1

pub tells_popped : (form : Form) (a c : Option (List ℕ)) (window found held rest : List ℕ) (wire : ℕ) (first : Option (FrameContent × List ℕ)) → record_at form held ≡ first
    → first_wire form held ≡ Some (wire, rest) → Tells form a window found c held → Tells form a window (found ++ wire ∷ []) c rest
unfolding wire_or rest_or
tells_popped form a c window found held rest wire None is popped h =
    let none : first_wire form held ≡ None = ap (λ (r : Option (FrameContent × List ℕ)). option_map (λ (r : FrameContent × List ℕ). (r.0.wire, r.1)) r) is in
    absurd cc
tells_popped form a c window found held rest wire (Some (f, behind)) is popped h =
    let some : first_wire form held ≡ Some (f.wire, behind) = ap (λ (r : Option (FrameContent × List ℕ)). option_map (λ (r : FrameContent × List ℕ). (r.0.wire, r.1)) r) is in
    let same : ◌≡◌ {A = Option (ℕ × List ℕ)} (Some (f.wire, behind)) (Some (wire, rest)) = sym some ∙ popped in
    let wires_same : f.wire ≡ wire = ap wire_or same in
    let rest_same : behind ≡ rest = ap rest_or same in
    subst (λ (n : ℕ). Tells form a window (found ++ n ∷ []) c rest) wires_same (subst (λ (bytes : List ℕ). Tells form a window (found ++ f.wire ∷ []) c bytes) rest_same (tells_frame form a c window found held behind f is h))

-- what is behind a record is the end of what is held
pub behind_record : (form : Form) (held rest : List ℕ) (f : FrameContent) → record_at form held ≡ Some (f, rest)
    → (length rest ≤ length held) × (drop (length held - length rest) held ≡ rest)
behind_record form held rest f is =
    let both = record_some form held rest f is in
    let n = captured_len form held in
    let fits : 16 + n ≤ length held = both.0 in
    let end : drop n (drop 16 held) ≡ rest = ap (λ (p : FrameContent × List ℕ). p.1) both.1 in
    let at : drop (16 + n) held ≡ rest = sym (drop-drop n 16 held) ∙ end in
    let len : length rest ≡ length held - (16 + n) = ap length (sym at) ∙ length-drop (16 + n) held in
    let count : length held - length rest ≡ 16 + n = omega (arith, len, fits) in
    (omega (arith, len), ap (λ (k : ℕ). drop k held) count ∙ at)

pub popped_first : (form : Form) (held rest : List ℕ) (f : FrameContent) → record_at form held ≡ Some (f, rest) → first_wire form held ≡ Some (f.wire, drop (length held - length rest) held)
popped_first form held rest f is =
    ap (λ (r : Option (FrameContent × List ℕ)). option_map (λ (r : FrameContent × List ℕ). (r.0.wire, r.1)) r) is
    ∙ ap (λ (bytes : List ℕ). Some (f.wire, bytes)) (sym (behind_record form held rest f is).1)

-- ---- the form

form_held : (held left : List ℕ) (short : Bool) → ltb (length held) 24 ≡ short → (length held < 24 → left ≡ []) → form_of (held ++ left) ≡ form_of held
form_held held left true test end =
    ap form_of (ap (λ (xs : List ℕ). held ++ xs) (end (ltb-true _ _ test)) ∙ append-nil held)
form_held held left false test end = form_more held left (ltb-false _ _ test)

-- the form is that of all, where so much is held as tells it, or all
pub form_told : (a c : Option (List ℕ)) (window held : List ℕ) (form : Option Form) → Holds a window c held → (length held < 24 → IsAtEnd c)
    → form ≡ form_of held → IfSome a (λ bytes. form ≡ form_of (window ++ bytes))
form_told None c window held form h end is = tt
form_told (Some bytes) None window held form h end is = absurd h
form_told (Some bytes) (Some left) window held form h end is =
    is ∙ sym (form_held held left (ltb (length held) 24) refl end) ∙ ap form_of (sym h)

-- and what is behind it is held
pub behind_held : (a c : Option (List ℕ)) (window held : List ℕ) → Holds a window c held → 24 ≤ length held → HoldsBehind a window c (drop 24 held)
behind_held None c window held h long = tt
behind_held (Some bytes) None window held h long = absurd h
behind_held (Some bytes) (Some left) window held h long = ap (drop 24) h ∙ drop-append-le 24 held left long
