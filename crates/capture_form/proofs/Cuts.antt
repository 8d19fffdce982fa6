-- A capture that was cut.
use Rattle.std.specs.Prelude.{true, false, Bool}
use Rattle.std.proofs.lemmas.Bool.{ltb-false, ltb-true, le-ltb, lt-ltb}
use Rattle.capture_form.proofs.Choices.{pick_true, pick_false}
use Rattle.std.proofs.lemmas.List.{length-append, length-drop, drop-append-le, take-append-le, take-append-drop}
use Rattle.std.proofs.Common.{◌≡◌, ℕ, zero, suc, ◌%◌, ◌<◌, ◌≤◌, ltb, List, ◌∷◌, ◌++◌, length, take, drop, Option, Some, None, refl, sym, ap, ◌∙◌, arith}
use Rattle.capture_form.specs.declared.form.Form.{Form}
use Rattle.capture_form.specs.declared.form.Unit.{Unit}
use Rattle.capture_form.specs.declared.order.Order.{Order}
use Rattle.capture_form.specs.declared.order.Order.TheVariants.{Big, Little}
use Rattle.capture_form.specs.Numbers.{number_in}
use Rattle.capture_form.specs.Pcap.{FrameContent, captured_len, max_captured, frame_in, record_at, records_of, writing_of, with_form, form_of, frames_by, frames_of}
use Rattle.capture_form.specs.Laws.{CutHasFirst}
use Rattle.capture_form.proofs.Numbers.{first_bytes, field_more}
use Rattle.capture_form.proofs.Records.{record_some, record_bounded, record_damaged, record_whole, record_shorter, records_some, records_none}

length_more : (xs ys : List ℕ) → length xs ≤ length (xs ++ ys)
length_more xs ys = omega (arith, length-append xs ys)

pub pair : {A B : Type 0} {a c : A} {b d : B} → a ≡ c → b ≡ d → ◌≡◌ {A = A × B} (a, b) (c, d)
pair first second = rw (first, second) refl

-- a record stays one, whatever follows
pub record_more : (form : Form) (xs ys rest : List ℕ) (f : FrameContent) → record_at form xs ≡ Some (f, rest)
    → record_at form (xs ++ ys) ≡ Some (f, rest ++ ys)
record_more form xs ys rest f is =
    let both = record_some form xs rest f is in
    let fits = both.0 in
    let len = length-drop 16 xs in
    let captured : captured_len form (xs ++ ys) ≡ captured_len form xs = field_more form.order 8 xs ys (omega (arith, fits)) in
    let behind : drop 16 (xs ++ ys) ≡ drop 16 xs ++ ys = drop-append-le 16 xs ys (omega (arith, fits)) in
    let seconds = first_bytes form.order 4 xs ys (omega (arith, fits)) in
    let units = field_more form.order 4 xs ys (omega (arith, fits)) in
    let wire = field_more form.order 12 xs ys (omega (arith, fits)) in
    let taken : take (captured_len form xs) (drop 16 xs ++ ys) ≡ take (captured_len form xs) (drop 16 xs) = take-append-le (captured_len form xs) (drop 16 xs) ys (omega (arith, fits, len)) in
    let left : drop (captured_len form xs) (drop 16 xs ++ ys) ≡ drop (captured_len form xs) (drop 16 xs) ++ ys = drop-append-le (captured_len form xs) (drop 16 xs) ys (omega (arith, fits, len)) in
    let bytes : take (captured_len form (xs ++ ys)) (drop 16 (xs ++ ys)) ≡ take (captured_len form xs) (drop 16 xs) = rw (captured, behind) taken in
    let more : drop (captured_len form (xs ++ ys)) (drop 16 (xs ++ ys)) ≡ drop (captured_len form xs) (drop 16 xs) ++ ys = rw (captured, behind) left in
    let frame : frame_in form (xs ++ ys) ≡ frame_in form xs = rw (bytes, seconds, units, wire) refl in
    let longer : length xs ≤ length (xs ++ ys) = length_more xs ys in
    let few = record_bounded form xs rest f is in
    record_whole form (xs ++ ys) (omega (arith, fits, captured, longer)) (omega (arith, few, captured))
    ∙ ap (λ (p : FrameContent × List ℕ). Some p) (pair frame more)
    ∙ ap (λ (p : FrameContent × List ℕ). Some (p.0, p.1 ++ ys)) both.1

-- and a damaged one stays none
pub damaged_more : (form : Form) (xs ys : List ℕ) → 16 ≤ length xs → max_captured < captured_len form xs → record_at form (xs ++ ys) ≡ None
damaged_more form xs ys long great =
    let captured : captured_len form (xs ++ ys) ≡ captured_len form xs = field_more form.order 8 xs ys (omega (arith, long)) in
    record_damaged form (xs ++ ys) (omega (arith, great, captured))

-- so the frames stay, and others may follow
HasFirst : List FrameContent → List FrameContent → Type 0
HasFirst whole first = (later : List FrameContent) × (whole ≡ first ++ later)

records_more : (n : ℕ) (form : Form) (xs ys : List ℕ) (first : Option (FrameContent × List ℕ)) → record_at form xs ≡ first → length xs ≤ n
    → HasFirst (records_of form (xs ++ ys)).0 (records_of form xs).0
unfolding HasFirst
records_more n form xs ys None found few =
    let none = records_none form xs found in
    ((records_of form (xs ++ ys)).0, ap (λ (r : List FrameContent × List ℕ). r.0 ++ (records_of form (xs ++ ys)).0) (sym none))
records_more zero form xs ys (Some (f, rest)) found few = absurd (omega (arith, few, record_shorter form xs rest f found))
records_more (suc n) form xs ys (Some (f, rest)) found few =
    let ih = records_more n form rest ys (record_at form rest) refl (omega (arith, few, record_shorter form xs rest f found)) in
    let whole = records_some form (xs ++ ys) (rest ++ ys) f (record_more form xs ys rest f found) in
    let front = records_some form xs rest f found in (
      ih.0,
      ap (λ (r : List FrameContent × List ℕ). r.0) whole
          ∙ ap (λ (fs : List FrameContent). f ∷ fs) ih.1
          ∙ ap (λ (r : List FrameContent × List ℕ). r.0 ++ ih.0) (sym front),
    )

-- the head doesn't depend on what follows it
writing_more : (xs ys : List ℕ) → 24 ≤ length xs → writing_of (xs ++ ys) ≡ writing_of xs
unfolding writing_of
writing_more xs ys h =
    let big : number_in Big 4 (xs ++ ys) ≡ number_in Big 4 xs = first_bytes Big 4 xs ys (omega (arith, h)) in
    let little : number_in Little 4 (xs ++ ys) ≡ number_in Little 4 xs = first_bytes Little 4 xs ys (omega (arith, h)) in
    rw (big, little) refl

unfoldable pub linked : Order × Unit → ℕ → Option Form
linked w n = Some (record { order = w.0; unit = w.1; link = n % 65536 })

with_form_more : (xs ys : List ℕ) (w : Option (Order × Unit)) → 24 ≤ length xs → with_form (xs ++ ys) w ≡ with_form xs w
unfolding linked
with_form_more xs ys None h = refl
with_form_more xs ys (Some w) h =
    ap (linked w) (field_more w.0 20 xs ys (omega (arith, h)))

pub form_short : (xs : List ℕ) → length xs < 24 → form_of xs ≡ None
unfolding form_of
form_short xs h = pick_true (ltb (length xs) 24) None (with_form xs (writing_of xs)) (lt-ltb _ _ h)

pub form_long : (xs : List ℕ) → 24 ≤ length xs → form_of xs ≡ with_form xs (writing_of xs)
unfolding form_of
form_long xs h = pick_false (ltb (length xs) 24) None (with_form xs (writing_of xs)) (le-ltb _ _ h)

pub form_more : (xs ys : List ℕ) → 24 ≤ length xs → form_of (xs ++ ys) ≡ form_of xs
form_more xs ys h =
    form_long (xs ++ ys) (omega (arith, h, length_more xs ys))
    ∙ ap (with_form (xs ++ ys)) (writing_more xs ys h)
    ∙ with_form_more xs ys (writing_of xs) h
    ∙ sym (form_long xs h)

none_first : (xs ys : List ℕ) → form_of xs ≡ None → HasFirst (frames_of (xs ++ ys)).0 (frames_of xs).0
unfolding HasFirst frames_of
none_first xs ys none =
    let whole = (frames_by (xs ++ ys) (form_of (xs ++ ys))).0 in
    (whole, ap (λ (o : Option Form). (frames_by xs o).0 ++ whole) (sym none))

some_first : (xs ys : List ℕ) (form : Form) → 24 ≤ length xs → form_of xs ≡ Some form → HasFirst (frames_of (xs ++ ys)).0 (frames_of xs).0
unfolding HasFirst frames_of
some_first xs ys form h some =
    let more = records_more (length (drop 24 xs)) form (drop 24 xs) ys (record_at form (drop 24 xs)) refl (omega arith) in (
      more.0,
      ap (λ (o : Option Form). (frames_by (xs ++ ys) o).0) (form_more xs ys h ∙ some)
          ∙ ap (λ (bytes : List ℕ). (records_of form bytes).0) (drop-append-le 24 xs ys h)
          ∙ more.1
          ∙ ap (λ (o : Option Form). (frames_by xs o).0 ++ more.0) (sym some),
    )

first_by : (xs ys : List ℕ) (o : Option Form) (short : Bool) → form_of xs ≡ o → ltb (length xs) 24 ≡ short → HasFirst (frames_of (xs ++ ys)).0 (frames_of xs).0
first_by xs ys None short is test = none_first xs ys is
first_by xs ys (Some form) true is test = let no = sym is ∙ form_short xs (ltb-true _ _ test) in absurd cc
first_by xs ys (Some form) false is test = some_first xs ys form (ltb-false _ _ test) is

pub cut_has_first_lem : CutHasFirst
unfolding HasFirst
cut_has_first_lem count bytes =
    let found = first_by (take count bytes) (drop count bytes) (form_of (take count bytes)) (ltb (length (take count bytes)) 24) refl refl in
    (found.0, ap (λ (all : List ℕ). (frames_of all).0) (sym (take-append-drop count bytes)) ∙ found.1)
