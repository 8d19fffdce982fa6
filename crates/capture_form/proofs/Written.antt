-- What is written reads back.
use Rattle.std.proofs.lemmas.Bool.{lt-ltb}
use Rattle.std.proofs.lemmas.List.{length-append, take_at, drop_at}
use Rattle.std.proofs.Common.{◌≡◌, ℕ, ◌+◌, ◌*◌, ◌/◌, ◌%◌, ◌^◌, ◌<◌, ◌≤◌, ◌||◌, ltb, List, [], ◌∷◌, ◌++◌, length, take, drop, Some, None, refl, sym, ap, ◌∙◌, arith}
use Rattle.std.proofs.Math.Nat.{mod-eq_of_lt}
use Rattle.std.specs.List.{AllByRecursion}
use Rattle.capture_form.specs.declared.form.Form.{Form}
use Rattle.capture_form.specs.declared.form.Unit.{Unit}
use Rattle.capture_form.specs.declared.form.Unit.TheVariants.{Micro, Nano}
use Rattle.capture_form.specs.declared.order.Order.{Order}
use Rattle.capture_form.specs.declared.order.Order.TheVariants.{Big, Little}
use Rattle.capture_form.specs.Numbers.{number_in, bytes_in}
use Rattle.capture_form.specs.Pcap.{FrameContent, nanoseconds, max_captured, captured_len, frame_in, record_at, with_frame, records_of, writing_of, with_form, form_of, frames_by, stopping, frames_of}
use Rattle.capture_form.specs.Writer.{magic, head_before, record_before, records, spell, HasRecord}
use Rattle.capture_form.specs.Laws.{ReadsBack}
use Rattle.capture_form.proofs.Choices.{pick_true, or_true}
use Rattle.capture_form.proofs.Numbers.{reads_back, bytes_length, past}
use Rattle.capture_form.proofs.Records.{record_whole, records_some, records_none}
use Rattle.capture_form.proofs.Cuts.{form_long, linked, pair}

-- a time is its seconds and its units
units_fit : (u : Unit) (time : ℕ) → time % 1000000000 / nanoseconds u < 256 ^ 4
units_fit Micro time = omega arith
units_fit Nano time = omega arith

time_back : (u : Unit) (time : ℕ) → time % nanoseconds u ≡ 0 → time / 1000000000 * 1000000000 + time % 1000000000 / nanoseconds u * nanoseconds u ≡ time
time_back Micro time whole = omega (arith, whole)
time_back Nano time whole = omega (arith, whole)

joined : (link link' time time' wire wire' : ℕ) (bytes bytes' : List ℕ) → link ≡ link' → time ≡ time' → wire ≡ wire' → bytes ≡ bytes'
    → ◌≡◌ {A = FrameContent} (record { link = link; time = time; wire = wire; bytes = bytes }) (record { link = link'; time = time'; wire = wire'; bytes = bytes' })
joined link link' time time' wire wire' bytes bytes' a b c d = rw (a, b, c, d) refl

record_back : (form : Form) (f : FrameContent) (rest : List ℕ) → HasRecord form f → record_at form (record_before form f rest) ≡ Some (f, rest)
unfolding record_before
record_back form f rest has =
    let o = form.order in
    let seconds = f.time / 1000000000 in
    let units = f.time % 1000000000 / nanoseconds form.unit in
    let size = length f.bytes in
    let last = f.bytes ++ rest in
    let fourth = bytes_in o 4 f.wire ++ last in
    let third = bytes_in o 4 size ++ fourth in
    let second = bytes_in o 4 units ++ third in
    let all = bytes_in o 4 seconds ++ second in
    let to_second : drop 4 all ≡ second = past o 4 seconds 0 second in
    let to_third : drop 8 all ≡ third = past o 4 seconds 4 second ∙ past o 4 units 0 third in
    let to_fourth : drop 12 all ≡ fourth = past o 4 seconds 8 second ∙ past o 4 units 4 third ∙ past o 4 size 0 fourth in
    let to_last : drop 16 all ≡ last = past o 4 seconds 12 second ∙ past o 4 units 8 third ∙ past o 4 size 4 fourth ∙ past o 4 f.wire 0 last in
    let captured : captured_len form all ≡ size = ap (number_in o 4) to_third ∙ reads_back o 4 size fourth (omega (arith, has.captured)) in
    let seconds_are : number_in o 4 all ≡ seconds = reads_back o 4 seconds second has.seconds in
    let units_are : number_in o 4 (drop 4 all) ≡ units = ap (number_in o 4) to_second ∙ reads_back o 4 units third (units_fit form.unit f.time) in
    let wire_is : number_in o 4 (drop 12 all) ≡ f.wire = ap (number_in o 4) to_fourth ∙ reads_back o 4 f.wire last has.wire in
    let taken : take (captured_len form all) (drop 16 all) ≡ f.bytes = ap (λ (xs : List ℕ). take (captured_len form all) xs) to_last ∙ take_at f.bytes rest (captured_len form all) (sym captured) in
    let left : drop (captured_len form all) (drop 16 all) ≡ rest = ap (λ (xs : List ℕ). drop (captured_len form all) xs) to_last ∙ drop_at f.bytes rest (captured_len form all) (sym captured) in
    let time : number_in o 4 all * 1000000000 + number_in o 4 (drop 4 all) * nanoseconds form.unit ≡ f.time =
    ap (λ (n : ℕ). n * 1000000000 + number_in o 4 (drop 4 all) * nanoseconds form.unit) seconds_are
    ∙ ap (λ (n : ℕ). seconds * 1000000000 + n * nanoseconds form.unit) units_are ∙ time_back form.unit f.time has.units in
    let frame : frame_in form all ≡ f = joined form.link f.link (number_in o 4 all * 1000000000 + number_in o 4 (drop 4 all) * nanoseconds form.unit) f.time (number_in o 4 (drop 12 all)) f.wire (take (captured_len form all) (drop 16 all)) f.bytes (sym has.link) time wire_is taken in
    let len : length all ≡ 16 + size + length rest =
    omega (
      arith,
      length-append (bytes_in o 4 seconds) second,
      length-append (bytes_in o 4 units) third,
      length-append (bytes_in o 4 size) fourth,
      length-append (bytes_in o 4 f.wire) last,
      length-append f.bytes rest,
      bytes_length o 4 seconds,
      bytes_length o 4 units,
      bytes_length o 4 size,
      bytes_length o 4 f.wire,
    ) in
    record_whole form all (omega (arith, len, captured)) (omega (arith, has.captured, captured)) ∙ ap (λ (p : FrameContent × List ℕ). Some p) (pair frame left)

-- ---- the records

none_in_nothing : (form : Form) → record_at form [] ≡ None
unfolding record_at
none_in_nothing form =
    let short = ltb 0 (16 + captured_len form []) in
    let great = ltb max_captured (captured_len form []) in
    pick_true (short || great) None (Some (frame_in form [], drop (captured_len form []) (drop 16 []))) (or_true short great (lt-ltb _ _ (omega arith)))

records_back : (form : Form) (frames : List FrameContent) → AllByRecursion (HasRecord form) frames → records_of form (records form frames) ≡ (frames, [])
unfolding records
records_back form [] each = records_none form [] (none_in_nothing form)
records_back form (f ∷ frames) each =
    records_some form (record_before form f (records form frames)) (records form frames) f (record_back form f (records form frames) each.0)
    ∙ ap (with_frame f) (records_back form frames each.1)

-- ---- the head

writing_back : (o : Order) (u : Unit) (rest : List ℕ) → writing_of (bytes_in o 4 (magic u) ++ rest) ≡ Some (o, u)
unfolding writing_of
writing_back Big Micro rest = refl
writing_back Little Micro rest = refl
writing_back Big Nano rest = refl
writing_back Little Nano rest = refl

same_form : (form : Form) → form.link < 2 ^ 16 → linked (form.order, form.unit) form.link ≡ Some form
unfolding linked
same_form form fits = rw (mod-eq_of_lt fits) refl

HeadReads : Form → List ℕ → List ℕ → Type 0
HeadReads form rest all = (form_of all ≡ Some form) × (drop 24 all ≡ rest)

head_back : (form : Form) (rest : List ℕ) → form.link < 2 ^ 16 → HeadReads form rest (head_before form rest)
unfolding HeadReads head_before linked
head_back form rest fits =
    let o = form.order in
    let g = bytes_in o 4 form.link ++ rest in
    let f = bytes_in o 4 max_captured ++ g in
    let e = bytes_in o 4 0 ++ f in
    let d = bytes_in o 4 0 ++ e in
    let c = bytes_in o 2 4 ++ d in
    let b = bytes_in o 2 2 ++ c in
    let a = bytes_in o 4 (magic form.unit) ++ b in
    let to_link : drop 20 a ≡ g = past o 4 (magic form.unit) 16 b ∙ past o 2 2 14 c ∙ past o 2 4 12 d ∙ past o 4 0 8 e ∙ past o 4 0 4 f ∙ past o 4 max_captured 0 g in
    let to_rest : drop 24 a ≡ rest = past o 4 (magic form.unit) 20 b ∙ past o 2 2 18 c ∙ past o 2 4 16 d ∙ past o 4 0 12 e ∙ past o 4 0 8 f ∙ past o 4 max_captured 4 g ∙ past o 4 form.link 0 rest in
    let len : 24 ≤ length a =
    omega (
      arith,
      length-append (bytes_in o 4 (magic form.unit)) b,
      length-append (bytes_in o 2 2) c,
      length-append (bytes_in o 2 4) d,
      length-append (bytes_in o 4 0) e,
      length-append (bytes_in o 4 0) f,
      length-append (bytes_in o 4 max_captured) g,
      length-append (bytes_in o 4 form.link) rest,
      bytes_length o 4 (magic form.unit),
      bytes_length o 2 2,
      bytes_length o 2 4,
      bytes_length o 4 0,
      bytes_length o 4 max_captured,
      bytes_length o 4 form.link,
    ) in
    let number : number_in o 4 (drop 20 a) ≡ form.link =
    ap (λ (xs : List ℕ). number_in o 4 xs) to_link ∙ reads_back o 4 form.link rest (omega (arith, fits)) in
    (form_long a len ∙ ap (with_form a) (writing_back o form.unit b) ∙ ap (linked (o, form.unit)) number ∙ same_form form fits, to_rest)

pub reads_back_lem : ReadsBack
unfolding spell frames_of HeadReads
reads_back_lem form frames fits each =
    let all = head_before form (records form frames) in
    let head = head_back form (records form frames) fits in
    ap (frames_by all) head.0
    ∙ ap (λ (xs : List ℕ). stopping (length all) (records_of form xs)) head.1
    ∙ ap (stopping (length all)) (records_back form frames each)
