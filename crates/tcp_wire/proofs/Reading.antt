-- The function `decoded` against the grammar and the first fault.
use Rattle.std.proofs.Common.{◌≡◌, ℕ, ◌+◌, ◌-◌, ◌*◌, ◌%◌, ◌<◌, ◌≤◌, Bool, true, false, cond, ltb, eqb, ◌||◌, List, [], ◌++◌, length, take, drop, replicate, Result, Ok, Err, refl, sym, ap, ◌∙◌, ◌⊎◌, inl, inr, length-append, arith}
use Rattle.std.specs.Prelude.{IsOk}
use Rattle.std.specs.Result.{result_unwrap_or}
use Rattle.std.proofs.lemmas.List.{take_at, drop_at, drop-drop, length-take, length-drop, take-append-drop}
use Rattle.std.proofs.lemmas.Bool.{ltb-false, le-ltb}
use Rattle.std.proofs.lemmas.Bool.Decides.{nat_tests}
use Rattle.tcp_wire.specs.declared.fault.DecodeError.{DecodeError}
use Rattle.tcp_wire.specs.declared.fault.DecodeError.TheVariants.{TooShort, TooLong, BadChecksum, BadOffset, BadOption, BadPadding}
use Rattle.tcp_numbers.specs.Checksum.{AreBytes, segment_sum, Checks, DiffersInOnePlace}
use Rattle.tcp_wire.specs.Options.{OptionContent, spellings}
use Rattle.tcp_wire.specs.Wire.{Content, HasHeader, IsWire, data_offset, option_bytes, option_area}
use Rattle.tcp_wire.specs.Fault.{FirstFault, IsSized, HasOffset}
use Rattle.tcp_wire.specs.Decoded.{content_at, option_at, padding_at, options_in, options_of, IsReadable, with_options, layout_of, decode_answer}
use Rattle.tcp_wire.proofs.Bytes.{bytes_take, bytes_drop}
use Rattle.tcp_wire.proofs.AreaLaws.{Describes, options_described, options_complete, bad_option_read, bad_padding_read}
use Rattle.tcp_numbers.proofs.Lemmas.{one_place, same_length}

-- ---- tests

pub by_test : {A : Type 0} (P : A → Type 0) (b : Bool) (x y : A) → (b ≡ true → P x) → (b ≡ false → P y) → P (cond b x y)
by_test P true x y f g = f refl
by_test P false x y f g = g refl

below : (a b : ℕ) → ltb a b ≡ true → a < b
below a b e = grind (arith, nat_tests)

same : (a b : ℕ) → eqb a b ≡ true → a ≡ b
same a b e = grind (arith, nat_tests)

differs : (a b : ℕ) → eqb a b ≡ false → a ≡ b → ⊥
differs a b e = grind (arith, nat_tests)

is_below : (a b : ℕ) → a < b → ltb a b ≡ true
is_below a b h = grind (arith, nat_tests)

is_same : (a b : ℕ) → a ≡ b → eqb a b ≡ true
is_same a b h = grind (arith, nat_tests)

isn't_same : (a b : ℕ) → (a ≡ b → ⊥) → eqb a b ≡ false
isn't_same a b h = grind (arith, nat_tests)

-- ---- the statement of an outcome about the bytes

abbrev pub Explains : List ℕ → List ℕ → List ℕ → Result Content DecodeError → Type 0
Explains src dst bytes (Ok v) = IsWire src dst v bytes
Explains src dst bytes (Err e) = FirstFault src dst bytes e

has_header : (bytes : List ℕ) (options : List OptionContent) (pad : ℕ) → HasHeader (content_at bytes options pad) bytes
has_header bytes options pad = record { src_port = refl; dst_port = refl; seq = refl; ack = refl; reserved = refl; flags = refl; window = refl; urgent = refl }

-- the parts of a segment from byte 20 on
area_and_text : (bytes : List ℕ) → HasOffset bytes → drop 20 bytes ≡ option_area bytes ++ drop (4 * data_offset bytes) bytes
area_and_text bytes has =
    let k : 20 + (4 * data_offset bytes - 20) ≡ 4 * data_offset bytes = omega (arith, has.0) in
    sym (take-append-drop (4 * data_offset bytes - 20) (drop 20 bytes))
    ∙ ap (λ (xs : List ℕ). option_area bytes ++ xs) (drop-drop (4 * data_offset bytes - 20) 20 bytes ∙ ap (λ (n : ℕ). drop n bytes) k)

area_length : (bytes : List ℕ) → HasOffset bytes → length (option_area bytes) ≡ 4 * data_offset bytes - 20
area_length bytes has = omega (arith, has.0, has.1, length-take (4 * data_offset bytes - 20) (drop 20 bytes), length-drop 20 bytes)

-- a byte's high half is a data offset of at most 15
area_short : (bytes : List ℕ) → AreBytes bytes → HasOffset bytes → length (option_area bytes) ≤ 40
area_short bytes fits has = let byte = fits 12 in omega (arith, area_length bytes has)

area_bytes : (bytes : List ℕ) → AreBytes bytes → AreBytes (option_area bytes)
area_bytes bytes fits = bytes_take (4 * data_offset bytes - 20) (drop 20 bytes) (bytes_drop 20 bytes fits)

content_explained : (src dst bytes : List ℕ) (read : Result (List OptionContent × ℕ) DecodeError) → AreBytes bytes → IsSized bytes → Checks src dst bytes → HasOffset bytes
    → Describes 20 (option_area bytes) read → Explains src dst bytes (with_options bytes read)
content_explained src dst bytes (Ok read) fits sized checks has d =
    let v : Content = content_at bytes read.0 read.1 in
    let len : length (option_area bytes) ≡ length (option_bytes v) = ap length d.0 in
    record {
      are_bytes = fits;
      least = sized.0;
      most = sized.1;
      checks = checks;
      header = has_header bytes read.0 read.1;
      offset = omega (arith, has.0, len, area_length bytes has);
      options = d.1;
      behind = area_and_text bytes has ∙ ap (λ (xs : List ℕ). xs ++ v.text) d.0;
    }
content_explained src dst bytes (Err TooShort) fits sized checks has d = absurd d
content_explained src dst bytes (Err TooLong) fits sized checks has d = absurd d
content_explained src dst bytes (Err BadChecksum) fits sized checks has d = absurd d
content_explained src dst bytes (Err BadOffset) fits sized checks has d = absurd d
content_explained src dst bytes (Err (BadOption place)) fits sized checks has d = (sized, checks, has, d)
content_explained src dst bytes (Err (BadPadding place)) fits sized checks has d = (sized, checks, has, d)

either : (a b : Bool) → (a || b) ≡ true → (a ≡ true) ⊎ (b ≡ true)
either true b e = inl refl
either false b e = inr e

neither : (a b : Bool) → (a || b) ≡ false → (a ≡ false) × (b ≡ false)
neither true b e = absurd cc
neither false b e = (refl, e)

layout_of_explained : (src dst bytes : List ℕ) → AreBytes bytes → IsSized bytes → Checks src dst bytes → Explains src dst bytes (layout_of bytes)
unfolding layout_of
layout_of_explained src dst bytes fits sized checks =
    by_test (Explains src dst bytes) (ltb (data_offset bytes) 5 || ltb (length bytes) (4 * data_offset bytes)) (Err BadOffset) (with_options bytes (options_in 40 20 (option_area bytes)))
    (λ bad. (
      sized,
      checks,
      elim (either (ltb (data_offset bytes) 5) (ltb (length bytes) (4 * data_offset bytes)) bad) [
        | inl small ↦ inl (below (data_offset bytes) 5 small)
        | inr past ↦ inr (below (length bytes) (4 * data_offset bytes) past)
      ],
    ))
    (λ good.
    let tests = neither (ltb (data_offset bytes) 5) (ltb (length bytes) (4 * data_offset bytes)) good in
    let has : HasOffset bytes = (ltb-false _ _ tests.0, ltb-false _ _ tests.1) in
    let short = area_short bytes fits has in
    content_explained src dst bytes (options_in 40 20 (option_area bytes)) fits sized checks has (options_described 40 20 (option_area bytes) (area_bytes bytes fits) short short))

pub explained : (src dst bytes : List ℕ) → AreBytes bytes → Explains src dst bytes (decode_answer src dst bytes)
unfolding decode_answer
explained src dst bytes fits =
    by_test (Explains src dst bytes) (ltb (length bytes) 20) (Err TooShort) _
    (λ short. below (length bytes) 20 short)
    (λ long.
    by_test (Explains src dst bytes) (ltb 65515 (length bytes)) (Err TooLong) _
    (λ past. below 65515 (length bytes) past)
    (λ within.
    let sized : IsSized bytes = (ltb-false _ _ long, ltb-false _ _ within) in
    by_test (Explains src dst bytes) (eqb (segment_sum src dst bytes % 65535) 0) (layout_of bytes) (Err BadChecksum)
    (λ checks. layout_of_explained src dst bytes fits sized (same (segment_sum src dst bytes % 65535) 0 checks))
    (λ other. (sized, differs (segment_sum src dst bytes % 65535) 0 other))))

-- ---- each statement about the bytes is met by the outcome

rebuilt : (v : Content) → v ≡ record { src_port = v.src_port; dst_port = v.dst_port; seq = v.seq; ack = v.ack; reserved = v.reserved; flags = v.flags; window = v.window; urgent = v.urgent; options = v.options; pad = v.pad; text = v.text }
rebuilt v = refl

content_is : (v : Content) (bytes : List ℕ) → HasHeader v bytes → drop (4 * data_offset bytes) bytes ≡ v.text → content_at bytes v.options v.pad ≡ v
content_is v bytes h text = let a = h.src_port in let b = h.dst_port in let c = h.seq in let d = h.ack in let e = h.reserved in let f = h.flags in let g = h.window in let i = h.urgent in cc (rebuilt v)

-- the three tests in front, passed
pub checked : (src dst bytes : List ℕ) → IsSized bytes → Checks src dst bytes → decode_answer src dst bytes ≡ layout_of bytes
unfolding decode_answer
checked src dst bytes sized checks =
    let long : ltb (length bytes) 20 ≡ false = le-ltb _ _ sized.0 in
    let within : ltb 65515 (length bytes) ≡ false = le-ltb _ _ sized.1 in
    let sum : eqb (segment_sum src dst bytes % 65535) 0 ≡ true = is_same (segment_sum src dst bytes % 65535) 0 checks in
    rw (long, within, sum) refl

-- the data offset is right
layout_of_by_offset : (bytes : List ℕ) → HasOffset bytes → layout_of bytes ≡ with_options bytes (options_in 40 20 (option_area bytes))
unfolding layout_of
layout_of_by_offset bytes has =
    let small : ltb (data_offset bytes) 5 ≡ false = le-ltb _ _ has.0 in
    let past : ltb (length bytes) (4 * data_offset bytes) ≡ false = le-ltb _ _ has.1 in
    rw (small, past) refl

-- no byte after the fixed header is no option and no zero
pub no_options : options_in 40 20 [] ≡ Ok ([], 0)
unfolding options_in option_at padding_at
no_options = refl

pub no_area : (area : List ℕ) → area ≡ [] → (options_of area).0 ≡ []
no_area area none =
    ap (λ (bytes : List ℕ). (options_of bytes).0) none
    ∙ ap (λ (read : Result (List OptionContent × ℕ) DecodeError). (result_unwrap_or read ([], 0)).0) no_options

-- what can be read is what is read
ok_read : (read : Result (List OptionContent × ℕ) DecodeError) → IsOk read → read ≡ Ok (result_unwrap_or read ([], 0))
ok_read (Ok read) ok = refl
ok_read (Err e) ok = absurd cc

pub readable : (area : List ℕ) → IsReadable area → options_in 40 20 area ≡ Ok (options_of area)
readable area reads = ok_read (options_in 40 20 area) reads

pub complete : (src dst : List ℕ) (v : Content) (bytes : List ℕ) → IsWire src dst v bytes → decode_answer src dst bytes ≡ Ok v
complete src dst v bytes w =
    let k : 4 * data_offset bytes - 20 ≡ length (option_bytes v) = omega (arith, w.offset) in
    let len : length bytes - 20 ≡ length (option_bytes v) + length v.text = sym (length-drop 20 bytes) ∙ ap length w.behind ∙ length-append (option_bytes v) v.text in
    let has : HasOffset bytes = (omega (arith, w.offset), omega (arith, w.offset, w.least, len)) in
    let area : option_area bytes ≡ option_bytes v = ap (λ (xs : List ℕ). take (4 * data_offset bytes - 20) xs) w.behind ∙ take_at (option_bytes v) v.text (4 * data_offset bytes - 20) (sym k) in
    let total : 20 + (4 * data_offset bytes - 20) ≡ 4 * data_offset bytes = omega (arith, w.offset) in
    let text : drop (4 * data_offset bytes) bytes ≡ v.text =
    ap (λ (n : ℕ). drop n bytes) (sym total) ∙ sym (drop-drop (4 * data_offset bytes - 20) 20 bytes)
    ∙ ap (drop (4 * data_offset bytes - 20)) w.behind ∙ drop_at (option_bytes v) v.text (4 * data_offset bytes - 20) (sym k) in
    let short : length (option_area bytes) ≤ 40 = area_short bytes w.are_bytes has in
    let spelled : length (spellings v.options) ≤ 40 = omega (arith, ap length area, short, length-append (spellings v.options) (replicate {A = ℕ} v.pad 0)) in
    checked src dst bytes (w.least, w.most) w.checks
    ∙ layout_of_by_offset bytes has
    ∙ ap (with_options bytes) (ap (options_in 40 20) area ∙ options_complete 40 20 v.pad v.options w.options spelled)
    ∙ ap (λ (u : Content). Ok u) (content_is v bytes w.header text)

pub checksum_fault : (src dst bytes : List ℕ) → IsSized bytes → ¬ Checks src dst bytes → decode_answer src dst bytes ≡ Err BadChecksum
unfolding decode_answer
checksum_fault src dst bytes sized other =
    let long : ltb (length bytes) 20 ≡ false = le-ltb _ _ sized.0 in
    let within : ltb 65515 (length bytes) ≡ false = le-ltb _ _ sized.1 in
    rw (long, within, isn't_same (segment_sum src dst bytes % 65535) 0 other) refl

clash : (a b : Bool) → (a || b) ≡ false → b ≡ true → ⊥
clash true b e f = absurd cc
clash false b e f = absurd cc

offset_fault : (bytes : List ℕ) → (data_offset bytes < 5) ⊎ (length bytes < 4 * data_offset bytes) → layout_of bytes ≡ Err BadOffset
unfolding layout_of
offset_fault bytes (inl small) = rw (is_below (data_offset bytes) 5 small) refl
offset_fault bytes (inr past) = by_test (λ (r : Result Content DecodeError). r ≡ Err BadOffset) (ltb (data_offset bytes) 5 || ltb (length bytes) (4 * data_offset bytes)) (Err BadOffset) (with_options bytes (options_in 40 20 (option_area bytes)))
    (λ bad. refl)
    (λ good. absurd (clash (ltb (data_offset bytes) 5) (ltb (length bytes) (4 * data_offset bytes)) good (is_below (length bytes) (4 * data_offset bytes) past)))

pub faulty : (src dst bytes : List ℕ) (e : DecodeError) → AreBytes bytes → FirstFault src dst bytes e → decode_answer src dst bytes ≡ Err e
unfolding decode_answer
faulty src dst bytes TooShort fits f = rw (is_below (length bytes) 20 f) refl
faulty src dst bytes TooLong fits f =
    let long : ltb (length bytes) 20 ≡ false = le-ltb _ _ (omega arith) in
    rw (long, is_below 65515 (length bytes) f) refl
faulty src dst bytes BadChecksum fits f = checksum_fault src dst bytes f.0 f.1
faulty src dst bytes BadOffset fits f = checked src dst bytes f.0 f.1 ∙ offset_fault bytes f.2
faulty src dst bytes (BadOption place) fits f =
    let short = area_short bytes fits f.2 in
    checked src dst bytes f.0 f.1 ∙ layout_of_by_offset bytes f.2
    ∙ ap (with_options bytes) (bad_option_read 40 20 (option_area bytes) place (area_bytes bytes fits) short short f.3)
faulty src dst bytes (BadPadding place) fits f =
    checked src dst bytes f.0 f.1 ∙ layout_of_by_offset bytes f.2
    ∙ ap (with_options bytes) (bad_padding_read 40 20 (option_area bytes) place (area_short bytes fits f.2) f.3)

-- a segment with one changed byte
pub damaged : (src dst : List ℕ) (v : Content) (sent bytes : List ℕ) → IsWire src dst v sent → DiffersInOnePlace sent bytes → decode_answer src dst bytes ≡ Err BadChecksum
damaged src dst v sent bytes w d =
    let len = same_length sent bytes d in
    let sized : IsSized bytes = (omega (arith, w.least, len), omega (arith, w.most, len)) in
    checksum_fault src dst bytes sized (one_place src dst sent bytes d w.checks)
