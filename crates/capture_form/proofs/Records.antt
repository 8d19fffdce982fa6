-- Records one by one.
use Rattle.std.specs.Option.{option_map_or}
use Rattle.std.proofs.lemmas.Bool.{ltb-false, le-ltb, lt-ltb}
use Rattle.std.proofs.lemmas.List.{length-drop}
use Rattle.std.proofs.Common.{◌≡◌, ℕ, zero, suc, ◌+◌, ◌<◌, ◌≤◌, ◌||◌, ltb, List, [], ◌∷◌, length, drop, Option, Some, None, refl, sym, ap, ◌∙◌, arith}
use Rattle.capture_form.specs.declared.form.Form.{Form}
use Rattle.capture_form.specs.Pcap.{FrameContent, captured_len, max_captured, frame_in, record_at, with_frame, records_in, records_of}
use Rattle.capture_form.proofs.Choices.{pick_true, pick_false, or_false, either_false, either_true, guard_some}

-- what a record's being there says
pub record_some : (form : Form) (bytes rest : List ℕ) (f : FrameContent) → record_at form bytes ≡ Some (f, rest)
    → (16 + captured_len form bytes ≤ length bytes) × ◌≡◌ {A = FrameContent × List ℕ} (frame_in form bytes, drop (captured_len form bytes) (drop 16 bytes)) (f, rest)
unfolding record_at
record_some form bytes rest f is =
    let short = ltb (length bytes) (16 + captured_len form bytes) in
    let great = ltb max_captured (captured_len form bytes) in
    let both = guard_some {A = FrameContent × List ℕ} (short || great) (frame_in form bytes, drop (captured_len form bytes) (drop 16 bytes)) (f, rest) is in
    (ltb-false _ _ (or_false short great both.0).0, both.1)

pub record_bounded : (form : Form) (bytes rest : List ℕ) (f : FrameContent) → record_at form bytes ≡ Some (f, rest)
    → captured_len form bytes ≤ max_captured
unfolding record_at
record_bounded form bytes rest f is =
    let short = ltb (length bytes) (16 + captured_len form bytes) in
    let great = ltb max_captured (captured_len form bytes) in
    let both = guard_some {A = FrameContent × List ℕ} (short || great) (frame_in form bytes, drop (captured_len form bytes) (drop 16 bytes)) (f, rest) is in
    ltb-false _ _ (or_false short great both.0).1

pub record_whole : (form : Form) (bytes : List ℕ) → 16 + captured_len form bytes ≤ length bytes
    → captured_len form bytes ≤ max_captured → record_at form bytes ≡ Some (frame_in form bytes, drop (captured_len form bytes) (drop 16 bytes))
unfolding record_at
record_whole form bytes fits few =
    let short = ltb (length bytes) (16 + captured_len form bytes) in
    let great = ltb max_captured (captured_len form bytes) in
    pick_false (short || great) None (Some (frame_in form bytes, drop (captured_len form bytes) (drop 16 bytes)))
    (either_false short great (le-ltb _ _ fits) (le-ltb _ _ few))

-- a damaged record is none, whatever follows
pub record_damaged : (form : Form) (bytes : List ℕ) → max_captured < captured_len form bytes → record_at form bytes ≡ None
unfolding record_at
record_damaged form bytes great =
    let short = ltb (length bytes) (16 + captured_len form bytes) in
    pick_true (short || ltb max_captured (captured_len form bytes)) None (Some (frame_in form bytes, drop (captured_len form bytes) (drop 16 bytes)))
    (either_true short (ltb max_captured (captured_len form bytes)) (lt-ltb _ _ great))

pub record_shorter : (form : Form) (bytes rest : List ℕ) (f : FrameContent) → record_at form bytes ≡ Some (f, rest) → length rest + 16 ≤ length bytes
record_shorter form bytes rest f is =
    let both = record_some form bytes rest f is in
    let fits = both.0 in
    let len : length (drop (captured_len form bytes) (drop 16 bytes)) ≡ length rest = ap (λ (p : FrameContent × List ℕ). length p.1) both.1 in
    omega (arith, fits, len, length-drop (captured_len form bytes) (drop 16 bytes), length-drop 16 bytes)

in_none : (n : ℕ) (form : Form) (bytes : List ℕ) → record_at form bytes ≡ None → records_in n form bytes ≡ ([], bytes)
unfolding records_in
in_none zero form bytes found = refl
in_none (suc n) form bytes found =
    ap (λ (r : Option (FrameContent × List ℕ)). option_map_or (λ r. with_frame r.0 (records_in n form r.1)) r ([], bytes)) found

in_some : (n : ℕ) (form : Form) (bytes rest : List ℕ) (f : FrameContent) → record_at form bytes ≡ Some (f, rest)
    → records_in (suc n) form bytes ≡ with_frame f (records_in n form rest)
unfolding records_in
in_some n form bytes rest f found =
    ap (λ (r : Option (FrameContent × List ℕ)). option_map_or (λ r. with_frame r.0 (records_in n form r.1)) r ([], bytes)) found

-- more records than there are bytes make no difference
enough : (n m : ℕ) (form : Form) (bytes : List ℕ) (first : Option (FrameContent × List ℕ)) → record_at form bytes ≡ first
    → length bytes ≤ n → length bytes ≤ m → records_in n form bytes ≡ records_in m form bytes
enough n m form bytes None found few more = in_none n form bytes found ∙ sym (in_none m form bytes found)
enough zero m form bytes (Some (f, rest)) found few more = absurd (omega (arith, few, record_shorter form bytes rest f found))
enough (suc n) zero form bytes (Some (f, rest)) found few more = absurd (omega (arith, more, record_shorter form bytes rest f found))
enough (suc n) (suc m) form bytes (Some (f, rest)) found few more =
    let len = record_shorter form bytes rest f found in
    in_some n form bytes rest f found
    ∙ ap (with_frame f) (enough n m form rest (record_at form rest) refl (omega (arith, few, len)) (omega (arith, more, len)))
    ∙ sym (in_some m form bytes rest f found)

of_some : (n : ℕ) (form : Form) (bytes rest : List ℕ) (f : FrameContent) → length bytes ≤ n → record_at form bytes ≡ Some (f, rest)
    → records_in n form bytes ≡ with_frame f (records_of form rest)
unfolding records_of
of_some zero form bytes rest f few found = absurd (omega (arith, few, record_shorter form bytes rest f found))
of_some (suc n) form bytes rest f few found =
    let len = record_shorter form bytes rest f found in
    in_some n form bytes rest f found
    ∙ ap (with_frame f) (enough n (length rest) form rest (record_at form rest) refl (omega (arith, few, len)) (omega arith))

-- the frames are that of the first record, and those after it
pub records_some : (form : Form) (bytes rest : List ℕ) (f : FrameContent) → record_at form bytes ≡ Some (f, rest)
    → records_of form bytes ≡ with_frame f (records_of form rest)
unfolding records_of
records_some form bytes rest f found = of_some (length bytes) form bytes rest f (omega arith) found

pub records_none : (form : Form) (bytes : List ℕ) → record_at form bytes ≡ None → records_of form bytes ≡ ([], bytes)
unfolding records_of
records_none form bytes found = in_none (length bytes) form bytes found

-- where there are none, all is behind them
pub all_behind : (form : Form) (bytes : List ℕ) (first : Option (FrameContent × List ℕ)) → record_at form bytes ≡ first
    → (records_of form bytes).0 ≡ [] → bytes ≡ (records_of form bytes).1
all_behind form bytes None found none = ap (λ (r : List FrameContent × List ℕ). r.1) (sym (records_none form bytes found))
all_behind form bytes (Some (f, rest)) found none =
    let more : (records_of form bytes).0 ≡ f ∷ (records_of form rest).0 = ap (λ (r : List FrameContent × List ℕ). r.0) (records_some form bytes rest f found) in
    absurd cc

behind_by : (n : ℕ) (form : Form) (bytes : List ℕ) (first : Option (FrameContent × List ℕ)) → record_at form bytes ≡ first → length bytes ≤ n
    → length (records_of form bytes).1 ≤ length bytes
behind_by n form bytes None found few =
    let same : length (records_of form bytes).1 ≡ length bytes = ap (λ (r : List FrameContent × List ℕ). length r.1) (records_none form bytes found) in
    omega (arith, same)
behind_by zero form bytes (Some (f, rest)) found few = absurd (omega (arith, few, record_shorter form bytes rest f found))
behind_by (suc n) form bytes (Some (f, rest)) found few =
    let len = record_shorter form bytes rest f found in
    let same : length (records_of form bytes).1 ≡ length (records_of form rest).1 = ap (λ (r : List FrameContent × List ℕ). length r.1) (records_some form bytes rest f found) in
    let ih = behind_by n form rest (record_at form rest) refl (omega (arith, few, len)) in
    omega (arith, same, ih, len)

pub behind_shorter : (form : Form) (bytes : List ℕ) → length (records_of form bytes).1 ≤ length bytes
behind_shorter form bytes = behind_by (length bytes) form bytes (record_at form bytes) refl (omega arith)
