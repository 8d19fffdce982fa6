-- Sections of a capture that was cut.
use Rattle.std.specs.Prelude.{Bool, true, false, not, if◌then◌else◌}
use Rattle.std.proofs.lemmas.Bool.{and_from, and_parts, ltb-false, le-ltb}
use Rattle.std.proofs.lemmas.List.{length-append, length-drop, drop-append-le, take-append-le, take-append-drop}
use Rattle.std.proofs.Common.{◌≡◌, ℕ, zero, suc, ◌-◌, ◌≤◌, ◌&&◌, ◌||◌, ltb, eqb, List, [], ◌∷◌, ◌++◌, length, take, drop, Option, Some, None, refl, sym, ap, ◌∙◌, arith}
use Rattle.capture_form.specs.declared.order.Order.{Order}
use Rattle.capture_form.specs.declared.order.Order.TheVariants.{Big, Little}
use Rattle.capture_form.specs.declared.reading.Stop.{Stop}
use Rattle.capture_form.specs.declared.reading.Stop.TheVariants.{NoCapture}
use Rattle.capture_form.specs.Numbers.{number_in}
use Rattle.capture_form.specs.Pcap.{FrameContent}
use Rattle.capture_form.specs.Blocks.{BlockContent, section_kind, is_section, order_magic, order_at, total_len, is_total, is_ended, is_whole, is_broken, block_in, block_at}
use Rattle.capture_form.specs.Sections.{SectionContent, start, after, with_rest, step_by, step_at, with_found, blocks_of, ending, sections_of}
use Rattle.capture_form.specs.SectionLaws.{CutHasFirst}
use Rattle.capture_form.proofs.Choices.{pick_true, pick_false}
use Rattle.capture_form.proofs.Cuts.{pair}
use Rattle.capture_form.proofs.Numbers.{first_bytes, field_more}
use Rattle.capture_form.proofs.Steps.{not_true, whole_parts, block_some, step_some, step_shorter, blocks_some, blocks_none}

length_more : (xs ys : List ℕ) → length xs ≤ length (xs ++ ys)
length_more xs ys = omega (arith, length-append xs ys)

pub not_less : (a b : ℕ) → b ≤ a → not (ltb a b) ≡ true
not_less a b h = ap not (le-ltb a b h)

pub whole_made : (o : Order) (bytes : List ℕ) → 12 ≤ length bytes → is_total (total_len o bytes) ≡ true → total_len o bytes ≤ length bytes → is_ended o bytes ≡ true
    → is_whole o bytes ≡ true
unfolding is_whole
whole_made o bytes head total fits ended =
    let len = total_len o bytes in
    and_from (not (ltb (length bytes) 12)) (is_total len && (not (ltb (length bytes) len) && is_ended o bytes)) (not_less (length bytes) 12 head)
    (and_from (is_total len) (not (ltb (length bytes) len) && is_ended o bytes) total
    (and_from (not (ltb (length bytes) len)) (is_ended o bytes) (not_less (length bytes) len fits) ended))

-- ---- what a block says doesn't depend on what follows it

total_more : (o : Order) (xs ys : List ℕ) → 12 ≤ length xs → total_len o (xs ++ ys) ≡ total_len o xs
total_more o xs ys h = field_more o 4 xs ys (omega (arith, h))

ended_more : (o : Order) (xs ys : List ℕ) → 12 ≤ length xs → 12 ≤ total_len o xs → total_len o xs ≤ length xs → is_ended o (xs ++ ys) ≡ is_ended o xs
ended_more o xs ys head least fits =
    ap (λ (n : ℕ). eqb (number_in o 4 (drop (n - 4) (xs ++ ys))) n) (total_more o xs ys head)
    ∙ ap (λ (n : ℕ). eqb n (total_len o xs)) (field_more o (total_len o xs - 4) xs ys (omega (arith, least, fits)))

section_more : (xs ys : List ℕ) → 4 ≤ length xs → is_section (xs ++ ys) ≡ is_section xs
section_more xs ys h =
    let long : ltb (length (xs ++ ys)) 4 ≡ false = le-ltb _ _ (omega (arith, h, length_more xs ys)) in
    let before : ltb (length xs) 4 ≡ false = le-ltb _ _ h in
    ap (λ (b : Bool). not b && eqb (number_in Big 4 (xs ++ ys)) section_kind) (long ∙ sym before)
    ∙ ap (λ (n : ℕ). not (ltb (length xs) 4) && eqb n section_kind) (first_bytes Big 4 xs ys h)

chosen : Order → Bool → ℕ → Order
chosen o section magic = if section then (if eqb magic order_magic then Big else Little) else o

pub order_more : (o : Order) (xs ys : List ℕ) → 12 ≤ length xs → order_at o (xs ++ ys) ≡ order_at o xs
unfolding chosen
order_more o xs ys h =
    ap (λ (b : Bool). chosen o b (number_in Big 4 (drop 8 (xs ++ ys)))) (section_more xs ys (omega (arith, h)))
    ∙ ap (chosen o (is_section xs)) (field_more Big 8 xs ys (omega (arith, h)))

pub whole_more : (o : Order) (xs ys : List ℕ) → is_whole o xs ≡ true → is_whole o (xs ++ ys) ≡ true
whole_more o xs ys is =
    let w = whole_parts o xs is in
    let total = total_more o xs ys w.head in
    let longer = length_more xs ys in
    whole_made o (xs ++ ys) (omega (arith, w.head, longer)) (ap is_total total ∙ w.total) (omega (arith, w.fits, total, longer))
    (ended_more o xs ys w.head w.least w.fits ∙ w.ended)

pub same_block : (kind kind' : ℕ) (body body' : List ℕ) → kind ≡ kind' → body ≡ body' → ◌≡◌ {A = BlockContent} (record { kind = kind; body = body }) (record { kind = kind'; body = body' })
same_block kind kind' body body' a b = rw (a, b) refl

pub block_more : (o : Order) (xs ys rest : List ℕ) (block : BlockContent) → block_at o xs ≡ Some (block, rest) → block_at o (xs ++ ys) ≡ Some (block, rest ++ ys)
unfolding block_at
block_more o xs ys rest block is =
    let both = block_some o xs rest block is in
    let w = whole_parts o xs both.0 in
    let len = total_len o xs in
    let total : total_len o (xs ++ ys) ≡ len = total_more o xs ys w.head in
    let kind : number_in o 4 (xs ++ ys) ≡ number_in o 4 xs = first_bytes o 4 xs ys (omega (arith, w.head)) in
    let body : take (total_len o (xs ++ ys) - 12) (drop 8 (xs ++ ys)) ≡ take (len - 12) (drop 8 xs) =
    ap (λ (n : ℕ). take (n - 12) (drop 8 (xs ++ ys))) total
    ∙ ap (take (len - 12)) (drop-append-le 8 xs ys (omega (arith, w.head)))
    ∙ take-append-le (len - 12) (drop 8 xs) ys (omega (arith, w.least, w.fits, length-drop 8 xs)) in
    let left : drop (total_len o (xs ++ ys)) (xs ++ ys) ≡ drop len xs ++ ys =
    ap (λ (n : ℕ). drop n (xs ++ ys)) total ∙ drop-append-le len xs ys w.fits in
    let made = same_block (number_in o 4 (xs ++ ys)) (number_in o 4 xs) (take (total_len o (xs ++ ys) - 12) (drop 8 (xs ++ ys))) (take (len - 12) (drop 8 xs)) kind body in
    pick_true (is_whole o (xs ++ ys)) (Some (block_in o (xs ++ ys), drop (total_len o (xs ++ ys)) (xs ++ ys))) None (whole_more o xs ys both.0)
    ∙ ap (λ (p : BlockContent × List ℕ). Some p) (pair made left)
    ∙ ap (λ (p : BlockContent × List ℕ). Some (p.0, p.1 ++ ys)) both.1

-- ---- a step stays one

pub step_more : (s : SectionContent) (xs ys rest : List ℕ) (change : SectionContent × Option FrameContent) → step_at s xs ≡ Some (change, rest)
    → step_at s (xs ++ ys) ≡ Some (change, rest ++ ys)
unfolding step_at
step_more s xs ys rest change is =
    let o = order_at s.order xs in
    let step = step_some s xs rest change is in
    let w = whole_parts o xs (block_some o xs rest step.block step.is).0 in
    ap (λ (o : Order). step_by o s (block_at o (xs ++ ys))) (order_more s.order xs ys w.head)
    ∙ ap (step_by o s) (block_more o xs ys rest step.block step.is)
    ∙ ap (with_rest (rest ++ ys)) step.changes

-- and so does a block that is damaged: one that is whole,
pub whole_block : (o : Order) (xs : List ℕ) → is_whole o xs ≡ true → block_at o xs ≡ Some (block_in o xs, drop (total_len o xs) xs)
unfolding block_at
whole_block o xs is = pick_true (is_whole o xs) (Some (block_in o xs, drop (total_len o xs) xs)) None is

no_change : (rest : List ℕ) (n : Option (SectionContent × Option FrameContent)) → with_rest rest n ≡ None → n ≡ None
no_change rest None is = refl
no_change rest (Some m) is = absurd cc

pub step_none_more : (s : SectionContent) (xs ys : List ℕ) → is_whole (order_at s.order xs) xs ≡ true → step_at s xs ≡ None → step_at s (xs ++ ys) ≡ None
unfolding step_at
step_none_more s xs ys whole is =
    let o = order_at s.order xs in
    let w = whole_parts o xs whole in
    let found = whole_block o xs whole in
    let rest = drop (total_len o xs) xs in
    let none : after o s (block_in o xs) ≡ None = no_change rest (after o s (block_in o xs)) (sym (ap (step_by o s) found) ∙ is) in
    ap (λ (o : Order). step_by o s (block_at o (xs ++ ys))) (order_more s.order xs ys w.head)
    ∙ ap (step_by o s) (block_more o xs ys rest (block_in o xs) found)
    ∙ ap (with_rest (rest ++ ys)) none

-- and one that is broken
no_block : (o : Order) (xs : List ℕ) → is_whole o xs ≡ false → block_at o xs ≡ None
unfolding block_at
no_block o xs is = pick_false (is_whole o xs) (Some (block_in o xs, drop (total_len o xs) xs)) None is

pub step_of_none : (s : SectionContent) (xs : List ℕ) → is_whole (order_at s.order xs) xs ≡ false → step_at s xs ≡ None
unfolding step_at
step_of_none s xs is = ap (step_by (order_at s.order xs) s) (no_block (order_at s.order xs) xs is)

or_cases : (a b : Bool) → (a || b) ≡ true → a ≡ false → b ≡ true
or_cases true b is other = absurd cc
or_cases false b is other = is

broken_by : (o : Order) (xs ys : List ℕ) (total whole : Bool) → is_total (total_len o xs) ≡ total → is_whole o (xs ++ ys) ≡ whole → 12 ≤ length xs
    → (not (is_total (total_len o xs)) || (not (ltb (length xs) (total_len o xs)) && not (is_ended o xs))) ≡ true → whole ≡ false
broken_by o xs ys total false t w head is = refl
broken_by o xs ys false true t w head is =
    let more = whole_parts o (xs ++ ys) w in
    let no : true ≡ false = sym more.total ∙ ap is_total (total_more o xs ys head) ∙ t in
    absurd cc
broken_by o xs ys true true t w head is =
    let more = whole_parts o (xs ++ ys) w in
    let same = total_more o xs ys head in
    let both = and_parts (not (ltb (length xs) (total_len o xs))) (not (is_ended o xs)) (or_cases (not (is_total (total_len o xs))) (not (ltb (length xs) (total_len o xs)) && not (is_ended o xs)) is (ap not t)) in
    let fits : total_len o xs ≤ length xs = ltb-false _ _ (not_true (ltb (length xs) (total_len o xs)) both.0) in
    let no : true ≡ false = sym more.ended ∙ ended_more o xs ys head (omega (arith, more.least, same)) fits ∙ not_true (is_ended o xs) both.1 in
    absurd cc

pub broken_more : (s : SectionContent) (xs ys : List ℕ) → is_broken (order_at s.order xs) xs ≡ true → step_at s (xs ++ ys) ≡ None
unfolding is_broken
broken_more s xs ys is =
    let o = order_at s.order xs in
    let both = and_parts (not (ltb (length xs) 12)) (not (is_total (total_len o xs)) || (not (ltb (length xs) (total_len o xs)) && not (is_ended o xs))) is in
    let head : 12 ≤ length xs = ltb-false _ _ (not_true (ltb (length xs) 12) both.0) in
    let no : is_whole o (xs ++ ys) ≡ false = broken_by o xs ys (is_total (total_len o xs)) (is_whole o (xs ++ ys)) refl refl head both.1 in
    step_of_none s (xs ++ ys) (ap (λ (o : Order). is_whole o (xs ++ ys)) (order_more s.order xs ys head) ∙ no)

-- ---- so the frames stay, and others may follow

HasFirst : List FrameContent → List FrameContent → Type 0
HasFirst whole first = (later : List FrameContent) × (whole ≡ first ++ later)

first_found : (f : Option FrameContent) (whole first : List FrameContent × (SectionContent × List ℕ)) → HasFirst whole.0 first.0 → HasFirst (with_found f whole).0 (with_found f first).0
unfolding HasFirst
first_found None whole first h = h
first_found (Some f) whole first h = (h.0, ap (λ (fs : List FrameContent). f ∷ fs) h.1)

has_same : (whole whole' first first' : List FrameContent) → whole ≡ whole' → first ≡ first' → HasFirst whole' first' → HasFirst whole first
unfolding HasFirst
has_same whole whole' first first' a b h = (h.0, a ∙ h.1 ∙ ap (λ (fs : List FrameContent). fs ++ h.0) (sym b))

blocks_more : (n : ℕ) (s : SectionContent) (xs ys : List ℕ) (first : Option ((SectionContent × Option FrameContent) × List ℕ)) → step_at s xs ≡ first → length xs ≤ n
    → HasFirst (blocks_of s (xs ++ ys)).0 (blocks_of s xs).0
unfolding HasFirst
blocks_more n s xs ys None found few =
    let none = blocks_none s xs found in
    ((blocks_of s (xs ++ ys)).0, ap (λ (r : List FrameContent × (SectionContent × List ℕ)). r.0 ++ (blocks_of s (xs ++ ys)).0) (sym none))
blocks_more zero s xs ys (Some ((t, f), rest)) found few = absurd (omega (arith, few, step_shorter s xs rest (t, f) found))
blocks_more (suc n) s xs ys (Some ((t, f), rest)) found few =
    let ih = blocks_more n t rest ys (step_at t rest) refl (omega (arith, few, step_shorter s xs rest (t, f) found)) in
    let whole = blocks_some s t (xs ++ ys) (rest ++ ys) f (step_more s xs ys rest (t, f) found) in
    let front = blocks_some s t xs rest f found in
    has_same (blocks_of s (xs ++ ys)).0 (with_found f (blocks_of t (rest ++ ys))).0 (blocks_of s xs).0 (with_found f (blocks_of t rest)).0
    (ap (λ (r : List FrameContent × (SectionContent × List ℕ)). r.0) whole) (ap (λ (r : List FrameContent × (SectionContent × List ℕ)). r.0) front)
    (first_found f (blocks_of t (rest ++ ys)) (blocks_of t rest) ih)

by_section : Bool → List ℕ → (List FrameContent × Bool) × Stop
by_section section bytes = if section then ending (length bytes) (blocks_of start bytes) else (([], false), NoCapture)

frames_by : (bytes : List ℕ) (section : Bool) → is_section bytes ≡ section → sections_of bytes ≡ by_section section bytes
unfolding sections_of by_section
frames_by bytes section is = ap (λ (b : Bool). if b then ending (length bytes) (blocks_of start bytes) else (([], false), NoCapture)) is

section_long : (xs : List ℕ) → is_section xs ≡ true → 4 ≤ length xs
section_long xs is = ltb-false _ _ (not_true (ltb (length xs) 4) (and_parts (not (ltb (length xs) 4)) (eqb (number_in Big 4 xs) section_kind) is).0)

first_by : (xs ys : List ℕ) (section : Bool) → is_section xs ≡ section → HasFirst (sections_of (xs ++ ys)).0.0 (sections_of xs).0.0
unfolding HasFirst by_section
first_by xs ys false is =
    let whole = (sections_of (xs ++ ys)).0.0 in
    (whole, ap (λ (r : (List FrameContent × Bool) × Stop). r.0.0 ++ whole) (sym (frames_by xs false is)))
first_by xs ys true is =
    let longer : is_section (xs ++ ys) ≡ true = section_more xs ys (section_long xs is) ∙ is in
    has_same (sections_of (xs ++ ys)).0.0 (blocks_of start (xs ++ ys)).0 (sections_of xs).0.0 (blocks_of start xs).0
    (ap (λ (r : (List FrameContent × Bool) × Stop). r.0.0) (frames_by (xs ++ ys) true longer))
    (ap (λ (r : (List FrameContent × Bool) × Stop). r.0.0) (frames_by xs true is))
    (blocks_more (length xs) start xs ys (step_at start xs) refl (omega arith))

pub cut_has_first_lem : CutHasFirst
unfolding HasFirst
cut_has_first_lem count bytes =
    let found = first_by (take count bytes) (drop count bytes) (is_section (take count bytes)) refl in
    (found.0, ap (λ (all : List ℕ). (sections_of all).0.0) (sym (take-append-drop count bytes)) ∙ found.1)
