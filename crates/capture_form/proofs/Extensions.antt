-- Headers of extension one by one.
use Rattle.std.specs.Prelude.{Bool, true, false, not, ◌&&◌, ◌||◌, if◌then◌else◌}
use Rattle.std.proofs.lemmas.Bool.{ltb-false, le-ltb, lt-ltb}
use Rattle.std.proofs.lemmas.List.{length-drop}
use Rattle.std.proofs.Common.{◌≡◌, ℕ, zero, suc, ◌+◌, ◌*◌, ◌<◌, ◌≤◌, ltb, eqb, List, [], ◌∷◌, ◌++◌, length, length-append, drop, slice_index, refl, sym, ap, ◌∙◌, arith}
use Rattle.capture_form.specs.Extensions.{Upper, PartContent, ShortContent, is_extension, extension_len, is_whole, is_part, next_kind, upper_in, upper_of, first_kind, headers_before, HeadersPassed}
use Rattle.capture_form.proofs.Choices.{pick_true, pick_false}

not_true : (b : Bool) → b ≡ true → not b ≡ false
not_true true is = refl
not_true false is = absurd cc

not_false : (b : Bool) → b ≡ false → not b ≡ true
not_false true is = absurd cc
not_false false is = refl

-- one takes eight bytes at least
either_least : (test : Bool) (x y : ℕ) → 8 ≤ x → 8 ≤ y → 8 ≤ (if test then x else y)
either_least true x y first second = first
either_least false x y first second = second

least : (kind : ℕ) (bytes : List ℕ) → 8 ≤ extension_len kind bytes
least kind bytes =
    either_least _ 8 _ (omega arith) (either_least _ ((slice_index bytes 1 + 2) * 4) ((slice_index bytes 1 + 1) * 8) (omega arith) (omega arith))

in_end : (n kind : ℕ) (bytes : List ℕ) → is_extension kind ≡ false → upper_in n kind bytes ≡ Upper kind bytes
unfolding upper_in
in_end zero kind bytes is = pick_false (is_extension kind) _ _ is
in_end (suc n) kind bytes is = pick_true (not (is_extension kind)) _ _ (not_false _ is)

in_short : (n kind : ℕ) (bytes : List ℕ) → is_extension kind ≡ true → ltb (length bytes) (extension_len kind bytes) ≡ true → upper_in n kind bytes ≡ ShortContent
unfolding upper_in
in_short zero kind bytes is short = pick_true (is_extension kind) _ _ is
in_short (suc n) kind bytes is short =
    pick_false (not (is_extension kind)) _ _ (not_true _ is) ∙ pick_true (ltb (length bytes) (extension_len kind bytes)) _ _ short

in_part : (n kind : ℕ) (bytes : List ℕ) → is_extension kind ≡ true → ltb (length bytes) (extension_len kind bytes) ≡ false → is_part kind bytes ≡ true
    → upper_in (suc n) kind bytes ≡ PartContent
unfolding upper_in
in_part n kind bytes is fits part =
    pick_false (not (is_extension kind)) _ _ (not_true _ is) ∙ pick_false (ltb (length bytes) (extension_len kind bytes)) _ _ fits
    ∙ pick_true (is_part kind bytes) _ _ part

in_passed : (n kind : ℕ) (bytes : List ℕ) → is_extension kind ≡ true → ltb (length bytes) (extension_len kind bytes) ≡ false → is_part kind bytes ≡ false
    → upper_in (suc n) kind bytes ≡ upper_in n (next_kind kind bytes) (drop (extension_len kind bytes) bytes)
unfolding upper_in
in_passed n kind bytes is fits whole =
    pick_false (not (is_extension kind)) _ _ (not_true _ is) ∙ pick_false (ltb (length bytes) (extension_len kind bytes)) _ _ fits
    ∙ pick_false (is_part kind bytes) _ _ whole

-- more headers than there are bytes make no difference
enough : (n m kind : ℕ) (bytes : List ℕ) (extends short part : Bool) → is_extension kind ≡ extends → ltb (length bytes) (extension_len kind bytes) ≡ short
    → is_part kind bytes ≡ part → length bytes ≤ n → length bytes ≤ m → upper_in n kind bytes ≡ upper_in m kind bytes
enough n m kind bytes false short part is size parted few more = in_end n kind bytes is ∙ sym (in_end m kind bytes is)
enough n m kind bytes true true part is size parted few more = in_short n kind bytes is size ∙ sym (in_short m kind bytes is size)
enough zero m kind bytes true false part is size parted few more = absurd (omega (arith, few, least kind bytes, ltb-false _ _ size))
enough (suc n) zero kind bytes true false part is size parted few more = absurd (omega (arith, more, least kind bytes, ltb-false _ _ size))
enough (suc n) (suc m) kind bytes true false true is size parted few more = in_part n kind bytes is size parted ∙ sym (in_part m kind bytes is size parted)
enough (suc n) (suc m) kind bytes true false false is size parted few more =
    let rest = drop (extension_len kind bytes) bytes in
    let len = length-drop (extension_len kind bytes) bytes in
    let some = least kind bytes in
    let fits = ltb-false _ _ size in
    in_passed n kind bytes is size parted
    ∙ enough n m (next_kind kind bytes) rest (is_extension (next_kind kind bytes)) (ltb (length rest) (extension_len (next_kind kind bytes) rest)) (is_part (next_kind kind bytes) rest)
    refl refl refl (omega (arith, few, len, some, fits)) (omega (arith, more, len, some, fits))
    ∙ sym (in_passed m kind bytes is size parted)

of_more : (n kind : ℕ) (bytes : List ℕ) → length bytes ≤ n → upper_in n kind bytes ≡ upper_of kind bytes
unfolding upper_of
of_more n kind bytes few =
    enough n (length bytes) kind bytes (is_extension kind) (ltb (length bytes) (extension_len kind bytes)) (is_part kind bytes) refl refl refl few (omega arith)

pub upper_end : (kind : ℕ) (bytes : List ℕ) → is_extension kind ≡ false → upper_of kind bytes ≡ Upper kind bytes
unfolding upper_of
upper_end kind bytes is = in_end (length bytes) kind bytes is

pub upper_short : (kind : ℕ) (bytes : List ℕ) → is_extension kind ≡ true → length bytes < extension_len kind bytes → upper_of kind bytes ≡ ShortContent
unfolding upper_of
upper_short kind bytes is short = in_short (length bytes) kind bytes is (lt-ltb _ _ short)

pub upper_none : (kind : ℕ) (bytes : List ℕ) → is_extension kind ≡ true → length bytes < 8 → upper_of kind bytes ≡ ShortContent
upper_none kind bytes is short = upper_short kind bytes is (omega (arith, short, least kind bytes))

pub upper_part : (kind : ℕ) (bytes : List ℕ) → is_extension kind ≡ true → extension_len kind bytes ≤ length bytes → is_part kind bytes ≡ true
    → upper_of kind bytes ≡ PartContent
upper_part kind bytes is fits part =
    sym (of_more (suc (length bytes)) kind bytes (omega arith)) ∙ in_part (length bytes) kind bytes is (le-ltb _ _ fits) part

pub upper_passed : (kind : ℕ) (bytes : List ℕ) → is_extension kind ≡ true → extension_len kind bytes ≤ length bytes → is_part kind bytes ≡ false
    → upper_of (next_kind kind bytes) (drop (extension_len kind bytes) bytes) ≡ upper_of kind bytes
upper_passed kind bytes is fits whole =
    let len = length-drop (extension_len kind bytes) bytes in
    sym (of_more (length bytes) (next_kind kind bytes) (drop (extension_len kind bytes) bytes) (omega (arith, len)))
    ∙ sym (in_passed (length bytes) kind bytes is (le-ltb _ _ fits) whole)
    ∙ of_more (suc (length bytes)) kind bytes (omega arith)

-- a test that tells 59 where it holds
by_test : (test : Bool) (some n : ℕ) → 0 < some → (if test then some else 0) ≡ 0 → (if test then some else n) ≡ n
by_test true some n more is = absurd (omega (arith, more, is))
by_test false some n more is = refl

-- bytes in front are dropped
drop_front : (front rest : List ℕ) → drop (length front) (front ++ rest) ≡ rest
drop_front [] rest = refl
drop_front (x ∷ front) rest = drop_front front rest

-- the number of the next header is told by the first byte alone
at_end : (kind n c : ℕ) (body : List ℕ) (b d : ℕ) → next_kind kind (0 ∷ b ∷ c ∷ d ∷ body) ≡ 0 → (more : List ℕ) → next_kind kind (n ∷ b ∷ c ∷ d ∷ more) ≡ n
at_end kind n c body b d ended more = by_test (eqb kind 43 && not (eqb d 0)) 59 n (omega arith) ended

no_part : (a b c : Bool) → (a && b) ≡ false → (a && (b && c)) ≡ false
no_part true true c is = absurd cc
no_part true false c is = refl
no_part false b c is = refl

passed_one : (kind n : ℕ) (body rest : List ℕ) → is_extension kind ≡ true → suc (length body) ≡ extension_len kind (0 ∷ body)
    → (eqb kind 44 && not (is_whole (0 ∷ body))) ≡ false
    → next_kind kind (0 ∷ body) ≡ 0 → upper_of kind ((n ∷ body) ++ rest) ≡ upper_of n rest
passed_one kind n [] rest is len whole ended = absurd (omega (arith, len, least kind (0 ∷ [])))
passed_one kind n (b ∷ []) rest is len whole ended = absurd (omega (arith, len, least kind (0 ∷ b ∷ [])))
passed_one kind n (b ∷ c ∷ []) rest is len whole ended = absurd (omega (arith, len, least kind (0 ∷ b ∷ c ∷ [])))
passed_one kind n (b ∷ c ∷ d ∷ body) rest is len whole ended =
    let all = (n ∷ b ∷ c ∷ d ∷ body) ++ rest in
    let size : extension_len kind all ≡ length (n ∷ b ∷ c ∷ d ∷ body) = sym len in
    let fits : extension_len kind all ≤ length all = omega (arith, size, length-append (n ∷ b ∷ c ∷ d ∷ body) rest) in
    sym (upper_passed kind all is fits (no_part (eqb kind 44) (not (is_whole all)) (eqb n 6 || is_extension n) whole))
    ∙ ap (λ (m : ℕ). upper_of m (drop (extension_len kind all) all)) (at_end kind n c body b d ended (body ++ rest))
    ∙ ap (λ (m : ℕ). upper_of n (drop m all)) size
    ∙ ap (upper_of n) (drop_front (n ∷ b ∷ c ∷ d ∷ body) rest)

pub headers_passed : HeadersPassed
headers_passed [] kind bytes all is = upper_end kind bytes is
headers_passed (e ∷ es) kind bytes all is =
    passed_one e.kind (first_kind es kind) e.body (headers_before es kind bytes) all.0.kind all.0.len all.0.whole all.0.ended
    ∙ headers_passed es kind bytes all.1 is
