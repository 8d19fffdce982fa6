-- Options one by one.
use Rattle.std.specs.Prelude.{Bool, true, false}
use Rattle.std.proofs.lemmas.Bool.{ltb-false, le-ltb, lt-ltb, eqb-true, eq-eqb}
use Rattle.std.proofs.lemmas.List.{length-drop}
use Rattle.std.proofs.Common.{◌≡◌, ◌≢◌, ℕ, zero, suc, ◌+◌, ◌<◌, ◌≤◌, ◌||◌, ltb, eqb, List, [], length, take, drop, refl, sym, ◌∙◌, arith}
use Rattle.capture_form.specs.declared.order.Order.{Order}
use Rattle.capture_form.specs.Numbers.{number_in}
use Rattle.capture_form.specs.Blocks.{padded, option_len, value_in, value_of}
use Rattle.capture_form.proofs.Choices.{pick_true, pick_false, or_true, or_false, either_false, either_true}

-- nothing more follows
abbrev pub is_last : Order → List ℕ → Bool
is_last o bytes = ltb (length bytes) (4 + option_len o bytes) || eqb (number_in o 2 bytes) 0

in_last : (n : ℕ) (o : Order) (code : ℕ) (bytes : List ℕ) → is_last o bytes ≡ true → value_in n o code bytes ≡ []
unfolding value_in
in_last zero o code bytes is = refl
in_last (suc n) o code bytes is = pick_true (is_last o bytes) [] _ is

in_found : (n : ℕ) (o : Order) (code : ℕ) (bytes : List ℕ) → is_last o bytes ≡ false → eqb (number_in o 2 bytes) code ≡ true
    → value_in (suc n) o code bytes ≡ take (option_len o bytes) (drop 4 bytes)
unfolding value_in
in_found n o code bytes more is = pick_false (is_last o bytes) [] _ more ∙ pick_true (eqb (number_in o 2 bytes) code) _ _ is

in_passed : (n : ℕ) (o : Order) (code : ℕ) (bytes : List ℕ) → is_last o bytes ≡ false → eqb (number_in o 2 bytes) code ≡ false
    → value_in (suc n) o code bytes ≡ value_in n o code (drop (4 + padded (option_len o bytes)) bytes)
unfolding value_in
in_passed n o code bytes more other = pick_false (is_last o bytes) [] _ more ∙ pick_false (eqb (number_in o 2 bytes) code) _ _ other

long : (o : Order) (bytes : List ℕ) → is_last o bytes ≡ false → 4 + option_len o bytes ≤ length bytes
long o bytes more = ltb-false _ _ (or_false (ltb (length bytes) (4 + option_len o bytes)) (eqb (number_in o 2 bytes) 0) more).0

-- more options than there are bytes make no difference
enough : (n m : ℕ) (o : Order) (code : ℕ) (bytes : List ℕ) (last found : Bool) → is_last o bytes ≡ last → eqb (number_in o 2 bytes) code ≡ found
    → length bytes ≤ n → length bytes ≤ m → value_in n o code bytes ≡ value_in m o code bytes
enough n m o code bytes true found is code_is few more = in_last n o code bytes is ∙ sym (in_last m o code bytes is)
enough zero m o code bytes false found is code_is few more = absurd (omega (arith, few, long o bytes is))
enough (suc n) zero o code bytes false found is code_is few more = absurd (omega (arith, more, long o bytes is))
enough (suc n) (suc m) o code bytes false true is code_is few more = in_found n o code bytes is code_is ∙ sym (in_found m o code bytes is code_is)
enough (suc n) (suc m) o code bytes false false is code_is few more =
    let rest = drop (4 + padded (option_len o bytes)) bytes in
    let len = length-drop (4 + padded (option_len o bytes)) bytes in
    let some = long o bytes is in
    in_passed n o code bytes is code_is
    ∙ enough n m o code rest (is_last o rest) (eqb (number_in o 2 rest) code) refl refl (omega (arith, few, len, some)) (omega (arith, more, len, some))
    ∙ sym (in_passed m o code bytes is code_is)

of_more : (n : ℕ) (o : Order) (code : ℕ) (bytes : List ℕ) → length bytes ≤ n → value_in n o code bytes ≡ value_of o code bytes
unfolding value_of
of_more n o code bytes few =
    enough n (length bytes) o code bytes (is_last o bytes) (eqb (number_in o 2 bytes) code) refl refl few (omega arith)

not_eqb : (a b : ℕ) (same : Bool) → eqb a b ≡ same → a ≢ b → same ≡ false
not_eqb a b true is other = absurd (other (eqb-true a b is))
not_eqb a b false is other = refl

follows : (o : Order) (bytes : List ℕ) → 4 + option_len o bytes ≤ length bytes → number_in o 2 bytes ≢ 0 → is_last o bytes ≡ false
follows o bytes fits code =
    either_false (ltb (length bytes) (4 + option_len o bytes)) (eqb (number_in o 2 bytes) 0) (le-ltb _ _ fits) (not_eqb (number_in o 2 bytes) 0 _ refl code)

pub option_short : (o : Order) (code : ℕ) (bytes : List ℕ) → length bytes < 4 + option_len o bytes → value_of o code bytes ≡ []
unfolding value_of
option_short o code bytes short =
    in_last (length bytes) o code bytes (or_true (ltb (length bytes) (4 + option_len o bytes)) (eqb (number_in o 2 bytes) 0) (lt-ltb _ _ short))

pub option_end : (o : Order) (code : ℕ) (bytes : List ℕ) → number_in o 2 bytes ≡ 0 → value_of o code bytes ≡ []
unfolding value_of
option_end o code bytes is =
    in_last (length bytes) o code bytes (either_true (ltb (length bytes) (4 + option_len o bytes)) (eqb (number_in o 2 bytes) 0) (eq-eqb _ _ is))

found_by : (n : ℕ) (o : Order) (code : ℕ) (bytes : List ℕ) → length bytes ≡ n → 4 + option_len o bytes ≤ length bytes → number_in o 2 bytes ≢ 0 → number_in o 2 bytes ≡ code
    → value_of o code bytes ≡ take (option_len o bytes) (drop 4 bytes)
found_by zero o code bytes size fits some is = absurd (omega (arith, size, fits))
found_by (suc n) o code bytes size fits some is =
    sym (of_more (suc n) o code bytes (omega (arith, size))) ∙ in_found n o code bytes (follows o bytes fits some) (eq-eqb _ _ is)

pub option_found : (o : Order) (code : ℕ) (bytes : List ℕ) → 4 + option_len o bytes ≤ length bytes → number_in o 2 bytes ≢ 0 → number_in o 2 bytes ≡ code
    → value_of o code bytes ≡ take (option_len o bytes) (drop 4 bytes)
option_found o code bytes fits some is = found_by (length bytes) o code bytes refl fits some is

passed_by : (n : ℕ) (o : Order) (code : ℕ) (bytes : List ℕ) → length bytes ≡ n → 4 + option_len o bytes ≤ length bytes → number_in o 2 bytes ≢ 0 → number_in o 2 bytes ≢ code
    → value_of o code (drop (4 + padded (option_len o bytes)) bytes) ≡ value_of o code bytes
passed_by zero o code bytes size fits some other = absurd (omega (arith, size, fits))
passed_by (suc n) o code bytes size fits some other =
    let len = length-drop (4 + padded (option_len o bytes)) bytes in
    sym (of_more n o code (drop (4 + padded (option_len o bytes)) bytes) (omega (arith, size, len, fits)))
    ∙ sym (in_passed n o code bytes (follows o bytes fits some) (not_eqb (number_in o 2 bytes) code _ refl other))
    ∙ of_more (suc n) o code bytes (omega (arith, size))

pub option_passed : (o : Order) (code : ℕ) (bytes : List ℕ) → 4 + option_len o bytes ≤ length bytes → number_in o 2 bytes ≢ 0 → number_in o 2 bytes ≢ code
    → value_of o code (drop (4 + padded (option_len o bytes)) bytes) ≡ value_of o code bytes
option_passed o code bytes fits some other = passed_by (length bytes) o code bytes refl fits some other
