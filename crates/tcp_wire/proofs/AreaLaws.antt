-- Options and padding: what is read has this spelling, what is spelled is read, and each fault is the first.
use Rattle.std.proofs.Common.{◌≡◌, ◌≢◌, ℕ, zero, suc, ◌+◌, ◌-◌, ◌<◌, ◌≤◌, true, false, eqb, List, [], ◌∷◌, ◌++◌, length, drop, get_or, replicate, Option, Some, None, Result, Ok, Err, refl, sym, ap, subst, ◌∙◌, ◌⊎◌, inl, inr, length-append, append_assoc, arith}
use Rattle.std.specs.Prelude.{Bool, ◌==◌, if◌then◌else◌, IsOk}
use Rattle.std.proofs.lemmas.Bool.Decides.{nat_tests}
use Rattle.std.proofs.lemmas.List.{length-replicate, append-nil, drop_more, drop_all}
use Rattle.tcp_wire.specs.declared.fault.DecodeError.{DecodeError}
use Rattle.tcp_wire.specs.declared.fault.DecodeError.TheVariants.{TooShort, TooLong, BadChecksum, BadOffset, BadOption, BadPadding}
use Rattle.tcp_numbers.specs.Checksum.{AreBytes}
use Rattle.tcp_wire.specs.Options.{OptionContent, spelling, spellings, IsSpellable, AreSpellable}
use Rattle.tcp_wire.specs.Fault.{IsBadOption, IsBadPadding}
use Rattle.tcp_wire.specs.Decoded.{with_option, option_at, count_zeros, padding_at, with_first, options_in}
use Rattle.tcp_wire.proofs.Bytes.{bytes_after_front}
use Rattle.tcp_wire.proofs.OptionLaws.{TakesOption, option_takes, option_again, none_spelled, spelling_length}

abbrev Read : Type 0
Read = Result (List OptionContent × ℕ) DecodeError

-- ---- zeros

-- the bytes are zeros up to a first other one
record StopsAt (bytes : List ℕ) (count : ℕ) : Type 0 where
  first : ℕ
  rest : List ℕ
  parts : bytes ≡ replicate {A = ℕ} count 0 ++ first ∷ rest
  not_zero : first ≢ 0

zeros_are : (bytes : List ℕ) → ((count_zeros bytes ≡ length bytes) × (bytes ≡ replicate {A = ℕ} (length bytes) 0)) ⊎ ((count_zeros bytes < length bytes) × StopsAt bytes (count_zeros bytes))
zeros_are [] = inl (refl, refl)
zeros_are (zero ∷ bytes) = elim (zeros_are bytes) [
  | inl all ↦ inl (ap suc all.0, ap (λ (xs : List ℕ). 0 ∷ xs) all.1)
  | inr stop ↦ inr (omega (arith, stop.0), record { first = stop.1.first; rest = stop.1.rest; parts = ap (λ (xs : List ℕ). 0 ∷ xs) stop.1.parts; not_zero = stop.1.not_zero })
]
zeros_are (suc b ∷ bytes) = inr (omega arith, record { first = suc b; rest = bytes; parts = refl; not_zero = λ e. omega arith })

zeros_stop : (n b : ℕ) (rest : List ℕ) → b ≢ 0 → count_zeros (replicate {A = ℕ} n 0 ++ b ∷ rest) ≡ n
zeros_stop zero zero rest other = absurd (other refl)
zeros_stop zero (suc b) rest other = refl
zeros_stop (suc n) b rest other = ap suc (zeros_stop n b rest other)

zeros_all : (n : ℕ) → count_zeros (replicate {A = ℕ} n 0) ≡ n
zeros_all zero = refl
zeros_all (suc n) = ap suc (zeros_all n)

is_same : (a b : ℕ) → a ≡ b → eqb a b ≡ true
is_same a b h = grind (arith, nat_tests)

isn't_same : (a b : ℕ) → a < b → eqb a b ≡ false
isn't_same a b h = grind (arith, nat_tests)

-- ---- the statement of an outcome about an area

abbrev pub Describes : ℕ → List ℕ → Result (List OptionContent × ℕ) DecodeError → Type 0
Describes start area (Ok read) = (area ≡ spellings read.0 ++ replicate {A = ℕ} read.1 0) × AreSpellable read.0
Describes start area (Err TooShort) = ⊥
Describes start area (Err TooLong) = ⊥
Describes start area (Err BadChecksum) = ⊥
Describes start area (Err BadOffset) = ⊥
Describes start area (Err (BadOption place)) = IsBadOption start area place
Describes start area (Err (BadPadding place)) = IsBadPadding start area place

padding_described : (start : ℕ) (area : List ℕ) → option_at area ≡ None → Describes start area (padding_at start area)
unfolding padding_at
padding_described start [] none = (refl, tt)
padding_described start (zero ∷ rest) none = elim (zeros_are (zero ∷ rest)) [
  | inl all ↦ rw (is_same (count_zeros (zero ∷ rest)) (length (zero ∷ rest)) all.0) (all.1, tt)
  | inr stop ↦
      let bad : IsBadPadding start (zero ∷ rest) (start + count_zeros (zero ∷ rest)) = record {
        before = [];
        zeros = count_zeros (zero ∷ rest);
        first = stop.1.first;
        rest = stop.1.rest;
        spellable = tt;
        some_zeros = omega arith;
        parts = stop.1.parts;
        place_is = omega arith;
        not_zero = stop.1.not_zero;
      } in
      rw (isn't_same (count_zeros (zero ∷ rest)) (length (zero ∷ rest)) stop.0) bad
]
padding_described start (suc b ∷ rest) none = record {
  before = [];
  first = suc b;
  rest = rest;
  spellable = tt;
  parts = refl;
  place_is = omega arith;
  not_zero = λ e. omega arith;
  none = none_spelled (suc b ∷ rest) none;
}

-- an option in front of what is described
joined : (o : OptionContent) (area behind tail : List ℕ) (os : List OptionContent) → area ≡ spelling o ++ behind → behind ≡ spellings os ++ tail → area ≡ spellings (o ∷ os) ++ tail
joined o area behind tail os is rest = is ∙ ap (λ (xs : List ℕ). spelling o ++ xs) rest ∙ sym (append_assoc (spelling o) (spellings os) tail)

place_moves : (start : ℕ) (o : OptionContent) (os : List OptionContent) (place : ℕ) → place ≡ start + length (spelling o) + length (spellings os) → place ≡ start + length (spellings (o ∷ os))
place_moves start o os place e = omega (arith, length-append (spelling o) (spellings os))

described_after : (start : ℕ) (o : OptionContent) (area behind : List ℕ) (read : Read) → TakesOption area o behind
    → Describes (start + length (spelling o)) behind read → Describes start area (with_first o read)
described_after start o area behind (Ok read) t d = (joined o area behind (replicate {A = ℕ} read.1 0) read.0 t.parts d.0, (t.spellable, d.1))
described_after start o area behind (Err TooShort) t d = d
described_after start o area behind (Err TooLong) t d = d
described_after start o area behind (Err BadChecksum) t d = d
described_after start o area behind (Err BadOffset) t d = d
described_after start o area behind (Err (BadOption place)) t d = record {
  before = o ∷ d.before;
  first = d.first;
  rest = d.rest;
  spellable = (t.spellable, d.spellable);
  parts = joined o area behind (d.first ∷ d.rest) d.before t.parts d.parts;
  place_is = place_moves start o d.before place d.place_is;
  not_zero = d.not_zero;
  none = d.none;
}
described_after start o area behind (Err (BadPadding place)) t d = record {
  before = o ∷ d.before;
  zeros = d.zeros;
  first = d.first;
  rest = d.rest;
  spellable = (t.spellable, d.spellable);
  some_zeros = d.some_zeros;
  parts = joined o area behind (replicate {A = ℕ} d.zeros 0 ++ d.first ∷ d.rest) d.before t.parts d.parts;
  place_is = omega (arith, d.place_is, length-append (spelling o) (spellings d.before));
  not_zero = d.not_zero;
}

by_option : {A B : Type 0} (P : B → Type 0) (o : Option A) (none : B) (some : A → B) → (o ≡ None → P none) → ((x : A) → o ≡ Some x → P (some x)) → P (with_option o none some)
by_option P None none some f g = f refl
by_option P (Some x) none some f g = g x refl

rest_shorter : (area behind : List ℕ) (o : OptionContent) → TakesOption area o behind → length behind < length area
rest_shorter area behind o t = omega (arith, ap length t.parts, length-append (spelling o) behind, spelling_length o)

bytes_after : (area behind : List ℕ) (o : OptionContent) → TakesOption area o behind → AreBytes area → AreBytes behind
bytes_after area behind o t fits = bytes_after_front (spelling o) behind (subst (λ (xs : List ℕ). AreBytes xs) t.parts fits)

nothing_left : (area : List ℕ) → length area ≤ 0 → option_at area ≡ None
unfolding option_at
nothing_left [] short = refl
nothing_left (b ∷ area) short = absurd (omega arith)

-- what is read of an area is what is there
pub options_described : (n start : ℕ) (area : List ℕ) → AreBytes area → length area ≤ n → length area ≤ 40 → Describes start area (options_in n start area)
unfolding options_in
options_described zero start area fits short small = padding_described start area (nothing_left area short)
options_described (suc n) start area fits short small =
    by_option (Describes start area) (option_at area) (padding_at start area) (λ found. with_first found.0 (options_in n (start + length (spelling found.0)) found.1))
    (λ none. padding_described start area none)
    (λ found is.
    let t = option_takes area found fits small is in
    let shorter = rest_shorter area found.1 found.0 t in
    described_after start found.0 area found.1 (options_in n (start + length (spelling found.0)) found.1) t
    (options_described n (start + length (spelling found.0)) found.1 (bytes_after area found.1 found.0 t fits) (omega arith) (omega arith)))

-- ---- and what is there is what is read

-- options in front of what was read after them
pub with_all : List OptionContent → Read → Read
with_all os (Ok read) = Ok (os ++ read.0, read.1)
with_all os (Err e) = Err e

pub with_all-cons : (o : OptionContent) (os : List OptionContent) (read : Read) → with_first o (with_all os read) ≡ with_all (o ∷ os) read
unfolding with_all
with_all-cons o os (Ok read) = refl
with_all-cons o os (Err e) = refl

pub with_all-nil : (read : Read) → with_all [] read ≡ read
unfolding with_all
with_all-nil (Ok read) = refl
with_all-nil (Err e) = refl

with_all-push : (os : List OptionContent) (o : OptionContent) (read : Read) → with_all os (with_first o read) ≡ with_all (os ++ o ∷ []) read
unfolding with_all
with_all-push os o (Ok read) = ap (λ (xs : List OptionContent). Ok (xs, read.1)) (sym (append_assoc os (o ∷ []) read.0))
with_all-push os o (Err e) = refl

-- after spelled options the reading continues at the rest
options_in_front : (n start : ℕ) (os : List OptionContent) (rest : List ℕ) → AreSpellable os → length os ≤ n
    → options_in n start (spellings os ++ rest) ≡ with_all os (options_in (n - length os) (start + length (spellings os)) rest)
unfolding options_in
options_in_front n start [] rest s room =
    let a : n - 0 ≡ n = omega arith in
    let b : start + 0 ≡ start = omega arith in
    sym (with_all-nil (options_in (n - 0) (start + 0) rest) ∙ ap (λ (k : ℕ). options_in k (start + 0) rest) a ∙ ap (λ (k : ℕ). options_in n k rest) b)
options_in_front zero start (o ∷ os) rest s room = absurd (omega arith)
options_in_front (suc n) start (o ∷ os) rest s room =
    let grouped : spellings (o ∷ os) ++ rest ≡ spelling o ++ (spellings os ++ rest) = append_assoc (spelling o) (spellings os) rest in
    let found = option_again o (spellings os ++ rest) s.0 in
    let place : start + length (spelling o) + length (spellings os) ≡ start + length (spellings (o ∷ os)) = omega (arith, length-append (spelling o) (spellings os)) in
    let left : suc n - length (o ∷ os) ≡ n - length os = omega arith in
    ap (options_in (suc n) start) grouped
    ∙ rw found refl
    ∙ ap (with_first o) (options_in_front n (start + length (spelling o)) os rest s.1 (omega arith))
    ∙ with_all-cons o os (options_in (n - length os) (start + length (spelling o) + length (spellings os)) rest)
    ∙ ap (λ (k : ℕ). with_all (o ∷ os) (options_in (n - length os) k rest)) place
    ∙ ap (λ (k : ℕ). with_all (o ∷ os) (options_in k (start + length (spellings (o ∷ os))) rest)) (sym left)

pub options_few : (os : List OptionContent) → length os ≤ length (spellings os)
options_few [] = omega arith
options_few (o ∷ os) = omega (arith, options_few os, spelling_length o, length-append (spelling o) (spellings os))

-- where no option is in front, the rest is padding or a fault
pub options_in_none : (n place : ℕ) (rest : List ℕ) → option_at rest ≡ None → options_in n place rest ≡ padding_at place rest
unfolding options_in
options_in_none zero place rest none = refl
options_in_none (suc n) place rest none = rw none refl

-- an option in front, and those after it
pub options_in_some : (n place : ℕ) (bytes behind : List ℕ) (o : OptionContent) → option_at bytes ≡ Some (o, behind)
    → options_in (suc n) place bytes ≡ with_first o (options_in n (place + length (spelling o)) behind)
unfolding options_in
options_in_some n place bytes behind o found =
    ap (λ (r : Option (OptionContent × List ℕ)).
    with_option r (padding_at place bytes) (λ x. with_first x.0 (options_in n (place + length (spelling x.0)) x.1))) found

none_at_zeros : (n : ℕ) (rest : List ℕ) → option_at (replicate {A = ℕ} (suc n) 0 ++ rest) ≡ None
unfolding option_at
none_at_zeros n rest = refl

padding_zeros : (place n : ℕ) → padding_at place (replicate {A = ℕ} n 0) ≡ Ok ([], n)
unfolding padding_at
padding_zeros place zero = refl
padding_zeros place (suc n) =
    let len : length (replicate {A = ℕ} (suc n) 0) ≡ suc n = length-replicate {A = ℕ} (suc n) 0 in
    let all : count_zeros (replicate {A = ℕ} (suc n) 0) ≡ length (replicate {A = ℕ} (suc n) 0) = zeros_all (suc n) ∙ sym len in
    rw (is_same (count_zeros (replicate {A = ℕ} (suc n) 0)) (length (replicate {A = ℕ} (suc n) 0)) all) (ap (λ (k : ℕ). Ok ([], k)) len)

none_at_end : (n : ℕ) → option_at (replicate {A = ℕ} n 0) ≡ None
unfolding option_at
none_at_end zero = refl
none_at_end (suc n) = refl

pub options_complete : (n start pad : ℕ) (os : List OptionContent) → AreSpellable os → length (spellings os) ≤ n
    → options_in n start (spellings os ++ replicate {A = ℕ} pad 0) ≡ Ok (os, pad)
unfolding with_all
options_complete n start pad os s room =
    let few = options_few os in
    options_in_front n start os (replicate {A = ℕ} pad 0) s (omega arith)
    ∙ ap (with_all os) (options_in_none (n - length os) (start + length (spellings os)) (replicate {A = ℕ} pad 0) (none_at_end pad) ∙ padding_zeros (start + length (spellings os)) pad)
    ∙ ap (λ (xs : List OptionContent). Ok (xs, pad)) (append-nil os)

padding_stops : (place n b : ℕ) (rest : List ℕ) → b ≢ 0 → padding_at place (replicate {A = ℕ} (suc n) 0 ++ b ∷ rest) ≡ Err (BadPadding (place + suc n))
unfolding padding_at
padding_stops place n b rest other =
    let bytes : List ℕ = replicate {A = ℕ} (suc n) 0 ++ b ∷ rest in
    let count : count_zeros bytes ≡ suc n = zeros_stop (suc n) b rest other in
    let shorter : count_zeros bytes < length bytes = omega (arith, count, length-append (replicate {A = ℕ} (suc n) 0) (b ∷ rest), length-replicate {A = ℕ} (suc n) 0) in
    rw (isn't_same (count_zeros bytes) (length bytes) shorter) (ap (λ (k : ℕ). Err (BadPadding (place + k))) count)

padding_other : (place b : ℕ) (rest : List ℕ) → b ≢ 0 → padding_at place (b ∷ rest) ≡ Err (BadOption place)
unfolding padding_at
padding_other place zero rest other = absurd (other refl)
padding_other place (suc b) rest other = refl

-- no option is read where none is spelled
none_found : (rest : List ℕ) → AreBytes rest → length rest ≤ 40 → ((o : OptionContent) (behind : List ℕ) → IsSpellable o → rest ≢ spelling o ++ behind)
    → (r : Option (OptionContent × List ℕ)) → option_at rest ≡ r → option_at rest ≡ None
none_found rest fits short none None e = e
none_found rest fits short none (Some found) e =
    let t = option_takes rest found fits short e in
    absurd (none found.0 found.1 t.spellable t.parts)

none_read : (rest : List ℕ) → AreBytes rest → length rest ≤ 40 → ((o : OptionContent) (behind : List ℕ) → IsSpellable o → rest ≢ spelling o ++ behind) → option_at rest ≡ None
none_read rest fits short none = none_found rest fits short none (option_at rest) refl

pub bad_option_read : (n start : ℕ) (area : List ℕ) (place : ℕ) → AreBytes area → length area ≤ n → length area ≤ 40 → IsBadOption start area place → options_in n start area ≡ Err (BadOption place)
unfolding with_all
bad_option_read n start area place fits short small bad =
    let rest : List ℕ = bad.first ∷ bad.rest in
    let len = ap length bad.parts ∙ length-append (spellings bad.before) rest in
    let few = options_few bad.before in
    let rest_fits = bytes_after_front (spellings bad.before) rest (subst (λ (xs : List ℕ). AreBytes xs) bad.parts fits) in
    let none = none_read rest rest_fits (omega arith) bad.none in
    ap (options_in n start) bad.parts
    ∙ options_in_front n start bad.before rest bad.spellable (omega arith)
    ∙ ap (with_all bad.before) (options_in_none (n - length bad.before) (start + length (spellings bad.before)) rest none ∙ padding_other (start + length (spellings bad.before)) bad.first bad.rest bad.not_zero)
    ∙ ap (λ (k : ℕ). Err (BadOption k)) (sym bad.place_is)

padding_from : (place n b : ℕ) (rest : List ℕ) → 1 ≤ n → b ≢ 0 → padding_at place (replicate {A = ℕ} n 0 ++ b ∷ rest) ≡ Err (BadPadding (place + n))
padding_from place zero b rest some other = absurd (omega arith)
padding_from place (suc n) b rest some other = padding_stops place n b rest other

none_from : (n : ℕ) (rest : List ℕ) → 1 ≤ n → option_at (replicate {A = ℕ} n 0 ++ rest) ≡ None
none_from zero rest some = absurd (omega arith)
none_from (suc n) rest some = none_at_zeros n rest

pub bad_padding_read : (n start : ℕ) (area : List ℕ) (place : ℕ) → length area ≤ n → IsBadPadding start area place → options_in n start area ≡ Err (BadPadding place)
unfolding with_all
bad_padding_read n start area place short bad =
    let rest : List ℕ = replicate {A = ℕ} bad.zeros 0 ++ bad.first ∷ bad.rest in
    let len = ap length bad.parts ∙ length-append (spellings bad.before) rest in
    let few = options_few bad.before in
    ap (options_in n start) bad.parts
    ∙ options_in_front n start bad.before rest bad.spellable (omega arith)
    ∙ ap (with_all bad.before) (options_in_none (n - length bad.before) (start + length (spellings bad.before)) rest (none_from bad.zeros (bad.first ∷ bad.rest) bad.some_zeros) ∙ padding_from (start + length (spellings bad.before)) bad.zeros bad.first bad.rest bad.some_zeros bad.not_zero)
    ∙ ap (λ (k : ℕ). Err (BadPadding k)) (sym bad.place_is)

-- ---- as the code finds it: by the offset of the first other byte

pub zeros_more : (bytes : List ℕ) (i : ℕ) → i < length bytes → get_or bytes i 0 ≡ 0 → i + count_zeros (drop i bytes) ≡ count_zeros bytes → i + 1 + count_zeros (drop (i + 1) bytes) ≡ count_zeros bytes
zeros_more bytes i inside none before =
    let first : drop i bytes ≡ 0 ∷ drop (i + 1) bytes = drop_more bytes i 0 inside ∙ ap (λ (x : ℕ). x ∷ drop (i + 1) bytes) none in
    omega (arith, before, ap count_zeros first)

zeros_nonzero : (b : ℕ) (rest : List ℕ) → b ≢ 0 → count_zeros (b ∷ rest) ≡ 0
zeros_nonzero zero rest other = absurd (other refl)
zeros_nonzero (suc b) rest other = refl

pub zeros_end : (bytes : List ℕ) (i : ℕ) → i < length bytes → get_or bytes i 0 ≢ 0 → i + count_zeros (drop i bytes) ≡ count_zeros bytes → count_zeros bytes ≡ i
zeros_end bytes i inside other before =
    let none = ap count_zeros (drop_more bytes i 0 inside) ∙ zeros_nonzero (get_or bytes i 0) (drop (i + 1) bytes) other in
    omega (arith, before, none)

pub padding_ok : (place : ℕ) (bytes : List ℕ) → count_zeros bytes ≡ length bytes → padding_at place bytes ≡ Ok ([], length bytes)
unfolding padding_at
padding_ok place [] all = refl
padding_ok place (zero ∷ rest) all = rw (is_same (count_zeros (zero ∷ rest)) (length (zero ∷ rest)) all) refl
padding_ok place (suc b ∷ rest) all = absurd (omega arith)

-- what can be read where no further option is spelled is zeros
if_read : (all : Bool) (x : List OptionContent × ℕ) (e : DecodeError) → IsOk (if all then Ok x else Err e) → (if all then Ok x else Err e) ≡ Ok x
if_read true x e read = refl
if_read false x e read = absurd cc

pub is_padding : (place : ℕ) (bytes : List ℕ) → IsOk (padding_at place bytes) → padding_at place bytes ≡ Ok ([], length bytes)
unfolding padding_at
is_padding place [] read = refl
is_padding place (zero ∷ rest) read =
    if_read (count_zeros (zero ∷ rest) == length (zero ∷ rest)) ([], length (zero ∷ rest)) (BadPadding (place + count_zeros (zero ∷ rest))) read
is_padding place (suc b ∷ rest) read = absurd cc

pub read_behind : (os : List OptionContent) (read : Read) → IsOk (with_all os read) → IsOk read
unfolding with_all
read_behind os (Ok read) ok = refl
read_behind os (Err e) ok = ok

pub padding_option : (place : ℕ) (bytes : List ℕ) → 0 < length bytes → count_zeros bytes ≡ 0 → padding_at place bytes ≡ Err (BadOption place)
unfolding padding_at
padding_option place [] some none = absurd (omega arith)
padding_option place (zero ∷ rest) some none = absurd (omega arith)
padding_option place (suc b ∷ rest) some none = refl

pub padding_fault : (place i : ℕ) (bytes : List ℕ) → count_zeros bytes ≡ i → 0 < i → i < length bytes → padding_at place bytes ≡ Err (BadPadding (place + i))
unfolding padding_at
padding_fault place i [] is some short = absurd (omega arith)
padding_fault place i (zero ∷ rest) is some short = rw (isn't_same (count_zeros (zero ∷ rest)) (length (zero ∷ rest)) (omega arith)) (ap (λ (k : ℕ). Err (BadPadding (place + k))) is)
padding_fault place i (suc b ∷ rest) is some short = absurd (omega arith)

-- what was read and what is still to be read, one option on
pub options_more : (n start : ℕ) (os : List OptionContent) (o : OptionContent) (bytes behind : List ℕ) (total : Result (List OptionContent × ℕ) DecodeError)
    → option_at bytes ≡ Some (o, behind) → with_all os (options_in (suc n) start bytes) ≡ total → with_all (os ++ o ∷ []) (options_in n (start + length (spelling o)) behind) ≡ total
options_more n start os o bytes behind total found before =
    sym (with_all-push os o (options_in n (start + length (spelling o)) behind))
    ∙ sym (ap (with_all os) (options_in_some n start bytes behind o found)) ∙ before

-- and at the end
pub options_end : (n start : ℕ) (os : List OptionContent) (bytes : List ℕ) (total : Result (List OptionContent × ℕ) DecodeError)
    → option_at bytes ≡ None → with_all os (options_in n start bytes) ≡ total → with_all os (padding_at start bytes) ≡ total
options_end n start os bytes total none before = ap (with_all os) (sym (options_in_none n start bytes none)) ∙ before

pub options_padded : (start pad : ℕ) (os : List OptionContent) (bytes : List ℕ) (total : Result (List OptionContent × ℕ) DecodeError)
    → with_all os (padding_at start bytes) ≡ total → padding_at start bytes ≡ Ok ([], pad) → total ≡ Ok (os, pad)
unfolding with_all
options_padded start pad os bytes total before pads = sym before ∙ ap (with_all os) pads ∙ ap (λ (xs : List OptionContent). Ok (xs, pad)) (append-nil os)

pub zeros_done : (bytes : List ℕ) (i : ℕ) → length bytes ≤ i → i ≤ length bytes → i + count_zeros (drop i bytes) ≡ count_zeros bytes → count_zeros bytes ≡ length bytes
zeros_done bytes i past within before = omega (arith, before, ap count_zeros (drop_all i bytes past))
