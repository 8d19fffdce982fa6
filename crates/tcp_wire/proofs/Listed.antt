-- Options one by one.
use Rattle.std.specs.Prelude.{Bool, true, false, if◌then◌else◌, ◌==◌, IsOk, is_ok}
use Rattle.std.specs.Result.{result_unwrap_or}
use Rattle.std.proofs.Common.{◌≡◌, ℕ, zero, suc, ◌+◌, ◌≤◌, List, [], ◌∷◌, length, Option, Some, None, Result, Ok, Err, refl, sym, ap, ◌∙◌, arith}
use Rattle.tcp_wire.specs.declared.fault.DecodeError.{DecodeError}
use Rattle.tcp_wire.specs.declared.fault.DecodeError.TheVariants.{BadPadding}
use Rattle.tcp_wire.specs.Options.{OptionContent, spelling}
use Rattle.tcp_wire.specs.Decoded.{option_at, count_zeros, padding_at, with_first, options_in, options_of, IsReadable}
use Rattle.tcp_wire.proofs.OptionLaws.{option_length, spelling_length}
use Rattle.tcp_wire.proofs.AreaLaws.{is_padding, options_in_none, options_in_some}

abbrev Read : Type 0
Read = List OptionContent × ℕ

-- what can be read begins anywhere, and may have more options than it has bytes
if_elsewhere : (all : Bool) (x : Read) (e f : DecodeError) (read : Read) → (if all then Ok x else Err e) ≡ Ok read → (if all then Ok x else Err f) ≡ Ok read
if_elsewhere true x e f read is = cc
if_elsewhere false x e f read is = absurd cc

padding_elsewhere : (place other : ℕ) (bytes : List ℕ) (read : Read) → padding_at place bytes ≡ Ok read → padding_at other bytes ≡ Ok read
unfolding padding_at
padding_elsewhere place other [] read is = is
padding_elsewhere place other (zero ∷ rest) read is =
    let zeros = count_zeros (zero ∷ rest) in
    if_elsewhere (zeros == length (zero ∷ rest)) ([], length (zero ∷ rest)) (BadPadding (place + zeros)) (BadPadding (other + zeros)) read is
padding_elsewhere place other (suc b ∷ rest) read is = absurd cc

first_elsewhere : (o : OptionContent) (here there : Result Read DecodeError) (read : Read) → ((r : Read) → here ≡ Ok r → there ≡ Ok r)
    → with_first o here ≡ Ok read → with_first o there ≡ Ok read
first_elsewhere o (Ok r) there read same is = ap (with_first o) (same r refl) ∙ is
first_elsewhere o (Err e) there read same is = absurd cc

read_elsewhere : (n m place other : ℕ) (bytes : List ℕ) (first : Option (OptionContent × List ℕ)) (read : Read)
    → option_at bytes ≡ first → length bytes ≤ n → length bytes ≤ m → options_in n place bytes ≡ Ok read → options_in m other bytes ≡ Ok read
read_elsewhere n m place other bytes None read found few enough is =
    options_in_none m other bytes found ∙ padding_elsewhere place other bytes read (sym (options_in_none n place bytes found) ∙ is)
read_elsewhere zero m place other bytes (Some (o, behind)) read found few enough is =
    absurd (omega (arith, few, option_length bytes o behind found, spelling_length o))
read_elsewhere (suc n) zero place other bytes (Some (o, behind)) read found few enough is =
    absurd (omega (arith, enough, option_length bytes o behind found, spelling_length o))
read_elsewhere (suc n) (suc m) place other bytes (Some (o, behind)) read found few enough is =
    let len = option_length bytes o behind found in
    let least = spelling_length o in
    let here : Result Read DecodeError = options_in n (place + length (spelling o)) behind in
    let there : Result Read DecodeError = options_in m (other + length (spelling o)) behind in
    options_in_some m other bytes behind o found
    ∙ first_elsewhere o here there read
    (λ r e. read_elsewhere n m (place + length (spelling o)) (other + length (spelling o)) behind (option_at behind) r refl
    (omega (arith, few, len, least)) (omega (arith, enough, len, least)) e)
    (sym (options_in_some n place bytes behind o found) ∙ is)

-- an area that begins with no option has none
pub none_left : (bytes : List ℕ) → IsReadable bytes → option_at bytes ≡ None → (options_of bytes).0 ≡ []
none_left bytes reads none =
    let padding = options_in_none 40 20 bytes none in
    ap (λ (r : Result Read DecodeError). (result_unwrap_or r ([], 0)).0) (padding ∙ is_padding 20 bytes (ap is_ok (sym padding) ∙ reads))

-- and is nothing but padding
pub none_padded : (bytes : List ℕ) → IsReadable bytes → option_at bytes ≡ None → (options_of bytes).1 ≡ length bytes
none_padded bytes reads none =
    let padding = options_in_none 40 20 bytes none in
    ap (λ (r : Result Read DecodeError). (result_unwrap_or r ([], 0)).1) (padding ∙ is_padding 20 bytes (ap is_ok (sym padding) ∙ reads))

-- after its first option comes an area that can be read, with the other options and the same padding
first_and_others : (o : OptionContent) (area inner behind : Result Read DecodeError)
    → area ≡ with_first o inner → ((r : Read) → inner ≡ Ok r → behind ≡ Ok r) → IsOk area
    → IsOk behind × ((result_unwrap_or area ([], 0)).0 ≡ o ∷ (result_unwrap_or behind ([], 0)).0)
    × ((result_unwrap_or area ([], 0)).1 ≡ (result_unwrap_or behind ([], 0)).1)
first_and_others o area (Ok r) behind is same reads =
    let there = same r refl in (
      ap is_ok there,
      ap (λ (read : Result Read DecodeError). (result_unwrap_or read ([], 0)).0) is
          ∙ ap (λ (read : Result Read DecodeError). o ∷ (result_unwrap_or read ([], 0)).0) (sym there),
      ap (λ (read : Result Read DecodeError). (result_unwrap_or read ([], 0)).1) is
          ∙ ap (λ (read : Result Read DecodeError). (result_unwrap_or read ([], 0)).1) (sym there),
    )
first_and_others o area (Err e) behind is same reads = let no : false ≡ true = sym (ap is_ok is) ∙ reads in absurd cc

pub first_left : (bytes behind : List ℕ) (o : OptionContent) → length bytes ≤ 40 → IsReadable bytes → option_at bytes ≡ Some (o, behind)
    → IsReadable behind × ((options_of bytes).0 ≡ o ∷ (options_of behind).0) × ((options_of bytes).1 ≡ (options_of behind).1)
first_left bytes behind o few reads found =
    let len = option_length bytes o behind found in
    let least = spelling_length o in
    first_and_others o (options_in 40 20 bytes) (options_in 39 (20 + length (spelling o)) behind) (options_in 40 20 behind)
    (options_in_some 39 20 bytes behind o found)
    (λ r e. read_elsewhere 39 40 (20 + length (spelling o)) 20 behind (option_at behind) r refl
    (omega (arith, few, len, least)) (omega (arith, few, len, least)) e)
    reads
