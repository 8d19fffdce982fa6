-- Options, read one after another.
use Rattle.std.specs.Prelude.{Bool, true, false, ◌||◌, if◌then◌else◌, IsOk, is_ok}
use Rattle.std.specs.Result.{result_unwrap_or}
use Rattle.std.proofs.lemmas.Bool.{le-ltb}
use Rattle.std.proofs.lemmas.Bool.Decides.{nat_tests}
use Rattle.std.proofs.Common.{◌≡◌, ℕ, zero, suc, ◌+◌, ◌-◌, ◌<◌, ◌≤◌, ◌⊎◌, inl, inr, ltb, eqb, get_or, List, [], ◌∷◌, ◌++◌, length, map, take, drop, Some, None, Result, Ok, Err, MatchResult, refl, sym, ap, subst, ◌∙◌, add-zero, arith}
use Rattle.std.proofs.lemmas.List.{map_push, length-append, length-take, length-drop}
use Rattle.tcp_wire.specs.declared.fault.DecodeError.{DecodeError}
use Rattle.tcp_wire.specs.declared.option.TcpOption.{TcpOption}
use Rattle.tcp_wire.specs.Options.{OptionContent, Nop, spelling, spellings}
use Rattle.tcp_wire.specs.Decoded.{option_of, first_option, option_at, padding_at, with_first, options_in, options_of, IsReadable}
use Rattle.tcp_wire.specs.View.{option_content, BodyIs, BodiesLie}
use Rattle.tcp_wire.proofs.OptionLaws.{option_length, option_of_length, spelling_length, spellings_push}
use Rattle.tcp_wire.proofs.AreaLaws.{with_all, with_all-nil, is_padding, read_behind, options_in_none, options_in_some, options_more, options_end, options_padded}

-- what was read and what is still to be read give the whole, and there is room for an option a byte
abbrev pub OptionsRead : List TcpOption → List ℕ → List ℕ → Type 0
OptionsRead options rest area =
    (with_all (map option_content options) (options_in (40 - length options) (20 + (length area - length rest)) rest) ≡ options_in 40 20 area)
    × (length options + length rest ≤ length area)

pub options_start : (options : List TcpOption) (area : List ℕ) → options ≡ [] → OptionsRead options area area
options_start options area none =
    let place : 20 + (length area - length area) ≡ 20 = omega arith in
    let len : length options ≡ 0 = ap length none in
    let fuel : 40 - length options ≡ 40 = omega arith in (
      ap (λ (os : List TcpOption). with_all (map option_content os) (options_in (40 - length options) (20 + (length area - length area)) area)) none
          ∙ with_all-nil (options_in (40 - length options) (20 + (length area - length area)) area)
          ∙ ap (λ (n : ℕ). options_in n (20 + (length area - length area)) area) fuel
          ∙ ap (λ (n : ℕ). options_in 40 n area) place,
      omega arith,
    )

pub options_step : (options pushed : List TcpOption) (o : TcpOption) (rest behind area : List ℕ) → length area ≤ 40 → option_at rest ≡ Some (option_content o, behind)
    → pushed ≡ options ++ o ∷ [] → OptionsRead options rest area → OptionsRead pushed behind area
options_step options pushed o rest behind area small found pushed_is before =
    let len = option_length rest (option_content o) behind found in
    let least = spelling_length (option_content o) in
    let count : length pushed ≡ length options + 1 = ap length pushed_is ∙ length-append options (o ∷ []) in
    let room = before.1 in
    let fuel : 40 - length options ≡ suc (40 - length pushed) = omega arith in
    let place : 20 + (length area - length rest) + length (spelling (option_content o)) ≡ 20 + (length area - length behind) = omega arith in
    let total = options_in 40 20 area in
    let start : with_all (map option_content options) (options_in (suc (40 - length pushed)) (20 + (length area - length rest)) rest) ≡ total =
    sym (ap (λ (n : ℕ). with_all (map option_content options) (options_in n (20 + (length area - length rest)) rest)) fuel) ∙ before.0 in
    let step = options_more (40 - length pushed) (20 + (length area - length rest)) (map option_content options) (option_content o) rest behind total found start in
    let mapped : map option_content pushed ≡ map option_content options ++ option_content o ∷ [] = ap (map option_content) pushed_is ∙ map_push option_content options o in (
      ap (λ (os : List OptionContent). with_all os (options_in (40 - length pushed) (20 + (length area - length behind)) behind)) mapped
          ∙ sym (ap (λ (n : ℕ). with_all (map option_content options ++ option_content o ∷ []) (options_in (40 - length pushed) n behind)) place)
          ∙ step,
      omega arith,
    )

pub options_done : (options : List TcpOption) (rest area : List ℕ) → option_at rest ≡ None → OptionsRead options rest area → IsReadable area
    → options_in 40 20 area ≡ Ok (map option_content options, length rest)
options_done options rest area none before reads =
    let place : ℕ = 20 + (length area - length rest) in
    let os = map option_content options in
    let end = options_end (40 - length options) place os rest (options_in 40 20 area) none before.0 in
    options_padded place (length rest) os rest (options_in 40 20 area) end
    (is_padding place rest (read_behind os (padding_at place rest) (ap is_ok end ∙ reads)))

-- so its options were listed, and as many zeros are left
pub listed_all : (options : List TcpOption) (rest area : List ℕ) → option_at rest ≡ None → OptionsRead options rest area → IsReadable area
    → (map option_content options, length rest) ≡ options_of area
listed_all options rest area none before reads =
    sym (ap (λ (r : Result (List OptionContent × ℕ) DecodeError). result_unwrap_or r ([], 0)) (options_done options rest area none before reads))

-- ---- where the bodies lie

pub bodies_push : (address : ℕ × ℕ) (options : List TcpOption) (o : TcpOption) → BodiesLie address options
    → BodyIs (address.0, address.1 + length (spellings (map option_content options)) + 2) o → BodiesLie address (options ++ o ∷ [])
bodies_push address [] o lie is = (subst (λ (n : ℕ). BodyIs (address.0, n + 2) o) (add-zero address.1) is, tt)
bodies_push address (x ∷ options) o lie is =
    let place : address.1 + length (spellings (map option_content (x ∷ options))) ≡ address.1 + length (spelling (option_content x)) + length (spellings (map option_content options)) =
    omega (arith, length-append (spelling (option_content x)) (spellings (map option_content options))) in
    (lie.0, bodies_push (address.0, address.1 + length (spelling (option_content x))) options o lie.1 (subst (λ (n : ℕ). BodyIs (address.0, n + 2) o) place is))

-- what was read lies in front of what is still to be read
abbrev pub ReadUpTo : ℕ × ℕ → List TcpOption → ℕ × ℕ → Type 0
ReadUpTo start options rest = BodiesLie start options × (rest ≡ (start.0, start.1 + length (spellings (map option_content options))))

pub read_up_to_more : (start rest behind : ℕ × ℕ) (options pushed : List TcpOption) (o : TcpOption) → pushed ≡ options ++ o ∷ []
    → BodyIs (rest.0, rest.1 + 2) o → behind ≡ (rest.0, rest.1 + length (spelling (option_content o))) → ReadUpTo start options rest → ReadUpTo start pushed behind
read_up_to_more start rest behind options pushed o pushed_is body rest_is before =
    let there : BodyIs (start.0, start.1 + length (spellings (map option_content options)) + 2) o = subst (λ (p : ℕ × ℕ). BodyIs (p.0, p.1 + 2) o) before.1 body in
    let all = ap (λ (os : List TcpOption). length (spellings (map option_content os))) pushed_is in
    let more : length (spellings (map option_content pushed)) ≡ length (spellings (map option_content options)) + length (spelling (option_content o)) =
    all ∙ ap (λ (os : List OptionContent). length (spellings os)) (map_push option_content options o) ∙ ap length (spellings_push (map option_content options) (option_content o)) ∙ length-append (spellings (map option_content options)) (spelling (option_content o)) in
    let moved : behind ≡ (start.0, start.1 + length (spellings (map option_content options)) + length (spelling (option_content o))) =
    rest_is ∙ ap (λ (p : ℕ × ℕ). (p.0, p.1 + length (spelling (option_content o)))) before.1 in
    let sum : start.1 + length (spellings (map option_content options)) + length (spelling (option_content o)) ≡ start.1 + length (spellings (map option_content pushed)) = omega (arith, more) in (
      subst (λ (os : List TcpOption). BodiesLie start os) (sym pushed_is) (bodies_push start options o before.0 there),
      moved ∙ ap (λ (n : ℕ). (start.0, n)) sum,
    )

pub read_up_to_start : (start : ℕ × ℕ) (options : List TcpOption) → options ≡ [] → ReadUpTo start options start
read_up_to_start start options none =
    let place : start.1 ≡ start.1 + length (spellings (map option_content options)) = omega (arith, ap (λ (os : List TcpOption). length (spellings (map option_content os))) none) in
    (subst (λ (os : List TcpOption). BodiesLie start os) (sym none) tt, ap (λ (n : ℕ). (start.0, n)) place)

-- ---- without a list

pub checked_none : (at : ℕ) (bytes : List ℕ) → options_in 0 at bytes ≡ padding_at at bytes
unfolding options_in
checked_none at bytes = refl

pub checked_end : (n at : ℕ) (bytes : List ℕ) → option_at bytes ≡ None → options_in n at bytes ≡ padding_at at bytes
checked_end n at bytes none = options_in_none n at bytes none

pub checked_more : (n at : ℕ) (bytes behind : List ℕ) (o : OptionContent) → 1 ≤ n → option_at bytes ≡ Some (o, behind)
    → options_in n at bytes ≡ with_first o (options_in (n - 1) (at + (length bytes - length behind)) behind)
checked_more n at bytes behind o some found =
    let count : n ≡ suc (n - 1) = omega arith in
    let len = option_length bytes o behind found in
    let place : at + length (spelling o) ≡ at + (length bytes - length behind) = omega (arith, len) in
    ap (λ (k : ℕ). options_in k at bytes) count
    ∙ options_in_some (n - 1) at bytes behind o found
    ∙ ap (λ (p : ℕ). with_first o (options_in (n - 1) p behind)) place

-- a check of these options and what comes after them
abbrev pub Checks : {A : Type 0} → Result A DecodeError → Result (List OptionContent × ℕ) DecodeError → Type 0
Checks r read = MatchResult r (λ u. IsOk read) (λ e. read ≡ Err e)

pub checked_first : {A : Type 0} (r : Result A DecodeError) (o : OptionContent) (inner outer : Result (List OptionContent × ℕ) DecodeError) → outer ≡ with_first o inner
    → Checks r inner → Checks r outer
checked_first (Ok u) o (Ok read) outer is inside = ap is_ok is
checked_first (Ok u) o (Err e) outer is inside = absurd cc
checked_first (Err e) o inner outer is fails = is ∙ ap (with_first o) fails

zeros_checked : {A : Type 0} (r : Result A DecodeError) (read : Result (List OptionContent × ℕ) DecodeError) (pad : ℕ)
    → MatchResult r (λ u. read ≡ Ok ([], pad)) (λ e. read ≡ Err e) → Checks r read
zeros_checked (Ok u) read pad zeros = ap is_ok zeros
zeros_checked (Err e) read pad fails = fails

pub checked_padding : {A : Type 0} (r : Result A DecodeError) (n at : ℕ) (bytes : List ℕ) → (n ≡ 0) ⊎ (option_at bytes ≡ None)
    → MatchResult r (λ u. padding_at at bytes ≡ Ok ([], length bytes)) (λ e. padding_at at bytes ≡ Err e) → Checks r (options_in n at bytes)
checked_padding r zero at bytes ended zeros = subst (Checks r) (sym (checked_none at bytes)) (zeros_checked r (padding_at at bytes) (length bytes) zeros)
checked_padding r (suc n) at bytes (inl none) zeros = absurd (omega (arith, none))
checked_padding r (suc n) at bytes (inr none) zeros =
    subst (Checks r) (sym (options_in_none (suc n) at bytes none)) (zeros_checked r (padding_at at bytes) (length bytes) zeros)

pub checked_behind : {A : Type 0} (r : Result A DecodeError) (n at len : ℕ) (bytes behind : List ℕ) (o : OptionContent) → 1 ≤ n → len ≤ length bytes
    → option_at bytes ≡ Some (o, drop len bytes) → behind ≡ drop len bytes → Checks r (options_in (n - 1) (at + len) behind) → Checks r (options_in n at bytes)
checked_behind r n at len bytes behind o some inside found is checked =
    let place : at + (length bytes - length behind) ≡ at + len = omega (arith, ap length is, length-drop len bytes) in
    checked_first r o (options_in (n - 1) (at + len) behind) (options_in n at bytes)
    (checked_more n at bytes behind o some (found ∙ ap (λ (xs : List ℕ). Some (o, xs)) (sym is))
    ∙ ap (λ (k : ℕ). with_first o (options_in (n - 1) k behind)) place)
    checked

-- ---- how long the first option is

or_true : (b : Bool) → (b || true) ≡ true
or_true true = refl
or_true false = refl

is_beyond : (n len : ℕ) → n + 2 < len → ltb (n + 2) len ≡ true
is_beyond n len past = grind (arith, nat_tests)

drop-two : (len kind : ℕ) (rest : List ℕ) → 2 ≤ len → drop len (kind ∷ len ∷ rest) ≡ drop (len - 2) rest
drop-two zero kind rest least = absurd (omega (arith, least))
drop-two (suc zero) kind rest least = absurd (omega (arith, least))
drop-two (suc (suc n)) kind rest least = let same : suc (suc n) - 2 ≡ n = omega arith in ap (λ (m : ℕ). drop m rest) (sym same)

pub no_first : (bytes : List ℕ) → (length bytes ≡ 0) ⊎ (get_or bytes 0 0 ≡ 0) → option_at bytes ≡ None
unfolding option_at
no_first [] none = refl
no_first (zero ∷ rest) none = refl
no_first (suc k ∷ rest) (inl none) = absurd (omega (arith, none))
no_first (suc k ∷ rest) (inr none) = absurd (omega (arith, none))

pub nop_first : (bytes : List ℕ) → get_or bytes 0 0 ≡ 1 → option_at bytes ≡ Some (first_option 1 bytes, drop 1 bytes)
unfolding option_at
nop_first [] one = absurd (omega (arith, one))
nop_first (zero ∷ rest) one = absurd (omega (arith, one))
nop_first (suc zero ∷ rest) one = refl
nop_first (suc (suc k) ∷ rest) one = absurd (omega (arith, one))

pub short_first : (bytes : List ℕ) → (get_or bytes 0 0 ≡ 1 → ⊥) → (length bytes < 2) ⊎ ((get_or bytes 1 0 < 2) ⊎ (length bytes < get_or bytes 1 0)) → option_at bytes ≡ None
unfolding option_at
short_first [] other short = refl
short_first (zero ∷ rest) other short = refl
short_first (suc zero ∷ rest) other short = absurd (other refl)
short_first (suc (suc k) ∷ []) other short = refl
short_first (suc (suc k) ∷ len ∷ rest) other (inl short) = absurd (omega (arith, short))
short_first (suc (suc k) ∷ len ∷ rest) other (inr (inl small)) =
    let low : ltb len 2 ≡ true = grind (arith, nat_tests, small) in
    rw low refl
short_first (suc (suc k) ∷ len ∷ rest) other (inr (inr past)) =
    let beyond : ltb (length rest + 2) len ≡ true = is_beyond (length rest) len (omega (arith, past)) in
    rw (beyond, or_true (ltb len 2)) refl

pub long_first : (bytes : List ℕ) → (get_or bytes 0 0 ≡ 0 → ⊥) → (get_or bytes 0 0 ≡ 1 → ⊥) → 2 ≤ get_or bytes 1 0 → 2 ≤ length bytes → get_or bytes 1 0 ≤ length bytes
    → option_at bytes ≡ Some (first_option (get_or bytes 1 0) bytes, drop (get_or bytes 1 0) bytes)
unfolding option_at
long_first [] zero' one least two inside = absurd (omega (arith, two))
long_first (zero ∷ rest) zero' one least two inside = absurd (zero' refl)
long_first (suc zero ∷ rest) zero' one least two inside = absurd (one refl)
long_first (suc (suc k) ∷ []) zero' one least two inside = absurd (omega (arith, two))
long_first (suc (suc k) ∷ len ∷ rest) zero' one least two inside =
    let enough : ltb len 2 ≡ false = le-ltb _ _ least in
    let within : ltb (length rest + 2) len ≡ false = le-ltb _ _ (omega (arith, inside)) in
    let more : eqb len 1 ≡ false = grind (arith, nat_tests, least) in
    let behind : drop len (suc (suc k) ∷ len ∷ rest) ≡ drop (len - 2) rest = drop-two len (suc (suc k)) rest least in
    rw (enough, within, more) (ap (λ (xs : List ℕ). Some (option_of (suc (suc k)) (take (len - 2) rest), xs)) (sym behind))

-- and it is what it spells
spelled_as : (single : Bool) (len : ℕ) (bytes : List ℕ) → (single ≡ true → len ≡ 1) → (single ≡ false → 2 ≤ len) → len ≤ length bytes
    → length (spelling (if single then Nop else option_of (get_or bytes 0 0) (take (len - 2) (drop 2 bytes)))) ≡ len
spelled_as true len bytes one more inside = sym (one refl)
spelled_as false len bytes one more inside =
    option_of_length (get_or bytes 0 0) (take (len - 2) (drop 2 bytes))
    ∙ omega (arith, more refl, inside, length-take (len - 2) (drop 2 bytes), length-drop 2 bytes)

pub spelled_first : (len : ℕ) (bytes : List ℕ) → 1 ≤ len → len ≤ length bytes → length (spelling (first_option len bytes)) ≡ len
spelled_first len bytes least inside = spelled_as (eqb len 1) len bytes (λ e. grind (arith, nat_tests, e)) (λ e. grind (arith, nat_tests, e, least)) inside
