-- One option: what is read has this spelling, and what is spelled is read again.
use Rattle.std.proofs.Common.{◌≡◌, ℕ, zero, suc, ◌+◌, ◌-◌, ◌*◌, ◌/◌, ◌^◌, ◌<◌, ◌≤◌, Bool, true, false, cond, ltb, eqb, ◌&&◌, ◌||◌, List, [], ◌∷◌, ◌++◌, length, take, drop, map, get_or, Some, None, refl, sym, ap, subst, ◌∙◌, ◌⊎◌, inl, inr, length-append, append_assoc, arith}
use Rattle.std.specs.List.{flat_map, AllByRecursion}
use Rattle.std.proofs.lemmas.Bool.{le-ltb, ltb-false}
use Rattle.std.proofs.lemmas.Bool.Decides.{nat_tests}
use Rattle.std.proofs.lemmas.List.{take_at, drop_at, take-append-drop, length-take, length-drop, nil_from_length, append-nil}
use Rattle.byteorder.specs.Endian.{big_from, big_bytes}
use Rattle.tcp_numbers.specs.Checksum.{AreBytes}
use Rattle.tcp_wire.specs.Options.{OptionContent, Nop, Mss, WindowScale, SackPermitted, Sack, Unknown, block_bytes, spelling, spellings, has_own_length, IsBlock, IsSpellable, AreSpellable}
use Rattle.tcp_wire.specs.Decoded.{blocks_in, known_option, option_of, option_at}
use Rattle.tcp_wire.proofs.Bytes.{bytes_cons, bytes_nil, bytes_tail, bytes_append, bytes_drop, bytes_take, bytes_two, bytes_four, next_two, next_four, next_one}

-- ---- blocks

pub blocks_length : (n : ℕ) (body : List ℕ) → length (blocks_in n body) ≡ n
blocks_length zero body = refl
blocks_length (suc n) body = ap suc (blocks_length n (drop 8 body))

number_fits : (i : ℕ) (body : List ℕ) → AreBytes body → big_from i 4 body < 2 ^ 32
number_fits i body fits = let a = fits i in let b = fits (suc i) in let c = fits (suc (suc i)) in let d = fits (suc (suc (suc i))) in omega arith

blocks_fit : (n : ℕ) (body : List ℕ) → AreBytes body → AllByRecursion IsBlock (blocks_in n body)
blocks_fit zero body fits = tt
blocks_fit (suc n) body fits = ((number_fits 0 body fits, number_fits 4 body fits), blocks_fit n (drop 8 body) (bytes_drop 8 body fits))

blocks_spelled : (n : ℕ) (body : List ℕ) → AreBytes body → length body ≡ 8 * n → flat_map block_bytes (blocks_in n body) ≡ body
blocks_spelled zero body fits len = sym (nil_from_length body (omega arith))
blocks_spelled (suc n) body fits len =
    let rest = blocks_spelled n (drop 8 body) (bytes_drop 8 body fits) (omega (arith, length-drop 8 body)) in
    let left = next_four 0 body (big_from 0 4 body) fits (omega arith) refl in
    let right = next_four 4 body (big_from 4 4 body) fits (omega arith) refl in
    ap (λ (xs : List ℕ). block_bytes (big_from 0 4 body, big_from 4 4 body) ++ xs) rest
    ∙ sym (left ∙ ap (λ (xs : List ℕ). big_bytes 4 (big_from 0 4 body) ++ xs) right)

number_again : (n : ℕ) (rest : List ℕ) → n < 2 ^ 32 → big_from 0 4 (big_bytes 4 n ++ rest) ≡ n
number_again n rest small = omega arith

pub blocks_bytes_length : (blocks : List (ℕ × ℕ)) → length (flat_map block_bytes blocks) ≡ 8 * length blocks
blocks_bytes_length [] = refl
blocks_bytes_length (b ∷ blocks) = let ih = blocks_bytes_length blocks in omega (arith, ih)

rebuilt_pair : (b : ℕ × ℕ) (x y : ℕ) → x ≡ b.0 → y ≡ b.1 → (x, y) ≡ b
rebuilt_pair b x y e f = ap (λ (k : ℕ). (k, y)) e ∙ ap (λ (k : ℕ). (b.0, k)) f

blocks_again : (blocks : List (ℕ × ℕ)) → AllByRecursion IsBlock blocks → blocks_in (length blocks) (flat_map block_bytes blocks) ≡ blocks
blocks_again [] fits = refl
blocks_again (b ∷ blocks) fits =
    let left : big_from 0 4 (flat_map block_bytes (b ∷ blocks)) ≡ b.0 = number_again b.0 (big_bytes 4 b.1 ++ flat_map block_bytes blocks) fits.0.0 in
    let right : big_from 4 4 (flat_map block_bytes (b ∷ blocks)) ≡ b.1 = number_again b.1 (flat_map block_bytes blocks) fits.0.1 in
    let first = rebuilt_pair b (big_from 0 4 (flat_map block_bytes (b ∷ blocks))) (big_from 4 4 (flat_map block_bytes (b ∷ blocks))) left right in
    ap (λ (x : ℕ × ℕ). x ∷ blocks_in (length blocks) (flat_map block_bytes blocks)) first
    ∙ ap (λ (xs : List (ℕ × ℕ)). b ∷ xs) (blocks_again blocks fits.1)

-- ---- kinds and their own lengths

IsOwnLength : ℕ → ℕ → Type 0
IsOwnLength kind len =
    ((kind ≡ 2) × (len ≡ 4)) ⊎ ((kind ≡ 3) × (len ≡ 3)) ⊎ ((kind ≡ 4) × (len ≡ 2))
    ⊎ ((kind ≡ 5) × ((len ≡ 10) ⊎ (len ≡ 18) ⊎ (len ≡ 26) ⊎ (len ≡ 34)))

either : (a b : Bool) → (a || b) ≡ true → (a ≡ true) ⊎ (b ≡ true)
either true b e = inl refl
either false b e = inr e

both : (a b : Bool) → (a && b) ≡ true → (a ≡ true) × (b ≡ true)
both true b e = (refl, e)
both false b e = absurd cc

same : (a b : ℕ) → eqb a b ≡ true → a ≡ b
same a b e = grind (arith, nat_tests)

pair : (kind len k l : ℕ) → (eqb kind k && eqb len l) ≡ true → (kind ≡ k) × (len ≡ l)
pair kind len k l e = let p = both (eqb kind k) (eqb len l) e in (same kind k p.0, same len l p.1)

own_length : (kind len : ℕ) → has_own_length kind len ≡ true → IsOwnLength kind len
unfolding IsOwnLength
own_length kind len e =
    elim (either (((eqb kind 2 && eqb len 4) || (eqb kind 3 && eqb len 3)) || (eqb kind 4 && eqb len 2)) (eqb kind 5 && (((eqb len 10 || eqb len 18) || eqb len 26) || eqb len 34)) e) [
      | inl front ↦ elim (either ((eqb kind 2 && eqb len 4) || (eqb kind 3 && eqb len 3)) (eqb kind 4 && eqb len 2) front) [
        | inl two ↦ elim (either (eqb kind 2 && eqb len 4) (eqb kind 3 && eqb len 3) two) [
          | inl mss ↦ inl (pair kind len 2 4 mss)
          | inr scale ↦ inr (inl (pair kind len 3 3 scale))
        ]
        | inr permitted ↦ inr (inr (inl (pair kind len 4 2 permitted)))
      ]
      | inr sack ↦
          let p = both (eqb kind 5) (((eqb len 10 || eqb len 18) || eqb len 26) || eqb len 34) sack in
          inr (inr (inr (
            same kind 5 p.0,
            elim (either ((eqb len 10 || eqb len 18) || eqb len 26) (eqb len 34) p.1) [
              | inl three ↦ elim (either (eqb len 10 || eqb len 18) (eqb len 26) three) [
                | inl two ↦ elim (either (eqb len 10) (eqb len 18) two) [
                  | inl one ↦ inl (same len 10 one)
                  | inr other ↦ inr (inl (same len 18 other))
                ]
                | inr last ↦ inr (inr (inl (same len 26 last)))
              ]
              | inr last ↦ inr (inr (inr (same len 34 last)))
            ],
          )))
    ]

-- the option of a kind and a body is spelled by them, and can be
pub record IsSpelledBy (option : OptionContent) (kind : ℕ) (body : List ℕ) : Type 0 where
  pub bytes : spelling option ≡ kind ∷ (length body + 2) ∷ body
  pub spellable : IsSpellable option

two_bytes : (body : List ℕ) → AreBytes body → length body ≡ 2 → big_bytes 2 (big_from 0 2 body) ≡ body
two_bytes body fits len =
    let none : drop 2 body ≡ [] = nil_from_length (drop 2 body) (omega (arith, length-drop 2 body)) in
    sym (next_two 0 body (big_from 0 2 body) fits (omega arith) refl ∙ ap (λ (xs : List ℕ). big_bytes 2 (big_from 0 2 body) ++ xs) none)

one_byte : (body : List ℕ) → length body ≡ 1 → get_or body 0 0 ∷ [] ≡ body
one_byte body len =
    let none : drop 1 body ≡ [] = nil_from_length (drop 1 body) (omega (arith, length-drop 1 body)) in
    sym (next_one 0 body (get_or body 0 0) (omega arith) refl ∙ ap (λ (xs : List ℕ). get_or body 0 0 ∷ xs) none)

mss_spelled : (body : List ℕ) → AreBytes body → length body + 2 ≡ 4 → IsSpelledBy (known_option 2 body) 2 body
mss_spelled body fits len =
    let a = fits 0 in let b = fits 1 in
    record {
      bytes = ap (λ (xs : List ℕ). 2 ∷ 4 ∷ xs) (two_bytes body fits (omega arith)) ∙ ap (λ (n : ℕ). 2 ∷ n ∷ body) (sym len);
      spellable = omega arith;
    }

scale_spelled : (body : List ℕ) → AreBytes body → length body + 2 ≡ 3 → IsSpelledBy (known_option 3 body) 3 body
scale_spelled body fits len = record {
  bytes = ap (λ (xs : List ℕ). 3 ∷ 3 ∷ xs) (one_byte body (omega arith)) ∙ ap (λ (n : ℕ). 3 ∷ n ∷ body) (sym len);
  spellable = fits 0;
}

permitted_spelled : (body : List ℕ) → length body + 2 ≡ 2 → IsSpelledBy (known_option 4 body) 4 body
permitted_spelled body len = record {
  bytes = ap (λ (xs : List ℕ). 4 ∷ 2 ∷ xs) (sym (nil_from_length body (omega arith))) ∙ ap (λ (n : ℕ). 4 ∷ n ∷ body) (sym len);
  spellable = tt;
}

sack_spelled : (n : ℕ) (body : List ℕ) → AreBytes body → 1 ≤ n → n ≤ 4 → length body + 2 ≡ 8 * n + 2 → IsSpelledBy (known_option 5 body) 5 body
sack_spelled n body fits some few len =
    let count : length body / 8 ≡ n = omega arith in
    let blocks : List (ℕ × ℕ) = blocks_in (length body / 8) body in
    let length_is : length blocks ≡ n = blocks_length (length body / 8) body ∙ count in
    let body_is : flat_map block_bytes blocks ≡ body = blocks_spelled (length body / 8) body fits (omega arith) in
    record {
      bytes = ap (λ (xs : List ℕ). 5 ∷ (8 * length blocks + 2) ∷ xs) body_is ∙ ap (λ (m : ℕ). 5 ∷ m ∷ body) (ap (λ (k : ℕ). 8 * k + 2) length_is ∙ sym len);
      spellable = (omega (arith, length_is), omega (arith, length_is), blocks_fit (length body / 8) body fits);
    }

with_kind : (kind known : ℕ) (body : List ℕ) → kind ≡ known → IsSpelledBy (known_option known body) known body → IsSpelledBy (known_option kind body) kind body
with_kind kind known body e s = subst (λ (k : ℕ). IsSpelledBy (known_option k body) k body) (sym e) s

known_spelled : (kind : ℕ) (body : List ℕ) → AreBytes body → IsOwnLength kind (length body + 2) → IsSpelledBy (known_option kind body) kind body
unfolding IsOwnLength
known_spelled kind body fits (inl mss) = with_kind kind 2 body mss.0 (mss_spelled body fits mss.1)
known_spelled kind body fits (inr (inl scale)) = with_kind kind 3 body scale.0 (scale_spelled body fits scale.1)
known_spelled kind body fits (inr (inr (inl permitted))) = with_kind kind 4 body permitted.0 (permitted_spelled body permitted.1)
known_spelled kind body fits (inr (inr (inr sack))) = with_kind kind 5 body sack.0 (elim sack.1 [
  | inl one ↦ sack_spelled 1 body fits (omega arith) (omega arith) one
  | inr (inl two) ↦ sack_spelled 2 body fits (omega arith) (omega arith) two
  | inr (inr (inl three)) ↦ sack_spelled 3 body fits (omega arith) (omega arith) three
  | inr (inr (inr four)) ↦ sack_spelled 4 body fits (omega arith) (omega arith) four
])

by_test : {A : Type 0} (P : A → Type 0) (b : Bool) (x y : A) → (b ≡ true → P x) → (b ≡ false → P y) → P (cond b x y)
by_test P true x y f g = f refl
by_test P false x y f g = g refl

pub option_of_spelled : (kind : ℕ) (body : List ℕ) → 2 ≤ kind → kind < 256 → length body ≤ 38 → AreBytes body → IsSpelledBy (option_of kind body) kind body
option_of_spelled kind body least most short fits =
    by_test (λ (o : OptionContent). IsSpelledBy o kind body) (has_own_length kind (length body + 2)) (known_option kind body) (Unknown kind body)
    (λ own. known_spelled kind body fits (own_length kind (length body + 2) own))
    (λ other. record { bytes = refl; spellable = (least, most, short, fits, other) })

-- ---- the option in front

-- what is read from the front is a spelling there
pub record TakesOption (bytes : List ℕ) (option : OptionContent) (behind : List ℕ) : Type 0 where
  pub parts : bytes ≡ spelling option ++ behind
  pub spellable : IsSpellable option

abbrev Found : Type 0
Found = OptionContent × List ℕ

some_is : (x y : Found) → Some x ≡ Some y → x ≡ y
some_is x y e = cc

guarded : (b : Bool) (x y : Found) → cond b None (Some x) ≡ Some y → (b ≡ false) × (x ≡ y)
guarded true x y e = absurd cc
guarded false x y e = (refl, cc)

neither : (a b : Bool) → (a || b) ≡ false → (a ≡ false) × (b ≡ false)
neither true b e = absurd cc
neither false b e = (refl, e)

pub option_takes : (bytes : List ℕ) (r : Found) → AreBytes bytes → length bytes ≤ 40 → option_at bytes ≡ Some r → TakesOption bytes r.0 r.1
unfolding option_at
option_takes [] r fits short e = absurd cc
option_takes (zero ∷ rest) r fits short e = absurd cc
option_takes (suc zero ∷ rest) r fits short e =
    subst (λ (x : Found). TakesOption (1 ∷ rest) x.0 x.1) (some_is (Nop, rest) r e) (record { parts = refl; spellable = tt })
option_takes (suc (suc k) ∷ []) r fits short e = absurd cc
option_takes (suc (suc k) ∷ len ∷ rest) r fits short e =
    let kind : ℕ = suc (suc k) in
    let body : List ℕ = take (len - 2) rest in
    let behind : List ℕ = drop (len - 2) rest in
    let g = guarded (ltb len 2 || ltb (length rest + 2) len) (option_of kind body, behind) r e in
    let n = neither (ltb len 2) (ltb (length rest + 2) len) g.0 in
    let least : 2 ≤ len = ltb-false _ _ n.0 in
    let inside : len ≤ length rest + 2 = ltb-false _ _ n.1 in
    let body_len : length body + 2 ≡ len = omega (arith, length-take (len - 2) rest) in
    let rest_fits = bytes_tail len rest (bytes_tail kind (len ∷ rest) fits) in
    let s = option_of_spelled kind body (omega arith) (fits 0) (omega (arith, body_len)) (bytes_take (len - 2) rest rest_fits) in
    let parts : kind ∷ len ∷ rest ≡ spelling (option_of kind body) ++ behind =
    ap (λ (xs : List ℕ). kind ∷ len ∷ xs) (sym (take-append-drop (len - 2) rest))
    ∙ ap (λ (m : ℕ). kind ∷ m ∷ (body ++ behind)) (sym body_len)
    ∙ ap (λ (xs : List ℕ). xs ++ behind) (sym s.bytes) in
    subst (λ (x : Found). TakesOption (kind ∷ len ∷ rest) x.0 x.1) g.1 (record { parts = parts; spellable = s.spellable })

-- a spelling with a length byte is read as the option of its kind and body
framed : (k : ℕ) (body behind : List ℕ) → option_at (suc (suc k) ∷ (length body + 2) ∷ (body ++ behind)) ≡ Some (option_of (suc (suc k)) body, behind)
unfolding option_at
framed k body behind =
    let least : ltb (length body + 2) 2 ≡ false = le-ltb _ _ (omega arith) in
    let inside : ltb (length (body ++ behind) + 2) (length body + 2) ≡ false = le-ltb _ _ (omega (arith, length-append body behind)) in
    let len : length body + 2 - 2 ≡ length body = omega arith in
    rw (least, inside, len, take_at body behind (length body) refl, drop_at body behind (length body) refl) refl

found_again : (o : OptionContent) (k : ℕ) (body behind : List ℕ) → spelling o ≡ suc (suc k) ∷ (length body + 2) ∷ body → option_of (suc (suc k)) body ≡ o
    → option_at (spelling o ++ behind) ≡ Some (o, behind)
found_again o k body behind bytes is =
    ap (λ (xs : List ℕ). option_at (xs ++ behind)) bytes ∙ framed k body behind ∙ ap (λ (x : OptionContent). Some (x, behind)) is

-- the length byte of 1 to 4 blocks is its own
sack_length : (n : ℕ) → 1 ≤ n → n ≤ 4 → has_own_length 5 (8 * n + 2) ≡ true
sack_length zero some few = absurd (omega arith)
sack_length (suc zero) some few = refl
sack_length (suc (suc zero)) some few = refl
sack_length (suc (suc (suc zero))) some few = refl
sack_length (suc (suc (suc (suc zero)))) some few = refl
sack_length (suc (suc (suc (suc (suc n))))) some few = absurd (omega arith)

sack_again : (blocks : List (ℕ × ℕ)) → 1 ≤ length blocks → length blocks ≤ 4 → AllByRecursion IsBlock blocks → option_of 5 (flat_map block_bytes blocks) ≡ Sack blocks
sack_again blocks some few fits =
    let len : length (flat_map block_bytes blocks) ≡ 8 * length blocks = blocks_bytes_length blocks in
    let own : has_own_length 5 (length (flat_map block_bytes blocks) + 2) ≡ true = ap (λ (n : ℕ). has_own_length 5 (n + 2)) len ∙ sack_length (length blocks) some few in
    let count : length (flat_map block_bytes blocks) / 8 ≡ length blocks = omega (arith, len) in
    let again : blocks_in (length (flat_map block_bytes blocks) / 8) (flat_map block_bytes blocks) ≡ blocks = ap (λ (n : ℕ). blocks_in n (flat_map block_bytes blocks)) count ∙ blocks_again blocks fits in
    rw own (ap (λ (bs : List (ℕ × ℕ)). Sack bs) again)

mss_again : (n : ℕ) → n < 2 ^ 16 → big_from 0 2 (big_bytes 2 n) ≡ n
mss_again n small = omega arith

-- what is spelled is read again, whatever follows
pub option_again : (o : OptionContent) (behind : List ℕ) → IsSpellable o → option_at (spelling o ++ behind) ≡ Some (o, behind)
unfolding option_at
option_again Nop behind s = refl
option_again (Mss n) behind s = found_again (Mss n) 0 (big_bytes 2 n) behind refl (ap (λ (m : ℕ). Mss m) (mss_again n s))
option_again (WindowScale n) behind s = found_again (WindowScale n) 1 (n ∷ []) behind refl refl
option_again SackPermitted behind s = found_again SackPermitted 2 [] behind refl refl
option_again (Sack blocks) behind s =
    found_again (Sack blocks) 3 (flat_map block_bytes blocks) behind (ap (λ (n : ℕ). 5 ∷ (n + 2) ∷ flat_map block_bytes blocks) (sym (blocks_bytes_length blocks))) (sack_again blocks s.0 s.1 s.2)
option_again (Unknown zero body) behind s = absurd (omega (arith, s.0))
option_again (Unknown (suc zero) body) behind s = absurd (omega (arith, s.0))
option_again (Unknown (suc (suc k)) body) behind s = found_again (Unknown (suc (suc k)) body) k body behind refl (rw s.4 refl)

-- where no option is read, none is spelled
pub none_spelled : (bytes : List ℕ) → option_at bytes ≡ None → (o : OptionContent) (behind : List ℕ) → IsSpellable o → bytes ≡ spelling o ++ behind → ⊥
none_spelled bytes none o behind s is =
    let some : option_at bytes ≡ Some (o, behind) = ap option_at is ∙ option_again o behind s in
    absurd cc

-- ---- spellings are bytes

blocks_bytes : (blocks : List (ℕ × ℕ)) → AreBytes (flat_map block_bytes blocks)
blocks_bytes [] = bytes_nil
blocks_bytes (b ∷ blocks) = bytes_four b.0 (big_bytes 4 b.1 ++ flat_map block_bytes blocks) (bytes_four b.1 (flat_map block_bytes blocks) (blocks_bytes blocks))

spelling_bytes : (o : OptionContent) → IsSpellable o → AreBytes (spelling o)
spelling_bytes Nop s = bytes_cons 1 [] (omega arith) bytes_nil
spelling_bytes (Mss n) s = bytes_cons 2 (4 ∷ big_bytes 2 n) (omega arith) (bytes_cons 4 (big_bytes 2 n) (omega arith) (bytes_two n [] bytes_nil))
spelling_bytes (WindowScale n) s = bytes_cons 3 (3 ∷ n ∷ []) (omega arith) (bytes_cons 3 (n ∷ []) (omega arith) (bytes_cons n [] (omega arith) bytes_nil))
spelling_bytes SackPermitted s = bytes_cons 4 (2 ∷ []) (omega arith) (bytes_cons 2 [] (omega arith) bytes_nil)
spelling_bytes (Sack blocks) s =
    bytes_cons 5 ((8 * length blocks + 2) ∷ flat_map block_bytes blocks) (omega arith) (bytes_cons (8 * length blocks + 2) (flat_map block_bytes blocks) (omega (arith, s.1)) (blocks_bytes blocks))
spelling_bytes (Unknown kind body) s =
    bytes_cons kind ((length body + 2) ∷ body) (omega (arith, s.1)) (bytes_cons (length body + 2) body (omega (arith, s.2)) s.3)

pub spellings_bytes : (os : List OptionContent) → AreSpellable os → AreBytes (spellings os)
spellings_bytes [] s = bytes_nil
spellings_bytes (o ∷ os) s = bytes_append (spelling o) (spellings os) (spelling_bytes o s.0) (spellings_bytes os s.1)

-- an option takes a byte or more
pub spelling_length : (o : OptionContent) → 1 ≤ length (spelling o)
spelling_length Nop = omega arith
spelling_length (Mss n) = omega arith
spelling_length (WindowScale n) = omega arith
spelling_length SackPermitted = omega arith
spelling_length (Sack blocks) = omega arith
spelling_length (Unknown kind body) = omega arith

-- ---- lists of options, as loops go over them

-- a block more is read
pub blocks_more : (rest : List ℕ) → 8 ≤ length rest → blocks_in (length rest / 8) rest ≡ (big_from 0 4 rest, big_from 4 4 rest) ∷ blocks_in (length (drop 8 rest) / 8) (drop 8 rest)
blocks_more rest long =
    let count : length rest / 8 ≡ suc (length (drop 8 rest) / 8) = omega (arith, length-drop 8 rest) in
    ap (λ (n : ℕ). blocks_in n rest) count

pub blocks_end : (rest : List ℕ) → length rest < 8 → blocks_in (length rest / 8) rest ≡ []
blocks_end rest short = let none : length rest / 8 ≡ 0 = omega arith in ap (λ (n : ℕ). blocks_in n rest) none

pub all_push : {A : Type 0} (P : A → Type 0) (xs : List A) (y : A) → AllByRecursion P xs → P y → AllByRecursion P (xs ++ y ∷ [])
all_push P [] y all py = (py, tt)
all_push P (x ∷ xs) y all py = (all.0, all_push P xs y all.1 py)

-- the item at an index of a list that is mapped
pub all_at : {A B : Type 0} (P : B → Type 0) (f : A → B) (xs : List A) (i : ℕ) (d : A) → AllByRecursion P (map f xs) → i < length xs → P (f (get_or xs i d))
all_at P f [] i d all inside = absurd (omega arith)
all_at P f (x ∷ xs) zero d all inside = all.0
all_at P f (x ∷ xs) (suc i) d all inside = all_at P f xs i d all.1 (omega arith)

pub spellings_push : (os : List OptionContent) (o : OptionContent) → spellings (os ++ o ∷ []) ≡ spellings os ++ spelling o
spellings_push [] o = append-nil (spelling o)
spellings_push (x ∷ os) o = ap (λ (xs : List ℕ). spelling x ++ xs) (spellings_push os o) ∙ sym (append_assoc (spelling x) (spellings os) (spelling o))

pub blocks_push : (bs : List (ℕ × ℕ)) (b : ℕ × ℕ) → flat_map block_bytes (bs ++ b ∷ []) ≡ flat_map block_bytes bs ++ block_bytes b
blocks_push [] b = refl
blocks_push (x ∷ bs) b = ap (λ (xs : List ℕ). block_bytes x ++ xs) (blocks_push bs b) ∙ sym (append_assoc (block_bytes x) (flat_map block_bytes bs) (block_bytes b))

-- what is spelled up to an index and at it is no more than the whole
pub spellings_room : {A : Type 0} (f : A → OptionContent) (xs : List A) (i : ℕ) (d : A) → i < length xs
    → length (spellings (map f (take i xs))) + length (spelling (f (get_or xs i d))) ≤ length (spellings (map f xs))
spellings_room f [] i d inside = absurd (omega arith)
spellings_room f (x ∷ xs) zero d inside = omega (arith, length-append (spelling (f x)) (spellings (map f xs)))
spellings_room f (x ∷ xs) (suc i) d inside =
    let rest = spellings_room f xs i d (omega arith) in
    omega (arith, rest, length-append (spelling (f x)) (spellings (map f xs)), length-append (spelling (f x)) (spellings (map f (take i xs))))

pub sack_spelling_length : (blocks : List (ℕ × ℕ)) → length (spelling (Sack blocks)) ≡ 8 * length blocks + 2
sack_spelling_length blocks = omega (arith, blocks_bytes_length blocks)

-- ---- the length of what is read, whatever the cells are

sack_length_of : (body : List ℕ) → (n : ℕ) × (length body + 2 ≡ 8 * n + 2) → length (spelling (known_option 5 body)) ≡ length body + 2
sack_length_of body (n, len) = omega (arith, sack_spelling_length (blocks_in (length body / 8) body), blocks_length (length body / 8) body)

known_length : (kind : ℕ) (body : List ℕ) → IsOwnLength kind (length body + 2) → length (spelling (known_option kind body)) ≡ length body + 2
unfolding IsOwnLength
known_length kind body (inl mss) = subst (λ (k : ℕ). length (spelling (known_option k body)) ≡ length body + 2) (sym mss.0) (sym mss.1)
known_length kind body (inr (inl scale)) = subst (λ (k : ℕ). length (spelling (known_option k body)) ≡ length body + 2) (sym scale.0) (sym scale.1)
known_length kind body (inr (inr (inl permitted))) = subst (λ (k : ℕ). length (spelling (known_option k body)) ≡ length body + 2) (sym permitted.0) (sym permitted.1)
known_length kind body (inr (inr (inr sack))) =
    subst (λ (k : ℕ). length (spelling (known_option k body)) ≡ length body + 2) (sym sack.0) (sack_length_of body (elim sack.1 [
      | inl one ↦ (1, one)
      | inr (inl two) ↦ (2, two)
      | inr (inr (inl three)) ↦ (3, three)
      | inr (inr (inr four)) ↦ (4, four)
    ]))

pub option_of_length : (kind : ℕ) (body : List ℕ) → length (spelling (option_of kind body)) ≡ length body + 2
option_of_length kind body =
    by_test (λ (o : OptionContent). length (spelling o) ≡ length body + 2) (has_own_length kind (length body + 2)) (known_option kind body) (Unknown kind body)
    (λ own. known_length kind body (own_length kind (length body + 2) own))
    (λ other. omega arith)

pub option_length : (bytes : List ℕ) (o : OptionContent) (behind : List ℕ) → option_at bytes ≡ Some (o, behind) → length bytes ≡ length (spelling o) + length behind
unfolding option_at
option_length [] o behind e = absurd cc
option_length (zero ∷ rest) o behind e = absurd cc
option_length (suc zero ∷ rest) o behind e =
    subst (λ (x : Found). length (1 ∷ rest) ≡ length (spelling x.0) + length x.1) (some_is (Nop, rest) (o, behind) e) (omega arith)
option_length (suc (suc k) ∷ []) o behind e = absurd cc
option_length (suc (suc k) ∷ len ∷ rest) o behind e =
    let kind : ℕ = suc (suc k) in
    let body : List ℕ = take (len - 2) rest in
    let after : List ℕ = drop (len - 2) rest in
    let g = guarded (ltb len 2 || ltb (length rest + 2) len) (option_of kind body, after) (o, behind) e in
    let n = neither (ltb len 2) (ltb (length rest + 2) len) g.0 in
    let least : 2 ≤ len = ltb-false _ _ n.0 in
    let inside : len ≤ length rest + 2 = ltb-false _ _ n.1 in
    subst (λ (x : Found). length (kind ∷ len ∷ rest) ≡ length (spelling x.0) + length x.1) g.1
    (omega (arith, option_of_length kind body, length-take (len - 2) rest, length-drop (len - 2) rest))
