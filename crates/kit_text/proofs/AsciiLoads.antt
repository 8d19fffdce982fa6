-- Where the first byte above 7f is, behind loads that have none.
use Rattle.std.proofs.Common.{◌≡◌, ℕ, zero, suc, ◌+◌, ◌-◌, ◌≤◌, ltb, Bool, true, false, List, [], ◌∷◌, length, take, drop, refl, sym, ap, ◌∙◌, arith, length-drop, drop-drop}
use Rattle.std.specs.List.{position_or_len, list_all}
use Rattle.std.proofs.lemmas.Bool.{and_parts, ltb-true}

low_fails : (x : ℕ) → ltb x 128 ≡ true → ltb 127 x ≡ false
low_fails x low = go (ltb 127 x) refl
  where
    go : (b : Bool) → ltb 127 x ≡ b → b ≡ false
    go true p = absurd (omega (arith, ltb-true 127 x p, ltb-true x 128 low))
    go false p = refl

pub first_behind : (n : ℕ) (text : List ℕ) → n ≤ length text → list_all (λ b. ltb b 128) (take n text) ≡ true
    → position_or_len (λ x. ltb 127 x) text ≡ n + position_or_len (λ x. ltb 127 x) (drop n text)
first_behind zero text inside all = omega arith
first_behind (suc n) [] inside all = absurd (omega arith)
first_behind (suc n) (x ∷ text) inside all =
    let parts = and_parts (ltb x 128) _ all in
    let more = first_behind n text (omega arith) parts.1 in
    rw (low_fails x parts.0) (omega (arith, more))

-- a load more
pub load_passed : (i : ℕ) (text part : List ℕ) → 64 ≤ length text - i → part ≡ drop i text → list_all (λ b. ltb b 128) (take 64 part) ≡ true
    → position_or_len (λ x. ltb 127 x) text ≡ i + position_or_len (λ x. ltb 127 x) (drop i text)
    → position_or_len (λ x. ltb 127 x) text ≡ i + 64 + position_or_len (λ x. ltb 127 x) (drop (i + 64) text)
load_passed i text part room is all before =
    let more = first_behind 64 (drop i text) (omega (arith, length-drop i text)) (ap (λ (bs : List ℕ). list_all (λ b. ltb b 128) (take 64 bs)) (sym is) ∙ all) in
    omega (arith, before, more, ap (position_or_len (λ x. ltb 127 x)) (drop-drop 64 i text))
