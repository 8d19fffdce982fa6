-- An order of rows that one is put into, or that some are taken out of.
use Rattle.std.proofs.Common.{◌≡◌, ℕ, suc, ◌+◌, ◌-◌, ◌<◌, ◌≤◌, List, ◌∷◌, ◌++◌, length, get_or, set, take, drop, sym, ◌∙◌, ap, arith, length-drop}
use Rattle.std.proofs.lemmas.List.Edits.{paste_more, take-paste, drop-paste}
use Rattle.std.proofs.lemmas.List.{get_or-drop}
use Rattle.std.proofs.Math.Seq.{paste}
use Rattle.tcp_reasm.specs.Rows.{at}

-- a turn of a loop that writes a list over another from an index on
pub turn : (d s rest : List ℕ) (from n next : ℕ) (x : ℕ) → rest ≡ paste d from s n → next ≡ from + n → x ≡ at s n → next < length d → n < length s → set rest next x ≡ paste d from s (n + 1)
turn d s rest from n next x is place word below within =
    ap (λ (xs : List ℕ). set xs next x) is ∙ ap (λ i. set (paste d from s n) i x) place ∙ ap (set (paste d from s n) (from + n)) word ∙ paste_more d from s n 0 (omega (arith, place, below)) within

-- what isn't written yet is as it was
pub later : (d s rest : List ℕ) (from n next : ℕ) → rest ≡ paste d from s n → from + n ≤ next → from ≤ length d → n ≤ length s → at rest next ≡ at d next
later d s rest from n next is below from_in n_in =
    let place : next ≡ (from + n) + (next - (from + n)) = omega (arith, below) in
    ap (at rest) place
    ∙ (sym (get_or-drop (from + n) rest (next - (from + n)) 0)
    ∙ (ap (λ (xs : List ℕ). get_or xs (next - (from + n)) 0) (ap (drop (from + n)) is ∙ drop-paste d from s n from_in n_in)
    ∙ (get_or-drop (from + n) d (next - (from + n)) 0 ∙ ap (at d) (sym place))))

-- the number behind the first of a list that begins at an index
pub behind : (d : List ℕ) (x index next : ℕ) → index ≤ next → at (x ∷ drop index d) (next + 1 - index) ≡ at d next
behind d x index next below =
    let first : next + 1 - index ≡ suc (next - index) = omega (arith, below) in
    let second : index + (next - index) ≡ next = omega (arith, below) in
    ap (at (x ∷ drop index d)) first ∙ (get_or-drop index d (next - index) 0 ∙ ap (at d) second)

-- the order that a loop leaves, to the end of what it wrote
pub put_in : (d after : List ℕ) (x index len next : ℕ) → after ≡ paste d index (x ∷ drop index d) (next - index) → next ≡ len + 1 → index ≤ len → len < length d → take (suc len) after ≡ take index d ++ x ∷ take (len - index) (drop index d)
put_in d after x index len next is ends within below =
    let all : suc len ≡ index + (next - index) = omega (arith, ends, within) in
    let count : next - index ≡ suc (len - index) = omega (arith, ends, within) in
    ap (λ n. take n after) all ∙ ap (take (index + (next - index))) is
    ∙ (take-paste d index (x ∷ drop index d) (next - index) (omega (arith, within, below)) (omega (arith, length-drop index d, ends, within, below))
    ∙ ap (λ n. take index d ++ take n (x ∷ drop index d)) count)

pub taken_out : (d after : List ℕ) (first past len next : ℕ) → after ≡ paste d first (drop past d) (next - past) → next ≡ len → first ≤ past → past ≤ len → len ≤ length d → take (first + (len - past)) after ≡ take first d ++ take (len - past) (drop past d)
taken_out d after first past len next is ends ordered within below =
    ap (take (first + (len - past))) (is ∙ ap (λ n. paste d first (drop past d) (n - past)) ends)
    ∙ take-paste d first (drop past d) (len - past) (omega (arith, ordered, within, below)) (omega (arith, length-drop past d, below))
