-- A block more is read.
use Rattle.std.proofs.Common.{◌≡◌, ℕ, ◌+◌, ◌-◌, ◌*◌, ◌/◌, ◌≤◌, List, [], ◌∷◌, ◌++◌, length, map, take, drop, sym, ap, ◌∙◌, length-append, append_assoc, arith}
use Rattle.std.proofs.lemmas.List.{map-append, length-drop, get_or-drop, take_rest}
use Rattle.byteorder.specs.Endian.{big_from}
use Rattle.tcp_numbers.specs.declared.seq.Seq.{Seq}
use Rattle.tcp_wire.specs.Decoded.{blocks_in}
use Rattle.tcp_wire.specs.View.{block}
use Rattle.tcp_wire.proofs.OptionLaws.{blocks_more}

-- a number that is read four bytes on
pub right_edge : (rest : List ℕ) (n : ℕ) → n ≡ big_from 0 4 (take (length rest - 4) (drop 4 rest)) → n ≡ big_from 4 4 rest
right_edge rest n is =
    let whole = ap (big_from 0 4) (take_rest rest 4) in
    omega (arith, is, whole, get_or-drop 4 rest 0 0, get_or-drop 4 rest 1 0, get_or-drop 4 rest 2 0, get_or-drop 4 rest 3 0)

abbrev pub BlocksRead : List (Seq × Seq) → List ℕ → List (ℕ × ℕ) → Type 0
BlocksRead blocks rest total = (map block blocks ++ blocks_in (length rest / 8) rest ≡ total) × (8 * length blocks + length rest ≤ 32)

pub blocks_read : (blocks pushed : List (Seq × Seq)) (left right : Seq) (rest behind : List ℕ) (total : List (ℕ × ℕ)) → 8 ≤ length rest → behind ≡ drop 8 rest
    → left.0 ≡ big_from 0 4 rest → right.0 ≡ big_from 4 4 rest → pushed ≡ blocks ++ (left, right) ∷ [] → BlocksRead blocks rest total → BlocksRead pushed behind total
blocks_read blocks pushed left right rest behind total long rest_is l r pushed_is before =
    let more = blocks_more rest long in
    let edges : block (left, right) ≡ (big_from 0 4 rest, big_from 4 4 rest) = ap (λ (k : ℕ). (k, right.0)) l ∙ ap (λ (k : ℕ). (big_from 0 4 rest, k)) r in
    let mapped : map block pushed ≡ map block blocks ++ (big_from 0 4 rest, big_from 4 4 rest) ∷ [] =
    ap (map block) pushed_is ∙ map-append block blocks ((left, right) ∷ []) ∙ ap (λ (b : ℕ × ℕ). map block blocks ++ b ∷ []) edges in
    let tail : blocks_in (length behind / 8) behind ≡ blocks_in (length (drop 8 rest) / 8) (drop 8 rest) = ap (λ (xs : List ℕ). blocks_in (length xs / 8) xs) rest_is in (
      ap (λ (xs : List (ℕ × ℕ)). xs ++ blocks_in (length behind / 8) behind) mapped
          ∙ append_assoc (map block blocks) ((big_from 0 4 rest, big_from 4 4 rest) ∷ []) (blocks_in (length behind / 8) behind)
          ∙ ap (λ (xs : List (ℕ × ℕ)). map block blocks ++ (big_from 0 4 rest, big_from 4 4 rest) ∷ xs) tail
          ∙ ap (λ (xs : List (ℕ × ℕ)). map block blocks ++ xs) (sym more)
          ∙ before.0,
      omega (arith, before.1, ap length pushed_is, length-append blocks ((left, right) ∷ []), ap length rest_is, length-drop 8 rest),
    )
