-- A block seen from one of its places on: what is written, read and left.
use Rattle.std.proofs.Common.{◌≡◌, ◌⊎◌, inl, inr, ℕ, zero, suc, ◌+◌, ◌-◌, ◌<◌, ◌≤◌, List, [], ◌∷◌, ◌++◌, length, take, drop, refl, sym, ◌∙◌, ap, arith, append_assoc, length-append, length-drop, length-take, append-nil}
use Rattle.std.specs.Prelude.{min, replicate}
use Rattle.std.proofs.lemmas.List.{take-append-drop, take_rest, take_min, drop_min, drop-drop, drop-append-le, take-append-le, length-replicate, take-replicate, drop-replicate}
use Rattle.tcp_reasm.specs.declared.table.Run.{Run as Entry}
use Rattle.tcp_reasm.specs.Reassembly.{stamp_of_run}
use Rattle.tcp_reasm.specs.Store.{turned, filled, put, IsRing, runs_in, ranked, laid, fresh_byte}

pub length_put : (start : ℕ) (text bytes : List ℕ) → length (put start text bytes) ≡ length bytes
length_put start text [] = refl
length_put zero [] (byte ∷ bytes) = refl
length_put zero (new ∷ text) (byte ∷ bytes) = ap suc (length_put zero text bytes)
length_put (suc start) text (byte ∷ bytes) = ap suc (length_put start text bytes)

pub put_nothing : (start : ℕ) (bytes : List ℕ) → put start [] bytes ≡ bytes
put_nothing start [] = refl
put_nothing zero (byte ∷ bytes) = refl
put_nothing (suc start) (byte ∷ bytes) = ap (λ rest. byte ∷ rest) (put_nothing start bytes)

nothing_left : (start : ℕ) (text : List ℕ) (end : ℕ) → start + length text ≡ end → end ≡ 0 → take start [] ++ (text ++ drop end []) ≡ []
nothing_left zero [] zero e h = refl
nothing_left zero [] (suc end) e h = refl
nothing_left zero (new ∷ text) end e h = absurd (omega arith)
nothing_left (suc start) text end e h = absurd (omega arith)

nothing_over : (room : ℕ) (others : List ℕ) → put 0 [] others ≡ put 0 (drop room []) others
nothing_over zero others = refl
nothing_over (suc room) others = refl

empty_put : (n start : ℕ) (text : List ℕ) → take n [] ≡ put start text (take n [])
empty_put zero start text = refl
empty_put (suc n) start text = refl

-- writing over a part of a slice
pub put_is : (start : ℕ) (text bytes : List ℕ) (end : ℕ) → start + length text ≡ end → end ≤ length bytes → take start bytes ++ (text ++ drop end bytes) ≡ put start text bytes
put_is start text [] end e h = nothing_left start text end e (omega arith)
put_is zero [] (byte ∷ bytes) zero e h = refl
put_is zero [] (byte ∷ bytes) (suc end) e h = absurd (omega arith)
put_is zero (new ∷ text) (byte ∷ bytes) zero e h = absurd (omega arith)
put_is zero (new ∷ text) (byte ∷ bytes) (suc end) e h = ap (λ rest. new ∷ rest) (put_is zero text bytes end (omega arith) (omega arith))
put_is (suc start) text (byte ∷ bytes) zero e h = absurd (omega arith)
put_is (suc start) text (byte ∷ bytes) (suc end) e h = ap (λ rest. byte ∷ rest) (put_is start text bytes end (omega arith) (omega arith))

-- over the end of a list
pub put_append : (start room : ℕ) (text bytes others : List ℕ) → start + room ≡ length bytes → put start text (bytes ++ others) ≡ put start (take room text) bytes ++ put 0 (drop room text) others
put_append zero room [] [] others e = nothing_over room others
put_append zero zero (new ∷ text) [] others e = refl
put_append zero (suc room) (new ∷ text) [] others e = absurd (omega arith)
put_append (suc start) room text [] others e = absurd (omega arith)
put_append zero zero text (byte ∷ bytes) others e = absurd (omega arith)
put_append zero (suc room) [] (byte ∷ bytes) others e = ap (λ rest. byte ∷ (bytes ++ rest)) (sym (put_nothing 0 others))
put_append zero (suc room) (new ∷ text) (byte ∷ bytes) others e = ap (λ rest. new ∷ rest) (put_append zero room text bytes others (omega arith))
put_append (suc start) room text (byte ∷ bytes) others e = ap (λ rest. byte ∷ rest) (put_append start room text bytes others (omega arith))

-- after a list
pub put_after : (start at : ℕ) (text bytes others : List ℕ) → length bytes + at ≡ start → put start text (bytes ++ others) ≡ bytes ++ put at text others
put_after start at text [] others e = let same : start ≡ at = omega arith in ap (λ n. put n text others) same
put_after zero at text (byte ∷ bytes) others e = absurd (omega arith)
put_after (suc start) at text (byte ∷ bytes) others e = ap (λ rest. byte ∷ rest) (put_after start at text bytes others (omega arith))

pub drop_put : (n start at : ℕ) (text bytes : List ℕ) → n + start ≡ at → drop n (put at text bytes) ≡ put start text (drop n bytes)
drop_put zero start at text bytes e = let same : at ≡ start = omega arith in ap (λ m. put m text bytes) same
drop_put (suc n) start at text [] e = refl
drop_put (suc n) start zero text (byte ∷ bytes) e = absurd (omega arith)
drop_put (suc n) start (suc at) text (byte ∷ bytes) e = drop_put n start at text bytes (omega arith)

pub take_put : (n at : ℕ) (text bytes : List ℕ) → n ≤ at → take n (put at text bytes) ≡ take n bytes
take_put zero at text bytes h = refl
take_put (suc n) at text [] h = refl
take_put (suc n) zero text (byte ∷ bytes) h = absurd (omega arith)
take_put (suc n) (suc at) text (byte ∷ bytes) h = ap (λ rest. byte ∷ rest) (take_put n at text bytes (omega arith))

-- before another list
put_before : (start : ℕ) (text bytes others : List ℕ) → start + length text ≤ length bytes → put start text (bytes ++ others) ≡ put start text bytes ++ others
put_before zero [] [] others h = put_nothing 0 others
put_before zero (new ∷ text) [] others h = absurd (omega (arith, h))
put_before (suc start) text [] others h = absurd (omega (arith, h))
put_before zero [] (byte ∷ bytes) others h = refl
put_before zero (new ∷ text) (byte ∷ bytes) others h = ap (λ rest. new ∷ rest) (put_before zero text bytes others (omega arith))
put_before (suc start) text (byte ∷ bytes) others h = ap (λ rest. byte ∷ rest) (put_before start text bytes others (omega arith))

-- before a place
pub drop_put_before : (n start : ℕ) (text bytes : List ℕ) → start + length text ≤ n → drop n (put start text bytes) ≡ drop n bytes
drop_put_before n start text [] h = refl
drop_put_before zero zero [] (byte ∷ bytes) h = refl
drop_put_before (suc n) zero [] (byte ∷ bytes) h = refl
drop_put_before zero zero (new ∷ text) (byte ∷ bytes) h = absurd (omega arith)
drop_put_before zero (suc start) text (byte ∷ bytes) h = absurd (omega arith)
drop_put_before (suc n) zero (new ∷ text) (byte ∷ bytes) h = drop_put_before n zero text bytes (omega arith)
drop_put_before (suc n) (suc start) text (byte ∷ bytes) h = drop_put_before n start text bytes (omega arith)

pub take_put_before : (n start : ℕ) (text bytes : List ℕ) → start + length text ≤ n → take n (put start text bytes) ≡ put start text (take n bytes)
take_put_before n start text [] h = empty_put n start text
take_put_before zero zero [] (byte ∷ bytes) h = refl
take_put_before (suc n) zero [] (byte ∷ bytes) h = refl
take_put_before zero zero (new ∷ text) (byte ∷ bytes) h = absurd (omega arith)
take_put_before zero (suc start) text (byte ∷ bytes) h = absurd (omega arith)
take_put_before (suc n) zero (new ∷ text) (byte ∷ bytes) h = ap (λ rest. new ∷ rest) (take_put_before n zero text bytes (omega arith))
take_put_before (suc n) (suc start) text (byte ∷ bytes) h = ap (λ rest. byte ∷ rest) (take_put_before n start text bytes (omega arith))

pub length_turned : (start : ℕ) (bytes : List ℕ) → length (turned start bytes) ≡ length bytes
length_turned start bytes = omega (arith, length-append (drop start bytes) (take start bytes), length-drop start bytes, length-take start bytes)

-- a text that ends before the block's end
pub turned_put_before : (start place : ℕ) (text block after : List ℕ) → place + length text ≤ length block - start → after ≡ put (start + place) text block → turned start after ≡ put place text (turned start block)
turned_put_before start place text block after fits a =
    ap (turned start) a
    ∙ ap (λ (back : List ℕ). back ++ take start (put (start + place) text block)) (drop_put start place (start + place) text block refl)
    ∙ ap (λ (front : List ℕ). put place text (drop start block) ++ front) (take_put start (start + place) text block (omega arith))
    ∙ sym (put_before place text (drop start block) (take start block) (omega (arith, fits, length-drop start block)))

-- a text that begins before the block's end: what of it fits before the end, and the rest from the block's start on
pub turned_put_split : (start place room : ℕ) (text block middle after : List ℕ) → place + room ≡ length block - start → start ≤ length block → place + length text ≤ length block →
    middle ≡ put (start + place) (take room text) block → after ≡ put 0 (drop room text) middle → turned start after ≡ put place text (turned start block)
turned_put_split start place room text block middle after e starts fits m a =
    let rest_fits : 0 + length (drop room text) ≤ start = omega (arith, length-drop room text) in
    ap (turned start) a
    ∙ ap (λ (back : List ℕ). back ++ take start (put 0 (drop room text) middle)) (drop_put_before start 0 (drop room text) middle rest_fits)
    ∙ ap (λ (front : List ℕ). drop start middle ++ front) (take_put_before start 0 (drop room text) middle rest_fits)
    ∙ ap (λ (bytes : List ℕ). drop start bytes ++ put 0 (drop room text) (take start bytes)) m
    ∙ ap (λ (back : List ℕ). back ++ put 0 (drop room text) (take start (put (start + place) (take room text) block))) (drop_put start place (start + place) (take room text) block refl)
    ∙ ap (λ (front : List ℕ). put place (take room text) (drop start block) ++ put 0 (drop room text) front) (take_put start (start + place) (take room text) block (omega arith))
    ∙ sym (put_append place room text (drop start block) (take start block) (omega (arith, length-drop start block)))

-- a text that begins after the block's end
pub turned_put_after : (start place at : ℕ) (text block after : List ℕ) → (length block - start) + at ≡ place → start ≤ length block → place + length text ≤ length block →
    after ≡ put at text block → turned start after ≡ put place text (turned start block)
turned_put_after start place at text block after e starts fits a =
    let before : at + length text ≤ start = omega arith in
    ap (turned start) a
    ∙ ap (λ (back : List ℕ). back ++ take start (put at text block)) (drop_put_before start at text block before)
    ∙ ap (λ (front : List ℕ). drop start block ++ front) (take_put_before start at text block before)
    ∙ sym (put_after place at text (drop start block) (take start block) (omega (arith, length-drop start block)))

-- ---- laying stretch by stretch

-- a stretch where nothing is kept
pub laid_free : (stamps : ℕ → ℕ) (place start at : ℕ) (front rest bytes : List ℕ) → start + length front ≡ at → ((i : ℕ) → place + start ≤ i → i < place + at → stamps i ≡ 0) →
    laid stamps place at rest (put start front bytes) ≡ laid stamps place start (front ++ rest) bytes
laid_free stamps place start at front rest [] e free = refl
laid_free stamps place zero zero [] rest (byte ∷ bytes) e free = refl
laid_free stamps place zero (suc at) [] rest (byte ∷ bytes) e free = absurd (omega arith)
laid_free stamps place zero zero (new ∷ front) rest (byte ∷ bytes) e free = absurd (omega arith)
laid_free stamps place zero (suc at) (new ∷ front) rest (byte ∷ bytes) e free =
    ap (λ n. fresh_byte n new byte ∷ laid stamps (suc place) at rest (put zero front bytes)) (sym (free place (omega arith) (omega arith)))
    ∙ ap (λ (after : List ℕ). fresh_byte (stamps place) new byte ∷ after) (laid_free stamps (suc place) zero at front rest bytes (omega arith) (λ i low high. free i (omega arith) (omega arith)))
laid_free stamps place (suc start) zero front rest (byte ∷ bytes) e free = absurd (omega arith)
laid_free stamps place (suc start) (suc at) front rest (byte ∷ bytes) e free =
    ap (λ (after : List ℕ). byte ∷ after) (laid_free stamps (suc place) start at front rest bytes (omega arith) (λ i low high. free i (omega arith) (omega arith)))

held_byte : (stamp new old : ℕ) → 0 < stamp → fresh_byte stamp new old ≡ old
held_byte zero new old h = absurd (omega arith)
held_byte (suc n) new old h = refl

-- a stretch that is kept
pub laid_held : (stamps : ℕ → ℕ) (place start at : ℕ) (front rest bytes : List ℕ) → start + length front ≡ at → ((i : ℕ) → place + start ≤ i → i < place + at → 0 < stamps i) →
    laid stamps place at rest bytes ≡ laid stamps place start (front ++ rest) bytes
laid_held stamps place start at front rest [] e held = refl
laid_held stamps place zero zero [] rest (byte ∷ bytes) e held = refl
laid_held stamps place zero (suc at) [] rest (byte ∷ bytes) e held = absurd (omega arith)
laid_held stamps place zero zero (new ∷ front) rest (byte ∷ bytes) e held = absurd (omega arith)
laid_held stamps place zero (suc at) (new ∷ front) rest (byte ∷ bytes) e held =
    ap (λ n. n ∷ laid stamps (suc place) at rest bytes) (sym (held_byte (stamps place) new byte (held place (omega arith) (omega arith))))
    ∙ ap (λ (after : List ℕ). fresh_byte (stamps place) new byte ∷ after) (laid_held stamps (suc place) zero at front rest bytes (omega arith) (λ i low high. held i (omega arith) (omega arith)))
laid_held stamps place (suc start) zero front rest (byte ∷ bytes) e held = absurd (omega arith)
laid_held stamps place (suc start) (suc at) front rest (byte ∷ bytes) e held =
    ap (λ (after : List ℕ). byte ∷ after) (laid_held stamps (suc place) start at front rest bytes (omega arith) (λ i low high. held i (omega arith) (omega arith)))

pub laid_nothing : (stamps : ℕ → ℕ) (place start : ℕ) (bytes : List ℕ) → laid stamps place start [] bytes ≡ bytes
laid_nothing stamps place start [] = refl
laid_nothing stamps place zero (byte ∷ bytes) = refl
laid_nothing stamps place (suc start) (byte ∷ bytes) = ap (λ (after : List ℕ). byte ∷ after) (laid_nothing stamps (suc place) start bytes)

-- so many bytes, or all
pub take_least : (n m : ℕ) (bytes : List ℕ) → n ≡ min (length bytes) m → take n bytes ≡ take m bytes
take_least n m bytes e = ap (λ k. take k bytes) (omega (arith, e)) ∙ take_min m bytes

pub drop_least : (n m : ℕ) (bytes : List ℕ) → n ≡ min (length bytes) m → drop n bytes ≡ drop m bytes
drop_least n m bytes e = ap (λ k. drop k bytes) (omega (arith, e)) ∙ drop_min m bytes

-- ---- what is read

take_nil : (n : ℕ) → take {A = ℕ} n [] ≡ []
take_nil zero = refl
take_nil (suc n) = refl

pub take_further : (n m : ℕ) (bytes : List ℕ) → take n bytes ++ take m (drop n bytes) ≡ take (n + m) bytes
take_further zero m bytes = ap (λ k. take k bytes) (omega arith)
take_further (suc n) m [] = take_nil m ∙ sym (take_nil (suc n + m))
take_further (suc n) m (byte ∷ bytes) =
    let next : suc n + m ≡ suc (n + m) = omega arith in
    ap (λ rest. byte ∷ rest) (take_further n m bytes) ∙ ap (λ k. take k (byte ∷ bytes)) (sym next)

drop_past : (n past : ℕ) (bytes others : List ℕ) → length bytes + past ≡ n → drop n (bytes ++ others) ≡ drop past others
drop_past n past [] others e = let same : n ≡ past = omega arith in ap (λ k. drop k others) same
drop_past zero past (byte ∷ bytes) others e = absurd (omega arith)
drop_past (suc n) past (byte ∷ bytes) others e = drop_past n past bytes others (omega arith)

take_past : (n past : ℕ) (bytes others : List ℕ) → length bytes + past ≡ n → take n (bytes ++ others) ≡ bytes ++ take past others
take_past n past [] others e = let same : n ≡ past = omega arith in ap (λ k. take k others) same
take_past zero past (byte ∷ bytes) others e = absurd (omega arith)
take_past (suc n) past (byte ∷ bytes) others e = ap (λ rest. byte ∷ rest) (take_past n past bytes others (omega arith))

-- the block seen from further on
pub turned_before : (start count : ℕ) (block : List ℕ) → count ≤ length block - start → start ≤ length block →
    turned (start + count) block ≡ drop count (turned start block) ++ take count (turned start block)
turned_before start count block before starts =
    let back = drop start block in
    let front = take start block in
    let size : count ≤ length back = omega (arith, length-drop start block) in
    ap (λ (x : List ℕ). x ++ take (start + count) block) (sym (drop-drop count start block))
    ∙ ap (λ (x : List ℕ). drop count back ++ x) (sym (take_further start count block))
    ∙ sym (append_assoc (drop count back) front (take count back))
    ∙ ap (λ (x : List ℕ). x ++ take count back) (sym (drop-append-le count back front size))
    ∙ ap (λ (x : List ℕ). drop count (back ++ front) ++ x) (sym (take-append-le count back front size))

pub turned_over : (start count past : ℕ) (block : List ℕ) → (length block - start) + past ≡ count → past ≤ start → start ≤ length block →
    turned past block ≡ drop count (turned start block) ++ take count (turned start block)
turned_over start count past block e before starts =
    let back = drop start block in
    let front = take start block in
    let size : length back + past ≡ count = omega (arith, length-drop start block) in
    let room : past ≤ length front = omega (arith, length-take start block) in
    let whole : block ≡ front ++ back = sym (take-append-drop start block) in
    ap (turned past) whole
    ∙ ap (λ (x : List ℕ). x ++ take past (front ++ back)) (drop-append-le past front back room)
    ∙ ap (λ (x : List ℕ). (drop past front ++ back) ++ x) (take-append-le past front back room)
    ∙ append_assoc (drop past front) back (take past front)
    ∙ ap (λ (x : List ℕ). x ++ (back ++ take past front)) (sym (drop_past count past back front size))
    ∙ ap (λ (x : List ℕ). drop count (back ++ front) ++ x) (sym (take_past count past back front size))

-- the start, so many bytes further on in the block
pub further_on : (start count capacity further : ℕ) (block : List ℕ) → length block ≡ capacity → start ≤ capacity → count ≤ capacity →
    ((count < capacity - start) × (further ≡ start + count)) ⊎ ((capacity - start ≤ count) × (further ≡ count - (capacity - start))) →
    turned further block ≡ drop count (turned start block) ++ take count (turned start block)
further_on start count capacity further block size starts fits (inl h) =
    ap (λ n. turned n block) h.1 ∙ turned_before start count block (omega (arith, h.0)) (omega arith)
further_on start count capacity further block size starts fits (inr h) =
    turned_over start count further block (omega (arith, h.0, h.1)) (omega (arith, h.0, h.1)) (omega arith)

-- ---- zeros after what was written

pub length_filled : (size : ℕ) (bytes : List ℕ) → length bytes ≤ size → length (filled size bytes) ≡ size
length_filled size bytes h = omega (arith, length-append bytes (replicate (size - length bytes) 0), length-replicate {A = ℕ} (size - length bytes) 0)

-- no more is written than there is room for
put_within : (size at : ℕ) (text before after : List ℕ) → filled size after ≡ put at text (filled size before) → length before ≤ size → length after ≤ size
put_within size at text before after e h =
    omega (arith, length-append after (replicate (size - length after) 0), ap length e, length_put at text (filled size before), length_filled size before h)

-- the invariant of a ring, afterwards
pub ring_written : (room larger capacity start at : ℕ) (text before after : List ℕ) → IsRing room capacity start before → room ≤ larger → filled capacity after ≡ put at text (filled capacity before) → IsRing larger capacity start after
ring_written room larger capacity start at text before after ring more e = record {
  within = put_within capacity at text before after e ring.within;
  fits = omega (arith, ring.fits, more);
  most = ring.most;
  starts = ring.starts;
}

-- over bytes that were written
pub filled_over : (size start : ℕ) (text bytes : List ℕ) → start + length text ≤ length bytes → filled size (put start text bytes) ≡ put start text (filled size bytes)
filled_over size start text bytes h =
    ap (λ n. put start text bytes ++ replicate (size - n) 0) (length_put start text bytes)
    ∙ sym (put_before start text bytes (replicate (size - length bytes) 0) h)

first_filled : (count size : ℕ) (bytes : List ℕ) → count ≤ length bytes + size → take count bytes ++ replicate (count - length bytes) 0 ≡ take count (bytes ++ replicate size 0)
first_filled zero size bytes h = let none : 0 - length bytes ≡ 0 = omega arith in ap (λ n. replicate {A = ℕ} n 0) none
first_filled (suc count) size [] h =
    let whole : suc count - 0 ≡ suc count = omega arith in
    ap (λ n. replicate {A = ℕ} n 0) whole ∙ sym (take-replicate {X = ℕ} (suc count) size 0 (omega (arith, h)))
first_filled (suc count) size (byte ∷ bytes) h =
    let less : suc count - suc (length bytes) ≡ count - length bytes = omega arith in
    ap (λ n. byte ∷ (take count bytes ++ replicate n 0)) less ∙ ap (λ rest. byte ∷ rest) (first_filled count size bytes (omega (arith, h)))

length_filled_least : (size : ℕ) (bytes : List ℕ) → size ≤ length (filled size bytes)
length_filled_least size bytes = omega (arith, length-append bytes (replicate (size - length bytes) 0), length-replicate {A = ℕ} (size - length bytes) 0)

read_from : (count start size : ℕ) (bytes : List ℕ) → start + count ≤ length bytes + size →
    take count (drop start bytes) ++ replicate (count - (length bytes - start)) 0 ≡ take count (drop start (bytes ++ replicate size 0))
read_from count zero size bytes h =
    let same : count - (length bytes - 0) ≡ count - length bytes = omega arith in
    ap (λ n. take count bytes ++ replicate n 0) same ∙ first_filled count size bytes (omega (arith, h))
read_from count (suc start) size [] h =
    let whole : count - (0 - suc start) ≡ count = omega arith in
    ap (λ (x : List ℕ). x ++ replicate (count - (0 - suc start)) 0) (take_nil count)
    ∙ ap (λ n. replicate n 0) whole
    ∙ sym (take-replicate {X = ℕ} count (size - suc start) 0 (omega (arith, h)))
    ∙ sym (ap (take count) (drop-replicate {X = ℕ} (suc start) size 0))
read_from count (suc start) size (byte ∷ bytes) h =
    let same : suc (length bytes) - suc start ≡ length bytes - start = omega arith in
    ap (λ n. take count (drop start bytes) ++ replicate (count - n) 0) same ∙ read_from count start size bytes (omega (arith, h))

-- as far as a text's first place
pub length_reached : (start : ℕ) (bytes : List ℕ) → length (take start bytes ++ replicate (start - length bytes) 0) ≡ start
length_reached start bytes =
    omega (arith, length-append (take start bytes) (replicate (start - length bytes) 0), length-take start bytes, length-replicate {A = ℕ} (start - length bytes) 0)

-- over the end of what was written, or after it
pub filled_behind : (size start : ℕ) (text bytes : List ℕ) → length bytes ≤ start + length text → start + length text ≤ size →
    filled size ((take start bytes ++ replicate (start - length bytes) 0) ++ text) ≡ put start text (filled size bytes)
filled_behind size start text bytes over fits =
    let end = start + length text in
    let front = take start bytes ++ replicate (start - length bytes) 0 in
    let whole = filled size bytes in
    let left : size - length (front ++ text) ≡ size - end = omega (arith, length_reached start bytes, length-append front text) in
    let behind : size - end ≡ (size - length bytes) - (end - length bytes) = omega arith in
    let zeros : replicate (size - end) 0 ≡ drop end whole =
    ap (λ n. replicate {A = ℕ} n 0) behind
    ∙ sym (drop-replicate {X = ℕ} (end - length bytes) (size - length bytes) 0)
    ∙ sym (drop_past end (end - length bytes) bytes (replicate (size - length bytes) 0) (omega arith)) in
    ap (λ n. (front ++ text) ++ replicate n 0) left
    ∙ append_assoc front text (replicate (size - end) 0)
    ∙ ap (λ (x : List ℕ). front ++ (text ++ x)) zeros
    ∙ ap (λ (x : List ℕ). x ++ (text ++ drop end whole)) (first_filled start (size - length bytes) bytes (omega arith))
    ∙ put_is start text whole end refl (omega (arith, length_filled_least size bytes))

-- reading over the end of what was written, or after it
pub read_filled : (count left start size : ℕ) (bytes : List ℕ) → left ≡ count - (length bytes - start) → start + count ≤ size →
    take count (drop start bytes) ++ replicate left 0 ≡ take count (drop start (filled size bytes))
read_filled count left start size bytes l fits =
    ap (λ n. take count (drop start bytes) ++ replicate n 0) l ∙ read_from count start (size - length bytes) bytes (omega arith)

-- a part of what is left after a place
pub split_drop : (n m k : ℕ) (bytes : List ℕ) → n + m ≡ k → take m (drop n bytes) ++ drop k bytes ≡ drop n bytes
split_drop n m k bytes e =
    ap (λ (x : List ℕ). take m (drop n bytes) ++ x) (ap (λ j. drop j bytes) (sym e) ∙ sym (drop-drop m n bytes))
    ∙ take-append-drop m (drop n bytes)

-- where nothing is kept, a text is laid as it is written
put_laid_from : (stamps : ℕ → ℕ) (from start : ℕ) (text bytes : List ℕ) → ((i : ℕ) → stamps i ≡ 0) → put start text bytes ≡ laid stamps from start text bytes
put_laid_from stamps from start text [] none = refl
put_laid_from stamps from zero [] (byte ∷ bytes) none = refl
put_laid_from stamps from zero (new ∷ text) (byte ∷ bytes) none =
    ap (λ rest. new ∷ rest) (put_laid_from stamps (suc from) zero text bytes none)
    ∙ ap (λ n. fresh_byte n new byte ∷ laid stamps (suc from) zero text bytes) (sym (none from))
put_laid_from stamps from (suc start) text (byte ∷ bytes) none = ap (λ rest. byte ∷ rest) (put_laid_from stamps (suc from) start text bytes none)

pub put_laid : (table : List Entry) (place : ℕ) (text bytes : List ℕ) → length table ≡ 0 → put place text bytes ≡ laid (stamp_of_run (ranked (runs_in table))) 0 place text bytes
put_laid [] place text bytes none = put_laid_from (λ i. 0) 0 place text bytes (λ i. refl)
put_laid (run ∷ table) place text bytes none = absurd (omega (arith, none))

-- ---- lending

-- bytes that lie within what was written
pub lent_before : (start count capacity : ℕ) (block : List ℕ) → start + count ≤ length block → length block ≤ capacity →
    take count (drop start block) ++ [] ≡ take count (turned start (filled capacity block))
lent_before start count capacity block inside within =
    let whole = filled capacity block in
    let size = length_filled capacity block within in
    read_filled count 0 start capacity block (omega arith) (omega arith)
    ∙ sym (take-append-le count (drop start whole) (take start whole) (omega (arith, size, length-drop start whole)))

-- bytes over the end of a block that is full
pub lent_over : (start count past capacity : ℕ) (block : List ℕ) → length block ≡ capacity → start ≤ capacity → (capacity - start) + past ≡ count → past ≤ start →
    take (length block - start) (drop start block) ++ take past block ≡ take count (turned start (filled capacity block))
lent_over start count past capacity block full starts e before =
    let back = drop start block in
    let front = take start block in
    let none : capacity - length block ≡ 0 = omega arith in
    let filled_is : filled capacity block ≡ block = ap (λ n. block ++ replicate n 0) none ∙ append-nil block in
    let size : length back + past ≡ count = omega (arith, length-drop start block) in
    let room : past ≤ length front = omega (arith, length-take start block) in
    let again : take past front ≡ take past block =
    sym (take-append-le past front back room) ∙ ap (take past) (take-append-drop start block) in
    ap (λ (x : List ℕ). x ++ take past block) (take_rest block start)
    ∙ ap (λ (x : List ℕ). back ++ x) (sym again)
    ∙ sym (take_past count past back front size)
    ∙ ap (λ (x : List ℕ). take count (turned start x)) (sym filled_is)
