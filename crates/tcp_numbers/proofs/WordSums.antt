-- The word sum: step by step, over joined bytes, and after one changed byte.
use Rattle.std.proofs.Common.{◌≡◌, ℕ, zero, suc, ◌+◌, ◌-◌, ◌*◌, ◌/◌, ◌%◌, ◌<◌, ◌≤◌, List, [], ◌∷◌, ◌++◌, length, take, drop, get_or, refl, sym, ap, ◌∙◌, ◌⊎◌}
use Rattle.std.proofs.Common.{inl, inr, length-append, append-nil, append_assoc, arith}
use Rattle.std.proofs.lemmas.List.{length-take-le, take-append-drop, length-drop, take_rest, drop_more, drop_all, get_or-drop}
use Rattle.byteorder.specs.Endian.{big_number, big_from}
use Rattle.tcp_numbers.specs.Checksum.{AreBytes, word_sum, without_field, pseudo_header, segment_sum, Checks, completion, field, DiffersInOnePlace}

-- a word more
pub word_sum_more : (xs : List ℕ) → 2 ≤ length xs → word_sum xs ≡ big_number 2 xs + word_sum (drop 2 xs)
word_sum_more [] h = absurd (omega arith)
word_sum_more (a ∷ []) h = absurd (omega arith)
word_sum_more (a ∷ b ∷ xs) h = omega arith

-- two words more, out of a number of four bytes
pub word_sum_two : (xs : List ℕ) → AreBytes xs → 4 ≤ length xs → word_sum xs ≡ big_number 4 xs / 65536 + big_number 4 xs % 65536 + word_sum (drop 4 xs)
word_sum_two [] bytes h = absurd (omega arith)
word_sum_two (a ∷ []) bytes h = absurd (omega arith)
word_sum_two (a ∷ b ∷ []) bytes h = absurd (omega arith)
word_sum_two (a ∷ b ∷ c ∷ []) bytes h = absurd (omega arith)
word_sum_two (a ∷ b ∷ c ∷ d ∷ xs) bytes h = omega (arith, bytes 0, bytes 1, bytes 2, bytes 3)

-- four words more, out of a number of eight bytes
pub word_sum_four : (xs : List ℕ) → AreBytes xs → 8 ≤ length xs
    → word_sum xs ≡ big_number 8 xs / 281474976710656 + big_number 8 xs / 4294967296 % 65536 + big_number 8 xs / 65536 % 65536 + big_number 8 xs % 65536 +
    word_sum (drop 8 xs)
word_sum_four [] bytes h = absurd (omega arith)
word_sum_four (a ∷ []) bytes h = absurd (omega arith)
word_sum_four (a ∷ b ∷ []) bytes h = absurd (omega arith)
word_sum_four (a ∷ b ∷ c ∷ []) bytes h = absurd (omega arith)
word_sum_four (a ∷ b ∷ c ∷ d ∷ []) bytes h = absurd (omega arith)
word_sum_four (a ∷ b ∷ c ∷ d ∷ e ∷ []) bytes h = absurd (omega arith)
word_sum_four (a ∷ b ∷ c ∷ d ∷ e ∷ f ∷ []) bytes h = absurd (omega arith)
word_sum_four (a ∷ b ∷ c ∷ d ∷ e ∷ f ∷ g ∷ []) bytes h = absurd (omega arith)
word_sum_four (a ∷ b ∷ c ∷ d ∷ e ∷ f ∷ g ∷ i ∷ xs) bytes h =
    omega (arith, bytes 0, bytes 1, bytes 2, bytes 3, bytes 4, bytes 5, bytes 6, bytes 7)

-- two sums in one number, each with two words more
pub sums_up : (s a b c d : ℕ) → s % 4294967296 + c + d < 4294967296
    → (s + (a * 4294967296 + c) + (b * 4294967296 + d)) / 4294967296 ≡ s / 4294967296 + a + b
sums_up s a b c d h = omega (arith, h)

pub sums_down : (s a b c d : ℕ) → s % 4294967296 + c + d < 4294967296
    → (s + (a * 4294967296 + c) + (b * 4294967296 + d)) % 4294967296 ≡ s % 4294967296 + c + d
sums_down s a b c d h = omega (arith, h)

pub bytes_behind : (n : ℕ) (xs : List ℕ) → AreBytes xs → AreBytes (drop n xs)
bytes_behind zero xs bytes = bytes
bytes_behind (suc n) [] bytes = bytes
bytes_behind (suc n) (x ∷ xs) bytes = bytes_behind n xs (λ i. bytes (suc i))

-- whole words in front
pub word_sum-append : (half : ℕ) (xs ys : List ℕ) → length xs ≡ half + half → word_sum (xs ++ ys) ≡ word_sum xs + word_sum ys
word_sum-append half [] ys h = omega arith
word_sum-append half (a ∷ []) ys h = absurd (omega arith)
word_sum-append half (a ∷ b ∷ xs) ys h =
    let rest = word_sum-append (half - 1) xs ys (omega arith) in
    omega (arith, rest)

pub pseudo_parts : (src dst : List ℕ) (len : ℕ) → length src ≡ 4 → length dst ≡ 4 → word_sum (pseudo_header src dst len) ≡ word_sum src + word_sum dst + 6 + len
pseudo_parts src dst len s d =
    let both = word_sum-append 2 src dst s in
    let all = word_sum-append 4 (src ++ dst) (0 ∷ 6 ∷ (len / 256) ∷ (len % 256) ∷ []) (length-append src dst ∙ omega arith) in
    omega (arith, both, all)

-- one byte replaced: in the low half of a word, or in a high half
one_byte : (front rest : List ℕ) (a b : ℕ) →
    (word_sum (front ++ a ∷ rest) + b ≡ word_sum (front ++ b ∷ rest) + a)
    ⊎ (word_sum (front ++ a ∷ rest) + 256 * b ≡ word_sum (front ++ b ∷ rest) + 256 * a)
one_byte [] [] a b = inr (omega arith)
one_byte [] (r ∷ rest) a b = inr (omega arith)
one_byte (f ∷ []) rest a b = inl (omega arith)
one_byte (f ∷ g ∷ front) rest a b = elim (one_byte front rest a b) [
  | inl low ↦ inl (omega (arith, low))
  | inr high ↦ inr (omega (arith, high))
]

low_differs : (p x y a b : ℕ) → x + b ≡ y + a → a < 256 → b < 256 → (a ≡ b → ⊥) → (p + x) % 65535 ≡ 0 → (p + y) % 65535 ≡ 0 → ⊥
low_differs p x y a b e fa fb other cx cy = omega arith

high_differs : (p x y a b : ℕ) → x + 256 * b ≡ y + 256 * a → a < 256 → b < 256 → (a ≡ b → ⊥) → (p + x) % 65535 ≡ 0 → (p + y) % 65535 ≡ 0 → ⊥
high_differs p x y a b e fa fb other cx cy = omega arith

pub same_length : (sent got : List ℕ) → DiffersInOnePlace sent got → length sent ≡ length got
same_length sent got d =
    rw (d.sent_is, d.got_is) (omega (arith, length-append d.front (d.was ∷ d.rest), length-append d.front (d.became ∷ d.rest)))

-- of two segments that differ in one byte only one checks
pub one_place : (src dst sent got : List ℕ) → DiffersInOnePlace sent got → Checks src dst sent → Checks src dst got → ⊥
one_place src dst sent got d cs cg =
    let len = same_length sent got d in
    let p : ℕ = word_sum (pseudo_header src dst (length got)) in
    let cs' : (p + word_sum (d.front ++ d.was ∷ d.rest)) % 65535 ≡ 0 = rw (← len, ← d.sent_is) cs in
    let cg' : (p + word_sum (d.front ++ d.became ∷ d.rest)) % 65535 ≡ 0 = rw (← d.got_is) cg in
    elim (one_byte d.front d.rest d.was d.became) [
      | inl low ↦ low_differs p (word_sum (d.front ++ d.was ∷ d.rest)) (word_sum (d.front ++ d.became ∷ d.rest)) d.was d.became low d.byte_was d.byte_became
          d.other cs' cg'
      | inr high ↦ high_differs p (word_sum (d.front ++ d.was ∷ d.rest)) (word_sum (d.front ++ d.became ∷ d.rest)) d.was d.became high d.byte_was
          d.byte_became d.other cs' cg'
    ]

-- a word is at most 65535, and the high half that an odd last byte is, 65280
pub word_sum_bound : (xs : List ℕ) → AreBytes xs → 2 * word_sum xs ≤ 65535 * (length xs + 1)
word_sum_bound [] fits = omega arith
word_sum_bound (a ∷ []) fits = let fa = fits 0 in omega arith
word_sum_bound (a ∷ b ∷ xs) fits =
    let fa = fits 0 in
    let fb = fits 1 in
    let rest = word_sum_bound xs (λ i. fits (suc (suc i))) in
    omega (arith, rest)

-- an even front and what follows it
pub word_sum-split : (half n : ℕ) (xs : List ℕ) → n ≡ half + half → n ≤ length xs → word_sum xs ≡ word_sum (take n xs) + word_sum (drop n xs)
word_sum-split half n xs even inside =
    ap word_sum (sym (take-append-drop n xs)) ∙ word_sum-append half (take n xs) (drop n xs) (length-take-le n xs inside ∙ even)

-- without the checksum field, its own word is missing
word_sum-without_field : (bytes : List ℕ) → 18 ≤ length bytes → word_sum bytes ≡ word_sum (without_field bytes) + (256 * get_or bytes 16 0 + get_or bytes 17 0)
word_sum-without_field bytes long =
    let front = word_sum-split 8 16 bytes refl (omega arith) in
    let a = drop_more bytes 16 0 (omega arith) in
    let b = drop_more bytes 17 0 (omega arith) in
    let words : word_sum (drop 16 bytes) ≡ 256 * get_or bytes 16 0 + get_or bytes 17 0 + word_sum (drop 18 bytes) = rw (a, b) refl in
    let zero_word = word_sum-append 8 (take 16 bytes) (0 ∷ 0 ∷ drop 18 bytes) (length-take-le 16 bytes (omega arith)) in
    omega (arith, front, words, zero_word)

-- the field, by a number that is the sum over all bytes modulo 65535, less the field that is there
pub field_is : (src dst bytes : List ℕ) (sum own : ℕ) → 20 ≤ length bytes → own < 65536
    → sum % 65535 ≡ (word_sum (pseudo_header src dst (length bytes)) + word_sum bytes) % 65535
    → own ≡ big_from 0 2 (take (length bytes - 16) (drop 16 bytes)) → completion (sum + 65535 - own) ≡ field src dst bytes
field_is src dst bytes sum own long low sum_is own_is =
    let len : length (without_field bytes) ≡ length bytes =
    omega (arith, length-append (take 16 bytes) (0 ∷ 0 ∷ drop 18 bytes), length-take-le 16 bytes (omega arith), length-drop 18 bytes) in
    let pseudo = ap (λ (n : ℕ). word_sum (pseudo_header src dst n)) len in
    let behind = ap (big_from 0 2) (take_rest bytes 16) in
    let own' : own ≡ 256 * get_or bytes 16 0 + get_or bytes 17 0 = omega (arith, own_is, behind, get_or-drop 16 bytes 0 0, get_or-drop 16 bytes 1 0) in
    let same : (sum + 65535 - own) % 65535 ≡ segment_sum src dst (without_field bytes) % 65535 =
    omega (arith, low, sum_is, own', pseudo, word_sum-without_field bytes (omega arith)) in
    ap (λ (n : ℕ). (65535 - n) % 65535) same

-- ---- of slices that lie one after the other

pub word_sum_joined_even : (first second : List ℕ) → length first % 2 ≡ 0 → word_sum (first ++ second) ≡ word_sum first + word_sum second
word_sum_joined_even first second even = word_sum-append (length first / 2) first second (omega arith)

pub word_sum_joined_none : (first second : List ℕ) → length second ≡ 0 → word_sum (first ++ second) ≡ word_sum first + word_sum second
word_sum_joined_none first [] none = ap word_sum (append-nil first) ∙ omega arith
word_sum_joined_none first (b ∷ second) none = absurd (omega arith)

-- where the first ends within a word
pub word_sum_joined_odd : (first second : List ℕ) (last : ℕ) → last + 1 ≡ length first → last % 2 ≡ 0 → 0 < length second
    → word_sum (first ++ second) ≡ word_sum (take last first) + (256 * get_or first last 0 + get_or second 0 0) + word_sum (drop 1 second)
word_sum_joined_odd first [] last is even some = absurd (omega arith)
word_sum_joined_odd first (b ∷ second) last is even some =
    let front : List ℕ = take last first in
    let none : drop (last + 1) first ≡ [] = drop_all (last + 1) first (omega arith) in
    let parts : first ≡ front ++ (get_or first last 0 ∷ []) =
    sym (take-append-drop last first) ∙ ap (λ (rest : List ℕ). front ++ rest) (drop_more first last 0 (omega arith) ∙ ap (λ (rest : List ℕ). get_or first last 0 ∷ rest) none) in
    let sum = word_sum-append (last / 2) front (get_or first last 0 ∷ b ∷ second) (length-take-le last first (omega arith) ∙ omega arith) in
    ap (λ (xs : List ℕ). word_sum (xs ++ b ∷ second)) parts
    ∙ ap word_sum (append_assoc front (get_or first last 0 ∷ []) (b ∷ second))
    ∙ omega (arith, sum)
