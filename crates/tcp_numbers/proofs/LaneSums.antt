-- Words summed over lanes of 16 bits, of which the one sum wraps.
use Rattle.std.proofs.Common.{◌≡◌, ℕ, zero, suc, ◌+◌, ◌*◌, ◌/◌, ◌%◌, ◌-◌, ◌≤◌, ◌<◌, ◌^◌, List, [], ◌∷◌, length, take, drop, map, replicate, Fits, w8, w16}
use Rattle.std.proofs.Common.{refl, ap, ◌∙◌, arith}
use lib.Lanes.{Each1, zip2, fold_l, number_l, digits_l}
use Rattle.std.proofs.lemmas.List.{length-drop, length-take-le, take_rest}
use Rattle.tcp_numbers.specs.Checksum.{word_sum}
use Rattle.tcp_numbers.specs.Lanes.{high, held, AtMost}
use Rattle.tcp_numbers.proofs.WordSums.{word_sum-split}

-- the lanes of a load, a word in each with its high half as the low byte
abbrev pub loaded : List ℕ → List ℕ
loaded [] = []
loaded (a ∷ []) = []
loaded (a ∷ b ∷ xs) = (a + 256 * b) ∷ loaded xs

pub load_is : (n : ℕ) (xs : List ℕ) → length xs ≡ n + n → Each1 (Fits w8) xs → digits_l 65536 n (number_l 256 xs) ≡ loaded xs
load_is zero [] h fits = refl
load_is zero (a ∷ xs) h fits = absurd (omega arith)
load_is (suc n) [] h fits = absurd (omega arith)
load_is (suc n) (a ∷ []) h fits = absurd (omega arith)
load_is (suc n) (a ∷ b ∷ xs) h fits =
    let first : (a + 256 * (b + 256 * number_l 256 xs)) % 65536 ≡ a + 256 * b = omega (arith, fits.0.fits, fits.1.0.fits) in
    let behind : (a + 256 * (b + 256 * number_l 256 xs)) / 65536 ≡ number_l 256 xs = omega (arith, fits.0.fits, fits.1.0.fits) in
    rw (first, behind) (ap (λ (ys : List ℕ). (a + 256 * b) ∷ ys) (load_is n xs (omega arith) fits.1.1))

-- a word more in a lane
lane_high : (m l a b : ℕ) → high m l ≤ 65280 → l ≤ 65280 → a < 256 → b < 256
    → high ((m + (a + 256 * b)) % 65536) ((l + (a + 256 * b) / 256) % 65536) ≡ high m l + a
lane_high m l a b hm hl fa fb = omega (arith, hm, hl, fa, fb)

lane_low : (l a b : ℕ) → l ≤ 65280 → a < 256 → b < 256 → (l + (a + 256 * b) / 256) % 65536 ≡ l + b
lane_low l a b hl fa fb = omega (arith, hl, fa, fb)

-- the wrapping sums, lane by lane
abbrev pub mixed_after : List ℕ → List ℕ → List ℕ
mixed_after ms xs = zip2 (λ (a b : ℕ). (a + b) % 65536) ms (loaded xs)

abbrev pub lows_after : List ℕ → List ℕ → List ℕ
lows_after ls xs = zip2 (λ (a b : ℕ). (a + b) % 65536) ls (map (λ (x : ℕ). x / 256) (loaded xs))

pub held_added : (n : ℕ) (ms ls xs : List ℕ) → length ms ≡ n → length ls ≡ n → length xs ≡ n + n → AtMost 65280 ms ls → Each1 (Fits w8) xs
    → held (mixed_after ms xs) (lows_after ls xs) ≡ held ms ls + word_sum xs
held_added zero [] [] [] hm hl hx most fits = refl
held_added zero (m ∷ ms) ls xs hm hl hx most fits = absurd (omega arith)
held_added zero [] (l ∷ ls) xs hm hl hx most fits = absurd (omega arith)
held_added zero [] [] (a ∷ xs) hm hl hx most fits = absurd (omega arith)
held_added (suc n) [] ls xs hm hl hx most fits = absurd (omega arith)
held_added (suc n) (m ∷ ms) [] xs hm hl hx most fits = absurd (omega arith)
held_added (suc n) (m ∷ ms) (l ∷ ls) [] hm hl hx most fits = absurd (omega arith)
held_added (suc n) (m ∷ ms) (l ∷ ls) (a ∷ []) hm hl hx most fits = absurd (omega arith)
held_added (suc n) (m ∷ ms) (l ∷ ls) (a ∷ b ∷ xs) hm hl hx most fits =
    let rest = held_added n ms ls xs (omega arith) (omega arith) (omega arith) most.2 fits.1.1 in
    let up = lane_high m l a b most.0 most.1 fits.0.fits fits.1.0.fits in
    let down = lane_low l a b most.1 fits.0.fits fits.1.0.fits in
    omega (arith, rest, up, down)

pub most_added : (k n : ℕ) (ms ls xs : List ℕ) → length ms ≡ n → length ls ≡ n → length xs ≡ n + n → AtMost 65280 ms ls → Each1 (Fits w8) xs
    → AtMost k ms ls → AtMost (k + 255) (mixed_after ms xs) (lows_after ls xs)
most_added k zero [] [] [] hm hl hx most fits low = tt
most_added k zero (m ∷ ms) ls xs hm hl hx most fits low = absurd (omega arith)
most_added k zero [] (l ∷ ls) xs hm hl hx most fits low = absurd (omega arith)
most_added k zero [] [] (a ∷ xs) hm hl hx most fits low = absurd (omega arith)
most_added k (suc n) [] ls xs hm hl hx most fits low = absurd (omega arith)
most_added k (suc n) (m ∷ ms) [] xs hm hl hx most fits low = absurd (omega arith)
most_added k (suc n) (m ∷ ms) (l ∷ ls) [] hm hl hx most fits low = absurd (omega arith)
most_added k (suc n) (m ∷ ms) (l ∷ ls) (a ∷ []) hm hl hx most fits low = absurd (omega arith)
most_added k (suc n) (m ∷ ms) (l ∷ ls) (a ∷ b ∷ xs) hm hl hx most fits low =
    let up = lane_high m l a b most.0 most.1 fits.0.fits fits.1.0.fits in
    let down = lane_low l a b most.1 fits.0.fits fits.1.0.fits in (
      omega (arith, up, low.0, fits.0.fits),
      omega (arith, down, low.1, fits.1.0.fits),
      most_added k n ms ls xs (omega arith) (omega arith) (omega arith)
          most.2 fits.1.1 low.2,
    )

-- a greater bound
pub at_most : (j k : ℕ) (ms ls : List ℕ) → j ≤ k → AtMost j ms ls → AtMost k ms ls
at_most j k [] ls le low = tt
at_most j k (m ∷ ms) [] le low = tt
at_most j k (m ∷ ms) (l ∷ ls) le low = (omega (arith, low.0), omega (arith, low.1), at_most j k ms ls le low.2)

-- a load over n lanes
pub load_sum : (n : ℕ) (ms ls lanes xs : List ℕ) → lanes ≡ loaded xs → length ms ≡ n → length ls ≡ n → length xs ≡ n + n
    → AtMost 65280 ms ls → Each1 (Fits w8) xs
    → held (zip2 (λ (a b : ℕ). (a + b) % 65536) ms lanes) (zip2 (λ (a b : ℕ). (a + b) % 65536) ls (map (λ (x : ℕ). x / 256) lanes))
    ≡ held ms ls + word_sum xs
load_sum n ms ls lanes xs is hm hl hx most fits = rw is (held_added n ms ls xs hm hl hx most fits)

pub load_most : (n k : ℕ) (ms ls lanes xs : List ℕ) → lanes ≡ loaded xs → length ms ≡ n → length ls ≡ n → length xs ≡ n + n
    → AtMost 65280 ms ls → Each1 (Fits w8) xs → AtMost k ms ls
    → AtMost (k + 255) (zip2 (λ (a b : ℕ). (a + b) % 65536) ms lanes) (zip2 (λ (a b : ℕ). (a + b) % 65536) ls (map (λ (x : ℕ). x / 256) lanes))
load_most n k ms ls lanes xs is hm hl hx most fits low = rw is (most_added k n ms ls xs hm hl hx most fits low)

-- the word of a lane
lane_word : (m l : ℕ) → m < 65536 → l < 65536 → ((m + (65536 - l * 256 % 65536)) % 65536 * 256 % 4294967296 + l) % 4294967296 ≡ 256 * high m l + l
lane_word m l fm fl = omega (arith, fm, fl)

-- all lanes' words
abbrev pub weighed : ℕ → List ℕ → List ℕ → List ℕ
weighed n ms ls =
    zip2 (λ (a b : ℕ). (a + b) % 4294967296)
    (zip2 (λ (a b : ℕ). a * b % 4294967296) (map (λ (x : ℕ). x) (zip2 (λ (a b : ℕ). (a + (65536 - b)) % 65536) ms
    (zip2 (λ (a b : ℕ). a * 2 ^ b % 65536) ls (replicate n 8)))) (replicate n 256))
    (map (λ (x : ℕ). x) ls)

pub words_weighed : (n sum : ℕ) (ms ls : List ℕ) → length ms ≡ n → length ls ≡ n → Each1 (Fits w16) ms → Each1 (Fits w16) ls → sum + 16842495 * n < 4294967296
    → fold_l (λ (a b : ℕ). (a + b) % 4294967296) sum (weighed n ms ls) ≡ sum + held ms ls
words_weighed zero sum [] [] hm hl fm fl room = omega arith
words_weighed zero sum (m ∷ ms) ls hm hl fm fl room = absurd (omega arith)
words_weighed zero sum [] (l ∷ ls) hm hl fm fl room = absurd (omega arith)
words_weighed (suc n) sum [] ls hm hl fm fl room = absurd (omega arith)
words_weighed (suc n) sum (m ∷ ms) [] hm hl fm fl room = absurd (omega arith)
words_weighed (suc n) sum (m ∷ ms) (l ∷ ls) hm hl fm fl room =
    let word = lane_word m l fm.0.fits fl.0.fits in
    let more : (sum + ((m + (65536 - l * 256 % 65536)) % 65536 * 256 % 4294967296 + l) % 4294967296) % 4294967296 ≡ sum + (256 * high m l + l) = omega
    (arith, word, room, fl.0.fits) in
    let rest = words_weighed n (sum + (256 * high m l + l)) ms ls (omega arith) (omega arith) fm.1 fl.1 (omega (arith, room, fl.0.fits)) in
    rw more (rest ∙ omega arith)

-- the lanes hold the words in front of the rest, by so many loads of some bytes
pub record Taken (load : ℕ) (mixed lows rest bytes : List ℕ) : Type 0 where
  pub loads : ℕ
  pub len : load * loads + length rest ≡ length bytes
  pub sum : held mixed lows + word_sum rest ≡ word_sum bytes
  pub most : AtMost (255 * loads) mixed lows

zeros_most : (n : ℕ) → AtMost 0 (replicate n 0) (replicate n 0)
zeros_most zero = tt
zeros_most (suc n) = (omega arith, omega arith, zeros_most n)

no_words_held : (n : ℕ) → held (replicate n 0) (replicate n 0) ≡ 0
no_words_held zero = refl
no_words_held (suc n) = omega (arith, no_words_held n)

-- nothing is taken yet over n lanes
pub none_taken : (n load : ℕ) (bytes : List ℕ) → Taken load (replicate {A = ℕ} n 0) (replicate {A = ℕ} n 0) bytes bytes
none_taken n load bytes = record {
  loads = 0;
  len = omega arith;
  sum = omega (arith, no_words_held n);
  most = zeros_most n;
}

-- one load more, of n words
pub taken_more : (n : ℕ) (ms ls ms' ls' rest behind bytes : List ℕ) → ((k : ℕ) → (n + n) * (k + 1) ≡ (n + n) * k + (n + n)) → n + n ≤ length rest
    → behind ≡ take (length rest - (n + n)) (drop (n + n) rest) → held ms' ls' ≡ held ms ls + word_sum (take (n + n) rest)
    → ((k : ℕ) → AtMost k ms ls → AtMost (k + 255) ms' ls') → Taken (n + n) ms ls rest bytes → Taken (n + n) ms' ls' behind bytes
taken_more n ms ls ms' ls' rest behind bytes more long is sum most taken =
    let is' = is ∙ take_rest rest (n + n) in
    record {
      loads = taken.loads + 1;
      len = omega (arith, taken.len, more taken.loads, ap length is', length-drop (n + n) rest);
      sum = omega (arith, taken.sum, sum, word_sum-split n (n + n) rest refl long, ap word_sum is');
      most = at_most (255 * taken.loads + 255) (255 * (taken.loads + 1)) ms' ls' (omega arith) (most (255 * taken.loads) taken.most);
    }

no_words : (xs : List ℕ) → length xs ≡ 0 → word_sum xs ≡ 0
no_words [] h = refl
no_words (x ∷ xs) h = absurd (omega arith)

-- the lanes and what follows all loads
pub all_taken : (whole : ℕ) (ms ls rest bytes behind : List ℕ) → whole ≤ length bytes → whole % 32 ≡ 0 → behind ≡ take (length bytes - whole) (drop whole bytes)
    → length rest < 32 → Taken 32 ms ls rest (take whole bytes) → held ms ls + word_sum behind ≡ word_sum bytes
all_taken whole ms ls rest bytes behind inside even is short taken =
    let none = no_words rest (omega (arith, taken.len, length-take-le whole bytes inside)) in
    omega (arith, taken.sum, none, word_sum-split (whole / 2) whole bytes (omega arith) inside, ap word_sum (is ∙ take_rest bytes whole))
