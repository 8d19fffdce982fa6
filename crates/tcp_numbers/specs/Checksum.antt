-- The checksum of a segment (RFC 9293, 3.1).
use Rattle.std.specs.Prelude.{◌≡◌, ℕ, ◌+◌, ◌-◌, ◌*◌, ◌/◌, ◌%◌, ◌<◌, ◌≢◌, List, [], ◌∷◌, ◌++◌, length, take, drop, slice_index}

-- the length in bytes of the fixed header
abbrev pub header_len : ℕ
header_len = 20

-- the length in bytes of the longest segment: what an IPv4 packet carries after its own header
abbrev pub max_len : ℕ
max_len = 65515

-- each cell is a byte
abbrev pub AreBytes : List ℕ → Type 0
AreBytes bytes = (i : ℕ) → slice_index bytes i < 256

-- the plain whole-number sum of the 16-bit words, an odd last byte being a high half
abbrev pub word_sum : List ℕ → ℕ
word_sum [] = 0
word_sum (high ∷ []) = 256 * high
word_sum (high ∷ low ∷ rest) = 256 * high + low + word_sum rest

-- addresses, a zero byte, the protocol's number and the segment's length: a whole number of words
abbrev pub pseudo_header : List ℕ → List ℕ → ℕ → List ℕ
pseudo_header src dst len = src ++ dst ++ 0 ∷ 6 ∷ (len / 256) ∷ (len % 256) ∷ []

-- the sum over the pseudo-header and the segment
abbrev pub segment_sum : List ℕ → List ℕ → List ℕ → ℕ
segment_sum src dst bytes = word_sum (pseudo_header src dst (length bytes)) + word_sum bytes

-- the bytes check: their sum, the checksum field included, is a multiple of 65535
abbrev pub Checks : List ℕ → List ℕ → List ℕ → Type 0
Checks src dst bytes = segment_sum src dst bytes % 65535 ≡ 0

-- the bytes of a segment with its checksum field, bytes 16 and 17, taken as zero
abbrev pub without_field : List ℕ → List ℕ
without_field bytes = take 16 bytes ++ 0 ∷ 0 ∷ drop 18 bytes

-- the field that makes a segment check, where this is its sum without the field
abbrev pub completion : ℕ → ℕ
completion sum = (65535 - sum % 65535) % 65535

-- the checksum field that makes the bytes check, with their own field taken as zero
abbrev pub field : List ℕ → List ℕ → List ℕ → ℕ
field src dst bytes = completion (segment_sum src dst (without_field bytes))

-- two segments are equal but for one byte
pub record DiffersInOnePlace (sent got : List ℕ) : Type 0 where
  pub front : List ℕ
  pub was : ℕ
  pub became : ℕ
  pub rest : List ℕ
  pub sent_is : sent ≡ front ++ was ∷ rest
  pub got_is : got ≡ front ++ became ∷ rest
  pub other : was ≢ became
  pub byte_was : was < 256
  pub byte_became : became < 256
