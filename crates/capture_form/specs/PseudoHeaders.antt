-- THE CHECKSUM of a segment over IPv6 (RFC 8200, 8.1), and addresses of IPv4 that give the same.
use Rattle.std.specs.Prelude.{◌≡◌, ℕ, ◌+◌, ◌/◌, ◌%◌, ◌^◌, ◌<◌, ◌↔◌, List, [], ◌∷◌, ◌++◌, length}
use Rattle.tcp_numbers.specs.Checksum.{AreBytes, word_sum, Checks}
use Rattle.tcp_numbers.specs.Partial.{folded, partial_field}

-- addresses, the segment's length in four bytes, three zeros, and the protocol's number
abbrev pub pseudo6_header : List ℕ → List ℕ → ℕ → List ℕ
pseudo6_header src dst len =
    src ++ dst ++ (len / 2 ^ 24) ∷ (len / 2 ^ 16 % 256) ∷ (len / 256 % 256) ∷ (len % 256) ∷ 0 ∷ 0 ∷ 0 ∷ 6 ∷ []

-- the bytes check: their sum with the pseudo-header's, the checksum field included, is a multiple of 65535
abbrev pub Checks6 : List ℕ → List ℕ → List ℕ → Type 0
Checks6 src dst bytes = (word_sum (pseudo6_header src dst (length bytes)) + word_sum bytes) % 65535 ≡ 0

-- the field of a segment whose checksum a device computes
abbrev pub partial6_field : List ℕ → List ℕ → ℕ → ℕ
partial6_field src dst len = folded (word_sum (pseudo6_header src dst len))

-- an address of IPv4 that adds as much to a checksum as one of IPv6
pub record StandsIn (long short : List ℕ) : Type 0 where
  pub long_len : length long ≡ 16
  pub short_len : length short ≡ 4
  pub small : word_sum short < 65535
  pub sum : word_sum short % 65535 ≡ word_sum long % 65535

-- with two of these a segment checks where it does over IPv6,
abbrev pub ChecksAlike : Type 0
ChecksAlike = (src dst short_src short_dst bytes : List ℕ) → StandsIn src short_src → StandsIn dst short_dst → length bytes < 2 ^ 16
    → Checks short_src short_dst bytes ↔ Checks6 src dst bytes

-- and what a device finds in the field is the same
abbrev pub PartsAlike : Type 0
PartsAlike = (src dst short_src short_dst : List ℕ) (len : ℕ) → StandsIn src short_src → StandsIn dst short_dst → len < 2 ^ 16
    → AreBytes src → AreBytes dst → partial_field short_src short_dst len ≡ partial6_field src dst len
