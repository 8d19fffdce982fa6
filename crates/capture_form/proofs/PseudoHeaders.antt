-- Sums over the pseudo-headers of IPv4 and IPv6.
use Rattle.std.proofs.Common.{◌≡◌, ℕ, ◌+◌, ◌/◌, ◌%◌, ◌^◌, ◌<◌, ◌≤◌, List, [], ◌∷◌, ◌++◌, length, refl, sym, ap, ◌∙◌, length-append, arith}
use Rattle.tcp_numbers.specs.Checksum.{word_sum, pseudo_header}
use Rattle.tcp_numbers.specs.Partial.{folded}
use Rattle.tcp_numbers.proofs.WordSums.{word_sum-append, pseudo_parts, word_sum_bound}
use Rattle.tcp_numbers.proofs.Folding.{folded_modulo, folded_some, folded_small}
use Rattle.capture_form.specs.PseudoHeaders.{pseudo6_header, StandsIn, ChecksAlike, PartsAlike}

pub stands : (long : List ℕ) (sum : ℕ) → length long ≡ 16 → sum ≡ word_sum long % 65535 → StandsIn long (0 ∷ 0 ∷ (sum / 256) ∷ (sum % 256) ∷ [])
stands long sum len is = record {
  long_len = len;
  short_len = refl;
  small = omega (arith, is);
  sum = omega (arith, is);
}

pub pseudo6_parts : (src dst : List ℕ) (len : ℕ) → length src ≡ 16 → length dst ≡ 16 → len < 65536 → word_sum (pseudo6_header src dst len) ≡ word_sum src + word_sum dst + 6 + len
pseudo6_parts src dst len s d small =
    let both = word_sum-append 8 src dst s in
    let all = word_sum-append 16 (src ++ dst) ((len / 2 ^ 24) ∷ (len / 2 ^ 16 % 256) ∷ (len / 256 % 256) ∷ (len % 256) ∷ 0 ∷ 0 ∷ 0 ∷ 6 ∷ []) (length-append src dst ∙ omega (arith, s, d)) in
    omega (arith, both, all, small)

-- sums are alike
alike : (a b c d rest : ℕ) → c % 65535 ≡ a % 65535 → d % 65535 ≡ b % 65535 → (c + d + rest) % 65535 ≡ (a + b + rest) % 65535
alike a b c d rest first second = omega (arith, first, second)

headers_alike : (src dst short_src short_dst : List ℕ) (len : ℕ) → StandsIn src short_src → StandsIn dst short_dst → len < 65536
    → word_sum (pseudo_header short_src short_dst len) % 65535 ≡ word_sum (pseudo6_header src dst len) % 65535
headers_alike src dst short_src short_dst len s d small =
    ap (λ (n : ℕ). n % 65535) (pseudo_parts short_src short_dst len s.short_len d.short_len)
    ∙ omega (arith, alike (word_sum src) (word_sum dst) (word_sum short_src) (word_sum short_dst) (6 + len) s.sum d.sum)
    ∙ ap (λ (n : ℕ). n % 65535) (sym (pseudo6_parts src dst len s.long_len d.long_len small))

joined : (a b c : ℕ) → a % 65535 ≡ b % 65535 → (a + c) % 65535 ≡ (b + c) % 65535
joined a b c same = omega (arith, same)

pub checks_alike : ChecksAlike
checks_alike src dst short_src short_dst bytes s d small =
    let same = joined _ _ (word_sum bytes) (headers_alike src dst short_src short_dst (length bytes) s d small) in
    (λ checks. sym same ∙ checks, λ checks. same ∙ checks)

-- two that are no 0 and have 16 bits are one
within : (a b : ℕ) → 0 < a → 0 < b → a ≤ 65535 → b ≤ 65535 → a % 65535 ≡ b % 65535 → a ≡ b
within a b first second small low same = omega arith

folded_alike : (a b : ℕ) → 0 < a → 0 < b → a < 4294967296 → b < 4294967296 → a % 65535 ≡ b % 65535 → folded a ≡ folded b
folded_alike a b first second small low same =
    let one = folded_small a small in
    let other = folded_small b low in
    let some = folded_some a first in
    let more = folded_some b second in
    let moduli = folded_modulo a ∙ same ∙ sym (folded_modulo b) in
    within (folded a) (folded b) some more one other moduli

pub parts_alike : PartsAlike
parts_alike src dst short_src short_dst len s d small high low =
    let most = word_sum_bound src high in
    let other = word_sum_bound dst low in
    let short = pseudo_parts short_src short_dst len s.short_len d.short_len in
    let long = pseudo6_parts src dst len s.long_len d.long_len small in
    folded_alike _ _ (omega (arith, short)) (omega (arith, long)) (omega (arith, short, s.small, d.small, small)) (omega (arith, long, most, other, s.long_len, d.long_len, small))
    (headers_alike src dst short_src short_dst len s d small)
