-- THE HEADERS OF EXTENSION between the header of IPv6 and what it carries (RFC 8200, 4). Each tells the next one's number.
use Rattle.std.specs.Prelude.{◌≡◌, ℕ, zero, suc, ◌+◌, ◌*◌, ◌/◌, ◌%◌, ◌==◌, Bool, true, false, ◌&&◌, ◌||◌, not, nat_lt, if◌then◌else◌, List, [], ◌∷◌, ◌++◌, length, drop, slice_index}
use Rattle.std.specs.List.{AllByRecursion}
use Rattle.byteorder.specs.Endian.{big_number}

-- what they lead to: a header of another kind, and all that begins with it; a part of a packet; or a header that isn't there whole
pub data UpperContent : Type 0 where
  Upper : ℕ → List ℕ → UpperContent
  PartContent : UpperContent
  ShortContent : UpperContent

-- 0 options for each hop (4.3), 43 a route (4.4), 44 a fragment (4.5), 51 authentication (RFC 4302), 60 options for the destination (4.6)
abbrev pub is_extension : ℕ → Bool
is_extension kind = kind == 0 || (kind == 43 || (kind == 44 || (kind == 51 || kind == 60)))

-- the length in bytes. The second byte tells the units of eight bytes behind the first eight; of authentication those of four, less two
abbrev pub extension_len : ℕ → List ℕ → ℕ
extension_len kind bytes =
    if kind == 44 then 8 else (if kind == 51 then (slice_index bytes 1 + 2) * 4 else (slice_index bytes 1 + 1) * 8)

-- a fragment, by its offset, the first 13 of 16 bits, or that more follow, the last one. One that is neither is whole (RFC 6946). Each
-- fragment tells what the first one begins with (4.5), so that one of another protocol than TCP, 6, is known.
abbrev pub is_whole : List ℕ → Bool
is_whole bytes = big_number 2 (drop 2 bytes) / 8 == 0 && big_number 2 (drop 2 bytes) % 2 == 0

abbrev pub is_part : ℕ → List ℕ → Bool
is_part kind bytes = kind == 44 && (not (is_whole bytes) && (slice_index bytes 0 == 6 || is_extension (slice_index bytes 0)))

-- the next header's number; none, 59 (4.7), where segments of a route are left: the packet's destination isn't that of what it carries (8.1)
abbrev pub next_kind : ℕ → List ℕ → ℕ
next_kind kind bytes = if kind == 43 && not (slice_index bytes 3 == 0) then 59 else slice_index bytes 0

-- what at most n of them lead to
unfoldable pub upper_in : ℕ → ℕ → List ℕ → UpperContent
upper_in zero kind bytes = if is_extension kind then ShortContent else Upper kind bytes
upper_in (suc n) kind bytes =
    if not (is_extension kind) then Upper kind bytes
    else (if nat_lt (length bytes) (extension_len kind bytes) then ShortContent
    else (if is_part kind bytes then PartContent
    else upper_in n (next_kind kind bytes) (drop (extension_len kind bytes) bytes)))

-- and all: each takes a byte or more
unfoldable pub upper_of : ℕ → List ℕ → UpperContent
upper_of kind bytes = upper_in (length bytes) kind bytes

-- WRITING them: each its kind and its bytes behind the next one's number
pub record ExtensionWriting : Type 0 where
  pub kind : ℕ
  pub body : List ℕ

-- it is as long as it tells, no fragment, and no route that isn't at its end
pub record IsPassed (e : ExtensionWriting) : Type 0 where
  pub kind : is_extension e.kind ≡ true
  pub len : suc (length e.body) ≡ extension_len e.kind (0 ∷ e.body)
  pub whole : (e.kind == 44 && not (is_whole (0 ∷ e.body))) ≡ false
  pub ended : next_kind e.kind (0 ∷ e.body) ≡ 0

-- the number of the first header, where one of this kind is behind them
abbrev pub first_kind : List ExtensionWriting → ℕ → ℕ
first_kind [] kind = kind
first_kind (e ∷ es) kind = e.kind

-- and their bytes before it
abbrev pub headers_before : List ExtensionWriting → ℕ → List ℕ → List ℕ
headers_before [] kind bytes = bytes
headers_before (e ∷ es) kind bytes = (first_kind es kind ∷ e.body) ++ headers_before es kind bytes

-- all are passed over, of any number and in any order
abbrev pub HeadersPassed : Type 0
HeadersPassed = (headers : List ExtensionWriting) (kind : ℕ) (bytes : List ℕ) → AllByRecursion IsPassed headers → is_extension kind ≡ false
    → upper_of (first_kind headers kind) (headers_before headers kind bytes) ≡ Upper kind bytes
