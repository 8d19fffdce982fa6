-- THE BLOCKS of a capture in the pcapng form (draft-ietf-opsawg-pcapng), and their options.
use Rattle.std.specs.Prelude.{ℕ, zero, suc, ◌+◌, ◌-◌, ◌*◌, ◌/◌, ◌%◌, ◌==◌, Bool, ◌&&◌, ◌||◌, not, nat_lt, if◌then◌else◌, List, [], length, take, drop, Option, Some, None}
use Rattle.capture_form.specs.Numbers.{number_in}
use Rattle.capture_form.specs.declared.order.Order.{Order}
use Rattle.capture_form.specs.declared.order.Order.TheVariants.{Big, Little}

pub record BlockContent : Type 0 where
  pub kind : ℕ
  pub body : List ℕ

-- A SECTION begins with a block of type 0a0d0d0a, which reads the same in both orders (section 4.1),
abbrev pub section_kind : ℕ
section_kind = 168627466

abbrev pub is_section : List ℕ → Bool
is_section bytes = not (nat_lt (length bytes) 4) && number_in Big 4 bytes == section_kind

-- whose third word is 1a2b3c4d in the order of the section
abbrev pub order_magic : ℕ
order_magic = 439041101

abbrev pub order_at : Order → List ℕ → Order
order_at order bytes =
    if is_section bytes then (if number_in Big 4 (drop 8 bytes) == order_magic then Big else Little) else order

-- A BLOCK (section 3.1): its type, its total length, its body, and its total length again, which is a multiple of four
abbrev pub total_len : Order → List ℕ → ℕ
total_len order bytes = number_in order 4 (drop 4 bytes)

-- The most that a block has, as in libpcap: all names or secrets of a capture can stand in one block. A block that tells more is damaged.
abbrev pub max_total : ℕ
max_total = 16777216

abbrev pub is_total : ℕ → Bool
is_total len = not (nat_lt len 12) && (len % 4 == 0 && not (nat_lt max_total len))

abbrev pub is_ended : Order → List ℕ → Bool
is_ended order bytes = number_in order 4 (drop (total_len order bytes - 4) bytes) == total_len order bytes

-- whether a block begins these bytes, and all of it is there
unfoldable pub is_whole : Order → List ℕ → Bool
is_whole order bytes =
    not (nat_lt (length bytes) 12) && (is_total (total_len order bytes) && (not (nat_lt (length bytes) (total_len order bytes)) && is_ended order bytes))

-- whether none begins them, whatever follows
unfoldable pub is_broken : Order → List ℕ → Bool
is_broken order bytes =
    not (nat_lt (length bytes) 12) && (not (is_total (total_len order bytes)) || (not (nat_lt (length bytes) (total_len order bytes)) && not (is_ended order bytes)))

abbrev pub block_in : Order → List ℕ → BlockContent
block_in order bytes = record { kind = number_in order 4 bytes; body = take (total_len order bytes - 12) (drop 8 bytes) }

-- the block that begins these bytes, and what follows it
unfoldable pub block_at : Order → List ℕ → Option (BlockContent × List ℕ)
block_at order bytes = if is_whole order bytes then Some (block_in order bytes, drop (total_len order bytes) bytes) else None

-- OPTIONS (section 3.5): a code, a length and a value, which zeros bring to a multiple of four. Code 0 ends them.
abbrev pub padded : ℕ → ℕ
padded len = (len + 3) / 4 * 4

abbrev pub option_len : Order → List ℕ → ℕ
option_len order bytes = number_in order 2 (drop 2 bytes)

-- the value of the first with this code among n options; no bytes where there is none
unfoldable pub value_in : ℕ → Order → ℕ → List ℕ → List ℕ
value_in zero order code bytes = []
value_in (suc n) order code bytes =
    if nat_lt (length bytes) (4 + option_len order bytes) || number_in order 2 bytes == 0 then []
    else (if number_in order 2 bytes == code then take (option_len order bytes) (drop 4 bytes)
    else value_in n order code (drop (4 + padded (option_len order bytes)) bytes))

-- among all: each takes a byte or more
unfoldable pub value_of : Order → ℕ → List ℕ → List ℕ
value_of order code bytes = value_in (length bytes) order code bytes

-- the number that the value is, if it has so many bytes
abbrev pub number_of : Order → ℕ → ℕ → List ℕ → ℕ → ℕ
number_of order code n bytes other =
    if length (value_of order code bytes) == n then number_in order n (value_of order code bytes) else other
