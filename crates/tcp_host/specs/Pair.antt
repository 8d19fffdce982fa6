-- WHOM A SEGMENT IS FOR (RFC 9293, 3.1): the pair of the sockets that it goes to and comes from.
use Rattle.std.specs.Prelude.{ℕ, ◌+◌, ◌*◌, Bool, false, ◌==◌, List, ◌∷◌, Option, Some, None, bit_and, slice_get}
use Rattle.tcp_host.specs.declared.pair.Pair.{Pair}

-- two bytes are a number, the greater first
abbrev pub number : ℕ → ℕ → ℕ
number first second = first * 256 + second

abbrev pub pair_of : List ℕ → List ℕ → List ℕ → Option Pair
pair_of src dst (a ∷ b ∷ c ∷ d ∷ rest) =
    Some (record { local = record { addr = dst; port = number c d }; peer = record { addr = src; port = number a b } })
pair_of src dst other = None

-- IT ASKS FOR A CONNECTION where it has SYN, and neither RST nor ACK (RFC 9293, 3.10.7.2)
abbrev pub asks_by : Option ℕ → Bool
asks_by None = false
asks_by (Some flags) = bit_and flags 22 == 2

abbrev pub asks : List ℕ → Bool
asks bytes = asks_by (slice_get bytes 13)

-- A SEGMENT ACKNOWLEDGES something: ACK (RFC 9293, 3.1)
abbrev pub acknowledges_by : Option ℕ → Bool
acknowledges_by None = false
acknowledges_by (Some flags) = bit_and flags 16 == 16

abbrev pub acknowledges : List ℕ → Bool
acknowledges bytes = acknowledges_by (slice_get bytes 13)
