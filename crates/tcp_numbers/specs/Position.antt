-- Sequence numbers and positions (RFC 9293, 3.4). A position is a whole number counted from the first number of a direction:
-- the SYN is at 0, byte i of the stream at 1 + i, the FIN after the last byte. A sequence number is what 32 bits keep of it.
use Rattle.std.specs.Prelude.{ℕ, ◌+◌, ◌-◌, ◌^◌, ◌%◌, ℤ, pos, negsuc, ◌-ℤ◌, int_le, int_lt, Bool, nat_lt, ◌&&◌, if◌then◌else◌}

-- the number of a position under an initial number
abbrev pub number : ℕ → ℕ → ℕ
number initial position = (initial + position) % 2 ^ 32

-- how far the number w is ahead of the number n, modulo 2^32
abbrev pub distance : ℕ → ℕ → ℕ
distance n w = (w + (2 ^ 32 - n)) % 2 ^ 32

-- a comes before b: b is 1 to 2^31 - 1 ahead of it
abbrev pub is_before : ℕ → ℕ → Bool
is_before a b = nat_lt 0 (distance a b) && nat_lt (distance a b) (2 ^ 31)

-- the one whole number that is w modulo 2^32 and at least n - 2^31, below n + 2^31
abbrev pub near : ℕ → ℕ → ℤ
near n w =
    if nat_lt (distance (n % 2 ^ 32) w) (2 ^ 31)
    then pos (n + distance (n % 2 ^ 32) w)
    else pos (n + distance (n % 2 ^ 32) w) -ℤ pos (2 ^ 32)

-- a whole number, a negative one read as 0
abbrev pub natural_of : ℤ → ℕ
natural_of (pos p) = p
natural_of (negsuc n) = 0

-- The position that a number is read as: the nearest to an expected one (RFC 9293, 3.4). Before the first number there is
-- none, which reads as 0.
unfoldable pub position_of : ℕ → ℕ → ℕ → ℕ
position_of iss una w = natural_of (near una (distance iss w))

-- how far ahead of the position n the number w is; negative where it is before it
unfoldable pub offset : ℕ → ℕ → ℤ
offset n w = near n w -ℤ pos n

-- the position is in the interval from next on that is as long as the window
abbrev pub is_inside : ℕ → ℕ → ℤ → Bool
is_inside next window position = int_le (pos next) position && int_lt position (pos (next + window))
