-- The control bits of a segment, each as its value in the byte of flags (RFC 9293, 3.1).
use Rattle.std.specs.Prelude.{ℕ, ◌/◌, ◌%◌, ◌==◌, Bool}

-- FIN: no more data from the sender
abbrev pub fin : ℕ
fin = 1

-- SYN: synchronize sequence numbers
abbrev pub syn : ℕ
syn = 2

-- RST: reset the connection
abbrev pub rst : ℕ
rst = 4

-- PSH: push function
abbrev pub psh : ℕ
psh = 8

-- ACK: the acknowledgement number is significant
abbrev pub ack : ℕ
ack = 16

-- URG: the urgent pointer is significant
abbrev pub urg : ℕ
urg = 32

-- ECE: ECN echo (RFC 3168, 6.1)
abbrev pub ece : ℕ
ece = 64

-- congestion window reduced (RFC 3168, 6.1)
abbrev pub cwr : ℕ
cwr = 128

-- whether the bit of this value is set
abbrev pub has : ℕ → ℕ → Bool
has bit flags = flags / bit % 2 == 1
