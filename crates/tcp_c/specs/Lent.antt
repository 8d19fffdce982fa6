-- What is reported to C of bytes that are lent where they lie (RFC 9293, 3.10.3, 3.7 and 3.8), and of a segment for a device
-- that computes the checksum (3.1).
use Rattle.std.specs.Prelude.{◌≡◌, ◌↔◌, ℕ, nat_lt, if◌then◌else◌, List, [], length, take, is_some, Option, Some, None, unwrap_or}
use denote.RawPtr.{Ptr, block_ptr, null_ptr}
use denote.Ref.{Bor}
use Rattle.tcp_conn.specs.Calls.{receive_answer, received_bytes}
use Rattle.tcp_conn.specs.Emission.{destination, emitted_bytes}
use Rattle.tcp_conn.specs.Partial.{partial_after}
use Rattle.tcp_conn.specs.State.{State}
use Rattle.tcp_c.specs.Answers.{done, little_room, nothing_due, received_number}
use Rattle.tcp_c.specs.Status.{flag}

-- where the first of these bytes lies; null where there is none
abbrev pub address_of : Bor (List ℕ) → Ptr
address_of bytes = if nat_lt 0 (length bytes.now) then block_ptr bytes.ref_ptr.0 bytes.ref_ptr.1 else null_ptr

-- a part of so many bytes is at null exactly where it is empty
abbrev pub IsNullIfEmpty : Ptr → ℕ → Type 0
IsNullIfEmpty at count = (at ≡ null_ptr) ↔ (count ≡ 0)

-- PEEK answers as RECEIVE into a buffer for all unread bytes
abbrev pub peek_number : State → ℕ
peek_number s = received_number (receive_answer s (length s.receiving.inbox.unread))

-- how many bytes it lends: as many as that would deliver
abbrev pub peek_length : State → ℕ
peek_length s = length (received_bytes s (length s.receiving.inbox.unread))

-- whether the peer has closed, so that none follows them; 0 where none is lent
abbrev pub peek_ends : State → ℕ
peek_ends s = if nat_lt 0 (peek_length s) then flag s.receiving.finished else 0

-- PARTS, which requires room for a header of `least` bytes: whether a segment is due
abbrev pub parts_number : ℕ → ℕ → State → ℕ
parts_number least room s = if nat_lt room least then little_room else (if is_some (destination s) then done else nothing_due)

-- the bytes of that segment, none where none is due
abbrev pub due_bytes : State → List ℕ
due_bytes s = unwrap_or (emitted_bytes s) []

-- how many bytes the header and the two parts of the text have together
abbrev pub parts_length : ℕ → ℕ → State → ℕ
parts_length least room s = if nat_lt room least then 0 else length (due_bytes s)

-- the first `count` bytes of that segment
abbrev pub first_due : ℕ → Option State → List ℕ
first_due count None = []
first_due count (Some s) = take count (due_bytes s)

-- PARTIAL: the content of the buffer after an emission for a device that computes the checksum
abbrev pub partial_buffer : ℕ → List ℕ → Option State → List ℕ
partial_buffer least out None = out
partial_buffer least out (Some s) = if nat_lt (length out) least then out else partial_after s out
