-- A segment that comes to an address and a port of no end (RFC 9293, 3.10.7.1).
use Rattle.std.specs.Prelude.{ℕ, ◌≡◌, if◌then◌else◌, List, ◌++◌, drop, Option, Some, None, option_map, Result, Ok, Err}
use Rattle.tcp_wire.specs.Decoded.{decode_answer}
use Rattle.tcp_wire.specs.Flags.{has, rst}
use Rattle.tcp_wire.specs.Wire.{Content, encoded_bytes, header_len}
use Rattle.tcp_wire.specs.declared.fault.DecodeError.{DecodeError}
use Rattle.tcp_halves.specs.declared.config.Config.{Config}
use Rattle.tcp_conn.specs.Arrival.{after_arrival, reset_of_stray}
use Rattle.tcp_conn.specs.Emission.{emitted_bytes}
use Rattle.tcp_conn.specs.Forms.{reset_from}
use Rattle.tcp_conn.specs.NewEnd.{new_end}

-- a reset answers all but a reset, from the port that the segment is for
abbrev pub answer_to_stray : List ℕ → Content → Option Content
answer_to_stray src v = if has rst v.flags then None else Some (reset_from v.dst_port (reset_of_stray src v))

-- bytes that are no segment have no answer
abbrev pub bytes_for_stray : List ℕ → List ℕ → Result Content DecodeError → Option (List ℕ)
bytes_for_stray src dst (Ok v) = option_map (encoded_bytes dst src) (answer_to_stray src v)
bytes_for_stray src dst (Err fault) = None

-- the bytes of the reset that answers what came from `src` to `dst`, if one does
unfoldable pub stray_reset : List ℕ → List ℕ → List ℕ → Option (List ℕ)
stray_reset src dst bytes = bytes_for_stray src dst (decode_answer src dst bytes)

-- what a buffer contains once they are written: they, and after them the bytes that were there
abbrev pub with_front : Option (List ℕ) → List ℕ → List ℕ
with_front None out = out
with_front (Some reset) out = reset ++ drop header_len out

-- AS IN CLOSED: a new end that was made for the segment's address and port emits these bytes after its arrival
abbrev pub AnswersAsClosed : Type 0
AnswersAsClosed =
    (c : Config) (src bytes : List ℕ) (v : Content) → decode_answer src c.addr.0 bytes ≡ Ok v → v.dst_port ≡ c.port
    → emitted_bytes (after_arrival (new_end c) src c.addr.0 bytes) ≡ stray_reset src c.addr.0 bytes
