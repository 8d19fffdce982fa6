-- The answer of a call, and what became of bytes.
use Rattle.std.specs.Prelude.{ℕ, List, ◌++◌, codes, decimal, Result, Ok, Err}
use Rattle.tcp_wire.specs.declared.fault.DecodeError.{DecodeError}
use Rattle.tcp_wire.specs.Wire.{Content}
use Rattle.tcp_conn.specs.declared.outcome.CallError.{CallError}
use Rattle.tcp_conn.specs.declared.outcome.Received.{Received}
use Rattle.tcp_conn.specs.declared.outcome.Received.TheVariants.{Bytes, Nothing, EndOfStream}
use Rattle.tcp_conn.specs.declared.outcome.Arrival.{Arrival}
use Rattle.tcp_conn.specs.declared.outcome.Arrival.TheVariants.{Malformed, NotMine, Dropped, Processed}
use Rattle.tcp_conn.specs.Outcome.{call_error_number}
use Rattle.kit_text.specs.Texts.{bytes_text}
use Rattle.kit_text.specs.Segments.{summary_text, fault_text}

-- a call or a step that was refused
abbrev pub refused_text : ℕ → List ℕ
refused_text number = codes "refused " ++ decimal number

-- CALLS: how many bytes were accepted
abbrev pub send_text : Result ℕ CallError → List ℕ
send_text (Ok count) = codes "took " ++ decimal count
send_text (Err e) = refused_text (call_error_number e)

-- the bytes that were delivered, if any
abbrev pub receive_text : Result Received CallError → List ℕ → List ℕ
receive_text (Ok (Bytes count)) bytes = codes "bytes " ++ bytes_text bytes
receive_text (Ok Nothing) bytes = codes "nothing"
receive_text (Ok EndOfStream) bytes = codes "end"
receive_text (Err e) bytes = refused_text (call_error_number e)

-- SEGMENTS: a summary of the segment's bytes. Bytes that are no segment, which no end emits, are written as those that arrive
abbrev pub segment_text : Result Content DecodeError → List ℕ
segment_text (Ok v) = summary_text v
segment_text (Err e) = fault_text e

-- ARRIVALS
abbrev pub arrival_text : Arrival → List ℕ
arrival_text (Malformed e) = fault_text e
arrival_text NotMine = codes "not-mine"
arrival_text Dropped = codes "dropped"
arrival_text Processed = codes "processed"
