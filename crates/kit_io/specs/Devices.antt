-- The counts of readers and writers: calls that failed, reads that met the end of their input, and writes that no flush has
-- followed.
use Rattle.std.specs.Prelude.{◌≡◌, ℕ, ◌==◌, ◌&&◌, nat_lt, if◌then◌else◌, List, ◌++◌, Option, Result, Ok, Err}
use Rattle.std.specs.Io.KnownBytes.{Appends}

-- a read that failed
abbrev pub read_failures : {E : Type 0} → Result ℕ E → ℕ
read_failures (Ok n) = 0
read_failures (Err e) = 1

-- a read of no bytes, with room for some
abbrev pub read_ends : {E : Type 0} → Result ℕ E → ℕ → ℕ
read_ends (Ok n) room = if n == 0 && nat_lt 0 room then 1 else 0
read_ends (Err e) room = 0

-- a write that failed, or wrote none of some bytes
abbrev pub write_failures : {E : Type 0} → Result ℕ E → ℕ → ℕ
write_failures (Ok n) offered = if n == 0 && nat_lt 0 offered then 1 else 0
write_failures (Err e) offered = 1

abbrev pub flush_failures : {E : Type 0} → Result (Unit {0}) E → ℕ
flush_failures (Ok done) = 0
flush_failures (Err e) = 1

-- the writes that no flush has followed, after one more flush: none, unless it failed
abbrev pub unflushed_after : {E : Type 0} → Result (Unit {0}) E → ℕ → ℕ
unflushed_after (Ok done) old = 0
unflushed_after (Err e) old = old

-- the view of a counted device: the device, the calls that failed, the reads that met the end, and the writes that no flush
-- has followed
abbrev pub device_of : {T : Type 0} → T × ℕ × ℕ × ℕ → T
device_of c = c.0

abbrev pub failures_of : {T : Type 0} → T × ℕ × ℕ × ℕ → ℕ
failures_of c = c.1

abbrev pub ends_of : {T : Type 0} → T × ℕ × ℕ × ℕ → ℕ
ends_of c = c.2

abbrev pub unflushed_of : {T : Type 0} → T × ℕ × ℕ × ℕ → ℕ
unflushed_of c = c.3

-- a prefix of some bytes was written: that prefix, and what is left
pub record AppendsFront (old new : Option (List ℕ)) (bytes : List ℕ) : Type 0 where
  pub front : List ℕ
  pub rest : List ℕ
  pub whole : front ++ rest ≡ bytes
  pub appends : Appends old new front
