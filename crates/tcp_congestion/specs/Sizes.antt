-- Bounds of sizes and times.
use Rattle.std.specs.Prelude.{ℕ, ◌^◌, ◌-◌, ◌*◌}

-- no segment is longer (RFC 9293, 3.7.1)
abbrev pub max_segment : ℕ
max_segment = 65535

-- L is no greater (RFC 9406, 4.2, where nothing is paced)
abbrev pub max_limit : ℕ
max_limit = 8

-- 2^40 bytes: no window grows past this
abbrev pub max_window : ℕ
max_window = 2 ^ 40

-- and no threshold behind a loss is higher: three quarters of it
abbrev pub max_threshold : ℕ
max_threshold = 3 * 2 ^ 38

-- no time is later
abbrev pub latest : ℕ
latest = 2 ^ 64 - 1
