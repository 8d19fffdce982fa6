-- What the retransmission timeout is made from (RFC 6298, 2 and 5). All times are whole microseconds.
use Rattle.std.specs.Prelude.{ℕ, ◌^◌, ◌<◌, ◌≤◌}
use Rattle.tcp_timing.specs.declared.rules.Rules.{Rules}

-- 2^40 us, twelve days: no sum of times in this crate overflows
abbrev pub longest : ℕ
longest = 2 ^ 40

-- the values of RFC 6298, 2.1, 2.4 and 5.7, with a clock of milliseconds, and 60 s as the greatest timeout (2.5)
abbrev pub standard : Rules
standard = record { first = 1000000; least = 1000000; greatest = 60000000; granularity = 1000; after_syn = 3000000 }

-- a timeout can be made from these
pub record IsSound (r : Rules) : Type 0 where
  pub positive : 0 < r.least
  pub ordered : r.least ≤ r.greatest
  pub greatest : r.greatest ≤ longest
  pub granularity : r.granularity ≤ longest
