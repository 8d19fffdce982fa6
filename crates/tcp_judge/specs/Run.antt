-- RUNS of what came, by which a question is answered without a look at each segment.
use Rattle.std.specs.Prelude.{◌≡◌, ℕ, ◌+◌, ◌<◌, ◌≤◌, ◌^◌, Bool, true, false, ◌||◌, nat_le, List, [], ◌∷◌}
use Rattle.tcp_numbers.specs.declared.seq.Seq.{Seq}
use Rattle.tcp_wire.specs.Position.{number, distance}
use Rattle.tcp_judge.specs.Heard.{covers, has_come}

-- the number that another one is so far ahead of
abbrev pub number_before : ℕ → ℕ → ℕ
number_before n count = distance count n

-- one of these SYNs is no further before it than so many numbers
abbrev pub any_within : List Seq → ℕ → ℕ → Bool
any_within [] acked_number count = false
any_within (first ∷ syns) acked_number count = nat_le (distance (number first.0 1) acked_number) count || any_within syns acked_number count

-- A RUN: so many numbers from one on, of which each came. All are less than 2^31 ahead of the acknowledgement
pub record IsRun (last : ℕ) (spans : List (Seq × ℕ)) (run : Seq × ℕ) : Type 0 where
  pub number : run.0.0 < 2 ^ 32
  pub near : distance last run.0.0 + run.1 ≤ 2 ^ 31
  pub came : (n : ℕ) → covers n run ≡ true → has_come spans n ≡ true
