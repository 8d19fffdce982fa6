-- SEGMENTS THAT GO OUT AS ONE, for a device that cuts them: they are so many emissions, one after another.
use Rattle.std.specs.Prelude.{◌≡◌, ◌<◌, ◌≤◌, ℕ, zero, suc, ◌+◌, ◌-◌, ◌*◌, [], ◌∷◌, Option, Some, None, option_map}
use Rattle.tcp_driver.specs.declared.machine.Row.{Row}
use Rattle.tcp_driver.specs.declared.machine.Sent.{Sent}
use Rattle.tcp_driver.specs.declared.machine.Wants.{Wants}
use Rattle.tcp_driver.specs.Driver.{Driving, after_emission, core_after, sent_of}
use Rattle.tcp_driver.specs.Machine.{Machine}
use Rattle.tcp_driver.specs.Times.{Times, after_segment, followed}

-- SO MANY EMISSIONS within a window: the end after them, and the end with its times, where each is made at the same time
unfoldable pub core_after_many : {S : Type 0} → Machine S → ℕ → ℕ → S → S
core_after_many m zero window s = s
core_after_many m (suc more) window s = core_after_many m more window (core_after m s window)

unfoldable pub after_emissions : {S : Type 0} → Machine S → ℕ → Driving S → ℕ → ℕ → Driving S
after_emissions m zero d now window = d
after_emissions m (suc more) d now window = after_emissions m more (after_emission m d now window) now window

-- a row is as many as it has segments; where there is none, it is the one that finds nothing
abbrev pub emissions_of : Option Row → ℕ
emissions_of None = 1
emissions_of (Some row) = row.segments

-- IN TURN: each begins where the one before it ends, and all but the last take as many numbers. None but the first changes which
-- timers have to run, and none what was acknowledged
abbrev pub Takes : Option Sent → ℕ → ℕ → Type 0
Takes sent start count = (option_map (λ s. s.start) sent ≡ Some start) × (option_map (λ s. s.count) sent ≡ Some count)

pub record IsAsBefore {S : Type 0} (m : Machine S) (s after : S) : Type 0 where
  pub wants : m.wants after ≡ m.wants s
  pub una : m.una after ≡ m.una s

unfoldable pub AreInTurn : {S : Type 0} → Machine S → ℕ → S → ℕ → ℕ → ℕ → ℕ → Type 0
AreInTurn m zero s window each start count = Takes (sent_of m s window) start count
AreInTurn m (suc more) s window each start count =
    Takes (sent_of m s window) start each
    × IsAsBefore m (core_after m s window) (core_after m (core_after m s window) window)
    × AreInTurn m more (core_after m s window) window each (start + each) (count - each)

-- A ROW is of some segments, of which the last may be shorter
pub record IsRow {S : Type 0} (m : Machine S) (s : S) (window : ℕ) (row : Row) : Type 0 where
  pub some : 0 < row.segments
  pub whole : (row.segments - 1) * row.each ≤ row.count
  pub turns : AreInTurn m (row.segments - 1) s window row.each row.start row.count

-- THE TIMES AFTER SO MANY SEGMENTS and a last one, behind each of which the end wants the same timers
abbrev pub numbers : ℕ → ℕ → Sent
numbers start count = record { to = 0 ∷ 0 ∷ 0 ∷ 0 ∷ []; len = 0; start = start; count = count }

abbrev pub after_numbers : ℕ → ℕ → Wants → ℕ → ℕ → Times → Times
after_numbers start count w una now t = followed (after_segment (Some (numbers start count)) t now) w una now

unfoldable pub after_row : ℕ → ℕ → ℕ → ℕ → Wants → ℕ → ℕ → Times → Times
after_row zero each start count w una now t = after_numbers start count w una now t
after_row (suc more) each start count w una now t = after_row more each (start + each) (count - each) w una now (after_numbers start each w una now t)
