-- An end without a clock, as functions of its state S.
use Rattle.std.specs.Prelude.{ℕ, Bool, List, Option}
use Rattle.tcp_driver.specs.declared.machine.Report.{Report}
use Rattle.tcp_driver.specs.declared.machine.Row.{Row}
use Rattle.tcp_driver.specs.declared.machine.Sent.{Sent}
use Rattle.tcp_driver.specs.declared.machine.Timer.{Timer}
use Rattle.tcp_driver.specs.declared.machine.Wants.{Wants}
use Rattle.tcp_driver.specs.declared.machine.Way.{Way}

pub record Machine (S : Type 0) : Type 0 where
  -- the bytes that an emission requires of its buffer
  pub room : ℕ
  -- which timers have to run
  pub wants : S → Wants
  -- SND.UNA, and how many numbers are in flight
  pub una : S → ℕ
  pub flight : S → ℕ
  -- how many bytes of these the peer's blocks report
  pub reported : S → ℕ
  -- whether a reset counts as lost
  pub ignores_resets : S → Bool
  -- after a timer's expiry
  pub expired : S → Timer → S
  -- what is reported of an arrival, from an address to an address by a way, and the state after it
  pub report : S → List ℕ → List ℕ → List ℕ → Way → Report
  pub arrived : S → List ℕ → List ℕ → List ℕ → Way → S
  -- what is due, what is written of it, and the state after its emission
  pub due : S → Option Sent
  pub written : S → List ℕ → List ℕ
  pub emitted : S → S
  -- the same of an acknowledgement alone
  pub alone : S → Option Sent
  pub written_alone : S → List ℕ → List ℕ
  pub emitted_alone : S → S
  -- segments as one within a window, at most so many, into so much room, and what is written of them into a buffer
  pub row : S → ℕ → ℕ → ℕ → Option Row
  pub written_row : S → ℕ → ℕ → List ℕ → List ℕ
  -- whether anything is in flight, and the state after the first segment of it is to go out again
  pub can_resend : S → Bool
  pub first_resent : S → S
  -- whether anything in flight lies between two positions, and the state after that is to go out again
  pub resends : S → ℕ → ℕ → Bool
  pub resent : S → ℕ → ℕ → S
  -- after the user's calls, and what is read
  pub sent : S → List ℕ → S
  pub read : S → List ℕ → List ℕ
  pub received : S → ℕ → S
  pub acknowledged : S → S
  pub closed : S → S
  pub aborted : S → S
