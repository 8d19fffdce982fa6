-- A TRAIN is as many calls of `emit` as it has segments.
use Rattle.std.specs.Prelude.{◌≡◌, ℕ, replicate}
use Rattle.tcp_driver.specs.Calls.{Emits, after_calls}
use Rattle.tcp_driver.specs.Driver.{Driving, at}
use Rattle.tcp_driver.specs.Machine.{Machine}
use Rattle.tcp_driver.specs.Rows.{after_emissions}

-- so many emissions at one time are so many calls, one after another
abbrev pub TrainIsEmissions : {S : Type 0} → Machine S → Type 0
TrainIsEmissions {S = S} m =
    (d : Driving S) (count now window : ℕ) → after_emissions m count d (at d now) window ≡ after_calls m d (replicate count (Emits now window))
