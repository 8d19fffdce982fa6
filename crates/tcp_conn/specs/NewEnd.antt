-- A new end (RFC 9293, 3.3.2).
use Rattle.std.specs.Prelude.{ℕ, ◌≡◌, ◌↔◌, false, Result, Err, IfOk, OnOk}
use Rattle.tcp_halves.specs.declared.config.Config.{Config}
use Rattle.tcp_halves.specs.declared.config.ConfigError.{ConfigError}
use Rattle.tcp_halves.specs.declared.config.ConfigError.TheVariants as faults
use Rattle.tcp_halves.specs.Config.{HasBadCapacity, HasBadLimit, HasBadMss, HasBadShift, IsConfig, IsGoodConfig}
use Rattle.tcp_conn.specs.declared.phase.Ending.TheVariants.{NotEnded}
use Rattle.tcp_conn.specs.declared.phase.Phase.TheVariants as phases
use Rattle.tcp_conn.specs.declared.phase.Phase.TheVariants.{Closed}
use Rattle.tcp_halves.specs.Link.{new_link}
use Rattle.tcp_conn.specs.Pending.{nothing_pending, no_peer}
use Rattle.tcp_conn.specs.State.{IsWithin, State}
use Rattle.tcp_halves.specs.Sender.{sending_with_runs}
use Rattle.tcp_halves.specs.Receiver.{receiving_with_runs}
use Rattle.tcp_reasm.specs.Reassembly.{default_runs}

-- CLOSED, empty, nothing pending; at most this many runs are kept out of order, and as many of the peer's are remembered
abbrev pub end_with_runs : Config → ℕ → State
end_with_runs c runs = record {
  config = c;
  phase = phases.Closed;
  ending = NotEnded;
  closing = false;
  peer = no_peer;
  link = new_link;
  sending = sending_with_runs c.send_capacity runs;
  receiving = receiving_with_runs c.recv_capacity runs;
  pending = nothing_pending;
}

abbrev pub new_end : Config → State
new_end c = end_with_runs c default_runs

-- MAKING AN END answers a new end, the first fault of the Config, or, for a good Config alone, that there is no memory
pub record MakesEndOf (c : Config) (runs : ℕ) (result : Result State ConfigError) : Type 0 where
  pub new : IfOk result (λ e. e ≡ end_with_runs c runs)
  pub bad_capacity : (result ≡ Err faults.BadCapacity) ↔ HasBadCapacity c
  pub bad_mss : (result ≡ Err faults.BadMss) ↔ HasBadMss c
  pub bad_shift : (result ≡ Err faults.BadShift) ↔ HasBadShift c
  pub bad_limit : (result ≡ Err faults.BadLimit) ↔ HasBadLimit c
  pub good : (result ≡ Err faults.NoMemory) → IsGoodConfig c
  pub made : OnOk result (IsConfig c)
  pub within : IfOk result IsWithin

abbrev pub MakesEnd : Config → Result State ConfigError → Type 0
MakesEnd c result = MakesEndOf c default_runs result
