-- WHAT IS UNDER WAY IN RECOVERY: pipe (RFC 6675, 4).
use Rattle.std.specs.Prelude.{◌≡◌, ℕ, ◌+◌, ◌<◌, ◌≤◌, true, false, Option}
use Rattle.tcp_congestion.specs.Control.{Control}
use Rattle.tcp_driver.specs.Machine.{Machine}
use Rattle.tcp_driver.specs.declared.machine.Report.{Report}
use Rattle.tcp_flow.specs.Flow.{Flowing, says_something, told}

-- what blocks report has left the network: a window in recovery lets out ssthresh and that at most, and ssthresh stays
pub record KeepsPipe {W : Type 0} (c : Control W) (w : W) (reported : ℕ) : Type 0 where
  pub room : c.room (c.with_pipe w reported) 0 ≤ c.ssthresh w + reported
  pub ssthresh : c.ssthresh (c.with_pipe w reported) ≡ c.ssthresh w

pub record RecoveryKeepsPipe {W : Type 0} (c : Control W) : Type 0 where
  pub keeps : (w : W) (reported : ℕ) → c.is_recovering w ≡ true → 0 < reported → KeepsPipe c w reported
  -- no recovery goes on where both SYNs have just agreed on SMSS
  pub begins_anew : (w : W) (smss : ℕ) → c.is_recovering (c.agreed w smss) ≡ false

-- NO MORE THAN SSTHRESH IS UNDER WAY IN RECOVERY beside what blocks report (RFC 6675, 4 and 5): behind each arrival that says something
-- of what is in flight, whatever it says and however often, no more than these is let out from SND.UNA on
abbrev pub PipeStaysInThreshold : {S W : Type 0} → Machine S → (S → Option ℕ) → Control W → Type 0
PipeStaysInThreshold {S = S} {W = W} m smss_of c =
    (f : Flowing S W) (una reported : ℕ) (report : Report) (now : ℕ) → c.limits f.window ≡ true → says_something m f una report ≡ true
    → c.is_recovering (told m smss_of c f una reported report now).window ≡ true → 0 < m.reported (told m smss_of c f una reported report now).driving.core
    → c.room (told m smss_of c f una reported report now).window 0
    ≤ c.ssthresh (told m smss_of c f una reported report now).window + m.reported (told m smss_of c f una reported report now).driving.core
