-- How long an end waits (RFC 9293, 3.4.2, 3.8.3 and 3.9.1.1), in whole microseconds, and how far its guard reaches (RFC 5961, 5.2).
use Rattle.std.specs.Prelude.{ℕ, false, ◌==◌, if◌then◌else◌, Option, Some, None}
use Rattle.tcp_driver.specs.declared.limits.Limits.{Limits}

-- two maximum segment lifetimes, three expiries, three minutes for a SYN, a user timeout of five minutes, FIN-WAIT-2 without a limit,
-- and a guard that reaches over two of the greatest windows
abbrev pub standard : Limits
standard = record {
  time_wait = 240000000;
  suspect_after = 3;
  handshake = Some 180000000;
  user = Some 300000000;
  fin_wait_2 = None;
  guard = Some 2097152;
  is_patient = false;
}

-- how long what begins at SND.UNA may be without an answer: the SYN is at position 0
abbrev pub limit_of : Limits → ℕ → Option ℕ
limit_of l una = if una == 0 then l.handshake else l.user
