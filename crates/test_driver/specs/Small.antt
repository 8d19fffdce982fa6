-- A small end as a machine: it sends numbers, one in a segment.
use Rattle.std.specs.Prelude.{ℕ, ◌+◌, ◌-◌, ◌^◌, Bool, true, false, not, ◌&&◌, ◌||◌, ◌==◌, nat_lt, if◌then◌else◌, List, [], ◌∷◌, length, Option, Some, None, is_some, option_map, min, max}
use Rattle.tcp_driver.specs.declared.machine.Report.{Report}
use Rattle.tcp_driver.specs.declared.machine.Row.{Row}
use Rattle.tcp_driver.specs.declared.machine.Sent.{Sent}
use Rattle.tcp_driver.specs.declared.machine.Timer.{Timer}
use Rattle.tcp_driver.specs.declared.machine.Timer.TheVariants.{Retransmit, Reorder, TimeWait, User}
use Rattle.tcp_driver.specs.declared.machine.Wants.{Wants}
use Rattle.tcp_driver.specs.Driver.{holds_by}
use Rattle.tcp_driver.specs.Machine.{Machine}
use Rattle.test_driver.specs.declared.small.Small.{Small}

abbrev pub is_open : Small → Bool
is_open s = not s.is_over

abbrev pub takes_text : Small → Bool
takes_text s = not s.is_closed && is_open s

abbrev pub is_in_flight : Small → Bool
is_in_flight s = nat_lt s.una s.nxt && is_open s

-- all that it sent is acknowledged behind its close, all that came is read, and the peer hasn't closed
abbrev pub awaits_fin : Small → Bool
awaits_fin s = (s.is_closed && s.una == s.accepted) && (s.unread == 0 && (not s.is_resting && is_open s))

abbrev pub wants : Small → Wants
wants s =
    record { retransmit = is_in_flight s; reorder = s.has_gap && is_open s; time_wait = s.is_resting && is_open s; fin_wait_2 = awaits_fin s }

abbrev pub expired : Small → Timer → Small
expired s Retransmit = record s { again = s.una; until = s.nxt; has_gap = false }
expired s Reorder = record s { again = s.una; until = min (s.una + 1) (2 ^ 64 - 1) }
expired s TimeWait = record s { is_over = true }
expired s User = record s { is_over = true }

-- an acknowledgement of what was never sent is one of all that was
abbrev pub acked_to : Small → ℕ → ℕ
acked_to s ack = max s.una (min s.nxt ack)

abbrev pub report : Small → List ℕ → List ℕ → List ℕ → Report
report s src dst (ack ∷ gap ∷ fin ∷ window ∷ rest) =
    record { acked = acked_to s ack - s.una; is_duplicate = ack == s.una; at_once = fin == 1; window = Some window; repeats_fin = s.is_resting && fin == 1; from_peer = fin == 1 || nat_lt 0 window }
report s src dst other = record { acked = 0; is_duplicate = false; at_once = false; window = None; repeats_fin = false; from_peer = false }

abbrev pub arrived : Small → List ℕ → List ℕ → List ℕ → Small
arrived s src dst (ack ∷ gap ∷ fin ∷ window ∷ rest) = record s {
  una = acked_to s ack;
  again = max s.again (acked_to s ack);
  has_gap = gap == 1;
  is_owed = fin == 1 || s.is_owed;
  unread = if fin == 1 then 1 else s.unread;
  is_resting = if fin == 1 then s.is_resting || acked_to s ack == s.nxt else s.is_resting;
}
arrived s src dst other = s

abbrev pub segment : ℕ → ℕ → Sent
segment start count = record { to = 10 ∷ 0 ∷ 0 ∷ 2 ∷ []; len = 14; start = start; count = count }

abbrev pub due : Small → Option Sent
due s =
    if s.is_over then None
    else (if nat_lt s.again s.until then Some (segment s.again 1)
    else (if nat_lt s.nxt s.accepted then Some (segment s.nxt 1)
    else (if s.is_owed then Some (segment s.nxt 0) else None)))

abbrev pub emitted : Small → Small
emitted s =
    if s.is_over then s
    else (if nat_lt s.again s.until then record s { again = s.again + 1; is_owed = false }
    else (if nat_lt s.nxt s.accepted then record s { nxt = s.nxt + 1; is_owed = false } else record s { is_owed = false }))

abbrev pub alone : Small → Option Sent
alone s = if s.is_owed && is_open s then Some (segment s.nxt 0) else None

-- what goes out within a window, and each alone
abbrev pub goes_out : Small → ℕ → Option Sent
goes_out s window = if holds_by (due s) s.una (s.nxt - s.una) (is_some (alone s)) window then alone s else due s

abbrev pub row_of : Sent → Row
row_of sent = record { start = sent.start; count = sent.count; each = sent.count; segments = 1 }

abbrev pub first_resent : Small → Small
first_resent s = if is_in_flight s then record s { again = s.una; until = s.una + 1 } else s

abbrev pub is_between : Small → ℕ → ℕ → Bool
is_between s from to = nat_lt (max s.una from) (min s.nxt to) && is_open s

abbrev pub resent : Small → ℕ → ℕ → Small
resent s from to = if is_between s from to then record s { again = max s.una from; until = min s.nxt to } else s

abbrev pub accepted : Small → ℕ → Small
accepted s count = if takes_text s then record s { accepted = min (s.accepted + count) (2 ^ 64 - 1) } else s

abbrev pub closed : Small → Small
closed s = if takes_text s then record s { accepted = min (s.accepted + 1) (2 ^ 64 - 1); is_closed = true } else s

abbrev pub machine : Machine Small
machine = record {
  room = 14;
  wants = wants;
  una = λ s. s.una;
  flight = λ s. s.nxt - s.una;
  reported = λ s. if s.has_gap then 1 else 0;
  ignores_resets = λ s. s.is_resting;
  expired = expired;
  report = λ s src dst bytes way. report s src dst bytes;
  arrived = λ s src dst bytes way. arrived s src dst bytes;
  due = due;
  written = λ s out. out;
  emitted = emitted;
  alone = alone;
  written_alone = λ s out. out;
  emitted_alone = λ s. record s { is_owed = false };
  row = λ s window most room. option_map row_of (goes_out s window);
  written_row = λ s window most out. out;
  can_resend = is_in_flight;
  first_resent = first_resent;
  resends = is_between;
  resent = resent;
  sent = λ s text. accepted s (length text);
  read = λ s out. out;
  received = λ s room. record s { unread = 0 };
  acknowledged = λ s. record s { is_owed = true };
  closed = closed;
  aborted = λ s. record s { is_over = true };
}
