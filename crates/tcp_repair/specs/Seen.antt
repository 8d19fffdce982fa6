-- What a recovery sees of a connection at a time.
use Rattle.std.specs.Prelude.{ℕ, ◌+◌, ◌^◌, Option, Some, None, min, unwrap_or}
use Rattle.tcp_timing.specs.declared.round_trip.RoundTrip.{RoundTrip}
use Rattle.tcp_congestion.specs.Sizes.{latest}
use Rattle.tcp_driver.specs.Deadlines.{last}
use Rattle.tcp_driver.specs.Driver.{Driving}
use Rattle.tcp_driver.specs.Machine.{Machine}
use Rattle.tcp_driver.specs.Times.{next_expiry}
use Rattle.tcp_connection.specs.Connection.{first_smss}
use Rattle.tcp_repair.specs.Reports.{Reports}
use Rattle.tcp_repair.specs.declared.seen.Seen.{Seen}

-- SRTT, 2^40 microseconds at most (own)
abbrev pub most_trip : ℕ
most_trip = 2 ^ 40

abbrev pub srtt_of : Option RoundTrip → Option ℕ
srtt_of None = None
srtt_of (Some trip) = Some (min most_trip trip.srtt)

-- SND.UNA and SND.NXT, as positions, SND.WND, and SMSS, 536 bytes before both SYNs have agreed (RFC 9293, 3.3.1 and 3.7.1); whether
-- blocks report a gap, and whether both SYNs agreed on blocks; SRTT; and when a timer of the driver expires, the retransmission
-- timer where something is in flight
abbrev pub seen_of : {S : Type 0} → Machine S → (S → Option ℕ) → Reports S → Driving S → Seen
seen_of m smss_of b d = record {
  una = m.una d.core;
  nxt = min latest (m.una d.core + m.flight d.core);
  wnd = b.peer_window d.core;
  smss = unwrap_or (smss_of d.core) first_smss;
  has_gap = (m.wants d.core).reorder;
  has_agreed = b.agreed d.core;
  srtt = srtt_of d.times.estimate.trip;
  rto_at = unwrap_or (next_expiry d.times) last;
}
