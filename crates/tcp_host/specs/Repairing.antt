-- A connection that finds losses by time, as an end of a host: each function is one of tcp_repair's.
use Rattle.std.specs.Prelude.{ℕ, nat_lt, Option}
use Rattle.tcp_congestion.specs.Control.{Control}
use Rattle.tcp_driver.specs.Driver.{at}
use Rattle.tcp_driver.specs.Machine.{Machine}
use Rattle.tcp_driver.specs.Times.{expiry}
use Rattle.tcp_connection.specs.Connection.{core_of}
use Rattle.tcp_connection.specs.Insight.{Insight}
use Rattle.tcp_connection.specs.Using.{after_acknowledging, after_call, after_reading}
use Rattle.tcp_repair.specs.Repairing.{Repaired, after_arriving, after_emit, after_own, after_tick, next_call, sent_by_emit, written_by_emit}
use Rattle.tcp_repair.specs.Reports.{Reports}
use Rattle.tcp_host.specs.Behaviour.{Behaviour, Usage}

abbrev pub of_repairing : {S W : Type 0} → Machine S → Insight S → (S → Option ℕ) → Control W → Reports S → Behaviour (Repaired S W)
of_repairing m i smss_of c b = record {
  room = m.room;
  established = λ r. nat_lt 0 (m.una (core_of r.connecting));
  bursting = λ r. r.connecting.flowing.driving.times.bursting;
  next_call = λ r. next_call m smss_of b r;
  arrived = λ r now src dst bytes vouched. after_arriving m i smss_of c b r now src dst bytes vouched;
  emission = λ r now window. sent_by_emit m i smss_of c b r now window;
  written = λ r now window out. written_by_emit m i smss_of c b r now window out;
  emitted = λ r now window. after_emit m i smss_of c b r now window;
  expiry = λ r now. expiry r.connecting.flowing.driving.times (at r.connecting.flowing.driving now);
  told = λ r now. after_tick m smss_of c b r now;
}

abbrev pub use_of_repairing : {S W : Type 0} → Machine S → Insight S → Usage (Repaired S W)
use_of_repairing m i = record {
  sent = λ r now text. after_own r (after_call m r.connecting now (m.sent (core_of r.connecting) text));
  read = λ r out. m.read (core_of r.connecting) out;
  received = λ r now room. after_own r (after_reading m i r.connecting now room);
  acknowledged = λ r now. after_own r (after_acknowledging m r.connecting now);
  closed = λ r now. after_own r (after_call m r.connecting now (m.closed (core_of r.connecting)));
  aborted = λ r now. after_own r (after_call m r.connecting now (m.aborted (core_of r.connecting)));
}
