-- A connection as an end of a host: each function is that of the connection itself, where it lies.
use Rattle.std.specs.Prelude.{ℕ, Bool, if◌then◌else◌, List, Option, Some, None}
use Rattle.region_heap.specs.declared.region.Region.{Region}
use Rattle.tcp_congestion.specs.AnyWindow.{any_control}
use Rattle.tcp_congestion.specs.declared.any_window.AnyWindow.{AnyWindow}
use Rattle.tcp_driver.specs.declared.driver.Taken.{Taken}
use Rattle.tcp_driver.specs.Times.{next_expiry}
use Rattle.tcp_conn.specs.declared.arrive.report.Taken as reports
use Rattle.tcp_conn.specs.State.{State}
use Rattle.tcp_conn.specs.TimeWait.{TimeWaitRecord, has_time_wait, time_wait_of}
use Rattle.tcp_steady.specs.declared.steady.Steady.{Steady}
use Rattle.tcp_steady.specs.Hosted.{of_steady, use_of_steady}
use Rattle.tcp_host.specs.Behaviour.{Behaviour, Usage}
use Rattle.tcp_c.specs.Connections.{end_of, taken_by}
use Rattle.tcp_c.specs.declared.connection.driven.Driven.{Driven}
use Rattle.tcp_c.specs.declared.host.lodger.Lodger.{Lodger}

abbrev pub Connects : Type 0
Connects = Steady AnyWindow Region Region

-- THE CONNECTION, and the same place with another
abbrev pub driven_in : Lodger → Driven
driven_in g = g.driven.value

abbrev pub connection_in : Lodger → Connects
connection_in g = g.driven.value.connection

abbrev pub lodged : Lodger → Connects → Lodger
lodged g k = record g { driven = record g.driven { value = record { connection = k } } }

abbrev pub lodger_end : Lodger → State
lodger_end g = end_of (driven_in g)

-- WHAT A HOST ASKS OF IT
abbrev pub of_connection : Behaviour Connects
of_connection = of_steady any_control

abbrev pub use_of_connection : Usage Connects
use_of_connection = use_of_steady

abbrev pub of_lodger : Behaviour Lodger
of_lodger = record {
  room = of_connection.room;
  established = λ g. of_connection.established (connection_in g);
  bursting = λ g. of_connection.bursting (connection_in g);
  next_call = λ g. of_connection.next_call (connection_in g);
  arrived = λ g now src dst bytes vouched. lodged g (of_connection.arrived (connection_in g) now src dst bytes vouched);
  emission = λ g now window. of_connection.emission (connection_in g) now window;
  written = λ g now window out. of_connection.written (connection_in g) now window out;
  emitted = λ g now window. lodged g (of_connection.emitted (connection_in g) now window);
  expiry = λ g now. of_connection.expiry (connection_in g) now;
  told = λ g now. lodged g (of_connection.told (connection_in g) now);
}

abbrev pub use_of_lodger : Usage Lodger
use_of_lodger = record {
  sent = λ g now text. lodged g (use_of_connection.sent (connection_in g) now text);
  read = λ g out. use_of_connection.read (connection_in g) out;
  received = λ g now room. lodged g (use_of_connection.received (connection_in g) now room);
  acknowledged = λ g now. lodged g (use_of_connection.acknowledged (connection_in g) now);
  closed = λ g now. lodged g (use_of_connection.closed (connection_in g) now);
  aborted = λ g now. lodged g (use_of_connection.aborted (connection_in g) now);
}

abbrev pub lodger_answer : Lodger → List ℕ → List ℕ → List ℕ → Bool → Taken reports.Taken
lodger_answer g src dst bytes vouched = taken_by vouched (driven_in g) src dst bytes

-- what takes its place, and when TIME-WAIT is over
abbrev pub lodger_time_wait : Lodger → Option TimeWaitRecord
lodger_time_wait g = if has_time_wait (lodger_end g) then Some (time_wait_of (lodger_end g)) else None

abbrev pub lodger_until : Lodger → Option ℕ
lodger_until g = next_expiry (driven_in g).connection.repairing.connecting.flowing.driving.times
