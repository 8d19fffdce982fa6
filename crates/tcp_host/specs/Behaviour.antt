-- An end with its times, as functions of its state S: a driver's, or a connection's.
use Rattle.std.specs.Prelude.{ℕ, nat_lt, Bool, List, Option}
use Rattle.tcp_congestion.specs.Control.{Control}
use Rattle.tcp_driver.specs.declared.machine.Sent.{Sent}
use Rattle.tcp_driver.specs.declared.machine.Timer.{Timer}
use Rattle.tcp_driver.specs.Driver.{Driving, after_arrival, after_emission, after_time, after_user, at, sent_of, way_of, written_of}
use Rattle.tcp_driver.specs.Machine.{Machine}
use Rattle.tcp_driver.specs.Times as times
use Rattle.tcp_connection.specs.Connection.{Connecting, after_arriving, core_of}
use Rattle.tcp_connection.specs.Deadlines as connection
use Rattle.tcp_connection.specs.Going.{after_emit, sent_by_emit, written_by_emit}
use Rattle.tcp_connection.specs.Insight.{Insight}
use Rattle.tcp_connection.specs.Using.{after_acknowledging, after_call, after_reading, after_tick}

pub record Behaviour (S : Type 0) : Type 0 where
  -- the bytes that an emission requires of its buffer
  pub room : ℕ
  -- whether its handshake is over
  pub established : S → Bool
  -- whether a burst is on, and when the next call has to come outside of one
  pub bursting : S → Bool
  pub next_call : S → Option ℕ
  -- after an arrival at a time, from an address to an address, whose checksum a device has found right or not
  pub arrived : S → ℕ → List ℕ → List ℕ → List ℕ → Bool → S
  -- what goes out at a time within a window, what is written of it into a buffer, and the state after it
  pub emission : S → ℕ → ℕ → Option Sent
  pub written : S → ℕ → ℕ → List ℕ → List ℕ
  pub emitted : S → ℕ → ℕ → S
  -- the timer that expires at a time, and the state after it
  pub expiry : S → ℕ → Option Timer
  pub told : S → ℕ → S

-- what its user does to it at a time, and what is read
pub record Usage (S : Type 0) : Type 0 where
  pub sent : S → ℕ → List ℕ → S
  pub read : S → List ℕ → List ℕ
  pub received : S → ℕ → ℕ → S
  pub acknowledged : S → ℕ → S
  pub closed : S → ℕ → S
  pub aborted : S → ℕ → S

-- A DRIVER, whatever its end is
abbrev pub of_driver : {S : Type 0} → Machine S → Behaviour (Driving S)
of_driver m = record {
  room = m.room;
  established = λ d. nat_lt 0 (m.una d.core);
  bursting = λ d. d.times.bursting;
  next_call = λ d. times.next_expiry d.times;
  arrived = λ d now src dst bytes vouched. after_arrival m d (at d now) src dst bytes (way_of d vouched);
  emission = λ d now window. sent_of m d.core window;
  written = λ d now window out. written_of m d.core window out;
  emitted = λ d now window. after_emission m d (at d now) window;
  expiry = λ d now. times.expiry d.times (at d now);
  told = λ d now. after_time m d (at d now);
}

abbrev pub use_of_driver : {S : Type 0} → Machine S → Usage (Driving S)
use_of_driver m = record {
  sent = λ d now text. after_user m d (at d now) (m.sent d.core text);
  read = λ d out. m.read d.core out;
  received = λ d now room. after_user m d (at d now) (m.received d.core room);
  acknowledged = λ d now. after_user m d (at d now) (m.acknowledged d.core);
  closed = λ d now. after_user m d (at d now) (m.closed d.core);
  aborted = λ d now. after_user m d (at d now) (m.aborted d.core);
}

-- A CONNECTION, whatever its end and its window are
abbrev pub of_connection : {S W : Type 0} → Machine S → Insight S → (S → Option ℕ) → Control W → Behaviour (Connecting S W)
of_connection m i smss_of c = record {
  room = m.room;
  established = λ k. nat_lt 0 (m.una (core_of k));
  bursting = λ k. k.flowing.driving.times.bursting;
  next_call = λ k. connection.next_call m k;
  arrived = λ k now src dst bytes vouched. after_arriving m i smss_of c k now src dst bytes vouched;
  emission = λ k now window. sent_by_emit m i c k now window;
  written = λ k now window out. written_by_emit m i c k now window out;
  emitted = λ k now window. after_emit m i c k now window;
  expiry = λ k now. times.expiry k.flowing.driving.times (at k.flowing.driving now);
  told = λ k now. after_tick m c k now;
}

abbrev pub use_of_connection : {S W : Type 0} → Machine S → Insight S → Usage (Connecting S W)
use_of_connection m i = record {
  sent = λ k now text. after_call m k now (m.sent (core_of k) text);
  read = λ k out. m.read (core_of k) out;
  received = λ k now room. after_reading m i k now room;
  acknowledged = λ k now. after_acknowledging m k now;
  closed = λ k now. after_call m k now (m.closed (core_of k));
  aborted = λ k now. after_call m k now (m.aborted (core_of k));
}
