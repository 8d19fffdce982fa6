-- A connection whose silent peer is asked as an end of a host: each function is its own.
use Rattle.std.specs.Prelude.{ℕ, nat_lt}
use Rattle.tcp_congestion.specs.Control.{Control}
use Rattle.tcp_conn.specs.declared.emit.transmit.TheConstants.{EMIT_ROOM}
use Rattle.tcp_connection.specs.Wired.{insight}
use Rattle.tcp_end.specs.Wired.{machine}
use Rattle.tcp_host.specs.Behaviour.{Behaviour, Usage}
use Rattle.tcp_host.specs.Repairing.{use_of_repairing}
use Rattle.tcp_steady.specs.declared.steady.Steady.{Steady}
use Rattle.tcp_steady.specs.Steady.{after_arriving, after_emit, after_tick, end_of, expired, next_call, sent_by_emit, with_repairing, written_by_emit}

module _ {W B A : Type 0} where
  abbrev pub of_steady : Control W → Behaviour (Steady W B A)
  of_steady c = record {
    room = EMIT_ROOM;
    established = λ s. nat_lt 0 (end_of s).sending.snd_una;
    bursting = λ s. s.repairing.connecting.flowing.driving.times.bursting;
    next_call = λ s. next_call s;
    arrived = λ s now src dst bytes vouched. after_arriving c s now src dst bytes vouched;
    emission = λ s now window. sent_by_emit c s now window;
    written = λ s now window out. written_by_emit c s now window out;
    emitted = λ s now window. after_emit c s now window;
    expiry = λ s now. expired c s now;
    told = λ s now. after_tick c s now;
  }

  -- what its user does is the connection's own
  abbrev pub use_of_steady : Usage (Steady W B A)
  use_of_steady = record {
    sent = λ s now text. with_repairing s ((use_of_repairing machine insight).sent s.repairing now text);
    read = λ s out. (use_of_repairing machine insight).read s.repairing out;
    received = λ s now room. with_repairing s ((use_of_repairing machine insight).received s.repairing now room);
    acknowledged = λ s now. with_repairing s ((use_of_repairing machine insight).acknowledged s.repairing now);
    closed = λ s now. with_repairing s ((use_of_repairing machine insight).closed s.repairing now);
    aborted = λ s now. with_repairing s ((use_of_repairing machine insight).aborted s.repairing now);
  }
