-- A TIME-WAIT RECORD IN A HOST (RFC 9293, 3.3.2): what takes the place of an end in TIME-WAIT, with its times.
use Rattle.std.specs.Prelude.{ℕ, ◌+◌, nat_le, Bool, false, true, if◌then◌else◌, List, Option, Some, None, min, option_map}
use Rattle.tcp_driver.specs.declared.machine.Sent.{Sent}
use Rattle.tcp_driver.specs.declared.machine.Timer.TheVariants.{TimeWait}
use Rattle.tcp_driver.specs.Deadlines.{last}
use Rattle.tcp_driver.specs.Driver.{is_reset}
use Rattle.tcp_wire.specs.Decoded.{decode_answer}
use Rattle.tcp_conn.specs.declared.outcome.Arrival.{Arrival}
use Rattle.tcp_conn.specs.Arrival.{after_arrival, arrival_answer}
use Rattle.tcp_conn.specs.Emission.{after_emission, buffer_after, destination}
use Rattle.tcp_conn.specs.TimeWait.{TimeWaitRecord, as_state, time_wait_of}
use Rattle.tcp_end.specs.Wired.{is_last_fin}
use Rattle.tcp_host.specs.Behaviour.{Behaviour}
use Rattle.tcp_host.specs.declared.record.Record.{Record}

-- THE PEER'S FIN AGAIN has the number before RCV.NXT; it starts TIME-WAIT anew (RFC 9293, 3.10.7.4, eighth)
abbrev pub repeats_fin : TimeWaitRecord → List ℕ → List ℕ → List ℕ → Bool
repeats_fin r src dst bytes = is_last_fin r.rcv_nxt (decode_answer src dst bytes)

abbrev pub until_after : Record → ℕ → List ℕ → List ℕ → List ℕ → ℕ
until_after r now src dst bytes = if repeats_fin r.time_wait src dst bytes then min last now + min last r.span else r.until

-- A RESET COUNTS AS LOST (RFC 1337, 3), and else it answers as the end in whose place it is
abbrev pub answer_of_record : Record → List ℕ → List ℕ → List ℕ → Option Arrival
answer_of_record r src dst bytes = if is_reset bytes then None else Some (arrival_answer (as_state r.time_wait) src dst bytes)

abbrev pub record_after_segment : Record → ℕ → List ℕ → List ℕ → List ℕ → Record
record_after_segment r now src dst bytes =
    record r { time_wait = time_wait_of (after_arrival (as_state r.time_wait) src dst bytes); until = until_after r now src dst bytes }

abbrev pub record_after : Record → ℕ → List ℕ → List ℕ → List ℕ → Record
record_after r now src dst bytes = if is_reset bytes then r else record_after_segment r now src dst bytes

-- ITS ANSWERS take no numbers, and have 20 bytes each: no options
abbrev pub answer_to : List ℕ → Sent
answer_to to = record { to = to; len = 20; start = 0; count = 0 }

-- it sums each segment, also one whose checksum a device has found right (own); it never bursts, and is told the time once,
-- when TIME-WAIT is over
abbrev pub of_record : Behaviour Record
of_record = record {
  room = 20;
  established = λ r. true;
  bursting = λ r. false;
  next_call = λ r. Some r.until;
  arrived = λ r now src dst bytes vouched. record_after r now src dst bytes;
  emission = λ r now window. option_map answer_to (destination (as_state r.time_wait));
  written = λ r now window out. buffer_after (as_state r.time_wait) out;
  emitted = λ r now window. record r { time_wait = time_wait_of (after_emission (as_state r.time_wait)) };
  expiry = λ r now. if nat_le r.until (min last now) then Some TimeWait else None;
  told = λ r now. r;
}

-- WHAT AN END LEAVES: its record, which is over when the end's next timer would have expired, that of TIME-WAIT
abbrev pub left_by : Option TimeWaitRecord → Option ℕ → ℕ → Option Record
left_by (Some time_wait) (Some until) span = Some (record { time_wait = time_wait; until = until; span = span })
left_by time_wait until span = None
