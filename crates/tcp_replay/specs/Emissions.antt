-- What goes out of an end at an emission, as the segment that is due or as the acknowledgement alone (RFC 9293, 3.8).
use Rattle.std.specs.Prelude.{ℕ, Bool, true, false, List, Option, option_map}
use Rattle.tcp_conn.specs.declared.emit.due.Due.{Due}
use Rattle.tcp_conn.specs.Due.{due_of, ack_alone}
use Rattle.tcp_conn.specs.State.{State}
use Rattle.tcp_conn.specs.Writing.{bytes_of, destination_of}

-- what is due, or the acknowledgement alone
abbrev pub due_for : Bool → State → Option Due
due_for true s = ack_alone s
due_for false s = due_of s

-- whom it goes to, and its bytes
abbrev pub segment_as : State → Option Due → Option (List ℕ × List ℕ)
segment_as s due = option_map (λ due. ((destination_of s due).addr.0, bytes_of s due)) due
