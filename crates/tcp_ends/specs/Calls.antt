-- What a caller has of a call: the segment in its buffer (RFC 9293, 3.1), and the bytes that were read into it (3.10.3).
use Rattle.std.specs.Prelude.{ℕ, List, take, Option, option_map, option_to_list, Result}
use Rattle.tcp_driver.specs.declared.machine.Sent.{Sent}
use Rattle.tcp_driver.specs.Driver.{Driving}
use Rattle.tcp_conn.specs.declared.outcome.CallError.{CallError}
use Rattle.tcp_conn.specs.declared.outcome.Received.{Received}
use Rattle.tcp_end.specs.declared.wired.Wired.{Wired}
use Rattle.tcp_replay.specs.World.{SentSegment, sent_by}
use Rattle.tcp_ends.specs.Pair.{count_delivered}

-- AN EMISSION that reports its length
abbrev pub sent_after : {H : Type 0} → Driving (Wired H) → Option Sent → List ℕ → List SentSegment
sent_after d sent out = option_to_list (option_map (λ (s : Sent). sent_by d.core.end (take s.len out)) sent)

-- A READ that answers how much it has read
abbrev pub cut_out : Result Received CallError → List ℕ → List ℕ
cut_out answer out = take (count_delivered answer) out
