-- The unread bytes, lent where they lie and then consumed (RFC 9293, 3.10.3).
use Rattle.std.specs.Prelude.{ℕ, length, Result, min}
use Rattle.tcp_conn.specs.declared.outcome.CallError.{CallError}
use Rattle.tcp_conn.specs.State.{State}
use Rattle.tcp_conn.specs.Calls.{answer_unless, receive_refusal}

-- CONSUME: as many of the first unread bytes as there are, and as were asked for; refused as RECEIVE is
abbrev pub consume_answer : State → ℕ → Result ℕ CallError
consume_answer s count = answer_unless (receive_refusal s) (min count (length s.receiving.inbox.unread))
