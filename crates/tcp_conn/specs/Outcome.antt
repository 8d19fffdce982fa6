-- The numbers under which refused calls (RFC 9293, 3.10.1 to 3.10.5) are reported, and their texts.
use Rattle.std.specs.Prelude.{ℕ, List, codes}
use Rattle.tcp_conn.specs.declared.outcome.CallError.{CallError}
use Rattle.tcp_conn.specs.declared.outcome.CallError.TheVariants as calls
use Rattle.tcp_conn.specs.declared.outcome.CallError.TheVariants.{NotOpen, AlreadyOpen, Ended, StreamFull, NotConnected}

abbrev pub call_error_number : CallError → ℕ
call_error_number calls.NotOpen = 11
call_error_number calls.AlreadyOpen = 12
call_error_number calls.Closing = 13
call_error_number (calls.Ended ending) = 14
call_error_number calls.StreamFull = 15
call_error_number calls.NotConnected = 16

abbrev pub call_error_text : CallError → List ℕ
call_error_text calls.NotOpen = codes "the end was never opened"
call_error_text calls.AlreadyOpen = codes "the end is open already"
call_error_text calls.Closing = codes "the end is closing"
call_error_text (calls.Ended ending) = codes "the connection has ended"
call_error_text calls.StreamFull = codes "the direction has carried all that it may"
call_error_text calls.NotConnected = codes "no peer is known yet"
