-- The TIME-WAIT record (RFC 9293, 3.3.2) that takes the place of an end, as a record that C keeps.
use Rattle.std.specs.Prelude.{ℕ, is_some, not, ◌==◌, if◌then◌else◌, Option, Some, None, option_map, unwrap_or}
use Rattle.tcp_halves.specs.declared.link.WaitingReset.{WaitingReset}
use Rattle.tcp_conn.specs.declared.phase.Ending.{Ending}
use Rattle.tcp_conn.specs.declared.phase.Ending.TheVariants as endings
use Rattle.tcp_conn.specs.declared.time_wait.fields.TimeWaitFields.{TimeWaitFields}
use Rattle.tcp_conn.specs.TimeWait.{TimeWaitRecord, as_state, can_be_kept, has_time_wait, kept_of, time_wait_of}
use Rattle.tcp_conn.specs.State.{State}
use Rattle.tcp_c.specs.Answers.{done, no_time_wait, not_time_wait}
use Rattle.tcp_c.specs.Segments.{nowhere}
use Rattle.tcp_c.specs.Status.{ending_number, flag}
use Rattle.tcp_c.specs.declared.records.CTimeWait.{CTimeWait}
use Rattle.tcp_c.specs.declared.c_time_wait.TheConstants.{MARK_OF_TIME_WAIT}

-- the ending of a number
abbrev pub ending_of : ℕ → Option Ending
ending_of number =
    if number == 0 then Some endings.NotEnded
    else (if number == 1 then Some endings.Orderly
    else (if number == 2 then Some endings.Reset else (if number == 3 then Some endings.Aborted else None)))

-- the waiting reset: 0 none, 1 one that acknowledges nothing, anything else one that acknowledges
abbrev pub reset_of : CTimeWait → Option WaitingReset
reset_of c =
    if c.reset == 0 then None
    else Some (record {
      to = record { addr = record { 0 = c.reset_addr.byte }; port = c.reset_port };
      seq = record { 0 = c.reset_seq };
      ack = if c.reset == 1 then None else Some (record { 0 = c.reset_ack });
    })

-- the fields of C's record, with this ending
abbrev pub fields_of : CTimeWait → Ending → TimeWaitFields
fields_of c ending = record {
  addr = record { 0 = c.addr.byte };
  port = c.port;
  peer = record { addr = record { 0 = c.peer_addr.byte }; port = c.peer_port };
  snd_nxt = record { 0 = c.snd_nxt };
  rcv_nxt = record { 0 = c.rcv_nxt };
  window = c.rcv_wnd;
  shift = c.shift;
  ack = not (c.ack == 0);
  reset = reset_of c;
  ending = ending;
}

abbrev pub kept_with : CTimeWait → Option Ending → Option TimeWaitRecord
kept_with c None = None
kept_with c (Some ending) = if can_be_kept (fields_of c ending) then Some (kept_of (fields_of c ending)) else None

-- THE TIME-WAIT RECORD of C's record; none without the mark, with no ending's number, or with a window or a shift that no end
-- has
abbrev pub time_wait_kept : CTimeWait → Option TimeWaitRecord
time_wait_kept c = if c.mark == MARK_OF_TIME_WAIT then kept_with c (ending_of c.ending) else None

-- all zero where there is no TIME-WAIT record
abbrev pub no_record : CTimeWait
no_record = record {
  mark = 0;
  addr = record { byte = nowhere };
  peer_addr = record { byte = nowhere };
  port = 0;
  peer_port = 0;
  snd_nxt = 0;
  rcv_nxt = 0;
  rcv_wnd = 0;
  reset_addr = record { byte = nowhere };
  reset_seq = 0;
  reset_ack = 0;
  reset_port = 0;
  shift = 0;
  ack = 0;
  reset = 0;
  ending = 0;
}

-- C's record of these fields, where no reset waits
abbrev pub settled_record : TimeWaitFields → CTimeWait
settled_record f = record no_record {
  mark = MARK_OF_TIME_WAIT;
  addr = record { byte = f.addr.0 };
  peer_addr = record { byte = f.peer.addr.0 };
  port = f.port;
  peer_port = f.peer.port;
  snd_nxt = f.snd_nxt.0;
  rcv_nxt = f.rcv_nxt.0;
  rcv_wnd = f.window;
  shift = f.shift;
  ack = flag f.ack;
  ending = ending_number f.ending;
}

-- and with a waiting reset, with what it acknowledges, if anything
abbrev pub with_reset : CTimeWait → WaitingReset → CTimeWait
with_reset c reset = record c {
  reset_addr = record { byte = reset.to.addr.0 };
  reset_port = reset.to.port;
  reset_seq = reset.seq.0;
  reset_ack = unwrap_or (option_map (λ ack. ack.0) reset.ack) 0;
  reset = if is_some reset.ack then 2 else 1;
}

-- FROM AN END: whether a record can take its place, and the record then
abbrev pub time_wait_number : State → ℕ
time_wait_number s = if has_time_wait s then done else not_time_wait

abbrev pub time_wait_reported : Option State → Option TimeWaitRecord
time_wait_reported None = None
time_wait_reported (Some s) = if has_time_wait s then Some (time_wait_of s) else None

-- the end whose place it takes
abbrev pub time_wait_stands_for : CTimeWait → Option State
time_wait_stands_for c = option_map as_state (time_wait_kept c)

-- what a call answers: of that end, or that there is none
abbrev pub time_wait_answer : (State → ℕ) → Option State → ℕ
time_wait_answer answer None = no_time_wait
time_wait_answer answer (Some s) = answer s

-- the record after a step of that end
abbrev pub time_wait_after : (State → State) → CTimeWait → Option TimeWaitRecord
time_wait_after step c = option_map (λ r. time_wait_of (step (as_state r))) (time_wait_kept c)
