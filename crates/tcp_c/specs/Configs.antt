-- The Config of C for a new end (RFC 9293, 3.4.1 and 3.7.1; RFC 7323, 2.2; RFC 2018, 2).
use Rattle.std.specs.Prelude.{ℕ, ◌+◌, ◌*◌, ◌≤◌, ◌<◌, not, ◌==◌, if◌then◌else◌, Some, None}
use Rattle.tcp_halves.specs.declared.config.Config.{Config}
use Rattle.tcp_sendq.specs.SendQueue.{greatest_runs}
use Rattle.region_heap.specs.Memory.{rounded}
use Rattle.tcp_c.specs.declared.records.CConfig.{CConfig}
use Rattle.tcp_c.specs.declared.runs.TheConstants.{RUNS}

-- the Config of C's record
abbrev pub config_of : CConfig → Config
config_of c = record {
  addr = record { 0 = c.addr.byte };
  port = c.port;
  isn = record { 0 = c.isn };
  mss = c.mss;
  send_capacity = c.send_capacity;
  recv_capacity = c.recv_capacity;
  window_shift = if c.scales == 0 then None else Some c.window_shift;
  sack = not (c.sack == 0);
  limit = c.limit;
}

-- the number of runs: 0 stands for the default
abbrev pub runs_of : CConfig → ℕ
runs_of c = if c.runs == 0 then RUNS else c.runs

abbrev pub HasGoodRuns : CConfig → Type 0
HasGoodRuns c = runs_of c ≤ greatest_runs

abbrev pub HasBadRuns : CConfig → Type 0
HasBadRuns c = greatest_runs < runs_of c

-- the bytes of the table of the runs which the peer reported
abbrev pub marks_of : CConfig → ℕ
marks_of c = rounded (8 * runs_of c)

-- and of that of the runs that the end keeps, with its ends
abbrev pub held_of : CConfig → ℕ
held_of c = rounded (16 * (runs_of c + 1))

-- the bytes of a block that an end of a size needs: the buffers and the two tables, each in whole units, and the end itself
abbrev pub room_beside : CConfig → ℕ → ℕ
room_beside c size = rounded c.send_capacity + rounded c.recv_capacity + marks_of c + held_of c + size

abbrev pub room_of : CConfig → ℕ
room_of c = room_beside c 416

-- and with its timers
abbrev pub connection_room_of : CConfig → ℕ
connection_room_of c = room_beside c 1200
