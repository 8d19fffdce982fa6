-- Scripts computed on their definition: a comment, a setting, an empty line, and events; settings of one key; the empty
-- script; and a first bad line.
use Rattle.std.proofs.Common.{◌≡◌, ℕ, [], ◌∷◌, ◌++◌, List, refl}
use Rattle.std.specs.Prelude.{codes, Ok, Err, None, Some, true, false}
use Rattle.tcp_halves.specs.declared.config.Config.{Config}
use Rattle.tcp_conn.specs.declared.phase.Timer.TheVariants.{Retransmit}
use Rattle.tcp_replay.specs.declared.event.Side.TheVariants.{A, B}
use Rattle.tcp_replay.specs.Events.{Listen, Connect, Receive, Timer, Emit, Deliver}
use Rattle.kit_text.specs.Lines.{numbered_from}
use Rattle.tcp_halves.specs.Config.{default_limit}
use Rattle.kit_script.specs.Settings.{default_a, default_b}
use Rattle.kit_script.specs.Statements.{statement_of}
use Rattle.tcp_reasm.specs.Reassembly.{default_runs}
use Rattle.tcp_replay.specs.World.{max_life}
use Rattle.kit_script.specs.Added.{added_line_of}
use Rattle.kit_script.specs.Script.{ScriptContent, once, default_script_2, default_script_3, script_of, script_from}

text : List ℕ
text =
    codes "# two ends" ++ 10 ∷ codes "config A isn 7" ++ 10 ∷ 10 ∷ codes "listen B" ++ 10 ∷ codes "connect A" ++ 10 ∷ codes "deliver A 0" ++ 10
    ∷ codes "timer A retransmit" ++ 10 ∷ codes "receive B 10" ++ 10 ∷ []

says : ScriptContent
says = record {
  version = 1;
  life = max_life;
  a = record default_a { isn = record { 0 = 7 } };
  b = default_b;
  runs_a = default_runs;
  runs_b = default_runs;
  events = once (Listen B) ∷ once (Connect A) ∷ once (Deliver A 0) ∷ once (Timer A Retransmit) ∷ once (Receive B 10) ∷ [];
}

reads : script_of text ≡ Ok says
unfolding text says script_of script_from statement_of numbered_from
reads = refl

-- a setting after an event has no form
late : List ℕ
late = codes "listen B" ++ 10 ∷ codes "config A isn 7" ++ 10 ∷ []

refuses : script_of late ≡ Err 2
unfolding late script_of script_from statement_of numbered_from
refuses = refl

-- a later setting of the same key takes precedence
settings : List ℕ
settings =
    codes "config A mss 1" ++ 10 ∷ codes "config B mss 200" ++ 10 ∷ codes "config A mss 100" ++ 10 ∷ codes "config A send 7" ++ 10
    ∷ codes "config B recv 9" ++ 10 ∷ codes "config B isn 0" ++ 10 ∷ codes "config A shift 14" ++ 10 ∷ codes "config B shift 3" ++ 10
    ∷ codes "config B shift none" ++ 10 ∷ codes "config B sack on" ++ 10 ∷ codes "config B sack off"

sets : ScriptContent
sets = record {
  version = 1;
  life = max_life;
  a = record default_a { mss = 100; send_capacity = 7; window_shift = Some 14 };
  b = record default_b { isn = record { 0 = 0 }; mss = 200; recv_capacity = 9; sack = false };
  runs_a = default_runs;
  runs_b = default_runs;
  events = [];
}

last_wins : script_of settings ≡ Ok sets
unfolding settings sets script_of script_from statement_of numbered_from
last_wins = refl

-- the ends of the empty script
first : Config
first = record {
  addr = record { 0 = 10 ∷ 0 ∷ 0 ∷ 1 ∷ [] };
  port = 1;
  isn = record { 0 = 1000 };
  mss = 1460;
  send_capacity = 65536;
  recv_capacity = 65536;
  window_shift = None;
  sack = true;
  limit = default_limit;
}

ends : ScriptContent
ends = record {
  version = 1;
  life = max_life;
  a = first;
  b = record first { addr = record { 0 = 10 ∷ 0 ∷ 0 ∷ 2 ∷ [] }; port = 2; isn = record { 0 = 5000 } };
  runs_a = default_runs;
  runs_b = default_runs;
  events = [];
}

empty : script_of [] ≡ Ok ends
unfolding first ends script_of script_from statement_of numbered_from
empty = refl

-- version 2: a lifetime, a limit, and an event of three turns, whose last segment is 4294967295; with one more turn it has no
-- form
long : List ℕ
long =
    codes "tcpkit 2" ++ 10 ∷ codes "config life 4" ++ 10 ∷ codes "config B limit 0" ++ 10 ∷ codes "repeat 3 deliver A 4294967293" ++ 10
    ∷ codes "emit B"

says_long : ScriptContent
says_long = record default_script_2 {
  life = 4;
  b = record default_script_2.b { limit = 0 };
  events = record { times = Some 3; event = Deliver A 4294967293 } ∷ once (Emit B) ∷ [];
}

reads_long : script_of long ≡ Ok says_long
unfolding long says_long script_of script_from added_line_of statement_of numbered_from
reads_long = refl

too_far : List ℕ
too_far = codes "tcpkit 2" ++ 10 ∷ codes "repeat 4 deliver A 4294967293"

refuses_turn : script_of too_far ≡ Err 2
unfolding too_far script_of script_from added_line_of statement_of numbered_from
refuses_turn = refl

-- the version is in the first line alone
version_later : List ℕ
version_later = 10 ∷ codes "tcpkit 2"

refuses_version : script_of version_later ≡ Err 2
unfolding version_later script_of script_from statement_of numbered_from
refuses_version = refl

-- version 3: the number of runs of each end, which version 2 doesn't have
lines_of_runs : List ℕ
lines_of_runs = codes "config A runs 1" ++ 10 ∷ codes "config B runs 4096" ++ 10 ∷ codes "config B limit 7"

reads_runs : script_of (codes "tcpkit 3" ++ 10 ∷ lines_of_runs)
    ≡ Ok (record default_script_3 { b = record default_script_3.b { limit = 7 }; runs_a = 1; runs_b = 4096 })
unfolding lines_of_runs script_of script_from added_line_of statement_of numbered_from
reads_runs = refl

refuses_runs : script_of (codes "tcpkit 2" ++ 10 ∷ lines_of_runs) ≡ Err 2
unfolding lines_of_runs script_of script_from added_line_of statement_of numbered_from
refuses_runs = refl

-- no number below 1 or above 4,096
refuses_no_runs : script_of (codes "tcpkit 3" ++ 10 ∷ codes "config A runs 0") ≡ Err 2
unfolding script_of script_from added_line_of statement_of numbered_from
refuses_no_runs = refl

refuses_more_runs : script_of (codes "tcpkit 3" ++ 10 ∷ codes "config A runs 4097") ≡ Err 2
unfolding script_of script_from added_line_of statement_of numbered_from
refuses_more_runs = refl
