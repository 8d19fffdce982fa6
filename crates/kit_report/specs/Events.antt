-- An event in the script's words.
use Rattle.std.specs.Prelude.{ℕ, List, [], ◌++◌, codes, decimal}
use Rattle.tcp_replay.specs.Events.{EventContent, Receive, Timer, Resend, Deliver, Damage, side_of}
use Rattle.tcp_replay.specs.Names.{side_name}
use Rattle.tcp_conn.specs.Names.{timer_name}
use Rattle.kit_script.specs.Names.{kind_of, kind_name}

-- the words after the side; the bytes that are sent aren't repeated
abbrev pub others_text : EventContent → List ℕ
others_text (Receive side room) = codes " " ++ decimal room
others_text (Timer side timer) = codes " " ++ timer_name timer
others_text (Resend side from to) = codes " " ++ (decimal from ++ (codes " " ++ decimal to))
others_text (Deliver from k) = codes " " ++ decimal k
others_text (Damage from k place value) = codes " " ++ (decimal k ++ (codes " " ++ (decimal place ++ (codes " " ++ decimal value))))
others_text other = []

unfoldable pub event_text : EventContent → List ℕ
event_text e = kind_name (kind_of e) ++ (codes " " ++ (side_name (side_of e) ++ others_text e))
