-- When the silent peer of a connection is asked whether it is there (RFC 9293, 3.8.4), and whether new text is paced (RFC 9002, 7.7).
use Rattle.std.specs.Prelude.{ℕ, Bool, not, ◌==◌, if◌then◌else◌, Option, Some, None}
use Rattle.tcp_keep_alive.specs.declared.rules.KeepAliveRules.{KeepAliveRules}
use Rattle.tcp_steady.specs.Steady.{with_keep_alive, with_pacing}
use Rattle.tcp_c.specs.declared.records.CKeepAlive.{CKeepAlive}
use Rattle.tcp_c.specs.declared.connection.driven.Driven.{Driven}

-- of C's record: never where no time is given
abbrev pub rules_of_keep_alive : CKeepAlive → Option KeepAliveRules
rules_of_keep_alive c = if c.idle == 0 then None else Some (record { idle = c.idle; interval = c.interval; most = c.most })

-- by these rules from this time on
abbrev pub asking : Option KeepAliveRules → ℕ → Driven → Driven
asking rules now d = record { connection = with_keep_alive d.connection rules now }

-- paced or not: 0 is no
abbrev pub is_chosen : ℕ → Bool
is_chosen number = not (number == 0)

abbrev pub pacing : Bool → Driven → Driven
pacing is_on d = record { connection = with_pacing d.connection is_on }
