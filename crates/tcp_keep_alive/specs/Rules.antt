-- When a silent peer is asked (RFC 9293, 3.8.4), in microseconds.
use Rattle.std.specs.Prelude.{ℕ, ◌*◌, ◌≤◌, max}
use Rattle.tcp_keep_alive.specs.declared.rules.KeepAliveRules.{KeepAliveRules}

-- a second; and a single keep-alive without an answer isn't a dead connection (RFC 9293, 3.8.4)
abbrev pub least_time : ℕ
least_time = 1000000

abbrev pub least_unanswered : ℕ
least_unanswered = 2

-- two hours, and by custom 75 seconds and nine times
abbrev pub usual_rules : KeepAliveRules
usual_rules = record { idle = 2 * 60 * 60 * 1000000; interval = 75 * 1000000; most = 9 }

-- the rules as they count
abbrev pub bounded : KeepAliveRules → KeepAliveRules
bounded r = record { idle = max r.idle least_time; interval = max r.interval least_time; most = max r.most least_unanswered }

pub record AreBounded (r : KeepAliveRules) : Type 0 where
  pub idle : least_time ≤ r.idle
  pub interval : least_time ≤ r.interval
  pub most : least_unanswered ≤ r.most
