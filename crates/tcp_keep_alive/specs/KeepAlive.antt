-- When a silent peer is asked whether it is there, and when it is given up (RFC 9293, 3.8.4). Times are in microseconds.
use Rattle.std.specs.Prelude.{ℕ, suc, ◌+◌, ◌-◌, ◌^◌, ◌≤◌, Bool, ◌==◌, nat_le, if◌then◌else◌, Option, Some, None, IfSome, option_map}
use Rattle.tcp_keep_alive.specs.declared.rules.KeepAliveRules.{KeepAliveRules}
use Rattle.tcp_keep_alive.specs.declared.keep_alive.KeepAliveAction.{KeepAliveAction}
use Rattle.tcp_keep_alive.specs.declared.keep_alive.KeepAliveAction.TheVariants.{Nothing, Asks, GivesUp}
use Rattle.tcp_keep_alive.specs.Rules.{bounded, AreBounded}

pub record Asking : Type 0 where
  -- none: the peer is never asked
  pub rules : Option KeepAliveRules
  -- when a segment of the peer came last, or when the end began to wait for one
  pub heard_at : ℕ
  -- when the last keep-alive went out, where one did since then
  pub asked_at : ℕ
  -- how many went out since then
  pub unanswered : ℕ

-- no time is later
abbrev pub latest : ℕ
latest = 2 ^ 64 - 1

-- OFF is what it is without rules
abbrev pub new_asking : Option KeepAliveRules → ℕ → Asking
new_asking rules now = record { rules = option_map bounded rules; heard_at = now; asked_at = now; unanswered = 0 }

abbrev pub with_rules : Asking → Option KeepAliveRules → Asking
with_rules k rules = record k { rules = option_map bounded rules; unanswered = 0 }

-- A SEGMENT OF THE CONNECTION came
abbrev pub after_heard : Asking → ℕ → Asking
after_heard k now = record k { heard_at = now; unanswered = 0 }

-- THE PEER IS ASKED where nothing was heard of it for the idle time, and again after each interval
abbrev pub next_time : Asking → KeepAliveRules → ℕ
next_time k r = if k.unanswered == 0 then k.heard_at + r.idle else k.asked_at + r.interval

-- a time that never comes is none
abbrev pub time_at : ℕ → Option ℕ
time_at at = if nat_le at latest then Some at else None

abbrev pub deadline_by : Asking → Option KeepAliveRules → Option ℕ
deadline_by k None = None
deadline_by k (Some r) = time_at (next_time k r)

-- never where it mustn't be asked
abbrev pub deadline_of : Asking → Bool → Option ℕ
deadline_of k may_ask = if may_ask then deadline_by k k.rules else None

-- IT IS NOW: it is asked, or given up where as many keep-alives as the rules say went unanswered
abbrev pub action_when_due : Asking → KeepAliveRules → KeepAliveAction
action_when_due k r = if nat_le r.most k.unanswered then GivesUp else Asks

abbrev pub action_by : Asking → Option KeepAliveRules → Option ℕ → ℕ → KeepAliveAction
action_by k (Some r) (Some at) now = if nat_le at now then action_when_due k r else Nothing
action_by k rules at now = Nothing

abbrev pub action_at : Asking → ℕ → Bool → KeepAliveAction
action_at k now may_ask = action_by k k.rules (deadline_of k may_ask) now

-- a keep-alive went out
abbrev pub with_asked : Asking → ℕ → Asking
with_asked k now = record k { asked_at = now; unanswered = suc k.unanswered }

abbrev pub after : KeepAliveAction → Asking → ℕ → Asking
after Asks k now = with_asked k now
after Nothing k now = k
after GivesUp k now = k

abbrev pub after_action : Asking → ℕ → Bool → Asking
after_action k now may_ask = after (action_at k now may_ask) k now

-- WHAT ALWAYS HOLDS: the rules are as they count, and no more went unanswered than they say
pub record IsBy (k : Asking) (r : KeepAliveRules) : Type 0 where
  pub rules : AreBounded r
  pub unanswered : k.unanswered ≤ r.most

pub record IsAsking (k : Asking) : Type 0 where
  pub by : IfSome k.rules (IsBy k)
