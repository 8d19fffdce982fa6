use Rattle.std.proofs.Common.{◌≡◌, drop}
use Rattle.tcp_judge.specs.Run.{any_within}
use Rattle.tcp_judge.proofs.heard.any_within.Given as goal

-- it is asked of the SYNs that are left
abbrev pub invariant-loop-first : goal.invariant-loop-first
invariant-loop-first l = any_within l.syns l.acked_number.0 l.count ≡ any_within (drop l.first-index l.syns) l.acked_number.0 l.count
