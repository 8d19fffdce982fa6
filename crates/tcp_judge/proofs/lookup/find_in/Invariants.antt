use Rattle.std.proofs.Common.{◌≡◌, drop}
use Rattle.tcp_judge.specs.Heard.{has_come}
use Rattle.tcp_judge.proofs.lookup.find_in.Given as goal

-- it is asked of the segments that are left
abbrev pub invariant-loop-i : goal.invariant-loop-i
invariant-loop-i l = has_come l.spans l.wanted.0 ≡ has_come (drop l.i l.spans) l.wanted.0
