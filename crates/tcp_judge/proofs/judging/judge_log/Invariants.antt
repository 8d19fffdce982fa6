use Rattle.std.proofs.Common.{◌≡◌, drop}
use Rattle.std.specs.Prelude.{map}
use Rattle.tcp_judge.specs.Judgement.{first_finding}
use Rattle.tcp_judge.specs.Known.{nothing_known}
use Rattle.tcp_judge.specs.Log.{passage_content}
use Rattle.tcp_judge.proofs.judging.judge_log.Given as goal

-- what is left of the log is judged by what is known
abbrev pub invariant-loop-i : goal.invariant-loop-i
invariant-loop-i l = first_finding nothing_known 0 (map passage_content l.log) ≡ first_finding l.judge l.i (map passage_content (drop l.i l.log))
