use Rattle.std.proofs.Common.{◌≡◌, drop}
use Rattle.tcp_wire.specs.View.{raw_content}
use Rattle.tcp_judge.specs.Answers.{any_answer}
use Rattle.tcp_judge.proofs.answers.any_answer.Given as goal

-- it is asked of the answers that are left
abbrev pub invariant-loop-answer : goal.invariant-loop-answer
invariant-loop-answer l = any_answer (raw_content l.segment) l.answers ≡ any_answer (raw_content l.segment) (drop l.answer-index l.answers)
