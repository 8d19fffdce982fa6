use Rattle.tcp_replay.proofs.Words.{AllByRecursion, HasRanges, alone_with_runs, IsConfig, IsLogOf, map, solo_content, take}
use Rattle.tcp_replay.proofs.solo_log.solo_with_runs_in.Given as goal

-- the log is that of the events so far
abbrev pub invariant-loop-i : goal.invariant-loop-i
invariant-loop-i g l = record {
  made : IsConfig l.fn.config;
  so_far : IsLogOf l.log (alone_with_runs l.fn.config l.fn.runs (take l.i (map solo_content l.events)));
  ranges : AllByRecursion HasRanges (take l.i (map solo_content l.events));
}
