use Rattle.tcp_replay.proofs.Words.{AllByRecursion, event_content, HasBytes, HintsAreTrue, IsSafe, KeepsAllSegments, map, take}
use Rattle.tcp_replay.proofs.run.Runs.{RunsTo}
use Rattle.tcp_replay.proofs.world.World.run.Given as goal

-- the world is where the events so far led, none of which was refused
abbrev pub invariant-loop-i : goal.invariant-loop-i
invariant-loop-i g l = record {
  so_far : RunsTo l.fn.self l.self (map event_content l.events) l.i;
  bytes : AllByRecursion HasBytes (take l.i (map event_content l.events));
  keeps : KeepsAllSegments l.fn.self → KeepsAllSegments l.self;
  safe : IsSafe l.self;
  hints : HintsAreTrue l.self;
}
