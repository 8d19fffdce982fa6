use Rattle.std.proofs.Common.{◌≡◌, ◌≤◌, length}
use Rattle.tcp_halves.specs.Marks.{after_blocks, reported_blocks}
use Rattle.tcp_halves.proofs.sender.Sender.mark_reported.Given as goal

abbrev pub invariant-loop-option : goal.invariant-loop-option
invariant-loop-option g l = record {
  state : after_blocks l.iss.0 l.self (reported_blocks l.left) ≡ after_blocks l.iss.0 l.initial.self (reported_blocks l.initial.left);
  capacity : l.self.queue.capacity ≡ l.initial.self.queue.capacity;
  queued : length l.self.queue.bytes ≤ l.self.queue.capacity;
}

abbrev pub decreases-loop-option : goal.decreases-loop-option
decreases-loop-option g l = length l.left
