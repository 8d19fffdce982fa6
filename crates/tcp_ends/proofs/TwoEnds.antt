-- What was reached is safe, and each list of calls a list of events.
use Rattle.tcp_reasm.specs.Reassembly.{default_runs}
use Rattle.tcp_ends.specs.Pair.{new_member, pair_of}
use Rattle.tcp_ends.specs.Among.{TwoEndsAmongStrangersAreSafe, TwoEndsAmongStrangersAreSafeWithRuns, pair_after_incidents}
use Rattle.tcp_ends.specs.Laws.{GuardedCallsAreEvents, TwoEndsAreSafe, TwoEndsAreSafeWithRuns}
use Rattle.tcp_ends.specs.Pair.{pair_after_all}
use Rattle.tcp_ends.proofs.Projections.{calls-bytes, calls-events}
use Rattle.tcp_ends.proofs.Reached.{all-at, began, calls-at, safe-at}

pub guarded_calls_lem : (H : Type 0) → GuardedCallsAreEvents H
guarded_calls_lem H life a b runs_a runs_b opening_a opening_b x y list most one two lets_a lets_b e f bytes =
    let p = pair_of life (new_member x) (new_member y) in
    let begun = began life a b runs_a runs_b most one two x y opening_a opening_b lets_a lets_b e f in
    (calls-bytes p list bytes, calls-events p list (calls-at life a b runs_a runs_b most one two p list begun bytes).0)

pub two_ends_with_runs_lem : (H : Type 0) → TwoEndsAreSafeWithRuns H
two_ends_with_runs_lem H life a b runs_a runs_b opening_a opening_b x y list most one two lets_a lets_b e f bytes =
    let p = pair_of life (new_member x) (new_member y) in
    let begun = began life a b runs_a runs_b most one two x y opening_a opening_b lets_a lets_b e f in
    safe-at life a b runs_a runs_b most one two (pair_after_all p list) (calls-at life a b runs_a runs_b most one two p list begun bytes).1

pub two_ends_are_safe_lem : (H : Type 0) → TwoEndsAreSafe H
two_ends_are_safe_lem H life a b opening_a opening_b x y list = two_ends_with_runs_lem H life a b default_runs default_runs opening_a opening_b x y list

pub strangers_with_runs_lem : (H : Type 0) → TwoEndsAmongStrangersAreSafeWithRuns H
strangers_with_runs_lem H life a b runs_a runs_b opening_a opening_b x y list most one two lets_a lets_b e f fair =
    let p = pair_of life (new_member x) (new_member y) in
    let begun = began life a b runs_a runs_b most one two x y opening_a opening_b lets_a lets_b e f in
    safe-at life a b runs_a runs_b most one two (pair_after_incidents p list) (all-at life a b runs_a runs_b most one two p list begun fair).1

pub among_strangers_lem : (H : Type 0) → TwoEndsAmongStrangersAreSafe H
among_strangers_lem H life a b opening_a opening_b x y list = strangers_with_runs_lem H life a b default_runs default_runs opening_a opening_b x y list
