-- The lemmas on an end, on two and on worlds that the files above cite, passed on from one place. Declares nothing.
pub use Rattle.tcp_progress.proofs.laws.FlightSentAgain.{again_lem, emission, no-handshake, sends-synchronized}
pub use Rattle.tcp_progress.proofs.laws.UnsentSent.{new_lem, stands-or-none, still-done}
pub use Rattle.tcp_progress.proofs.laws.PendingSent.{with_pending-due}
pub use Rattle.tcp_progress.proofs.steady.Table.{own_fin-acked}
pub use Rattle.tcp_progress.proofs.turn.Live.{acked-all, both-live, fin-last, flight-sends, GoOn, has-room, in-flight, IsStill, live-in, live-sends}
pub use Rattle.tcp_progress.proofs.turn.Live.{no-syn-pending, past-syn, steady-back, still-ack_alone, still-acknowledging, still-emission, still-next}
pub use Rattle.tcp_progress.proofs.turn.Live.{still-reading, still-reorder, still-resend, still-resend_first, still-retransmit, swapped, unsent-sends, waits}
pub use Rattle.tcp_progress.proofs.steady.AlwaysSteady.{in-every-world, IsKept, kept-steady, side-pair}
pub use Rattle.tcp_progress.proofs.turn.Emitted.{arrives, delivered, due-way, emitted-as, fresh-emitted, goes, goes-due, IsFresh, IsOnItsWay, IsSyn}
pub use Rattle.tcp_progress.proofs.turn.Emitted.{no-reset, of_peer, syn-due, syn-emitted, unexpired}
pub use Rattle.tcp_progress.proofs.turn.Delivered.{delivered-in, delivered-next, IsOpenTo}
pub use Rattle.tcp_progress.proofs.turn.Ended.{up-stays, waits-streams}
pub use Rattle.tcp_progress.proofs.turn.Waking.{emissions-last, IsOld, old-wakes, syn-old, text-old}
pub use Rattle.tcp_progress.proofs.turn.Answering.{KeepsPending, pending-judgement, pending-same, range-same, RangeDone}
pub use Rattle.tcp_progress.proofs.turn.Bursting.{bursting-emits, IsBounded, IsBursting, timeout-bursts}
pub use Rattle.tcp_progress.proofs.turn.Calm.{closed-ending, ends-plainly, Grows, how-ends, IsMoved, Resets, way-later}
pub use Rattle.tcp_progress.proofs.turn.CalmWorlds.{moves-event, says-over, Steps, steps-all, steps-event, steps-left, steps-streams, steps-then}
pub use Rattle.tcp_progress.proofs.turn.Turning.{after-append, all-append, all-emissions, all-more, all-untimed, among-behind, among-left, among-right}
pub use Rattle.tcp_progress.proofs.turn.Turning.{AreAmong, calm-append, calm-emissions, calm-served, come-after, come-among, come-both, come-first}
pub use Rattle.tcp_progress.proofs.turn.Turning.{got-through, have-read, reads-calm, tail-calm, turn-calm, turn-same, turn-tail, TurnLowers, turns-calm}
pub use Rattle.tcp_progress.proofs.turn.Turning.{untimed-calm}
pub use Rattle.tcp_progress.proofs.turn.Sides.{at-event, deliver-at, deliver-to, either-side, emit-at, emit-endpoint, emit-other, emit-party, timer-at}
pub use Rattle.tcp_progress.proofs.turn.Sides.{timer-endpoint, timer-other, twice}
pub use Rattle.tcp_progress.proofs.turn.GoingOn.{AreStill, going-live, IsGoing, IsStillFrom, KeepsReady, Lowers, lowers, lowers-only, over, over-served}
pub use Rattle.tcp_progress.proofs.turn.GoingOn.{side-left, side-on, steps-both, still-back}
