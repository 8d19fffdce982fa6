-- The words of the laws of this crate, passed on from one place. Declares nothing.
pub use Rattle.tcp_replay.specs.declared.event.Side.{Side}
pub use Rattle.tcp_replay.specs.declared.event.Side.TheVariants.{A, B}
pub use Rattle.tcp_replay.specs.declared.outcome.StepError.{StepError}
pub use Rattle.tcp_progress.specs.Answered.{IsUnacceptable, MayAnswer, SpokenToAnswers, StandsAtNext}
pub use Rattle.tcp_progress.specs.Edge.{AdvertisesWithin}
pub use Rattle.tcp_progress.specs.Everywhere.{InEveryWorld}
pub use Rattle.tcp_progress.specs.Fair.{all_room, AllCome, both_served, BurstEnds, CanHaveTurns, Comes, Delivers, EachBurstEnds, emissions, GetsThrough}
pub use Rattle.tcp_progress.specs.Fair.{GotThrough, HasTurns, is_reset, IsCalm, IsIdle, IsTurn, IsUntimed, NeverGrows, NoneDiscarded, reads, served}
pub use Rattle.tcp_progress.specs.Fair.{time_waits, TurnsCanBeHad, WhatIsLeftNeverGrows, WhoIsServedGetsThrough}
pub use Rattle.tcp_progress.specs.Half.{AnswerArrives, CanHaveHalves, GetsThroughByHalves, HalfTurnsGetThrough, HalvesCanBeHad, HasBothHalves, HasHalfTurn}
pub use Rattle.tcp_progress.specs.Half.{AreCalm, Arrives, HasHalves, HasReadAll, HaveRoom, IsCalmNow, SegmentIsAnswered, SendsAt, count_sent}
pub use Rattle.tcp_progress.specs.Half.{endpoint_at, timeout}
pub use Rattle.tcp_progress.specs.Handshake.{AreOpen, CanOpen, CanReachUnaided, HandshakesCanBeFinished, HaveSyns, IsUnaided, OpensAndGetsThrough}
pub use Rattle.tcp_progress.specs.Handshake.{WhoIsServedOpens}
pub use Rattle.tcp_progress.specs.Measure.{all_of, left_in, left_of_both}
pub use Rattle.tcp_progress.specs.Progress.{AckedIsReleased, AcksNew, begins_at, BringsOn, ends_at, is_synchronized, IsNext, IsPlainAck, IsReleased}
pub use Rattle.tcp_progress.specs.Progress.{PendingIsSent, TakesWhatIsNext}
pub use Rattle.tcp_progress.specs.Resent.{CoversNext, FlightGoesOutAgain, GoesOut, IsInFlight, IsUnsent, KeepsFlight, MaySend, MovesOn, UnsentGoesOut}
pub use Rattle.tcp_progress.specs.Resent.{after_emissions}
pub use Rattle.tcp_progress.specs.Sent.{TakeOnlySent, TakesOnlySent}
pub use Rattle.tcp_progress.specs.Settled.{AreOpening, CanReach, CanSettle, HasEndedInOrder, HasStreamsOf, IsLive, IsNotStuck, IsQuiet, IsSettled, IsThrough}
pub use Rattle.tcp_progress.specs.Settled.{NoWorldIsStuck, least_life}
pub use Rattle.tcp_progress.specs.Stage.{KnowsPort, ReleasesAll, Says, SaysByPhase}
pub use Rattle.tcp_progress.specs.Steady.{EveryWorldIsSteady, IsSteady, IsSteadyEnd, IsSteadyPair}
pub use Rattle.tcp_progress.specs.WithRuns.{InEveryWorldWithRuns, NothingIsTakenBeforeItIsSentWithRuns}
