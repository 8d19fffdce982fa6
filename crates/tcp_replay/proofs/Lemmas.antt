-- The lemmas on one end, on two and on worlds that the crates above cite, passed on from one place. Declares nothing.
pub use Rattle.tcp_replay.proofs.one_end.Alone.{same-window_and_blocks, windowed-sends, marked-sends}
pub use Rattle.tcp_replay.proofs.one_end.AloneCalls.{send-open, send-unclosed}
pub use Rattle.tcp_replay.proofs.one_end.AloneEmissions.{due-alone, end-is, GoesOutAlone, going-on, IsSaid, range_after-ends}
pub use Rattle.tcp_replay.proofs.one_end.Dues.{ack_alone-kept, again-kept, done-none, due-kept, IsAgain, KeptByDue, none-some, or-none, reset-waits, some-due}
pub use Rattle.tcp_replay.proofs.pair.Arrivals.{acked_text-to, Comes, Fair, fair-judgement, on-arrival, own_syn-nxt}
pub use Rattle.tcp_replay.proofs.pair.Calls.{KeptByCalls, MayGoOut, refusal_if-none, CanOpen}
pub use Rattle.tcp_replay.proofs.pair.Emissions.{due-bits, due-decodes, due-goes, GoesOut, rcv_position-is, reset-bit, syn-bits, waiting-bit}
pub use Rattle.tcp_replay.proofs.pair.Events.{after_segment, AllSaid, arrival-ok, Arrives, Both, both-swapped, comes, delivered-there, due-position}
pub use Rattle.tcp_replay.proofs.pair.Events.{damage-found, finds-damage, flags-in, young-both, in-world, own-decodes, PairKept, said-after, said-back, same-content, segment-sent, Speaks}
pub use Rattle.tcp_replay.proofs.one_end.Feeds.{AllHeld, AllText, Brings, brings-place, held-more, held-moved, held-none, held-same}
pub use Rattle.tcp_replay.proofs.pair.Halves.{range-more}
pub use Rattle.tcp_replay.proofs.hints.Holdings.{slice_get-before}
pub use Rattle.tcp_replay.proofs.one_end.Judgements.{IsAckOnly, IsAfterSyn, judged}
pub use Rattle.tcp_replay.proofs.Lists.{one_if, one_if-false, one_if-most}
pub use Rattle.tcp_replay.proofs.one_end.Phases.{after_syn-knows, after_syn-opened, at-closed, at-listen, discards-not_ended, end-closed, end-listen}
pub use Rattle.tcp_replay.proofs.one_end.Phases.{end-syn_received, end-syn_sent, end-synchronized, handshake-knows, handshake-una, knows-closing}
pub use Rattle.tcp_replay.proofs.one_end.Phases.{knows-fin, knows-own_fin, not-closed-ended, syn_sent-knows}
pub use Rattle.tcp_replay.proofs.pair.TakingSegments.{fin-in_turn, IsAck, IsAhead, IsYoung, kept-acked_text, kept-own_syn, kept-window_and_blocks}
pub use Rattle.tcp_replay.proofs.pair.TakingSegments.{own_syn-near, placed, Synced, text-advances, text_advance}
pub use Rattle.tcp_replay.proofs.pair.Steps.{Kept, kept-same, Moved, pair-swapped, uncapped_rcv_position}
pub use Rattle.tcp_replay.proofs.run.Worlds.{kept-after_all, kept-run, life-after, sound-after, sound-new}
pub use Rattle.tcp_replay.proofs.Cases.{own_fin-cases, window_and_blocks-cases}
pub use Rattle.tcp_replay.proofs.one_end.AloneEmissions.{text-of_due}
