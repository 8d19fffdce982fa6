-- The words of one end, of its segments, of two ends and of lists, and the lemmas about them that most proofs cite, passed on from one place. Declares nothing.
pub use Rattle.std.proofs.Common.{◌%◌, ◌&&◌, ◌*◌, ◌++◌, ◌+ℤ◌, ◌+◌, ◌-ℤ◌, ◌-◌, ◌/◌, ◌<ℤ◌, ◌<◌, ◌==◌, [], ◌^◌, add-one, ap, append-nil, arith, bit_xor, Bool}
pub use Rattle.std.proofs.Common.{bytes_eq, drop, Err, false, get_or, IfErr, IfNone, IfOk, IfSome, if◌then◌else◌, inl, inr, is_ok, is_some, length}
pub use Rattle.std.proofs.Common.{length-append, length-drop, List, map, max, min, nat_le, nat_lt, negsuc, None, not, Ok, OnErr, OnOk, Option, option_map}
pub use Rattle.std.proofs.Common.{option_to_list, pos, refl, replicate, Result, rules, slice_get, slice_index, Some, subst, suc, sym, take, take-append-drop}
pub use Rattle.std.proofs.Common.{true, unwrap_or, Vec, zero, ◌||◌, ℕ, ℤ, ◌↔◌, ◌∙◌, ◌∷◌, ◌≡◌, ◌≢◌, ◌≤ℤ◌, ◌≤◌, ⊎_elim, ◌⊎◌}
pub use Rattle.std.proofs.Math.Bool.{and-false, or-true}
pub use Rattle.std.proofs.Math.Nat.{div-mul-le_self}
pub use Rattle.std.proofs.lemmas.Bool.{and_from, and_parts, cases_Bool, cases_lt, cond_both, eq-eqb, eqb-false, eqb-true, false≢true, leb-false, leb-true}
pub use Rattle.std.proofs.lemmas.Bool.{lt-ltb, ltb-false, ltb-true, ne_eqb, not-false, not-true, or_cases, or_left, or_right, true≢false}
pub use Rattle.std.proofs.lemmas.Bool.Decides.{nat_tests}
pub use Rattle.std.proofs.lemmas.Grind.{common_steps}
pub use Rattle.std.proofs.lemmas.Int.{ints}
pub use Rattle.std.proofs.lemmas.List.{append_assoc, drop-append-le, drop-drop, drop-replicate, drop_min, drop_more, get_or-append-add, get_or-append_right}
pub use Rattle.std.proofs.lemmas.List.{get_or-drop, get_or-map, get_or-take, get_or_append_left, get_or_past, length-map, length-replicate, length-take}
pub use Rattle.std.proofs.lemmas.List.{length-take-le, nil_from_length, take-append-le, take_all, take_at, take_min, take_more}
pub use Rattle.std.proofs.lemmas.Nat.{mul-le, xor_of_8}
pub use Rattle.std.proofs.lemmas.Option.{slice_get-get_or, slice_get_within, unwrap_or-slice_get}
pub use Rattle.std.proofs.lemmas.Slice.Eq.{bytes_eq-Decides}
pub use Rattle.std.specs.Int.Bits.{xor_assoc, xor_self, xor_zero_l}
pub use Rattle.std.specs.List.{AllByRecursion}
pub use Rattle.std.specs.Option.{option_or}
pub use Rattle.std.specs.declared.ops.Range.{Range}
pub use Rattle.tcp_conn.proofs.Segments.{report_options_short, reset_segment_valid, syn_segment_valid, text_segment_valid}
pub use Rattle.tcp_conn.specs.Arrival.{after_judgement, after_reading, answer_to_reading, blocks_used, first_reset, has_fin, is_current}
pub use Rattle.tcp_conn.specs.Arrival.{phase_after_own_syn, reset_at_ack, reset_of_stray, takes_fin, takes_text_of, with_reset, with_window_and_blocks}
unfoldable pub use Rattle.tcp_conn.specs.Arrival.{after_acked_text, after_arrival, after_fin, after_its_ack, after_its_text, after_own_fin, after_own_syn}
unfoldable pub use Rattle.tcp_conn.specs.Arrival.{after_peer_accepts, after_peer_opens, after_taking, after_taking_shut, after_window_and_blocks}
unfoldable pub use Rattle.tcp_conn.specs.Arrival.{arrival_answer}
pub use Rattle.tcp_conn.specs.Blocks.{block_numbers, blocks_to_report, sack_options}
pub use Rattle.tcp_conn.specs.Calls.{after_closing, answer_unless, bytes_unless, close_refusal, is_full, is_unanswered, open_refusal, opening_refusal}
pub use Rattle.tcp_conn.specs.Calls.{opens_window, own_reset, phase_after_close, receive_answer, receive_refusal, received_bytes, received_value, refusal_if}
pub use Rattle.tcp_conn.specs.Calls.{reset_after_abort, send_refusal, state_unless, with_abort, with_bytes_received, with_closing, with_connection}
unfoldable pub use Rattle.tcp_conn.specs.Calls.{after_abort, after_acknowledge, after_close, after_connect, after_listen, after_receive, after_send}
pub use Rattle.tcp_conn.specs.Due.{ack_due, count_of, end_of, flags_of, is_fin, reset_due, sent_due, start_of, syn_due, text_due, text_limit, text_of}
unfoldable pub use Rattle.tcp_conn.specs.Due.{ack_alone, due_of}
pub use Rattle.tcp_conn.specs.Emission.{after_due, buffer_with, pending_after, resend_after, sending_after, state_after}
unfoldable pub use Rattle.tcp_conn.specs.Emission.{after_ack_alone, after_emission, emitted_bytes}
pub use Rattle.tcp_conn.specs.Endings.{after_discarding, after_orderly_end}
pub use Rattle.tcp_conn.specs.Endpoint.{AlwaysHolds, FitsFields}
pub use Rattle.tcp_conn.specs.Forms.{is_sack_offered, permission_options, plain_segment, reset_ack, scale_options, shift_offered, syn_options, syn_segment}
pub use Rattle.tcp_conn.specs.Forms.{waiting_segment}
unfoldable pub use Rattle.tcp_conn.specs.Forms.{segment_of}
pub use Rattle.tcp_conn.specs.Judgement.{acks_syn, count_numbers, is_acceptable_segment, is_allowed_shut, is_for_other, is_from_other, position_near}
unfoldable pub use Rattle.tcp_conn.specs.Judgement.{acceptable_judgement, ack_judgement, closed_judgement, is_foreign, judgement, judgement_after_syn}
unfoldable pub use Rattle.tcp_conn.specs.Judgement.{listen_judgement, phase_judgement, syn_sent_judgement, unacceptable_judgement}
pub use Rattle.tcp_conn.specs.NewEnd.{end_with_runs, new_end}
pub use Rattle.tcp_conn.specs.State.{State, with_ack_pending}
pub use Rattle.tcp_conn.specs.Timers.{after_gaps, marks_end, needs_probe, resends_between, sends_again}
unfoldable pub use Rattle.tcp_conn.specs.Timers.{after_reorder, after_resend, after_resend_first, after_retransmit, after_time_wait}
pub use Rattle.tcp_conn.specs.Windows.{advertised_window, max_window, own_shift, window_field, window_from}
pub use Rattle.tcp_conn.specs.Writing.{destination_of, waiting_destination}
unfoldable pub use Rattle.tcp_conn.specs.Writing.{bytes_of}
pub use Rattle.tcp_conn.specs.declared.arrive.judgement.Judgement.{Judgement}
pub use Rattle.tcp_conn.specs.declared.arrive.judgement.Judgement.TheVariants.{AckOfListen, AckOfNoSyn, AcksUnsent, Foreign, HandshakeRefused, HandshakeRefusedShut}
pub use Rattle.tcp_conn.specs.declared.arrive.judgement.Judgement.TheVariants.{NoAck, OpensNothing, PeerAccepts, PeerOpens, PeerRefuses, PeerResets, ResetElsewhere}
pub use Rattle.tcp_conn.specs.declared.arrive.judgement.Judgement.TheVariants.{ResetIgnored, Stray, SynInWindow, Taken, TakenShut, Unacceptable}
pub use Rattle.tcp_halves.proofs.Placing.{capacity_placed, capacity_read, whole_empty, whole_read, whole_without_held}
unfoldable pub use Rattle.tcp_halves.specs.Acceptable.{is_acceptable}
pub use Rattle.tcp_halves.specs.Config.{HasBadCapacity, HasBadLimit, HasBadMss, HasBadShift, HasGoodShift, IsConfig, IsGoodConfig, default_limit, max_shift}
pub use Rattle.tcp_halves.specs.Config.{min_mss, stream_limit}
pub use Rattle.tcp_halves.specs.Sent.{count_allowed, fin_of, new_count, range_after, resend_start, resent_fin, resent_run, resent_text}
unfoldable pub use Rattle.tcp_halves.specs.Sent.{new_text_of, resend_of}
pub use Rattle.tcp_halves.specs.Marks.{after_blocks, is_of_flight, marks_text, reported_blocks, with_marks}
unfoldable pub use Rattle.tcp_halves.specs.Marks.{after_block}
pub use Rattle.tcp_halves.specs.Options.{shift_option}
unfoldable pub use Rattle.tcp_halves.specs.Options.{link_of}
pub use Rattle.tcp_conn.specs.Phase.{discards, has_peer, is_closed, is_ended, is_handshake, is_last_ack, is_listening, is_syn_received, is_syn_sent}
pub use Rattle.tcp_conn.specs.Phase.{is_time_wait, phase_after_fin, phase_after_own_fin, resets_on_abort, sends_text, takes_text}
pub use Rattle.tcp_halves.specs.Receiver.{after_delivering, HoldsWithin, is_fin_due, max_ordered, new_receiving, rcv_position, Receiving, receiving_with_runs, with_fin}
pub use Rattle.tcp_halves.specs.Receiver.{with_inbox, with_syn, without_bytes}
unfoldable pub use Rattle.tcp_halves.specs.Receiver.{after_text}
pub use Rattle.tcp_halves.specs.Sender.{Sending, acks_more, acks_unsent, count_below, count_sendable, count_unsent, end_of_text, is_fin_acked, is_newer}
pub use Rattle.tcp_halves.specs.Sender.{is_probe_needed, new_sending, place_of, position_at, sending_with_runs, with_acked, with_all_resent}
pub use Rattle.tcp_halves.specs.Sender.{with_gaps_resent, with_resent}
pub use Rattle.tcp_halves.specs.Sender.{with_syn_acked, with_syn_sent, with_text, with_window, without_resend, without_text}
unfoldable pub use Rattle.tcp_halves.specs.Sender.{after_ack, after_window_update}
pub use Rattle.tcp_halves.specs.declared.config.Config.{Config}
pub use Rattle.tcp_halves.specs.declared.config.ConfigError.{ConfigError}
pub use Rattle.tcp_halves.specs.declared.sent.Sent.{Sent}
pub use Rattle.tcp_halves.specs.declared.sent.Sent.TheVariants.{Fin, NewText, Resend, ResentFin}
pub use Rattle.tcp_conn.specs.declared.emit.due.Due.{Due}
pub use Rattle.tcp_conn.specs.declared.emit.due.Due.TheVariants.{Acknowledgement, Reset, Syn, Text}
pub use Rattle.tcp_halves.specs.declared.link.Link.{Link}
pub use Rattle.tcp_conn.specs.declared.pending.Pending.{Pending}
pub use Rattle.tcp_halves.specs.declared.link.Peer.{Peer}
pub use Rattle.tcp_halves.specs.declared.link.WaitingReset.{WaitingReset}
pub use Rattle.tcp_conn.specs.declared.outcome.Arrival.TheVariants.{Dropped, Malformed}
pub use Rattle.tcp_conn.specs.declared.outcome.CallError.{CallError}
pub use Rattle.tcp_conn.specs.declared.outcome.CallError.TheVariants.{AlreadyOpen, Ended, NotConnected, NotOpen, StreamFull}
pub use Rattle.tcp_conn.specs.declared.outcome.Received.{Received}
pub use Rattle.tcp_conn.specs.declared.outcome.Received.TheVariants.{Bytes, EndOfStream, Nothing}
pub use Rattle.tcp_conn.specs.declared.phase.Ending.{Ending}
pub use Rattle.tcp_conn.specs.declared.phase.Ending.TheVariants.{Aborted, NotEnded, Orderly}
pub use Rattle.tcp_conn.specs.declared.phase.Phase.{Phase}
pub use Rattle.tcp_conn.specs.declared.phase.Phase.TheVariants.{CloseWait, Closed, Closing, Established, FinWait1, FinWait2, LastAck, Listen, SynReceived}
pub use Rattle.tcp_conn.specs.declared.phase.Phase.TheVariants.{SynSent, TimeWait}
pub use Rattle.tcp_conn.specs.declared.phase.Timer.TheVariants.{Reorder, Retransmit}
pub use Rattle.tcp_numbers.proofs.Lemmas.{offset_ahead, offset_of_earlier, offset_of_later, position_of_number}
pub use Rattle.tcp_numbers.proofs.Positions.{first_inside, near_ahead, near_behind}
pub use Rattle.tcp_numbers.specs.Checksum.{AreBytes, DiffersInOnePlace}
pub use Rattle.tcp_numbers.specs.Flags.{ack, fin, has, psh, rst, syn}
pub use Rattle.tcp_numbers.specs.Position.{distance, is_inside, near, number}
unfoldable pub use Rattle.tcp_numbers.specs.Position.{offset, position_of}
pub use Rattle.tcp_numbers.specs.declared.addr.Addr.{Addr}
pub use Rattle.tcp_numbers.specs.declared.seq.Seq.{Seq}
pub use Rattle.tcp_reasm.proofs.Agreement.{advance_of-answer_for, after_place-agrees, after_read-agrees, empty_inbox-agrees, without_held-agrees}
pub use Rattle.tcp_reasm.proofs.Maximal.{runs_are_maximal_lem}
pub use Rattle.tcp_reasm.proofs.Placing.{after_place-keeps}
pub use Rattle.tcp_reasm.specs.Agreement.{Advances, Agrees, LiesAt, advance_of}
pub use Rattle.tcp_reasm.specs.Laws.{IsHeld, IsMaximal, KeepsBytes, byte_at, byte_of}
pub use Rattle.tcp_reasm.specs.Reassembly.{Cell, default_runs, Inbox, Piece, Run, answer_for, bytes_in_order, greatest_stamp, insertion_by_stamp, is_refused, max_blocks}
pub use Rattle.tcp_reasm.specs.Reassembly.{overlay, overlay_of, piece, runs, window, with_overlay, with_ranks_from}
unfoldable pub use Rattle.tcp_reasm.specs.Reassembly.{after_place, after_read, blocks, place_answer, runs_newest_first, with_ranks}
pub use Rattle.tcp_reasm.specs.declared.placed.Placed.TheVariants.{Advanced, NotKept}
pub use Rattle.tcp_sendq.proofs.Kept.{length-marks_with}
pub use Rattle.tcp_sendq.proofs.Places.{IsMarked-after_offer, IsMarked-after_release, IsMarked-without_marks, end_of_marks-le, end_of_marks-marked}
pub use Rattle.tcp_sendq.proofs.Places.{marks_with-only}
pub use Rattle.tcp_sendq.specs.SendQueue.{IsMarked, Queue, after_release, count_leading, end_of_marks, first_unmarked, marks_with, max_capacity}
unfoldable pub use Rattle.tcp_sendq.specs.SendQueue.{after_mark, can_mark, last_mark_end, next_unmarked, without_marks}
pub use Rattle.tcp_wire.proofs.RoundTrip.{IsWire_encoded, decoded_damaged, decoded_encoded, decoded_valid, differs_set, length_encoded}
unfoldable pub use Rattle.tcp_wire.specs.Decoded.{decode_answer, layout_of, option_at, options_in, padding_at}
pub use Rattle.tcp_wire.specs.Options.{Mss}
pub use Rattle.tcp_wire.specs.Wire.{Content, header_len, IsValid, IsWire, wire_length}
unfoldable pub use Rattle.tcp_wire.specs.Wire.{encoded_bytes}
pub use Rattle.tcp_wire.specs.declared.fault.DecodeError.{DecodeError}
pub use Rattle.tcp_wire.specs.declared.fault.DecodeError.TheVariants.{BadChecksum}
pub use Rattle.tcp_replay.specs.Alone.{FitsPhase, IsAlone, IsAnswering, IsDone, IsOpening, IsReceiving, IsUnused, IsWritable, Sends}
pub use Rattle.tcp_replay.specs.Events.{Abort, Acknowledge, Close, Connect, Damage, Deliver, Emit, EventContent, HasBytes, IsDamage, Receive, Send}
pub use Rattle.tcp_replay.specs.Events.{EmitAcknowledgement, ResendFirst, Timer, event_content, side_of}
pub use Rattle.tcp_replay.specs.Emissions.{due_for, segment_as}
pub use Rattle.tcp_replay.specs.OneEnd.{AcknowledgesInOrderWith, Came, CameInWith, count_come, DeliversWhatCameWith, OneEndIsTrueWithRuns, rcv_position_with}
pub use Rattle.tcp_replay.specs.OneEnd.{SendsItsUsers, TookSynWith}
unfoldable pub use Rattle.tcp_replay.specs.OneEnd.{count_in_order}
pub use Rattle.tcp_replay.specs.Safe.{EmitsTruth, EveryRunIsSafe, EveryRunIsSafeWithRuns, FindsDamage, has_discarded, HasTrueHints, HintsAreTrue, IsSafe, IsSafeDirection}
pub use Rattle.tcp_replay.specs.Safe.{rcv_position_of, unread_of, witness_of}
pub use Rattle.tcp_replay.specs.Solo.{after_solo, alone_with_runs, bytes_put_out, bytes_taken, delivers_end, end_after, is_close, IsLogOf, segment_emitted}
pub use Rattle.tcp_replay.specs.Solo.{segments, solo_outcome, solo_with_runs, SoloState}
unfoldable pub use Rattle.tcp_replay.specs.Solo.{segment_alone, segment_due, solo_run}
pub use Rattle.tcp_replay.specs.SoloEvents.{Arrive, HasRanges, SoloContent, solo_content}
pub use Rattle.tcp_replay.specs.Sound.{AreBlocksBehind, AreOwn, AreSoundEnds, DeliversPrefix, IsBlockBehind, IsOwn, IsSound, IsSoundEnd, IsSoundPair}
pub use Rattle.tcp_replay.specs.Sound.{KeepBothHints, KeepsHints, SpeaksTo, Takes}
pub use Rattle.tcp_replay.specs.Truthful.{HasPosition, IsOfUser, IsTrueAck, IsTrueBlock, IsTruthful, StandsAt, Witness}
pub use Rattle.tcp_replay.specs.World.{acks_late, address_of, age_refusal, arrival_outcome, both, bytes_with_damage, damage_refusal}
pub use Rattle.tcp_replay.specs.World.{delivery_refusal, Effect, flags_in, front_taken, grows_for, HasFault, is_end_of_stream, is_expired, is_late}
pub use Rattle.tcp_replay.specs.World.{is_missing, KeepsAllSegments, later, max_life, NamesFault, new_party, new_world, new_world_with, other, outcome_of, party_with_runs}
pub use Rattle.tcp_replay.specs.World.{outcome_out, party_of, party_out, PartyState, refusal_of, segment_at, sent_at, sent_by, SentSegment, seq_in}
pub use Rattle.tcp_replay.specs.World.{stay_or, stop_or, StopsForMemory, world_after, world_from, world_with_effect, world_with_runs, WorldState}
unfoldable pub use Rattle.tcp_replay.specs.World.{effect_of, party_after_abort, party_after_acknowledge, party_after_arrival, party_after_close}
unfoldable pub use Rattle.tcp_replay.specs.World.{party_after_connect, party_after_emission, party_after_listen, party_after_receive, party_after_send}
unfoldable pub use Rattle.tcp_replay.specs.World.{party_after_ack_alone, party_after_resend, party_after_resend_first, party_after_timer, run_of, stop_of, world_after_all}
pub use Rattle.tcp_replay.specs.declared.event.Side.{Side}
pub use Rattle.tcp_replay.specs.declared.event.Side.TheVariants.{A, B}
pub use Rattle.tcp_replay.specs.declared.outcome.Outcome.{Outcome}
pub use Rattle.tcp_replay.specs.declared.outcome.Outcome.TheVariants.{Arrived}
pub use Rattle.tcp_replay.specs.declared.outcome.StepError.{StepError}
pub use Rattle.tcp_replay.specs.declared.outcome.StepError.TheVariants.{Expired, NoChange, NoMemory, NoSuchSegment, PlaceOutside}
pub use Rattle.tcp_replay.specs.declared.outcome.WorldError.{WorldError}
pub use Rattle.tcp_replay.specs.declared.solo_log.SoloLog.{SoloLog}
