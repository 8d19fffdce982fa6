-- A whole connection on the definitions: the handshake, three bytes each way, and an orderly close (RFC 9293, 3.5 and 3.6).
use Rattle.tcp_replay.proofs.Words.{◌++◌, [], A, acceptable_judgement, ack_judgement, after_ack, after_acked_text, after_arrival, after_block, after_close}
use Rattle.tcp_replay.proofs.Words.{after_connect, after_emission, after_fin, after_its_ack, after_its_text, after_listen, after_mark, after_own_fin}
use Rattle.tcp_replay.proofs.Words.{after_own_syn, after_peer_accepts, after_peer_opens, after_place, after_read, after_receive, after_send, after_taking}
use Rattle.tcp_replay.proofs.Words.{after_text, after_time_wait, after_window_and_blocks, after_window_update, arrival_answer, B, blocks, bytes_of}
use Rattle.tcp_replay.proofs.Words.{can_mark, Close, closed_judgement, Config, Connect, decode_answer, default_limit, Deliver, due_of, effect_of, Emit}
use Rattle.tcp_replay.proofs.Words.{emitted_bytes, encoded_bytes, EventContent, false, is_acceptable, is_foreign, judgement, judgement_after_syn}
use Rattle.tcp_replay.proofs.Words.{layout_of, length, link_of, List, listen_judgement, new_text_of, new_world, next_unmarked, None, offset, option_at}
use Rattle.tcp_replay.proofs.Words.{options_in, Orderly, padding_at, party_after_arrival, party_after_close, party_after_connect, party_after_emission}
use Rattle.tcp_replay.proofs.Words.{party_after_listen, party_after_receive, party_after_send, party_after_timer, phase_judgement, place_answer}
use Rattle.tcp_replay.proofs.Words.{position_of, Receive, refl, resend_of, runs_newest_first, segment_of, Send, stop_of, syn_sent_judgement, Timer, true}
use Rattle.tcp_replay.proofs.Words.{unacceptable_judgement, with_ranks, without_marks, world_after_all, WorldState, ◌∷◌, ◌≡◌}
use Rattle.tcp_conn.specs.declared.phase.Timer.TheVariants.{TimeWait}
use Rattle.tcp_replay.specs.Events.{Listen}

-- the end that connects
unfoldable pub a : Config
a =
    record { addr = record { 0 = 10 ∷ 0 ∷ 0 ∷ 1 ∷ [] }; port = 1; isn = record { 0 = 1000 }; mss = 1460; send_capacity = 40; recv_capacity = 40; window_shift = None; sack = true; limit = default_limit }

-- the end that listens
unfoldable pub b : Config
b =
    record { addr = record { 0 = 10 ∷ 0 ∷ 0 ∷ 2 ∷ [] }; port = 2; isn = record { 0 = 5000 }; mss = 1460; send_capacity = 40; recv_capacity = 40; window_shift = None; sack = true; limit = default_limit }

handshake : List EventContent
handshake = Listen B ∷ Connect A ∷ Emit A ∷ Deliver A 0 ∷ Emit B ∷ Deliver B 0 ∷ Emit A ∷ Deliver A 1 ∷ []

events : List EventContent
events =
    handshake
    ++ Send A (97 ∷ 98 ∷ 99 ∷ []) ∷ Send B
    (100 ∷ 101 ∷ 102 ∷ []) ∷ Emit A ∷ Deliver A 2 ∷ Emit B ∷ Deliver B 1 ∷ Receive B 10 ∷ Receive A 10 ∷ Emit A ∷ Deliver A 3
    ∷ Close A ∷ Emit A ∷ Deliver A 4 ∷ Emit B ∷ Deliver B 2 ∷ Receive B 10 ∷ Close B ∷ Emit B ∷ Deliver B 3 ∷ Emit A ∷ Deliver A 5 ∷ Timer A TimeWait ∷ []

at_end : WorldState
at_end = world_after_all (new_world a b) events

-- each has what the other sent, both ended in order, and nothing was refused
record IsWhole : Type 0 where
  at_b : at_end.b.delivered ≡ 97 ∷ 98 ∷ 99 ∷ []
  at_a : at_end.a.delivered ≡ 100 ∷ 101 ∷ 102 ∷ []
  a_ended : at_end.a.endpoint.ending ≡ Orderly
  b_ended : at_end.b.endpoint.ending ≡ Orderly
  b_had_all : at_end.b.ended ≡ true
  a_had_not_all : at_end.a.ended ≡ false
  a_sent : length at_end.a.sent ≡ 6
  b_sent : length at_end.b.sent ≡ 4
  none_refused : stop_of (new_world a b) events ≡ None

whole : IsWhole
unfolding a b handshake events at_end stop_of world_after_all effect_of party_after_connect party_after_listen party_after_send party_after_receive party_after_close party_after_timer party_after_emission party_after_arrival after_connect after_listen after_send after_receive after_close after_time_wait encoded_bytes decode_answer layout_of options_in option_at padding_at position_of offset next_unmarked without_marks after_place place_answer with_ranks after_read blocks runs_newest_first is_acceptable link_of after_ack after_window_update after_block after_text is_foreign closed_judgement listen_judgement syn_sent_judgement ack_judgement unacceptable_judgement acceptable_judgement judgement_after_syn phase_judgement judgement after_peer_opens after_peer_accepts after_own_syn after_acked_text after_window_and_blocks after_own_fin after_its_ack after_its_text after_fin after_taking arrival_answer after_arrival resend_of new_text_of due_of segment_of bytes_of emitted_bytes after_emission
whole =
    record { at_b = refl; at_a = refl; a_ended = refl; b_ended = refl; b_had_all = refl; a_had_not_all = refl; a_sent = refl; b_sent = refl; none_refused = refl }

-- a text that came early is held, reported as a block, and comes in order after the one before it
after_gap : WorldState
after_gap = world_after_all (new_world a b) (handshake ++ Send A (97 ∷ []) ∷ Emit A ∷ Send A (98 ∷ []) ∷ Emit A ∷ Deliver A 3 ∷ Emit B ∷ Deliver B 1 ∷ [])

after_both : WorldState
after_both = world_after_all after_gap (Deliver A 2 ∷ Emit B ∷ Deliver B 2 ∷ [])

record IsFilled : Type 0 where
  none_unread : after_gap.b.endpoint.receiving.inbox.unread ≡ []
  one_held : blocks after_gap.b.endpoint.receiving.inbox ≡ (1, 2) ∷ []
  one_marked : after_gap.a.endpoint.sending.queue.marks ≡ false ∷ true ∷ []
  none_released : after_gap.a.endpoint.sending.released ≡ 0
  both_unread : after_both.b.endpoint.receiving.inbox.unread ≡ 97 ∷ 98 ∷ []
  both_released : after_both.a.endpoint.sending.released ≡ 2

filled : IsFilled
unfolding a b handshake after_gap after_both world_after_all effect_of party_after_connect party_after_listen party_after_send party_after_receive party_after_close party_after_timer party_after_emission party_after_arrival after_connect after_listen after_send after_receive after_close after_time_wait encoded_bytes decode_answer layout_of options_in option_at padding_at position_of offset next_unmarked without_marks after_mark can_mark after_place place_answer with_ranks after_read blocks runs_newest_first is_acceptable link_of after_ack after_window_update after_block after_text is_foreign closed_judgement listen_judgement syn_sent_judgement ack_judgement unacceptable_judgement acceptable_judgement judgement_after_syn phase_judgement judgement after_peer_opens after_peer_accepts after_own_syn after_acked_text after_window_and_blocks after_own_fin after_its_ack after_its_text after_fin after_taking arrival_answer after_arrival resend_of new_text_of due_of segment_of bytes_of emitted_bytes after_emission
filled = record { none_unread = refl; one_held = refl; one_marked = refl; none_released = refl; both_unread = refl; both_released = refl }
