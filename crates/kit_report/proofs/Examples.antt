-- The report of a short script computed on its definition, the numbers left as `decimal` writes them: two ends are opened, and a
-- SYN is sent and taken.
use Rattle.std.proofs.Common.{◌≡◌, ℕ, [], ◌∷◌, ◌++◌, List, refl}
use Rattle.std.specs.Prelude.{true, codes, decimal}
use Rattle.tcp_wire.specs.Position.{position_of, offset}
use Rattle.tcp_wire.specs.Wire.{encoded_bytes}
use Rattle.tcp_wire.specs.Decoded.{decode_answer, layout_of, options_in, option_at, padding_at}
use Rattle.tcp_halves.specs.Acceptable.{is_acceptable}
use Rattle.tcp_halves.specs.Options.{link_of}
use Rattle.tcp_halves.specs.Sender.{after_ack, after_window_update}
use Rattle.tcp_conn.specs.Blocks.{after_block}
use Rattle.tcp_halves.specs.Receiver.{after_text}
use Rattle.tcp_conn.specs.Calls.{after_connect, after_listen, after_send, after_receive, after_close}
use Rattle.tcp_conn.specs.Timers.{after_time_wait}
use Rattle.tcp_conn.specs.Judgement.{is_foreign, closed_judgement, listen_judgement, syn_sent_judgement, ack_judgement, unacceptable_judgement, acceptable_judgement, judgement_after_syn, phase_judgement, judgement}
use Rattle.tcp_conn.specs.Arrival.{after_peer_opens, after_peer_accepts, after_own_syn, after_acked_text, after_window_and_blocks, after_own_fin, after_its_ack, after_its_text, after_fin, after_taking, arrival_answer, after_arrival}
use Rattle.tcp_conn.specs.Due.{resend_of, new_text_of, due_of}
use Rattle.tcp_conn.specs.Forms.{segment_of}
use Rattle.tcp_conn.specs.Writing.{bytes_of}
use Rattle.tcp_conn.specs.Emission.{emitted_bytes, after_emission}
use Rattle.tcp_reasm.specs.Reassembly.{default_runs}
use Rattle.tcp_replay.specs.declared.event.Side.TheVariants.{A, B}
use Rattle.tcp_replay.specs.Events.{Connect, Listen, Emit, Deliver}
use Rattle.tcp_replay.proofs.run.Examples.{a, b}
use Rattle.tcp_replay.specs.World.{party_after_connect, party_after_listen, party_after_send, party_after_receive, party_after_close, party_after_timer, party_after_emission, party_after_arrival, effect_of, max_life, world_after_all}
use Rattle.kit_text.specs.Texts.{blocks_text}
use Rattle.tcp_wire.specs.Texts.{flags_text}
use Rattle.kit_text.specs.Segments.{summary_text}
use Rattle.kit_script.specs.Script.{ScriptContent, once}
use Rattle.kit_report.specs.Events.{event_text}
use Rattle.kit_report.specs.Outcomes.{outcome_text}
use Rattle.kit_report.specs.Report.{event_line, event_lines, refusals, world_after_turns, is_well, counts_text, end_line, report_text, report_is_well}

script : ScriptContent
script = record { version = 1; life = max_life; a = a; b = b; runs_a = default_runs; runs_b = default_runs; events = once (Listen B) ∷ once (Connect A) ∷ once (Emit A) ∷ once (Deliver A 0) ∷ [] }

events_written : List ℕ
events_written =
    (decimal 1 ++ (codes " listen B ok LISTEN" ++ (10 ∷ [])))
    ++ ((decimal 2 ++ (codes " connect A ok SYN-SENT" ++ (10 ∷ [])))
    ++ ((decimal 3 ++ (codes " emit A " ++ ((decimal 0 ++ (codes " flags SYN seq " ++ (decimal 1000 ++ (codes " ack " ++ (decimal 0
    ++ (codes " window " ++ (decimal 40 ++ (codes " text " ++ (decimal 0 ++ codes " sack -"))))))))) ++ (10 ∷ []))))
    ++ ((decimal 4 ++ (codes " deliver A " ++ (decimal 0 ++ (codes " processed SYN-RECEIVED" ++ (10 ∷ []))))) ++ [])))

counts_written : ℕ → List ℕ
counts_written sent =
    decimal 0 ++ (codes " delivered " ++ (decimal 0 ++ (codes " released " ++ (decimal 0 ++ (codes " ordered " ++ (decimal 0
    ++ (codes " sent " ++ (decimal sent ++ codes " ended no"))))))))

ends_written : List ℕ
ends_written =
    (codes "end A SYN-SENT not-ended accepted " ++ (counts_written 1 ++ (10 ∷ [])))
    ++ (codes "end B SYN-RECEIVED not-ended accepted " ++ (counts_written 0 ++ (10 ∷ [])))

record IsWritten : Type 0 where
  text : report_text script ≡ events_written ++ ends_written
  well : report_is_well script ≡ true

written : IsWritten
unfolding a b script events_written counts_written ends_written report_text report_is_well event_lines event_line refusals world_after_turns event_text outcome_text is_well counts_text end_line summary_text flags_text blocks_text world_after_all effect_of party_after_connect party_after_listen party_after_send party_after_receive party_after_close party_after_timer party_after_emission party_after_arrival after_connect after_listen after_send after_receive after_close after_time_wait encoded_bytes decode_answer layout_of options_in option_at padding_at position_of offset is_acceptable link_of after_ack after_window_update after_block after_text is_foreign closed_judgement listen_judgement syn_sent_judgement ack_judgement unacceptable_judgement acceptable_judgement judgement_after_syn phase_judgement judgement after_peer_opens after_peer_accepts after_own_syn after_acked_text after_window_and_blocks after_own_fin after_its_ack after_its_text after_fin after_taking arrival_answer after_arrival resend_of new_text_of due_of segment_of bytes_of emitted_bytes after_emission
written = record { text = refl; well = refl }
