-- A segment that is written in front of its text.
use Rattle.std.proofs.Common.{◌≡◌, ℕ, ◌≤◌, List, [], ◌++◌, map, take, drop, append-nil, refl, sym, subst, ◌∙◌, ap, arith}
use Rattle.std.specs.Prelude.{Option, Some, None}
use Rattle.std.proofs.lemmas.List.{take_at, drop_at}
use Rattle.tcp_wire.specs.declared.header.Header.{Header}
use Rattle.tcp_wire.specs.declared.option.TcpOption.{TcpOption}
use Rattle.tcp_wire.specs.Checksum.{AreBytes}
use Rattle.tcp_wire.specs.Options.{OptionContent}
use Rattle.tcp_wire.specs.View.{option_content, content_of, text_offset}
use Rattle.tcp_wire.specs.Wire.{Content, IsValid, wire_length, encoded_bytes}
use Rattle.tcp_wire.proofs.Lemmas.{length_encoded}
use Rattle.tcp_halves.specs.declared.link.WaitingReset.{WaitingReset}
use Rattle.tcp_conn.specs.declared.emit.due.Due.{Due}
use Rattle.tcp_conn.specs.declared.emit.due.Due.TheVariants.{Reset, Syn, Text, Acknowledgement}
use Rattle.tcp_conn.specs.declared.emit.write.TheConstants.{HEADER_ROOM}
use Rattle.tcp_halves.specs.Config.{max_mss}
use Rattle.tcp_conn.specs.State.{State}
use Rattle.tcp_conn.specs.Endpoint.{FitsFields}
use Rattle.tcp_conn.specs.Due.{IsSendable, count_of}
use Rattle.tcp_conn.specs.Blocks.{blocks_to_report, sack_options}
use Rattle.tcp_conn.specs.Forms.{text_of, plain_segment, segment_of, waiting_segment}
use Rattle.tcp_conn.specs.Writing.{IsWritable}
use Rattle.tcp_conn.proofs.Segments.{count_short, text_segment_valid, text_as_long, offset_of_report, plain_segment_due, report_options_short, sendable_as_text, syn_header_short}

-- header, options and lent text are those of the segment that is due
pub says_due : (s : State) (due : Due) (header : Header) (options : List TcpOption) (text : List ℕ) → map option_content options ≡ sack_options (blocks_to_report s)
    → text ≡ text_of s.sending due → content_of header (sack_options (blocks_to_report s)) 0 (text_of s.sending due) ≡ plain_segment s due
    → content_of header (map option_content options) 0 text ≡ plain_segment s due
says_due s due header options text reports text_is says =
    ap (λ (listed : List OptionContent). content_of header listed 0 text) reports
    ∙ ap (content_of header (sack_options (blocks_to_report s)) 0) text_is ∙ says

-- it can be written
pub due_valid : (s : State) (due : Due) (text : List ℕ) → IsSendable s.sending max_mss due → FitsFields s → AreBytes text → text ≡ text_of s.sending due → IsValid (plain_segment s due)
due_valid s due text sendable fits bytes text_is =
    text_segment_valid s due fits (subst (λ (xs : List ℕ). AreBytes xs) text_is bytes)
    (omega (arith, report_options_short s, text_as_long s.sending max_mss due sendable, count_short s.sending due sendable))

-- and its header has room
pub front_fits : (s : State) (options : List TcpOption) → map option_content options ≡ sack_options (blocks_to_report s) → text_offset (map option_content options) 0 ≤ 56
front_fits s options reports =
    omega (arith, ap (λ (listed : List OptionContent). text_offset listed 0) reports, offset_of_report s, report_options_short s)

-- a segment without text is all header
pub bare_bytes : (src dst : List ℕ) (v : Content) (n : ℕ) (old out : List ℕ) → n ≡ wire_length v → out ≡ encoded_bytes src dst v ++ drop n old → take n out ++ [] ≡ encoded_bytes src dst v
bare_bytes src dst v n old out len is =
    append-nil (take n out) ∙ ap (take n) is ∙ take_at (encoded_bytes src dst v) (drop n old) n (length_encoded src dst v ∙ sym len)

pub bare_rest : (src dst : List ℕ) (v : Content) (n : ℕ) (old out : List ℕ) → n ≡ wire_length v → out ≡ encoded_bytes src dst v ++ drop n old → drop n out ≡ drop n old
bare_rest src dst v n old out len is = ap (drop n) is ∙ drop_at (encoded_bytes src dst v) (drop n old) n (length_encoded src dst v ∙ sym len)

-- and can be written into the room for a header
pub bare_writable : (s : State) (due : Due) (room : ℕ) → IsSendable s.sending max_mss due → count_of due ≡ 0 → HEADER_ROOM ≤ room → IsWritable s due room
bare_writable s due room sendable none large = record {
  least = large;
  sendable = sendable_as_text s.sending due sendable;
  fits = omega (arith, large, report_options_short s, none);
}

bare-plain : (s : State) (due : Due) → IsSendable s.sending max_mss due → count_of due ≡ 0 → wire_length (plain_segment s due) ≤ HEADER_ROOM
bare-plain s due sendable none = omega (arith, plain_segment_due s due sendable, report_options_short s, none)

bare-waiting : (s : State) (waiting : Option WaitingReset) → wire_length (waiting_segment s waiting) ≤ HEADER_ROOM
bare-waiting s None = bare-plain s Acknowledgement tt refl
bare-waiting s (Some reset) = omega arith

pub bare_short : (s : State) (due : Due) → IsSendable s.sending max_mss due → count_of due ≡ 0 → wire_length (segment_of s due) ≤ HEADER_ROOM
unfolding segment_of
bare_short s Reset sendable none = bare-waiting s s.pending.reset
bare_short s Syn sendable none = syn_header_short s
bare_short s (Text sent) sendable none = bare-plain s (Text sent) sendable none
bare_short s Acknowledgement sendable none = bare-plain s Acknowledgement sendable none
