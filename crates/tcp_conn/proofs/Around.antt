-- A segment that is written around its text, by this end or for a device.
use Rattle.std.proofs.Common.{◌≡◌, ℕ, ◌+◌, ◌-◌, ◌++◌, ◌≤◌, List, length, map, drop, sym, ◌∙◌, ap, arith}
use borrow.Rule.Slice.PartMut.{put_mid}
use Rattle.tcp_wire.specs.declared.header.Header.{Header}
use Rattle.tcp_wire.specs.declared.option.TcpOption.{TcpOption}
use Rattle.tcp_wire.specs.Options.{OptionContent}
use Rattle.tcp_wire.specs.Wire.{Content, encoded_bytes, max_text_len, wire_length}
use Rattle.tcp_wire.specs.View.{option_content, content_of, text_offset}
use Rattle.tcp_wire.proofs.Lemmas.{IsAround, is_around, encoded_over, partial_over}
use Rattle.tcp_conn.specs.declared.emit.due.Due.{Due}
use Rattle.tcp_conn.specs.declared.emit.write.Sum.{Sum}
use Rattle.tcp_conn.specs.declared.emit.write.Sum.TheVariants.{Whole, Partial}
use Rattle.tcp_conn.specs.State.{State}
use Rattle.tcp_conn.specs.Due.{count_of}
use Rattle.tcp_conn.specs.Blocks.{blocks_to_report, sack_options}
use Rattle.tcp_conn.specs.Forms.{text_of, plain_segment}
use Rattle.tcp_conn.specs.Writing.{IsWritable, summed}
use Rattle.tcp_conn.proofs.Segments.{length_plain_segment, text_as_long}

-- text was put into `old` at its offset: with what is written around it, it is the segment that has it
pub is_due_around : (s : State) (due : Due) (header : Header) (options : List TcpOption) (at n : ℕ) (old part : List ℕ) → IsWritable s due (length old)
    → map option_content options ≡ sack_options (blocks_to_report s) → content_of header (sack_options (blocks_to_report s)) 0 (text_of s.sending due) ≡ plain_segment s due
    → at ≡ text_offset (sack_options (blocks_to_report s)) 0 → n ≡ count_of due → part ≡ text_of s.sending due
    → IsAround (plain_segment s due) header options 0 at n (at + n - at) old part
is_due_around s due header options at n old part writable reports says at_is n_is part_is =
    let long : length (text_of s.sending due) ≡ n = text_as_long s.sending max_text_len due writable.sendable ∙ sym n_is in
    is_around (plain_segment s due) header options 0 at n (at + n - at) old part (text_of s.sending due)
    (at_is ∙ sym (ap (λ (listed : List OptionContent). text_offset listed 0) reports)) (omega (arith, length_plain_segment s due, long, n_is, writable.fits)) (omega arith) long part_is
    (ap (λ (listed : List OptionContent). content_of header listed 0 (text_of s.sending due)) reports ∙ says)

-- what was written around the text, over what was there before the text was put, whoever computes the checksum
pub summed_over : (sum : Sum) (src dst : List ℕ) (v w : Content) (at n k : ℕ) (new old part : List ℕ) → at + n ≤ length old → k ≡ n → length part ≡ n → wire_length w ≡ at + n → v ≡ w
    → new ≡ summed sum src dst (encoded_bytes src dst v) ++ drop (wire_length v) (put_mid at k old part) → new ≡ summed sum src dst (encoded_bytes src dst w) ++ drop (wire_length w) old
summed_over Whole src dst v w at n k new old part room k_is part_len whole same is = encoded_over src dst v w at n k new old part room k_is part_len whole same is
summed_over Partial src dst v w at n k new old part room k_is part_len whole same is = partial_over src dst v w at n k new old part room k_is part_len whole same is
