-- A FINDING in words: the rule that a segment breaks, the numbers that show it, and the section of the rule.
use Rattle.std.specs.Prelude.{ℕ, Bool, true, false, nat_le, List, [], ◌∷◌, ◌++◌, codes, decimal}
use Rattle.tcp_wire.specs.Refusals.{decode_error_text}
use Rattle.tcp_wire.specs.declared.fault.DecodeError.TheVariants.{BadChecksum}
use Rattle.tcp_judge.specs.declared.finding.Finding.{Finding}
use Rattle.tcp_judge.specs.declared.finding.Finding.TheVariants.{Unreadable, SynOption, GreatShift, NoAck, OtherInitial, BeforeFirst, OtherByte, BeyondFin, AckBeyond, AckBack, Unoffered}
use Rattle.tcp_judge.specs.declared.finding.Finding.TheVariants.{Unpermitted, BlockBeyond, BeforeAck, AfterReset, Gap, BehindNext, BeyondWindow, StrayReset}

-- THE NUMBER of a finding's rule: those below 8 are of form and positions, the others want a log of which nothing is missing, as they
-- compare with all that was sent or with all that came
abbrev pub rule_number : Finding → ℕ
rule_number (Unreadable fault) = 0
rule_number SynOption = 1
rule_number GreatShift = 2
rule_number NoAck = 3
rule_number (OtherInitial first other) = 4
rule_number (BeforeFirst seq) = 5
rule_number (OtherByte seq) = 6
rule_number (BeyondFin place end) = 7
rule_number (BeforeAck seq) = 8
rule_number (AfterReset seq) = 9
rule_number (Gap seq) = 10
rule_number (AckBeyond acked_number) = 11
rule_number (AckBack acked_number last) = 12
rule_number Unoffered = 13
rule_number Unpermitted = 14
rule_number (BlockBeyond left right) = 15
rule_number (BehindNext seq) = 16
rule_number (BeyondWindow seq) = 17
rule_number (StrayReset seq) = 18

abbrev pub wants_whole_log : Finding → Bool
wants_whole_log finding = nat_le 8 (rule_number finding)

-- a wrong checksum
abbrev pub is_damage : Finding → Bool
is_damage (Unreadable BadChecksum) = true
is_damage finding = false

-- THE WORDS of form,
abbrev pub unreadable_text : List ℕ → List ℕ
unreadable_text fault = codes "no segment: " ++ (fault ++ codes " (RFC 9293, 3.1)")

-- of positions,
abbrev pub initial_text : ℕ → ℕ → List ℕ
initial_text first other = codes "a SYN at " ++ (decimal other ++ (codes ", and the first at " ++ (decimal first ++ codes " (RFC 9293, 3.4)")))

abbrev pub early_text : ℕ → List ℕ
early_text seq = codes "text or FIN before the first byte of the stream, at " ++ (decimal seq ++ codes " (RFC 9293, 3.4)")

abbrev pub byte_text : ℕ → List ℕ
byte_text seq = codes "another byte where one went before, in the text at " ++ (decimal seq ++ codes " (RFC 9293, 3.4)")

abbrev pub fin_text : ℕ → ℕ → List ℕ
fin_text place end = codes "text or FIN up to position " ++ (decimal end ++ (codes ", and the FIN at " ++ (decimal place ++ codes " (RFC 9293, 3.4)")))

-- of order,
abbrev pub before_ack_text : ℕ → List ℕ
before_ack_text seq = codes "text before the SYN is acknowledged, at " ++ (decimal seq ++ codes " (RFC 9293, 3.10.2)")

abbrev pub after_reset_text : ℕ → List ℕ
after_reset_text seq = codes "text or FIN after the end's own reset, at " ++ (decimal seq ++ codes " (RFC 9293, 3.10.5)")

abbrev pub gap_text : ℕ → List ℕ
gap_text seq = codes "text or FIN behind a gap in what was sent, at " ++ (decimal seq ++ codes " (RFC 9293, 3.4)")

abbrev pub behind_text : ℕ → List ℕ
behind_text seq = codes "a segment without text behind all that was sent, at " ++ (decimal seq ++ codes " (RFC 9293, 3.10.7.4)")

abbrev pub window_text : ℕ → List ℕ
window_text seq = codes "text beyond the window, at " ++ (decimal seq ++ codes " (RFC 9293, 3.8.6)")

abbrev pub stray_text : ℕ → List ℕ
stray_text seq = codes "a reset at " ++ (decimal seq ++ codes ", which was neither sent nor acknowledged (RFC 9293, 3.5.2)")

-- and against what came
abbrev pub ack_text : ℕ → List ℕ
ack_text acked_number = codes "an acknowledgement of " ++ (decimal acked_number ++ codes ", up to which not all came (RFC 9293, 3.4)")

abbrev pub back_text : ℕ → ℕ → List ℕ
back_text acked_number last =
    codes "an acknowledgement of " ++ (decimal acked_number ++ (codes ", and one of " ++ (decimal last ++ codes " before it (RFC 9293, 3.10.7.4)")))

abbrev pub block_text : ℕ → ℕ → List ℕ
block_text left right = codes "a block from " ++ (decimal left ++ (codes " to " ++ (decimal right ++ codes ", of which not all came (RFC 2018, 3)")))

abbrev pub finding_text : Finding → List ℕ
finding_text (Unreadable fault) = unreadable_text (decode_error_text fault)
finding_text SynOption = codes "an option of SYNs in another segment (RFC 9293, 3.2)"
finding_text GreatShift = codes "a shift above 14 (RFC 7323, 2.3)"
finding_text NoAck = codes "no ACK (RFC 9293, 3.1)"
finding_text (OtherInitial first other) = initial_text first.0 other.0
finding_text (BeforeFirst seq) = early_text seq.0
finding_text (OtherByte seq) = byte_text seq.0
finding_text (BeyondFin place end) = fin_text place end
finding_text (BeforeAck seq) = before_ack_text seq.0
finding_text (AfterReset seq) = after_reset_text seq.0
finding_text (Gap seq) = gap_text seq.0
finding_text (BehindNext seq) = behind_text seq.0
finding_text (BeyondWindow seq) = window_text seq.0
finding_text (StrayReset seq) = stray_text seq.0
finding_text (AckBeyond acked_number) = ack_text acked_number.0
finding_text (AckBack acked_number last) = back_text acked_number.0 last.0
finding_text Unoffered = codes "a SYN answers with a window scale that no SYN offered (RFC 7323, 2.2)"
finding_text Unpermitted = codes "blocks, which no SYN that came permitted (RFC 2018, 4)"
finding_text (BlockBeyond left right) = block_text left.0 right.0

-- THE LINE of a finding, with the number of the log's line
unfoldable pub finding_line : ℕ × Finding → List ℕ
finding_line found = codes "line " ++ (decimal found.0 ++ (codes ": " ++ (finding_text found.1 ++ (10 ∷ []))))

abbrev pub finding_lines : List (ℕ × Finding) → List ℕ
finding_lines [] = []
finding_lines (found ∷ later) = finding_line found ++ finding_lines later
