-- THE RULES of a segment that is sent, each with its section. A finding is the rule that it breaks, with the numbers that
-- show it.
use Rattle.std.specs.Prelude.{ℕ, ◌+◌, ◌==◌, Bool, true, false, ◌&&◌, ◌||◌, not, nat_lt, if◌then◌else◌}
use Rattle.std.specs.Prelude.{List, [], ◌∷◌, length, Option, Some, None, is_some}
use Rattle.std.specs.Option.{option_or}
use Rattle.tcp_numbers.specs.declared.seq.Seq.{Seq}
use Rattle.tcp_wire.specs.Flags.{fin, syn, rst, ack, has}
use Rattle.tcp_wire.specs.Options.{OptionContent, Mss, WindowScale, SackPermitted}
use Rattle.tcp_wire.specs.Wire.{Content}
use Rattle.tcp_judge.specs.Heard.{Heard, is_from, acks_beyond, acked_number_after, oversteps}
use Rattle.tcp_judge.specs.Answers.{is_own, may_answer, goes_elsewhere}
use Rattle.tcp_judge.specs.Edge.{is_beyond}
use Rattle.tcp_judge.specs.Reports.{lacks_permission, options_finding}
use Rattle.tcp_judge.specs.Stream.{count_sent, count_taken, changes_bytes}
use Rattle.tcp_judge.specs.Known.{Known, place_of, is_keep_alive}
use Rattle.tcp_judge.specs.Heard.{is_syn}
use Rattle.tcp_judge.specs.declared.finding.Finding.{Finding}
use Rattle.tcp_judge.specs.declared.finding.Finding.TheVariants.{SynOption, GreatShift, NoAck, OtherInitial, BeforeFirst, OtherByte, BeyondFin, AckBeyond, AckBack, Unoffered}
use Rattle.tcp_judge.specs.declared.finding.Finding.TheVariants.{Unpermitted, BeforeAck, AfterReset, Gap, BehindNext, BeyondWindow, StrayReset}

abbrev pub finding_if : Bool → Finding → Option Finding
finding_if broken finding = if broken then Some finding else None

-- FORM: the maximum segment size, the window scale and SACK-permitted are in SYNs alone (RFC 9293, 3.2; RFC 7323, 2.1; RFC
-- 2018, 2)
abbrev pub is_syn_option : OptionContent → Bool
is_syn_option (Mss size) = true
is_syn_option (WindowScale shift) = true
is_syn_option SackPermitted = true
is_syn_option other = false

abbrev pub any_syn_option : List OptionContent → Bool
any_syn_option [] = false
any_syn_option (option ∷ options) = is_syn_option option || any_syn_option options

abbrev pub has_stray_option : Content → Bool
has_stray_option v = not (has syn v.flags) && any_syn_option v.options

-- a shift is at most 14 (RFC 7323, 2.3)
abbrev pub is_great_shift : OptionContent → Bool
is_great_shift (WindowScale shift) = nat_lt 14 shift
is_great_shift other = false

abbrev pub any_great_shift : List OptionContent → Bool
any_great_shift [] = false
any_great_shift (option ∷ options) = is_great_shift option || any_great_shift options

-- ACK is set on all but a first SYN and resets (RFC 9293, 3.1)
abbrev pub lacks_ack : Content → Bool
lacks_ack v = not (has ack v.flags) && not (has syn v.flags) && not (has rst v.flags)

abbrev pub form_finding : Content → Option Finding
form_finding v =
    option_or (finding_if (has_stray_option v) SynOption) (option_or (finding_if (any_great_shift v.options) GreatShift) (finding_if (lacks_ack v) NoAck))

-- POSITIONS: one initial number, which each SYN has (RFC 9293, 3.4)
abbrev pub initial_by : Option Seq → Content → Option Finding
initial_by None v = None
initial_by (Some first) v = finding_if (is_syn v && not (v.seq == first.0)) (OtherInitial first (record { 0 = v.seq }))

-- FIN is at one position, and no text beyond it (RFC 9293, 3.4 and 3.6). This is where text is known to end, and where the
-- segment ends.
abbrev pub fin_by : Option ℕ → ℕ → ℕ → Content → Option Finding
fin_by None behind end v = finding_if (has fin v.flags && nat_lt end behind) (BeyondFin end behind)
fin_by (Some place) behind end v =
    finding_if ((not (length v.text == 0) && nat_lt place end) || (has fin v.flags && not (end == place))) (BeyondFin place end)

abbrev pub fin_finding : Known → ℕ → Content → Option Finding
fin_finding k place v = if nat_lt 0 place then fin_by k.fin (1 + count_sent k.stream) (place + length v.text) v else None

-- it has text or a FIN
abbrev pub takes_numbers : Content → Bool
takes_numbers v = not (length v.text == 0) || has fin v.flags

-- THE FIRST BYTE is right behind the SYN: no text and no FIN begins before it (RFC 9293, 3.4)
abbrev pub early_by : Option Seq → ℕ → Content → Option Finding
early_by None place v = None
early_by (Some first) place v = finding_if ((place == 0 && not (has rst v.flags)) && takes_numbers v) (BeforeFirst (record { 0 = v.seq }))

-- of the text and the FIN
abbrev pub text_finding : Known → ℕ → Content → Option Finding
text_finding k place v =
    option_or (early_by k.initial place v)
    (option_or (finding_if (changes_bytes k.stream place v.text) (OtherByte (record { 0 = v.seq }))) (fin_finding k place v))

-- the first rule that a segment breaks. The byte of a keep-alive is none of the stream (RFC 9293, 3.8.4)
abbrev pub position_finding : Known → ℕ → Content → Option Finding
position_finding k place v = option_or (initial_by k.initial v) (if is_keep_alive k place v then None else text_finding k place v)

-- ORDER: text waits for the acknowledgement of the SYN, but for a SYN's own and that of TCP Fast Open (RFC 9293, 3.4 and 3.10.2; RFC
-- 7413, 2)
abbrev pub precedes_ack : Known → ℕ → Content → Bool
precedes_ack k place v = (nat_lt 0 place && not (k.acked || k.fast)) && (not (length v.text == 0) && not (has syn v.flags))

-- nothing but resets follows the end's own reset (RFC 9293, 3.10.5)
abbrev pub follows_reset : Known → ℕ → Content → Bool
follows_reset k place v = k.ended && (nat_lt 0 place && takes_numbers v)

-- text and FIN go out in the order of the stream, so that none begins behind SND.NXT (RFC 9293, 3.3.1 and 3.4); and what takes no number
-- is at SND.NXT or before it, too (RFC 9293, 3.10.7.4)
abbrev pub is_empty : Content → Bool
is_empty v = not (takes_numbers v || has syn v.flags)

abbrev pub next_by : ℕ → ℕ → Content → Option Finding
next_by next place v =
    option_or (finding_if (nat_lt next place && takes_numbers v) (Gap (record { 0 = v.seq })))
    (finding_if (nat_lt next place && is_empty v) (BehindNext (record { 0 = v.seq })))

-- A RESET, once the end's SYN went, is at an own number, or answers what came (RFC 9293, 3.5.2, 3.10.5 and 3.10.7)
abbrev pub is_stray_by : Option Seq → ℕ → List (Seq × Option Seq) → Content → Bool
is_stray_by None next answers v = false
is_stray_by (Some first) next answers v = not (is_own first.0 next v.seq || may_answer v answers)

abbrev pub is_stray : Known → Content → Bool
is_stray k v =
    (has rst v.flags && not (goes_elsewhere k.heard.ports v)) && is_stray_by k.initial (count_taken k.stream (is_some k.fin)) k.answers v

abbrev pub order_by : Known → ℕ → Content → Option Finding
order_by k place v =
    option_or (finding_if (precedes_ack k place v) (BeforeAck (record { 0 = v.seq })))
    (option_or (finding_if (follows_reset k place v) (AfterReset (record { 0 = v.seq })))
    (option_or (next_by (count_taken k.stream (is_some k.fin)) place v)
    (option_or (finding_if (is_beyond k.edge place v) (BeyondWindow (record { 0 = v.seq }))) (finding_if (is_stray k v) (StrayReset (record { 0 = v.seq }))))))

-- None of these is tried once a reset came: one that an end passes over looks like one that leads it back to where its stream begins anew
-- (RFC 9293, 3.5.3)
abbrev pub order_finding : Known → ℕ → Content → Option Finding
order_finding k place v = if k.heard.reset then None else order_by k place v

-- ACKNOWLEDGEMENTS cover only what came (RFC 9293, 3.4), and none is less than one before it (RFC 9293, 3.10.7.4)
abbrev pub ack_rule : Option Seq → ℕ → Finding
ack_rule None acked_number = AckBeyond (record { 0 = acked_number })
ack_rule (Some last) acked_number =
    if is_from last.0 acked_number then AckBeyond (record { 0 = acked_number }) else AckBack (record { 0 = acked_number }) last

abbrev pub ack_finding : Heard → Content → Option Finding
ack_finding h v = finding_if (acks_beyond h v) (ack_rule h.acked_number v.ack)

-- the options of a SYN that answers another (RFC 7323, 1.3 and 2.2)
abbrev pub answer_finding : Heard → Content → Option Finding
answer_finding h v = finding_if (oversteps h v) Unoffered

-- BLOCKS are permitted, and of what came (RFC 2018, 3 and 4)
abbrev pub report_finding : Heard → Content → Option Finding
report_finding h v = option_or (finding_if (lacks_permission h v) Unpermitted) (options_finding (acked_number_after h v) h.spans v.options)

-- against what came
abbrev pub heard_finding : Heard → Content → Option Finding
heard_finding h v = option_or (ack_finding h v) (option_or (answer_finding h v) (report_finding h v))

abbrev pub finding_of : Known → Content → Option Finding
finding_of k v =
    option_or (form_finding v) (option_or (position_finding k (place_of k v) v) (option_or (heard_finding k.heard v) (order_finding k (place_of k v) v)))
