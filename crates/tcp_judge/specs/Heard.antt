-- WHAT CAME TO AN END, and what it acknowledged of it (RFC 9293, 3.4 and 3.10.7.4).
use Rattle.std.specs.Prelude.{ℕ, zero, suc, ◌^◌, ◌==◌, Bool, true, false, ◌&&◌, ◌||◌, not, nat_lt, nat_le, if◌then◌else◌}
use Rattle.std.specs.Prelude.{List, [], ◌∷◌, ◌++◌, filter, Option, Some, None}
use Rattle.tcp_numbers.specs.declared.seq.Seq.{Seq}
use Rattle.tcp_wire.specs.Flags.{syn, rst, ack, has}
use Rattle.tcp_wire.specs.Options.{OptionContent, WindowScale, SackPermitted}
use Rattle.tcp_wire.specs.Position.{number, distance}
use Rattle.tcp_wire.specs.Wire.{Content}
use Rattle.tcp_conn.specs.Judgement.{count_numbers}

pub record Heard : Type 0 where
  -- the number of each segment that came, and how many numbers its SYN, text and FIN take, as far as they aren't acknowledged
  pub spans : List (Seq × ℕ)
  -- the number of each SYN that came before anything was acknowledged, or behind a reset, since the last acknowledgement
  pub syns : List Seq
  -- the acknowledgement that was sent, the furthest one
  pub acked_number : Option Seq
  -- whether a reset came
  pub reset : Bool
  -- whether a SYN that came offered a window scale, and one permitted selective acknowledgement
  pub scaling : Bool
  pub sack : Bool
  -- the ports of the connection, the end's own first: those of the last SYN that was sent, until a reset comes
  pub ports : Option (ℕ × ℕ)

abbrev pub nothing_heard : Heard
nothing_heard = record { spans = []; syns = []; acked_number = None; reset = false; scaling = false; sack = false; ports = None }

-- a SYN, and no reset
abbrev pub is_syn : Content → Bool
is_syn v = has syn v.flags && not (has rst v.flags)

-- WHAT CAME WITH OTHER PORTS is of another connection (RFC 9293, 3.3.1 and 3.10.7)
abbrev pub is_elsewhere : Option (ℕ × ℕ) → Content → Bool
is_elsewhere None v = false
is_elsewhere (Some ports) v = not (v.dst_port == ports.0) || not (v.src_port == ports.1)

abbrev pub ports_after : Option (ℕ × ℕ) → Content → Option (ℕ × ℕ)
ports_after known v = if is_syn v then Some (v.src_port, v.dst_port) else known

-- OFFERS of a SYN
abbrev pub is_scale : OptionContent → Bool
is_scale (WindowScale shift) = true
is_scale other = false

abbrev pub any_scale : List OptionContent → Bool
any_scale [] = false
any_scale (option ∷ options) = is_scale option || any_scale options

abbrev pub is_permission : OptionContent → Bool
is_permission SackPermitted = true
is_permission other = false

abbrev pub any_permission : List OptionContent → Bool
any_permission [] = false
any_permission (option ∷ options) = is_permission option || any_permission options

-- a SYN that acknowledges one has the window scale only where a SYN that came had it (RFC 7323, 1.3 and 2.2)
abbrev pub answers_more : Heard → List OptionContent → Bool
answers_more h options = any_scale options && not h.scaling

abbrev pub oversteps : Heard → Content → Bool
oversteps h v = (has syn v.flags && has ack v.flags) && answers_more h v.options

-- A NUMBER CAME where it is one of those that a segment took
abbrev pub covers : ℕ → Seq × ℕ → Bool
covers n span = nat_lt (distance span.0.0 n) span.1

abbrev pub has_come : List (Seq × ℕ) → ℕ → Bool
has_come [] n = false
has_come (span ∷ spans) n = covers n span || has_come spans n

-- this many numbers from one on, of which each came
unfoldable pub all_came : List (Seq × ℕ) → ℕ → ℕ → Bool
all_came spans from zero = true
all_came spans from (suc n) = has_come spans (number from n) && all_came spans from n

-- ACKNOWLEDGEMENTS cover only what came, without a gap, and never decrease (RFC 9293, 3.4 and 3.10.7.4). Each continues from
-- the one before over numbers that came, or begins after a SYN that came: the first one, and one behind a reset
abbrev pub goes_on : List (Seq × ℕ) → ℕ → ℕ → Bool
goes_on spans from number = all_came spans from (distance from number)

abbrev pub begins : List (Seq × ℕ) → List Seq → ℕ → Bool
begins spans [] acked_number = false
begins spans (first ∷ syns) acked_number = goes_on spans (number first.0 1) acked_number || begins spans syns acked_number

abbrev pub is_of_came : Option Seq → List (Seq × ℕ) → List Seq → ℕ → Bool
is_of_came None spans syns acked_number = begins spans syns acked_number
is_of_came (Some last) spans syns acked_number = goes_on spans last.0 acked_number || begins spans syns acked_number

-- it has an acknowledgement, and is no reset
abbrev pub carries_ack : Content → Bool
carries_ack v = has ack v.flags && not (has rst v.flags)

abbrev pub acks_beyond : Heard → Content → Bool
acks_beyond h v = carries_ack v && not (is_of_came h.acked_number h.spans h.syns v.ack)

-- A NUMBER FROM ANOTHER ON is less than 2^31 ahead of it (RFC 9293, 3.4)
abbrev pub is_from : ℕ → ℕ → Bool
is_from first n = nat_lt (distance first n) (2 ^ 31)

-- an acknowledgement that is less than an earlier one leaves that, unless it begins after a SYN
abbrev pub is_further : Option Seq → List (Seq × ℕ) → List Seq → ℕ → Bool
is_further None spans syns acked_number = true
is_further (Some last) spans syns acked_number = is_from last.0 acked_number || begins spans syns acked_number

-- and one of what didn't come is none that a later one has to continue from
abbrev pub goes_further : Heard → Content → Bool
goes_further h v =
    carries_ack v && (is_further h.acked_number h.spans h.syns v.ack && is_of_came h.acked_number h.spans h.syns v.ack)

abbrev pub acked_number_after : Heard → Content → Option Seq
acked_number_after h v = if goes_further h v then Some (record { 0 = v.ack }) else h.acked_number

-- WHAT IS ACKNOWLEDGED is forgotten: the spans that end at this number or before it,
abbrev pub is_passed : ℕ → Seq × ℕ → Bool
is_passed acked_number span = nat_le span.1 (distance span.0.0 acked_number) && is_from span.0.0 acked_number

abbrev pub without_passed : ℕ → List (Seq × ℕ) → List (Seq × ℕ)
without_passed acked_number spans = filter (λ span. not (is_passed acked_number span)) spans

-- and the SYNs
abbrev pub after_acknowledging : Heard → ℕ → Heard
after_acknowledging h acked_number = record h { spans = without_passed acked_number h.spans; syns = []; acked_number = Some (record { 0 = acked_number }) }

abbrev pub after_telling : Heard → Content → Heard
after_telling h v = if goes_further h v then after_acknowledging h v.ack else h

-- after a segment that was sent,
abbrev pub after_went : Heard → Content → Heard
after_went h v = record (after_telling h v) { ports = ports_after h.ports v }

-- and one that came: it is kept where it takes a number, and nothing of a reset is (RFC 9293, 3.5.3); a SYN, where the end may take it:
-- before anything is acknowledged, and behind a reset, which leads an end that listens back to where it was, so that its peer may be another
-- (RFC 9293, 3.10.7.4)
abbrev pub spans_of : Content → List (Seq × ℕ)
spans_of v = if has rst v.flags || count_numbers v == 0 then [] else (record { 0 = v.seq }, count_numbers v) ∷ []

abbrev pub may_open : Option Seq → Bool → Bool
may_open None reset = true
may_open (Some acked_number) reset = reset

abbrev pub syns_of : Option Seq → Bool → Content → List Seq
syns_of acked_number reset v = if is_syn v && may_open acked_number reset then record { 0 = v.seq } ∷ [] else []

abbrev pub after_came : Heard → Content → Heard
after_came h v = record {
  spans = h.spans ++ spans_of v;
  syns = h.syns ++ syns_of h.acked_number h.reset v;
  acked_number = h.acked_number;
  reset = h.reset || has rst v.flags;
  scaling = h.scaling || (is_syn v && any_scale v.options);
  sack = h.sack || (is_syn v && any_permission v.options);
  ports = if has rst v.flags then None else h.ports;
}
