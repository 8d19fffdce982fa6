-- THE RESETS that an end may send: at one of its own numbers, or in answer to what came (RFC 9293, 3.5.2 and 3.10.7).
use Rattle.std.specs.Prelude.{ℕ, ◌==◌, Bool, true, false, ◌&&◌, ◌||◌, not, nat_le, nat_lt, if◌then◌else◌, List, [], ◌∷◌, ◌++◌, length, Option, Some, None}
use Rattle.tcp_numbers.specs.declared.seq.Seq.{Seq}
use Rattle.tcp_wire.specs.Flags.{rst, ack, has}
use Rattle.tcp_wire.specs.Position.{number, distance}
use Rattle.tcp_wire.specs.Wire.{Content}
use Rattle.tcp_conn.specs.Judgement.{count_numbers}

-- AN OWN NUMBER is one from the initial one up to SND.NXT, which is so many positions behind it (RFC 9293, 3.4)
abbrev pub is_own : ℕ → ℕ → ℕ → Bool
is_own first next n = nat_le (distance first n) next

-- THE ANSWER to a segment: its number is that of the acknowledgement; where there is none it is 0, and all of the segment is acknowledged (RFC
-- 9293, 3.5.2)
abbrev pub answer_to : Content → Seq × Option Seq
answer_to v = (
  record { 0 = if has ack v.flags then v.ack else 0 },
  if has ack v.flags then None else Some (record { 0 = number v.seq (count_numbers v) }),
)

-- it is kept where the end's SYN went. A reset has none, and one with an own number wants none
abbrev pub answers_of : Option Seq → ℕ → Content → List (Seq × Option Seq)
answers_of None next v = []
answers_of (Some first) next v = if has rst v.flags || (has ack v.flags && is_own first.0 next v.ack) then [] else answer_to v ∷ []

-- where more are than so many no more are kept, so that a reset is compared with so many at most
abbrev pub most_answers : ℕ
most_answers = 1024

abbrev pub is_full : List (Seq × Option Seq) → Bool
is_full answers = nat_lt most_answers (length answers)

abbrev pub kept_with : List (Seq × Option Seq) → List (Seq × Option Seq) → List (Seq × Option Seq)
kept_with answers more = if is_full answers then answers else answers ++ more

-- A RESET is this answer
abbrev pub acknowledges : Option Seq → Content → Bool
acknowledges None v = true
acknowledges (Some n) v = has ack v.flags && v.ack == n.0

abbrev pub is_answer : Content → Seq × Option Seq → Bool
is_answer v answer = v.seq == answer.0.0 && acknowledges answer.1 v

abbrev pub any_answer : Content → List (Seq × Option Seq) → Bool
any_answer v [] = false
any_answer v (answer ∷ answers) = is_answer v answer || any_answer v answers

-- where not all are kept it may be one that isn't
abbrev pub may_answer : Content → List (Seq × Option Seq) → Bool
may_answer v answers = is_full answers || any_answer v answers

-- it goes with other ports than those of the connection, as one does that answers what came with these
abbrev pub goes_elsewhere : Option (ℕ × ℕ) → Content → Bool
goes_elsewhere None v = false
goes_elsewhere (Some ports) v = not (v.src_port == ports.0) || not (v.dst_port == ports.1)
