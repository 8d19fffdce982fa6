-- What an emission (RFC 9293, 3.7, 3.8 and 3.10) into a buffer of any length reports and does, where it requires `least`
-- bytes.
use Rattle.std.specs.Prelude.{ℕ, nat_lt, if◌then◌else◌, List, [], ◌∷◌, length, is_some, unwrap_or, Option, Some, None}
use Rattle.tcp_conn.specs.declared.stray.TheConstants.{RESET_LEN}
use Rattle.tcp_conn.specs.State.{State}
use Rattle.tcp_conn.specs.Stray.{with_front}
use Rattle.tcp_conn.specs.Emission.{pending_length, destination, buffer_after, after_emission}
use Rattle.tcp_c.specs.Answers.{done, little_room, nothing_due}

abbrev pub emission_number : ℕ → ℕ → State → ℕ
emission_number least room s =
    if nat_lt room least then little_room else (if is_some (pending_length s) then done else nothing_due)

abbrev pub after_emission_within : ℕ → ℕ → State → State
after_emission_within least room s = if nat_lt room least then s else after_emission s

-- the length of the segment that is written
abbrev pub written_length : ℕ → ℕ → State → ℕ
written_length least room s = if nat_lt room least then 0 else unwrap_or (pending_length s) 0

-- no address
abbrev pub nowhere : List ℕ
nowhere = 0 ∷ 0 ∷ 0 ∷ 0 ∷ []

-- where it goes
abbrev pub written_destination : ℕ → ℕ → Option State → List ℕ
written_destination least room None = nowhere
written_destination least room (Some s) = if nat_lt room least then nowhere else unwrap_or (destination s) nowhere

-- the content of the buffer afterwards
abbrev pub written_buffer : ℕ → List ℕ → Option State → List ℕ
written_buffer least out None = out
written_buffer least out (Some s) = if nat_lt (length out) least then out else buffer_after s out

-- A RESET FOR NO END (RFC 9293, 3.10.7.1), into a buffer of any length
abbrev pub stray_number : ℕ → Option (List ℕ) → ℕ
stray_number room reset = if nat_lt room RESET_LEN then little_room else (if is_some reset then done else nothing_due)

abbrev pub stray_buffer : List ℕ → Option (List ℕ) → List ℕ
stray_buffer out reset = if nat_lt (length out) RESET_LEN then out else with_front reset out

abbrev pub stray_length : ℕ → Option (List ℕ) → ℕ
stray_length room reset = if nat_lt room RESET_LEN then 0 else (if is_some reset then RESET_LEN else 0)
