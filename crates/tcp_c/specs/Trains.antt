-- What is reported to C of segments that were emitted as one, for a device that cuts them (RFC 9293, 3.7 and 3.8), into a buffer of
-- any length, where it requires `least` bytes.
use Rattle.std.specs.Prelude.{ℕ, nat_lt, if◌then◌else◌, ◌-◌, List, length, Option, Some, None, unwrap_or}
use Rattle.tcp_conn.specs.declared.emit.train.Train.{Train}
use Rattle.tcp_conn.specs.Emission.{destination}
use Rattle.tcp_conn.specs.State.{State}
use Rattle.tcp_conn.specs.Train.{after_emissions, train_after, train_count, train_length, train_text}
use Rattle.tcp_conn.specs.Transmission.{count_due, kind_due, position_due}
use Rattle.tcp_c.specs.Reports.{kind_number, kind_told}
use Rattle.tcp_c.specs.Segments.{nowhere}
use Rattle.tcp_c.specs.declared.records.CTrain.{CTrain}

-- all zero where none is due, where there is less room than this, or no end
abbrev pub no_train : CTrain
no_train = record {
  to = record { byte = nowhere };
  kind = 0;
  length = 0;
  position = 0;
  count = 0;
  header = 0;
  each = 0;
  segments = 0;
}

-- the record of what an end reports
abbrev pub record_of : Train → CTrain
record_of t = record {
  to = record { byte = t.whole.to.0 };
  kind = kind_number t.whole.kind;
  length = t.whole.len;
  position = t.whole.position;
  count = t.whole.count;
  header = t.header;
  each = t.each;
  segments = t.segments;
}

-- what is due as one segment, the length of its header and of the text of each segment but the last, and how many they are
abbrev pub train_of : State → ℕ → CTrain
train_of s count = record {
  to = record { byte = unwrap_or (destination s) nowhere };
  kind = kind_told (kind_due s);
  length = unwrap_or (train_length s count) 0;
  position = unwrap_or (position_due s) 0;
  count = unwrap_or (train_text s count) 0;
  header = unwrap_or (train_length s count) 0 - unwrap_or (train_text s count) 0;
  each = unwrap_or (count_due s) 0;
  segments = count;
}

abbrev pub train_told : ℕ → ℕ → ℕ → Option State → CTrain
train_told least most room None = no_train
train_told least most room (Some s) = if nat_lt room least then no_train else train_of s (train_count s most room)

-- the content of the buffer afterwards
abbrev pub train_buffer : ℕ → ℕ → List ℕ → Option State → List ℕ
train_buffer least most out None = out
train_buffer least most out (Some s) = if nat_lt (length out) least then out else train_after s (train_count s most (length out)) out

-- the end afterwards: as many emissions later
abbrev pub after_train_within : ℕ → ℕ → ℕ → State → State
after_train_within least most room s = if nat_lt room least then s else after_emissions (train_count s most room) s
