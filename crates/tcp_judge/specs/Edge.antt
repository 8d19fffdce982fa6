-- THE RIGHT EDGE of what the peer's windows allow (RFC 9293, 3.8.6; RFC 7323, 2).
use Rattle.std.specs.Prelude.{ℕ, ◌+◌, ◌*◌, ◌-◌, ◌^◌, ◌==◌, Bool, ◌&&◌, not, nat_lt, max, min, if◌then◌else◌, List, [], ◌∷◌, length}
use Rattle.tcp_wire.specs.Flags.{syn, rst, has}
use Rattle.tcp_wire.specs.Options.{OptionContent, WindowScale}
use Rattle.tcp_wire.specs.Wire.{Content}
use Rattle.tcp_judge.specs.Heard.{is_syn}

pub record Edge : Type 0 where
  -- the furthest position that was acknowledged
  pub acked : ℕ
  -- the greatest window that came, in bytes
  pub window : ℕ
  -- the greatest shift that a SYN which came had
  pub shift : ℕ

abbrev pub no_edge : Edge
no_edge = record { acked = 0; window = 0; shift = 0 }

abbrev pub shift_in : OptionContent → ℕ
shift_in (WindowScale shift) = shift
shift_in other = 0

abbrev pub greatest_shift : List OptionContent → ℕ
greatest_shift [] = 0
greatest_shift (option ∷ options) = max (shift_in option) (greatest_shift options)

-- A WINDOW in bytes: that of a SYN isn't scaled (RFC 7323, 2.2), and a shift above 14 counts as 14 (RFC 7323, 2.3)
abbrev pub window_of : ℕ → Content → ℕ
window_of shift v = if has syn v.flags then v.window else v.window * 2 ^ min 14 shift

-- after a segment that came, and acknowledges this position. Nothing of a reset is taken
abbrev pub edge_after : Edge → ℕ → Content → Edge
edge_after e position v = record {
  acked = max e.acked position;
  window = max e.window (if has rst v.flags then 0 else window_of e.shift v);
  shift = max e.shift (if is_syn v then greatest_shift v.options else 0);
}

-- A TEXT ends no further behind the furthest acknowledgement than the greatest window, and one byte where that is 0: a probe (RFC 9293,
-- 3.8.6.1). A SYN's own goes before any window comes (RFC 7413, 2)
abbrev pub is_past : Edge → ℕ → Content → Bool
is_past e place v =
    nat_lt (max e.window 1) (place + length v.text - e.acked) && (nat_lt 0 place && (not (length v.text == 0) && not (has syn v.flags)))

-- It is found once the end's SYN is acknowledged, before which only TCP Fast Open sends text, and where a window came: what goes against
-- one of 0 may be a probe of any length (RFC 9293, 3.8.6.1)
abbrev pub is_beyond : Edge → ℕ → Content → Bool
is_beyond e place v = is_past e place v && (nat_lt 0 e.acked && nat_lt 0 e.window)
