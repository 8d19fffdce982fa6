-- The window field of a segment (RFC 9293, 3.1), and how it is scaled (RFC 7323, 2.3).
use Rattle.std.specs.Prelude.{ℕ, if◌then◌else◌, min, ◌^◌, unwrap_or, ◌*◌, ◌/◌}
use Rattle.tcp_reasm.specs.Reassembly.{Inbox, window}
use Rattle.tcp_halves.specs.declared.config.Config.{Config}
use Rattle.tcp_halves.specs.declared.link.Link.{Link}
use Rattle.tcp_conn.specs.State.{State}

-- the greatest window field (RFC 9293, 3.1)
abbrev pub max_window : ℕ
max_window = 65535

-- the shift of the windows that this end advertises
abbrev pub own_shift : Config → Link → ℕ
own_shift c link = if link.scaling then unwrap_or c.window_shift 0 else 0

-- the window that the peer advertises by a field (RFC 7323, 2.3)
abbrev pub window_from : Link → ℕ → ℕ
window_from link field = field * 2 ^ link.peer_shift

-- RCV.WND (RFC 9293, 3.3.1)
abbrev pub receive_window : State → ℕ
receive_window s = window s.receiving.inbox

abbrev pub window_field : ℕ → ℕ → ℕ
window_field shift window = min max_window (window / 2 ^ shift)

-- the advertised window: the window field of any segment that this end emits but a SYN and a reset
abbrev pub advertised_window : State → Inbox → ℕ
advertised_window s inbox = window_field (own_shift s.config s.link) (window inbox)
