-- The address that a text names.
use Rattle.std.specs.Prelude.{Option, Some, None}
use Rattle.tcp_numbers.specs.declared.addr.Addr.{Addr}
use Rattle.capture_ends.specs.declared.side.Host.{Host}
use Rattle.capture_ends.specs.declared.side.Host.TheVariants.{V4, V6}

-- that of IPv4, if it is one
abbrev pub v4_of : Option Host → Option Addr
v4_of None = None
v4_of (Some (V4 addr)) = Some addr
v4_of (Some (V6 bytes)) = None
