-- Memory that a program passes to a region.
use Rattle.std.specs.Prelude.{ℕ, ◌/◌}
use Rattle.std.specs.Int.{next_multiple_of}
use mir.Syntax.{Ty, w128, ty_int, ty_array}
use base.Fml.{Fml}
use denote.RawPtr.{Ptr, room_for}

-- n bytes, as units of 16 bytes aligned to 16
abbrev pub units_of : ℕ → Ty
units_of n = ty_array (ty_int w128) (n / 16)

-- room for them at p
abbrev pub bytes_at : Ptr → ℕ → Fml
bytes_at p n = room_for (units_of n) p

-- n bytes, rounded up to whole units
abbrev pub rounded : ℕ → ℕ
rounded n = next_multiple_of n 16
