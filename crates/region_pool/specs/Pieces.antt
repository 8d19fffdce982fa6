-- What the right to free a piece of a pool is.
use Rattle.std.specs.Prelude.{◌<◌, ◌^◌}
use mir.Syntax.{Ty}
use prog.Memory.{size}
use base.Fml.{Fml, fex, fwand}
use denote.RawPtr.{Ptr, room_for}
use Rattle.region_heap.specs.Memory.{bytes_at, rounded}

-- room for a τ at p is the whole piece again, whose size fits in a word
abbrev pub piece_token : Ty → Ptr → Fml
piece_token τ p = fex (size τ < 2 ^ 62) (λ _. fwand (room_for τ p) (bytes_at p (rounded (size τ))))
