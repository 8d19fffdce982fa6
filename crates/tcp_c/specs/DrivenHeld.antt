-- The content of a handle of a connection.
use Rattle.std.specs.Prelude.{Option, Some, None}
use base.Fml.{Fml, ftrue}
use denote.RattleType.{RattleType}
use denote.RawPtr.{Ptr}
use Rattle.region_heap.specs.declared.still.Still.{Still}
use Rattle.region_heap.specs.contracts.still.StillAllocator.TheImpl.{ghosts}
use Rattle.std_alloc.specs.Box.Ownership.{box_owns}
use Rattle.tcp_c.specs.declared.connection.driven.Driven.{Driven}
use Rattle.tcp_c.specs.contracts.connection.driven.Driven as driven

-- an end with its timers, as the logic describes its type
abbrev pub end_row : RattleType
end_row = driven.the_row

-- the memory of the end in the handle, if there is one
abbrev pub held : Still → Ptr → Option Driven → Fml
held heap at None = ftrue
held heap at (Some d) = box_owns (ghosts.dealloc_token heap) end_row at d
