-- The content of a handle.
use Rattle.std.specs.Prelude.{Option, Some, None}
use base.Fml.{Fml, ftrue}
use denote.RattleType.{RattleType}
use denote.RawPtr.{Ptr}
use Rattle.region_heap.specs.declared.still.Still.{Still}
use Rattle.region_heap.specs.contracts.region.Region as region
use Rattle.region_heap.specs.contracts.region.RegionAllocator.TheImpl.{ghosts as region_ghosts}
use Rattle.region_heap.specs.contracts.still.StillAllocator.TheImpl.{ghosts}
use Rattle.std_alloc.specs.Box.Ownership.{box_owns}
use Rattle.tcp_conn.specs.State.{State}
use Rattle.tcp_conn.specs.contracts.endpoint.Endpoint as endpoint

-- an end whose buffers lie in regions, as the logic describes its type
abbrev pub end_row : RattleType
end_row = endpoint.the_row region.the_row region_ghosts

-- the memory of the end in the handle, if there is one
abbrev pub held : Still → Ptr → Option State → Fml
held heap at None = ftrue
held heap at (Some s) = box_owns (ghosts.dealloc_token heap) end_row at s
