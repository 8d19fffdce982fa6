-- The content of a handle of a host.
use Rattle.std.specs.Prelude.{Option, Some, None}
use base.Fml.{Fml, ftrue}
use denote.RattleType.{RattleType}
use denote.RawPtr.{Ptr}
use Rattle.region_heap.specs.declared.still.Still.{Still}
use Rattle.region_heap.specs.contracts.still.StillAllocator.TheImpl.{ghosts}
use Rattle.std_alloc.specs.Box.Ownership.{box_owns}
use Rattle.tcp_c.specs.declared.host.lodging.Lodging.{Lodging}
use Rattle.tcp_c.specs.contracts.host.lodging.Lodging as lodging

-- a host, as the logic describes its type
abbrev pub host_row : RattleType
host_row = lodging.the_row

-- the memory of the host in the handle, if there is one
abbrev pub held : Still → Ptr → Option Lodging → Fml
held heap at None = ftrue
held heap at (Some d) = box_owns (ghosts.dealloc_token heap) host_row at d
