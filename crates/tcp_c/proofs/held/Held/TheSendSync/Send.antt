-- The content of a `Held` is the same for every thread, so it may go to another.
use base.Fraction.{full_share}
use base.Shift.{Keyless}
use denote.RawPtr.{Ptr, block_ptr, null_ptr}
use denote.Param.Send.{IsSend, Frees, part_keyless, owning_send, sendable}
use Rattle.std.specs.Prelude.{Option, Some, None}
use Rattle.region_heap.specs.declared.still.Still.{Still}
use Rattle.region_heap.proofs.still.Still.TheSendSync as still
use Rattle.region_heap.specs.contracts.region.Region as region_row
use Rattle.region_heap.proofs.region.Region.TheSendSync as region
use Rattle.region_heap.specs.contracts.region.RegionAllocator.TheImpl.{ghosts}
use Rattle.tcp_conn.proofs.endpoint.Endpoint.TheSendSync as endpoint
use Rattle.tcp_c.specs.Held.{end_row, held}
use Rattle.tcp_c.specs.contracts.held.Held.{the_row, the_type}

frees : Frees ghosts ghosts.dealloc_token
frees = record { frees = λ a τ p. tt }

end_send : IsSend end_row
end_send = endpoint.the_send region_row.the_row ghosts region.the_send frees

held_keyless : (a : Still) (p : Ptr) (e : Option end_row.Denot) → Keyless (held a p e)
held_keyless a p None = tt
held_keyless a (block_ptr b o) (Some s) = (part_keyless end_row end_send full_share s b o, tt)
held_keyless a null_ptr (Some s) = (tt, tt)

pub send : IsSend the_row
send = owning_send the_type (search sendable, (still.the_field_send, tt)) (λ d. held_keyless d.heap d.at d.end) (λ k x w. tt)
