-- The bytes are uninitialized, so they are the same for every thread.
use base.Shift.{Keyless}
use denote.RawPtr.{Ptr, block_ptr, null_ptr}
use denote.Param.Send.{IsSend, owning_send, sendable}
use Rattle.std.specs.Prelude.{ℕ}
use Rattle.region_heap.specs.Memory.{bytes_at}
use Rattle.region_heap.specs.contracts.memory.Memory.{the_row, the_type}

bytes_keyless : (p : Ptr) (n : ℕ) → Keyless (bytes_at p n)
bytes_keyless (block_ptr b o) n = tt
bytes_keyless null_ptr n = tt

pub send : IsSend the_row
send = owning_send the_type (search sendable, tt) (λ d. bytes_keyless d.at d.size) (λ k x w. tt)
