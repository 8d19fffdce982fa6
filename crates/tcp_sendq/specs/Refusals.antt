-- The numbers and texts of the refusals of a new queue.
use Rattle.std.specs.Prelude.{ℕ, List, codes}
use Rattle.tcp_sendq.specs.declared.error.QueueError.{QueueError}
use Rattle.tcp_sendq.specs.declared.error.QueueError.TheVariants.{BadCapacity, NoMemory}

abbrev pub queue_error_number : QueueError → ℕ
queue_error_number BadCapacity = 21
queue_error_number NoMemory = 22

abbrev pub queue_error_text : QueueError → List ℕ
queue_error_text BadCapacity = codes "the capacity is not from 1 to 1048576 bytes"
queue_error_text NoMemory = codes "no memory for the capacity"
