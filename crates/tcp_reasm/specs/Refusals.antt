-- The numbers and texts of the refusals of a new reassembly.
use Rattle.std.specs.Prelude.{ℕ, List, codes}
use Rattle.tcp_reasm.specs.declared.error.ReasmError.{ReasmError}
use Rattle.tcp_reasm.specs.declared.error.ReasmError.TheVariants.{BadCapacity, NoMemory}

abbrev pub reasm_error_number : ReasmError → ℕ
reasm_error_number BadCapacity = 21
reasm_error_number NoMemory = 22

abbrev pub reasm_error_text : ReasmError → List ℕ
reasm_error_text BadCapacity = codes "the capacity is not from 1 to 1048576 bytes"
reasm_error_text NoMemory = codes "no memory for the capacity"
