-- The modes by their names.
use Rattle.std.specs.Prelude.{ℕ, Bool, true, false, if◌then◌else◌, List, bytes_eq, codes, Option, Some, None}
use Rattle.bench_transfer.specs.declared.mode.Mode.{Mode}
use Rattle.bench_transfer.specs.declared.mode.Mode.TheVariants.{InOrder, EachAcknowledged, OneByte, Late, Early}
use Rattle.bench_transfer.specs.declared.calls.Call.{Call}
use Rattle.bench_transfer.specs.declared.calls.Call.TheVariants.{Checksum, Decode, Encode}

abbrev pub mode_of : List ℕ → Option Mode
mode_of name =
    if bytes_eq name (codes "in_order") then Some InOrder
    else (if bytes_eq name (codes "each_acknowledged") then Some EachAcknowledged
    else (if bytes_eq name (codes "one_byte") then Some OneByte
    else (if bytes_eq name (codes "late") then Some Late
    else (if bytes_eq name (codes "early") then Some Early
    else None))))

-- how many segments a burst has, how many bytes of text each has, after how many of them an acknowledgement is sent, and
-- whether the first one arrives last
abbrev pub segments_of : Mode → ℕ
segments_of InOrder = 2
segments_of EachAcknowledged = 2
segments_of OneByte = 2
segments_of Late = 10
segments_of Early = 40

abbrev pub text_of : Mode → ℕ
text_of OneByte = 1
text_of InOrder = 1460
text_of EachAcknowledged = 1460
text_of Late = 1460
text_of Early = 1460

abbrev pub acknowledged_of : Mode → ℕ
acknowledged_of EachAcknowledged = 1
acknowledged_of InOrder = 2
acknowledged_of OneByte = 2
acknowledged_of Late = 2
acknowledged_of Early = 2

abbrev pub is_first_late : Mode → Bool
is_first_late InOrder = false
is_first_late EachAcknowledged = false
is_first_late OneByte = false
is_first_late Late = true
is_first_late Early = true

-- the calls by their names
abbrev pub call_of : List ℕ → Option Call
call_of name =
    if bytes_eq name (codes "checksum") then Some Checksum
    else (if bytes_eq name (codes "decode") then Some Decode
    else (if bytes_eq name (codes "encode") then Some Encode
    else None))
