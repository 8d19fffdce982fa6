-- Which segments are acceptable (RFC 9293, 3.10.7.4). A sequence number is read as the whole position nearest to RCV.NXT.
use Rattle.std.specs.Prelude.{ℕ, ◌-◌, pos, ◌+ℤ◌, Bool, false, ◌||◌, ◌==◌, if◌then◌else◌}
use Rattle.tcp_wire.specs.Position.{near, is_inside}
use Rattle.tcp_reasm.specs.Reassembly.{window}

-- A segment with SEG.LEN = 0 has to begin inside the window, or, at a zero window, at RCV.NXT. One with SEG.LEN > 0 needs an
-- open window that contains its first or its last number.
unfoldable pub is_acceptable : ℕ → ℕ → ℕ → ℕ → Bool
is_acceptable next window seq count =
    if count == 0
    then (if window == 0 then seq == next else is_inside next window (near next seq))
    else (if window == 0 then false
    else is_inside next window (near next seq) || is_inside next window (near next seq +ℤ pos (count - 1)))
