-- A CAPTURE in the pcap form (draft-ietf-opsawg-pcap): 24 bytes that tell of all, then a record for each frame.
use Rattle.std.specs.Prelude.{ℕ, zero, suc, ◌+◌, ◌-◌, ◌*◌, ◌%◌, ◌==◌, Bool, ◌&&◌, ◌||◌, not, nat_lt, if◌then◌else◌, List, [], ◌∷◌, length, take, drop, Option, Some, None}
use Rattle.std.specs.Option.{option_map_or}
use Rattle.capture_form.specs.Numbers.{number_in}
use Rattle.capture_form.specs.declared.order.Order.{Order}
use Rattle.capture_form.specs.declared.order.Order.TheVariants.{Big, Little}
use Rattle.capture_form.specs.declared.form.Unit.{Unit}
use Rattle.capture_form.specs.declared.form.Unit.TheVariants.{Micro, Nano}
use Rattle.capture_form.specs.declared.form.Form.{Form}
use Rattle.capture_form.specs.declared.reading.Stop.{Stop}
use Rattle.capture_form.specs.declared.reading.Stop.TheVariants.{Whole, Cut, NoCapture}

-- a frame: its link, when it was seen in nanoseconds, how long it was on the wire, and what was captured of it
pub record FrameContent : Type 0 where
  pub link : ℕ
  pub time : ℕ
  pub wire : ℕ
  pub bytes : List ℕ

abbrev pub nanoseconds : Unit → ℕ
nanoseconds Micro = 1000
nanoseconds Nano = 1

-- THE MAGIC NUMBER (section 4): a1b2c3d4 where times have microseconds, a1b23c4d where they have nanoseconds. It is in the
-- writer's order, and so tells that too.
abbrev pub micro_magic : ℕ
micro_magic = 2712847316

abbrev pub nano_magic : ℕ
nano_magic = 2712812621

unfoldable pub writing_of : List ℕ → Option (Order × Unit)
writing_of bytes =
    if number_in Big 4 bytes == micro_magic then Some (Big, Micro)
    else (if number_in Little 4 bytes == micro_magic then Some (Little, Micro)
    else (if number_in Big 4 bytes == nano_magic then Some (Big, Nano)
    else (if number_in Little 4 bytes == nano_magic then Some (Little, Nano)
    else None)))

-- the form of all, by the first 24 bytes (section 4): the low 16 bits of the last four are the link
abbrev pub form_by : List ℕ → Order × Unit → Form
form_by bytes writing = record { order = writing.0; unit = writing.1; link = number_in writing.0 4 (drop 20 bytes) % 65536 }

abbrev pub with_form : List ℕ → Option (Order × Unit) → Option Form
with_form bytes None = None
with_form bytes (Some writing) = Some (form_by bytes writing)

unfoldable pub form_of : List ℕ → Option Form
form_of bytes = if nat_lt (length bytes) 24 then None else with_form bytes (writing_of bytes)

-- A RECORD (section 5): seconds, units, captured length and length on the wire, four bytes each; then what was captured
abbrev pub captured_len : Form → List ℕ → ℕ
captured_len form bytes = number_in form.order 4 (drop 8 bytes)

abbrev pub frame_in : Form → List ℕ → FrameContent
frame_in form bytes = record {
  link = form.link;
  time = number_in form.order 4 bytes * 1000000000 + number_in form.order 4 (drop 4 bytes) * nanoseconds form.unit;
  wire = number_in form.order 4 (drop 12 bytes);
  bytes = take (captured_len form bytes) (drop 16 bytes);
}

-- The most that is captured of a frame, as libpcap has it (MAXIMUM_SNAPLEN). A record that tells more is damaged.
abbrev pub max_captured : ℕ
max_captured = 262144

abbrev pub is_damaged : Form → List ℕ → Bool
is_damaged form bytes = not (nat_lt (length bytes) 16) && nat_lt max_captured (captured_len form bytes)

-- the frame whose record begins these bytes, and what follows it; none where fewer bytes are left than it tells, or where it
-- is damaged
unfoldable pub record_at : Form → List ℕ → Option (FrameContent × List ℕ)
record_at form bytes =
    if nat_lt (length bytes) (16 + captured_len form bytes) || nat_lt max_captured (captured_len form bytes) then None
    else Some (frame_in form bytes, drop (captured_len form bytes) (drop 16 bytes))

-- THE FRAMES in at most n records, and what follows the last
abbrev pub with_frame : FrameContent → List FrameContent × List ℕ → List FrameContent × List ℕ
with_frame frame later = (frame ∷ later.0, later.1)

unfoldable pub records_in : ℕ → Form → List ℕ → List FrameContent × List ℕ
records_in zero form bytes = ([], bytes)
records_in (suc n) form bytes = option_map_or (λ r. with_frame r.0 (records_in n form r.1)) (record_at form bytes) ([], bytes)

-- in all: each record takes a byte or more
unfoldable pub records_of : Form → List ℕ → List FrameContent × List ℕ
records_of form bytes = records_in (length bytes) form bytes

-- THE CAPTURE: its frames, and where reading ends
abbrev pub stop_before : ℕ → List ℕ → Stop
stop_before whole [] = Whole
stop_before whole (byte ∷ bytes) = Cut (whole - length (byte ∷ bytes))

abbrev pub stopping : ℕ → List FrameContent × List ℕ → List FrameContent × Stop
stopping whole found = (found.0, stop_before whole found.1)

abbrev pub frames_by : List ℕ → Option Form → List FrameContent × Stop
frames_by bytes None = ([], NoCapture)
frames_by bytes (Some form) = stopping (length bytes) (records_of form (drop 24 bytes))

unfoldable pub frames_of : List ℕ → List FrameContent × Stop
frames_of bytes = frames_by bytes (form_of bytes)
