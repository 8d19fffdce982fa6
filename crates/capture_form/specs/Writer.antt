-- WRITING a capture, for what reads back.
use Rattle.std.specs.Prelude.{◌≡◌, ℕ, ◌/◌, ◌%◌, ◌^◌, ◌<◌, ◌≤◌, List, [], ◌∷◌, ◌++◌, length}
use Rattle.capture_form.specs.Numbers.{bytes_in}
use Rattle.capture_form.specs.Pcap.{FrameContent, nanoseconds, max_captured, micro_magic, nano_magic}
use Rattle.capture_form.specs.declared.form.Unit.{Unit}
use Rattle.capture_form.specs.declared.form.Unit.TheVariants.{Micro, Nano}
use Rattle.capture_form.specs.declared.form.Form.{Form}

abbrev pub magic : Unit → ℕ
magic Micro = micro_magic
magic Nano = nano_magic

-- version 2.4, two numbers that mean nothing, the most that is captured of a frame, and the link; with these bytes after it
unfoldable pub head_before : Form → List ℕ → List ℕ
head_before form rest =
    bytes_in form.order 4 (magic form.unit) ++ (bytes_in form.order 2 2 ++ (bytes_in form.order 2 4 ++ (bytes_in form.order 4 0
    ++ (bytes_in form.order 4 0 ++ (bytes_in form.order 4 max_captured ++ (bytes_in form.order 4 form.link ++ rest))))))

-- a frame's record, with these bytes after it
unfoldable pub record_before : Form → FrameContent → List ℕ → List ℕ
record_before form frame rest =
    bytes_in form.order 4 (frame.time / 1000000000)
    ++ (bytes_in form.order 4 (frame.time % 1000000000 / nanoseconds form.unit)
    ++ (bytes_in form.order 4 (length frame.bytes) ++ (bytes_in form.order 4 frame.wire ++ (frame.bytes ++ rest))))

unfoldable pub records : Form → List FrameContent → List ℕ
records form [] = []
records form (frame ∷ frames) = record_before form frame (records form frames)

unfoldable pub spell : Form → List FrameContent → List ℕ
spell form frames = head_before form (records form frames)

-- what a record can tell: its times are whole units
pub record HasRecord (form : Form) (frame : FrameContent) : Type 0 where
  pub link : frame.link ≡ form.link
  pub seconds : frame.time / 1000000000 < 2 ^ 32
  pub units : frame.time % nanoseconds form.unit ≡ 0
  pub wire : frame.wire < 2 ^ 32
  pub captured : length frame.bytes ≤ max_captured
