-- A CAPTURE in the pcapng form (draft-ietf-opsawg-pcapng): sections, each of interfaces and of packets that were seen at them.
use Rattle.std.specs.Prelude.{ℕ, zero, suc, ◌+◌, ◌-◌, ◌*◌, ◌/◌, ◌^◌, min, ◌==◌, Bool, false, ◌&&◌, ◌||◌, not, nat_lt, if◌then◌else◌, List, [], ◌∷◌, ◌++◌, length, take, drop, Option, Some, None, slice_get}
use Rattle.std.specs.Option.{option_map_or}
use Rattle.capture_form.specs.Numbers.{number_in}
use Rattle.capture_form.specs.Pcap.{FrameContent, stop_before}
use Rattle.capture_form.specs.Blocks.{BlockContent, section_kind, is_section, order_magic, order_at, block_at, padded, number_of}
use Rattle.capture_form.specs.declared.order.Order.{Order}
use Rattle.capture_form.specs.declared.order.Order.TheVariants.{Big}
use Rattle.capture_form.specs.declared.pcapng.interface.Interface.{Interface}
use Rattle.capture_form.specs.declared.reading.Stop.{Stop}
use Rattle.capture_form.specs.declared.reading.Stop.TheVariants.{NoCapture}

-- what is known of the section that is read: its order, its interfaces, and whether packets are missing, in it or before it: a block told
-- of drops, or is a packet's that isn't read
pub record SectionContent : Type 0 where
  pub order : Order
  pub interfaces : List Interface
  pub is_lossy : Bool

-- SECTION HEADER BLOCK (section 4.1): the order, and version 1. It begins without interfaces.
unfoldable pub header_after : Order → SectionContent → List ℕ → Option (SectionContent × Option FrameContent)
header_after order s body =
    if nat_lt (length body) 16 || (not (number_in order 4 body == order_magic) || not (number_in order 2 (drop 4 body) == 1)) then None
    else Some (record { order = order; interfaces = []; is_lossy = s.is_lossy }, None)

-- TIMES (section 4.2, if_tsresol, 9, and if_tsoffset, 14). A second has 10^r units, or 2^(r - 128) where r has its highest bit.
abbrev pub resolution_in : Order → List ℕ → ℕ
resolution_in order options = number_of order 9 1 options 6

abbrev pub units_of : ℕ → ℕ
units_of r = if nat_lt r 128 then 10 ^ r else 2 ^ (r - 128)

-- units of which a second has 2^64 or more aren't read
abbrev pub is_resolution : ℕ → Bool
is_resolution r = not (nat_lt 19 r) || (not (nat_lt r 128) && not (nat_lt 191 r))

-- the most that a time is
abbrev pub max_time : ℕ
max_time = 18446744073709551615

-- a number of units in nanoseconds
abbrev pub nanoseconds_of : ℕ → ℕ → ℕ
nanoseconds_of units ticks = min (ticks * 1000000000 / units) max_time

-- and a number of seconds later, which is of 64 bits in two's complement
abbrev pub shifted : ℕ → ℕ → ℕ
shifted offset time =
    if nat_lt offset 9223372036854775808 then min (time + offset * 1000000000) max_time
    else time - (18446744073709551616 - offset) * 1000000000

abbrev pub time_at : Interface → ℕ → ℕ
time_at i ticks = shifted i.offset (nanoseconds_of i.units ticks)

-- INTERFACE DESCRIPTION BLOCK (section 4.2): link, two bytes, the most that is captured of a frame, options. Of a section's interfaces
-- so many are read at most.
abbrev pub max_interfaces : ℕ
max_interfaces = 4096

abbrev pub interface_in : Order → List ℕ → Interface
interface_in order body = record {
  link = number_in order 2 body;
  snaplen = number_in order 4 (drop 4 body);
  units = units_of (resolution_in order (drop 8 body));
  offset = number_of order 14 8 (drop 8 body) 0;
}

unfoldable pub interface_after : SectionContent → List ℕ → Option (SectionContent × Option FrameContent)
interface_after s body =
    if nat_lt (length body) 8 || (not (nat_lt (length s.interfaces) max_interfaces) || not (is_resolution (resolution_in s.order (drop 8 body)))) then None
    else Some (record { order = s.order; interfaces = s.interfaces ++ interface_in s.order body ∷ []; is_lossy = s.is_lossy }, None)

-- a block that told of drops, if this number isn't 0
abbrev pub told : SectionContent → ℕ → SectionContent
told s drops = record { order = s.order; interfaces = s.interfaces; is_lossy = s.is_lossy || not (drops == 0) }

-- ENHANCED PACKET BLOCK (section 4.3): its interface, a time in two words, the captured length and that on the wire, what was captured
-- brought to a multiple of four, options; of these epb_dropcount (4) are the packets lost before it
abbrev pub captured_in : Order → List ℕ → ℕ
captured_in order body = number_in order 4 (drop 12 body)

abbrev pub enhanced_in : Order → Interface → List ℕ → FrameContent
enhanced_in order i body = record {
  link = i.link;
  time = time_at i (number_in order 4 (drop 4 body) * 4294967296 + number_in order 4 (drop 8 body));
  wire = number_in order 4 (drop 16 body);
  bytes = take (captured_in order body) (drop 20 body);
}

abbrev pub lost_in : Order → List ℕ → ℕ
lost_in order body = number_of order 4 8 (drop (20 + padded (captured_in order body)) body) 0

unfoldable pub packet_by : SectionContent → List ℕ → Option Interface → Option (SectionContent × Option FrameContent)
packet_by s body None = None
packet_by s body (Some i) =
    if nat_lt (length body) (20 + captured_in s.order body) then None
    else Some (told s (lost_in s.order body), Some (enhanced_in s.order i body))

-- SIMPLE PACKET BLOCK (section 4.4): the length on the wire, and what interface 0 captured of it. It has no time.
abbrev pub simple_len : Interface → ℕ → ℕ
simple_len i wire = if i.snaplen == 0 then wire else min wire i.snaplen

abbrev pub simple_in : Order → Interface → List ℕ → FrameContent
simple_in order i body = record {
  link = i.link;
  time = 0;
  wire = number_in order 4 body;
  bytes = take (simple_len i (number_in order 4 body)) (drop 4 body);
}

unfoldable pub simple_by : SectionContent → List ℕ → Option Interface → Option (SectionContent × Option FrameContent)
simple_by s body None = None
simple_by s body (Some i) =
    if nat_lt (length body) (4 + simple_len i (number_in s.order 4 body)) then None
    else Some (s, Some (simple_in s.order i body))

-- INTERFACE STATISTICS BLOCK (section 4.6): interface and time, then options; of these isb_ifdrop (5) and isb_osdrop (7) are what was
-- dropped
abbrev pub dropped_in : Order → List ℕ → ℕ
dropped_in order body = number_of order 5 8 (drop 12 body) 0 + number_of order 7 8 (drop 12 body) 0

-- WHAT A BLOCK CHANGES, and the frame that it is. Other types are passed over; none where the block is damaged. An obsolete packet block
-- (appendix A) isn't read: what it holds may have come, so that a packet is missing.
unfoldable pub after : Order → SectionContent → BlockContent → Option (SectionContent × Option FrameContent)
after order s block =
    if block.kind == section_kind then header_after order s block.body
    else (if block.kind == 1 then interface_after s block.body
    else (if block.kind == 6 then packet_by s block.body (slice_get s.interfaces (number_in s.order 4 block.body))
    else (if block.kind == 3 then simple_by s block.body (slice_get s.interfaces 0)
    else (if block.kind == 5 then Some (told s (dropped_in s.order block.body), None)
    else (if block.kind == 2 then Some (told s 1, None)
    else Some (s, None))))))

-- that of the block that begins these bytes, and what follows it
abbrev pub with_rest : List ℕ → Option (SectionContent × Option FrameContent) → Option ((SectionContent × Option FrameContent) × List ℕ)
with_rest rest None = None
with_rest rest (Some changed) = Some (changed, rest)

abbrev pub step_by : Order → SectionContent → Option (BlockContent × List ℕ) → Option ((SectionContent × Option FrameContent) × List ℕ)
step_by order s None = None
step_by order s (Some b) = with_rest b.1 (after order s b.0)

unfoldable pub step_at : SectionContent → List ℕ → Option ((SectionContent × Option FrameContent) × List ℕ)
step_at s bytes = step_by (order_at s.order bytes) s (block_at (order_at s.order bytes) bytes)

-- THE FRAMES in at most n blocks, what is known behind the last, and the bytes that follow it
abbrev pub with_found : Option FrameContent → List FrameContent × (SectionContent × List ℕ) → List FrameContent × (SectionContent × List ℕ)
with_found None later = later
with_found (Some frame) later = (frame ∷ later.0, later.1)

unfoldable pub blocks_in : ℕ → SectionContent → List ℕ → List FrameContent × (SectionContent × List ℕ)
blocks_in zero s bytes = ([], (s, bytes))
blocks_in (suc n) s bytes = option_map_or (λ r. with_found r.0.1 (blocks_in n r.0.0 r.1)) (step_at s bytes) ([], (s, bytes))

-- in all: each block takes a byte or more
unfoldable pub blocks_of : SectionContent → List ℕ → List FrameContent × (SectionContent × List ℕ)
blocks_of s bytes = blocks_in (length bytes) s bytes

-- before the first section nothing is known
abbrev pub start : SectionContent
start = record { order = Big; interfaces = []; is_lossy = false }

-- THE CAPTURE: its frames, whether packets are missing, and where reading ends
abbrev pub ending : ℕ → List FrameContent × (SectionContent × List ℕ) → (List FrameContent × Bool) × Stop
ending whole found = ((found.0, found.1.0.is_lossy), stop_before whole found.1.1)

unfoldable pub sections_of : List ℕ → (List FrameContent × Bool) × Stop
sections_of bytes = if is_section bytes then ending (length bytes) (blocks_of start bytes) else (([], false), NoCapture)
