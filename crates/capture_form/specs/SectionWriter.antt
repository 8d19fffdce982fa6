-- WRITING a capture in the pcapng form, for what reads back.
use Rattle.std.specs.Prelude.{◌≡◌, ℕ, ◌+◌, ◌-◌, ◌/◌, ◌%◌, ◌^◌, ◌<◌, ◌≤◌, List, [], ◌∷◌, ◌++◌, length, map, true, Some, slice_get}
use Rattle.std.specs.List.{AllByRecursion}
use Rattle.capture_form.specs.Numbers.{bytes_in}
use Rattle.capture_form.specs.Pcap.{FrameContent}
use Rattle.capture_form.specs.Blocks.{section_kind, order_magic, max_total, padded}
use Rattle.capture_form.specs.Sections.{is_resolution, units_of, time_at, max_interfaces}
use Rattle.capture_form.specs.declared.order.Order.{Order}
use Rattle.capture_form.specs.declared.pcapng.interface.Interface.{Interface}

pub record InterfaceWriting : Type 0 where
  pub link : ℕ
  pub snaplen : ℕ
  pub resolution : ℕ
  pub offset : ℕ

abbrev pub described : InterfaceWriting → Interface
described w = record { link = w.link; snaplen = w.snaplen; units = units_of w.resolution; offset = w.offset }

-- a packet: its interface, and that's number; its time in the interface's units, its length on the wire, and what was captured
pub record PacketWriting : Type 0 where
  pub number : ℕ
  pub interface : Interface
  pub ticks : ℕ
  pub wire : ℕ
  pub bytes : List ℕ

abbrev pub frame_of : PacketWriting → FrameContent
frame_of p = record { link = p.interface.link; time = time_at p.interface p.ticks; wire = p.wire; bytes = p.bytes }

pub record SectionWriting : Type 0 where
  pub order : Order
  pub interfaces : List InterfaceWriting
  pub packets : List PacketWriting

-- a block with these bytes after it
unfoldable pub block_before : Order → ℕ → List ℕ → List ℕ → List ℕ
block_before o kind body rest =
    bytes_in o 4 kind ++ (bytes_in o 4 (12 + length body) ++ (body ++ (bytes_in o 4 (12 + length body) ++ rest)))

-- version 1.0, and a length of the section that isn't told
unfoldable pub header_body : Order → List ℕ
header_body o = bytes_in o 4 order_magic ++ (bytes_in o 2 1 ++ (bytes_in o 2 0 ++ bytes_in o 8 (2 ^ 64 - 1)))

-- if_tsresol, if_tsoffset, and the end of the options
unfoldable pub interface_options : Order → InterfaceWriting → List ℕ
interface_options o w =
    bytes_in o 2 9 ++ (bytes_in o 2 1 ++ (bytes_in o 1 w.resolution ++ (bytes_in o 3 0
    ++ (bytes_in o 2 14 ++ (bytes_in o 2 8 ++ (bytes_in o 8 w.offset ++ bytes_in o 4 0))))))

unfoldable pub interface_body : Order → InterfaceWriting → List ℕ
interface_body o w = bytes_in o 2 w.link ++ (bytes_in o 2 0 ++ (bytes_in o 4 w.snaplen ++ interface_options o w))

unfoldable pub packet_body : Order → PacketWriting → List ℕ
packet_body o p =
    bytes_in o 4 p.number ++ (bytes_in o 4 (p.ticks / 4294967296) ++ (bytes_in o 4 (p.ticks % 4294967296)
    ++ (bytes_in o 4 (length p.bytes) ++ (bytes_in o 4 p.wire ++ (p.bytes ++ bytes_in o (padded (length p.bytes) - length p.bytes) 0)))))

-- the blocks of a section, with these bytes after them
unfoldable pub packets_before : Order → List PacketWriting → List ℕ → List ℕ
packets_before o [] rest = rest
packets_before o (p ∷ ps) rest = block_before o 6 (packet_body o p) (packets_before o ps rest)

unfoldable pub interfaces_before : Order → List InterfaceWriting → List ℕ → List ℕ
interfaces_before o [] rest = rest
interfaces_before o (w ∷ ws) rest = block_before o 1 (interface_body o w) (interfaces_before o ws rest)

unfoldable pub section_before : SectionWriting → List ℕ → List ℕ
section_before w rest =
    block_before w.order section_kind (header_body w.order) (interfaces_before w.order w.interfaces (packets_before w.order w.packets rest))

unfoldable pub spell_sections : List SectionWriting → List ℕ
spell_sections [] = []
spell_sections (w ∷ ws) = section_before w (spell_sections ws)

abbrev pub frames_of_all : List SectionWriting → List FrameContent
frames_of_all [] = []
frames_of_all (w ∷ ws) = map frame_of w.packets ++ frames_of_all ws

-- what a section can tell
pub record IsInterface (w : InterfaceWriting) : Type 0 where
  pub link : w.link < 2 ^ 16
  pub snaplen : w.snaplen < 2 ^ 32
  pub byte : w.resolution < 2 ^ 8
  pub resolution : is_resolution w.resolution ≡ true
  pub offset : w.offset < 2 ^ 64

pub record IsPacket (interfaces : List Interface) (p : PacketWriting) : Type 0 where
  pub number : p.number < 2 ^ 32
  pub interface : slice_get interfaces p.number ≡ Some p.interface
  pub ticks : p.ticks < 2 ^ 64
  pub wire : p.wire < 2 ^ 32
  pub captured : 32 + padded (length p.bytes) ≤ max_total

pub record IsSection (w : SectionWriting) : Type 0 where
  pub interfaces : AllByRecursion IsInterface w.interfaces
  pub few : length w.interfaces ≤ max_interfaces
  pub packets : AllByRecursion (IsPacket (map described w.interfaces)) w.packets
