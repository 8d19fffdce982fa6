-- The content of a segment in the code (RFC 9293, 3.1).
use Rattle.std.specs.Prelude.{◌≡◌, ℕ, ◌+◌, List, [], ◌∷◌, length, map, take, drop}
use Rattle.tcp_numbers.specs.declared.seq.Seq.{Seq}
use Rattle.tcp_wire.specs.declared.option.TcpOption.{TcpOption}
use Rattle.tcp_wire.specs.declared.option.TcpOption.TheVariants as code
use Rattle.tcp_wire.specs.declared.segment.Segment.{Segment}
use Rattle.tcp_wire.specs.declared.header.Header.{Header}
use Rattle.tcp_wire.specs.declared.raw.RawSegment.{RawSegment}
use Rattle.tcp_wire.specs.Options.{OptionContent, Nop, Mss, WindowScale, SackPermitted, Sack, Unknown, spelling}
use Rattle.tcp_wire.specs.Wire.{Content, header_len, area_bytes}
use Rattle.tcp_wire.specs.Decoded.{options_of}

-- a block as its two numbers
abbrev pub block : Seq × Seq → ℕ × ℕ
block edges = (edges.0.0, edges.1.0)

abbrev pub option_content : TcpOption → OptionContent
option_content code.Nop = Nop
option_content (code.Mss size) = Mss size
option_content (code.WindowScale shift) = WindowScale shift
option_content code.SackPermitted = SackPermitted
option_content (code.Sack blocks) = Sack (map block blocks.items)
option_content (code.Unknown kind body) = Unknown kind body.now

-- the content of a segment with this fixed header, these options, this many zeros after them and this text
abbrev pub content_of : Header → List OptionContent → ℕ → List ℕ → Content
content_of header options pad text = record {
  src_port = header.src_port;
  dst_port = header.dst_port;
  seq = header.seq.0;
  ack = header.ack.0;
  reserved = header.reserved;
  flags = header.flags.0;
  window = header.window;
  urgent = header.urgent;
  options = options;
  pad = pad;
  text = text;
}

abbrev pub content : Segment → Content
content segment = content_of segment.header (map option_content segment.options.items) segment.pad segment.text.now

-- the content of a segment whose options are in its area
abbrev pub raw_content : RawSegment → Content
raw_content segment =
    content_of segment.header (options_of segment.area.now).0 (options_of segment.area.now).1 segment.text.now

-- the Data Offset in bytes, where the text begins: after the fixed header, options and zeros
abbrev pub text_offset : List OptionContent → ℕ → ℕ
text_offset options pad = header_len + length (area_bytes options pad)

-- a segment with the text that is in `out` at its offset
abbrev pub around : Header → List TcpOption → ℕ → ℕ → List ℕ → Content
around header options pad text_len out =
    content_of header (map option_content options) pad (take text_len (drop (text_offset (map option_content options) pad) out))

-- an Unknown option's body is the slice that lies at this address
abbrev pub BodyIs : ℕ × ℕ → TcpOption → Type 0
BodyIs address code.Nop = Unit {0}
BodyIs address (code.Mss size) = Unit {0}
BodyIs address (code.WindowScale shift) = Unit {0}
BodyIs address code.SackPermitted = Unit {0}
BodyIs address (code.Sack blocks) = Unit {0}
BodyIs address (code.Unknown kind body) = body.ref_ptr ≡ address

-- the bodies of options that are spelled from this address on are slices there: each lies after its kind and length byte
abbrev pub BodiesLie : ℕ × ℕ → List TcpOption → Type 0
BodiesLie address [] = Unit {0}
BodiesLie address (option ∷ options) =
    BodyIs (address.0, address.1 + 2) option
    × BodiesLie (address.0, address.1 + length (spelling (option_content option))) options
