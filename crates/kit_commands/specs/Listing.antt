-- What is written for a list of segments: a function from its whole text.
use Rattle.std.specs.Prelude.{ℕ, ◌+◌, ◌==◌, if◌then◌else◌, Bool, List, [], ◌∷◌, ◌++◌, length, codes, decimal, string_bytes, Option, Some, None, option_map, Result, Ok, Err}
use Rattle.std.specs.Option.{option_and_then, option_map_or}
use Rattle.tcp_wire.specs.declared.fault.DecodeError.{DecodeError}
use Rattle.tcp_wire.specs.Wire.{Content}
use Rattle.tcp_wire.specs.Decoded.{decode_answer}
use Rattle.kit_text.specs.Lines.{ascii_lines}
use Rattle.kit_text.specs.Words.{words_of, bytes_of, addr_of}
use Rattle.kit_text.specs.Segments.{meaning_text, is_malformed}
use Rattle.kit_commands.specs.declared.packet.Packet.{Packet}
use Rattle.kit_commands.specs.declared.listing.Listing.{Listing}

-- A LINE, `SOURCE DESTINATION BYTES`: bytes that came from one address to another
pub record PacketContent : Type 0 where
  pub src : List ℕ
  pub dst : List ℕ
  pub bytes : List ℕ

abbrev pub packet_content : {A : Type 0} → Packet A → PacketContent
packet_content p = record { src = p.src.0; dst = p.dst.0; bytes = p.bytes.items }

abbrev pub packet_from : List ℕ → List ℕ → List ℕ → PacketContent
packet_from src dst bytes = record { src = src; dst = dst; bytes = bytes }

abbrev pub packet_of_words : List (List ℕ) → Option PacketContent
packet_of_words [] = None
packet_of_words (src ∷ []) = None
packet_of_words (src ∷ dst ∷ []) = None
packet_of_words (src ∷ dst ∷ bytes ∷ []) =
    option_and_then (λ s. option_and_then (λ d. option_map (packet_from s d) (bytes_of bytes)) (addr_of dst)) (addr_of src)
packet_of_words (src ∷ dst ∷ bytes ∷ more ∷ rest) = None

-- none where the line has no form
unfoldable pub packet_of : List ℕ → Option PacketContent
packet_of line = packet_of_words (words_of line)

-- THE MEANING of its bytes
abbrev pub meaning_of : PacketContent → Result Content DecodeError
meaning_of p = decode_answer p.src p.dst p.bytes

-- THE SEGMENTS of a list up to its first bad line, each with the number of its line and the meaning of its bytes
abbrev pub Segments : Type 0
Segments = List (ℕ × Result Content DecodeError)

unfoldable pub segments_of : List (ℕ × List ℕ) → Segments
segments_of [] = []
segments_of (line ∷ lines) = option_map_or (λ p. (line.0, meaning_of p) ∷ segments_of lines) (packet_of line.1) []

-- THE FIRST BAD LINE, if there is one
unfoldable pub first_bad_line : List (ℕ × List ℕ) → Option ℕ
first_bad_line [] = None
first_bad_line (line ∷ lines) = option_map_or (λ p. first_bad_line lines) (packet_of line.1) (Some line.0)

-- THE LISTING: a line for each segment
unfoldable pub segment_line : ℕ × Result Content DecodeError → List ℕ
segment_line segment = decimal segment.0 ++ (codes " " ++ (meaning_text segment.1 ++ (10 ∷ [])))

abbrev pub segment_lines : Segments → List ℕ
segment_lines [] = []
segment_lines (segment ∷ segments) = segment_line segment ++ segment_lines segments

abbrev pub count_malformed : Segments → ℕ
count_malformed [] = 0
count_malformed (segment ∷ segments) = (if is_malformed segment.1 then 1 else 0) + count_malformed segments

-- and then the total, unless it ended at a bad line
unfoldable pub total_line : ℕ → ℕ → List ℕ
total_line segments malformed = codes "total " ++ (decimal segments ++ (codes " malformed " ++ (decimal malformed ++ (10 ∷ []))))

abbrev pub total_unless : Option ℕ → Segments → List ℕ
total_unless (Some line) segments = []
total_unless None segments = total_line (length segments) (count_malformed segments)

-- whether no segment was malformed, or the bad line
abbrev pub answer_unless : Option ℕ → Segments → Result Bool ℕ
answer_unless (Some line) segments = Err line
answer_unless None segments = Ok (count_malformed segments == 0)

pub record ListingContent : Type 0 where
  pub text : List ℕ
  pub answer : Result Bool ℕ

abbrev pub listing_content : {A : Type 0} → Listing A → ListingContent
listing_content l = record { text = string_bytes l.text; answer = l.answer }

abbrev pub listing_of_segments : Segments → Option ℕ → ListingContent
listing_of_segments segments bad = record {
  text = segment_lines segments ++ total_unless bad segments;
  answer = answer_unless bad segments;
}

-- a text whose first bad line is found before all others has no segments
abbrev pub listing_of_lines : Result (List (ℕ × List ℕ)) ℕ → ListingContent
listing_of_lines (Ok lines) = listing_of_segments (segments_of lines) (first_bad_line lines)
listing_of_lines (Err line) = listing_of_segments [] (Some line)

-- of a whole text
unfoldable pub listing_of : List ℕ → ListingContent
listing_of text = listing_of_lines (ascii_lines text)
