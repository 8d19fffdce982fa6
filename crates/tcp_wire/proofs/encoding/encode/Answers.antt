use Rattle.std.proofs.Common.{◌≡◌, ◌+◌, ◌-◌, List, length, map, sym, ap, subst, refl, ◌∙◌, arith}
use Rattle.tcp_wire.proofs.Places.{length_put, is_around, encoded_over}
use Rattle.tcp_wire.proofs.Writing.{IsWire_encoded, only_encoded}
use Rattle.tcp_wire.specs.declared.option.TcpOption.{TcpOption}
use Rattle.tcp_wire.specs.declared.segment.Segment.{Segment}
use Rattle.tcp_wire.specs.Wire.{IsValid, wire_length}
use Rattle.tcp_wire.specs.View.{content, content_of, option_content}
use Rattle.tcp_wire.proofs.encoding.encode.Goals as goal

-- the slice of a segment's options says what they do
says : (segment : Segment) (options : List TcpOption) → options ≡ segment.options.items
    → content_of segment.header (map option_content options) segment.pad segment.text.now ≡ content segment
says segment options same = ap (λ (xs : List TcpOption). content_of segment.header (map option_content xs) segment.pad segment.text.now) same

pub write_around-requires-clause-room : goal.write_around-requires-clause-room
write_around-requires-clause-room c =
    let text = c.args.segment.now.text.now in
    let at = c.text_offset-at.result in
    let placed = is_around (content c.args.segment.now) c.args.segment.now.header c.as_slice-options.result.now c.args.segment.now.pad at (length text) (at + length text - at) c.args.out.now c.copy_from_slice.new.self text
    c.text_offset-at.ensures c.requires.room (omega arith) refl c.copy_from_slice.ensures.after (says c.args.segment.now c.as_slice-options.result.now c.as_slice-options.ensures.value) in
    let len = length_put at (length text) (at + length text - at) c.args.out.now c.copy_from_slice.new.self placed.room (omega arith) (ap length c.copy_from_slice.ensures.after) in
    omega (arith, len, placed.room, c.text_offset-at.ensures)

pub write_around-requires-clause-valid : goal.write_around-requires-clause-valid
write_around-requires-clause-valid c =
    let text = c.args.segment.now.text.now in
    let at = c.text_offset-at.result in
    let placed = is_around (content c.args.segment.now) c.args.segment.now.header c.as_slice-options.result.now c.args.segment.now.pad at (length text) (at + length text - at) c.args.out.now c.copy_from_slice.new.self text
    c.text_offset-at.ensures c.requires.room (omega arith) refl c.copy_from_slice.ensures.after (says c.args.segment.now c.as_slice-options.result.now c.as_slice-options.ensures.value) in
    subst IsValid (sym placed.same) c.requires.valid

pub returns-clause-len : goal.returns-clause-len
returns-clause-len c =
    let text = c.args.segment.now.text.now in
    let at = c.text_offset-at.result in
    let placed = is_around (content c.args.segment.now) c.args.segment.now.header c.as_slice-options.result.now c.args.segment.now.pad at (length text) (at + length text - at) c.args.out.now c.copy_from_slice.new.self text
    c.text_offset-at.ensures c.requires.room (omega arith) refl c.copy_from_slice.ensures.after (says c.args.segment.now c.as_slice-options.result.now c.as_slice-options.ensures.value) in
    c.write_around.ensures.len ∙ ap wire_length placed.same

pub returns-clause-written : goal.returns-clause-written
returns-clause-written c =
    let text = c.args.segment.now.text.now in
    let at = c.text_offset-at.result in
    let placed = is_around (content c.args.segment.now) c.args.segment.now.header c.as_slice-options.result.now c.args.segment.now.pad at (length text) (at + length text - at) c.args.out.now c.copy_from_slice.new.self text
    c.text_offset-at.ensures c.requires.room (omega arith) refl c.copy_from_slice.ensures.after (says c.args.segment.now c.as_slice-options.result.now c.as_slice-options.ensures.value) in
    encoded_over c.args.src.0 c.args.dst.0 _ (content c.args.segment.now) at (length text) (at + length text - at) c.write_around.new.out c.args.out.now c.copy_from_slice.new.self
    placed.room (omega arith) (ap length c.copy_from_slice.ensures.after) placed.whole placed.same c.write_around.ensures.written

pub returns-clause-wire : goal.returns-clause-wire
returns-clause-wire c = IsWire_encoded c.args.src.0 c.args.dst.0 (content c.args.segment.now) c.requires.valid

pub returns-clause-only : goal.returns-clause-only
returns-clause-only c = λ other w. only_encoded c.args.src.0 c.args.dst.0 (content c.args.segment.now) other w
