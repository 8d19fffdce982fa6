use Rattle.std.proofs.Common.{◌≡◌, ◌++◌, ◌∙◌, List, ℕ, length, subst, sym, ap, drop, ◌+◌, ◌-◌, arith}
use Rattle.tcp_wire.specs.Checksum.{AreBytes}
use Rattle.tcp_wire.specs.Wire.{Content, IsValid, max_text_len, wire_length, encoded_bytes}
use Rattle.tcp_conn.specs.State.{State}
use Rattle.tcp_conn.specs.Forms.{text_of, plain_segment}
use Rattle.tcp_conn.specs.Writing.{summed}
use Rattle.tcp_conn.proofs.Around.{is_due_around, summed_over}
use Rattle.tcp_conn.proofs.Segments.{offset_of_report, text_as_long, written_segment_valid}
use Rattle.tcp_conn.proofs.endpoint.Endpoint.write_text.Goals as goal

pub slice_bounds-copy-end : goal.slice_bounds-copy-end
slice_bounds-copy-end g c =
    omega (arith, c.requires.writable.fits, c.text_start-start.ensures.offset, offset_of_report c.args.self.now, c.count-count.ensures)

pub write_header-requires-clause-valid : goal.write_header-requires-clause-valid
write_header-requires-clause-valid g c =
    let text : c.copy.new.out ≡ text_of c.args.self.now.sending c.args.due = c.copy.ensures.text in
    let stands = is_due_around c.args.self.now c.args.due c.plain_header-header.result c.args.options.now c.text_start-start.result c.count-count.result c.args.out.now c.copy.new.out
    c.requires.writable c.requires.options c.plain_header-header.ensures c.text_start-start.ensures.offset c.count-count.ensures text in
    subst IsValid (sym stands.same)
    (written_segment_valid c.args.self.now c.args.due (length c.args.out.now) c.fits_fields.ensures c.requires.writable (subst (λ (bytes : List ℕ). AreBytes bytes) text c.copy.ensures.bytes))

pub returns-clause-len : goal.returns-clause-len
returns-clause-len g c =
    let text : c.copy.new.out ≡ text_of c.args.self.now.sending c.args.due = c.copy.ensures.text in
    let stands = is_due_around c.args.self.now c.args.due c.plain_header-header.result c.args.options.now c.text_start-start.result c.count-count.result c.args.out.now c.copy.new.out
    c.requires.writable c.requires.options c.plain_header-header.ensures c.text_start-start.ensures.offset c.count-count.ensures text in
    c.write_header.ensures.len ∙ ap wire_length stands.same

pub returns-clause-bytes : goal.returns-clause-bytes
returns-clause-bytes g c =
    let w : Content = plain_segment c.args.self.now c.args.due in
    let text : c.copy.new.out ≡ text_of c.args.self.now.sending c.args.due = c.copy.ensures.text in
    let stands = is_due_around c.args.self.now c.args.due c.plain_header-header.result c.args.options.now c.text_start-start.result c.count-count.result c.args.out.now c.copy.new.out
    c.requires.writable c.requires.options c.plain_header-header.ensures c.text_start-start.ensures.offset c.count-count.ensures text in
    let written = summed_over c.args.sum c.self.inside.config.addr.0 c.self.inside.peer.addr.0 _ w c.text_start-start.result c.count-count.result (c.text_start-start.result + c.count-count.result - c.text_start-start.result)
    c.write_header.new.out c.args.out.now c.copy.new.out stands.room (omega arith) (ap length text ∙ text_as_long c.args.self.now.sending max_text_len c.args.due c.requires.writable.sendable ∙ sym c.count-count.ensures) stands.whole stands.same c.write_header.ensures.bytes in
    written ∙ ap (λ (s : State). summed c.args.sum s.config.addr.0 s.peer.addr.0 (encoded_bytes s.config.addr.0 s.peer.addr.0 w) ++ drop (wire_length w) c.args.out.now) c.self.view_is
    ∙ ap (λ (n : ℕ). summed c.args.sum c.args.self.now.config.addr.0 c.args.self.now.peer.addr.0 (encoded_bytes c.args.self.now.config.addr.0 c.args.self.now.peer.addr.0 w) ++ drop n c.args.out.now) (sym (returns-clause-len g c))

pub returns-clause-completes : goal.returns-clause-completes
returns-clause-completes g c partial =
    let w : Content = plain_segment c.args.self.now c.args.due in
    let text : c.copy.new.out ≡ text_of c.args.self.now.sending c.args.due = c.copy.ensures.text in
    let stands = is_due_around c.args.self.now c.args.due c.plain_header-header.result c.args.options.now c.text_start-start.result c.count-count.result c.args.out.now c.copy.new.out
    c.requires.writable c.requires.options c.plain_header-header.ensures c.text_start-start.ensures.offset c.count-count.ensures text in
    c.write_header.ensures.completes partial
    ∙ ap (encoded_bytes c.self.inside.config.addr.0 c.self.inside.peer.addr.0) stands.same
    ∙ ap (λ (s : State). encoded_bytes s.config.addr.0 s.peer.addr.0 w) c.self.view_is
