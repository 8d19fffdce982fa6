use Rattle.std.proofs.Common.{◌≡◌, ◌++◌, ◌∙◌, List, ℕ, subst, sym, ap, arith}
use Rattle.tcp_wire.specs.Wire.{IsValid, encoded_bytes}
use Rattle.tcp_conn.specs.State.{State}
use Rattle.tcp_conn.specs.Forms.{text_of, plain_segment}
use Rattle.tcp_conn.proofs.Parting.{says_due, due_valid, front_fits}
use Rattle.tcp_conn.proofs.endpoint.Endpoint.front_of_text.Goals as goal

pub write_front-len-requires-clause-valid : goal.write_front-len-requires-clause-valid
write_front-len-requires-clause-valid g c =
    let text : List ℕ = c.text.result.0.now ++ c.text.result.1.now in
    let text_is : text ≡ text_of c.args.self.now.sending c.args.due = c.text.ensures.text in
    subst IsValid (sym (says_due c.args.self.now c.args.due c.plain_header-fields.result c.args.options.now text c.requires.options text_is c.plain_header-fields.ensures))
    (due_valid c.args.self.now c.args.due text c.requires.sendable c.fits_fields.ensures c.text.ensures.bytes text_is)

pub write_front-len-requires-clause-room : goal.write_front-len-requires-clause-room
write_front-len-requires-clause-room g c = omega (arith, front_fits c.args.self.now c.args.options.now c.requires.options, c.requires.room)

pub returns-clause-most : goal.returns-clause-most
returns-clause-most g c = omega (arith, front_fits c.args.self.now c.args.options.now c.requires.options, c.write_front-len.ensures.len)

pub returns-clause-bytes : goal.returns-clause-bytes
returns-clause-bytes g c =
    let text : List ℕ = c.text.result.0.now ++ c.text.result.1.now in
    let text_is : text ≡ text_of c.args.self.now.sending c.args.due = c.text.ensures.text in
    c.write_front-len.ensures.written
    ∙ ap (encoded_bytes c.self.inside.config.addr.0 c.self.inside.peer.addr.0)
    (says_due c.args.self.now c.args.due c.plain_header-fields.result c.args.options.now text c.requires.options text_is c.plain_header-fields.ensures)
    ∙ ap (λ (s : State). encoded_bytes s.config.addr.0 s.peer.addr.0 (plain_segment c.args.self.now c.args.due)) c.self.view_is
