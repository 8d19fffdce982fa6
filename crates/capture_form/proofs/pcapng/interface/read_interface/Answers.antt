use Rattle.std.proofs.Common.{◌≡◌, ℕ, drop, refl, ap, ◌∙◌}
use Rattle.capture_form.specs.Numbers.{number_in}
use Rattle.capture_form.specs.Blocks.{number_of}
use Rattle.capture_form.specs.Sections.{resolution_in, units_of}
use Rattle.capture_form.specs.declared.pcapng.interface.Interface.{Interface}
use Rattle.capture_form.proofs.pcapng.interface.read_interface.Goals as goal

made : (link link' snaplen snaplen' units units' offset offset' : ℕ) → link ≡ link' → snaplen ≡ snaplen' → units ≡ units' → offset ≡ offset'
    → ◌≡◌ {A = Interface} (record { link = link; snaplen = snaplen; units = units; offset = offset }) (record { link = link'; snaplen = snaplen'; units = units'; offset = offset' })
made link link' snaplen snaplen' units units' offset offset' a b c d = rw (a, b, c, d) refl

pub returns : goal.returns
returns c =
    let o = c.args.order in
    let body = c.args.body.now in
    made c.read_u16.result (number_in o 2 body) c.read_u32.result (number_in o 4 (drop 4 body)) c.units_of.result (units_of (resolution_in o (drop 8 body)))
    c.number_of.result (number_of o 14 8 (drop 8 body) 0)
    c.read_u16.ensures (c.read_u32.ensures ∙ ap (number_in o 4) c.behind.ensures)
    (c.units_of.ensures ∙ ap units_of (c.read_resolution.ensures ∙ ap (resolution_in o) c.behind-options.ensures))
    (c.number_of.ensures ∙ ap (λ options. number_of o 14 8 options 0) c.behind-options.ensures)
