use Rattle.std.proofs.Common.{ℕ, List, None, Some, length, sym, ap, ◌∙◌, subst, arith}
use Rattle.capture_form.specs.Pcap.{form_of}
use Rattle.capture_window.specs.Windows.{HoldsBehind}
use Rattle.capture_window.proofs.Holding.{form_told, behind_held}
use Rattle.capture_window.proofs.reading.open.Goals as goal

pub returns-in_default-clause-form : goal.returns-in_default-clause-form
returns-in_default-clause-form g c =
    form_told (g.I.Input.remaining c.args.input.now) (g.I.Input.remaining c.fill_to.new.input) c.args.window.now c.fill_to.new.window None
    c.in_ok-fill_to.ensures.held c.in_ok-fill_to.ensures.met (c.in_default.ensures.value ∙ ap form_of c.bytes.ensures)

pub returns-clause-form : goal.returns-clause-form
returns-clause-form g c =
    form_told (g.I.Input.remaining c.args.input.now) (g.I.Input.remaining c.fill_to.new.input) c.args.window.now c.fill_to.new.window (Some c.in-Some.form)
    c.in_ok-fill_to.ensures.held c.in_ok-fill_to.ensures.met (c.in-Some.ensures.value ∙ ap form_of c.bytes.ensures)

pub returns-clause-behind : goal.returns-clause-behind
returns-clause-behind g c = λ _.
    subst (λ (held : List ℕ). HoldsBehind (g.I.Input.remaining c.args.input.now) c.args.window.now (g.I.Input.remaining c.fill_to.new.input) held) (sym c.pass.ensures)
    (behind_held (g.I.Input.remaining c.args.input.now) (g.I.Input.remaining c.fill_to.new.input) c.args.window.now c.fill_to.new.window
    c.in_ok-fill_to.ensures.held (omega (arith, c.in-Some.ensures.least, ap length c.bytes.ensures)))
