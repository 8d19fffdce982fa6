use Rattle.std.proofs.Common.{ℕ, List, refl, sym, subst}
use Rattle.capture_window.specs.Windows.{Tells}
use Rattle.capture_form.specs.Pcap.{record_at}
use Rattle.capture_window.proofs.Holding.{tells_filled, tells_popped, tells_end}
use Rattle.capture_window.proofs.reading.wire_lengths.Goals as goal

pub returns-then-not-branch : goal.returns-then-not-branch
returns-then-not-branch g c =
    tells_end c.args.form (g.I.Input.remaining c.args.input.now) (g.I.Input.remaining c.fill.new.input) c.args.window.now c.loop-found.found.items c.fill.new.window
    (c.in_ok-fill.ensures.end cc) (c.in_ok-fill.ensures.met cc)
    (tells_filled c.args.form (g.I.Input.remaining c.args.input.now) (g.I.Input.remaining c.loop-found.input) (g.I.Input.remaining c.fill.new.input) c.args.window.now c.loop-found.found.items c.loop-found.window c.fill.new.window
    c.loop-found.invariant c.in_ok-fill.ensures.held)

pub loop-found-preserved : goal.loop-found-preserved
loop-found-preserved g c =
    subst (λ (found : List ℕ). Tells c.args.form (g.I.Input.remaining c.args.input.now) c.args.window.now found (g.I.Input.remaining c.fill.new.input) c.pass_record.new.window) (sym c.in_ok-keep.ensures)
    (tells_popped c.args.form (g.I.Input.remaining c.args.input.now) (g.I.Input.remaining c.fill.new.input) c.args.window.now c.loop-found.found.items c.fill.new.window c.pass_record.new.window c.in-Some.wire (record_at c.args.form c.fill.new.window) refl
    c.in-Some.ensures
    (tells_filled c.args.form (g.I.Input.remaining c.args.input.now) (g.I.Input.remaining c.loop-found.input) (g.I.Input.remaining c.fill.new.input) c.args.window.now c.loop-found.found.items c.loop-found.window c.fill.new.window
    c.loop-found.invariant c.in_ok-fill.ensures.held))
