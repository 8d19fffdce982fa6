use Rattle.std.proofs.Common.{◌≡◌, ℕ, List, Option, None, Some, MatchOption, refl, sym, subst, ◌∙◌}
use Rattle.capture_form.specs.Sections.{step_at}
use Rattle.capture_window.specs.Windows.{wire_step, TellsSections}
use Rattle.capture_window.proofs.SectionsHeld.{told_filled, told_passed, told_end, told_damaged}
use Rattle.capture_window.proofs.sections.section_lengths.Goals as goal

pub returns-then-not-branch : goal.returns-then-not-branch
returns-then-not-branch g c =
    told_end c.args.section.now c.loop-block.section (g.I.Input.remaining c.args.input.now) (g.I.Input.remaining c.fill_block.new.input) c.args.window.now c.loop-block.found.items c.fill_block.new.window
    (sym (c.in_ok-fill_block.ensures.whole) ∙ cc) (c.in_ok-fill_block.ensures.met cc)
    (told_filled c.args.section.now c.loop-block.section (g.I.Input.remaining c.args.input.now) (g.I.Input.remaining c.loop-block.input) (g.I.Input.remaining c.fill_block.new.input) c.args.window.now c.loop-block.found.items c.loop-block.window c.fill_block.new.window
    c.loop-block.invariant c.in_ok-fill_block.ensures.held)

pub returns-in-None : goal.returns-in-None
returns-in-None g c =
    let none : step_at c.loop-block.section c.fill_block.new.window ≡ None =
    subst (λ (p : Option (Option ℕ)). MatchOption p (step_at c.loop-block.section c.fill_block.new.window ≡ None) (λ (wire : Option ℕ). wire_step c.loop-block.section c.fill_block.new.window ≡ Some ((c.pass_block.new.section, wire), c.pass_block.new.window))) c.in-None.is c.in_ok-pass_block.ensures in
    told_damaged c.args.section.now c.loop-block.section (g.I.Input.remaining c.args.input.now) (g.I.Input.remaining c.fill_block.new.input) c.args.window.now c.loop-block.found.items c.fill_block.new.window
    (sym (c.in_ok-fill_block.ensures.whole) ∙ cc) none
    (told_filled c.args.section.now c.loop-block.section (g.I.Input.remaining c.args.input.now) (g.I.Input.remaining c.loop-block.input) (g.I.Input.remaining c.fill_block.new.input) c.args.window.now c.loop-block.found.items c.loop-block.window c.fill_block.new.window
    c.loop-block.invariant c.in_ok-fill_block.ensures.held)

pub loop-block-preserved : goal.loop-block-preserved
loop-block-preserved g c =
    let passed : wire_step c.loop-block.section c.fill_block.new.window ≡ Some ((c.pass_block.new.section, c.in-Some.wire), c.pass_block.new.window) =
    subst (λ (p : Option (Option ℕ)). MatchOption p (step_at c.loop-block.section c.fill_block.new.window ≡ None) (λ (wire : Option ℕ). wire_step c.loop-block.section c.fill_block.new.window ≡ Some ((c.pass_block.new.section, wire), c.pass_block.new.window))) c.in-Some.is c.in_ok-pass_block.ensures in
    subst (λ (found : List ℕ). TellsSections c.args.section.now (g.I.Input.remaining c.args.input.now) c.args.window.now found c.pass_block.new.section (g.I.Input.remaining c.fill_block.new.input) c.pass_block.new.window) (sym c.in_ok-keep_wire.ensures)
    (told_passed c.args.section.now c.loop-block.section c.pass_block.new.section (g.I.Input.remaining c.args.input.now) (g.I.Input.remaining c.fill_block.new.input) c.args.window.now c.loop-block.found.items c.fill_block.new.window c.pass_block.new.window c.in-Some.wire
    (step_at c.loop-block.section c.fill_block.new.window) refl passed
    (told_filled c.args.section.now c.loop-block.section (g.I.Input.remaining c.args.input.now) (g.I.Input.remaining c.loop-block.input) (g.I.Input.remaining c.fill_block.new.input) c.args.window.now c.loop-block.found.items c.loop-block.window c.fill_block.new.window
    c.loop-block.invariant c.in_ok-fill_block.ensures.held))
