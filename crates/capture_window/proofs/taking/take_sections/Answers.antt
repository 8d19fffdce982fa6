use Rattle.std.proofs.Common.{◌≡◌, ℕ, List, Option, None, Some, MatchOption, refl, sym, subst, ◌∙◌}
use Rattle.capture_form.specs.Sections.{step_at}
use Rattle.capture_window.specs.Windows.{wire_step, CountsSections}
use Rattle.capture_window.proofs.Counting.{sections_start, sections_filled, counts_passed, sections_end, sections_damaged}
use Rattle.capture_window.proofs.taking.take_sections.Goals as goal

pub returns-then-not-branch : goal.returns-then-not-branch
returns-then-not-branch g c =
    sections_end c.args.section.now c.loop-block.section (g.I.Input.remaining c.args.input.now) (g.I.Input.remaining c.fill_block.new.input) c.args.window.now c.fill_block.new.window c.loop-block.count
    (sym (c.in_ok-fill_block.ensures.whole) ∙ cc) (c.in_ok-fill_block.ensures.met cc)
    (sections_filled c.args.section.now c.loop-block.section (g.I.Input.remaining c.args.input.now) (g.I.Input.remaining c.loop-block.input) (g.I.Input.remaining c.fill_block.new.input) c.args.window.now c.loop-block.window c.fill_block.new.window c.loop-block.count
    c.loop-block.invariant c.in_ok-fill_block.ensures.held)

pub returns-in-None : goal.returns-in-None
returns-in-None g c =
    let none : step_at c.loop-block.section c.fill_block.new.window ≡ None =
    subst (λ (p : Option (Option ℕ)). MatchOption p (step_at c.loop-block.section c.fill_block.new.window ≡ None) (λ (wire : Option ℕ). wire_step c.loop-block.section c.fill_block.new.window ≡ Some ((c.take_block.new.section, wire), c.take_block.new.window))) c.in-None.is c.in_ok-take_block.ensures in
    sections_damaged c.args.section.now c.loop-block.section (g.I.Input.remaining c.args.input.now) (g.I.Input.remaining c.fill_block.new.input) c.args.window.now c.fill_block.new.window c.loop-block.count
    (sym (c.in_ok-fill_block.ensures.whole) ∙ cc) none
    (sections_filled c.args.section.now c.loop-block.section (g.I.Input.remaining c.args.input.now) (g.I.Input.remaining c.loop-block.input) (g.I.Input.remaining c.fill_block.new.input) c.args.window.now c.loop-block.window c.fill_block.new.window c.loop-block.count
    c.loop-block.invariant c.in_ok-fill_block.ensures.held)

pub loop-block-preserved : goal.loop-block-preserved
loop-block-preserved g c =
    let passed : wire_step c.loop-block.section c.fill_block.new.window ≡ Some ((c.take_block.new.section, c.in-Some.wire), c.take_block.new.window) =
    subst (λ (p : Option (Option ℕ)). MatchOption p (step_at c.loop-block.section c.fill_block.new.window ≡ None) (λ (wire : Option ℕ). wire_step c.loop-block.section c.fill_block.new.window ≡ Some ((c.take_block.new.section, wire), c.take_block.new.window))) c.in-Some.is c.in_ok-take_block.ensures in
    subst (λ (count : ℕ). CountsSections c.args.section.now (g.I.Input.remaining c.args.input.now) c.args.window.now count c.take_block.new.section (g.I.Input.remaining c.fill_block.new.input) c.take_block.new.window) (sym c.in_ok-count.ensures)
    (counts_passed c.args.section.now c.loop-block.section c.take_block.new.section (g.I.Input.remaining c.args.input.now) (g.I.Input.remaining c.fill_block.new.input) c.args.window.now c.fill_block.new.window c.take_block.new.window c.loop-block.count c.in-Some.wire
    (step_at c.loop-block.section c.fill_block.new.window) refl passed
    (sections_filled c.args.section.now c.loop-block.section (g.I.Input.remaining c.args.input.now) (g.I.Input.remaining c.loop-block.input) (g.I.Input.remaining c.fill_block.new.input) c.args.window.now c.loop-block.window c.fill_block.new.window c.loop-block.count
    c.loop-block.invariant c.in_ok-fill_block.ensures.held))

pub loop-block-init : goal.loop-block-init
loop-block-init g c = sections_start c.args.section.now (g.I.Input.remaining c.args.input.now) c.args.window.now
