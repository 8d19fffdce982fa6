use Rattle.std.proofs.Common.{◌≡◌, ℕ, List, None, Some, sym, ap, ◌∙◌}
use Rattle.capture_form.specs.Sections.{step_at}
use Rattle.capture_form.specs.SectionView.{step_content}
use Rattle.capture_form.specs.View.{frame_content}
use Rattle.capture_window.proofs.SectionsHeld.{behind_block, passed_block}
use Rattle.capture_window.proofs.taking.take_block.Goals as goal

pub pass_to-requires : goal.pass_to-requires
pass_to-requires g c =
    let is : step_at c.args.section.now c.args.window.now ≡ Some ((c.step.new.self, None), c.in-Passed.rest.now) = ap (step_at c.args.section.now) (sym c.bytes.ensures) ∙ c.in-Ok.ensures.value ∙ ap (step_content c.step.new.self) c.in-Passed.is in
    (behind_block c.args.section.now c.args.window.now c.in-Passed.rest.now (c.step.new.self, None) is).0

pub returns-in-Passed : goal.returns-in-Passed
returns-in-Passed g c =
    let is : step_at c.args.section.now c.args.window.now ≡ Some ((c.step.new.self, None), c.in-Passed.rest.now) = ap (step_at c.args.section.now) (sym c.bytes.ensures) ∙ c.in-Ok.ensures.value ∙ ap (step_content c.step.new.self) c.in-Passed.is in
    passed_block c.args.section.now c.step.new.self c.args.window.now c.in-Passed.rest.now None is
    ∙ ap (λ (bytes : List ℕ). Some ((c.step.new.self, None), bytes)) (sym c.pass_to.ensures)

pub pass_to-requires-in-Packet : goal.pass_to-requires-in-Packet
pass_to-requires-in-Packet g c =
    let is : step_at c.args.section.now c.args.window.now ≡ Some ((c.step.new.self, Some (frame_content c.in-Packet.frame)), c.in-Packet.rest.now) = ap (step_at c.args.section.now) (sym c.bytes.ensures) ∙ c.in-Ok.ensures.value ∙ ap (step_content c.step.new.self) c.in-Packet.is in
    (behind_block c.args.section.now c.args.window.now c.in-Packet.rest.now (c.step.new.self, Some (frame_content c.in-Packet.frame)) is).0

pub returns-in_ok-take-in-Packet : goal.returns-in_ok-take-in-Packet
returns-in_ok-take-in-Packet g c =
    let is : step_at c.args.section.now c.args.window.now ≡ Some ((c.step.new.self, Some (frame_content c.in-Packet.frame)), c.in-Packet.rest.now) = ap (step_at c.args.section.now) (sym c.bytes.ensures) ∙ c.in-Ok.ensures.value ∙ ap (step_content c.step.new.self) c.in-Packet.is in
    passed_block c.args.section.now c.step.new.self c.args.window.now c.in-Packet.rest.now (Some (frame_content c.in-Packet.frame)) is
    ∙ ap (λ (bytes : List ℕ). Some ((c.step.new.self, Some c.in-Packet.frame.wire), bytes)) (sym c.pass_to-in-Packet.ensures)
