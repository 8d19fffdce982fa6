use Rattle.std.proofs.Common.{◌≡◌, ◌<◌, map, length, None, Some, sym, ap, ◌∙◌, arith}
use Rattle.capture_form.specs.Sections.{start, step_at, blocks_of}
use Rattle.capture_form.specs.SectionView.{step_content}
use Rattle.capture_form.specs.View.{frame_content}
use Rattle.capture_form.proofs.Steps.{step_shorter}
use Rattle.capture_form.proofs.Listed.{none_opened, passed_on, packet_on, all_read}
use Rattle.capture_form.proofs.pcapng.reading.read.Goals as goal

pub returns-then-not-is_section : goal.returns-then-not-is_section
returns-then-not-is_section c = none_opened c.args.bytes.now c.new-frames.result.items c.new-frames.ensures.items (sym c.if-not-is_section.ensures)

pub returns-in-NoBlock : goal.returns-in-NoBlock
returns-in-NoBlock c =
    all_read c.args.bytes.now (map frame_content c.loop-section.frames.items) c.loop-section.section c.step.new.self c.loop-section.rest.now c.is_lossy.result c.stop_before.result
    (sym c.if-not-is_section.ensures) c.loop-section.invariant.found
    (c.in_ok-step.ensures.value ∙ ap (step_content c.step.new.self) c.in-NoBlock.is) (c.in_ok-step.ensures.same c.in-NoBlock.is) c.is_lossy.ensures c.stop_before.ensures

pub loop-section-smaller-in-Passed : goal.loop-section-smaller-in-Passed
loop-section-smaller-in-Passed c =
    let is : step_at c.loop-section.section c.loop-section.rest.now ≡ Some ((c.step.new.self, None), c.in-Passed.behind.now) = c.in_ok-step.ensures.value ∙ ap (step_content c.step.new.self) c.in-Passed.is in
    let less : length c.in-Passed.behind.now < length c.loop-section.rest.now = omega (arith, step_shorter c.loop-section.section c.loop-section.rest.now c.in-Passed.behind.now (c.step.new.self, None) is) in
    less

pub loop-section-preserved-in-Passed : goal.loop-section-preserved-in-Passed
loop-section-preserved-in-Passed c =
    let is : step_at c.loop-section.section c.loop-section.rest.now ≡ Some ((c.step.new.self, None), c.in-Passed.behind.now) = c.in_ok-step.ensures.value ∙ ap (step_content c.step.new.self) c.in-Passed.is in
    record {
      found = passed_on (map frame_content c.loop-section.frames.items) c.loop-section.section c.step.new.self c.loop-section.rest.now c.in-Passed.behind.now (blocks_of start c.args.bytes.now) is c.loop-section.invariant.found;
      inside = omega (arith, step_shorter c.loop-section.section c.loop-section.rest.now c.in-Passed.behind.now (c.step.new.self, None) is, c.loop-section.invariant.inside);
    }

pub loop-section-smaller : goal.loop-section-smaller
loop-section-smaller c =
    let is : step_at c.loop-section.section c.loop-section.rest.now ≡ Some ((c.step.new.self, Some (frame_content c.in-Packet.frame)), c.in-Packet.behind.now) = c.in_ok-step.ensures.value ∙ ap (step_content c.step.new.self) c.in-Packet.is in
    let less : length c.in-Packet.behind.now < length c.loop-section.rest.now = omega (arith, step_shorter c.loop-section.section c.loop-section.rest.now c.in-Packet.behind.now (c.step.new.self, Some (frame_content c.in-Packet.frame)) is) in
    less

pub loop-section-preserved : goal.loop-section-preserved
loop-section-preserved c =
    let is : step_at c.loop-section.section c.loop-section.rest.now ≡ Some ((c.step.new.self, Some (frame_content c.in-Packet.frame)), c.in-Packet.behind.now) = c.in_ok-step.ensures.value ∙ ap (step_content c.step.new.self) c.in-Packet.is in
    record {
      found = packet_on c.loop-section.frames.items c.push.new.self.items c.in-Packet.frame c.loop-section.section c.step.new.self c.loop-section.rest.now c.in-Packet.behind.now (blocks_of start c.args.bytes.now) c.in_ok-push-in-Packet.ensures.items is c.loop-section.invariant.found;
      inside = omega (arith, step_shorter c.loop-section.section c.loop-section.rest.now c.in-Packet.behind.now (c.step.new.self, Some (frame_content c.in-Packet.frame)) is, c.loop-section.invariant.inside);
    }
