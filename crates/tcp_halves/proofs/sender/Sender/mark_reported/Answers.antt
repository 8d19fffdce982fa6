use Rattle.std.proofs.Common.{◌∙◌, ap}
use Rattle.std.specs.Prelude.{map}
use Rattle.tcp_wire.specs.View.{block, option_content}
use Rattle.tcp_halves.specs.Marks.{after_blocks}
use Rattle.tcp_halves.proofs.Reported.{blocks-after_first}
use Rattle.tcp_halves.proofs.sender.Sender.mark_reported.Goals as goal

-- the blocks of this option, and then those of the rest
pub loop-option-preserved-in-Sack : goal.loop-option-preserved-in-Sack
loop-option-preserved-in-Sack g c = record {
  state = blocks-after_first c.args.iss.0 c.loop-option.self c.mark_blocks.new.self c.loop-option.left c.next.new.self (option_content c.in-Some.option) (map block c.in-Sack.blocks.items)
      c.in-Some.ensures.some (ap option_content c.in-Sack.is) (c.mark_blocks.ensures.state ∙ ap (λ bs. after_blocks c.args.iss.0 c.loop-option.self (map block bs)) c.as_slice.ensures.value)
      ∙ c.loop-option.invariant.state;
  capacity = c.mark_blocks.ensures.capacity ∙ c.loop-option.invariant.capacity;
  queued = c.mark_blocks.ensures.queued;
}
