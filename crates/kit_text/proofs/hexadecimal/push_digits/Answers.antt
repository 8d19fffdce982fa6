use Rattle.std.proofs.Common.{string_bytes}
use Rattle.kit_text.proofs.Encoding.{block_appended}
use Rattle.kit_text.proofs.hexadecimal.push_digits.Goals as goal

pub loop-rest-preserved : goal.loop-rest-preserved
loop-rest-preserved g c =
    block_appended 64 (string_bytes c.loop-rest.text) (string_bytes c.push_block.new.text) c.loop-rest.rest.now c.split_at.result.0.now c.split_at.result.1.now _
    c.in_ok-push_block.ensures c.split_at.ensures.front c.split_at.ensures.back c.loop-rest.invariant
