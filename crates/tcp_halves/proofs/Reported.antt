-- Blocks, one after another.
use Rattle.std.proofs.Common.{◌≡◌, ℕ, List, [], ◌∷◌, ◌++◌, refl, sym, ◌∙◌, ap}
use Rattle.tcp_wire.specs.Position.{position_of}
use Rattle.tcp_wire.specs.Options.{OptionContent, Sack}
use Rattle.tcp_halves.specs.Sender.{Sending}
use Rattle.tcp_halves.specs.Marks.{reported_blocks, after_block, after_blocks}

pub after_blocks_append : (iss : ℕ) (s : Sending) (xs ys : List (ℕ × ℕ)) → after_blocks iss s (xs ++ ys) ≡ after_blocks iss (after_blocks iss s xs) ys
after_blocks_append iss s [] ys = refl
after_blocks_append iss s (block ∷ xs) ys = after_blocks_append iss (after_block s (position_of iss s.snd_una block.0) (position_of iss s.snd_una block.1)) xs ys

-- the blocks of a first option, and then those of the rest
pub blocks-after_first : (iss : ℕ) (s s1 : Sending) (options rest : List OptionContent) (first : OptionContent) (blocks : List (ℕ × ℕ)) → options ≡ first ∷ rest
    → first ≡ Sack blocks → s1 ≡ after_blocks iss s blocks → after_blocks iss s1 (reported_blocks rest) ≡ after_blocks iss s (reported_blocks options)
blocks-after_first iss s s1 options rest first blocks is told state =
    ap (λ s. after_blocks iss s (reported_blocks rest)) state
    ∙ sym (after_blocks_append iss s blocks (reported_blocks rest))
    ∙ ap (λ c. after_blocks iss s (reported_blocks (c ∷ rest))) (sym told)
    ∙ ap (λ os. after_blocks iss s (reported_blocks os)) (sym is)
