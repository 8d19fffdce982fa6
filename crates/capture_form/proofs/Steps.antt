-- Blocks one by one.
use Rattle.std.specs.Option.{option_map_or}
use Rattle.std.specs.Prelude.{Bool, true, false, not}
use Rattle.std.proofs.lemmas.Bool.{and_parts, ltb-false}
use Rattle.std.proofs.lemmas.List.{length-drop}
use Rattle.std.proofs.Common.{◌≡◌, ℕ, zero, suc, ◌+◌, ◌≤◌, ◌&&◌, ltb, eqb, ◌%◌, List, [], length, drop, Option, Some, None, refl, sym, ap, ◌∙◌, arith}
use Rattle.capture_form.specs.declared.order.Order.{Order}
use Rattle.capture_form.specs.Pcap.{FrameContent}
use Rattle.capture_form.specs.Blocks.{BlockContent, total_len, max_total, is_total, is_ended, is_whole, block_in, block_at, order_at}
use Rattle.capture_form.specs.Sections.{SectionContent, after, with_rest, step_by, step_at, with_found, blocks_in, blocks_of}
use Rattle.capture_form.proofs.Choices.{some_guard}

pub not_true : (b : Bool) → not b ≡ true → b ≡ false
not_true true is = absurd cc
not_true false is = refl

-- what a whole block says
pub record Whole (o : Order) (bytes : List ℕ) : Type 0 where
  pub head : 12 ≤ length bytes
  pub total : is_total (total_len o bytes) ≡ true
  pub least : 12 ≤ total_len o bytes
  pub fits : total_len o bytes ≤ length bytes
  pub ended : is_ended o bytes ≡ true

total_least : (len : ℕ) → is_total len ≡ true → 12 ≤ len
total_least len is =
    let both = and_parts (not (ltb len 12)) (eqb (len % 4) 0 && not (ltb max_total len)) is in
    ltb-false _ _ (not_true (ltb len 12) both.0)

pub whole_parts : (o : Order) (bytes : List ℕ) → is_whole o bytes ≡ true → Whole o bytes
unfolding is_whole
whole_parts o bytes is =
    let len = total_len o bytes in
    let first = and_parts (not (ltb (length bytes) 12)) (is_total len && (not (ltb (length bytes) len) && is_ended o bytes)) is in
    let second = and_parts (is_total len) (not (ltb (length bytes) len) && is_ended o bytes) first.1 in
    let third = and_parts (not (ltb (length bytes) len)) (is_ended o bytes) second.1 in
    record {
      head = ltb-false _ _ (not_true (ltb (length bytes) 12) first.0);
      total = second.0;
      least = total_least len second.0;
      fits = ltb-false _ _ (not_true (ltb (length bytes) len) third.0);
      ended = third.1;
    }

-- what a block's being there says
pub block_some : (o : Order) (bytes rest : List ℕ) (block : BlockContent) → block_at o bytes ≡ Some (block, rest)
    → (is_whole o bytes ≡ true) × ◌≡◌ {A = BlockContent × List ℕ} (block_in o bytes, drop (total_len o bytes) bytes) (block, rest)
unfolding block_at
block_some o bytes rest block is =
    some_guard {A = BlockContent × List ℕ} (is_whole o bytes) (block_in o bytes, drop (total_len o bytes) bytes) (block, rest) is

block_shorter : (o : Order) (bytes rest : List ℕ) (block : BlockContent) → block_at o bytes ≡ Some (block, rest) → length rest + 12 ≤ length bytes
block_shorter o bytes rest block is =
    let both = block_some o bytes rest block is in
    let whole = whole_parts o bytes both.0 in
    let len : length (drop (total_len o bytes) bytes) ≡ length rest = ap (λ (p : BlockContent × List ℕ). length p.1) both.1 in
    omega (arith, whole.least, whole.fits, len, length-drop (total_len o bytes) bytes)

-- a step is a block's
pub record StepOf (o : Order) (s : SectionContent) (found : Option (BlockContent × List ℕ)) (change : SectionContent × Option FrameContent) (rest : List ℕ) : Type 0 where
  pub block : BlockContent
  pub is : found ≡ Some (block, rest)
  pub changes : after o s block ≡ Some change

by_after : (o : Order) (s : SectionContent) (block : BlockContent) (behind : List ℕ) (n : Option (SectionContent × Option FrameContent)) (change : SectionContent × Option FrameContent) (rest : List ℕ)
    → after o s block ≡ n → with_rest behind n ≡ Some (change, rest) → StepOf o s (Some (block, behind)) change rest
by_after o s block behind None change rest e is = absurd cc
by_after o s block behind (Some m) change rest e is =
    let same : ◌≡◌ {A = (SectionContent × Option FrameContent) × List ℕ} (m, behind) (change, rest) = cc in
    record {
      block = block;
      is = ap (λ (p : (SectionContent × Option FrameContent) × List ℕ). Some (block, p.1)) same;
      changes = e ∙ ap (λ (p : (SectionContent × Option FrameContent) × List ℕ). Some p.0) same;
    }

step_found : (o : Order) (s : SectionContent) (found : Option (BlockContent × List ℕ)) (change : SectionContent × Option FrameContent) (rest : List ℕ)
    → step_by o s found ≡ Some (change, rest) → StepOf o s found change rest
step_found o s None change rest is = absurd cc
step_found o s (Some (block, behind)) change rest is = by_after o s block behind (after o s block) change rest refl is

pub step_some : (s : SectionContent) (bytes rest : List ℕ) (change : SectionContent × Option FrameContent) → step_at s bytes ≡ Some (change, rest)
    → StepOf (order_at s.order bytes) s (block_at (order_at s.order bytes) bytes) change rest
unfolding step_at
step_some s bytes rest change is = step_found (order_at s.order bytes) s (block_at (order_at s.order bytes) bytes) change rest is

pub step_shorter : (s : SectionContent) (bytes rest : List ℕ) (change : SectionContent × Option FrameContent) → step_at s bytes ≡ Some (change, rest)
    → length rest + 12 ≤ length bytes
step_shorter s bytes rest change is =
    let step = step_some s bytes rest change is in
    block_shorter (order_at s.order bytes) bytes rest step.block step.is

-- ---- the run

in_none : (n : ℕ) (s : SectionContent) (bytes : List ℕ) → step_at s bytes ≡ None → blocks_in n s bytes ≡ ([], (s, bytes))
unfolding blocks_in
in_none zero s bytes found = refl
in_none (suc n) s bytes found =
    ap (λ (r : Option ((SectionContent × Option FrameContent) × List ℕ)). option_map_or (λ r. with_found r.0.1 (blocks_in n r.0.0 r.1)) r ([], (s, bytes))) found

in_some : (n : ℕ) (s t : SectionContent) (bytes rest : List ℕ) (f : Option FrameContent) → step_at s bytes ≡ Some ((t, f), rest)
    → blocks_in (suc n) s bytes ≡ with_found f (blocks_in n t rest)
unfolding blocks_in
in_some n s t bytes rest f found =
    ap (λ (r : Option ((SectionContent × Option FrameContent) × List ℕ)). option_map_or (λ r. with_found r.0.1 (blocks_in n r.0.0 r.1)) r ([], (s, bytes))) found

-- more blocks than there are bytes make no difference
enough : (n m : ℕ) (s : SectionContent) (bytes : List ℕ) (first : Option ((SectionContent × Option FrameContent) × List ℕ)) → step_at s bytes ≡ first
    → length bytes ≤ n → length bytes ≤ m → blocks_in n s bytes ≡ blocks_in m s bytes
enough n m s bytes None found few more = in_none n s bytes found ∙ sym (in_none m s bytes found)
enough zero m s bytes (Some ((t, f), rest)) found few more = absurd (omega (arith, few, step_shorter s bytes rest (t, f) found))
enough (suc n) zero s bytes (Some ((t, f), rest)) found few more = absurd (omega (arith, more, step_shorter s bytes rest (t, f) found))
enough (suc n) (suc m) s bytes (Some ((t, f), rest)) found few more =
    let len = step_shorter s bytes rest (t, f) found in
    in_some n s t bytes rest f found
    ∙ ap (with_found f) (enough n m t rest (step_at t rest) refl (omega (arith, few, len)) (omega (arith, more, len)))
    ∙ sym (in_some m s t bytes rest f found)

of_some : (n : ℕ) (s t : SectionContent) (bytes rest : List ℕ) (f : Option FrameContent) → length bytes ≤ n → step_at s bytes ≡ Some ((t, f), rest)
    → blocks_in n s bytes ≡ with_found f (blocks_of t rest)
unfolding blocks_of
of_some zero s t bytes rest f few found = absurd (omega (arith, few, step_shorter s bytes rest (t, f) found))
of_some (suc n) s t bytes rest f few found =
    let len = step_shorter s bytes rest (t, f) found in
    in_some n s t bytes rest f found
    ∙ ap (with_found f) (enough n (length rest) t rest (step_at t rest) refl (omega (arith, few, len)) (omega arith))

-- the frames are that of the first block, if it is a packet, and those after it
pub blocks_some : (s t : SectionContent) (bytes rest : List ℕ) (f : Option FrameContent) → step_at s bytes ≡ Some ((t, f), rest)
    → blocks_of s bytes ≡ with_found f (blocks_of t rest)
unfolding blocks_of
blocks_some s t bytes rest f found = of_some (length bytes) s t bytes rest f (omega arith) found

pub blocks_none : (s : SectionContent) (bytes : List ℕ) → step_at s bytes ≡ None → blocks_of s bytes ≡ ([], (s, bytes))
unfolding blocks_of
blocks_none s bytes found = in_none (length bytes) s bytes found
