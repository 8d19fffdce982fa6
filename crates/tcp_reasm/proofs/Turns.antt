-- A turn over a text that is laid: what is kept is skipped, and the gap after it is written.
use Rattle.std.proofs.Common.{◌≡◌, ℕ, ◌+◌, ◌-◌, ◌<◌, ◌≤◌, List, ◌++◌, length, take, drop, refl, ◌∙◌, ap, arith, length-drop, length-take}
use Rattle.std.specs.Prelude.{min}
use Rattle.tcp_reasm.specs.Reassembly.{Run, stamp_of_run}
use Rattle.tcp_reasm.specs.Laws.{SomeCovers}
use Rattle.tcp_reasm.specs.Store.{ranked, put, laid, held_to, gap_to}
use Rattle.tcp_reasm.proofs.Described.{stamp_none, stamp_all, ranked_above, ranked_covers, covers_ranked}
use Rattle.tcp_reasm.proofs.Gaps.{held_to_least, held_to_held, gap_to_most, gap_to_least, gap_to_free}
use Rattle.tcp_reasm.proofs.Rings.{drop_put, take_put, split_drop, laid_free, laid_held}

-- how far a turn gets
pub record Turn (next from to end : ℕ) : Type 0 where
  pub passed : next ≤ from
  pub written : from ≤ to
  pub within : to ≤ end

pub turn_within : (all : List Run) (next from to end : ℕ) → next < end → from ≡ min (held_to all next) end → to ≡ gap_to all from end → Turn next from to end
turn_within all next from to end h f t = record {
  passed = omega (arith, held_to_least all next);
  written = omega (arith, t, gap_to_least all from end (omega arith));
  within = omega (arith, t, gap_to_most all from end (omega arith));
}

pub turn_laid : (all : List Run) (place next from to end unread : ℕ) (text middle ring after : List ℕ) → place ≤ next → next < end → end ≡ place + length text → from ≡ min (held_to all next) end → to ≡ gap_to all from end →
    middle ≡ take (to - from) (drop (from - place) text) → after ≡ put (unread + from) middle ring →
    let stamps = stamp_of_run (ranked all) in
    laid stamps 0 to (drop (to - place) text) (drop unread after) ≡ laid stamps 0 next (drop (next - place) text) (drop unread ring)
turn_laid all place next from to end unread text middle ring after least below e f t m w =
    let stamps = stamp_of_run (ranked all) in
    let turn : Turn next from to end = turn_within all next from to end below f t in
    let front : List ℕ = take (from - next) (drop (next - place) text) in
    let rest : List ℕ = drop (to - place) text in
    let bytes : List ℕ = drop unread ring in
    let size : length middle ≡ to - from = omega (arith, turn.passed, turn.written, turn.within, ap length m, length-take (to - from) (drop (from - place) text), length-drop (from - place) text) in
    let passed : length front ≡ from - next = omega (arith, turn.passed, turn.written, turn.within, length-take (from - next) (drop (next - place) text), length-drop (next - place) text) in
    let held : (i : ℕ) → 0 + next ≤ i → i < 0 + from → 0 < stamps i =
    λ i low high.
    let is : SomeCovers all i = held_to_held all next i (omega arith) (omega (arith, f)) in
    stamp_all (λ n. 0 < n) (ranked all) i (ranked_above all) (ranked_covers all i is) in
    let free : (i : ℕ) → 0 + from ≤ i → i < 0 + to → stamps i ≡ 0 =
    λ i low high. stamp_none (ranked all) i (λ c. gap_to_free all from end i (omega (arith, f)) (omega arith) (omega (arith, t)) (covers_ranked all i c)) in
    ap (laid stamps 0 to rest) (ap (drop unread) w ∙ drop_put unread from (unread + from) middle ring refl)
    ∙ laid_free stamps 0 from to middle rest bytes (omega (arith, size, turn.written)) free
    ∙ ap (λ (x : List ℕ). laid stamps 0 from x bytes) (ap (λ (x : List ℕ). x ++ rest) m ∙ split_drop (from - place) (to - from) (to - place) text (omega (arith, turn.passed, turn.written)))
    ∙ laid_held stamps 0 next from front (drop (from - place) text) bytes (omega (arith, passed, turn.passed)) held
    ∙ ap (λ (x : List ℕ). laid stamps 0 next x bytes) (split_drop (next - place) (from - next) (from - place) text (omega (arith, turn.passed)))

pub turn_unread : (unread from : ℕ) (middle ring after : List ℕ) → after ≡ put (unread + from) middle ring → take unread after ≡ take unread ring
turn_unread unread from middle ring after w =
    ap (take unread) w ∙ take_put unread (unread + from) middle ring (omega arith)
