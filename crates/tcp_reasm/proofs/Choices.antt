-- What becomes of a text, by the choices of the definition.
use Rattle.std.proofs.Common.{◌≡◌, ◌≢◌, ◌⊎◌, ℕ, zero, suc, ◌-◌, ◌<◌, ◌≤◌, List, length, take, refl, sym, ◌∙◌, ap, arith}
use Rattle.std.specs.Prelude.{true, false, min, Option, ℤ, nat_le, nat_lt, ◌==◌, ◌||◌, ◌&&◌, if◌then◌else◌}
use Rattle.std.proofs.lemmas.Bool.Decides.{nat_tests}
use Rattle.std.proofs.lemmas.List.{take_min}
use Rattle.tcp_reasm.specs.declared.placed.Placed.{Placed}
use Rattle.tcp_reasm.specs.declared.placed.Placed.TheVariants.{Advanced, NotKept}
use Rattle.tcp_reasm.specs.Reassembly.{Cell, Inbox, Piece, piece, is_empty, is_refused, overlay_of, with_overlay, answer_for, greatest_stamp, bytes_in_order, runs, after_place, place_answer}
use Rattle.tcp_reasm.specs.Store.{overlay_at, has_too_many}
use Rattle.tcp_reasm.proofs.Laying.{overlay_cut}

pub next_kept : (most start n : ℕ) → start ≡ 0 → (nat_lt 0 start && nat_lt most n) ≡ false
next_kept most start n e = grind (arith, nat_tests)

pub few_kept : (most start n : ℕ) → true ≡ nat_le n most → (nat_lt 0 start && nat_lt most n) ≡ false
few_kept most start n e = grind (arith, nat_tests)

pub many_refused : (most start n : ℕ) → start ≢ 0 → false ≡ nat_le n most → (nat_lt 0 start && nat_lt most n) ≡ true
many_refused most start n ne e = grind (arith, nat_tests)

pub advanced_answer : (n : ℕ) → 0 < n → Advanced n ≡ answer_for n
advanced_answer zero h = absurd (omega arith)
advanced_answer (suc n) h = refl

-- a text without a place in the window
outside_empty : (start size window : ℕ) → (size ≡ 0) ⊎ (window ≤ start) → ((size == 0) || nat_le window start) ≡ true
outside_empty start size window h = grind (arith, nat_tests)

inside_empty : (start size window : ℕ) → 0 < size → start < window → ((size == 0) || nat_le window start) ≡ false
inside_empty start size window some below = grind (arith, nat_tests)

pub outside_view : (q : Inbox) (offset : ℤ) (text : List ℕ) → (length (piece offset text).text ≡ 0) ⊎ (length q.held ≤ (piece offset text).start) → (q ≡ after_place q offset text) × (NotKept ≡ place_answer q offset text)
unfolding after_place place_answer
outside_view q offset text h =
    let p = piece offset text in
    let over = overlay_of q p in
    let empty : is_empty p q.held ≡ true = outside_empty p.start (length p.text) (length q.held) h in
    let refused : is_refused q p ≡ true = ap (λ b. b || (nat_lt 0 p.start && nat_lt q.most_runs (length (runs over)))) empty in
    (ap (λ b. if b then q else with_overlay q over) (sym refused), ap (λ b. if b then NotKept else answer_for (length (bytes_in_order over))) (sym refused))

-- a text that has a place in the window: what is done with the part of it that fits
pub place_view : (q new : Inbox) (offset : ℤ) (text : List ℕ) (start : ℕ) (rest cut : List ℕ) (answer : Placed) →
    start ≡ (piece offset text).start → rest ≡ (piece offset text).text → cut ≡ take (min (length q.held - start) (length rest)) rest → 0 < length rest → start < length q.held →
    new ≡ (if has_too_many q.most_runs start (overlay_at q start cut) then q else with_overlay q (overlay_at q start cut)) →
    answer ≡ (if has_too_many q.most_runs start (overlay_at q start cut) then NotKept else answer_for (length (bytes_in_order (overlay_at q start cut)))) →
    (new ≡ after_place q offset text) × (answer ≡ place_answer q offset text)
unfolding after_place place_answer
place_view q new offset text start rest cut answer is_start is_rest is_cut some below n a =
    let p : Piece = record { start = start; text = rest } in
    let is_piece : p ≡ piece offset text =
    ap (λ (k : ℕ). record { start = k; text = rest }) is_start ∙ ap (λ (t : List ℕ). record { start = (piece offset text).start; text = t }) is_rest in
    let same : overlay_at q start cut ≡ overlay_of q p =
    ap (overlay_at q start) (is_cut ∙ take_min (length q.held - start) rest)
    ∙ overlay_cut start rest (suc (greatest_stamp q.held)) q.held (length q.held - start) (omega arith) in
    let inside : is_empty p q.held ≡ false = inside_empty start (length rest) (length q.held) some below in
    let refused : has_too_many q.most_runs start (overlay_of q p) ≡ is_refused q p = ap (λ b. b || has_too_many q.most_runs start (overlay_of q p)) (sym inside) in (
      n ∙ ap (λ (over : List (Option Cell)). if has_too_many q.most_runs start over then q else with_overlay q over) same
          ∙ ap (λ b. if b then q else with_overlay q (overlay_of q p)) refused
          ∙ ap (λ (part : Piece). if is_refused q part then q else with_overlay q (overlay_of q part)) is_piece,
      a ∙ ap (λ (over : List (Option Cell)). if has_too_many q.most_runs start over then NotKept else answer_for (length (bytes_in_order over))) same
          ∙ ap (λ b. if b then NotKept else answer_for (length (bytes_in_order (overlay_of q p)))) refused
          ∙ ap (λ (part : Piece). if is_refused q part then NotKept else answer_for (length (bytes_in_order (overlay_of q part)))) is_piece,
    )
