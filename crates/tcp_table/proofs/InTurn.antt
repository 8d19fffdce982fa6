-- What is noted of each id, through a change of the queue.
use Rattle.std.proofs.Common.{◌≡◌, ℕ, ◌<◌, ◌≤◌, Bool, true, false, cond, ◌⊎◌, inl, inr, List, [], ◌∷◌, ◌++◌, length, get_or, set, refl, sym, ap, ◌∙◌, arith}
use Rattle.std.proofs.lemmas.Bool.{cases_eq, cases_lt, false≢true, ne_eqb}
use Rattle.std.proofs.lemmas.Bool.Decides.{nat_tests}
use Rattle.std.proofs.lemmas.List.{get_or-set_same, get_or-set_other, get_or_past}
use Rattle.std.proofs.lemmas.List.Folds.{list_any-append}
use Rattle.std.specs.Prelude.{◌==◌, ◌||◌}
use Rattle.std.proofs.lemmas.List.{length-append, length-set}
use Rattle.std.proofs.lemmas.List.Sums.{count_by-le-length, sum_by-set}
use Rattle.std.specs.Prelude.{◌+◌}
use Rattle.tcp_table.specs.Turns.{AreNoted, IsOnce, IsQueue, noted_count, waits}

-- one that waits has a place
pub noted_within : (notes : List Bool) (id : ℕ) → get_or notes id false ≡ true → id < length notes
noted_within notes id noted = by (cases_lt id (length notes))
  where
    by : (id < length notes) ⊎ (length notes ≤ id) → id < length notes
    by (inl within) = within
    by (inr past) = absurd (false≢true (sym (get_or_past notes id false past) ∙ noted))

itself : (id : ℕ) → (id == id) ≡ true
itself id = grind (arith, nat_tests)

or-true : (b : Bool) → b ≡ true → (other : Bool) → (b || other) ≡ true
or-true b e other = rw e refl

pub first_within : (notes : List Bool) (id : ℕ) (queue : List ℕ) → AreNoted notes (id ∷ queue) → id < length notes
first_within notes id queue noted = noted_within notes id (noted id ∙ or-true (id == id) (itself id) (waits queue id))

-- the first goes
pub noted_after : (notes : List Bool) (id : ℕ) (queue : List ℕ) → AreNoted notes (id ∷ queue) → IsOnce (id ∷ queue)
    → AreNoted (set notes id false) queue
noted_after notes id queue noted once i = by (cases_eq i id)
  where
    by : (i ≡ id) ⊎ (i ≡ id → ⊥) → get_or (set notes id false) i false ≡ waits queue i
    by (inl same) = rw same (get_or-set_same notes id false false (first_within notes id queue noted) ∙ sym once.0)
    by (inr differs) =
        let other : (id == i) ≡ false = ne_eqb id i (λ e. differs (sym e)) in
        get_or-set_other notes id i false false differs ∙ noted i ∙ ap (λ b. b || waits queue i) other

no-more : (b : Bool) → (b || false) ≡ b
no-more true = refl
no-more false = refl

only-last : (b : Bool) → b ≡ false → (c : Bool) → (b || c) ≡ c
only-last b e c = rw e refl

waits-last : (queue : List ℕ) (id i : ℕ) → waits (queue ++ id ∷ []) i ≡ (waits queue i || (id == i))
waits-last queue id i = list_any-append (λ other. other == i) queue (id ∷ []) ∙ ap (λ b. waits queue i || b) (no-more (id == i))

-- one comes
pub noted_with : (notes : List Bool) (id : ℕ) (queue : List ℕ) → AreNoted notes queue → id < length notes
    → AreNoted (set notes id true) (queue ++ id ∷ [])
noted_with notes id queue noted within i = by (cases_eq i id)
  where
    by : (i ≡ id) ⊎ (i ≡ id → ⊥) → get_or (set notes id true) i false ≡ waits (queue ++ id ∷ []) i
    by (inl same) =
        let last : (id == i) ≡ true = grind (arith, nat_tests) in
        let there : waits (queue ++ id ∷ []) i ≡ true = waits-last queue id i ∙ grind (arith, last) in
        rw same (get_or-set_same notes id true false within) ∙ sym there
    by (inr differs) =
        let other : (id == i) ≡ false = ne_eqb id i (λ e. differs (sym e)) in
        get_or-set_other notes id i true false differs ∙ noted i ∙ sym (waits-last queue id i ∙ ap (λ b. waits queue i || b) other ∙ no-more (waits queue i))

not-first : (x id : ℕ) (queue : List ℕ) → waits (x ∷ queue) id ≡ false → ((x == id) ≡ false) × (waits queue id ≡ false)
not-first x id queue e = by (x == id) (waits queue id) e
  where
    by : (a b : Bool) → (a || b) ≡ false → (a ≡ false) × (b ≡ false)
    by false b e = (refl, e)
    by true b e = absurd (cc (e))

pub once_with : (queue : List ℕ) (id : ℕ) → IsOnce queue → waits queue id ≡ false → IsOnce (queue ++ id ∷ [])
once_with [] id once absent = (refl, tt)
once_with (x ∷ queue) id once absent =
    let parts = not-first x id queue absent in
    let other : (id == x) ≡ false = grind (arith, nat_tests, parts.0) in
    (waits-last queue id x ∙ rw (once.0, other) refl, once_with queue id once.1 parts.1)

-- ---- how many wait, as they are counted
abbrev one : Bool → ℕ
one noted = cond noted 1 0

count-set : (notes : List Bool) (id : ℕ) (noted : Bool) → id < length notes
    → noted_count (set notes id noted) + one (get_or notes id false) ≡ noted_count notes + one noted
count-set notes id noted within = sum_by-set one notes id noted false within

-- where one doesn't wait there is room in the queue
pub has_room : (notes : List Bool) (queue : List ℕ) (capacity id : ℕ) → IsQueue notes queue capacity → id < length notes
    → get_or notes id false ≡ false → length queue < capacity
has_room notes queue capacity id is within absent =
    let more = count-set notes id true within in
    let most = count_by-le-length (λ b. b) (set notes id true) in
    let none : one (get_or notes id false) ≡ 0 = ap one absent in
    omega (arith, more, most, none, is.counted, is.fits, length-set notes id true)

pub queue_with : (notes : List Bool) (queue : List ℕ) (capacity id : ℕ) → IsQueue notes queue capacity → id < length notes
    → get_or notes id false ≡ false → IsQueue (set notes id true) (queue ++ id ∷ []) capacity
queue_with notes queue capacity id is within absent = record {
  noted = noted_with notes id queue is.noted within;
  once = once_with queue id is.once (sym (is.noted id) ∙ absent);
  counted =
      let more = count-set notes id true within in
      let none : one (get_or notes id false) ≡ 0 = ap one absent in
      omega (arith, more, none, is.counted, length-append queue (id ∷ []));
  fits = omega (arith, is.fits, length-set notes id true);
}

pub queue_after : (notes : List Bool) (queue : List ℕ) (capacity id : ℕ) → IsQueue notes (id ∷ queue) capacity
    → IsQueue (set notes id false) queue capacity
queue_after notes queue capacity id is = record {
  noted = noted_after notes id queue is.noted is.once;
  once = is.once.1;
  counted =
      let more = count-set notes id false (first_within notes id queue is.noted) in
      let there : get_or notes id false ≡ true = is.noted id ∙ or-true (id == id) (itself id) (waits queue id) in
      let some : one (get_or notes id false) ≡ 1 = ap one there in
      omega (arith, more, some, is.counted);
  fits = omega (arith, is.fits, length-set notes id false);
}
