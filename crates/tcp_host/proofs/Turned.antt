-- Each end that has to emit waits for a turn, through a change of one.
use Rattle.std.proofs.Common.{◌≡◌, ◌≢◌, ℕ, Bool, true, false, ◌⊎◌, inl, inr, List, [], ◌∷◌, ◌++◌, Option, Some, None, set, refl, sym, ap, subst, ◌∙◌, arith}
use Rattle.std.proofs.lemmas.Bool.{cases_eq, false≢true, ne_eqb}
use Rattle.std.proofs.lemmas.Bool.Decides.{nat_tests}
use Rattle.std.proofs.lemmas.List.{get_or-set_other}
use Rattle.std.proofs.lemmas.List.Folds.{list_any-append}
use Rattle.std.specs.Prelude.{◌==◌, ◌||◌, if◌then◌else◌, option_map}
use Rattle.tcp_table.specs.declared.held.Held.{Held}
use Rattle.tcp_table.specs.Table.{Changes, Table, held_at, revalued, value_at, with_value}
use Rattle.tcp_table.specs.Deadlines.{Times}
use Rattle.tcp_table.specs.Turns.{Turns, after_adding, waits}
use Rattle.tcp_host.proofs.Due.{timed_followed, value_with}
use Rattle.tcp_host.specs.Behaviour.{Behaviour}
use Rattle.tcp_host.specs.declared.guest.Guest.{Guest}
use Rattle.tcp_host.specs.Hosting.{EachWaits, IsTimed, due_of, is_owed, owes}
use Rattle.tcp_host.specs.declared.pair.Pair.{Pair}

-- ---- who waits
itself : (id : ℕ) → (id == id) ≡ true
itself id = grind (arith, nat_tests)

no-more : (b : Bool) → (b || false) ≡ b
no-more true = refl
no-more false = refl

waits-last : (queue : List ℕ) (id i : ℕ) → waits (queue ++ id ∷ []) i ≡ (waits queue i || (id == i))
waits-last queue id i = list_any-append (λ other. other == i) queue (id ∷ [])
    ∙ ap (λ b. waits queue i || b) (no-more (id == i))

-- one that comes waits then
comes : (queue : List ℕ) (id : ℕ) → waits (after_adding queue id) id ≡ true
comes queue id = by (waits queue id) refl
  where
    by : (b : Bool) → waits queue id ≡ b → waits (if b then queue else queue ++ id ∷ []) id ≡ true
    by true e = e
    by false e = waits-last queue id id ∙ ap (λ b. b || (id == id)) e ∙ itself id

-- and so do those that did before
stays : (queue : List ℕ) (id other : ℕ) → waits queue other ≡ true → waits (after_adding queue id) other ≡ true
stays queue id other e = by (waits queue id)
  where
    by : (b : Bool) → waits (if b then queue else queue ++ id ∷ []) other ≡ true
    by true = e
    by false = waits-last queue id other ∙ ap (λ b. b || (id == other)) e

-- where the first goes the others wait on
goes : (id other : ℕ) (rest : List ℕ) → other ≢ id → waits (id ∷ rest) other ≡ true → waits rest other ≡ true
goes id other rest apart e = sym (ap (λ b. b || waits rest other) (ne_eqb id other (λ same. apart (sym same)))) ∙ e

-- ---- the ends
module _ {S : Type 0} (b : Behaviour S) where
  of-held : Option (Held Pair (Guest S)) → Bool
  of-held o = owes b (option_map (λ h. h.value) o)

  other-kept : (ends : Table Pair (Guest S)) (slot at : ℕ) (end : Guest S) → at ≢ slot
      → held_at (with_value ends slot end) at ≡ held_at ends at
  other-kept ends slot at end apart =
      get_or-set_other ends.slots slot at (option_map (revalued end) (held_at ends slot)) None apart

  -- all but one slot are as they were: the others that are in a burst wait, and so does that one, or it is in none
  each-waits : (ends new : Table Pair (Guest S)) (slot : ℕ) (queue after : List ℕ) → EachWaits b ends queue
      → ((at : ℕ) → at ≢ slot → held_at new at ≡ held_at ends at)
      → ((at : ℕ) → at ≢ slot → waits queue at ≡ true → waits after at ≡ true)
      → (owes b (value_at new slot) ≡ true → waits after slot ≡ true) → EachWaits b new after
  unfolding of-held
  each-waits ends new slot queue after wait kept on here at = by (cases_eq at slot)
    where
      by : (at ≡ slot) ⊎ (at ≡ slot → ⊥) → owes b (value_at new at) ≡ true → waits after at ≡ true
      by (inl same) = subst (λ k. owes b (value_at new k) ≡ true → waits after k ≡ true) (sym same) here
      by (inr apart) = λ bursts. on at apart (wait at (ap of-held (sym (kept at apart)) ∙ bursts))

  -- an end changes, and waits for a turn
  wait-followed : (ends : Table Pair (Guest S)) (queue : List ℕ) → EachWaits b ends queue
      → (slot : ℕ) (end : Guest S)
      → EachWaits b (with_value ends slot end) (after_adding queue slot)
  wait-followed ends queue wait slot end =
      each-waits ends (with_value ends slot end) slot queue (after_adding queue slot) wait
      (λ at apart. other-kept ends slot at end apart)
      (λ at apart e. stays queue slot at e) (λ bursts. comes queue slot)

  -- an end has its turn, and waits for another one
  wait-emitted : (ends : Table Pair (Guest S)) (slot : ℕ) (rest : List ℕ) → EachWaits b ends (slot ∷ rest)
      → (end : Guest S)
      → EachWaits b (with_value ends slot end) (after_adding rest slot)
  wait-emitted ends slot rest wait end =
      each-waits ends (with_value ends slot end) slot (slot ∷ rest) (after_adding rest slot) wait
      (λ at apart. other-kept ends slot at end apart)
      (λ at apart e. stays rest slot at (goes slot at rest apart e)) (λ bursts. comes rest slot)

  -- it has its turn, and is in no burst then
  wait-rested : (ends new : Table Pair (Guest S)) (slot : ℕ) (rest : List ℕ) → EachWaits b ends (slot ∷ rest)
      → ((at : ℕ) → at ≢ slot → held_at new at ≡ held_at ends at) → owes b (value_at new slot) ≡ false
      → EachWaits b new rest
  wait-rested ends new slot rest wait kept rests =
      each-waits ends new slot (slot ∷ rest) rest wait kept (λ at apart e. goes slot at rest apart e)
      (λ bursts. absurd (false≢true (sym rests ∙ bursts)))

  -- an end comes
  pub wait_opened : (ends new : Table Pair (Guest S)) (slot : ℕ) (held : Held Pair (Guest S)) (queue : List ℕ)
      → EachWaits b ends queue
      → Changes ends new slot (Some held) → EachWaits b new (after_adding queue slot)
  wait_opened ends new slot held queue wait changes =
      each-waits ends new slot queue (after_adding queue slot) wait changes.others
      (λ at apart e. stays queue slot at e) (λ bursts. comes queue slot)

  -- an end goes
  pub wait_without : (ends new : Table Pair (Guest S)) (slot : ℕ) (queue : List ℕ) → EachWaits b ends queue
      → Changes ends new slot None
      → EachWaits b new queue
  unfolding of-held
  wait_without ends new slot queue wait changes =
      each-waits ends new slot queue queue wait changes.others (λ at apart e. e)
      (λ bursts. absurd (false≢true (sym (ap of-held changes.changed) ∙ bursts)))

  -- the same ends
  pub wait_as_before : (ends new : Table Pair (Guest S)) (queue : List ℕ) → EachWaits b ends queue
      → ((slot : ℕ) → held_at new slot ≡ held_at ends slot) → EachWaits b new queue
  unfolding of-held
  wait_as_before ends new queue wait same at bursts = wait at (ap of-held (sym (same at)) ∙ bursts)

  -- what a call of an end leaves of all
  pub kept_followed : (ends : Table Pair (Guest S)) (deadlines : Times) (turns : Turns)
      → IsTimed b ends deadlines turns.room × EachWaits b ends turns.queue → (slot : ℕ) (old : Guest S)
      → value_at ends slot ≡ Some old
      → (end : Guest S) (after : Times) (later : Turns) → after ≡ set deadlines slot (due_of b end)
      → later ≡ record turns { queue = after_adding turns.queue slot }
      → IsTimed b (with_value ends slot end) after later.room × EachWaits b (with_value ends slot end) later.queue
  kept_followed ends deadlines turns is slot old was end after later due turn = (
    timed_followed b ends deadlines turns.room is.0 slot old was end after later.room due (ap (λ t. t.room) turn),
    subst (λ (queue : List ℕ). EachWaits b (with_value ends slot end) queue) (sym (ap (λ t. t.queue) turn))
        (wait-followed ends turns.queue is.1 slot end),
  )

  -- an end has had its turn, and has no more to emit
  pub wait_silent : (ends : Table Pair (Guest S)) (slot : ℕ) (queue rest : List ℕ)
      → EachWaits b ends queue
      → queue ≡ slot ∷ rest → (old : Guest S) → value_at ends slot ≡ Some old
      → (end : Guest S) → is_owed b end ≡ false → EachWaits b (with_value ends slot end) rest
  wait_silent ends slot queue rest wait first old was end rests =
      wait-rested ends (with_value ends slot end) slot rest (subst (λ (q : List ℕ). EachWaits b ends q) first wait)
      (λ at apart. other-kept ends slot at end apart)
      (ap (owes b) (value_with ends slot old was end) ∙ rests)

  -- it has had its turn, and what went out has it wait for another one
  pub wait_heard : (ends : Table Pair (Guest S)) (slot : ℕ) (queue rest later : List ℕ) → EachWaits b ends queue
      → queue ≡ slot ∷ rest
      → later ≡ after_adding rest slot → (end : Guest S) → EachWaits b (with_value ends slot end) later
  wait_heard ends slot queue rest later wait first last end =
      subst (λ (q : List ℕ). EachWaits b (with_value ends slot end) q) (sym last)
      (wait-emitted ends slot rest (subst (λ (q : List ℕ). EachWaits b ends q) first wait) end)
