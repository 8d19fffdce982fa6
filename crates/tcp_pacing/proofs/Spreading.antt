-- What goes out in a span of time keeps to the greatest rate.
use Rattle.std.proofs.Common.{◌≡◌, ℕ, ◌+◌, ◌-◌, ◌*◌, ◌^◌, ◌<◌, ◌≤◌, Bool, true, false, List, [], ◌∷◌, arith, refl, ap, sym, subst, ◌∙◌}
use Rattle.std.specs.Prelude.{min, nat_le, if◌then◌else◌}
use Rattle.std.proofs.lemmas.Bool.{cases_lt, leb-true, leb-false}
use Rattle.std.proofs.Math.Logic.{⊎_elim}
use Rattle.std.proofs.Math.Nat.{mul-le-mul_left}
use Rattle.tcp_pacing.specs.declared.pace.Pace.{Pace}
use Rattle.tcp_pacing.specs.Pace.{interval, portion}
use Rattle.tcp_pacing.specs.Pacer.{Pacing, begins, is_paced, latest, with_portion}
use Rattle.tcp_pacing.specs.Spread.{Happening, Asked, Went, Held, pacing_after, last_time, Bound, IsWithin, IsPaced, sent_between, NoFasterThanTheRate}
use Rattle.tcp_pacing.proofs.Rates.{portion_keeps_rate, soon}

-- what went out from a time on
abbrev sent_from : ℕ → List Happening → ℕ
sent_from from [] = 0
sent_from from (Asked now pace ∷ earlier) = sent_from from earlier
sent_from from (Went now count ∷ earlier) = if nat_le from now then count + sent_from from earlier else sent_from from earlier
sent_from from (Held is_held ∷ earlier) = sent_from from earlier

-- ---- numbers
times-add : (n x y : ℕ) → n * (x + y) ≡ n * x + n * y
times-add n x y = omega arith

moved : (n sent left count : ℕ) → count ≤ left → n * (count + sent) + n * (left - count) ≡ n * sent + n * left
moved n sent left count enough =
    let d : n * ((count + sent) + (left - count)) ≡ n * (sent + left) = ap (λ (x : ℕ). n * x) (omega (arith, enough)) in
    sym (times-add n (count + sent) (left - count)) ∙ d ∙ times-add n sent left

within-next : (sent left rate most : ℕ) → sent ≡ 0 → left ≤ most → sent + left ≤ rate + most
within-next sent left rate most none few = omega (arith, none, few)

within-past : (sent left rate most : ℕ) → sent ≡ 0 → left ≤ most → sent + left ≤ rate + 2 * most
within-past sent left rate most none few = omega (arith, none, few)

past-later : (sent left rate more most : ℕ) → sent + left ≤ rate + 2 * most → rate ≤ more → sent + left ≤ more + 2 * most
past-later sent left rate more most h a = omega (arith, h, a)

at-most : (some sent left rate more most : ℕ) → some ≤ sent → sent + left ≤ rate + 2 * most → rate ≤ more → some ≤ more + 2 * most
at-most some sent left rate more most less h a = omega (arith, less, h, a)

nothing-sent : (n rate most : ℕ) → n * 0 ≤ rate + 2 * most
nothing-sent n rate most = omega arith

fewer-by : (count some sent : ℕ) (begun ended : Bool) → some ≤ sent
    → (if (if begun then ended else false) then count + some else some) ≤ (if begun then count + sent else sent)
fewer-by count some sent true true h = omega (arith, h)
fewer-by count some sent true false h = omega (arith, h)
fewer-by count some sent false ended h = h

uncounted : (begun ended : Bool) (x y : ℕ) → ended ≡ false → (if (if begun then ended else false) then x else y) ≡ y
uncounted true true x y e = absurd (cc)
uncounted true false x y e = refl
uncounted false ended x y e = refl

-- WHAT HOLDS behind each happening: what went out and what is left are what the rate lets out until the next portion begins, and a portion;
-- and what it lets out until now, and two
record Keeps (b : Bound) (from sent left next last : ℕ) : Type 0 where
  until : b.time * sent + b.time * left ≤ b.bytes * (next - from) + b.time * b.portion
  past : b.time * sent + b.time * left ≤ b.bytes * (last - from) + 2 * (b.time * b.portion)
  none : last < from → sent ≡ 0
  few : left ≤ b.portion

-- the numbers of a portion that begins: what was sent, left and is new, what the rate let out until it was due, until now, and in its interval
begun-next : (sent left new due now more most : ℕ) → sent + left ≤ due + most → due ≤ now → new ≤ more → sent + new ≤ (now + more) + most
begun-next sent left new due now more most h a rate = omega (arith, h, a, rate)

begun-past : (sent left new due now most : ℕ) → sent + left ≤ due + most → due ≤ now → new ≤ most → sent + new ≤ now + 2 * most
begun-past sent left new due now most h a small = omega (arith, h, a, small)

begun-within : (b : Bound) (from sent left next last now p i : ℕ) → Keeps b from sent left next last → from ≤ now → next ≤ now
    → b.time * p ≤ b.bytes * i → p ≤ b.portion → Keeps b from sent p (now + i) now
begun-within b from sent left next last now p i h since over rate small =
    let a : b.bytes * (next - from) ≤ b.bytes * (now - from) = mul-le-mul_left b.bytes (omega (arith, since, over)) in
    let s : now + i - from ≡ (now - from) + i = omega (arith, since) in
    let d : b.bytes * ((now - from) + i) ≡ b.bytes * (now - from) + b.bytes * i = times-add b.bytes (now - from) i in
    let few : b.time * p ≤ b.time * b.portion = mul-le-mul_left b.time small in
    record {
      until = subst (λ (x : ℕ). b.time * sent + b.time * p ≤ x + b.time * b.portion) (sym (ap (λ (x : ℕ). b.bytes * x) s ∙ d))
          (begun-next (b.time * sent) (b.time * left) (b.time * p) _ _ (b.bytes * i) (b.time * b.portion) h.until a rate);
      past = begun-past (b.time * sent) (b.time * left) (b.time * p) _ _ (b.time * b.portion) h.until a few;
      none = λ before. absurd (omega (arith, before, since));
      few = small;
    }

-- before the span nothing counts
nothing-yet : (b : Bound) (from sent p next last : ℕ) → sent ≡ 0 → p ≤ b.portion → Keeps b from sent p next last
nothing-yet b from sent p next last none small =
    let few : b.time * p ≤ b.time * b.portion = mul-le-mul_left b.time small in
    let zero : b.time * sent ≡ 0 = ap (λ (x : ℕ). b.time * x) none ∙ omega arith in
    record {
      until = within-next (b.time * sent) (b.time * p) (b.bytes * (next - from)) (b.time * b.portion) zero few;
      past = within-past (b.time * sent) (b.time * p) (b.bytes * (last - from)) (b.time * b.portion) zero few;
      none = λ _. none;
      few = small;
    }

begun : (b : Bound) (from sent left next last now p i : ℕ) → Keeps b from sent left next last → last ≤ now → next ≤ now
    → b.time * p ≤ b.bytes * i → p ≤ b.portion → Keeps b from sent p (now + i) now
begun b from sent left next last now p i h order over rate small =
    ⊎_elim (λ before. nothing-yet b from sent p (now + i) now (h.none (omega (arith, before, order))) small)
    (λ since. begun-within b from sent left next last now p i h since over rate small)
    (cases_lt now from)

-- time goes on
later : (b : Bound) (from sent left next last now : ℕ) → Keeps b from sent left next last → last ≤ now → Keeps b from sent left next now
later b from sent left next last now h order =
    let a : b.bytes * (last - from) ≤ b.bytes * (now - from) = mul-le-mul_left b.bytes (omega (arith, order)) in
    record {
      until = h.until;
      past = past-later (b.time * sent) (b.time * left) _ _ (b.time * b.portion) h.past a;
      none = λ before. h.none (omega (arith, before, order));
      few = h.few;
    }

-- bytes go out
sent-within : (b : Bound) (from sent left next last count : ℕ) → Keeps b from sent left next last → from ≤ last → count ≤ left
    → Keeps b from (count + sent) (left - count) next last
sent-within b from sent left next last count h since enough =
    let same : b.time * (count + sent) + b.time * (left - count) ≡ b.time * sent + b.time * left = moved b.time sent left count enough in
    let few = h.few in
    record {
      until = subst (λ (x : ℕ). x ≤ b.bytes * (next - from) + b.time * b.portion) (sym same) h.until;
      past = subst (λ (x : ℕ). x ≤ b.bytes * (last - from) + 2 * (b.time * b.portion)) (sym same) h.past;
      none = λ before. absurd (omega (arith, before, since));
      few = omega (arith, few);
    }

went : (b : Bound) (from sent left next last count : ℕ) (counts : Bool) → nat_le from last ≡ counts → Keeps b from sent left next last → count ≤ left
    → Keeps b from (if counts then count + sent else sent) (left - count) next last
went b from sent left next last count true e h enough = sent-within b from sent left next last count h (leb-true from last e) enough
went b from sent left next last count false e h enough =
    let few = h.few in
    nothing-yet b from sent (left - count) next last (h.none (leb-false from last e)) (omega (arith, few))

-- ---- over all that happens
abbrev KeepsAfter : Bound → ℕ → Pacing → List Happening → Type 0
KeepsAfter b from p happened =
    let q : Pacing = pacing_after p happened in Keeps b from (sent_from from happened) q.left q.next_at (last_time happened)

begins-then : (paced due : Bool) → (if paced then due else false) ≡ true → due ≡ true
begins-then true due e = e
begins-then false due e = absurd (cc)

asked : (b : Bound) (from sent last now : ℕ) (q : Pacing) (pace : Pace) (begin : Bool) → begins q now pace ≡ begin
    → Keeps b from sent q.left q.next_at last → IsWithin b pace → last ≤ now → now < 2 ^ 63
    → let r : Pacing = if begin then with_portion q now pace else q in Keeps b from sent r.left r.next_at now
asked b from sent last now q pace true e h within order soon_enough =
    let over : q.next_at ≤ now = leb-true q.next_at now (begins-then (is_paced q pace) (nat_le q.next_at now) e) in
    let long = soon pace in
    let at : min latest (now + interval pace) ≡ now + interval pace = omega (arith, long, soon_enough) in
    subst (λ (x : ℕ). Keeps b from sent (portion pace) x now) (sym at)
    (begun b from sent q.left q.next_at last now (portion pace) (interval pace) h order over (portion_keeps_rate pace b.time b.bytes within.rate) within.portion)
asked b from sent last now q pace false e h within order soon_enough = later b from sent q.left q.next_at last now h order

kept : (b : Bound) (from : ℕ) (p : Pacing) (happened : List Happening) → IsPaced b p happened → last_time happened < 2 ^ 63 → KeepsAfter b from p happened
kept b from p [] run early = nothing-yet b from 0 p.left p.next_at 0 refl run
kept b from p (Asked now pace ∷ earlier) run early =
    let order = run.0 in
    let h = kept b from p earlier run.2 (omega (arith, order, early)) in
    let q = pacing_after p earlier in
    asked b from (sent_from from earlier) (last_time earlier) now q pace (begins q now pace) refl h run.1 order early
kept b from p (Went now count ∷ earlier) run early =
    let order = run.0 in
    let h = kept b from p earlier run.2 (omega (arith, order, early)) in
    let q = pacing_after p earlier in
    went b from (sent_from from earlier) q.left q.next_at now count (nat_le from now) refl
    (later b from (sent_from from earlier) q.left q.next_at (last_time earlier) now h order) run.1
kept b from p (Held is_held ∷ earlier) run early = kept b from p earlier run early

-- ---- up to the end of the span
fewer : (from to : ℕ) (happened : List Happening) → sent_between from to happened ≤ sent_from from happened
fewer from to [] = omega arith
fewer from to (Asked now pace ∷ earlier) = fewer from to earlier
fewer from to (Went now count ∷ earlier) = fewer-by count _ _ (nat_le from now) (nat_le now to) (fewer from to earlier)
fewer from to (Held is_held ∷ earlier) = fewer from to earlier

abbrev AtMost : Bound → ℕ → ℕ → ℕ → Type 0
AtMost b from to sent = b.time * sent ≤ b.bytes * (to - from) + 2 * (b.time * b.portion)

up-to : (b : Bound) (from to : ℕ) (p : Pacing) (happened : List Happening) → IsPaced b p happened → last_time happened ≤ to → to < 2 ^ 63
    → AtMost b from to (sent_between from to happened)
up-to b from to p happened run order early =
    let h = kept b from p happened run (omega (arith, order, early)) in
    let a : b.bytes * (last_time happened - from) ≤ b.bytes * (to - from) = mul-le-mul_left b.bytes (omega (arith, order)) in
    let less : b.time * sent_between from to happened ≤ b.time * sent_from from happened = mul-le-mul_left b.time (fewer from to happened) in
    at-most (b.time * sent_between from to happened) (b.time * sent_from from happened) _ _ _ (b.time * b.portion) less h.past a

by-end : (b : Bound) (from to : ℕ) (p : Pacing) (now count : ℕ) (earlier : List Happening) (ends : Bool) → nat_le now to ≡ ends → to < 2 ^ 63
    → IsPaced b p (Went now count ∷ earlier) → AtMost b from to (sent_between from to earlier)
    → AtMost b from to (sent_between from to (Went now count ∷ earlier))
by-end b from to p now count earlier true e early run h = up-to b from to p (Went now count ∷ earlier) run (leb-true now to e) early
by-end b from to p now count earlier false e early run h =
    subst (AtMost b from to) (sym (uncounted (nat_le from now) (nat_le now to) (count + sent_between from to earlier) (sent_between from to earlier) e)) h

pub rate_lem : NoFasterThanTheRate
rate_lem b p from to [] run order early = nothing-sent b.time (b.bytes * (to - from)) (b.time * b.portion)
rate_lem b p from to (Asked now pace ∷ earlier) run order early = rate_lem b p from to earlier run.2 order early
rate_lem b p from to (Went now count ∷ earlier) run order early =
    by-end b from to p now count earlier (nat_le now to) refl early run (rate_lem b p from to earlier run.2 order early)
rate_lem b p from to (Held is_held ∷ earlier) run order early = rate_lem b p from to earlier run order early
