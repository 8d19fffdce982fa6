-- A row of segments that goes out as one is so many emissions.
use Rattle.std.proofs.Common.{◌≡◌, ℕ, zero, suc, ◌+◌, ◌-◌, ◌*◌, ◌<◌, ◌≤◌, refl, sym, ◌∙◌, ap, subst, arith}
use Rattle.std.specs.Prelude.{Option, Some, None, replicate, max, min}
use Rattle.tcp_driver.specs.declared.machine.Row.{Row}
use Rattle.tcp_driver.specs.declared.machine.Sent.{Sent}
use Rattle.tcp_driver.specs.declared.machine.Wants.{Wants}
use Rattle.tcp_driver.specs.Calls.{Emits, after_calls}
use Rattle.tcp_driver.specs.Deadlines.{last}
use Rattle.tcp_driver.specs.Driver.{Driving, after_emission, at, core_after, following, sent_of}
use Rattle.tcp_driver.specs.Machine.{Machine}
use Rattle.tcp_driver.specs.Rows.{AreInTurn, IsAsBefore, IsRow, Takes, after_emissions, after_numbers, after_row, core_after_many, numbers}
use Rattle.tcp_driver.specs.Times.{Times, after_segment, followed}
use Rattle.tcp_driver.specs.Trains.{TrainIsEmissions}

-- ONE MORE of a row, and the last
pub one_more : (k each start count : ℕ) (w : Wants) (una now : ℕ) (t : Times) → 0 < k
    → after_row k each start count w una now t ≡ after_row (k - 1) each (start + each) (count - each) w una now (after_numbers start each w una now t)
unfolding after_row
one_more zero each start count w una now t some = absurd (omega (arith, some))
one_more (suc more) each start count w una now t some =
    let less : more ≡ suc more - 1 = omega arith in
    ap (λ k. after_row k each (start + each) (count - each) w una now (after_numbers start each w una now t)) less

pub none_more : (each start count : ℕ) (w : Wants) (una now : ℕ) (t : Times) → after_row 0 each start count w una now t ≡ after_numbers start count w una now t
unfolding after_row
none_more each start count w una now t = refl

-- all of the rest take what is left
product : (k each : ℕ) → 0 < k → k * each ≡ (k - 1) * each + each
product zero each some = absurd (omega (arith, some))
product (suc more) each some =
    let less : more ≡ suc more - 1 = omega arith in
    let step : suc more * each ≡ more * each + each = omega arith in
    step ∙ ap (λ k. k * each + each) less

pub fits_more : (k each count : ℕ) → 0 < k → k * each ≤ count → each ≤ count
fits_more k each count some whole = omega (arith, product k each some, whole)

pub whole_more : (k each count : ℕ) → 0 < k → k * each ≤ count → (k - 1) * each ≤ count - each
whole_more k each count some whole = omega (arith, product k each some, whole)

-- BEHIND THE FIRST the end wants the same timers as behind the last
same-timers : {S : Type 0} (m : Machine S) (more : ℕ) (s : S) (window each start count : ℕ) → AreInTurn m more s window each start count
    → IsAsBefore m (core_after m s window) (core_after_many m (suc more) window s)
unfolding AreInTurn core_after_many
same-timers m zero s window each start count turns = record { wants = refl; una = refl }
same-timers m (suc more) s window each start count turns =
    let next = turns.1 in
    let rest = same-timers m more (core_after m s window) window each (start + each) (count - each) turns.2 in
    record { wants = rest.wants ∙ next.wants; una = rest.una ∙ next.una }

-- an emission of these numbers, wherever they go
timed : (o : Option Sent) (t : Times) (start count now : ℕ) → Takes o start count → after_segment o t now ≡ after_segment (Some (numbers start count)) t now
timed None t start count now takes = absurd (cc (takes.0))
timed (Some sent) t start count now takes =
    let at : sent.start ≡ start = cc (takes.0) in
    let many : sent.count ≡ count = cc (takes.1) in
    ap (λ k. after_segment (Some (numbers k sent.count)) t now) at ∙ ap (λ k. after_segment (Some (numbers start k)) t now) many

-- THE END AFTER A ROW with its times
abbrev with-row : {S : Type 0} → Machine S → S → S → ℕ → ℕ → ℕ → ℕ → ℕ → Times → Driving S
with-row m core wanting more each start count now t =
    record { core = core; times = after_row more each start count (m.wants wanting) (m.una wanting) now t }

one-emission : {S : Type 0} (m : Machine S) (d : Driving S) (now window start count : ℕ) → Takes (sent_of m d.core window) start count
    → after_emission m d now window ≡ following m (core_after m d.core window) (after_segment (Some (numbers start count)) d.times now) now
one-emission m d now window start count takes =
    ap (λ t. following m (core_after m d.core window) t now) (timed (sent_of m d.core window) d.times start count now takes)

emissions-are : {S : Type 0} (m : Machine S) (more : ℕ) (d : Driving S) (now window each start count : ℕ) → AreInTurn m more d.core window each start count
    → after_emissions m (suc more) d now window
    ≡ with-row m (core_after_many m (suc more) window d.core) (core_after_many m (suc more) window d.core) more each start count now d.times
unfolding AreInTurn after_emissions core_after_many after_row
emissions-are m zero d now window each start count turns = one-emission m d now window start count turns
emissions-are m (suc more) d now window each start count turns =
    let c = core_after m d.core window in
    let last = core_after_many m (suc (suc more)) window d.core in
    let one = following m c (after_segment (Some (numbers start each)) d.times now) now in
    let same = same-timers m (suc more) d.core window each start count turns in
    ap (λ x. after_emissions m (suc more) x now window) (one-emission m d now window start each turns.0)
    ∙ emissions-are m more one now window each (start + each) (count - each) turns.2
    ∙ ap (λ w. record { core = last; times = after_row more each (start + each) (count - each) (m.wants last) (m.una last) now (followed (after_segment (Some (numbers start each)) d.times now) w (m.una c) now) }) (sym same.wants)
    ∙ ap (λ una. record { core = last; times = after_row more each (start + each) (count - each) (m.wants last) (m.una last) now (followed (after_segment (Some (numbers start each)) d.times now) (m.wants last) una now) }) (sym same.una)

pub row_is_emissions : {S : Type 0} (m : Machine S) (d : Driving S) (now window : ℕ) (row : Row) → IsRow m d.core window row
    → after_emissions m row.segments d now window
    ≡ record {
      core = core_after_many m row.segments window d.core;
      times = after_row (row.segments - 1) row.each row.start row.count (m.wants (core_after_many m row.segments window d.core)) (m.una (core_after_many m row.segments window d.core)) now d.times;
    }
row_is_emissions {S = S} m d now window row is =
    let whole : suc (row.segments - 1) ≡ row.segments = omega (arith, is.some) in
    let P : ℕ → Type 0 = λ k. after_emissions m k d now window ≡ with-row m (core_after_many m k window d.core) (core_after_many m k window d.core) (row.segments - 1) row.each row.start row.count now d.times in
    subst P whole (emissions-are m (row.segments - 1) d now window row.each row.start row.count is.turns)

-- EACH EMISSION AT ONE TIME is a call
one-after : {S : Type 0} (m : Machine S) (count : ℕ) (d : Driving S) (now window : ℕ)
    → after_emissions m (suc count) d now window ≡ after_emission m (after_emissions m count d now window) now window
unfolding after_emissions
one-after m zero d now window = refl
one-after m (suc count) d now window = one-after m count (after_emission m d now window) now window

time-kept : {S : Type 0} (m : Machine S) (count : ℕ) (d : Driving S) (now window : ℕ) → at (after_emissions m count d (at d now) window) now ≡ at d now
unfolding after_emissions
time-kept m zero d now window = refl
time-kept m (suc count) d now window =
    ap (λ x. at x now) (one-after m count d (at d now) window) ∙ still-there d.times.clock (min last now) where
      still-there : (clock time : ℕ) → max (max clock time) time ≡ max clock time
      still-there clock time = omega arith

pub train_lem : {S : Type 0} (m : Machine S) → TrainIsEmissions m
unfolding after_emissions
train_lem m d zero now window = refl
train_lem m d (suc count) now window =
    let before = after_calls m d (replicate count (Emits now window)) in
    one-after m count d (at d now) window
    ∙ ap (λ (t : ℕ). after_emission m (after_emissions m count d (at d now) window) t window) (sym (time-kept m count d now window))
    ∙ ap (λ x. after_emission m x (at x now) window) (train_lem m d count now window)
