-- The driver in a flow is as after calls of its own.
use Rattle.std.proofs.Common.{◌≡◌, ℕ, Bool, true, false, List, [], ◌∷◌, refl, subst, ◌∙◌}
use Rattle.std.specs.Prelude.{not, ◌+◌, ◌||◌, ◌&&◌, ◌==◌, if◌then◌else◌, min, Option, replicate}
use Rattle.tcp_congestion.specs.Control.{Control}
use Rattle.tcp_driver.specs.declared.machine.Report.{Report}
use Rattle.tcp_driver.specs.Calls.{Call, Arrives, Emits, after_calls}
use Rattle.tcp_driver.specs.Rows.{after_emissions, emissions_of}
use Rattle.tcp_driver.specs.Trains.{TrainIsEmissions}
use Rattle.tcp_driver.specs.Driver.{Driving, after_arrival, at, is_withheld, way_of}
use Rattle.tcp_driver.specs.Machine.{Machine}
use Rattle.tcp_flow.specs.Flow.{Flowing, after_duplicate, after_progress, after_repeat, allowed, counted_drops, counts_blocks, flight_of, has_blocks, is_idle, most_drops, most_repeats, nxt_of, rested, reported_before, row_of, settled, shut_by, srtt_of, told, una_of, with_all, with_delivery, with_first, with_lost, with_pipe_if}
use Rattle.tcp_flow.specs.Calls.{Comes, Goes, GoesAsOne, Passes, Asks, Limits, Waits, Chooses, Loses, Measures, FlowIsDriven, Resends, Nothing, First, Between, behind}

-- the driver of x is as after a call of d, and perhaps something goes out again
record Follows {S : Type 0} (m : Machine S) (d x : Driving S) (now : ℕ) (call : Call S) : Type 0 where
  resends : Resends
  same : x ≡ after_calls m d (behind m now resends (call ∷ []))

-- it does behind the call alone
first : {S W : Type 0} (m : Machine S) (d : Driving S) (f : Flowing S W) (now : ℕ) (call : Call S) (again : Bool)
    → f.driving ≡ after_calls m d (call ∷ []) → Follows m d (with_first m f now again).driving now call
first m d f now call true e = record { resends = First; same = cc }
first m d f now call false e = record { resends = Nothing; same = e }

lost-by : {S W : Type 0} (m : Machine S) (c : Control W) (d : Driving S) (f : Flowing S W) (now : ℕ) (call : Call S) (all again : Bool)
    → f.driving ≡ after_calls m d (call ∷ []) → Follows m d (if all then with_all m c f now else with_first m f now again).driving now call
lost-by m c d f now call true again e = record { resends = Between (una_of m f) (nxt_of m f); same = cc }
lost-by m c d f now call false again e = first m d f now call again e

lost : {S W : Type 0} (m : Machine S) (c : Control W) (d : Driving S) (f : Flowing S W) (now : ℕ) (call : Call S) (again : Bool)
    → f.driving ≡ after_calls m d (call ∷ []) → Follows m d (with_lost m c f now again).driving now call
lost m c d f now call again e = lost-by m c d f now call (again && f.drops == most_drops) again e

repeat-by : {S W : Type 0} (m : Machine S) (c : Control W) (d : Driving S) (f g : Flowing S W) (now : ℕ) (call : Call S) (third : Bool)
    → f.driving ≡ after_calls m d (call ∷ []) → g.driving ≡ after_calls m d (call ∷ [])
    → Follows m d (if third then with_all m c g now else record f { repeats = min most_repeats (f.repeats + 1) }).driving now call
repeat-by m c d f g now call true e i = lost-by m c d g now call true true i
repeat-by m c d f g now call false e i = record { resends = Nothing; same = e }

by-drops : {S W : Type 0} (m : Machine S) (c : Control W) (d : Driving S) (f : Flowing S W) (y : W) (now : ℕ) (call : Call S) (again drops : Bool)
    → f.driving ≡ after_calls m d (call ∷ [])
    → Follows m d (if drops then after_repeat m c f now else with_lost m c (record f { window = y }) now again).driving now call
by-drops m c d f y now call again true e = repeat-by m c d f (record f { window = c.lost_again f.window }) now call (f.repeats == 2) e e
by-drops m c d f y now call again false e = lost m c d (record f { window = y }) now call again e

by-blocks : {S W : Type 0} (m : Machine S) (c : Control W) (d : Driving S) (f : Flowing S W) (x y : W) (now : ℕ) (call : Call S) (again blocks let_out drops : Bool)
    → f.driving ≡ after_calls m d (call ∷ [])
    → Follows m d (if blocks then (if let_out then f else record f { window = x })
    else (if drops then after_repeat m c f now else with_lost m c (record f { window = y }) now again)).driving now call
by-blocks m c d f x y now call again true true drops e = record { resends = Nothing; same = e }
by-blocks m c d f x y now call again true false drops e = record { resends = Nothing; same = e }
by-blocks m c d f x y now call again false let_out drops e = by-drops m c d f y now call again drops e

delivered-by : {S W : Type 0} (f : Flowing S W) (x : W) (d : Driving S) (b : Bool) → f.driving ≡ d → (if b then record f { window = x } else f).driving ≡ d
delivered-by f x d true e = e
delivered-by f x d false e = e

by-kind : {S W : Type 0} (m : Machine S) (c : Control W) (d : Driving S) (f g : Flowing S W) (acked delivered now : ℕ) (call : Call S) (moved duplicate : Bool)
    → f.driving ≡ after_calls m d (call ∷ []) → g.driving ≡ after_calls m d (call ∷ [])
    → Follows m d (if moved then after_progress m c f acked delivered now else (if duplicate then after_duplicate m c g now else g)).driving now call
by-kind m c d f g acked delivered now call true b e i =
    lost m c d (record f {
      window = c.acknowledged f.window delivered (una_of m f) (flight_of m f) now (srtt_of f.driving.times.estimate.trip);
      drops = counted_drops m c f acked;
      repeats = 0;
    }) now call (c.is_partial f.window (una_of m f) && not (has_blocks m f)) e
by-kind m c d f g acked delivered now call false true e i =
    by-blocks m c d g _ _ now call _ (has_blocks m g) (c.is_recovering g.window) (c.is_recovering g.window && g.drops == most_drops) i
by-kind m c d f g acked delivered now call false false e i = record { resends = Nothing; same = i }

pub rest_by : {S W : Type 0} (f : Flowing S W) (x : W) (b : Bool) → (if b then record f { window = x } else f).driving ≡ f.driving
rest_by f x true = refl
rest_by f x false = refl

piped-by : {S W : Type 0} (m : Machine S) (c : Control W) (k : Flowing S W) (says : Bool) → (with_pipe_if says m c k).driving ≡ k.driving
piped-by m c k true = rest_by k (c.with_pipe k.window (m.reported k.driving.core)) (c.is_recovering k.window)
piped-by m c k false = refl

-- told of a window that isn't one, nothing changes
by-limits : {S W : Type 0} (m : Machine S) (smss_of : S → Option ℕ) (c : Control W) (d : Driving S) (f g : Flowing S W) (acked delivered now : ℕ) (call : Call S) (limits moved duplicate says : Bool)
    → f.driving ≡ after_calls m d (call ∷ []) → g.driving ≡ after_calls m d (call ∷ [])
    → Follows m d (if limits
    then settled smss_of c (with_pipe_if says m c (if moved then after_progress m c g acked delivered now
    else (if duplicate then after_duplicate m c (with_delivery m c g delivered now) now else with_delivery m c g delivered now)))
    else f).driving now call
by-limits m smss_of c d f g acked delivered now call true moved duplicate says e i =
    let u = with_delivery m c g delivered now in
    let h = by-kind m c d g u acked delivered now call moved duplicate i (delivered-by g _ _ (counts_blocks c g && not (delivered == 0)) i) in
    let k = if moved then after_progress m c g acked delivered now else (if duplicate then after_duplicate m c u now else u) in
    record { resends = h.resends; same = piped-by m c k says ∙ h.same }
by-limits m smss_of c d f g acked delivered now call false moved duplicate says e i = record { resends = Nothing; same = e }

unchanged : {A : Type 0} (x y : A) (b : Bool) → b ≡ true → x ≡ (if b then x else y)
unchanged x y true e = refl
unchanged x y false e = absurd (cc)

-- in a burst, and where it is withheld, an arrival changes nothing
by-taken : {S W : Type 0} (m : Machine S) (smss_of : S → Option ℕ) (c : Control W) (f : Flowing S W) (now : ℕ) (src dst bytes : List ℕ) (vouched : Bool) (reported : ℕ) (report : Report) (b : Bool)
    → (f.driving.times.bursting || is_withheld m f.driving.core bytes) ≡ b
    → Follows m f.driving (if b then f
    else told m smss_of c (record f { driving = after_arrival m f.driving (at f.driving now) src dst bytes (way_of f.driving vouched) }) (una_of m f) reported report now).driving
    now (Arrives now src dst bytes vouched)
by-taken m smss_of c f now src dst bytes vouched reported report true e = record {
  resends = Nothing;
  same = unchanged f.driving _ (f.driving.times.bursting || is_withheld m f.driving.core bytes) e;
}
by-taken m smss_of c f now src dst bytes vouched reported report false e =
    by-limits m smss_of c f.driving _ _ report.acked _ now (Arrives now src dst bytes vouched) _ _ (report.is_duplicate && not (shut_by report.window f.shut)) _ refl refl

emits-by : {S W : Type 0} (m : Machine S) (f g : Flowing S W) (now window : ℕ) → g.driving ≡ f.driving
    → after_calls m g.driving (Emits now window ∷ []) ≡ after_calls m f.driving (Emits now window ∷ [])
emits-by m f g now window e = cc

many-by : {S W : Type 0} (m : Machine S) (f g : Flowing S W) (count now window : ℕ) → TrainIsEmissions m → g.driving ≡ f.driving
    → after_emissions m count g.driving (at g.driving now) window ≡ after_calls m f.driving (replicate count (Emits now window))
many-by m f g count now window trains e =
    subst (λ d. after_emissions m count g.driving (at g.driving now) window ≡ after_calls m d (replicate count (Emits now window))) e
    (trains g.driving count now window)

pub chosen_by : {S W : Type 0} (f g : Flowing S W) (b : Bool) → f.driving ≡ g.driving → (if b then f else g).driving ≡ g.driving
chosen_by f g true e = e
chosen_by f g false e = refl

pub driven_lem : {S W : Type 0} (m : Machine S) (smss_of : S → Option ℕ) (c : Control W) → TrainIsEmissions m → FlowIsDriven m smss_of c
driven_lem m smss_of c trains f (Comes now src dst bytes vouched) =
    let h = by-taken m smss_of c f now src dst bytes vouched (reported_before m c f) (m.report f.driving.core src dst bytes (way_of f.driving vouched))
    (f.driving.times.bursting || is_withheld m f.driving.core bytes) refl in
    record { resends = h.resends; same = h.same }
driven_lem m smss_of c trains f (Goes now window) = record {
  resends = Nothing;
  same = emits-by m f (rested m c f now) now (allowed m c (rested m c f now) window) (rest_by f (c.idle f.window) (c.limits f.window && is_idle m f now));
}
driven_lem m smss_of c trains f (GoesAsOne now window most room) = record {
  resends = Nothing;
  same = many-by m f (rested m c f now) (emissions_of (row_of m c (rested m c f now) window most room)) now (allowed m c (rested m c f now) window) trains
      (rest_by f (c.idle f.window) (c.limits f.window && is_idle m f now));
}
driven_lem m smss_of c trains f (Passes now) = record { resends = Nothing; same = refl }
driven_lem m smss_of c trains f (Asks now does) = record { resends = Nothing; same = refl }
driven_lem m smss_of c trains f (Limits limit) = record { resends = Nothing; same = refl }
driven_lem m smss_of c trains f (Waits patient) = record { resends = Nothing; same = refl }
driven_lem m smss_of c trains f (Chooses window) = record { resends = Nothing; same = chosen_by _ _ (c.limits window) refl }
driven_lem m smss_of c trains f (Loses loss) = record { resends = Nothing; same = refl }
driven_lem m smss_of c trains f (Measures trip) = record { resends = Nothing; same = refl }
