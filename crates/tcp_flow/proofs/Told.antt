-- What an arrival that was taken has told.
use Rattle.std.proofs.Common.{◌≡◌, ℕ, List, Bool, true, false, refl, ap, ◌∙◌, Option}
use Rattle.std.specs.Prelude.{◌||◌, if◌then◌else◌}
use Rattle.tcp_driver.specs.declared.machine.Report.{Report}
use Rattle.tcp_driver.specs.declared.driver.Taken.{Taken}
use Rattle.tcp_driver.specs.declared.driver.Taken.TheVariants.{Done, EmitFirst, Withheld}
use Rattle.tcp_driver.specs.declared.machine.Way.{Way}
use Rattle.tcp_driver.specs.Driver.{Driving, after_arrival, after_taken, arrival_answer, at, is_withheld, way_of}
use Rattle.tcp_driver.specs.Machine.{Machine}
use Rattle.tcp_congestion.specs.Control.{Control}
use Rattle.tcp_flow.specs.Flow.{Flowing, after_segment, reported_before, told}

-- what became of an arrival
abbrev pub heard : {S W T : Type 0} → Machine S → (S → Option ℕ) → Control W → Flowing S W → ℕ → ℕ → Taken T → ℕ → Flowing S W
heard m smss_of c f una reported (Done report answer) now = told m smss_of c f una reported report now
heard m smss_of c f una reported other now = f

-- what was taken was told, and else nothing has changed
told-is : {S W T : Type 0} (m : Machine S) (smss_of : S → Option ℕ) (c : Control W) (f : Flowing S W) (una reported now : ℕ) (after : Driving S) (report : Report) (answer : T) (bursting withheld : Bool)
    → heard m smss_of c (record f { driving = if bursting || withheld then f.driving else after }) una reported
    (if bursting then EmitFirst else (if withheld then Withheld else Done report answer)) now
    ≡ (if bursting || withheld then f
    else told m smss_of c (record f { driving = if bursting || withheld then f.driving else after }) una reported report now)
told-is m smss_of c f una reported now after report answer true withheld = refl
told-is m smss_of c f una reported now after report answer false true = refl
told-is m smss_of c f una reported now after report answer false false = refl

pub heard_at : {S W T : Type 0} (m : Machine S) (smss_of : S → Option ℕ) (c : Control W) (f : Flowing S W) (now : ℕ) (src dst bytes : List ℕ) (vouched : Bool)
    (answer : S → List ℕ → List ℕ → List ℕ → Way → T)
    → heard m smss_of c (record f { driving = after_arrival m f.driving (at f.driving now) src dst bytes (way_of f.driving vouched) }) (m.una f.driving.core)
    (reported_before m c f) (arrival_answer m answer f.driving src dst bytes (way_of f.driving vouched)) now
    ≡ after_segment m smss_of c f now src dst bytes vouched
heard_at m smss_of c f now src dst bytes vouched answer =
    told-is m smss_of c f (m.una f.driving.core) (reported_before m c f) now (after_taken m f.driving (at f.driving now) src dst bytes (way_of f.driving vouched))
    (m.report f.driving.core src dst bytes (way_of f.driving vouched)) (answer f.driving.core src dst bytes (way_of f.driving vouched))
    f.driving.times.bursting (is_withheld m f.driving.core bytes)

-- a window that isn't one is told nothing
unheard-is : {S W : Type 0} (m : Machine S) (smss_of : S → Option ℕ) (c : Control W) (f : Flowing S W) (una reported now : ℕ) (after : Driving S) (report : Report) (bursting withheld : Bool)
    → c.limits f.window ≡ false
    → (record f { driving = if bursting || withheld then f.driving else after })
    ≡ (if bursting || withheld then f
    else told m smss_of c (record f { driving = if bursting || withheld then f.driving else after }) una reported report now)
unheard-is m smss_of c f una reported now after report true withheld e = refl
unheard-is m smss_of c f una reported now after report false true e = refl
unheard-is m smss_of c f una reported now after report false false e = cc

pub unheard_at : {S W : Type 0} (m : Machine S) (smss_of : S → Option ℕ) (c : Control W) (f : Flowing S W) (now : ℕ) (src dst bytes : List ℕ) (vouched : Bool)
    → c.limits f.window ≡ false
    → (record f { driving = after_arrival m f.driving (at f.driving now) src dst bytes (way_of f.driving vouched) })
    ≡ after_segment m smss_of c f now src dst bytes vouched
unheard_at m smss_of c f now src dst bytes vouched e =
    unheard-is m smss_of c f (m.una f.driving.core) (reported_before m c f) now (after_taken m f.driving (at f.driving now) src dst bytes (way_of f.driving vouched))
    (m.report f.driving.core src dst bytes (way_of f.driving vouched)) f.driving.times.bursting (is_withheld m f.driving.core bytes) e

pub heard_by : {S W T : Type 0} (m : Machine S) (smss_of : S → Option ℕ) (c : Control W) (f g : Flowing S W) (now : ℕ) (src dst bytes : List ℕ) (vouched : Bool)
    (answer : S → List ℕ → List ℕ → List ℕ → Way → T) (after : Driving S) (una reported : ℕ) (result : Taken T) (new : Flowing S W)
    → f ≡ g → after ≡ after_arrival m f.driving (at f.driving now) src dst bytes (way_of f.driving vouched) → una ≡ m.una f.driving.core → reported ≡ reported_before m c f
    → result ≡ arrival_answer m answer f.driving src dst bytes (way_of f.driving vouched)
    → new ≡ heard m smss_of c (record f { driving = after }) una reported result now
    → new ≡ after_segment m smss_of c g now src dst bytes vouched
heard_by m smss_of c f g now src dst bytes vouched answer after una reported result new s a u r i t =
    let driving = after_arrival m f.driving (at f.driving now) src dst bytes (way_of f.driving vouched) in
    t ∙ ap (λ x. heard m smss_of c (record f { driving = x }) una reported result now) a
    ∙ ap (λ (x : ℕ). heard m smss_of c (record f { driving = driving }) x reported result now) u
    ∙ ap (λ (x : ℕ). heard m smss_of c (record f { driving = driving }) (m.una f.driving.core) x result now) r
    ∙ ap (λ x. heard m smss_of c (record f { driving = driving }) (m.una f.driving.core) (reported_before m c f) x now) i
    ∙ heard_at m smss_of c f now src dst bytes vouched answer
    ∙ ap (λ x. after_segment m smss_of c x now src dst bytes vouched) s
