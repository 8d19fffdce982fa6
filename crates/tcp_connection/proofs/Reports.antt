-- What is heard of an arrival is what is reported of it, where it is taken.
use Rattle.std.proofs.Common.{◌≡◌, ℕ, List, Bool, true, false, refl, sym, ap, subst, ◌∙◌, Option, Some, None}
use Rattle.std.specs.Prelude.{◌||◌, if◌then◌else◌}
use Rattle.tcp_congestion.specs.Control.{Control}
use Rattle.tcp_driver.specs.declared.driver.Taken.{Taken}
use Rattle.tcp_flow.specs.Flow.{Flowing, after_segment}
use Rattle.tcp_driver.specs.declared.machine.Report.{Report}
use Rattle.tcp_driver.specs.declared.machine.Way.{Way}
use Rattle.tcp_driver.specs.declared.driver.Taken.TheVariants.{Done, EmitFirst, Withheld}
use Rattle.tcp_driver.specs.Driver.{Driving, arrival_answer, is_withheld, way_of}
use Rattle.tcp_driver.specs.Machine.{Machine}
use Rattle.tcp_connection.specs.Connection.{Connecting, after_arriving, before_in, heard_if, report_in, reported, taken_by_flow}
use Rattle.tcp_connection.specs.declared.hearing.Before.{Before}
use Rattle.tcp_connection.specs.Insight.{Insight}
use Rattle.tcp_connection.specs.Policy.{holds_any}

report-by : {T : Type 0} (report : Report) (answer : T) (bursting withheld : Bool)
    → report_in (if bursting then EmitFirst else (if withheld then Withheld else Done report answer))
    ≡ (if bursting || withheld then None else Some report)
report-by report answer true withheld = refl
report-by report answer false true = refl
report-by report answer false false = refl

pub report_is : {S T : Type 0} (m : Machine S) (answer : S → List ℕ → List ℕ → List ℕ → Way → T) (d : Driving S) (src dst bytes : List ℕ) (vouched : Bool)
    → report_in (arrival_answer m answer d src dst bytes (way_of d vouched)) ≡ reported m d src dst bytes vouched
report_is m answer d src dst bytes vouched =
    report-by (m.report d.core src dst bytes (way_of d vouched)) (answer d.core src dst bytes (way_of d vouched)) d.times.bursting (is_withheld m d.core bytes)

-- without policy, and with them
plainly : {A : Type 0} (flag any : Bool) (x y : A) → flag ≡ any → flag ≡ false → y ≡ (if any then x else y)
plainly flag true x y e f = absurd (cc)
plainly flag false x y e f = refl

where_any_holds : {A : Type 0} (flag any : Bool) (x y : A) → flag ≡ any → flag ≡ true → x ≡ (if any then x else y)
where_any_holds flag true x y e f = refl
where_any_holds flag false x y e f = absurd (cc)

pub arrived_plainly : {S W : Type 0} (m : Machine S) (i : Insight S) (smss_of : S → Option ℕ) (c : Control W) (k h : Connecting S W) (flag : Bool) (f : Flowing S W) (now : ℕ) (src dst bytes : List ℕ) (vouched : Bool)
    → k ≡ h → flag ≡ holds_any k.policy → flag ≡ false → f ≡ after_segment m smss_of c k.flowing now src dst bytes vouched
    → record k { flowing = f } ≡ after_arriving m i smss_of c h now src dst bytes vouched
arrived_plainly m i smss_of c k h flag f now src dst bytes vouched same any none is =
    ap (λ x. record k { flowing = x }) is
    ∙ plainly flag (holds_any k.policy)
    (heard_if m i smss_of (taken_by_flow m smss_of c k now src dst bytes vouched) (before_in m i k bytes) bytes
    (reported m k.flowing.driving src dst bytes vouched) now)
    (taken_by_flow m smss_of c k now src dst bytes vouched) any none
    ∙ ap (λ x. after_arriving m i smss_of c x now src dst bytes vouched) same

pub arrived_heard : {S W T : Type 0} (m : Machine S) (i : Insight S) (smss_of : S → Option ℕ) (c : Control W)
    (answer : S → List ℕ → List ℕ → List ℕ → Way → T) (k h new : Connecting S W) (flag : Bool) (f : Flowing S W) (before : Before) (taken : Taken T)
    (now : ℕ) (src dst bytes : List ℕ) (vouched : Bool)
    → k ≡ h → flag ≡ holds_any k.policy → flag ≡ true → f ≡ after_segment m smss_of c k.flowing now src dst bytes vouched
    → before ≡ before_in m i h bytes → taken ≡ arrival_answer m answer k.flowing.driving src dst bytes (way_of k.flowing.driving vouched)
    → new ≡ heard_if m i smss_of (record k { flowing = f }) before bytes (report_in taken) now
    → new ≡ after_arriving m i smss_of c h now src dst bytes vouched
arrived_heard m i smss_of c answer k h new flag f before taken now src dst bytes vouched same any some is b t e =
    e
    ∙ ap (λ x. heard_if m i smss_of (record k { flowing = x }) before bytes (report_in taken) now) is
    ∙ ap (λ x. heard_if m i smss_of (taken_by_flow m smss_of c k now src dst bytes vouched) x bytes (report_in taken) now)
    (b ∙ ap (λ x. before_in m i x bytes) (sym same))
    ∙ ap (λ x. heard_if m i smss_of (taken_by_flow m smss_of c k now src dst bytes vouched) (before_in m i k bytes) bytes x now)
    (ap report_in t ∙ report_is m answer k.flowing.driving src dst bytes vouched)
    ∙ where_any_holds flag (holds_any k.policy)
    (heard_if m i smss_of (taken_by_flow m smss_of c k now src dst bytes vouched) (before_in m i k bytes) bytes
    (reported m k.flowing.driving src dst bytes vouched) now)
    (taken_by_flow m smss_of c k now src dst bytes vouched) any some
    ∙ ap (λ x. after_arriving m i smss_of c x now src dst bytes vouched) same
