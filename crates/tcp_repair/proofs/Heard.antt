-- A recovery hears of an arrival that was taken.
use Rattle.std.proofs.Common.{◌≡◌, ℕ, List, Bool, true, false, Option, Some, None, refl, sym, ap, ◌∙◌}
use Rattle.std.specs.Prelude.{is_some, not, option_map}
use Rattle.tcp_congestion.specs.Control.{Control}
use Rattle.tcp_driver.specs.declared.machine.Way.{Way}
use Rattle.tcp_driver.specs.declared.driver.Taken.{Taken}
use Rattle.tcp_driver.specs.Driver.{arrival_answer, way_of}
use Rattle.tcp_driver.specs.Machine.{Machine}
use Rattle.tcp_connection.specs.Connection as connection
use Rattle.tcp_connection.specs.Connection.{Connecting, report_in, reported}
use Rattle.tcp_connection.specs.Insight.{Insight}
use Rattle.tcp_connection.proofs.Reports.{report_is}
use Rattle.tcp_repair.specs.declared.arriving.Before.{Before}
use Rattle.tcp_repair.specs.Recovery.{Repair}
use Rattle.tcp_repair.specs.Repairing.{Repaired, after_arriving, before_in, heard_by}
use Rattle.tcp_repair.specs.Reports.{Reports}

-- nothing is there
pub none_there : {A B : Type 0} (f : A → B) (o : Option A) (n : Bool) → is_some o ≡ not n → n ≡ true → option_map f o ≡ None
none_there f None n e t = refl
none_there f (Some x) true e t = absurd (cc)
none_there f (Some x) false e t = absurd (cc)

-- an arrival is heard of, whose answer says whether it was taken
pub arrived : {S W T : Type 0} (m : Machine S) (i : Insight S) (smss_of : S → Option ℕ) (c : Control W) (b : Reports S)
    (answer : S → List ℕ → List ℕ → List ℕ → Way → T) (w new : Repaired S W) (k after : Connecting S W) (o : Option Repair) (before : Before) (taken : Taken T)
    (now : ℕ) (src dst bytes : List ℕ) (vouched : Bool)
    → record { connecting = k; recovery = o } ≡ w → before ≡ before_in m i w.connecting
    → after ≡ connection.after_arriving m i smss_of c k now src dst bytes vouched
    → taken ≡ arrival_answer m answer k.flowing.driving src dst bytes (way_of k.flowing.driving vouched)
    → new ≡ heard_by m i smss_of c b before after o (report_in taken) now
    → new ≡ after_arriving m i smss_of c b w now src dst bytes vouched
arrived {S = S} {W = W} m i smss_of c b answer w new k after o before taken now src dst bytes vouched is p a t e =
    e
    ∙ ap (λ x. heard_by m i smss_of c b x after o (report_in taken) now) (p ∙ ap (λ (x : Repaired S W). before_in m i x.connecting) (sym is))
    ∙ ap (λ x. heard_by m i smss_of c b (before_in m i k) x o (report_in taken) now) a
    ∙ ap (λ x. heard_by m i smss_of c b (before_in m i k) (connection.after_arriving m i smss_of c k now src dst bytes vouched) o x now)
    (ap report_in t ∙ report_is m answer k.flowing.driving src dst bytes vouched)
    ∙ ap (λ x. after_arriving m i smss_of c b x now src dst bytes vouched) is

-- without a recovery
pub arrived_alone : {S W : Type 0} (m : Machine S) (i : Insight S) (smss_of : S → Option ℕ) (c : Control W) (b : Reports S)
    (w : Repaired S W) (k after : Connecting S W) (o : Option Repair) (now : ℕ) (src dst bytes : List ℕ) (vouched : Bool)
    → record { connecting = k; recovery = o } ≡ w → o ≡ None
    → after ≡ connection.after_arriving m i smss_of c k now src dst bytes vouched
    → record { connecting = after; recovery = o } ≡ after_arriving m i smss_of c b w now src dst bytes vouched
arrived_alone m i smss_of c b w k after o now src dst bytes vouched is none a =
    ap (λ x. record { connecting = after; recovery = x }) none
    ∙ ap (λ x. record { connecting = x; recovery = None }) a
    ∙ ap (λ x. heard_by m i smss_of c b (before_in m i k) (connection.after_arriving m i smss_of c k now src dst bytes vouched) x
    (reported m k.flowing.driving src dst bytes vouched) now) (sym none)
    ∙ ap (λ x. after_arriving m i smss_of c b x now src dst bytes vouched) is
