-- The flow in a connection is as after calls of its own.
use Rattle.std.proofs.Common.{◌≡◌, ℕ, List, [], ◌∷◌, Bool, true, false, refl, sym, ap, ◌∙◌, Option, Some, None}
use Rattle.std.specs.Prelude.{◌&&◌, ◌==◌, if◌then◌else◌}
use Rattle.tcp_congestion.specs.Control.{Control}
use Rattle.tcp_driver.specs.declared.machine.Report.{Report}
use Rattle.tcp_driver.specs.declared.machine.Timer.TheVariants.{Retransmit}
use Rattle.tcp_driver.specs.Machine.{Machine}
use Rattle.tcp_flow.specs.Calls.{FlowCall, Comes, Goes, GoesAsOne, Asks, after_flow_call}
use Rattle.tcp_flow.specs.Flow.{Flowing, after_use}
use Rattle.tcp_connection.specs.Calls.{Arrives, Emits, EmitsAsOne, Ticks, Reads, Acknowledges, Uses, SetsPatience, SetsUserTimeout, SetsWindow, LosesOne, MeasuresTrip, SetsPolicy, ConnectionIsFlow, after_flow_calls, answers_again, emissions, repeated}
use Rattle.tcp_connection.specs.Connection.{Connecting, agreed_by, answers_syn, before_in, core_of, edge_by, heard_by, heard_if, reported, taken_by_flow, with_syn}
use Rattle.tcp_connection.specs.declared.hearing.Before.{Before}
use Rattle.tcp_connection.specs.Going.{after_going, asked, discards, flow_after, flow_sent, holds_back}
use Rattle.tcp_connection.specs.Insight.{Insight}
use Rattle.tcp_connection.specs.Policy.{holds_any}
use Rattle.tcp_connection.specs.Trains.{after_train_going, discards_train, most_of, train_after, train_count}
use Rattle.tcp_connection.specs.Using.{after_acknowledging, after_call, is_update, opened, updated_if, urged}

chosen : {S W : Type 0} (b : Bool) (x y : Connecting S W) (f : Flowing S W) → x.flowing ≡ f → y.flowing ≡ f → (if b then x else y).flowing ≡ f
chosen true x y f e g = e
chosen false x y f e g = g

-- what the retransmission timer sends again goes out again
abbrev with_retransmission : {S W : Type 0} → Machine S → Flowing S W → ℕ → Bool → Flowing S W
with_retransmission m f now again = if again then after_use m f now (m.expired f.driving.core Retransmit) else f

-- what is heard leaves the flow as it is
agreed-flow : {S W : Type 0} (smss : Option ℕ) (k : Connecting S W) → (agreed_by smss k).flowing ≡ k.flowing
agreed-flow None k = refl
agreed-flow (Some smss) k = chosen (k.smss == smss) _ _ k.flowing refl refl

-- but that the SYN goes out again behind the peer's
again-flow : {S W : Type 0} (m : Machine S) (k : Connecting S W) (f : Flowing S W) (now : ℕ) (again : Bool) → k.flowing ≡ f
    → (with_syn m k now again).flowing ≡ with_retransmission m f now again
again-flow {S = S} {W = W} m k f now true e = ap (λ (x : Flowing S W). after_use m x now (m.expired x.driving.core Retransmit)) e
again-flow m k f now false e = e

heard-flow : {S W : Type 0} (m : Machine S) (i : Insight S) (smss_of : S → Option ℕ) (k : Connecting S W) (before : Before) (bytes : List ℕ) (report : Option Report) (now : ℕ)
    → (heard_if m i smss_of k before bytes report now).flowing ≡ with_retransmission m k.flowing now (repeated before report)
heard-flow m i smss_of k before bytes None now = refl
heard-flow m i smss_of k before bytes (Some report) now =
    again-flow m (heard_by i (agreed_by (smss_of (core_of k)) k) before bytes report now) k.flowing now (answers_syn before report)
    (agreed-flow (smss_of (core_of k)) k)

-- an arrival is one, or two where the SYN goes out again
arrived-by : {S W : Type 0} (m : Machine S) (smss_of : S → Option ℕ) (c : Control W) (f : Flowing S W) (come : FlowCall S W) (now : ℕ) (any again : Bool) (x y : Connecting S W)
    → x.flowing ≡ with_retransmission m (after_flow_call m smss_of c f come) now again
    → y.flowing ≡ after_flow_call m smss_of c f come
    → (if any then x else y).flowing
    ≡ after_flow_calls m smss_of c f (if any && again then Asks now (λ s. m.expired s Retransmit) ∷ come ∷ [] else come ∷ [])
arrived-by m smss_of c f come now true true x y e g = e
arrived-by m smss_of c f come now true false x y e g = e
arrived-by m smss_of c f come now false again x y e g = g

urged-flow : {S W : Type 0} (k : Connecting S W) (now : ℕ) → (urged k now).flowing ≡ k.flowing
urged-flow k now = chosen (holds_any k.policy) _ _ k.flowing refl refl

-- an emission is none, one or two
gone-by : {S W : Type 0} (m : Machine S) (smss_of : S → Option ℕ) (c : Control W) (f : Flowing S W) (call : FlowCall S W) (any holds discarded : Bool) (x y z : Connecting S W)
    → x.flowing ≡ f
    → y.flowing ≡ (if discarded then after_flow_call m smss_of c (after_flow_call m smss_of c f call) call else after_flow_call m smss_of c f call)
    → z.flowing ≡ after_flow_call m smss_of c f call
    → (if any then (if holds then x else y) else z).flowing ≡ after_flow_calls m smss_of c f (emissions call any holds discarded)
gone-by m smss_of c f call true true discarded x y z a b e = a
gone-by m smss_of c f call true false true x y z a b e = b
gone-by m smss_of c f call true false false x y z a b e = b
gone-by m smss_of c f call false holds discarded x y z a b e = e

as-one-by : {S W : Type 0} (m : Machine S) (smss_of : S → Option ℕ) (c : Control W) (f : Flowing S W) (call other : FlowCall S W) (any holds discarded : Bool) (x y z : Connecting S W)
    → x.flowing ≡ f
    → y.flowing ≡ (if discarded then after_flow_call m smss_of c (after_flow_call m smss_of c f call) call else after_flow_call m smss_of c f call)
    → z.flowing ≡ after_flow_call m smss_of c f other
    → (if any then (if holds then x else y) else z).flowing
    ≡ after_flow_calls m smss_of c f (if any then emissions call true holds discarded else other ∷ [])
as-one-by m smss_of c f call other true true discarded x y z a b e = a
as-one-by m smss_of c f call other true false true x y z a b e = b
as-one-by m smss_of c f call other true false false x y z a b e = b
as-one-by m smss_of c f call other false holds discarded x y z a b e = e

-- a read is one, or two where the window is advertised
read-by : {S W : Type 0} (m : Machine S) (smss_of : S → Option ℕ) (c : Control W) (f : Flowing S W) (read ack : FlowCall S W) (any update : Bool) (x y z : Connecting S W)
    → x.flowing ≡ after_flow_call m smss_of c (after_flow_call m smss_of c f read) ack
    → y.flowing ≡ after_flow_call m smss_of c f read
    → z.flowing ≡ after_flow_call m smss_of c f read
    → (if any then (if update then x else y) else z).flowing ≡ after_flow_calls m smss_of c f (if any && update then ack ∷ read ∷ [] else read ∷ [])
read-by m smss_of c f read ack true true x y z a b e = a
read-by m smss_of c f read ack true false x y z a b e = b
read-by m smss_of c f read ack false update x y z a b e = e

pub flow_lem : {S W : Type 0} (m : Machine S) (i : Insight S) (smss_of : S → Option ℕ) (c : Control W) → ConnectionIsFlow m i smss_of c
unfolding flow_after train_after flow_sent train_count
flow_lem m i smss_of c k (Arrives now src dst bytes vouched) =
    arrived-by m smss_of c k.flowing (Comes now src dst bytes vouched) now (holds_any k.policy) (answers_again m i k src dst bytes vouched) _ _
    (heard-flow m i smss_of (taken_by_flow m smss_of c k now src dst bytes vouched) (before_in m i k bytes) bytes
    (reported m k.flowing.driving src dst bytes vouched) now)
    refl
flow_lem m i smss_of c k (Emits now window) =
    gone-by m smss_of c k.flowing (Goes now window) (holds_any k.policy) (holds_back m i c k window now) (discards m c k now window)
    (asked m i c k window now) (after_going m i c (asked m i c k window now) now window) (record k { flowing = flow_after m c k.flowing now window })
    refl refl refl
flow_lem m i smss_of c k (EmitsAsOne now window most room) =
    as-one-by m smss_of c k.flowing (GoesAsOne now window (most_of m i c k window most) room) (GoesAsOne now window most room) (holds_any k.policy)
    (holds_back m i c k window now) (discards_train m c k now window (most_of m i c k window most) room)
    (asked m i c k window now) (after_train_going m i c (asked m i c k window now) now window (most_of m i c k window most) room)
    (record k { flowing = train_after m c k.flowing now window most room })
    refl refl refl
flow_lem m i smss_of c k (Ticks now) = refl
flow_lem m i smss_of c k (Reads now room) =
    let read = opened i (after_call m k now (m.received (core_of k) room)) (edge_by i (core_of k)) in
    read-by m smss_of c k.flowing (Asks now (λ s. m.received s room)) (Asks now m.acknowledged) (holds_any k.policy) (is_update i read)
    (after_acknowledging m read now) read (after_call m k now (m.received (core_of k) room))
    (urged-flow (after_call m read now (m.acknowledged (core_of read))) now) refl refl
flow_lem m i smss_of c k (Acknowledges now) = urged-flow (after_call m k now (m.acknowledged (core_of k))) now
flow_lem m i smss_of c k (Uses now does) = refl
flow_lem m i smss_of c k (SetsUserTimeout limit) = refl
flow_lem m i smss_of c k (SetsPatience patient) = refl
flow_lem m i smss_of c k (SetsWindow window) = refl
flow_lem m i smss_of c k (LosesOne loss) = refl
flow_lem m i smss_of c k (MeasuresTrip trip) = refl
flow_lem m i smss_of c k (SetsPolicy policy) = refl
