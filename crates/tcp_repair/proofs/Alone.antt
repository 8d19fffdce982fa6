-- Without a recovery an emission is the connection's.
use Rattle.std.proofs.Common.{◌≡◌, ℕ, List, Option, None, sym, ap, ◌∙◌}
use Rattle.tcp_congestion.specs.Control.{Control}
use Rattle.tcp_driver.specs.declared.machine.Sent.{Sent}
use Rattle.tcp_driver.specs.Machine.{Machine}
use Rattle.tcp_connection.specs.Connection.{Connecting}
use Rattle.tcp_connection.specs.Going as going
use Rattle.tcp_connection.specs.Insight.{Insight}
use Rattle.tcp_connection.specs.Trains as trains
use Rattle.tcp_repair.specs.Recovery.{Repair}
use Rattle.tcp_repair.specs.Repairing.{Repaired, after_emit, after_emit_by, after_train, after_train_by, numbers_as_one, plain, ready, ready_by, sent_by_emit, train_by_emit, written_by_emit, written_by_train}
use Rattle.tcp_repair.specs.Reports.{Reports}

-- nothing is made due
alone : {S W : Type 0} (m : Machine S) (smss_of : S → Option ℕ) (c : Control W) (b : Reports S) (w : Repaired S W) (k : Connecting S W) (o : Option Repair) (now : ℕ)
    → record { connecting = k; recovery = o } ≡ w → o ≡ None → plain k ≡ ready m smss_of c b w now
unfolding ready
alone {S = S} {W = W} m smss_of c b w k o now is none =
    ap (λ x. ready_by m smss_of c b k x now) (sym none) ∙ ap (λ (x : Repaired S W). ready_by m smss_of c b x.connecting x.recovery now) is

pub sent_alone : {S W : Type 0} (m : Machine S) (i : Insight S) (smss_of : S → Option ℕ) (c : Control W) (b : Reports S) (w : Repaired S W) (k : Connecting S W) (o : Option Repair)
    (sent : Option Sent) (now window : ℕ)
    → record { connecting = k; recovery = o } ≡ w → o ≡ None → sent ≡ going.sent_by_emit m i c k now window
    → sent ≡ sent_by_emit m i smss_of c b w now window
sent_alone {S = S} {W = W} m i smss_of c b w k o sent now window is none s =
    s ∙ ap (λ (x : Repaired S W). going.sent_by_emit m i c x.connecting now window) (alone m smss_of c b w k o now is none)

pub written_alone : {S W : Type 0} (m : Machine S) (i : Insight S) (smss_of : S → Option ℕ) (c : Control W) (b : Reports S) (w : Repaired S W) (k : Connecting S W) (o : Option Repair)
    (new : List ℕ) (now window : ℕ) (out : List ℕ)
    → record { connecting = k; recovery = o } ≡ w → o ≡ None → new ≡ going.written_by_emit m i c k now window out
    → new ≡ written_by_emit m i smss_of c b w now window out
written_alone {S = S} {W = W} m i smss_of c b w k o new now window out is none s =
    s ∙ ap (λ (x : Repaired S W). going.written_by_emit m i c x.connecting now window out) (alone m smss_of c b w k o now is none)

pub emitted_alone : {S W : Type 0} (m : Machine S) (i : Insight S) (smss_of : S → Option ℕ) (c : Control W) (b : Reports S) (w : Repaired S W) (k after : Connecting S W) (o : Option Repair)
    (now window : ℕ)
    → record { connecting = k; recovery = o } ≡ w → o ≡ None → after ≡ going.after_emit m i c k now window
    → record { connecting = after; recovery = o } ≡ after_emit m i smss_of c b w now window
emitted_alone {S = S} {W = W} m i smss_of c b w k after o now window is none s =
    ap (λ x. record { connecting = after; recovery = x }) none
    ∙ ap (λ x. record { connecting = x; recovery = None }) s
    ∙ ap (λ (x : Repaired S W). after_emit_by m i smss_of c b x now window) (alone m smss_of c b w k o now is none)

-- nor of segments as one
pub train_alone : {S W T : Type 0} (m : Machine S) (i : Insight S) (smss_of : S → Option ℕ) (answer : S → ℕ → ℕ → ℕ → Option T) (c : Control W) (b : Reports S)
    (w : Repaired S W) (k : Connecting S W) (o : Option Repair) (train : Option T) (now window most room : ℕ)
    → record { connecting = k; recovery = o } ≡ w → o ≡ None → train ≡ trains.train_by_emit m i answer c k now window most room
    → train ≡ train_by_emit m i smss_of answer c b w now window most room
train_alone {S = S} {W = W} m i smss_of answer c b w k o train now window most room is none s =
    s ∙ ap (λ (x : Repaired S W). trains.train_by_emit m i answer c x.connecting now window most room) (alone m smss_of c b w k o now is none)

pub train_written_alone : {S W : Type 0} (m : Machine S) (i : Insight S) (smss_of : S → Option ℕ) (c : Control W) (b : Reports S) (w : Repaired S W) (k : Connecting S W)
    (o : Option Repair) (new : List ℕ) (now window most : ℕ) (out : List ℕ)
    → record { connecting = k; recovery = o } ≡ w → o ≡ None → new ≡ trains.written_by_train m i c k now window most out
    → new ≡ written_by_train m i smss_of c b w now window most out
train_written_alone {S = S} {W = W} m i smss_of c b w k o new now window most out is none s =
    s ∙ ap (λ (x : Repaired S W). trains.written_by_train m i c x.connecting now window most out) (alone m smss_of c b w k o now is none)

pub train_emitted_alone : {S W T : Type 0} (m : Machine S) (i : Insight S) (smss_of : S → Option ℕ) (answer : S → ℕ → ℕ → ℕ → Option T) (start_of numbers_of : T → ℕ)
    (c : Control W) (b : Reports S) (w : Repaired S W) (k after : Connecting S W) (o : Option Repair) (now window most room : ℕ)
    → record { connecting = k; recovery = o } ≡ w → o ≡ None → after ≡ trains.after_train m i c k now window most room
    → record { connecting = after; recovery = o } ≡ after_train m i smss_of answer start_of numbers_of c b w now window most room
train_emitted_alone {S = S} {W = W} m i smss_of answer start_of numbers_of c b w k after o now window most room is none s =
    ap (λ x. record { connecting = after; recovery = x }) none
    ∙ ap (λ x. record { connecting = x; recovery = None }) s
    ∙ ap (λ (x : Repaired S W). after_train_by m i smss_of c b x now window most room
    (numbers_as_one start_of numbers_of (trains.train_by_emit m i answer c x.connecting now window most room))) (alone m smss_of c b w k o now is none)
