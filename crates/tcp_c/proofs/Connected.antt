-- What a call makes of the connection that a handle holds.
use Rattle.std.proofs.Common.{◌≡◌, ◌≤◌, ℕ, Bool, false, List, length, Option, Some, None, sym, ap, ◌∙◌, rules}
use Rattle.std.specs.Prelude.{nat_lt, option_map, if◌then◌else◌, Result, Ok, Err}
use Rattle.region_heap.specs.declared.region.Region.{Region}
use Rattle.tcp_congestion.specs.AnyWindow.{any_control}
use Rattle.tcp_congestion.specs.declared.any_window.AnyWindow.{AnyWindow}
use Rattle.tcp_conn.specs.declared.emit.train.Train.{Train}
use Rattle.tcp_conn.specs.declared.emit.transmit.TheConstants.{EMIT_ROOM}
use Rattle.tcp_end.specs.declared.wired.Wired.{Wired}
use Rattle.tcp_end.specs.Wired.{driven, driven_if}
use Rattle.tcp_steady.specs.declared.steady.Steady.{Steady}
use Rattle.tcp_steady.specs.Steady.{after_emit, after_train as after_train_of, sent_by_emit, train_by_emit, written_by_emit, written_by_train}
use Rattle.tcp_timing.specs.declared.rules.Rules.{Rules}
use Rattle.tcp_driver.specs.declared.limits.Limits.{Limits}
use Rattle.tcp_driver.specs.declared.machine.Sent.{Sent}
use Rattle.tcp_driver.specs.Driver.{Driving}
use Rattle.tcp_halves.specs.declared.link.Peer.{Peer}
use Rattle.tcp_conn.specs.declared.outcome.CallError.{CallError}
use Rattle.tcp_conn.specs.Calls.{opening_answer}
use Rattle.tcp_conn.specs.State.{State}
use Rattle.tcp_c.specs.Answers.{answer_of, little_room}
use Rattle.tcp_c.specs.Connections.{after_opening, emission_told, emitted_within, no_segment, opened_by, segment_reported, segment_told, sent_number, written_within}
use Rattle.tcp_c.specs.ConnectionTrains.{after_train, train_answer, train_found, train_number, train_reported, train_written}
use Rattle.tcp_c.specs.Trains.{no_train}
use Rattle.tcp_c.specs.declared.connection.driven.Driven.{Driven}
use Rattle.tcp_c.specs.declared.records.CConnectionSegment.{CConnectionSegment}
use Rattle.tcp_c.specs.declared.records.CTrain.{CTrain}

abbrev Connects : Type 0
Connects = Steady AnyWindow Region Region

-- it is put back as the call has left it
pub moved_by : (does : Driven → Driven) (held new : Option Driven) (d after : Driven) → held ≡ Some d → new ≡ Some after → after ≡ does d
    → new ≡ option_map does held
moved_by does held new d after h n e = n ∙ ap (λ (x : Driven). Some x) e ∙ sym (ap (λ (x : Option Driven). option_map does x) h)

abbrev pub of : Connects → Driven
of k = record { connection = k }

pub with_connection : (k l : Connects) → k ≡ l → of k ≡ of l
with_connection k l e = ap of e

-- where there is room for a segment
pub emitted_by : (now window room : ℕ) (d : Driven) (k : Connects) → EMIT_ROOM ≤ room → k ≡ after_emit any_control d.connection now window
    → of k ≡ emitted_within now window room d
emitted_by now window room d k enough e =
    let little : nat_lt room EMIT_ROOM ≡ false = search rules in
    ap of e ∙ sym (ap (λ (b : Bool). if b then d else of (after_emit any_control d.connection now window)) little)

pub trained_by : (now window most room : ℕ) (d : Driven) (k : Connects) → EMIT_ROOM ≤ room
    → k ≡ after_train_of any_control d.connection now window most room → of k ≡ after_train now window most room d
trained_by now window most room d k enough e =
    let little : nat_lt room EMIT_ROOM ≡ false = search rules in
    ap of e ∙ sym (ap (λ (b : Bool). if b then d else of (after_train_of any_control d.connection now window most room)) little)

-- what is told then of the emission: the answer, what was written, and the report
pub answered_by : (now window room : ℕ) (held : Option Driven) (d : Driven) (sent : Option Sent) (answer : ℕ) → held ≡ Some d → EMIT_ROOM ≤ room
    → sent ≡ sent_by_emit any_control d.connection now window → answer ≡ emission_told sent → answer ≡ answer_of (sent_number now window room) held
answered_by now window room held d sent answer h enough es ea =
    let little : nat_lt room EMIT_ROOM ≡ false = search rules in
    ea ∙ ap emission_told es
    ∙ sym (ap (λ (b : Bool). if b then little_room else emission_told (sent_by_emit any_control d.connection now window)) little)
    ∙ sym (ap (λ (x : Option Driven). answer_of (sent_number now window room) x) h)

pub written_by : (now window : ℕ) (held : Option Driven) (d : Driven) (out after : List ℕ) → held ≡ Some d → EMIT_ROOM ≤ length out
    → after ≡ written_by_emit any_control d.connection now window out → after ≡ written_within now window out held
written_by now window held d out after h enough e =
    let little : nat_lt (length out) EMIT_ROOM ≡ false = search rules in
    e ∙ sym (ap (λ (b : Bool). if b then out else written_by_emit any_control d.connection now window out) little)
    ∙ sym (ap (λ (x : Option Driven). written_within now window out x) h)

pub segment_by : (now window room : ℕ) (held : Option Driven) (d : Driven) (sent : Option Sent) (segment : CConnectionSegment) → held ≡ Some d → EMIT_ROOM ≤ room
    → sent ≡ sent_by_emit any_control d.connection now window → segment ≡ segment_told sent → segment ≡ segment_reported now window room held
segment_by now window room held d sent segment h enough es ee =
    let little : nat_lt room EMIT_ROOM ≡ false = search rules in
    ee ∙ ap segment_told es
    ∙ sym (ap (λ (b : Bool). if b then no_segment else segment_told (sent_by_emit any_control d.connection now window)) little)
    ∙ sym (ap (λ (x : Option Driven). segment_reported now window room x) h)

-- and of segments as one
pub train_answered_by : (now window most room : ℕ) (held : Option Driven) (d : Driven) (sent : Option Train) (answer : ℕ) → held ≡ Some d → EMIT_ROOM ≤ room
    → sent ≡ train_by_emit any_control d.connection now window most room → answer ≡ train_answer sent
    → answer ≡ answer_of (train_number now window most room) held
train_answered_by now window most room held d sent answer h enough es ea =
    let little : nat_lt room EMIT_ROOM ≡ false = search rules in
    ea ∙ ap train_answer es
    ∙ sym (ap (λ (b : Bool). if b then little_room else train_answer (train_by_emit any_control d.connection now window most room)) little)
    ∙ sym (ap (λ (x : Option Driven). answer_of (train_number now window most room) x) h)

pub train_written_by : (now window most : ℕ) (held : Option Driven) (d : Driven) (out after : List ℕ) → held ≡ Some d → EMIT_ROOM ≤ length out
    → after ≡ written_by_train any_control d.connection now window most out → after ≡ train_written now window most out held
train_written_by now window most held d out after h enough e =
    let little : nat_lt (length out) EMIT_ROOM ≡ false = search rules in
    e ∙ sym (ap (λ (b : Bool). if b then out else written_by_train any_control d.connection now window most out) little)
    ∙ sym (ap (λ (x : Option Driven). train_written now window most out x) h)

pub train_by : (now window most room : ℕ) (held : Option Driven) (d : Driven) (sent : Option Train) (train : CTrain) → held ≡ Some d → EMIT_ROOM ≤ room
    → sent ≡ train_by_emit any_control d.connection now window most room → train ≡ train_found sent
    → train ≡ train_reported now window most room held
train_by now window most room held d sent train h enough es et =
    let little : nat_lt room EMIT_ROOM ≡ false = search rules in
    et ∙ ap train_found es
    ∙ sym (ap (λ (b : Bool). if b then no_train else train_found (train_by_emit any_control d.connection now window most room)) little)
    ∙ sym (ap (λ (x : Option Driven). train_reported now window most room x) h)

-- an opening that wasn't refused is what it makes
abbrev made-in : Driving (Wired Region) → Result (Driving (Wired Region)) CallError → Driving (Wired Region)
made-in other (Ok made) = made
made-in other (Err error) = other

if-made : (answer : Result (Unit {0}) CallError) (made d : Driving (Wired Region)) → driven_if answer made ≡ Ok d → d ≡ made
if-made (Ok answer) made d e = sym (ap (made-in made) e)
if-made (Err error) made d e = absurd (cc)

pub opened_as : (s : State) (peer : Option Peer) (timeouts : Rules) (limits : Limits) (now : ℕ) (d : Driving (Wired Region))
    → opened_by s peer timeouts limits now ≡ Ok d → d ≡ driven (after_opening s peer) timeouts limits now
opened_as s None timeouts limits now d e = if-made (opening_answer s) _ d e
opened_as s (Some peer) timeouts limits now d e = if-made (opening_answer s) _ d e
