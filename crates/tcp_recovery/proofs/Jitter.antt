-- What isn't late isn't lost.
use Rattle.std.proofs.Common.{◌≡◌, ℕ, ◌+◌, ◌-◌, ◌/◌, ◌<◌, ◌≤◌, inl, inr, Bool, true, false, List, [], ◌∷◌, arith, refl}
use Rattle.std.specs.Prelude.{◌⊎◌, ◌==◌, min, max, nat_lt, nat_le, if◌then◌else◌}
use Rattle.std.proofs.lemmas.Bool.Decides.{nat_tests}
use Rattle.tcp_recovery.specs.declared.stretch.Stretch.{Stretch}
use Rattle.tcp_recovery.specs.declared.delivered.Delivered.{Delivered}
use Rattle.tcp_recovery.specs.Stretches.{appended, between, cut_out, fitted, without}
use Rattle.tcp_recovery.specs.Delivered.{after_delivery, after_deliveries, after_spurious, is_ambiguous, is_later, widened, with_latest, with_order, with_trip}
use Rattle.tcp_recovery.specs.Rack.{Flight, IsFlight}
use Rattle.tcp_recovery.specs.History.{AreOrderly, Event, Sent, Received, Recovered, Settled, IsIn, SentLast, flight_after}
use Rattle.tcp_recovery.specs.Laws.{AllTake, JitterIsNoLoss}
use Rattle.tcp_recovery.proofs.Covering.{SentOnce, always, kept}
use Rattle.tcp_recovery.proofs.Overdue.{HasLost, IsOver, found}
use Rattle.tcp_recovery.proofs.Told.{AreParts, IsPart, parts}

-- nothing has told a round trip yet, or RACK.rtt is so long at least
abbrev IsLong : ℕ → Delivered → Type 0
IsLong least d = ((d.xmit_ts ≡ 0) × (d.end_seq ≡ 0)) ⊎ (least ≤ d.rtt)

latest-by : (least : ℕ) (d : Delivered) (part : Stretch) (b : Bool) → least ≤ d.rtt
    → least ≤ (if b then record d { xmit_ts = part.first; end_seq = part.end } else d).rtt
latest-by least d part true l = l
latest-by least d part false l = l

spurious : (least next : ℕ) (d : Delivered) (b : Bool) → IsLong least d
    → IsLong least (record (if b then d else widened d next) { reordering_seen = true })
spurious least next d true l = l
spurious least next d false l = l

delivery-by : (least now next : ℕ) (d : Delivered) (part : Stretch) (unknown b : Bool) → least ≤ now - part.first → IsLong least d
    → IsLong least (if unknown then d else with_order (if b then after_spurious d part.start next else with_latest (with_trip d part now) part) part)
delivery-by least now next d part true b long l = l
delivery-by least now next d part false true long l = spurious least next d (nat_lt part.start d.round) l
delivery-by least now next d part false false long l =
    let e : Delivered = with_trip d part now in
    inr (latest-by least e part (is_later part.first part.end e.xmit_ts e.end_seq) long)

deliveries : (least start to end now min_rtt next : ℕ) (earlier : List Event) (d : Delivered) (all : List Stretch) → to ≤ end → AreParts start to earlier all
    → ((number at : ℕ) → IsIn number start end → SentLast number at earlier → at + least ≤ now) → IsLong least d
    → IsLong least (after_deliveries d all now min_rtt next)
deliveries least start to end now min_rtt next earlier d [] h are take l = l
deliveries least start to end now min_rtt next earlier d (part ∷ later) h are take l =
    let one : IsPart start to earlier part = are.0 in
    let below : one.number < to = one.within.1 in
    let took : one.time + least ≤ now = take one.number one.time (one.within.0, omega (arith, below, h)) one.sent in
    let first : part.first ≤ one.time = one.first in
    deliveries least start to end now min_rtt next earlier (after_delivery d part now min_rtt next) later h (are.1) take
    (delivery-by least now next d part (part.first == 0) (is_ambiguous part now min_rtt) (omega (arith, took, first)) l)

received-by : (least start to end now min_rtt : ℕ) (earlier : List Event) (b : Bool) → nat_lt start to ≡ b → to ≤ end → to ≤ (flight_after earlier).next
    → AreOrderly earlier → ((number at : ℕ) → IsIn number start end → SentLast number at earlier → at + least ≤ now)
    → IsLong least (flight_after earlier).delivered
    → IsLong least (if b then record (flight_after earlier) {
      stretches = fitted (without start to (flight_after earlier).stretches);
      delivered = after_deliveries (flight_after earlier).delivered (between start to (flight_after earlier).stretches) now min_rtt (flight_after earlier).next;
    } else flight_after earlier).delivered
received-by least start to end now min_rtt earlier true e h most o take l =
    deliveries least start to end now min_rtt (flight_after earlier).next earlier (flight_after earlier).delivered
    (between start to (flight_after earlier).stretches) h (parts start to earlier o (grind (arith, nat_tests, e)) most) take l
received-by least start to end now min_rtt earlier false e h most o take l = l

sent-by : (least : ℕ) (f : Flight) (start count now min_rtt : ℕ) (b : Bool) → IsLong least f.delivered
    → IsLong least (if b then f else record f {
      stretches = if nat_le f.next start then fitted (appended start (start + count) now (min_rtt / 64) f.stretches) else fitted (fitted (cut_out start (start + count) now f.stretches));
      next = max f.next (start + count);
    }).delivered
sent-by least f start count now min_rtt true l = l
sent-by least f start count now min_rtt false l = l

settled-by : (least : ℕ) (f : Flight) (start end : ℕ) (b : Bool) → IsLong least f.delivered
    → IsLong least (if b then record f { stretches = fitted (without start end f.stretches) } else f).delivered
settled-by least f start end true l = l
settled-by least f start end false l = l

long : (least : ℕ) (events : List Event) → AreOrderly events → AllTake least events → IsLong least (flight_after events).delivered
long least [] o all = inl (refl, refl)
long least (Sent start count now min_rtt ∷ earlier) o all =
    sent-by least (flight_after earlier) start count now min_rtt (count == 0) (long least earlier (o.2) all)
long least (Received start end now min_rtt ∷ earlier) o all =
    let next : ℕ = (flight_after earlier).next in
    received-by least start (min next end) end now min_rtt earlier (nat_lt start (min next end)) refl (omega arith) (omega arith) o (all.0)
    (long least earlier o (all.1))
long least (Settled start end ∷ earlier) o all =
    let f : Flight = flight_after earlier in
    settled-by least f start (min f.next end) (nat_lt start (min f.next end)) (long least earlier o all)
long least (Recovered ∷ earlier) o all = long least earlier o all

-- what is overtaken was overtaken by something
some-told : (least : ℕ) (d : Delivered) (s : Stretch) → IsLong least d → IsOver d s → least ≤ d.rtt
some-told least d s (inr l) o = l
some-told least d s (inl none) (inl earlier) = let zero-time : d.xmit_ts ≡ 0 = none.0 in absurd (omega (arith, earlier, zero-time))
some-told least d s (inl none) (inr (inl tied)) =
    let less : s.end < d.end_seq = tied.1 in
    let zero-end : d.end_seq ≡ 0 = none.1 in
    absurd (omega (arith, less, zero-end))
some-told least d s (inl none) (inr (inr fresh)) =
    let some : 0 < d.end_seq = fresh.2 in
    let zero-end : d.end_seq ≡ 0 = none.1 in
    absurd (omega (arith, some, zero-end))

pub jitter_lem : JitterIsNoLoss
jitter_lem events least window now start end p at o all young e within out =
    let f : Flight = flight_after events in
    let k : IsFlight f = kept events in
    let h : HasLost f.delivered window now p at (SentOnce p events) =
    found f.delivered window now 0 f.next start end p at (SentOnce p events) f.stretches k.order e within (always p at events out) in
    let rtt : least ≤ f.delivered.rtt = some-told least f.delivered h.stretch (long least events o all) h.lost.over in
    let last : at ≤ h.stretch.last = h.has.last in
    let waited : h.stretch.last + f.delivered.rtt + window ≤ now = h.lost.waited in
    let less : now < at + least + window = young p at out in
    omega (arith, rtt, last, waited, less)
