-- What deliveries tell is true: something was delivered that was sent at RACK.xmit_ts or later.
use Rattle.std.proofs.Common.{◌≡◌, ℕ, suc, ◌+◌, ◌-◌, ◌/◌, ◌<◌, ◌≤◌, inl, inr, Bool, true, false, List, [], ◌∷◌, arith, refl, subst}
use Rattle.std.specs.Prelude.{◌⊎◌, ◌==◌, min, max, nat_lt, nat_le, if◌then◌else◌}
use Rattle.std.proofs.lemmas.Bool.Decides.{nat_tests}
use Rattle.tcp_recovery.specs.declared.stretch.Stretch.{Stretch}
use Rattle.tcp_recovery.specs.declared.delivered.Delivered.{Delivered}
use Rattle.tcp_recovery.specs.Stretches.{AreInOrder, appended, before, between, cut_out, fitted, without}
use Rattle.tcp_recovery.specs.Delivered.{after_delivery, after_deliveries, after_spurious, is_ambiguous, is_later, widened, with_latest, with_order, with_trip}
use Rattle.tcp_recovery.specs.Rack.{Flight, IsFlight}
use Rattle.tcp_recovery.specs.History.{Event, Sent, Received, Recovered, Settled, IsIn, AreOrderly, SentLast, IsDelivered, flight_after}
use Rattle.tcp_recovery.proofs.Order.{before-order, behind-order}
use Rattle.tcp_recovery.proofs.Covering.{kept}
use Rattle.tcp_recovery.proofs.Lows.{Lows, low, lows-before, lows-behind, last}
use Rattle.tcp_recovery.proofs.Orderly.{WasSent, sent-some}

-- ---- parts of stretches that are delivered: the last number of each was sent at its first time or later
pub record IsPart (start end : ℕ) (events : List Event) (part : Stretch) : Type 0 where
  pub number : ℕ
  pub time : ℕ
  pub ends : part.end ≡ suc number
  pub within : IsIn number start end
  pub sent : SentLast number time events
  pub first : part.first ≤ time

abbrev pub AreParts : ℕ → ℕ → List Event → List Stretch → Type 0
AreParts start end events [] = Unit {0}
AreParts start end events (part ∷ later) = IsPart start end events part × AreParts start end events later

part-of : (start end from number : ℕ) (events : List Event) (s : Stretch) → s.end ≡ suc number → start ≤ from → from ≤ s.start → s.start < s.end → s.end ≤ end
    → WasSent number events → ((p at : ℕ) → SentLast p at events → IsIn p s.start s.end → s.first ≤ at) → IsPart start end events s
part-of start end from number events s e l m some most w lows = record {
  number = number;
  time = w.time;
  ends = e;
  within = (omega (arith, e, l, m, some), omega (arith, e, most));
  sent = w.sent;
  first = lows number w.time w.sent (omega (arith, e, some), omega (arith, e));
}

less-one : (n from : ℕ) → from < n → n ≡ suc (n - 1)
less-one n from h = omega (arith, h)

parts-in : (start end from : ℕ) (events : List Event) (all : List Stretch) → AreOrderly events → end ≤ (flight_after events).next → start ≤ from
    → AreInOrder from end all → ((p at : ℕ) → SentLast p at events → Lows p at all) → AreParts start end events all
parts-in start end from events [] o most l order lows = tt
parts-in start end from events (s ∷ later) o most l order lows =
    let some : s.start < s.end = order.1 in
    let least : from ≤ s.start = order.0 in
    let within : s.end ≤ end = last s.end end later (order.2) in
    let e : s.end ≡ suc (s.end - 1) = less-one s.end s.start some in (
      part-of start end from (s.end - 1) events s e l least some within (sent-some (s.end - 1) events o (omega (arith, e, within, most)))
          (λ p at sent. (lows p at sent).0),
      parts-in start end s.end events later o most (omega (arith, l, least, some)) (order.2) (λ p at sent. (lows p at sent).1),
    )

pub parts : (start end : ℕ) (events : List Event) → AreOrderly events → start < end → end ≤ (flight_after events).next
    → AreParts start end events (between start end (flight_after events).stretches)
parts start end events o less most =
    let f : Flight = flight_after events in
    let k : IsFlight f = kept events in
    let front : AreInOrder (min 0 end) end (before end f.stretches) = before-order 0 f.next end f.stretches k.order in
    let back : AreInOrder (max (min 0 end) start) (max end start) (between start end f.stretches) =
    behind-order (min 0 end) end start (before end f.stretches) front in
    let same : max end start ≡ end = omega (arith, less) in
    let P : ℕ → Type 0 = λ to. AreInOrder (max (min 0 end) start) to (between start end f.stretches) in
    parts-in start end (max (min 0 end) start) events (between start end f.stretches) o most (omega arith) (subst P same back)
    (λ p at sent. lows-behind p at start (before end f.stretches) (lows-before p at end f.stretches (low p at events sent)))

-- ---- what a delivery tells
pub record IsLatest (events : List Event) (xmit_ts end_seq : ℕ) : Type 0 where
  pub number : ℕ
  pub time : ℕ
  pub delivered : IsDelivered number time events
  pub sent : xmit_ts ≤ time
  pub ends : end_seq ≡ suc number

pub record IsHighest (events : List Event) (fack : ℕ) : Type 0 where
  pub number : ℕ
  pub time : ℕ
  pub delivered : IsDelivered number time events
  pub ends : fack ≡ suc number

-- nothing was delivered yet, or what is told of deliveries is true
pub record IsTold (events : List Event) (d : Delivered) : Type 0 where
  pub latest : ((d.xmit_ts ≡ 0) × (d.end_seq ≡ 0)) ⊎ IsLatest events d.xmit_ts d.end_seq
  pub highest : (d.fack ≡ 0) ⊎ IsHighest events d.fack

trip : (events : List Event) (d : Delivered) (part : Stretch) (now : ℕ) → IsTold events d → IsTold events (with_trip d part now)
trip events d part now t = record { latest = t.latest; highest = t.highest }

latest-by : (events : List Event) (d : Delivered) (part : Stretch) (b : Bool) → IsTold events d → IsLatest events part.first part.end
    → IsTold events (if b then record d { xmit_ts = part.first; end_seq = part.end } else d)
latest-by events d part true t n = record { latest = inr n; highest = t.highest }
latest-by events d part false t n = t

greater : (events : List Event) (fack end : ℕ) (b : Bool) → nat_lt fack end ≡ b → (fack ≡ 0) ⊎ IsHighest events fack → IsHighest events end
    → (max fack end ≡ 0) ⊎ IsHighest events (max fack end)
greater events fack end true e h n =
    let less : fack < end = grind (arith, nat_tests, e) in
    let same : max fack end ≡ end = omega (arith, less) in
    inr (record { number = n.number; time = n.time; delivered = n.delivered; ends = omega (arith, same, n.ends) })
greater events fack end false e (inl none) n =
    let ends : end ≡ suc n.number = n.ends in
    absurd (grind (arith, nat_tests, e, none, ends))
greater events fack end false e (inr h) n =
    let less : end ≤ fack = grind (arith, nat_tests, e) in
    let same : max fack end ≡ fack = omega (arith, less) in
    inr (record { number = h.number; time = h.time; delivered = h.delivered; ends = omega (arith, same, h.ends) })

ordered : (events : List Event) (d : Delivered) (part : Stretch) → IsTold events d → IsHighest events part.end → IsTold events (with_order d part)
ordered events d part t n = record { latest = t.latest; highest = greater events d.fack part.end (nat_lt d.fack part.end) refl t.highest n }

spurious : (events : List Event) (d : Delivered) (next : ℕ) (b : Bool) → IsTold events d
    → IsTold events (record (if b then d else widened d next) { reordering_seen = true })
spurious events d next true t = record { latest = t.latest; highest = t.highest }
spurious events d next false t = record { latest = t.latest; highest = t.highest }

delivery-by : (events : List Event) (d : Delivered) (part : Stretch) (now next : ℕ) (unknown b : Bool) → IsTold events d
    → IsLatest events part.first part.end → IsHighest events part.end
    → IsTold events (if unknown then d else with_order (if b then after_spurious d part.start next else with_latest (with_trip d part now) part) part)
delivery-by events d part now next true b t n h = t
delivery-by events d part now next false true t n h =
    ordered events (after_spurious d part.start next) part (spurious events d next (nat_lt part.start d.round) t) h
delivery-by events d part now next false false t n h =
    let e : Delivered = with_trip d part now in
    ordered events (with_latest e part) part
    (latest-by events e part (is_later part.first part.end e.xmit_ts e.end_seq) (trip events d part now t) n) h

-- the calls before, and one more
pub more : (start end now min_rtt : ℕ) (earlier : List Event) (d : Delivered) → IsTold earlier d → IsTold (Received start end now min_rtt ∷ earlier) d
more start end now min_rtt earlier d t = record { latest = late t.latest; highest = high t.highest }
  where
    late : ((d.xmit_ts ≡ 0) × (d.end_seq ≡ 0)) ⊎ IsLatest earlier d.xmit_ts d.end_seq
        → ((d.xmit_ts ≡ 0) × (d.end_seq ≡ 0)) ⊎ IsLatest (Received start end now min_rtt ∷ earlier) d.xmit_ts d.end_seq
    late (inl none) = inl none
    late (inr h) = inr (record { number = h.number; time = h.time; delivered = inr h.delivered; sent = h.sent; ends = h.ends })

    high : (d.fack ≡ 0) ⊎ IsHighest earlier d.fack → (d.fack ≡ 0) ⊎ IsHighest (Received start end now min_rtt ∷ earlier) d.fack
    high (inl none) = inl none
    high (inr h) = inr (record { number = h.number; time = h.time; delivered = inr h.delivered; ends = h.ends })

wider : (number start to end : ℕ) → to ≤ end → IsIn number start to → IsIn number start end
wider number start to end h within = let below : number < to = within.1 in (within.0, omega (arith, below, h))

deliveries : (start to end now min_rtt next : ℕ) (earlier : List Event) (d : Delivered) (all : List Stretch) → to ≤ end → AreParts start to earlier all
    → IsTold (Received start end now min_rtt ∷ earlier) d → IsTold (Received start end now min_rtt ∷ earlier) (after_deliveries d all now min_rtt next)
deliveries start to end now min_rtt next earlier d [] h parts t = t
deliveries start to end now min_rtt next earlier d (part ∷ later) h parts t =
    let one : IsPart start to earlier part = parts.0 in
    let within : IsIn one.number start end = wider one.number start to end h one.within in
    deliveries start to end now min_rtt next earlier (after_delivery d part now min_rtt next) later h (parts.1)
    (delivery-by (Received start end now min_rtt ∷ earlier) d part now next (part.first == 0) (is_ambiguous part now min_rtt) t
    (record { number = one.number; time = one.time; delivered = inl (within, one.sent); sent = one.first; ends = one.ends })
    (record { number = one.number; time = one.time; delivered = inl (within, one.sent); ends = one.ends }))

received-by : (start to end now min_rtt : ℕ) (earlier : List Event) (b : Bool) → nat_lt start to ≡ b → to ≤ end → to ≤ (flight_after earlier).next
    → AreOrderly earlier → IsTold earlier (flight_after earlier).delivered
    → IsTold (Received start end now min_rtt ∷ earlier) (if b then record (flight_after earlier) {
      stretches = fitted (without start to (flight_after earlier).stretches);
      delivered = after_deliveries (flight_after earlier).delivered (between start to (flight_after earlier).stretches) now min_rtt (flight_after earlier).next;
    } else flight_after earlier).delivered
received-by start to end now min_rtt earlier true e h most o t =
    deliveries start to end now min_rtt (flight_after earlier).next earlier (flight_after earlier).delivered
    (between start to (flight_after earlier).stretches) h (parts start to earlier o (grind (arith, nat_tests, e)) most)
    (more start end now min_rtt earlier (flight_after earlier).delivered t)
received-by start to end now min_rtt earlier false e h most o t = more start end now min_rtt earlier (flight_after earlier).delivered t

sent-by : (events earlier : List Event) (f : Flight) (start count now min_rtt : ℕ) (b : Bool) → IsTold events f.delivered
    → IsTold events (if b then f else record f {
      stretches = if nat_le f.next start then fitted (appended start (start + count) now (min_rtt / 64) f.stretches) else fitted (fitted (cut_out start (start + count) now f.stretches));
      next = max f.next (start + count);
    }).delivered
sent-by events earlier f start count now min_rtt true t = t
sent-by events earlier f start count now min_rtt false t = t

-- a call that delivers nothing
same : (event : Event) (earlier : List Event) (d : Delivered) → ((n t : ℕ) → IsDelivered n t earlier → IsDelivered n t (event ∷ earlier))
    → IsTold earlier d → IsTold (event ∷ earlier) d
same event earlier d f t = record { latest = late t.latest; highest = high t.highest }
  where
    late : ((d.xmit_ts ≡ 0) × (d.end_seq ≡ 0)) ⊎ IsLatest earlier d.xmit_ts d.end_seq
        → ((d.xmit_ts ≡ 0) × (d.end_seq ≡ 0)) ⊎ IsLatest (event ∷ earlier) d.xmit_ts d.end_seq
    late (inl none) = inl none
    late (inr h) = inr (record { number = h.number; time = h.time; delivered = f h.number h.time h.delivered; sent = h.sent; ends = h.ends })

    high : (d.fack ≡ 0) ⊎ IsHighest earlier d.fack → (d.fack ≡ 0) ⊎ IsHighest (event ∷ earlier) d.fack
    high (inl none) = inl none
    high (inr h) = inr (record { number = h.number; time = h.time; delivered = f h.number h.time h.delivered; ends = h.ends })

settled-by : (events : List Event) (f : Flight) (start end : ℕ) (b : Bool) → IsTold events f.delivered
    → IsTold events (if b then record f { stretches = fitted (without start end f.stretches) } else f).delivered
settled-by events f start end true t = t
settled-by events f start end false t = t

pub told : (events : List Event) → AreOrderly events → IsTold events (flight_after events).delivered
told [] o = record { latest = inl (refl, refl); highest = inl refl }
told (Sent start count now min_rtt ∷ earlier) o =
    sent-by (Sent start count now min_rtt ∷ earlier) earlier (flight_after earlier) start count now min_rtt (count == 0)
    (same (Sent start count now min_rtt) earlier (flight_after earlier).delivered (λ n t h. h) (told earlier (o.2)))
told (Received start end now min_rtt ∷ earlier) o =
    let next : ℕ = (flight_after earlier).next in
    received-by start (min next end) end now min_rtt earlier (nat_lt start (min next end)) refl (omega arith) (omega arith) o (told earlier o)
told (Settled start end ∷ earlier) o =
    let f : Flight = flight_after earlier in
    settled-by (Settled start end ∷ earlier) f start (min f.next end) (nat_lt start (min f.next end))
    (same (Settled start end) earlier f.delivered (λ n t h. h) (told earlier o))
told (Recovered ∷ earlier) o =
    let t : IsTold (Recovered ∷ earlier) (flight_after earlier).delivered =
    same Recovered earlier (flight_after earlier).delivered (λ n t h. h) (told earlier o) in
    record { latest = t.latest; highest = t.highest }
