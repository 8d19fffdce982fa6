-- What is sent in order: a number that was sent once was sent before each one behind it.
use Rattle.std.proofs.Common.{◌≡◌, ℕ, ◌+◌, ◌<◌, ◌≤◌, inl, inr, Bool, true, false, List, [], ◌∷◌, arith, refl}
use Rattle.std.specs.Prelude.{◌⊎◌, ◌==◌, min, max, nat_lt}
use Rattle.std.proofs.lemmas.Bool.Decides.{nat_tests}
use Rattle.tcp_recovery.specs.Rack.{Flight}
use Rattle.tcp_recovery.specs.History.{Event, Sent, Received, Recovered, Settled, IsIn, IsOut, IsNotBefore, AreOrderly, SentLast, IsOutstanding, IsDelivered, flight_after}
use Rattle.tcp_recovery.proofs.Covering.{NeverSent, SentOnce, lies, never, next-received, next-sent, next-settled}
use Rattle.tcp_recovery.proofs.Lows.{apart}

-- a time at which a number was sent last
pub record WasSent (p : ℕ) (events : List Event) : Type 0 where
  pub time : ℕ
  pub sent : SentLast p time events

is-in : (p start end : ℕ) → (p < start) ⊎ (start ≤ p) → (p < end) ⊎ (end ≤ p) → IsIn p start end ⊎ IsOut p start end
is-in p start end (inl below) e = inr (inl below)
is-in p start end (inr above) (inl below) = inl (above, below)
is-in p start end (inr above) (inr past) = inr (inr past)

decide : (p start end : ℕ) → IsIn p start end ⊎ IsOut p start end
decide p start end = is-in p start end (lies p start (nat_lt p start) refl) (lies p end (nat_lt p end) refl)

was-sent : (p start count now min_rtt next after : ℕ) (earlier : List Event) → IsIn p start (start + count) ⊎ IsOut p start (start + count)
    → (((after ≡ next) × (count ≡ 0)) ⊎ (after ≡ max next (start + count))) → start ≤ next → p < after → (p < next → WasSent p earlier)
    → WasSent p (Sent start count now min_rtt ∷ earlier)
was-sent p start count now min_rtt next after earlier (inl within) n h below rest = record { time = now; sent = inl (within, refl) }
was-sent p start count now min_rtt next after earlier (inr outside) n h below rest =
    let w : WasSent p earlier = rest (less n outside) in
    record { time = w.time; sent = inr (outside, w.sent) }
  where
    less : (((after ≡ next) × (count ≡ 0)) ⊎ (after ≡ max next (start + count))) → IsOut p start (start + count) → p < next
    less (inl both) outside = let same : after ≡ next = both.0 in omega (arith, same, below)
    less (inr same) (inl front) = omega (arith, h, front)
    less (inr same) (inr past) = omega (arith, same, below, past)

-- all before SND.NXT was sent
pub sent-some : (p : ℕ) (events : List Event) → AreOrderly events → p < (flight_after events).next → WasSent p events
sent-some p [] o h = absurd (omega (arith, h))
sent-some p (Sent start count now min_rtt ∷ earlier) o h =
    was-sent p start count now min_rtt (flight_after earlier).next (flight_after (Sent start count now min_rtt ∷ earlier)).next earlier
    (decide p start (start + count)) (next-sent (flight_after earlier) start count now min_rtt (count == 0) refl) (o.0) h
    (λ below. sent-some p earlier (o.2) below)
sent-some p (Received start end now min_rtt ∷ earlier) o h =
    let f : Flight = flight_after earlier in
    let same : (flight_after (Received start end now min_rtt ∷ earlier)).next ≡ f.next =
    next-received f start (min f.next end) now min_rtt (nat_lt start (min f.next end)) in
    let w : WasSent p earlier = sent-some p earlier o (omega (arith, same, h)) in
    record { time = w.time; sent = w.sent }
sent-some p (Settled start end ∷ earlier) o h =
    let f : Flight = flight_after earlier in
    let same : (flight_after (Settled start end ∷ earlier)).next ≡ f.next = next-settled f start (min f.next end) (nat_lt start (min f.next end)) in
    let w : WasSent p earlier = sent-some p earlier o (omega (arith, same, h)) in
    record { time = w.time; sent = w.sent }
sent-some p (Recovered ∷ earlier) o h =
    let w : WasSent p earlier = sent-some p earlier o h in record { time = w.time; sent = w.sent }

never-last : (p at : ℕ) (events : List Event) → NeverSent p events → SentLast p at events → ⊥
never-last p at [] n h = h
never-last p at (Sent start count now min_rtt ∷ earlier) n (inl new) = apart p start (start + count) (n.0) (new.0)
never-last p at (Sent start count now min_rtt ∷ earlier) n (inr old) = never-last p at earlier (n.1) (old.1)
never-last p at (Received start end now min_rtt ∷ earlier) n h = never-last p at earlier n h
never-last p at (Settled start end ∷ earlier) n h = never-last p at earlier n h
never-last p at (Recovered ∷ earlier) n h = never-last p at earlier n h

-- what was sent is before SND.NXT
below-next : (p at : ℕ) (events : List Event) → SentLast p at events → p < (flight_after events).next
below-next p at events h = by (nat_lt p (flight_after events).next) refl
  where
    by : (b : Bool) → nat_lt p (flight_after events).next ≡ b → p < (flight_after events).next
    by true e = grind (arith, nat_tests, e)
    by false e =
        let past : (flight_after events).next ≤ p = grind (arith, nat_tests, e) in
        absurd (never-last p at events (never p events past) h)

delivered-sent : (p at : ℕ) (events : List Event) → IsDelivered p at events → NeverSent p events → ⊥
delivered-sent p at [] h n = h
delivered-sent p at (Sent start count now min_rtt ∷ earlier) h n = delivered-sent p at earlier h (n.1)
delivered-sent p at (Received start end now min_rtt ∷ earlier) (inl new) n = never-last p at earlier n (new.1)
delivered-sent p at (Received start end now min_rtt ∷ earlier) (inr old) n = delivered-sent p at earlier old n
delivered-sent p at (Settled start end ∷ earlier) h n = delivered-sent p at earlier h n
delivered-sent p at (Recovered ∷ earlier) h n = delivered-sent p at earlier h n

-- nothing behind a number that was never sent was sent
none-behind : (p q at : ℕ) (events : List Event) → AreOrderly events → NeverSent p events → p < q → SentLast q at events → ⊥
none-behind p q at events o n h sent =
    let below : q < (flight_after events).next = below-next q at events sent in
    let w : WasSent p events = sent-some p events o (omega (arith, below, h)) in
    never-last p w.time events n w.sent

none-delivered : (p q at : ℕ) (events : List Event) → AreOrderly events → NeverSent p events → p < q → IsDelivered q at events → ⊥
none-delivered p q at [] o n h d = d
none-delivered p q at (Sent start count now min_rtt ∷ earlier) o n h d = none-delivered p q at earlier (o.2) (n.1) h d
none-delivered p q at (Received start end now min_rtt ∷ earlier) o n h (inl new) = none-behind p q at earlier o n h (new.1)
none-delivered p q at (Received start end now min_rtt ∷ earlier) o n h (inr old) = none-delivered p q at earlier o n h old
none-delivered p q at (Settled start end ∷ earlier) o n h d = none-delivered p q at earlier o n h d
none-delivered p q at (Recovered ∷ earlier) o n h d = none-delivered p q at earlier o n h d

not-later : (p at now : ℕ) (events : List Event) → IsNotBefore now events → SentLast p at events → at ≤ now
not-later p at now [] h s = absurd s
not-later p at now (Sent start count time min_rtt ∷ earlier) h (inl new) =
    let past : time ≤ now = h.0 in
    let same : time ≡ at = new.1 in
    omega (arith, past, same)
not-later p at now (Sent start count time min_rtt ∷ earlier) h (inr old) = not-later p at now earlier (h.1) (old.1)
not-later p at now (Received start end time min_rtt ∷ earlier) h s = not-later p at now earlier h s
not-later p at now (Settled start end ∷ earlier) h s = not-later p at now earlier h s
not-later p at now (Recovered ∷ earlier) h s = not-later p at now earlier h s

-- ---- sent once, and before what is behind it
once-sent : (p at q time : ℕ) (events : List Event) → AreOrderly events → SentOnce p events → SentLast p at events → SentLast q time events → p < q
    → at ≤ time
once-sent p at q time [] o once h s less = absurd h
once-sent p at q time (Sent start count now min_rtt ∷ earlier) o once (inl new) (inl also) less =
    let same : now ≡ at = new.1 in
    let too : now ≡ time = also.1 in
    omega (arith, same, too)
once-sent p at q time (Sent start count now min_rtt ∷ earlier) o (inl only) (inl new) (inr old) less =
    absurd (none-behind p q time earlier (o.2) (only.1) less (old.1))
once-sent p at q time (Sent start count now min_rtt ∷ earlier) o (inr twice) (inl new) (inr old) less =
    absurd (apart p start (start + count) (twice.0) (new.0))
once-sent p at q time (Sent start count now min_rtt ∷ earlier) o once (inr before) (inl new) less =
    let past : at ≤ now = not-later p at now earlier (o.1) (before.1) in
    let same : now ≡ time = new.1 in
    omega (arith, past, same)
once-sent p at q time (Sent start count now min_rtt ∷ earlier) o (inl only) (inr before) (inr old) less =
    absurd (apart p start (start + count) (before.0) (only.0))
once-sent p at q time (Sent start count now min_rtt ∷ earlier) o (inr once) (inr before) (inr old) less =
    once-sent p at q time earlier (o.2) (once.1) (before.1) (old.1) less
once-sent p at q time (Received start end now min_rtt ∷ earlier) o once h s less = once-sent p at q time earlier o once h s less
once-sent p at q time (Settled start end ∷ earlier) o once h s less = once-sent p at q time earlier o once h s less
once-sent p at q time (Recovered ∷ earlier) o once h s less = once-sent p at q time earlier o once h s less

pub once-before : (p at q time : ℕ) (events : List Event) → AreOrderly events → SentOnce p events → SentLast p at events → IsDelivered q time events
    → p < q → at ≤ time
once-before p at q time [] o once h d less = absurd h
once-before p at q time (Sent start count now min_rtt ∷ earlier) o (inl only) h d less =
    absurd (none-delivered p q time earlier (o.2) (only.1) less d)
once-before p at q time (Sent start count now min_rtt ∷ earlier) o (inr once) (inl new) d less =
    absurd (apart p start (start + count) (once.0) (new.0))
once-before p at q time (Sent start count now min_rtt ∷ earlier) o (inr once) (inr before) d less =
    once-before p at q time earlier (o.2) (once.1) (before.1) d less
once-before p at q time (Received start end now min_rtt ∷ earlier) o once h (inl new) less = once-sent p at q time earlier o once h (new.1) less
once-before p at q time (Received start end now min_rtt ∷ earlier) o once h (inr old) less = once-before p at q time earlier o once h old less
once-before p at q time (Settled start end ∷ earlier) o once h d less = once-before p at q time earlier o once h d less
once-before p at q time (Recovered ∷ earlier) o once h d less = once-before p at q time earlier o once h d less

-- what is outstanding was sent
pub outstanding-sent : (p at : ℕ) (events : List Event) → IsOutstanding p at events → SentLast p at events
outstanding-sent p at [] h = h
outstanding-sent p at (Sent start count now min_rtt ∷ earlier) (inl new) = inl new
outstanding-sent p at (Sent start count now min_rtt ∷ earlier) (inr old) = inr (old.0, outstanding-sent p at earlier (old.1))
outstanding-sent p at (Received start end now min_rtt ∷ earlier) h = outstanding-sent p at earlier (h.1)
outstanding-sent p at (Settled start end ∷ earlier) h = outstanding-sent p at earlier (h.1)
outstanding-sent p at (Recovered ∷ earlier) h = outstanding-sent p at earlier h
