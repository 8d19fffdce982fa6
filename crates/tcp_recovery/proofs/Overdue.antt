-- What is found lost is overdue, and what isn't late isn't lost.
use Rattle.std.proofs.Common.{◌≡◌, ℕ, suc, ◌+◌, ◌<◌, ◌≤◌, inl, inr, Bool, true, false, List, [], ◌∷◌, Option, Some, None, arith, refl, ap}
use Rattle.std.specs.Prelude.{◌⊎◌, ◌==◌, ◌&&◌, ◌||◌, not, nat_lt, nat_le, if◌then◌else◌}
use Rattle.std.proofs.lemmas.Bool.Decides.{nat_tests}
use Rattle.tcp_recovery.specs.declared.stretch.Stretch.{Stretch}
use Rattle.tcp_recovery.specs.declared.delivered.Delivered.{Delivered}
use Rattle.tcp_recovery.specs.Stretches.{AreInOrder}
use Rattle.tcp_recovery.specs.Rack.{Flight, IsFlight, is_lost, is_overtaken, lost_in}
use Rattle.tcp_recovery.specs.History.{AreOrderly, Event, IsIn, IsOutstanding, flight_after}
use Rattle.tcp_recovery.specs.Laws.{IsOvertaken, LossesAreOverdue}
use Rattle.tcp_recovery.proofs.Covering.{SentOnce, always, kept}
use Rattle.tcp_recovery.proofs.Having.{Has, HasAt}
use Rattle.tcp_recovery.proofs.Orderly.{once-before, outstanding-sent}
use Rattle.tcp_recovery.proofs.Told.{IsHighest, IsLatest, IsTold, told}

-- ---- what the test of a stretch says
abbrev pub IsOver : Delivered → Stretch → Type 0
IsOver d s =
    (s.last < d.xmit_ts)
    ⊎ ((((d.xmit_ts ≡ s.last) × (s.end < d.end_seq)) ⊎ ((s.is_again ≡ false) × (s.end < d.fack) × (0 < d.end_seq))))

any-of : (a b c : Bool) → (a || b || c) ≡ true → (a ≡ true) ⊎ ((b ≡ true) ⊎ (c ≡ true))
any-of true b c h = inl refl
any-of false true c h = inr (inl refl)
any-of false false c h = inr (inr h)

both : (a b : Bool) → (a && b) ≡ true → (a ≡ true) × (b ≡ true)
both true b e = (refl, e)
both false b e = absurd (cc)

is-false : (a : Bool) → not a ≡ true → a ≡ false
is-false true e = absurd (cc)
is-false false e = refl

over-by : (d : Delivered) (s : Stretch)
    → (nat_lt s.last d.xmit_ts ≡ true)
    ⊎ (((d.xmit_ts == s.last && nat_lt s.end d.end_seq) ≡ true) ⊎ ((not s.is_again && nat_lt s.end d.fack && nat_lt 0 d.end_seq) ≡ true))
    → IsOver d s
over-by d s (inl e) = inl (grind (arith, nat_tests, e))
over-by d s (inr (inl e)) =
    let t = both (d.xmit_ts == s.last) (nat_lt s.end d.end_seq) e in
    let same : (d.xmit_ts == s.last) ≡ true = t.0 in
    let less : nat_lt s.end d.end_seq ≡ true = t.1 in
    inr (inl (grind (arith, nat_tests, same), grind (arith, nat_tests, less)))
over-by d s (inr (inr e)) =
    let t = both (not s.is_again && nat_lt s.end d.fack) (nat_lt 0 d.end_seq) e in
    let tests = both (not s.is_again) (nat_lt s.end d.fack) (t.0) in
    let less : nat_lt s.end d.fack ≡ true = tests.1 in
    let some : nat_lt 0 d.end_seq ≡ true = t.1 in
    inr (inr (is-false s.is_again (tests.0), grind (arith, nat_tests, less), grind (arith, nat_tests, some)))

pub over : (d : Delivered) (s : Stretch) → is_overtaken d s ≡ true → IsOver d s
over d s h =
    over-by d s
    (any-of (nat_lt s.last d.xmit_ts) (d.xmit_ts == s.last && nat_lt s.end d.end_seq) (not s.is_again && nat_lt s.end d.fack && nat_lt 0 d.end_seq) h)

pub record IsLost (d : Delivered) (window now : ℕ) (s : Stretch) : Type 0 where
  pub over : IsOver d s
  pub waited : s.last + d.rtt + window ≤ now

pub lost : (d : Delivered) (window now : ℕ) (s : Stretch) → is_lost d window now s ≡ true → IsLost d window now s
lost d window now s h =
    let t = both (is_overtaken d s) (nat_le (s.last + d.rtt + window) now) h in
    let late : nat_le (s.last + d.rtt + window) now ≡ true = t.1 in
    record { over = over d s (t.0); waited = grind (arith, nat_tests, late) }

-- ---- the stretch that is found is the one that has the number
pub record HasLost (d : Delivered) (window now p at : ℕ) (o : Type 0) : Type 0 where
  pub stretch : Stretch
  pub has : HasAt p at o stretch
  pub lost : IsLost d window now stretch

above : (p at from to : ℕ) (o : Type 0) (all : List Stretch) → AreInOrder from to all → Has p at o all → from ≤ p
above p at from to o [] order h = absurd h
above p at from to o (s ∷ later) order (inl h) =
    let least : from ≤ s.start = order.0 in
    let here : s.start ≤ p = h.within.0 in
    omega (arith, least, here)
above p at from to o (s ∷ later) order (inr h) =
    let least : from ≤ s.start = order.0 in
    let some : s.start < s.end = order.1 in
    let rest : s.end ≤ p = above p at s.end to o later (order.2) h in
    omega (arith, least, some, rest)

first-of : ℕ → Option (ℕ × ℕ) → ℕ
first-of none None = none
first-of none (Some pair) = pair.0

second-of : ℕ → Option (ℕ × ℕ) → ℕ
second-of none None = none
second-of none (Some pair) = pair.1

same-pair : (a b c d : ℕ) → ◌≡◌ {A = Option (ℕ × ℕ)} (Some (a, b)) (Some (c, d)) → (a ≡ c) × (b ≡ d)
unfolding first-of second-of
same-pair a b c d e = (ap (first-of 0) e, ap (second-of 0) e)

starts : (d : Delivered) (window now from start end : ℕ) (s : Stretch) (b : Bool) (rest : Option (ℕ × ℕ)) → from ≤ s.start
    → (rest ≡ Some (start, end) → from ≤ start) → (if b then Some (s.start, s.end) else rest) ≡ Some (start, end) → from ≤ start
starts d window now from start end s true rest l r e =
    let pair : (s.start ≡ start) × (s.end ≡ end) = same-pair s.start s.end start end e in
    let same : s.start ≡ start = pair.0 in
    omega (arith, l, same)
starts d window now from start end s false rest l r e = r e

lost-above : (d : Delivered) (window now from to start end : ℕ) (all : List Stretch) → AreInOrder from to all
    → lost_in d window now all ≡ Some (start, end) → from ≤ start
lost-above d window now from to start end [] order e = absurd (cc)
lost-above d window now from to start end (s ∷ later) order e =
    let least : from ≤ s.start = order.0 in
    let some : s.start < s.end = order.1 in
    starts d window now from start end s (is_lost d window now s) (lost_in d window now later) least
    (λ r. let rest : s.end ≤ start = lost-above d window now s.end to start end later (order.2) r in omega (arith, least, some, rest)) e

found-by : (d : Delivered) (window now to start end p at : ℕ) (o : Type 0) (s : Stretch) (later : List Stretch) (b : Bool) → is_lost d window now s ≡ b
    → s.start < s.end → AreInOrder s.end to later → IsIn p start end → Has p at o (s ∷ later)
    → (lost_in d window now later ≡ Some (start, end) → Has p at o later → HasLost d window now p at o)
    → (if b then Some (s.start, s.end) else lost_in d window now later) ≡ Some (start, end) → HasLost d window now p at o
found-by d window now to start end p at o s later true e some order within (inl h) rest same =
    record { stretch = s; has = h; lost = lost d window now s e }
found-by d window now to start end p at o s later true e some order within (inr h) rest same =
    let pair : (s.start ≡ start) × (s.end ≡ end) = same-pair s.start s.end start end same in
    let ends : s.end ≡ end = pair.1 in
    let past : s.end ≤ p = above p at s.end to o later order h in
    let here : p < end = within.1 in
    absurd (omega (arith, ends, past, here))
found-by d window now to start end p at o s later false e some order within (inl h) rest same =
    let low : s.end ≤ start = lost-above d window now s.end to start end later order same in
    let here : start ≤ p = within.0 in
    let below : p < s.end = h.within.1 in
    absurd (omega (arith, low, here, below))
found-by d window now to start end p at o s later false e some order within (inr h) rest same = rest same h

pub found : (d : Delivered) (window now from to start end p at : ℕ) (o : Type 0) (all : List Stretch) → AreInOrder from to all
    → lost_in d window now all ≡ Some (start, end) → IsIn p start end → Has p at o all → HasLost d window now p at o
found d window now from to start end p at o [] order e within h = absurd h
found d window now from to start end p at o (s ∷ later) order e within h =
    found-by d window now to start end p at o s later (is_lost d window now s) refl (order.1) (order.2) within h
    (λ r later-has. found d window now s.end to start end p at o later (order.2) r within later-has) e

-- ---- something was delivered that was sent later
overtaken-by : (events : List Event) (d : Delivered) (p at : ℕ) (s : Stretch) → AreOrderly events → IsTold events d → IsOutstanding p at events
    → HasAt p at (SentOnce p events) s → IsOver d s
    → ((d.xmit_ts ≡ 0) × (d.end_seq ≡ 0)) ⊎ IsLatest events d.xmit_ts d.end_seq → (d.fack ≡ 0) ⊎ IsHighest events d.fack → IsOvertaken events p at
overtaken-by events d p at s o t out has (inl earlier) (inl none) high =
    let zero-time : d.xmit_ts ≡ 0 = none.0 in absurd (omega (arith, earlier, zero-time))
overtaken-by events d p at s o t out has (inl earlier) (inr h) high =
    let last : at ≤ s.last = has.last in
    let sent : d.xmit_ts ≤ h.time = h.sent in
    record { other = h.number; time = h.time; delivered = h.delivered; later = inl (omega (arith, earlier, last, sent)) }
overtaken-by events d p at s o t out has (inr (inl tied)) (inl none) high =
    let less : s.end < d.end_seq = tied.1 in
    let zero-end : d.end_seq ≡ 0 = none.1 in
    absurd (omega (arith, less, zero-end))
overtaken-by events d p at s o t out has (inr (inl tied)) (inr h) high =
    let last : at ≤ s.last = has.last in
    let sent : d.xmit_ts ≤ h.time = h.sent in
    let ends : d.end_seq ≡ suc h.number = h.ends in
    let same : d.xmit_ts ≡ s.last = tied.0 in
    let less : s.end < d.end_seq = tied.1 in
    let below : p < s.end = has.within.1 in
    record {
      other = h.number;
      time = h.time;
      delivered = h.delivered;
      later = inr (omega (arith, last, sent, same), omega (arith, ends, less, below));
    }
overtaken-by events d p at s o t out has (inr (inr fresh)) low (inl none) =
    let less : s.end < d.fack = fresh.1 in absurd (omega (arith, less, none))
overtaken-by events d p at s o t out has (inr (inr fresh)) low (inr h) =
    let ends : d.fack ≡ suc h.number = h.ends in
    let less : s.end < d.fack = fresh.1 in
    let below : p < s.end = has.within.1 in
    let behind : p < h.number = omega (arith, ends, less, below) in
    record {
      other = h.number;
      time = h.time;
      delivered = h.delivered;
      later =
          inr (once-before p at h.number h.time events o (has.single (fresh.0)) (outstanding-sent p at events out) h.delivered behind, behind);
    }

pub overdue_lem : LossesAreOverdue
overdue_lem events window now start end p at o e within out =
    let f : Flight = flight_after events in
    let k : IsFlight f = kept events in
    let t : IsTold events f.delivered = told events o in
    let h : HasLost f.delivered window now p at (SentOnce p events) =
    found f.delivered window now 0 f.next start end p at (SentOnce p events) f.stretches k.order e within (always p at events out) in
    let last : at ≤ h.stretch.last = h.has.last in
    let waited : h.stretch.last + f.delivered.rtt + window ≤ now = h.lost.waited in
    record {
      waited = omega (arith, last, waited);
      overtaken = overtaken-by events f.delivered p at h.stretch o t out h.has h.lost.over t.latest t.highest;
    }
