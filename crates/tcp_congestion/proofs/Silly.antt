-- No silly segment, and nothing waits longer than the override timeout.
use Rattle.std.proofs.Common.{◌≡◌, ℕ, ◌+◌, ◌*◌, ◌<◌, ◌≤◌, inl, inr, Bool, true, false, List, [], ◌∷◌, Option, Some, None, arith, refl}
use Rattle.std.specs.Prelude.{min, nat_le, ◌==◌, ◌⊎◌, if◌then◌else◌}
use Rattle.std.proofs.lemmas.Bool.Decides.{nat_tests}
use Rattle.tcp_congestion.specs.SwsAvoidance.{Sender, Ask, NoSillySegment, NothingWaitsLonger, IsAlone, AllWait, after_ask, after_asks, is_alone, is_fraction, is_full, is_overridden, is_sent, is_worth, waiting_since}

alone : (s : Sender) (flight : ℕ) (nagle : Bool) → s.is_nagle ≡ nagle → (if nagle then flight == 0 else true) ≡ true → IsAlone s flight
alone s flight true e h = record { unsent = λ yes-nagle. grind (arith, nat_tests, h) }
alone s flight false e h = record { unsent = λ yes-nagle. absurd (cc) }

worth : (s : Sender) (queued usable flight : ℕ) (by_itself all : Bool) → is_alone s flight ≡ by_itself → nat_le queued usable ≡ all
    → (if by_itself then (if all then true else is_fraction s queued usable) else false) ≡ true → min queued usable < s.mss
    → IsAlone s flight × ((min s.mss (min queued usable) ≡ queued) ⊎ (s.max_wnd ≤ 2 * min s.mss (min queued usable)))
worth s queued usable flight true true a e h short =
    let fits : queued ≤ usable = grind (arith, nat_tests, e) in
    (alone s flight s.is_nagle refl a, inl (omega (arith, fits, short)))
worth s queued usable flight true false a e h short =
    let half : s.max_wnd ≤ 2 * min queued usable = grind (arith, nat_tests, h) in
    (alone s flight s.is_nagle refl a, inr (omega (arith, half, short)))
worth s queued usable flight false all a e h short = absurd (cc)

silly-by : (s : Sender) (queued usable flight now : ℕ) (whole worthy over : Bool)
    → nat_le s.mss (min queued usable) ≡ whole → is_worth s queued usable flight ≡ worthy → is_overridden s.since s.timeout now ≡ over
    → (if (if whole then true else (if worthy then true else over)) then min s.mss (min queued usable) else 0) < s.mss
    → 0 < (if (if whole then true else (if worthy then true else over)) then min s.mss (min queued usable) else 0)
    → (IsAlone s flight × (((if (if whole then true else (if worthy then true else over)) then min s.mss (min queued usable) else 0) ≡ queued)
    ⊎ (s.max_wnd ≤ 2 * (if (if whole then true else (if worthy then true else over)) then min s.mss (min queued usable) else 0))))
    ⊎ (over ≡ true)
silly-by s queued usable flight now true worthy over e f o less some =
    let most : s.mss ≤ min queued usable = grind (arith, nat_tests, e) in absurd (omega (arith, most, less))
silly-by s queued usable flight now false true over e f o less some =
    inl (worth s queued usable flight (is_alone s flight) (nat_le queued usable) refl refl f (omega (arith, less)))
silly-by s queued usable flight now false false true e f o less some = inr refl
silly-by s queued usable flight now false false false e f o less some = absurd (omega (arith, some))

pub silly_lem : NoSillySegment
silly_lem s queued usable flight now less some =
    silly-by s queued usable flight now (is_full s queued usable) (is_worth s queued usable flight) (is_overridden s.since s.timeout now)
    refl refl refl less some

-- where data wait nothing is sent
waits-unsent : (mss sendable : ℕ) (b : Bool) → 0 < mss → 0 < sendable → (if b then min mss sendable else 0) ≡ 0 → b ≡ false
waits-unsent mss sendable true m h e = absurd (omega (arith, m, h, e))
waits-unsent mss sendable false m h e = refl

-- something is more than nothing
some-left : (sendable at : ℕ) (since : Option ℕ) (now : ℕ) (b : Bool) → (sendable == 0) ≡ b → 0 < sendable → waiting_since since now ≡ Some at
    → (if b then None else waiting_since since now) ≡ Some at
some-left sendable at since now true e h is = absurd (grind (arith, nat_tests, e, h))
some-left sendable at since now false e h is = is

-- and they wait since when they did, or from now on
since-kept : (mss sendable at now : ℕ) (since : Option ℕ) (b : Bool) → 0 < mss → 0 < sendable → (if b then min mss sendable else 0) ≡ 0
    → waiting_since since now ≡ Some at
    → (if b then None else (if sendable == 0 then None else waiting_since since now)) ≡ Some at
since-kept mss sendable at now since true m h e is = absurd (omega (arith, m, h, e))
since-kept mss sendable at now since false m h e is = some-left sendable at since now (sendable == 0) refl h is

same-timeout : (s : Sender) (asks : List Ask) → (after_asks s asks).timeout ≡ s.timeout
same-timeout s [] = refl
same-timeout s (a ∷ earlier) = same-timeout s earlier

same-mss : (s : Sender) (asks : List Ask) → (after_asks s asks).mss ≡ s.mss
same-mss s [] = refl
same-mss s (a ∷ earlier) = same-mss s earlier

known : (since : Option ℕ) (at now : ℕ) → since ≡ Some at → waiting_since since now ≡ Some at
known None at now e = absurd (cc)
known (Some since) at now e = e

unknown : (since : Option ℕ) (now : ℕ) → since ≡ None → waiting_since since now ≡ Some now
unknown None now e = refl
unknown (Some since) now e = absurd (cc)

still : (s : Sender) (at : ℕ) (asks : List Ask) → 0 < s.mss → s.since ≡ Some at → AllWait s asks → (after_asks s asks).since ≡ Some at
still s at [] m e all = e
still s at (a ∷ earlier) m e all =
    let v : Sender = after_asks s earlier in
    let same : v.mss ≡ s.mss = same-mss s earlier in
    since-kept v.mss (min a.queued a.usable) at a.now v.since (is_sent v a.queued a.usable a.flight a.now) (omega (arith, same, m)) (all.0.0) (all.0.1)
    (known v.since at a.now (still s at earlier m e (all.1)))

over-unsent : (whole worthy over : Bool) → (if whole then true else (if worthy then true else over)) ≡ false → over ≡ false
over-unsent true worthy over e = absurd (cc)
over-unsent false true over e = absurd (cc)
over-unsent false false over e = e

not-overridden : (since : Option ℕ) (timeout at now : ℕ) → since ≡ Some at → is_overridden since timeout now ≡ false → now < at + timeout
not-overridden None timeout at now e h = absurd (cc)
not-overridden (Some since) timeout at now e h =
    let same : since ≡ at = cc in
    let less : now < since + timeout = grind (arith, nat_tests, h) in
    omega (arith, same, less)

pub waits_lem : NothingWaitsLonger
waits_lem s first last between m none w all l =
    let begun : Sender = after_ask s first in
    let at-first : begun.since ≡ Some first.now =
    since-kept s.mss (min first.queued first.usable) first.now first.now s.since (is_sent s first.queued first.usable first.flight first.now) m (w.0) (w.1)
    (unknown s.since first.now none) in
    let v : Sender = after_asks begun between in
    let same : v.mss ≡ s.mss = same-mss begun between in
    let time : v.timeout ≡ s.timeout = same-timeout begun between in
    let unsent : is_sent v last.queued last.usable last.flight last.now ≡ false =
    waits-unsent v.mss (min last.queued last.usable) (is_sent v last.queued last.usable last.flight last.now) (omega (arith, same, m)) (l.0) (l.1) in
    let less : last.now < first.now + v.timeout =
    not-overridden v.since v.timeout first.now last.now (still begun first.now between m at-first all)
    (over-unsent (is_full v last.queued last.usable) (is_worth v last.queued last.usable last.flight) (is_overridden v.since v.timeout last.now) unsent) in
    omega (arith, less, time)
