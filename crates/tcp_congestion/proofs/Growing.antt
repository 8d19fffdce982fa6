-- How the window grows and shrinks.
use Rattle.std.proofs.Common.{◌≡◌, ℕ, suc, ◌+◌, ◌-◌, ◌*◌, ◌/◌, ◌<◌, ◌≤◌, Bool, true, false, List, [], ◌∷◌, arith, refl}
use Rattle.std.specs.Prelude.{min, max, nat_le, nat_lt, ◌==◌, if◌then◌else◌}
use Rattle.std.proofs.Math.Nat.{mul-le-mul_left}
use Rattle.std.proofs.lemmas.Bool.Decides.{nat_tests}
use Rattle.tcp_congestion.proofs.Longer.{started-le}
use Rattle.tcp_congestion.specs.Sizes.{max_window}
use Rattle.tcp_congestion.specs.Reno.{Window, IsWindow, with_progress, is_used, avoided, slow_started, started_by, grown, after_growth, after_recovering, has_pipe, is_new_loss, is_third, after_loss, recovered, deflated, begun, halved, inflated, limited}
use Rattle.tcp_congestion.specs.Growth.{Acknowledgement, AllShortOf, AvoidanceIsSlow, Event, Acknowledges, Duplicates, Reports, Loses, Delivers, Finds, Pipes, Measures, IsShortOf, OneLossAWindow, after_event, after_events, GrowthIsAcknowledged, LossShrinks, FlightStaysInWindow, ResendsStayInWindow, after_acks, total as total_of}

-- so far: it grew this many times, and what was acknowledged is used up or kept
record Grew (w v : Window) (total : ℕ) : Type 0 where
  times : ℕ
  cwnd : v.cwnd ≤ w.cwnd + times * w.smss
  least : w.cwnd ≤ v.cwnd
  smss : v.smss ≡ w.smss
  most : v.cwnd ≤ max_window
  acked : times * w.cwnd + v.bytes_acked ≤ w.bytes_acked + total
  threshold : v.ssthresh ≡ w.ssthresh
  open_still : v.is_recovering ≡ false

-- another segment
wider : (w v : Window) (total all : ℕ) → Grew w v total → v.cwnd ≤ all → (extra : ℕ) → all ≤ v.bytes_acked + extra
    → Grew w (record v { cwnd = min max_window (v.cwnd + v.smss); bytes_acked = all - v.cwnd }) (extra + total)
wider w v total all h full extra from = record {
  times = suc h.times;
  cwnd = let c = h.cwnd in let s = h.smss in let e : suc h.times * w.smss ≡ h.times * w.smss + w.smss = omega arith in omega (arith, c, s, e);
  least = let l = h.least in let m = h.most in omega (arith, l, m);
  smss = h.smss;
  most = omega arith;
  acked = let a = h.acked in let l = h.least in let e : suc h.times * w.cwnd ≡ h.times * w.cwnd + w.cwnd = omega arith in omega (arith, a, l, e, full, from);
  threshold = h.threshold;
  open_still = h.open_still;
}

kept : (w v : Window) (total all extra : ℕ) → Grew w v total → all ≤ v.bytes_acked + extra → Grew w (record v { bytes_acked = all }) (extra + total)
kept w v total all extra h from = record {
  times = h.times;
  cwnd = h.cwnd;
  least = h.least;
  smss = h.smss;
  most = h.most;
  acked = let a = h.acked in omega (arith, a, from);
  threshold = h.threshold;
  open_still = h.open_still;
}

by-size : (w v : Window) (total all extra : ℕ) (b : Bool) → nat_le v.cwnd all ≡ b → Grew w v total → all ≤ v.bytes_acked + extra
    → Grew w (if b then record v { cwnd = min max_window (v.cwnd + v.smss); bytes_acked = all - v.cwnd } else record v { bytes_acked = all }) (extra + total)
by-size w v total all extra true e h from = wider w v total all h (grind (arith, nat_tests, e)) extra from
by-size w v total all extra false e h from = kept w v total all extra h from

by-phase : (w v : Window) (total acked : ℕ) (b : Bool) → nat_lt v.cwnd v.ssthresh ≡ b → v.ssthresh ≤ v.cwnd → Grew w v total
    → Grew w (if b then slow_started v acked else avoided v (v.bytes_acked + min acked v.cwnd)) (acked + total)
by-phase w v total acked true e past h = absurd (grind (arith, nat_tests, e, past))
by-phase w v total acked false e past h =
    by-size w v total (v.bytes_acked + min acked v.cwnd) acked (nat_le v.cwnd (v.bytes_acked + min acked v.cwnd)) refl h (omega arith)

by-use : (w v : Window) (total acked : ℕ) (b : Bool) → v.ssthresh ≤ v.cwnd → Grew w v total → Grew w (if b then grown v acked else v) (acked + total)
by-use w v total acked true past h = by-phase w v total acked (nat_lt v.cwnd v.ssthresh) refl past h
by-use w v total acked false past h = kept w v total v.bytes_acked acked h (omega arith)

-- what progress leaves as it is
progressed : (w v : Window) (total acked : ℕ) → Grew w v total → Grew w (with_progress v acked) total
progressed w v total acked h = record {
  times = h.times;
  cwnd = h.cwnd;
  least = h.least;
  smss = h.smss;
  most = h.most;
  acked = h.acked;
  threshold = h.threshold;
  open_still = h.open_still;
}

-- an acknowledgement is one of growth where fast recovery doesn't go on, and so is one by blocks
by-blocks : (P : Window → Type 0) (w : Window) (ack : Acknowledgement) (b by_blocks : Bool) → w.is_recovering ≡ b → b ≡ false
    → P (after_growth w ack.acked (ack.flight - ack.acked)) → P (after_growth (with_progress w ack.acked) ack.acked ack.flight)
    → P (if by_blocks then (if b then w else after_growth w ack.acked (ack.flight - ack.acked))
    else (if b then after_recovering (with_progress w ack.acked) ack.acked ack.snd_una ack.flight
    else after_growth (with_progress w ack.acked) ack.acked ack.flight))
by-blocks P w ack true by_blocks e calm h i = absurd (cc)
by-blocks P w ack false true e calm h i = h
by-blocks P w ack false false e calm h i = i

grew : (w : Window) (acks : List Acknowledgement) → IsWindow w → w.is_recovering ≡ false → w.ssthresh ≤ w.cwnd → Grew w (after_acks w acks) (total_of acks)
grew w [] is calm past = record {
  times = 0;
  cwnd = omega arith;
  least = omega arith;
  smss = refl;
  most = is.most;
  acked = omega arith;
  threshold = refl;
  open_still = calm;
}
grew w (ack ∷ earlier) is calm past =
    let h : Grew w (after_acks w earlier) (total_of earlier) = grew w earlier is calm past in
    let t = h.threshold in
    let l = h.least in
    by-blocks (λ v. Grew w v (ack.acked + total_of earlier)) (after_acks w earlier) ack
    (after_acks w earlier).is_recovering ack.by_blocks refl h.open_still
    (by-use w (after_acks w earlier) (total_of earlier) ack.acked (is_used (after_acks w earlier) ack.acked (ack.flight - ack.acked)) (omega (arith, t, l, past)) h)
    (by-use w (with_progress (after_acks w earlier) ack.acked) (total_of earlier) ack.acked (is_used (after_acks w earlier) ack.acked ack.flight)
    (omega (arith, t, l, past)) (progressed w (after_acks w earlier) (total_of earlier) ack.acked h))

pub slow_lem : AvoidanceIsSlow
slow_lem w acks is calm past =
    let h : Grew w (after_acks w acks) (total_of acks) = grew w acks is calm past in
    let a = h.acked in
    record { times = h.times; cwnd = h.cwnd; acked = omega (arith, a) }

-- ---- no faster than what is acknowledged
record GrewAtMost (w v : Window) (total : ℕ) : Type 0 where
  both : v.cwnd + v.bytes_acked ≤ w.cwnd + w.bytes_acked + total
  least : v.smss ≤ v.cwnd
  most : v.cwnd ≤ max_window
  open_still : v.is_recovering ≡ false

most-by-size : (w v : Window) (total all extra : ℕ) (b : Bool) → nat_le v.cwnd all ≡ b → GrewAtMost w v total → all ≤ v.bytes_acked + extra
    → GrewAtMost w (if b then record v { cwnd = min max_window (v.cwnd + v.smss); bytes_acked = all - v.cwnd } else record v { bytes_acked = all })
    (extra + total)
most-by-size w v total all extra true e h from =
    let full : v.cwnd ≤ all = grind (arith, nat_tests, e) in
    let b = h.both in
    let l = h.least in
    let m = h.most in
    record { both = omega (arith, full, b, l, from); least = omega (arith, l, m); most = omega arith; open_still = h.open_still }
most-by-size w v total all extra false e h from =
    let b = h.both in
    record { both = omega (arith, b, from); least = h.least; most = h.most; open_still = h.open_still }

most-by-phase : (w v : Window) (total acked : ℕ) (b : Bool) → GrewAtMost w v total
    → GrewAtMost w (if b then slow_started v acked else avoided v (v.bytes_acked + min acked v.cwnd)) (acked + total)
most-by-phase w v total acked true h =
    let b = h.both in
    let l = h.least in
    let m = h.most in
    let s : started_by v acked ≤ acked = started-le v acked in
    record { both = omega (arith, b, s); least = omega (arith, l, m); most = omega arith; open_still = h.open_still }
most-by-phase w v total acked false h =
    most-by-size w v total (v.bytes_acked + min acked v.cwnd) acked (nat_le v.cwnd (v.bytes_acked + min acked v.cwnd)) refl h (omega arith)

most-by-use : (w v : Window) (total acked : ℕ) (b : Bool) → GrewAtMost w v total → GrewAtMost w (if b then grown v acked else v) (acked + total)
most-by-use w v total acked true h = most-by-phase w v total acked (nat_lt v.cwnd v.ssthresh) h
most-by-use w v total acked false h = let b = h.both in record { both = omega (arith, b); least = h.least; most = h.most; open_still = h.open_still }

grew-at-most : (w : Window) (acks : List Acknowledgement) → IsWindow w → w.is_recovering ≡ false → GrewAtMost w (after_acks w acks) (total_of acks)
grew-at-most w [] is calm = record { both = omega arith; least = is.least; most = is.most; open_still = calm }
grew-at-most w (ack ∷ earlier) is calm =
    let h : GrewAtMost w (after_acks w earlier) (total_of earlier) = grew-at-most w earlier is calm in
    let p : GrewAtMost w (with_progress (after_acks w earlier) ack.acked) (total_of earlier) =
    record { both = h.both; least = h.least; most = h.most; open_still = h.open_still } in
    by-blocks (λ v. GrewAtMost w v (ack.acked + total_of earlier)) (after_acks w earlier) ack
    (after_acks w earlier).is_recovering ack.by_blocks refl h.open_still
    (most-by-use w (after_acks w earlier) (total_of earlier) ack.acked (is_used (after_acks w earlier) ack.acked (ack.flight - ack.acked)) h)
    (most-by-use w (with_progress (after_acks w earlier) ack.acked) (total_of earlier) ack.acked (is_used (after_acks w earlier) ack.acked ack.flight) p)

pub acknowledged_lem : GrowthIsAcknowledged
acknowledged_lem w acks is calm = let b = (grew-at-most w acks is calm).both in omega (arith, b)

-- ---- a loss
third : (w : Window) (snd_una flight snd_nxt : ℕ) (recovering is_third_one : Bool) → (if recovering then false else is_third_one) ≡ true
    → (if recovering then inflated w
    else (if is_third_one then begun (halved w flight) 3 snd_nxt else record w { duplicates = min 3 (w.duplicates + 1) })).cwnd
    ≤ max (flight / 2) (2 * w.smss) + 3 * w.smss
third w snd_una flight snd_nxt true b e = absurd (cc)
third w snd_una flight snd_nxt false true e = omega arith
third w snd_una flight snd_nxt false false e = absurd (cc)

once : (w : Window) (snd_una : ℕ) (recovering is_second : Bool) → (if recovering then false else (if is_second then nat_lt w.recover snd_una else false)) ≡ true
    → w.recover < snd_una
once w snd_una true b e = absurd (cc)
once w snd_una false true e = grind (arith, nat_tests, e)
once w snd_una false false e = absurd (cc)

full : (w : Window) (acked snd_una flight : ℕ) (recovering before : Bool) → recovering ≡ true → nat_lt snd_una w.recover ≡ before → w.recover ≤ snd_una
    → (if recovering then (if before then deflated (with_progress w acked) acked else recovered (with_progress w acked) flight)
    else after_growth (with_progress w acked) acked flight).cwnd
    ≤ w.ssthresh
full w acked snd_una flight false b going e h = absurd (cc)
full w acked snd_una flight true true going e h = absurd (grind (arith, nat_tests, e, h))
full w acked snd_una flight true false going e h = omega arith

not-raised : (w : Window) (ssthresh : ℕ) (timed_out recovering : Bool) → recovering ≡ true
    → (if timed_out then w.ssthresh else (if recovering then min ssthresh w.ssthresh else ssthresh)) ≤ w.ssthresh
not-raised w ssthresh true b e = omega arith
not-raised w ssthresh false true e = omega arith
not-raised w ssthresh false false e = absurd (cc)

pub shrinks_lem : LossShrinks
shrinks_lem w snd_una flight snd_nxt = record {
  third = third w snd_una flight snd_nxt w.is_recovering (is_third w snd_una);
  once = once w snd_una w.is_recovering (w.duplicates == 2);
  full = λ acked is h. full w acked snd_una flight w.is_recovering (nat_lt snd_una w.recover) is refl h;
  timeout = refl;
  threshold = not-raised w (halved w flight).ssthresh w.is_timed_out w.is_recovering;
}

two-segments : (w : Window) (recovering : Bool) → (if recovering then 0 else min w.duplicates 2 * w.smss) ≤ 2 * w.smss
two-segments w true = omega arith
two-segments w false =
    let most : min w.duplicates 2 ≤ 2 = omega arith in
    let more : w.smss * min w.duplicates 2 ≤ w.smss * 2 = mul-le-mul_left w.smss most in
    omega (arith, more)

pub stays_lem : FlightStaysInWindow
stays_lem w flight more h = let two : limited w ≤ 2 * w.smss = two-segments w w.is_recovering in omega (arith, two, h)

nothing-resent : (smss : ℕ) → 0 < smss → nat_lt 0 smss ≡ true
nothing-resent smss h = grind (arith, nat_tests, h)

one-resent : (smss count : ℕ) → smss ≤ max_window → smss ≤ count → nat_lt (min max_window (0 + count)) smss ≡ false
one-resent smss count fits h = let least : smss ≤ min max_window (0 + count) = omega (arith, fits, h) in grind (arith, nat_tests, least)

pub resends_lem : ResendsStayInWindow
resends_lem w flight snd_nxt count is = record {
  most = λ may. let less : w.resent < w.cwnd = grind (arith, nat_tests, may) in omega (arith, less);
  first = nothing-resent w.smss is.positive;
  alone = λ full. let l = is.least in let m = is.most in one-resent w.smss count (omega (arith, l, m)) full;
}

-- ---- one loss a window
found-by : (w : Window) (flight snd_nxt : ℕ) (b : Bool) → b ≡ true → w.duplicates ≤ 3
    → (if b then begun (halved w flight) w.duplicates snd_nxt else w).cwnd ≤ max (flight / 2) (2 * w.smss) + 3 * w.smss
found-by w flight snd_nxt true e few =
    let more : w.smss * w.duplicates ≤ w.smss * 3 = mul-le-mul_left w.smss few in omega (arith, more)
found-by w flight snd_nxt false e few = absurd (cc)

new-by : (w : Window) (snd_una : ℕ) (b : Bool) → (if b then false else nat_le w.recover snd_una) ≡ true → w.recover ≤ snd_una
new-by w snd_una true e = absurd (cc)
new-by w snd_una false e = grind (arith, nat_tests, e)

kept-by : (w x : Window) (b : Bool) → b ≡ false → (if b then x else w) ≡ w
kept-by w x true e = absurd (cc)
kept-by w x false e = refl

-- the recovery of a loss goes on
record IsRepaired (v : Window) (ssthresh snd_nxt : ℕ) : Type 0 where
  threshold : v.ssthresh ≡ ssthresh
  recover : v.recover ≡ snd_nxt
  going : v.is_recovering ≡ true

begins : (w : Window) (flight snd_nxt : ℕ) (b : Bool) → b ≡ true
    → IsRepaired (if b then begun (halved w flight) w.duplicates snd_nxt else w) (if b then begun (halved w flight) w.duplicates snd_nxt else w).ssthresh snd_nxt
begins w flight snd_nxt true e = record { threshold = refl; recover = refl; going = refl }
begins w flight snd_nxt false e = absurd (cc)

partial : (v x : Window) (acked snd_una flight ssthresh snd_nxt : ℕ) (b before : Bool) → v.is_recovering ≡ b → nat_lt snd_una v.recover ≡ before
    → snd_una < snd_nxt → IsRepaired v ssthresh snd_nxt
    → IsRepaired (if b then (if before then deflated (with_progress v acked) acked else recovered (with_progress v acked) flight) else x) ssthresh snd_nxt
partial v x acked snd_una flight ssthresh snd_nxt false before e f short h = let g = h.going in absurd (cc)
partial v x acked snd_una flight ssthresh snd_nxt true true e f short h = record { threshold = h.threshold; recover = h.recover; going = e }
partial v x acked snd_una flight ssthresh snd_nxt true false e f short h = let r = h.recover in absurd (grind (arith, nat_tests, f, short, r))

inflating : (v x : Window) (ssthresh snd_nxt : ℕ) (b : Bool) → v.is_recovering ≡ b → IsRepaired v ssthresh snd_nxt
    → IsRepaired (if b then inflated v else x) ssthresh snd_nxt
inflating v x ssthresh snd_nxt true e h = record { threshold = h.threshold; recover = h.recover; going = e }
inflating v x ssthresh snd_nxt false e h = let g = h.going in absurd (cc)

not-new : (v x : Window) (c : Bool) (ssthresh snd_nxt : ℕ) (b : Bool) → v.is_recovering ≡ b → IsRepaired v ssthresh snd_nxt
    → IsRepaired (if (if b then false else c) then x else v) ssthresh snd_nxt
not-new v x c ssthresh snd_nxt true e h = h
not-new v x c ssthresh snd_nxt false e h = let g = h.going in absurd (cc)

delivering : (v x : Window) (ssthresh snd_nxt : ℕ) (b : Bool) → v.is_recovering ≡ b → IsRepaired v ssthresh snd_nxt
    → IsRepaired (if b then v else x) ssthresh snd_nxt
delivering v x ssthresh snd_nxt true e h = h
delivering v x ssthresh snd_nxt false e h = let g = h.going in absurd (cc)

piping : (v : Window) (cwnd ssthresh snd_nxt : ℕ) (b : Bool) → IsRepaired v ssthresh snd_nxt
    → IsRepaired (if b then record v { cwnd = cwnd } else v) ssthresh snd_nxt
piping v cwnd ssthresh snd_nxt true h = record { threshold = h.threshold; recover = h.recover; going = h.going }
piping v cwnd ssthresh snd_nxt false h = h

repairs : (v : Window) (ssthresh snd_nxt : ℕ) (event : Event) → IsShortOf snd_nxt event → IsRepaired v ssthresh snd_nxt
    → IsRepaired (after_event v event) ssthresh snd_nxt
repairs v ssthresh snd_nxt (Acknowledges acked snd_una flight) short h =
    partial v _ acked snd_una flight ssthresh snd_nxt v.is_recovering (nat_lt snd_una v.recover) refl refl short h
repairs v ssthresh snd_nxt (Duplicates snd_una flight snd_nxt') short h = inflating v _ ssthresh snd_nxt v.is_recovering refl h
repairs v ssthresh snd_nxt Reports short h = inflating v _ ssthresh snd_nxt v.is_recovering refl h
repairs v ssthresh snd_nxt (Loses snd_una flight snd_nxt') short h = not-new v _ (nat_le v.recover snd_una) ssthresh snd_nxt v.is_recovering refl h
repairs v ssthresh snd_nxt (Delivers count flight) short h = delivering v _ ssthresh snd_nxt v.is_recovering refl h
repairs v ssthresh snd_nxt Finds short h = record { threshold = h.threshold; recover = h.recover; going = h.going }
repairs v ssthresh snd_nxt (Pipes reported) short h = piping v (min max_window (v.ssthresh + reported)) ssthresh snd_nxt (has_pipe v reported) h
repairs v ssthresh snd_nxt (Measures trip snd_una snd_nxt') short h = delivering v _ ssthresh snd_nxt v.is_recovering refl h

all-repair : (v : Window) (ssthresh snd_nxt : ℕ) (events : List Event) → AllShortOf snd_nxt events → IsRepaired v ssthresh snd_nxt
    → IsRepaired (after_events v events) ssthresh snd_nxt
all-repair v ssthresh snd_nxt [] short h = h
all-repair v ssthresh snd_nxt (event ∷ earlier) short h =
    repairs (after_events v earlier) ssthresh snd_nxt event (short.0) (all-repair v ssthresh snd_nxt earlier (short.1) h)

pub one_lem : OneLossAWindow
one_lem w snd_una flight snd_nxt is = record {
  found = λ e. found-by w flight snd_nxt (is_new_loss w snd_una) e is.duplicates;
  new = new-by w snd_una w.is_recovering;
  kept = kept-by w _ (is_new_loss w snd_una);
  once = λ events e short.
      (all-repair (after_loss w snd_una flight snd_nxt) (after_loss w snd_una flight snd_nxt).ssthresh snd_nxt events short
      (begins w flight snd_nxt (is_new_loss w snd_una) e)).threshold;
}
