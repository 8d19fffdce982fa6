-- How CUBIC's window grows and shrinks.
use Rattle.std.proofs.Common.{◌≡◌, ℕ, ◌+◌, ◌-◌, ◌*◌, ◌/◌, ◌%◌, ◌<◌, ◌≤◌, Bool, true, false, List, [], ◌∷◌, arith, refl}
use Rattle.std.specs.Prelude.{min, max, nat_le, nat_lt, if◌then◌else◌}
use Rattle.std.proofs.Math.Nat.{div-le_of_le-mul}
use Rattle.std.proofs.lemmas.Nat.{mul-le}
use Rattle.std.proofs.lemmas.Bool.Decides.{nat_tests}
use Rattle.tcp_congestion.proofs.Longer.{started-le}
use Rattle.tcp_congestion.specs.Sizes.{latest, max_window}
use Rattle.tcp_congestion.specs.Reno.{Window, begins_recovery, counted, deflated, has_pipe, inflated, is_new_loss, is_third, is_used, recovered, slow_started, started_by, with_progress}
use Rattle.tcp_congestion.specs.Cubic.{CubicWindow, IsCubic, parts, after_loss, approached, after_growth, avoided, befriended, est_rate, estimated, grown, in_stage, is_friendly, recovering, reduced, stage_begun, target_of, timed}
use Rattle.tcp_congestion.specs.CubicGrowth.{TimedAcknowledgement, CubicEvent, Acknowledges, Duplicates, Reports, Loses, Finds, Pipes, Measures, AllShortOf, CubicGrowsByHalf, CubicGrowthIsAcknowledged, CubicIsFriendly, CubicLossShrinks, CubicOneLossAWindow, IsShortOf, after_acks, after_event, after_events, total as total_of, reached}

-- the window and W_est, in parts of a byte, are within a bound
record IsWithin (v : CubicWindow) (bound : ℕ) : Type 0 where
  wide : v.window.cwnd * parts + v.rest ≤ bound
  est : (if v.is_begun then v.w_est else 0) ≤ bound

-- each within its own, where a stage goes on
record IsBegunWithin (v : CubicWindow) (widest most : ℕ) : Type 0 where
  wide : v.window.cwnd * parts + v.rest ≤ widest
  est : v.w_est ≤ most
  goes : v.is_begun ≡ true

-- what congestion avoidance leaves as it is, and that the window doesn't fall
record IsKept (w v : Window) : Type 0 where
  smss : v.smss ≡ w.smss
  threshold : v.ssthresh ≡ w.ssthresh
  open_still : v.is_recovering ≡ w.is_recovering
  least : w.cwnd ≤ v.cwnd

-- ---- a stage
est-in : (v : CubicWindow) (b : Bool) (bound : ℕ) → b ≡ true → (if b then v.w_est else 0) ≤ bound → v.w_est ≤ bound
est-in v true bound e h = h
est-in v false bound e h = absurd (cc)

staged-by : (v : CubicWindow) (now bound : ℕ) (b : Bool) → v.is_begun ≡ b → IsWithin v bound → IsBegunWithin (if b then v else stage_begun v now) bound bound
staged-by v now bound true e h = record { wide = h.wide; est = est-in v v.is_begun bound e h.est; goes = e }
staged-by v now bound false e h = let w = h.wide in record { wide = omega (arith, w); est = omega (arith, w); goes = refl }

-- ---- W_est
rate-by : (smss cwnd prior est : ℕ) (b : Bool) → 2 * smss ≤ cwnd → (if b then smss * parts / cwnd else 9 * smss * parts / (17 * cwnd)) ≤ 4194304
rate-by smss cwnd prior est true h = div-le_of_le-mul cwnd (omega (arith, h))
rate-by smss cwnd prior est false h = div-le_of_le-mul (17 * cwnd) (omega (arith, h))

more-by : (rate acked cwnd : ℕ) → rate ≤ 4194304 → rate * min acked cwnd ≤ acked * 4194304
more-by rate acked cwnd h =
    let m : rate * min acked cwnd ≤ 4194304 * acked = mul-le rate (min acked cwnd) 4194304 acked h (omega arith) in omega (arith, m)

with-est : (v : CubicWindow) (now acked bound : ℕ) → 2 * v.window.smss ≤ v.window.cwnd → IsBegunWithin v bound bound
    → IsBegunWithin (estimated (timed v now) acked) bound (bound + acked * 4194304)
with-est v now acked bound two h =
    let r : est_rate v ≤ 4194304 = rate-by v.window.smss v.window.cwnd v.cwnd_prior v.w_est (nat_le (v.cwnd_prior * parts) v.w_est) two in
    let m : est_rate v * min acked v.window.cwnd ≤ acked * 4194304 = more-by (est_rate v) acked v.window.cwnd r in
    let w = h.wide in
    let e = h.est in
    record { wide = w; est = omega (arith, e, m); goes = h.goes }

-- ---- the window
by-target : (cwnd target : ℕ) → target ≤ cwnd + cwnd / 2 → (target - cwnd) * parts / cwnd ≤ 4194304
by-target cwnd target h = div-le_of_le-mul cwnd (omega (arith, h))

widest : (v : CubicWindow) (all bound : ℕ) → v.window.cwnd * parts + all ≤ bound
    → min max_window (v.window.cwnd + all / parts) * parts + all % parts ≤ bound
widest v all bound h = omega (arith, h)

approaches : (v : CubicWindow) (acked t bound : ℕ) → IsBegunWithin v bound (bound + acked * 4194304)
    → IsBegunWithin (approached v acked t) (bound + acked * 4194304) (bound + acked * 4194304)
approaches v acked t bound h =
    let x : (target_of v t - v.window.cwnd) * parts / v.window.cwnd ≤ 4194304 = by-target v.window.cwnd (target_of v t) (omega arith) in
    let m = more-by ((target_of v t - v.window.cwnd) * parts / v.window.cwnd) acked v.window.cwnd x in
    let w = h.wide in
    record {
      wide = widest v (v.rest + (target_of v t - v.window.cwnd) * parts / v.window.cwnd * min acked v.window.cwnd) (bound + acked * 4194304) (omega (arith, w, m));
      est = h.est;
      goes = h.goes;
    }

befriends-by : (v : CubicWindow) (bound more : ℕ) (b : Bool) → IsBegunWithin v bound (bound + more)
    → IsBegunWithin (if b then record v { window = record v.window { cwnd = v.w_est / parts }; rest = v.w_est % parts } else v) (bound + more) (bound + more)
befriends-by v bound more true h = let e = h.est in record { wide = omega (arith, e); est = e; goes = h.goes }
befriends-by v bound more false h = let w = h.wide in record { wide = omega (arith, w); est = h.est; goes = h.goes }

avoids-by : (v : CubicWindow) (acked rtt bound : ℕ) (b : Bool) → IsBegunWithin v bound (bound + acked * 4194304)
    → IsBegunWithin (if b then befriended v else approached v acked (min latest (v.t + rtt))) (bound + acked * 4194304) (bound + acked * 4194304)
avoids-by v acked rtt bound true h = befriends-by v bound (acked * 4194304) (nat_lt v.window.cwnd (v.w_est / parts)) h
avoids-by v acked rtt bound false h = approaches v acked (min latest (v.t + rtt)) bound h

-- ---- a step of congestion avoidance
record Grows (w : Window) (v : CubicWindow) (bound : ℕ) : Type 0 where
  within : IsWithin v bound
  kept : IsKept w v.window
  most : v.window.cwnd ≤ max_window

no-more : (est : ℕ) (b : Bool) → (if b then est else 0) ≤ est
no-more est true = omega arith
no-more est false = omega arith

loosely : (v : CubicWindow) (bound : ℕ) → IsBegunWithin v bound bound → IsWithin v bound
loosely v bound h =
    let e = h.est in let n = no-more v.w_est v.is_begun in record { wide = h.wide; est = omega (arith, e, n) }

befriend-keeps : (v : CubicWindow) (b : Bool) → nat_lt v.window.cwnd (v.w_est / parts) ≡ b
    → IsKept v.window (if b then record v { window = record v.window { cwnd = v.w_est / parts }; rest = v.w_est % parts } else v).window
befriend-keeps v true e = record { smss = refl; threshold = refl; open_still = refl; least = grind (arith, nat_tests, e) }
befriend-keeps v false e = record { smss = refl; threshold = refl; open_still = refl; least = omega arith }

befriend-most : (v : CubicWindow) (b : Bool) → v.window.cwnd ≤ max_window → v.w_est ≤ max_window * parts
    → (if b then record v { window = record v.window { cwnd = v.w_est / parts }; rest = v.w_est % parts } else v).window.cwnd ≤ max_window
befriend-most v true h e = omega (arith, e)
befriend-most v false h e = h

avoid-keeps : (v : CubicWindow) (acked t : ℕ) (b : Bool) → v.window.cwnd ≤ max_window
    → IsKept v.window (if b then befriended v else approached v acked t).window
avoid-keeps v acked t true h = befriend-keeps v (nat_lt v.window.cwnd (v.w_est / parts)) refl
avoid-keeps v acked t false h = record { smss = refl; threshold = refl; open_still = refl; least = omega (arith, h) }

avoid-most : (v : CubicWindow) (acked t : ℕ) (b : Bool) → v.window.cwnd ≤ max_window → v.w_est ≤ max_window * parts
    → (if b then befriended v else approached v acked t).window.cwnd ≤ max_window
avoid-most v acked t true h e = befriend-most v (nat_lt v.window.cwnd (v.w_est / parts)) h e
avoid-most v acked t false h e = omega arith

-- what is in a stage, which has just begun or not
avoid-in : (v : CubicWindow) (acked now rtt bound : ℕ) → 2 * v.window.smss ≤ v.window.cwnd → v.window.cwnd ≤ max_window → IsBegunWithin v bound bound
    → Grows v.window (avoided (estimated (timed v now) acked) acked rtt) (bound + acked * 4194304)
avoid-in v acked now rtt bound two most h =
    let e = estimated (timed v now) acked in
    record {
      within = loosely (avoided e acked rtt) (bound + acked * 4194304)
          (avoids-by e acked rtt bound (is_friendly e) (with-est v now acked bound two h));
      kept = avoid-keeps e acked (min latest (e.t + rtt)) (is_friendly e) most;
      most = avoid-most e acked (min latest (e.t + rtt)) (is_friendly e) most (omega arith);
    }

avoid-by : (v : CubicWindow) (acked now rtt bound : ℕ) (b : Bool) → v.is_begun ≡ b → 2 * v.window.smss ≤ v.window.cwnd → v.window.cwnd ≤ max_window
    → IsWithin v bound
    → Grows v.window (avoided (estimated (timed (if b then v else stage_begun v now) now) acked) acked rtt) (bound + acked * 4194304)
avoid-by v acked now rtt bound true e two most h = avoid-in v acked now rtt bound two most (staged-by v now bound true e h)
avoid-by v acked now rtt bound false e two most h = avoid-in (stage_begun v now) acked now rtt bound two most (staged-by v now bound false e h)

-- ---- an acknowledgement, which lets the window grow by `each` parts a byte
wider : (w : Window) (v : CubicWindow) (bound more : ℕ) → bound ≤ more → Grows w v bound → Grows w v more
wider w v bound more le h =
    let wide = h.within.wide in
    let est = h.within.est in
    record { within = record { wide = omega (arith, wide, le); est = omega (arith, est, le) }; kept = h.kept; most = h.most }

since : (w u : Window) (v : CubicWindow) (bound : ℕ) → IsKept w u → Grows u v bound → Grows w v bound
since w u v bound k h =
    let s = k.smss in
    let t = k.threshold in
    let o = k.open_still in
    let l = k.least in
    let s' = h.kept.smss in
    let t' = h.kept.threshold in
    let o' = h.kept.open_still in
    let l' = h.kept.least in
    record { within = h.within; kept = record { smss = cc; threshold = cc; open_still = cc; least = omega (arith, l, l') }; most = h.most }

slow : (w : Window) (v : CubicWindow) (acked bound : ℕ) → Grows w v bound
    → Grows w (record v { window = slow_started v.window acked }) (bound + acked * 8388608)
slow w v acked bound h =
    let wide = h.within.wide in
    let est = h.within.est in
    let l = h.kept.least in
    let m = h.most in
    let s : started_by v.window acked ≤ acked = started-le v.window acked in
    record {
      within = record { wide = omega (arith, wide, s); est = omega (arith, est) };
      kept = record { smss = h.kept.smss; threshold = h.kept.threshold; open_still = h.kept.open_still; least = omega (arith, l, m) };
      most = omega arith;
    }

grow-by : (w : Window) (v : CubicWindow) (acked now rtt bound each : ℕ) (b : Bool) → nat_le v.window.cwnd v.window.ssthresh ≡ b
    → 2 * w.smss ≤ w.ssthresh → 4194304 ≤ each → (b ≡ true → 8388608 ≤ each) → Grows w v bound
    → Grows w (if b then record v { window = slow_started v.window acked } else avoided (estimated (timed (in_stage v now) now) acked) acked rtt)
    (bound + acked * each)
grow-by w v acked now rtt bound each true e two least more h =
    let m : acked * 8388608 ≤ acked * each = mul-le acked 8388608 acked each (omega arith) (more refl) in
    wider w (record v { window = slow_started v.window acked }) (bound + acked * 8388608) (bound + acked * each) (omega (arith, m)) (slow w v acked bound h)
grow-by w v acked now rtt bound each false e two least more h =
    let m : acked * 4194304 ≤ acked * each = mul-le acked 4194304 acked each (omega arith) least in
    let past : v.window.ssthresh < v.window.cwnd = grind (arith, nat_tests, e) in
    let s = h.kept.smss in
    let t = h.kept.threshold in
    let enough : 2 * v.window.smss ≤ v.window.cwnd = omega (arith, two, past, s, t) in
    wider w (avoided (estimated (timed (in_stage v now) now) acked) acked rtt) (bound + acked * 4194304) (bound + acked * each) (omega (arith, m))
    (since w v.window (avoided (estimated (timed (in_stage v now) now) acked) acked rtt) (bound + acked * 4194304) h.kept
    (avoid-by v acked now rtt bound v.is_begun refl enough h.most h.within))

use-by : (w : Window) (v : CubicWindow) (acked now rtt bound each : ℕ) (b : Bool) → 2 * w.smss ≤ w.ssthresh → 4194304 ≤ each
    → (nat_le v.window.cwnd v.window.ssthresh ≡ true → 8388608 ≤ each) → Grows w v bound
    → Grows w (if b then grown v acked now rtt else record v { counted = now }) (bound + acked * each)
use-by w v acked now rtt bound each true two least more h =
    grow-by w v acked now rtt bound each (nat_le v.window.cwnd v.window.ssthresh) refl two least more h
use-by w v acked now rtt bound each false two least more h =
    wider w (record v { counted = now }) bound (bound + acked * each) (omega arith)
    (record { within = record { wide = h.within.wide; est = h.within.est }; kept = h.kept; most = h.most })

-- an acknowledgement is one of growth where fast recovery doesn't go on, and so is one by blocks
by-blocks : (P : CubicWindow → Type 0) (v x y z : CubicWindow) (by_blocks b : Bool) → b ≡ false → P z → P y
    → P (if by_blocks then (if b then v else z) else (if b then x else y))
by-blocks P v x y z by_blocks true e h i = absurd (cc)
by-blocks P v x y z true false e h i = h
by-blocks P v x y z false false e h i = i

-- ---- over many
abbrev start : CubicWindow → ℕ
start c = max (c.window.cwnd * parts + c.rest) (if c.is_begun then c.w_est else 0)

at-threshold : (cwnd here there : ℕ) → here ≡ there → nat_le cwnd here ≡ true → nat_le cwnd there ≡ true
at-threshold cwnd here there same e = cc

grew : (c : CubicWindow) (each : ℕ) → IsCubic c → c.window.is_recovering ≡ false → 4194304 ≤ each
    → ((cwnd : ℕ) → c.window.cwnd ≤ cwnd → nat_le cwnd c.window.ssthresh ≡ true → 8388608 ≤ each)
    → (acks : List TimedAcknowledgement) → Grows c.window (after_acks c acks) (start c + total_of acks * each)
grew c each is calm least more [] = record {
  within = record { wide = omega arith; est = omega arith };
  kept = record { smss = refl; threshold = refl; open_still = refl; least = omega arith };
  most = is.window.most;
}
grew c each is calm least more (ack ∷ earlier) =
    let v = after_acks c earlier in
    let h : Grows c.window v (start c + total_of earlier * each) = grew c each is calm least more earlier in
    let p : CubicWindow = record v { window = with_progress v.window ack.acked } in
    let k : Grows c.window p (start c + total_of earlier * each) = record {
      within = record { wide = h.within.wide; est = h.within.est };
      kept = record { smss = h.kept.smss; threshold = h.kept.threshold; open_still = h.kept.open_still; least = h.kept.least };
      most = h.most;
    } in
    let t = h.kept.threshold in
    let o = h.kept.open_still in
    let two = is.window.threshold in
    let shut : v.window.is_recovering ≡ false = cc in
    let one : Grows c.window (after_growth p ack.acked ack.flight ack.now ack.rtt) ((start c + total_of earlier * each) + ack.acked * each) =
    use-by c.window p ack.acked ack.now ack.rtt (start c + total_of earlier * each) each (is_used p.window ack.acked ack.flight) two least
    (λ e. more v.window.cwnd h.kept.least (at-threshold v.window.cwnd v.window.ssthresh c.window.ssthresh t e)) k in
    let sum : (start c + total_of earlier * each) + ack.acked * each ≤ start c + (ack.acked + total_of earlier) * each = omega arith in
    let other : Grows c.window (after_growth v ack.acked (ack.flight - ack.acked) ack.now ack.rtt) ((start c + total_of earlier * each) + ack.acked * each) =
    use-by c.window v ack.acked ack.now ack.rtt (start c + total_of earlier * each) each (is_used v.window ack.acked (ack.flight - ack.acked)) two least
    (λ e. more v.window.cwnd h.kept.least (at-threshold v.window.cwnd v.window.ssthresh c.window.ssthresh t e)) h in
    by-blocks (λ u. Grows c.window u (start c + (ack.acked + total_of earlier) * each)) v _ _ _ ack.by_blocks v.window.is_recovering shut
    (wider c.window (after_growth v ack.acked (ack.flight - ack.acked) ack.now ack.rtt) ((start c + total_of earlier * each) + ack.acked * each)
    (start c + (ack.acked + total_of earlier) * each) sum other)
    (wider c.window (after_growth p ack.acked ack.flight ack.now ack.rtt) ((start c + total_of earlier * each) + ack.acked * each)
    (start c + (ack.acked + total_of earlier) * each) sum one)

start-by : (cwnd rest est : ℕ) (b : Bool) → rest < parts
    → max (cwnd * parts + rest) (if b then est else 0) ≤ (max cwnd (if b then est / parts else 0) + 1) * parts
start-by cwnd rest est true h = omega (arith, h)
start-by cwnd rest est false h = omega (arith, h)

pub half_lem : CubicGrowsByHalf
half_lem c acks is calm past =
    let h = grew c 4194304 is calm (omega arith) (λ cwnd le e. absurd (grind (arith, nat_tests, e, le, past))) acks in
    let w = h.within.wide in
    let s : start c ≤ (reached c + 1) * parts = start-by c.window.cwnd c.rest c.w_est c.is_begun is.rest in
    omega (arith, w, s)

pub acknowledged_lem : CubicGrowthIsAcknowledged
acknowledged_lem c acks is calm =
    let h = grew c 8388608 is calm (omega arith) (λ cwnd le e. omega arith) acks in
    let w = h.within.wide in
    let s : start c ≤ (reached c + 1) * parts = start-by c.window.cwnd c.rest c.w_est c.is_begun is.rest in
    omega (arith, w, s)

-- ---- a loss
third : (c : CubicWindow) (flight snd_nxt : ℕ) (b : Bool) → b ≡ true
    → (if b then recovering (reduced c flight) 3 snd_nxt else record c { window = if c.window.is_recovering then inflated c.window else counted c.window }).window.cwnd
    ≤ max (flight * 7 / 10) (2 * c.window.smss) + 3 * c.window.smss
third c flight snd_nxt true e = omega arith
third c flight snd_nxt false e = absurd (cc)

found : (c : CubicWindow) (flight snd_nxt : ℕ) (b : Bool) → b ≡ true → c.window.duplicates ≤ 3
    → (if b then recovering (reduced c flight) c.window.duplicates snd_nxt else c).window.cwnd ≤ max (flight * 7 / 10) (2 * c.window.smss) + 3 * c.window.smss
found c flight snd_nxt true e few =
    let m : c.window.duplicates * c.window.smss ≤ 3 * c.window.smss = mul-le c.window.duplicates c.window.smss 3 c.window.smss few (omega arith) in
    omega (arith, m)
found c flight snd_nxt false e few = absurd (cc)

held : (c x : CubicWindow) (b : Bool) → b ≡ false → (if b then x else c) ≡ c
held c x true e = absurd (cc)
held c x false e = refl

new-by : (w : Window) (snd_una : ℕ) (b : Bool) → (if b then false else nat_le w.recover snd_una) ≡ true → w.recover ≤ snd_una
new-by w snd_una true e = absurd (cc)
new-by w snd_una false e = grind (arith, nat_tests, e)

full : (c x : CubicWindow) (acked snd_una flight : ℕ) (b before : Bool) → b ≡ true → nat_lt snd_una c.window.recover ≡ before → c.window.recover ≤ snd_una
    → (if b then record c { window = if before then deflated (with_progress c.window acked) acked else recovered (with_progress c.window acked) flight }
    else x).window.cwnd
    ≤ c.window.ssthresh
full c x acked snd_una flight false before going e h = absurd (cc)
full c x acked snd_una flight true true going e h = absurd (grind (arith, nat_tests, e, h))
full c x acked snd_una flight true false going e h = omega arith

restarts : (c x y : CubicWindow) (b : Bool) → x.window.cwnd ≡ c.window.smss → y.window.cwnd ≡ c.window.smss → (if b then x else y).window.cwnd ≡ c.window.smss
restarts c x y true e f = e
restarts c x y false e f = f

not-raised : (c x y : CubicWindow) (timed_out recovering : Bool) (ssthresh : ℕ) → x.window.ssthresh ≡ c.window.ssthresh
    → y.window.ssthresh ≡ (if recovering then min ssthresh c.window.ssthresh else ssthresh) → recovering ≡ true
    → (if timed_out then x else y).window.ssthresh ≤ c.window.ssthresh
not-raised c x y true b ssthresh is new e = omega (arith, is)
not-raised c x y false true ssthresh is new e = omega (arith, new)
not-raised c x y false false ssthresh is new e = absurd (cc)

pub shrinks_lem : CubicLossShrinks
shrinks_lem c snd_una flight snd_nxt is = record {
  third = third c flight snd_nxt (begins_recovery c.window snd_una);
  found = λ e. found c flight snd_nxt (is_new_loss c.window snd_una) e is.window.duplicates;
  once = held c _ (is_new_loss c.window snd_una);
  new = new-by c.window snd_una c.window.is_recovering;
  full = λ acked now rtt going h. full c _ acked snd_una flight c.window.is_recovering (nat_lt snd_una c.window.recover) going refl h;
  timeout = restarts c _ _ c.window.is_timed_out refl refl;
  threshold = not-raised c _ _ c.window.is_timed_out c.window.is_recovering (reduced c flight).window.ssthresh refl refl;
}

-- ---- W_est
friend-by : (v : CubicWindow) (b : Bool) → nat_lt v.window.cwnd (v.w_est / parts) ≡ b
    → (if b then record v { window = record v.window { cwnd = v.w_est / parts }; rest = v.w_est % parts } else v).w_est / parts
    ≤ (if b then record v { window = record v.window { cwnd = v.w_est / parts }; rest = v.w_est % parts } else v).window.cwnd
friend-by v true e = omega arith
friend-by v false e = grind (arith, nat_tests, e)

friend-in : (v : CubicWindow) (acked t : ℕ) (b : Bool) → is_friendly v ≡ b → is_friendly (if b then befriended v else approached v acked t) ≡ true
    → (if b then befriended v else approached v acked t).w_est / parts ≤ (if b then befriended v else approached v acked t).window.cwnd
friend-in v acked t true e f = friend-by v (nat_lt v.window.cwnd (v.w_est / parts)) refl
friend-in v acked t false e f = absurd (cc)

friend-grown : (v : CubicWindow) (acked now rtt : ℕ) (b : Bool) → nat_le v.window.cwnd v.window.ssthresh ≡ b → v.window.ssthresh < v.window.cwnd
    → is_friendly (if b then record v { window = slow_started v.window acked } else avoided (estimated (timed (in_stage v now) now) acked) acked rtt) ≡ true
    → (if b then record v { window = slow_started v.window acked } else avoided (estimated (timed (in_stage v now) now) acked) acked rtt).w_est / parts
    ≤ (if b then record v { window = slow_started v.window acked } else avoided (estimated (timed (in_stage v now) now) acked) acked rtt).window.cwnd
friend-grown v acked now rtt true e past f = absurd (grind (arith, nat_tests, e, past))
friend-grown v acked now rtt false e past f =
    let u = estimated (timed (in_stage v now) now) acked in friend-in u acked (min latest (u.t + rtt)) (is_friendly u) refl f

-- where neither a recovery nor an unused window is in the way
taken : (P : CubicWindow → Type 0) (x y z : CubicWindow) (b u : Bool) → b ≡ false → u ≡ true → P y → P (if b then x else (if u then y else z))
taken P x y z true u e f h = absurd (cc)
taken P x y z false true e f h = h
taken P x y z false false e f h = absurd (cc)

pub friendly_lem : CubicIsFriendly
friendly_lem c acked snd_una flight now rtt calm used past =
    let p : CubicWindow = record c { window = with_progress c.window acked } in
    taken (λ v. is_friendly v ≡ true → v.w_est / parts ≤ v.window.cwnd) _ (grown p acked now rtt) _ c.window.is_recovering (is_used c.window acked flight) calm used
    (friend-grown p acked now rtt (nat_le p.window.cwnd p.window.ssthresh) refl past)

-- ---- one loss a window: the recovery goes on
record IsRepaired (v : CubicWindow) (ssthresh w_max snd_nxt : ℕ) : Type 0 where
  threshold : v.window.ssthresh ≡ ssthresh
  most : v.w_max ≡ w_max
  recover : v.window.recover ≡ snd_nxt
  going : v.window.is_recovering ≡ true

begins : (c : CubicWindow) (flight snd_nxt : ℕ) (b : Bool) → b ≡ true
    → IsRepaired (if b then recovering (reduced c flight) c.window.duplicates snd_nxt else c)
    (if b then recovering (reduced c flight) c.window.duplicates snd_nxt else c).window.ssthresh
    (if b then recovering (reduced c flight) c.window.duplicates snd_nxt else c).w_max snd_nxt
begins c flight snd_nxt true e = record { threshold = refl; most = refl; recover = refl; going = refl }
begins c flight snd_nxt false e = absurd (cc)

partial : (v x : CubicWindow) (acked snd_una flight ssthresh w_max snd_nxt : ℕ) (b before : Bool) → v.window.is_recovering ≡ b
    → nat_lt snd_una v.window.recover ≡ before → snd_una < snd_nxt → IsRepaired v ssthresh w_max snd_nxt
    → IsRepaired (if b
    then record v { window = if before then deflated (with_progress v.window acked) acked else recovered (with_progress v.window acked) flight }
    else x) ssthresh w_max snd_nxt
partial v x acked snd_una flight ssthresh w_max snd_nxt false before e f short h = let g = h.going in absurd (cc)
partial v x acked snd_una flight ssthresh w_max snd_nxt true true e f short h =
    record { threshold = h.threshold; most = h.most; recover = h.recover; going = e }
partial v x acked snd_una flight ssthresh w_max snd_nxt true false e f short h = let r = h.recover in absurd (grind (arith, nat_tests, f, short, r))

reporting : (v : CubicWindow) (ssthresh w_max snd_nxt : ℕ) (b : Bool) → v.window.is_recovering ≡ b → IsRepaired v ssthresh w_max snd_nxt
    → IsRepaired (record v { window = if b then inflated v.window else counted v.window }) ssthresh w_max snd_nxt
reporting v ssthresh w_max snd_nxt true e h = record { threshold = h.threshold; most = h.most; recover = h.recover; going = e }
reporting v ssthresh w_max snd_nxt false e h = let g = h.going in absurd (cc)

duplicating : (v x : CubicWindow) (third : Bool) (ssthresh w_max snd_nxt : ℕ) (b : Bool) → v.window.is_recovering ≡ b → IsRepaired v ssthresh w_max snd_nxt
    → IsRepaired (if (if b then false else third) then x else record v { window = if b then inflated v.window else counted v.window }) ssthresh w_max snd_nxt
duplicating v x third ssthresh w_max snd_nxt true e h = record { threshold = h.threshold; most = h.most; recover = h.recover; going = e }
duplicating v x third ssthresh w_max snd_nxt false e h = let g = h.going in absurd (cc)

not-new : (v x : CubicWindow) (past : Bool) (ssthresh w_max snd_nxt : ℕ) (b : Bool) → v.window.is_recovering ≡ b → IsRepaired v ssthresh w_max snd_nxt
    → IsRepaired (if (if b then false else past) then x else v) ssthresh w_max snd_nxt
not-new v x past ssthresh w_max snd_nxt true e h = h
not-new v x past ssthresh w_max snd_nxt false e h = let g = h.going in absurd (cc)

acking : (v x y z : CubicWindow) (by_blocks : Bool) (ssthresh w_max snd_nxt : ℕ) (b : Bool) → v.window.is_recovering ≡ b → IsRepaired v ssthresh w_max snd_nxt
    → IsRepaired (if b then x else y) ssthresh w_max snd_nxt
    → IsRepaired (if by_blocks then (if b then v else z) else (if b then x else y)) ssthresh w_max snd_nxt
acking v x y z true ssthresh w_max snd_nxt true e h i = h
acking v x y z true ssthresh w_max snd_nxt false e h i = let g = h.going in absurd (cc)
acking v x y z false ssthresh w_max snd_nxt b e h i = i

piping : (v : CubicWindow) (cwnd ssthresh w_max snd_nxt : ℕ) (b : Bool) → IsRepaired v ssthresh w_max snd_nxt
    → IsRepaired (record v { window = if b then record v.window { cwnd = cwnd } else v.window }) ssthresh w_max snd_nxt
piping v cwnd ssthresh w_max snd_nxt true h = record { threshold = h.threshold; most = h.most; recover = h.recover; going = h.going }
piping v cwnd ssthresh w_max snd_nxt false h = record { threshold = h.threshold; most = h.most; recover = h.recover; going = h.going }

measuring : (v : CubicWindow) (x : Window) (ssthresh w_max snd_nxt : ℕ) (b : Bool) → v.window.is_recovering ≡ b → IsRepaired v ssthresh w_max snd_nxt
    → IsRepaired (record v { window = if b then v.window else x }) ssthresh w_max snd_nxt
measuring v x ssthresh w_max snd_nxt true e h = record { threshold = h.threshold; most = h.most; recover = h.recover; going = h.going }
measuring v x ssthresh w_max snd_nxt false e h = let g = h.going in absurd (cc)

repairs : (v : CubicWindow) (ssthresh w_max snd_nxt : ℕ) (event : CubicEvent) → IsShortOf snd_nxt event → IsRepaired v ssthresh w_max snd_nxt
    → IsRepaired (after_event v event) ssthresh w_max snd_nxt
repairs v ssthresh w_max snd_nxt (Acknowledges ack) short h =
    acking v _ _ _ ack.by_blocks ssthresh w_max snd_nxt v.window.is_recovering refl h
    (partial v _ ack.acked ack.snd_una ack.flight ssthresh w_max snd_nxt v.window.is_recovering (nat_lt ack.snd_una v.window.recover) refl refl short h)
repairs v ssthresh w_max snd_nxt (Duplicates snd_una flight nxt) short h =
    duplicating v _ (is_third v.window snd_una) ssthresh w_max snd_nxt v.window.is_recovering refl h
repairs v ssthresh w_max snd_nxt Reports short h = reporting v ssthresh w_max snd_nxt v.window.is_recovering refl h
repairs v ssthresh w_max snd_nxt (Loses snd_una flight nxt) short h =
    not-new v _ (nat_le v.window.recover snd_una) ssthresh w_max snd_nxt v.window.is_recovering refl h
repairs v ssthresh w_max snd_nxt Finds short h = record { threshold = h.threshold; most = h.most; recover = h.recover; going = h.going }
repairs v ssthresh w_max snd_nxt (Pipes reported) short h =
    piping v (min max_window (v.window.ssthresh + reported)) ssthresh w_max snd_nxt (has_pipe v.window reported) h
repairs v ssthresh w_max snd_nxt (Measures trip snd_una nxt) short h = measuring v _ ssthresh w_max snd_nxt v.window.is_recovering refl h

all-repair : (v : CubicWindow) (ssthresh w_max snd_nxt : ℕ) (events : List CubicEvent) → AllShortOf snd_nxt events → IsRepaired v ssthresh w_max snd_nxt
    → IsRepaired (after_events v events) ssthresh w_max snd_nxt
all-repair v ssthresh w_max snd_nxt [] short h = h
all-repair v ssthresh w_max snd_nxt (event ∷ earlier) short h =
    repairs (after_events v earlier) ssthresh w_max snd_nxt event (short.0) (all-repair v ssthresh w_max snd_nxt earlier (short.1) h)

pub one_lem : CubicOneLossAWindow
one_lem c snd_una flight snd_nxt events e short =
    let h = all-repair (after_loss c snd_una flight snd_nxt) (after_loss c snd_una flight snd_nxt).window.ssthresh (after_loss c snd_una flight snd_nxt).w_max
    snd_nxt events short (begins c flight snd_nxt (is_new_loss c.window snd_una) e) in
    (h.threshold, h.most)
