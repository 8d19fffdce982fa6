-- Where the timers run as the end wants them already, and nothing was acknowledged, only time passes.
use Rattle.std.proofs.Common.{◌≡◌, ℕ, ◌+◌, ◌==◌, Bool, true, false, not, Option, Some, None, is_some, refl, sym, ap, ◌∙◌, arith}
use Rattle.std.specs.Prelude.{◌&&◌, ◌||◌, if◌then◌else◌, min}
use Rattle.tcp_driver.specs.declared.machine.Wants.{Wants}
use Rattle.tcp_driver.specs.Codes.{code_of, wanted_by}
use Rattle.tcp_driver.specs.Deadlines.{is_kept, kept, last}
use Rattle.tcp_driver.specs.Times.{Times, deadlines_after, followed, rests, span_after, stands, still, waits_on}

first : (a b : Bool) → (a && b) ≡ true → a ≡ true
first true b e = refl
first false b e = absurd (cc)

second : (a b : Bool) → (a && b) ≡ true → b ≡ true
second true b e = e
second false b e = absurd (cc)

wanted : (a b c d : Bool) → Wants
wanted a b c d = record { retransmit = a; reorder = b; time_wait = c; fin_wait_2 = d }

-- a code says what is wanted
back-of : (a b c d : Bool) → wanted_by (code_of (wanted a b c d)) ≡ wanted a b c d
unfolding wanted
back-of true true true true = refl
back-of true true true false = refl
back-of true true false true = refl
back-of true true false false = refl
back-of true false true true = refl
back-of true false true false = refl
back-of true false false true = refl
back-of true false false false = refl
back-of false true true true = refl
back-of false true true false = refl
back-of false true false true = refl
back-of false true false false = refl
back-of false false true true = refl
back-of false false true false = refl
back-of false false false true = refl
back-of false false false false = refl

back : (w : Wants) → wanted_by (code_of w) ≡ w
unfolding wanted
back w = back-of w.retransmit w.reorder w.time_wait w.fin_wait_2

not-zero : (w : Wants) → (code_of w == 0) ≡ false
not-zero w = grind arith

kept-same : (runs : Bool) (before : Option ℕ) (new : ℕ) → is_kept runs before ≡ true → kept runs true before new ≡ before
kept-same true (Some t) new e = refl
kept-same true None new e = absurd (cc)
kept-same false None new e = refl
kept-same false (Some t) new e = absurd (cc)

kept-some : (runs : Bool) (before : Option ℕ) → is_kept runs before ≡ true → is_some before ≡ runs
kept-some true (Some t) e = refl
kept-some true None e = absurd (cc)
kept-some false None e = refl
kept-some false (Some t) e = absurd (cc)

zero-if : (runs : Bool) (n : ℕ) (b : Bool) → (runs || (n == 0 && b)) ≡ true → (if runs && true then n else 0) ≡ n
zero-if true n b e = refl
zero-if false n b e = let z : (n == 0) ≡ true = first (n == 0) b e in sym (grind (arith, z))

no-if : (runs a b : Bool) → (runs || (a && not b)) ≡ true → still runs true b ≡ b
no-if true a true e = refl
no-if true a false e = refl
no-if false a false e = refl
no-if false a true e = absurd (cc (second a false e))

-- the times, by what following changes
built : Times → ℕ → Option ℕ → Option ℕ → Option ℕ → ℕ → Option ℕ → ℕ → Bool → Option ℕ → Times
built t now retransmit reorder time_wait una since resent restarted left = record t {
  deadlines = record { retransmit = retransmit; reorder = reorder; time_wait = time_wait };
  una = una;
  since = since;
  resent = resent;
  restarted = restarted;
  left = left;
  clock = now;
}

-- what following makes of them, by whether nothing was acknowledged
following : Times → Wants → ℕ → ℕ → Bool → Times
following t w una now same = record t {
  deadlines = deadlines_after t w same (span_after same t.limits.is_patient t.span t.estimate) now;
  una = una;
  since = kept w.retransmit same t.since now;
  resent = if w.retransmit && same then t.resent else 0;
  restarted = still w.retransmit same t.restarted;
  left = kept w.fin_wait_2 true t.left now;
  span = span_after same t.limits.is_patient t.span t.estimate;
  clock = now;
}

-- what stands, one by one
record Standing (t : Times) (w : Wants) (una : ℕ) : Type 0 where
  same : (una == t.una) ≡ true
  retransmit : is_kept w.retransmit t.deadlines.retransmit ≡ true
  since : is_kept w.retransmit t.since ≡ true
  rests : (w.retransmit || (t.resent == 0 && not t.restarted)) ≡ true
  reorder : is_kept w.reorder t.deadlines.reorder ≡ true
  time_wait : is_kept w.time_wait t.deadlines.time_wait ≡ true
  left : is_kept w.fin_wait_2 t.left ≡ true

standing : (t : Times) (w : Wants) (una : ℕ) → stands t w una ≡ true → Standing t w una
standing t w una e =
    let a = una == t.una in
    let r1 = is_kept w.retransmit t.deadlines.retransmit in
    let r2 = is_kept w.retransmit t.since in
    let r3 = w.retransmit || (t.resent == 0 && not t.restarted) in
    let o = is_kept w.reorder t.deadlines.reorder in
    let tw = is_kept w.time_wait t.deadlines.time_wait in
    let l = is_kept w.fin_wait_2 t.left in
    let rest = second a (waits_on t w.retransmit && (o && (tw && l))) e in
    let r = first (waits_on t w.retransmit) (o && (tw && l)) rest in
    let rest2 = second (waits_on t w.retransmit) (o && (tw && l)) rest in
    let rest3 = second o (tw && l) rest2 in
    record {
      same = first a (waits_on t w.retransmit && (o && (tw && l))) e;
      retransmit = first r1 (r2 && r3) r;
      since = first r2 r3 (second r1 (r2 && r3) r);
      rests = second r2 r3 (second r1 (r2 && r3) r);
      reorder = first o (tw && l) rest2;
      time_wait = first tw l rest3;
      left = second tw l rest3;
    }

same-una : (a b : ℕ) → (a == b) ≡ true → a ≡ b
same-una a b e = grind (arith, e)

pub followed_same : (t : Times) (w : Wants) (una now : ℕ) → stands t w una ≡ true → followed t w una now ≡ record t { clock = now }
unfolding following built
followed_same t w una now e =
    let s = standing t w una e in
    let rt = kept-same w.retransmit t.deadlines.retransmit (now + t.estimate.rto) s.retransmit in
    let ro = kept-same w.reorder t.deadlines.reorder (now + min t.estimate.rto t.span) s.reorder in
    let tw = kept-same w.time_wait t.deadlines.time_wait (now + min last t.limits.time_wait) s.time_wait in
    let d = t.deadlines in
    ap (following t w una now) s.same
    ∙ (ap (λ x. built t now x (kept w.reorder true d.reorder (now + min t.estimate.rto t.span)) (kept w.time_wait true d.time_wait (now + min last t.limits.time_wait)) una (kept w.retransmit true t.since now) (if w.retransmit && true then t.resent else 0) (still w.retransmit true t.restarted) (kept w.fin_wait_2 true t.left now)) rt
    ∙ (ap (λ x. built t now d.retransmit x (kept w.time_wait true d.time_wait (now + min last t.limits.time_wait)) una (kept w.retransmit true t.since now) (if w.retransmit && true then t.resent else 0) (still w.retransmit true t.restarted) (kept w.fin_wait_2 true t.left now)) ro
    ∙ (ap (λ x. built t now d.retransmit d.reorder x una (kept w.retransmit true t.since now) (if w.retransmit && true then t.resent else 0) (still w.retransmit true t.restarted) (kept w.fin_wait_2 true t.left now)) tw
    ∙ (ap (λ x. built t now d.retransmit d.reorder d.time_wait x (kept w.retransmit true t.since now) (if w.retransmit && true then t.resent else 0) (still w.retransmit true t.restarted) (kept w.fin_wait_2 true t.left now)) (same-una una t.una s.same)
    ∙ (ap (λ x. built t now d.retransmit d.reorder d.time_wait t.una x (if w.retransmit && true then t.resent else 0) (still w.retransmit true t.restarted) (kept w.fin_wait_2 true t.left now)) (kept-same w.retransmit t.since now s.since)
    ∙ (ap (λ x. built t now d.retransmit d.reorder d.time_wait t.una t.since x (still w.retransmit true t.restarted) (kept w.fin_wait_2 true t.left now)) (zero-if w.retransmit t.resent (not t.restarted) s.rests)
    ∙ (ap (λ x. built t now d.retransmit d.reorder d.time_wait t.una t.since t.resent x (kept w.fin_wait_2 true t.left now)) (no-if w.retransmit (t.resent == 0) t.restarted s.rests)
    ∙ ap (λ x. built t now d.retransmit d.reorder d.time_wait t.una t.since t.resent t.restarted x) (kept-same w.fin_wait_2 t.left now s.left))))))))

pub left_as_wanted : (t : Times) (w : Wants) (una : ℕ) → stands t w una ≡ true → is_some t.left ≡ w.fin_wait_2
left_as_wanted t w una e = kept-some w.fin_wait_2 t.left (standing t w una e).left

pub time_wait_as_wanted : (t : Times) (w : Wants) (una : ℕ) → stands t w una ≡ true → is_some t.deadlines.time_wait ≡ w.time_wait
time_wait_as_wanted t w una e = kept-some w.time_wait t.deadlines.time_wait (standing t w una e).time_wait

kept-as-wanted : (runs : Bool) (before : Option ℕ) → is_some before ≡ runs → is_kept runs before ≡ true
kept-as-wanted true (Some t) e = refl
kept-as-wanted true None e = absurd (cc)
kept-as-wanted false None e = refl
kept-as-wanted false (Some t) e = absurd (cc)

both : (a b : Bool) → a ≡ true → b ≡ true → (a && b) ≡ true
both true b e f = f
both false b e f = absurd (cc)

same-as-itself : (n : ℕ) → (n == n) ≡ true
same-as-itself n = grind arith

-- BEHIND A START they stand
pub stands_behind : (t : Times) (w : Wants) → is_some t.deadlines.retransmit ≡ w.retransmit → is_some t.since ≡ w.retransmit → rests w.retransmit t ≡ true → is_some t.deadlines.reorder ≡ w.reorder → is_some t.deadlines.time_wait ≡ w.time_wait → is_some t.left ≡ w.fin_wait_2 → stands t w t.una ≡ true
stands_behind t w r s x o tw l =
    let waits = both (is_kept w.retransmit t.deadlines.retransmit) (is_kept w.retransmit t.since && rests w.retransmit t) (kept-as-wanted w.retransmit t.deadlines.retransmit r)
    (both (is_kept w.retransmit t.since) (rests w.retransmit t) (kept-as-wanted w.retransmit t.since s) x) in
    let last = both (is_kept w.time_wait t.deadlines.time_wait) (is_kept w.fin_wait_2 t.left) (kept-as-wanted w.time_wait t.deadlines.time_wait tw) (kept-as-wanted w.fin_wait_2 t.left l) in
    both (t.una == t.una) (waits_on t w.retransmit && (is_kept w.reorder t.deadlines.reorder && (is_kept w.time_wait t.deadlines.time_wait && is_kept w.fin_wait_2 t.left))) (same-as-itself t.una)
    (both (waits_on t w.retransmit) (is_kept w.reorder t.deadlines.reorder && (is_kept w.time_wait t.deadlines.time_wait && is_kept w.fin_wait_2 t.left)) waits
    (both (is_kept w.reorder t.deadlines.reorder) (is_kept w.time_wait t.deadlines.time_wait && is_kept w.fin_wait_2 t.left) (kept-as-wanted w.reorder t.deadlines.reorder o) last))

pub stands_coded : (t : Times) (w : Wants) (code : ℕ) → code ≡ code_of w → is_some t.deadlines.retransmit ≡ w.retransmit → is_some t.since ≡ w.retransmit → rests w.retransmit t ≡ true → is_some t.deadlines.reorder ≡ w.reorder → is_some t.deadlines.time_wait ≡ w.time_wait → is_some t.left ≡ w.fin_wait_2 → stands t (wanted_by code) t.una ≡ true
stands_coded t w code e r s x o tw l =
    ap (λ c. stands t (wanted_by c) t.una) e ∙ (ap (λ v. stands t v t.una) (back w) ∙ stands_behind t w r s x o tw l)

-- WHAT STOOD BEFORE, and is wanted again where nothing was acknowledged, stands
pub stands_as_before : (t : Times) (stood : ℕ) (w : Wants) (una : ℕ) → ((stood == 0) ≡ false → stands t (wanted_by stood) t.una ≡ true) → (una == t.una && code_of w == stood) ≡ true → stands t w una ≡ true
stands_as_before t stood w una was e =
    let u = same-una una t.una (first (una == t.una) (code_of w == stood) e) in
    let c = same-una (code_of w) stood (second (una == t.una) (code_of w == stood) e) in
    let v = back w in
    sym (ap (λ x. stands t x una) v) ∙ (ap (λ x. stands t (wanted_by x) una) c ∙ (ap (λ x. stands t (wanted_by stood) x) u ∙ was (ap (λ x. x == 0) (sym c) ∙ not-zero w)))
