-- In recovery no more than ssthresh is under way beside what blocks report.
use Rattle.std.proofs.Common.{◌≡◌, ℕ, ◌+◌, ◌<◌, ◌≤◌, Bool, true, false, refl, sym, ap, subst, arith}
use Rattle.std.proofs.lemmas.Bool.{le-leb}
use Rattle.std.specs.Prelude.{◌*◌, ◌&&◌, ◌||◌, ◌==◌, if◌then◌else◌, min, nat_lt, Option, Some, None}
use Rattle.tcp_congestion.specs.AnyWindow.{any_control}
use Rattle.tcp_congestion.specs.Control.{Control, cubic_control, reno_control}
use Rattle.tcp_congestion.specs.Reno.{Window, has_pipe, limited, room_of, with_pipe}
use Rattle.tcp_congestion.specs.Sizes.{max_window}
use Rattle.tcp_congestion.specs.declared.any_window.AnyWindow.{AnyWindow}
use Rattle.tcp_congestion.specs.declared.any_window.AnyWindow.TheVariants.{Unlimited, Reno, Cubic}
use Rattle.tcp_driver.specs.Machine.{Machine}
use Rattle.tcp_flow.specs.Flow as flow
use Rattle.tcp_flow.specs.Flow.{Flowing}
use Rattle.tcp_flow.specs.Pipe.{KeepsPipe, PipeStaysInThreshold, RecoveryKeepsPipe}

by-true : {A : Type 0} (b : Bool) → b ≡ true → (x y : A) → (if b then x else y) ≡ x
by-true true e x y = refl
by-true false e x y = absurd (cc)

abbrev Stays : {S W : Type 0} → Machine S → Control W → Flowing S W → Type 0
Stays m c g =
    c.is_recovering g.window ≡ true → 0 < m.reported g.driving.core → c.room g.window 0 ≤ c.ssthresh g.window + m.reported g.driving.core

-- where both SYNs have just agreed on SMSS no recovery goes on
agreed-by : {S W : Type 0} (m : Machine S) (c : Control W) (t : Flowing S W) (smss : ℕ) (same : Bool) → ((w : W) (n : ℕ) → c.is_recovering (c.agreed w n) ≡ false)
    → Stays m c t → Stays m c (record t { window = if same then t.window else c.agreed t.window smss })
agreed-by m c t smss true anew h = h
agreed-by m c t smss false anew h = λ goes some. let none = anew t.window smss in absurd (cc)

settled-by : {S W : Type 0} (m : Machine S) (c : Control W) (t : Flowing S W) (size : Option ℕ) → ((w : W) (n : ℕ) → c.is_recovering (c.agreed w n) ≡ false)
    → Stays m c t → Stays m c (record t { window = flow.agreed_by c t.window size })
settled-by m c t None anew h = h
settled-by m c t (Some smss) anew h = agreed-by m c t smss (c.smss t.window == smss) anew h

piped : {S W : Type 0} (m : Machine S) (c : Control W) (k : Flowing S W) (b : Bool) → c.is_recovering k.window ≡ b → RecoveryKeepsPipe c
    → Stays m c (if b then record k { window = c.with_pipe k.window (m.reported k.driving.core) } else k)
piped m c k true e keeps = λ goes some.
    let kept = keeps.keeps k.window (m.reported k.driving.core) e some in omega (arith, kept.room, kept.ssthresh)
piped m c k false e keeps = λ goes some. absurd (cc)

told-by : {S W : Type 0} (m : Machine S) (smss_of : S → Option ℕ) (c : Control W) (f k : Flowing S W) (limits says : Bool) → limits ≡ true → says ≡ true
    → RecoveryKeepsPipe c → Stays m c (if limits then flow.settled smss_of c (flow.with_pipe_if says m c k) else f)
told-by m smss_of c f k true true is said keeps =
    settled-by m c (flow.with_pipe m c k) (smss_of (flow.with_pipe m c k).driving.core) keeps.begins_anew (piped m c k (c.is_recovering k.window) refl keeps)
told-by m smss_of c f k true false is said keeps = absurd (cc)
told-by m smss_of c f k false says is said keeps = absurd (cc)

pub pipe_lem : {S W : Type 0} (m : Machine S) (smss_of : S → Option ℕ) (c : Control W) → RecoveryKeepsPipe c → PipeStaysInThreshold m smss_of c
pipe_lem m smss_of c keeps f una reported report now is said =
    told-by m smss_of c f
    (flow.after_report m c (record f { shut = flow.shut_by report.window f.shut }) una (flow.delivered_by m c f reported report) report now) (c.limits f.window)
    (flow.says_something m f una report) is said keeps

-- ---- each window
has-by : (recovering found some : Bool) → recovering ≡ true → some ≡ true → (recovering && (found || some)) ≡ true
has-by true true some e p = refl
has-by true false some e p = p
has-by false found some e p = absurd (cc)

calm-by : (w : Window) → w.is_recovering ≡ true → limited w ≡ 0
calm-by w e = by-true w.is_recovering e 0 (min w.duplicates 2 * w.smss)

reno-keeps : (w : Window) (reported : ℕ) → w.is_recovering ≡ true → 0 < reported → KeepsPipe reno_control w reported
reno-keeps w reported e some =
    let is : with_pipe w reported ≡ record w { cwnd = min max_window (w.ssthresh + reported) } =
    by-true (has_pipe w reported) (has-by w.is_recovering w.is_found (nat_lt 0 reported) e (le-leb 1 reported some)) _ _ in
    let none : limited (record w { cwnd = min max_window (w.ssthresh + reported) }) ≡ 0 = calm-by (record w { cwnd = min max_window (w.ssthresh + reported) }) e in
    record { room = subst (λ v. room_of v 0 ≤ w.ssthresh + reported) (sym is) (omega (arith, none)); ssthresh = ap (λ v. v.ssthresh) is }

pub reno_lem : RecoveryKeepsPipe reno_control
reno_lem = record { keeps = λ w reported e some. reno-keeps w reported e some; begins_anew = λ w smss. refl }

pub cubic_lem : RecoveryKeepsPipe cubic_control
cubic_lem = record {
  keeps = λ c reported e some. let one = reno-keeps c.window reported e some in record { room = one.room; ssthresh = one.ssthresh };
  begins_anew = λ c smss. refl;
}

any-keeps : (w : AnyWindow) (reported : ℕ) → any_control.is_recovering w ≡ true → 0 < reported → KeepsPipe any_control w reported
any-keeps Unlimited reported e some = absurd (cc)
any-keeps (Reno w) reported e some = let one = reno-keeps w reported e some in record { room = one.room; ssthresh = one.ssthresh }
any-keeps (Cubic c) reported e some = let one = reno-keeps c.window reported e some in record { room = one.room; ssthresh = one.ssthresh }

any-anew : (w : AnyWindow) (smss : ℕ) → any_control.is_recovering (any_control.agreed w smss) ≡ false
any-anew Unlimited smss = refl
any-anew (Reno w) smss = refl
any-anew (Cubic c) smss = refl

pub any_lem : RecoveryKeepsPipe any_control
any_lem = record { keeps = any-keeps; begins_anew = any-anew }
