-- Nothing is due at the time at which an emission has found nothing.
use Rattle.std.proofs.Common.{◌≡◌, ℕ, ◌<◌, ◌≤◌, Bool, true, false, List, Option, Some, None, refl, arith, subst, sym}
use Rattle.std.specs.Prelude.{is_some, nat_le, ◌&&◌, not, if◌then◌else◌}
use Rattle.std.proofs.lemmas.Bool.Decides.{nat_tests}
use Rattle.tcp_driver.specs.Deadlines.{earlier, last, no_later}
use Rattle.tcp_driver.specs.Machine.{Machine}
use Rattle.tcp_recovery.specs.declared.delivered.Delivered.{Delivered}
use Rattle.tcp_recovery.specs.declared.stretch.Stretch.{Stretch}
use Rattle.tcp_recovery.specs.Delivered.{greatest}
use Rattle.tcp_recovery.specs.Laws.{DeadlinesAreLosses}
use Rattle.tcp_recovery.specs.Rack.{deadline_of, lost_in}
use Rattle.tcp_connection.specs.Connection.{Connecting, core_of}
use Rattle.tcp_repair.specs.declared.seen.Seen.{Seen}
use Rattle.tcp_repair.specs.Deadlines.{AreReady, IsToCome, own_deadline, rack_deadline}
use Rattle.tcp_repair.specs.Recovery.{Repair, is_looking, window_of}
use Rattle.tcp_repair.specs.Repairing.{RecoveryRests, Repaired, seen_in}
use Rattle.tcp_repair.specs.Reports.{Reports}

-- what isn't due is to come
pub not_due : (time : Option ℕ) (now : ℕ) → no_later time now ≡ false → IsToCome time now
not_due None now e = tt
not_due (Some time) now e = grind (arith, nat_tests, e)

no-some : {A B : Type 0} (o : Option A) → o ≡ None → is_some o ≡ true → B
no-some None n s = absurd (cc)
no-some (Some x) n s = absurd (cc)

-- where nothing is lost now, the next deadline is to come
later-by : (all : List Stretch) (d : Delivered) (window now time : ℕ) (late : Bool) → DeadlinesAreLosses → now < greatest
    → lost_in d window now all ≡ None → deadline_of d window all ≡ Some time → nat_le time now ≡ late → now < time
later-by all d window now time true law short none is e =
    no-some (lost_in d window now all) none ((law d window now all).due time is (grind (arith, nat_tests, e)) short)
later-by all d window now time false law short none is e = grind (arith, nat_tests, e)

later : (all : List Stretch) (d : Delivered) (window now : ℕ) (o : Option ℕ) → DeadlinesAreLosses → now < greatest
    → lost_in d window now all ≡ None → deadline_of d window all ≡ o → IsToCome o now
later all d window now None law short none is = tt
later all d window now (Some time) law short none is = later-by all d window now time (nat_le time now) law short none is refl

if-looking : (looking : Bool) (lost : Option (ℕ × ℕ)) (deadline : Option ℕ) (now : ℕ) → (lost ≡ None → IsToCome deadline now)
    → IsToCome (if looking && not (is_some (if looking then lost else None)) then deadline else None) now
if-looking true None deadline now comes = comes refl
if-looking true (Some lost) deadline now comes = tt
if-looking false lost deadline now comes = tt

rack-later : (r : Repair) (s : Seen) → DeadlinesAreLosses → r.clock < greatest → IsToCome (rack_deadline r s) r.clock
rack-later r s law short =
    if-looking (is_looking r s) (lost_in r.rack.delivered (window_of r s) r.clock r.rack.stretches)
    (deadline_of r.rack.delivered (window_of r s) r.rack.stretches) r.clock
    (λ none. later r.rack.stretches r.rack.delivered (window_of r s) r.clock (deadline_of r.rack.delivered (window_of r s) r.rack.stretches) law short none refl)

-- both are to come, so the earlier one is
earlier-later : (one other : Option ℕ) (now : ℕ) → IsToCome one now → IsToCome other now → IsToCome (earlier one other) now
earlier-later None other now e f = f
earlier-later (Some one) None now e f = e
earlier-later (Some one) (Some other) now e f = omega (arith, e, f)

sooner : (time : Option ℕ) (now clock : ℕ) → now ≤ clock → IsToCome time clock → IsToCome time now
sooner None now clock less e = tt
sooner (Some time) now clock less e = omega (arith, less, e)

own-later : (r : Repair) (s : Seen) → DeadlinesAreLosses → r.clock ≤ last → IsToCome r.probe.at r.clock → IsToCome (own_deadline r s) r.clock
unfolding own_deadline
own-later r s law most probe = earlier-later r.probe.at (rack_deadline r s) r.clock probe (rack-later r s law (omega (arith, most)))

if-live : (live : Bool) (time : Option ℕ) (now : ℕ) → IsToCome time now → IsToCome (if live then time else None) now
if-live true time now comes = comes
if-live false time now comes = tt

pub recovery_rests : {S W : Type 0} (m : Machine S) (smss_of : S → Option ℕ) (b : Reports S) (k : Connecting S W) (recovery : Option Repair) (now : ℕ)
    → DeadlinesAreLosses → AreReady recovery now → RecoveryRests m smss_of b k recovery now
recovery_rests m smss_of b k None now law ready = λ early. tt
recovery_rests m smss_of b k (Some r) now law ready =
    λ early. if-live (m.wants (core_of k)).retransmit (own_deadline r (seen_in m smss_of b k)) now
    (sooner (own_deadline r (seen_in m smss_of b k)) now r.clock (ready.clock early) (own-later r (seen_in m smss_of b k) law ready.most ready.probe))

pub still_ready : {S W : Type 0} (w : Repaired S W) (k : Connecting S W) (recovery : Option Repair) (now : ℕ)
    → record { connecting = k; recovery = recovery } ≡ w → AreReady w.recovery now → AreReady recovery now
still_ready {S = S} {W = W} w k recovery now is ready = subst (λ (x : Repaired S W). AreReady x.recovery now) (sym is) ready
