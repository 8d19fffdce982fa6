-- Peers are asked, and given up, only where they were silent.
use Rattle.std.proofs.Common.{◌≡◌, ℕ, suc, ◌+◌, ◌*◌, ◌<◌, ◌≤◌, Bool, true, false, List, [], ◌∷◌, length, Option, Some, None, arith, refl, subst, sym, ap, ◌∙◌}
use Rattle.std.specs.Prelude.{nat_le, ◌==◌}
use Rattle.std.proofs.lemmas.Bool.{cond_both, eqb-true, leb-true, leb-false}
use Rattle.tcp_keep_alive.specs.declared.rules.KeepAliveRules.{KeepAliveRules}
use Rattle.tcp_keep_alive.specs.declared.keep_alive.KeepAliveAction.{KeepAliveAction}
use Rattle.tcp_keep_alive.specs.declared.keep_alive.KeepAliveAction.TheVariants.{Nothing, Asks, GivesUp}
use Rattle.tcp_keep_alive.specs.Rules.{bounded}
use Rattle.tcp_keep_alive.specs.KeepAlive.{Asking, after_heard, after, action_at, action_by, action_when_due, after_action, deadline_of, latest, next_time}
use Rattle.tcp_keep_alive.specs.Silence.{Happening, Heard, Timeout, asking_after, last_heard, with_asked_at, unanswered_of, OffNeverAsks}
use Rattle.tcp_keep_alive.specs.Silence.{IsSilent, AsksOnlyTheSilent, GivesUpOnlyTheDead}

-- ---- OFF
rules-kept : (k : Asking) (now : ℕ) (a : KeepAliveAction) → (after a k now).rules ≡ k.rules
rules-kept k now Nothing = refl
rules-kept k now Asks = refl
rules-kept k now GivesUp = refl

stays-off : (start : ℕ) (happened : List Happening) → (asking_after None start happened).rules ≡ None
stays-off start [] = refl
stays-off start (Heard now ∷ earlier) = stays-off start earlier
stays-off start (Timeout now may_ask ∷ earlier) =
    let k = asking_after None start earlier in
    rules-kept k now (action_at k now may_ask) ∙ stays-off start earlier

off-acts : (k : Asking) (rules : Option KeepAliveRules) (at : Option ℕ) (now : ℕ) → rules ≡ None → action_by k rules at now ≡ Nothing
off-acts k None at now e = refl
off-acts k (Some r) at now e = absurd (cc)

off-waits : (k : Asking) (may_ask : Bool) → k.rules ≡ None → deadline_of k may_ask ≡ None
off-waits k true e = rw e refl
off-waits k false e = refl

pub off_lem : OffNeverAsks
off_lem start happened =
    let k = asking_after None start happened in
    let off = stays-off start happened in
    record {
      acts = λ now may_ask. off-acts k k.rules (deadline_of k may_ask) now off;
      waits = λ may_ask. off-waits k may_ask off;
    }

-- ---- ON: what is known of a peer by these rules, which was heard then, and of which these keep-alives are unanswered
abbrev asking_of : KeepAliveRules → ℕ → ℕ → List ℕ → Asking
asking_of r heard at asked = record { rules = Some r; heard_at = heard; asked_at = at; unanswered = length asked }

-- the last of them is known, and the peer was silent up to each
abbrev IsChain : KeepAliveRules → ℕ → ℕ → List ℕ → Type 0
IsChain r heard at [] = Unit {0}
IsChain r heard at (last ∷ earlier) = (last ≡ at) × IsSilent r heard last earlier

record Follows (r : KeepAliveRules) (heard : ℕ) (k : Asking) (asked : List ℕ) : Type 0 where
  at : ℕ
  is : k ≡ asking_of r heard at asked
  chain : IsChain r heard at asked
  few : length asked ≤ r.most

silent-by : (r : KeepAliveRules) (heard at now : ℕ) (asked : List ℕ) → IsChain r heard at asked → next_time (asking_of r heard at asked) r ≤ now
    → IsSilent r heard now asked
silent-by r heard at now [] chain past = past
silent-by r heard at now (last ∷ earlier) chain past =
    let some = suc (length earlier) in
    let past_interval : at + r.interval ≤ now =
    cond_both (some == 0) (heard + r.idle) (at + r.interval) (λ (n : ℕ). n ≤ now → at + r.interval ≤ now)
    (λ e. absurd (omega (arith, eqb-true some 0 e))) (λ _ h. h) past in
    (omega (arith, chain.0, past_interval), chain.1)

-- what may be done
abbrev MayBe : KeepAliveRules → ℕ → ℕ → List ℕ → Bool → KeepAliveAction → Type 0
MayBe r heard now asked may_ask Nothing = Unit {0}
MayBe r heard now asked may_ask Asks = (may_ask ≡ true) × IsSilent r heard now asked × (length asked < r.most)
MayBe r heard now asked may_ask GivesUp = (may_ask ≡ true) × IsSilent r heard now asked × (r.most ≤ length asked)

acts-when-due : (r : KeepAliveRules) (heard at now : ℕ) (asked : List ℕ) → IsChain r heard at asked → next_time (asking_of r heard at asked) r ≤ now
    → MayBe r heard now asked true (action_when_due (asking_of r heard at asked) r)
acts-when-due r heard at now asked chain past =
    let silent = silent-by r heard at now asked chain past in
    cond_both (nat_le r.most (length asked)) GivesUp Asks (MayBe r heard now asked true)
    (λ e. (refl, silent, leb-true r.most (length asked) e))
    (λ e. (refl, silent, leb-false r.most (length asked) e))

acts : (r : KeepAliveRules) (heard at now : ℕ) (asked : List ℕ) (may_ask : Bool) → IsChain r heard at asked
    → MayBe r heard now asked may_ask (action_at (asking_of r heard at asked) now may_ask)
acts r heard at now asked false chain = tt
acts r heard at now asked true chain =
    let k = asking_of r heard at asked in
    let next = next_time k r in
    let P : KeepAliveAction → Type 0 = MayBe r heard now asked true in
    cond_both (nat_le next latest) (Some next) None (λ (d : Option ℕ). P (action_by k (Some r) d now))
    (λ _. cond_both (nat_le next now) (action_when_due k r) Nothing P
    (λ e. acts-when-due r heard at now asked chain (leb-true next now e)) (λ _. tt))
    (λ _. tt)

follows-after : (r : KeepAliveRules) (heard at now : ℕ) (asked : List ℕ) (may_ask : Bool) (a : KeepAliveAction) → IsChain r heard at asked
    → length asked ≤ r.most → MayBe r heard now asked may_ask a
    → Follows r heard (after a (asking_of r heard at asked) now) (with_asked_at a now asked)
follows-after r heard at now asked may_ask Nothing chain few may = record { at = at; is = refl; chain = chain; few = few }
follows-after r heard at now asked may_ask GivesUp chain few may = record { at = at; is = refl; chain = chain; few = few }
follows-after r heard at now asked may_ask Asks chain few may = record { at = now; is = refl; chain = (refl, may.1); few = may.2 }

followed : (r : KeepAliveRules) (start : ℕ) (happened : List Happening)
    → Follows (bounded r) (last_heard start happened) (asking_after (Some r) start happened) (unanswered_of (Some r) start happened)
followed r start [] = record { at = start; is = refl; chain = tt; few = omega arith }
followed r start (Heard now ∷ earlier) =
    let h = followed r start earlier in
    record { at = h.at; is = ap (λ (k : Asking). after_heard k now) h.is; chain = tt; few = omega arith }
followed r start (Timeout now may_ask ∷ earlier) =
    let h = followed r start earlier in
    let heard = last_heard start earlier in
    let asked = unanswered_of (Some r) start earlier in
    let k = asking_of (bounded r) heard h.at asked in
    let after_this : Follows (bounded r) heard (after_action k now may_ask) (with_asked_at (action_at k now may_ask) now asked) =
    follows-after (bounded r) heard h.at now asked may_ask (action_at k now may_ask) h.chain h.few (acts (bounded r) heard h.at now asked may_ask h.chain) in
    subst (λ (k : Asking). Follows (bounded r) heard (after_action k now may_ask) (with_asked_at (action_at k now may_ask) now asked)) (sym h.is) after_this

acted : (r : KeepAliveRules) (start now : ℕ) (may_ask : Bool) (happened : List Happening) (a : KeepAliveAction)
    → action_at (asking_after (Some r) start happened) now may_ask ≡ a
    → MayBe (bounded r) (last_heard start happened) now (unanswered_of (Some r) start happened) may_ask a
acted r start now may_ask happened a e =
    let h = followed r start happened in
    let P : KeepAliveAction → Type 0 = MayBe (bounded r) (last_heard start happened) now (unanswered_of (Some r) start happened) may_ask in
    subst P e (subst (λ (k : Asking). P (action_at k now may_ask)) (sym h.is) (acts (bounded r) _ h.at now _ may_ask h.chain))

pub asks_lem : AsksOnlyTheSilent
asks_lem r start now may_ask happened e =
    let it = acted r start now may_ask happened Asks e in
    record { may = it.0; silent = it.1; few = it.2 }

-- the time over which it was silent
silent-since : (r : KeepAliveRules) (heard now : ℕ) (asked : List ℕ) → IsSilent r heard now asked → heard + r.idle + length asked * r.interval ≤ now
silent-since r heard now [] silent = omega (arith, silent)
silent-since r heard now (last ∷ earlier) silent =
    let before = silent-since r heard last earlier silent.1 in
    let more : suc (length earlier) * r.interval ≡ length earlier * r.interval + r.interval = omega arith in
    omega (arith, before, silent.0, more)

pub gives_up_lem : GivesUpOnlyTheDead
gives_up_lem r start now may_ask happened e =
    let it = acted r start now may_ask happened GivesUp e in
    let asked = unanswered_of (Some r) start happened in
    let all : length asked ≡ (bounded r).most = omega (arith, it.2, (followed r start happened).few) in
    let since = silent-since (bounded r) (last_heard start happened) now asked it.1 in
    record {
      may = it.0;
      silent = it.1;
      all = all;
      several = omega (arith, all);
      since = subst (λ (n : ℕ). last_heard start happened + (bounded r).idle + n * (bounded r).interval ≤ now) all since;
    }
