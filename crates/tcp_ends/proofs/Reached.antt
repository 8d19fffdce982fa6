-- ENDS THAT WERE OPENED, whose guards let in what lives: whatever is called, and strangers send, what comes passes the guards, and so
-- the world inside is one of ends without guards.
use Rattle.std.proofs.Common.{◌≡◌, ◌≤◌, ◌<◌, ℕ, false, List, [], ◌∷◌, ◌++◌, Option, Some, None, IfSome, Result, Ok, Err, refl, ap, sym, subst, ◌∙◌}
use Rattle.std.specs.List.{AllByRecursion}
use Rattle.tcp_wire.specs.Decoded.{decode_answer}
use Rattle.tcp_wire.specs.Wire.{Content}
use Rattle.tcp_wire.specs.declared.fault.DecodeError.{DecodeError}
use Rattle.tcp_driver.specs.Calls as calls
use Rattle.tcp_driver.specs.Driver.{Driving}
use Rattle.tcp_halves.specs.Config.{IsConfig}
use Rattle.tcp_halves.specs.declared.config.Config.{Config}
use Rattle.tcp_conn.specs.declared.arrive.judgement.Judgement.{Judgement}
use Rattle.tcp_conn.specs.declared.arrive.judgement.Judgement.TheVariants.{Foreign, ResetIgnored, Stray, AckOfListen, OpensNothing, PeerOpens, AckOfNoSyn}
use Rattle.tcp_conn.specs.declared.arrive.judgement.Judgement.TheVariants.{PeerRefuses, PeerAccepts, Unacceptable, PeerResets, ResetElsewhere, SynInWindow, NoAck, AcksUnsent}
use Rattle.tcp_conn.specs.declared.arrive.judgement.Judgement.TheVariants.{HandshakeRefused, HandshakeRefusedShut, Taken, TakenShut}
use Rattle.tcp_conn.specs.Guard.{is_kept_out, keeps_out_reading}
unfoldable use Rattle.tcp_conn.specs.Guard.{keeps_out}
use Rattle.tcp_conn.specs.Judgement.{judgement}
use Rattle.tcp_conn.specs.State.{State}
use Rattle.tcp_end.specs.declared.wired.Wired.{Wired}
use Rattle.tcp_replay.specs.declared.event.Side.{Side}
use Rattle.tcp_replay.specs.declared.event.Side.TheVariants.{A, B}
use Rattle.tcp_replay.specs.declared.outcome.StepError.{StepError}
use Rattle.tcp_replay.specs.Among.{AreFair, Happening, Happens, Injection, Injects as Injected, after_happening, after_happenings, is_reading_let_in, lets_in}
use Rattle.tcp_replay.specs.Events.{EventContent, HasBytes, side_of}
use Rattle.tcp_replay.specs.Safe.{FindsDamage, HintsAreTrue, IsSafe}
use Rattle.tcp_replay.specs.World.{PartyState, WorldState, bytes_with_damage, max_life, other, refusal_of, sent_at, stay_or, world_after, world_from, world_with_runs}
use Rattle.tcp_replay.proofs.Lemmas.{damage-found, delivered-there, segment-sent}
use Rattle.tcp_replay.proofs.run.Injections.{among_strangers_with_runs}
use Rattle.tcp_progress.specs.Guarded.{LetInWhatLives}
use Rattle.tcp_progress.specs.Settled.{least_life}
use Rattle.tcp_progress.proofs.Lemmas.{IsKept, side-pair}
use Rattle.tcp_progress.proofs.laws.Guarded.{what-lives-passes}
use Rattle.tcp_progress.proofs.laws.Injected.{among-strangers-with-runs}
use Rattle.tcp_ends.specs.Pair as pairs
use Rattle.tcp_ends.specs.Pair.{CallHasBytes, LetsLive, Opening, Pair, PairCall, damage_refusal_in, end_of, guard_in, guard_of, member_of, new_member, opened_with_runs}
use Rattle.tcp_ends.specs.Pair.{pair_after, pair_after_all, pair_of, party_in, peer_at, refusal_in, segment_in, world_in}
use Rattle.tcp_ends.specs.Events.{opening_event}
use Rattle.tcp_ends.specs.Among.{AreFairIncidents, Calls, Incident, Injects, IsFairIncident, Rests, happening_of, happens, member_after_injection, pair_after_incident, pair_after_incidents}
use Rattle.tcp_ends.proofs.Beginnings.{begins, guard-is}
use Rattle.tcp_ends.proofs.Guards.{CallPasses, CallsPass, drive-keeps, guards-stay, with-guards}
use Rattle.tcp_ends.proofs.Safety.{opening-bytes}
use Rattle.tcp_ends.proofs.Strangers.{IncidentPasses, IncidentsPass, fair-incident, fair-more, happened, incident-is, more}

-- ---- LIFETIMES STAY
life-from : (life : ℕ) (side : Side) (p q : PartyState) → (world_from life side p q).life ≡ life
life-from life A p q = refl
life-from life B p q = refl

life-or : (r : Option StepError) (w there : WorldState) → there.life ≡ w.life → (stay_or r w there).life ≡ w.life
life-or None w there e = e
life-or (Some error) w there e = refl

life-happened : (w : WorldState) (o : Option Happening) → (happened w o).life ≡ w.life
life-happened w None = refl
life-happened w (Some (Happens event)) = life-or (refusal_of w event) w _ (life-from w.life (side_of event) _ _)
life-happened w (Some (Injected side i)) = life-from w.life side _ _

-- ---- GUARDS STAY
pub incident-guards : {H : Type 0} (p : Pair H) (incident : Incident) (side : Side)
    → guard_of (member_of (pair_after_incident p incident) side) ≡ guard_of (member_of p side)
unfolding pair_after_incident
incident-guards p (Calls call) side = guards-stay p call side
incident-guards p (Injects here now i) side = with-guards p here (member_after_injection (member_of p here) now i) (drive-keeps (member_of p here) (calls.Arrives now i.src i.dst i.bytes false)) side
incident-guards p (Rests here) side = refl

-- ---- WHAT ISN'T LET IN isn't kept out by a guard: it changes nothing already
module _ (reach : ℕ) (s : State) where
  blind-rule : (rule : Judgement) (v : Content) → lets_in rule ≡ false → is_kept_out reach rule s v ≡ false
  blind-rule Foreign v e = refl
  blind-rule ResetIgnored v e = refl
  blind-rule Stray v e = refl
  blind-rule AckOfListen v e = refl
  blind-rule OpensNothing v e = refl
  blind-rule PeerOpens v e = refl
  blind-rule AckOfNoSyn v e = refl
  blind-rule PeerRefuses v e = refl
  blind-rule PeerAccepts v e = refl
  blind-rule Unacceptable v e = refl
  blind-rule PeerResets v e = refl
  blind-rule ResetElsewhere v e = refl
  blind-rule SynInWindow v e = refl
  blind-rule NoAck v e = refl
  blind-rule AcksUnsent v e = refl
  blind-rule HandshakeRefused v e = refl
  blind-rule HandshakeRefusedShut v e = refl
  blind-rule Taken v e = absurd (cc)
  blind-rule TakenShut v e = absurd (cc)

  blind-reading : (src dst : List ℕ) (r : Result Content DecodeError) → is_reading_let_in s src dst r ≡ false → keeps_out_reading reach s src dst r ≡ false
  blind-reading src dst (Ok v) e = blind-rule (judgement s src dst v) v e
  blind-reading src dst (Err fault) e = refl

  blind-passes : (src dst bytes : List ℕ) → is_reading_let_in s src dst (decode_answer src dst bytes) ≡ false → keeps_out reach s src dst bytes ≡ false
  unfolding keeps_out
  blind-passes src dst bytes e = blind-reading src dst (decode_answer src dst bytes) e

  damage-passes : (src dst bytes : List ℕ) (fault : DecodeError) → decode_answer src dst bytes ≡ Err fault → keeps_out reach s src dst bytes ≡ false
  unfolding keeps_out
  damage-passes src dst bytes fault e = ap (keeps_out_reading reach s src dst) e

blind-lets : (guard : Option ℕ) (s : State) (i : Injection) → is_reading_let_in s i.src i.dst (decode_answer i.src i.dst i.bytes) ≡ false
    → IfSome guard (λ reach. keeps_out reach s i.src i.dst i.bytes ≡ false)
blind-lets None s i e = tt
blind-lets (Some reach) s i e = blind-passes reach s i.src i.dst i.bytes e

-- ---- REACHED: by what happens from two new ends
pub record Reached {H : Type 0} (life : ℕ) (a b : Config) (runs_a runs_b : ℕ) (p : Pair H) : Type 0 where
  pub happenings : List Happening
  pub fair : AreFair (world_with_runs life a b runs_a runs_b) happenings
  pub is : after_happenings (world_with_runs life a b runs_a runs_b) happenings ≡ world_in p
  pub same : p.life ≡ life
  pub lets : (side : Side) → LetsLive life (guard_of (member_of p side))

-- one thing more
after-more : (w : WorldState) (xs ys : List Happening) → after_happenings w (xs ++ ys) ≡ after_happenings (after_happenings w xs) ys
unfolding after_happenings
after-more w [] ys = refl
after-more w (x ∷ xs) ys = after-more (after_happening w x) xs ys

fair-joined : (w : WorldState) (xs ys : List Happening) → AreFair w xs → AreFair (after_happenings w xs) ys → AreFair w (xs ++ ys)
unfolding AreFair after_happenings
fair-joined w [] ys f g = g
fair-joined w (x ∷ xs) ys f g = (f.0, fair-joined (after_happening w x) xs ys f.1 g)

fair-none : (w : WorldState) → AreFair w []
unfolding AreFair
fair-none w = tt

after-none : (w : WorldState) → after_happenings w [] ≡ w
unfolding after_happenings
after-none w = refl

after-two : (w : WorldState) (first second : EventContent)
    → after_happenings w (Happens first ∷ Happens second ∷ []) ≡ world_after (world_after w first) second
unfolding after_happenings
after-two w first second = refl

fair-two : (w : WorldState) (first second : EventContent) → HasBytes first → HasBytes second → AreFair w (Happens first ∷ Happens second ∷ [])
unfolding AreFair
fair-two w first second one two = (one, (two, tt))

module _ {H : Type 0} (life : ℕ) (a b : Config) (runs_a runs_b : ℕ) (most : life ≤ max_life) (one : IsConfig a) (two : IsConfig b) where
  abbrev At : Pair H → Type 0
  At p = Reached life a b runs_a runs_b p

  -- it is safe, and kept where segments live long enough
  pub safe-at : (p : Pair H) → At p → IsSafe (world_in p) × HintsAreTrue (world_in p) × FindsDamage (world_in p)
  safe-at p r =
      let all = among_strangers_with_runs life a b runs_a runs_b r.happenings most one two r.fair in
      (subst (λ w. IsSafe w) r.is all.0, subst (λ w. HintsAreTrue w) r.is all.1, subst (λ w. FindsDamage w) r.is all.2)

  pub kept-at : (p : Pair H) → At p → least_life ≤ life → IsKept (world_in p)
  kept-at p r least =
      subst (λ w. IsKept w) r.is (among-strangers-with-runs IsKept (λ w h. h) life a b runs_a runs_b r.happenings least most one two r.fair)

  lets-at : (p : Pair H) → At p → least_life ≤ life → LetInWhatLives (world_in p)
  lets-at p r least = subst (λ w. LetInWhatLives w) r.is (what-lives-passes life a b runs_a runs_b r.happenings least most one two r.fair)

  -- WHAT IS DELIVERED PASSES
  abbrev Passed : Pair H → Side → Option ℕ → List ℕ → Type 0
  Passed p from guard bytes =
      IfSome guard (λ reach. keeps_out reach (end_of (member_of p (other from))) (end_of (member_of p from)).config.addr.0
      (end_of (member_of p (other from))).config.addr.0 bytes ≡ false)

  living : (p : Pair H) (from : Side) (k : ℕ) (guard : Option ℕ) → At p → LetsLive life guard → refusal_in p from k ≡ None → Passed p from guard (segment_in p from k)
  living p from k None r h e = tt
  living p A k (Some reach) r h e =
      let there = delivered-there p.life (party_in p.b) (party_in p.a) k e in
      (lets-at p r h.0).there reach k (sent_at (party_in p.a) k) (subst (λ n. n ≤ reach) (sym r.same) h.1) (segment-sent (party_in p.a) k there.0) there.1
  living p B k (Some reach) r h e =
      let there = delivered-there p.life (party_in p.a) (party_in p.b) k e in
      (lets-at p r h.0).back reach k (sent_at (party_in p.b) k) (subst (λ n. n ≤ reach) (sym r.same) h.1) (segment-sent (party_in p.b) k there.0) there.1

  damaged : (p : Pair H) (from : Side) (k place value : ℕ) (guard : Option ℕ) → value < 256 → At p → LetsLive life guard
      → damage_refusal_in p from k place value ≡ None → Passed p from guard (bytes_with_damage (segment_in p from k) place value)
  damaged p from k place value None fits r h e = tt
  damaged p A k place value (Some reach) fits r h e =
      damage-passes reach (end_of p.b) (end_of p.a).config.addr.0 (end_of p.b).config.addr.0 _ _
      (damage-found (party_in p.b) (party_in p.a) p.life k place value fits (side-pair (world_in p) B (kept-at p r h.0)).pair.own_back e)
  damaged p B k place value (Some reach) fits r h e =
      damage-passes reach (end_of p.a) (end_of p.b).config.addr.0 (end_of p.a).config.addr.0 _ _
      (damage-found (party_in p.a) (party_in p.b) p.life k place value fits (side-pair (world_in p) A (kept-at p r h.0)).pair.own_back e)

  call-passes : (p : Pair H) (call : PairCall) → At p → CallHasBytes call → CallPasses p call
  call-passes p (pairs.Arrives from k now) r fits = λ e. living p from k (guard_of (member_of p (other from))) r (r.lets (other from)) e
  call-passes p (pairs.ArrivesDamaged from k place value now) r fits =
      λ e. damaged p from k place value (guard_of (member_of p (other from))) fits r (r.lets (other from)) e
  call-passes p (pairs.Emits side now window out) r fits = tt
  call-passes p (pairs.Expires side now) r fits = tt
  call-passes p (pairs.Sends side now text) r fits = tt
  call-passes p (pairs.Receives side now out) r fits = tt
  call-passes p (pairs.Acknowledges side now) r fits = tt
  call-passes p (pairs.Closes side now) r fits = tt
  call-passes p (pairs.Aborts side now) r fits = tt
  call-passes p (pairs.ResendsFirst side now) r fits = tt
  call-passes p (pairs.Resends side now from to) r fits = tt
  call-passes p (pairs.SetsUserTimeout side limit) r fits = tt
  call-passes p (pairs.SetsPatience side patient) r fits = tt

  passes-at : (p : Pair H) (incident : Incident) → At p → IsFairIncident p incident → IncidentPasses p incident
  passes-at p (Calls call) r fair = call-passes p call r fair
  passes-at p (Injects side now i) r fair = λ e. blind-lets (guard_of (member_of p side)) (end_of (member_of p side)) i (fair e).kept_out
  passes-at p (Rests side) r fair = tt

  -- WHAT COMES NEXT is reached, too
  step-at : (p : Pair H) (incident : Incident) → At p → IsFairIncident p incident → At (pair_after_incident p incident)
  step-at p incident r fair =
      let next = happening_of p incident in
      let is = incident-is p incident (passes-at p incident r fair) in
      let new = world_with_runs life a b runs_a runs_b in
      record {
        happenings = r.happenings ++ happens next [];
        fair = fair-joined new r.happenings (happens next []) r.fair
            (subst (λ w. AreFair w (happens next [])) (sym r.is) (fair-more (world_in p) next [] (fair-incident p incident fair) (fair-none _)));
        is = after-more new r.happenings (happens next []) ∙ ap (λ w. after_happenings w (happens next [])) r.is ∙ more (world_in p) next []
            ∙ after-none (happened (world_in p) next) ∙ sym is;
        same = ap (λ (w : WorldState). w.life) is ∙ life-happened (world_in p) next ∙ r.same;
        lets = λ side. subst (λ g. LetsLive life g) (sym (incident-guards p incident side)) (r.lets side);
      }

  pub all-at : (p : Pair H) (list : List Incident) → At p → AreFairIncidents p list → IncidentsPass p list × At (pair_after_incidents p list)
  unfolding AreFairIncidents IncidentsPass pair_after_incidents
  all-at p [] r fair = (tt, r)
  all-at p (incident ∷ list) r fair =
      let rest = all-at (pair_after_incident p incident) list (step-at p incident r fair.0) fair.1 in
      ((passes-at p incident r fair.0, rest.0), rest.1)

  call-at : (p : Pair H) (call : PairCall) → At p → CallHasBytes call → At (pair_after p call)
  unfolding pair_after_incident
  call-at p call r fits = step-at p (Calls call) r fits

  pub calls-at : (p : Pair H) (list : List PairCall) → At p → AllByRecursion CallHasBytes list → CallsPass p list × At (pair_after_all p list)
  unfolding CallsPass pair_after_all
  calls-at p [] r fits = (tt, r)
  calls-at p (call ∷ list) r fits =
      let rest = calls-at (pair_after p call) list (call-at p call r fits.0) fits.1 in
      ((call-passes p call r fits.0, rest.0), rest.1)

  -- AND SO IS THE BEGINNING
  began-lets : (x y : Driving (Wired H)) (opening_a opening_b : Opening) → opened_with_runs a runs_a (peer_at b) opening_a ≡ Ok x
      → opened_with_runs b runs_b (peer_at a) opening_b ≡ Ok y → LetsLive life (guard_in opening_a) → LetsLive life (guard_in opening_b) → (side : Side)
      → LetsLive life (guard_of (member_of (pair_of life (new_member x) (new_member y)) side))
  began-lets x y opening_a opening_b e f lets_a lets_b A = subst (λ g. LetsLive life g) (sym (guard-is a runs_a (peer_at b) opening_a x e)) lets_a
  began-lets x y opening_a opening_b e f lets_a lets_b B = subst (λ g. LetsLive life g) (sym (guard-is b runs_b (peer_at a) opening_b y f)) lets_b

  pub began : (x y : Driving (Wired H)) (opening_a opening_b : Opening) → LetsLive life (guard_in opening_a) → LetsLive life (guard_in opening_b)
      → opened_with_runs a runs_a (peer_at b) opening_a ≡ Ok x → opened_with_runs b runs_b (peer_at a) opening_b ≡ Ok y
      → At (pair_of life (new_member x) (new_member y))
  began x y opening_a opening_b lets_a lets_b e f =
      let new = world_with_runs life a b runs_a runs_b in
      record {
        happenings = Happens (opening_event A opening_a) ∷ Happens (opening_event B opening_b) ∷ [];
        fair = fair-two new (opening_event A opening_a) (opening_event B opening_b) (opening-bytes A opening_a) (opening-bytes B opening_b);
        is = after-two new (opening_event A opening_a) (opening_event B opening_b) ∙ sym (begins life a b runs_a runs_b opening_a opening_b x y e f);
        same = refl;
        lets = began-lets x y opening_a opening_b e f lets_a lets_b;
      }
