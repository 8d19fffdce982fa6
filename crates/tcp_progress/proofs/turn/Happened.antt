-- CALM HAPPENINGS (RFC 5961, 1): calm events, and injections that are blind when they come. They bring both ends on, as calm events do.
use Rattle.tcp_replay.proofs.Words.{◌++◌, ◌<◌, [], arith, Bool, Emit, inl, inr, length, List, Option, other, party_after_emission, party_of, PartyState}
use Rattle.tcp_replay.proofs.Words.{rcv_position_of, refl, State, subst, sym, WaitingReset, world_after, WorldState, ℕ, ◌∷◌, ◌≡◌, ◌≤◌}
use Rattle.tcp_replay.specs.Among.{after_happening, Happening, Happens, Injection, Injects, IsBlind, party_after_injection, with_pending}
unfoldable use Rattle.tcp_replay.specs.Among.{after_happenings}
use Rattle.tcp_replay.proofs.run.Injections.{kept-out-pending}
use Rattle.tcp_progress.proofs.Words.{A, AreCalm, Arrives, B, CoversNext, IsCalmNow, left_in, NoneDiscarded, Side}
use Rattle.tcp_progress.proofs.Lemmas.{Steps, steps-event, steps-left, steps-then, emit-at, fresh-emitted, going-live, IsGoing, IsKept, IsStill, side-pair}
use Rattle.tcp_progress.proofs.{laws.Injected.kept-injected, turn.Calm.IsMoved, turn.Calm.moves-still, turn.CalmWorlds.calm-event}
use Rattle.tcp_progress.proofs.{turn.CalmWorlds.OneMoves, turn.CalmWorlds.steps-none, turn.CalmWorlds.steps-one, turn.GoingOn.lowers}
use Rattle.tcp_progress.proofs.{turn.Serving.IsUseful, turn.Serving.useful-now, turn.Serving.useful-still}

-- ---- AN INJECTION changes nothing but what is pending
with_pending-still : (p : PartyState) (ack : Bool) (reset : Option WaitingReset) → IsStill p (record p { endpoint = with_pending p.endpoint ack reset })
with_pending-still p ack reset = let snd_nxt : p.endpoint.sending.snd_nxt ≤ p.endpoint.sending.snd_nxt = omega arith in assumption

blind-moves : (p q : PartyState) (i : Injection) → IsBlind p q i → IsMoved p (party_after_injection p i)
blind-moves p q i blind =
    let has_pending = kept-out-pending p.endpoint i blind.kept_out in
    subst (λ (s : State). IsMoved p (record p { endpoint = s })) (sym has_pending.same)
    (moves-still p (record p { endpoint = with_pending p.endpoint has_pending.ack has_pending.reset }) (with_pending-still p has_pending.ack has_pending.reset) (λ k g e. e) (omega arith) (λ e. e))

-- ---- WHAT HAPPENS moves one party
calm-happening : (w : WorldState) (happening : Happening) → IsCalmNow w happening → IsKept w
    → OneMoves w.a w.b (after_happening w happening).a (after_happening w happening).b
calm-happening w (Happens event) calm h = calm-event w event A calm h
calm-happening w (Injects A i) blind h = inl (blind-moves w.a w.b i blind, refl)
calm-happening w (Injects B i) blind h = inr (refl, blind-moves w.b w.a i blind)

kept-happening : (w : WorldState) (happening : Happening) → IsCalmNow w happening → IsKept w → IsKept (after_happening w happening)
kept-happening w (Happens event) calm h = (steps-event w event calm h).kept
kept-happening w (Injects side i) blind h = kept-injected w side i blind h

-- it brings both on
pub steps-happening : (w : WorldState) (happening : Happening) → IsCalmNow w happening → IsKept w → Steps w (after_happening w happening)
steps-happening w happening calm h =
    steps-one w (after_happening w happening) (calm-happening w happening calm h) h (kept-happening w happening calm h)

pub steps-happenings : (w : WorldState) (list : List Happening) → AreCalm w list → IsKept w → Steps w (after_happenings w list)
unfolding after_happenings
steps-happenings w [] calm h = steps-none w h
steps-happenings w (x ∷ list) calm h =
    let one = steps-happening w x calm.0 h in
    steps-then w (after_happening w x) (after_happenings (after_happening w x) list) one (steps-happenings (after_happening w x) list calm.1 one.kept)

-- ---- HAPPENINGS AFTER HAPPENINGS
pub happenings-append : (w : WorldState) (xs ys : List Happening) → after_happenings w (xs ++ ys) ≡ after_happenings (after_happenings w xs) ys
unfolding after_happenings
happenings-append w [] ys = refl
happenings-append w (x ∷ xs) ys = happenings-append (after_happening w x) xs ys

pub calm-parts : (w : WorldState) (xs ys : List Happening) → AreCalm w (xs ++ ys) → AreCalm w xs × AreCalm (after_happenings w xs) ys
unfolding after_happenings
calm-parts w [] ys h = (tt, h)
calm-parts w (x ∷ xs) ys h = let more = calm-parts (after_happening w x) xs ys h.1 in ((h.0, more.0), more.1)

pub calm-joined : (w : WorldState) (xs ys : List Happening) → AreCalm w xs → AreCalm (after_happenings w xs) ys → AreCalm w (xs ++ ys)
unfolding after_happenings
calm-joined w [] ys h k = k
calm-joined w (x ∷ xs) ys h k = (h.0, calm-joined (after_happening w x) xs ys h.1 k)

-- ---- WHAT IS USEFUL AND ARRIVES BRINGS ON, whatever happens before it
pub useful-arrives : (w : WorldState) (side : Side) (k : ℕ) (list : List Happening) → AreCalm w list → IsGoing w
    → IsUseful (party_of w side) (party_of w (other side)) k → Arrives side k list → NoneDiscarded (after_happenings w list)
    → left_in (after_happenings w list) < left_in w
unfolding after_happenings
useful-arrives w side k [] calm h u comes up = absurd comes
useful-arrives w side k (x ∷ list) calm h u comes up =
    let v = after_happening w x in
    let end = after_happenings v list in
    elim comes [
      | inl now ↦
          let less : left_in v < left_in w = subst (λ (e : Happening). left_in (after_happening w e) < left_in w) (sym now) (useful-now w side k h u) in
          omega (arith, less, steps-left v end (steps-happenings v list calm.1 (steps-happening w x calm.0 h.kept).kept))
      | inr later ↦
          lowers w v end h (steps-happening w x calm.0 h.kept) (steps-happenings v list calm.1) up (λ hv still.
          let u' = useful-still (party_of w side) (party_of w (other side)) (party_of v side) (party_of v (other side)) k (side-pair w side h.kept)
          (side-pair v side hv.kept) (going-live w side h).0.opened (still side) u in
          useful-arrives v side k list calm.1 hv u' later up)
    ]

-- what is useful goes out, and arrives
pub useful-sent : (w : WorldState) (side : Side) (later : List Happening) → AreCalm (world_after w (Emit side)) later → IsGoing w
    → IsUseful (party_after_emission (party_of w side)) (party_of w (other side)) (length (party_of w side).sent)
    → Arrives side (length (party_of w side).sent) later → NoneDiscarded (after_happenings (world_after w (Emit side)) later)
    → left_in (after_happenings (world_after w (Emit side)) later) < left_in w
useful-sent w side later calm h u arrives up =
    let k = length (party_of w side).sent in
    let v = world_after w (Emit side) in
    lowers w v _ h (steps-event w (Emit side) tt h.kept) (steps-happenings v later calm) up
    (λ hv still. useful-arrives v side k later calm hv (emit-at (λ x y. IsUseful x y k) w side u) arrives up)

-- what covers goes out, and arrives
pub covering-sent : (w : WorldState) (side : Side) (later : List Happening) → AreCalm (world_after w (Emit side)) later → IsGoing w
    → CoversNext (party_of w side).endpoint (rcv_position_of (party_of w (other side))) → Arrives side (length (party_of w side).sent) later
    → NoneDiscarded (after_happenings (world_after w (Emit side)) later) → left_in (after_happenings (world_after w (Emit side)) later) < left_in w
covering-sent w side later calm h covers arrives up =
    useful-sent w side later calm h (record {
      start = _;
      content = _;
      fresh = fresh-emitted (party_of w side) (party_of w (other side)) (side-pair w side h.kept) covers.due covers.is_due covers.segment covers.form
          covers.no_rst covers.no_syn;
      use_of = inl (omega (arith, covers.starts, covers.begins), omega (arith, covers.starts, covers.ends));
    }) arrives up
