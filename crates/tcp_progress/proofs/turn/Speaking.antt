-- WHO IS SPOKEN TO by what is old to it answers, and the answer brings on: once both were served, whatever comes but timers.
use Rattle.tcp_replay.proofs.Words.{◌++◌, ◌<◌, [], Acknowledge, after_acknowledge, after_emission, after_receive, AllByRecursion, ap, arith, CallError}
use Rattle.tcp_replay.proofs.Words.{cases_Bool, Config, Content, Damage, Deliver, due_of, effect_of, Emit, EventContent, false, inl, inr, IsSoundPair}
use Rattle.tcp_replay.proofs.Words.{List, max_life, None, number, Option, other, party_after_acknowledge, party_after_emission, party_after_receive}
use Rattle.tcp_replay.proofs.Words.{party_of, PartyState, rcv_position_of, Receive, receive_refusal, refl, refusal_of, reset_due, side_of, Some, State}
use Rattle.tcp_replay.proofs.Words.{state_unless, subst, sym, Syn, syn_due, text_limit, true, WaitingReset, with_bytes_received, world_after}
use Rattle.tcp_replay.proofs.Words.{world_after_all, WorldState, ℕ, ◌∙◌, ◌∷◌, ◌≡◌, ◌≤◌, ◌⊎◌}
use Rattle.tcp_progress.proofs.Words.{AllCome, Comes, Delivers, IsCalm, IsIdle, IsUntimed, left_in, NoneDiscarded, Side, StandsAtNext}
use Rattle.tcp_progress.proofs.Lemmas.{all-untimed, AreStill, at-event, calm-append, deliver-to, delivered, emit-endpoint, fresh-emitted, going-live, GoOn}
use Rattle.tcp_progress.proofs.Lemmas.{IsGoing, IsKept, IsOld, KeepsPending, kept-steady, Lowers, lowers, old-wakes, past-syn, pending-judgement}
use Rattle.tcp_progress.proofs.Lemmas.{pending-same, range-same, RangeDone, side-on, side-pair, stands-or-none, steady-back, steps-all, steps-event}
use Rattle.tcp_progress.proofs.Lemmas.{still-back, still-emission, still-next, untimed-calm, way-later, with_pending-due}
use Rattle.tcp_replay.proofs.Lemmas.{done-none, finds-damage, none-some, or-none, pair-swapped}
use Rattle.tcp_progress.proofs.turn.Serving.{not-reset, useful-out}

-- ---- WHAT AN EVENT LEAVES of what is pending at an end, unless the end emits
receive-pending : (s : State) (room : ℕ) (refusal : Option CallError) → KeepsPending s (state_unless refusal s (with_bytes_received s room))
receive-pending s room None = record { range = range-same s.sending; syn = λ e. e; ack = λ _ e. rw e refl }
receive-pending s room (Some error) = pending-same s

-- of both, at an event that one side names
record KeepBothPending (p q p' q' : PartyState) (event : EventContent) : Type 0 where
  here : (event ≡ Emit (side_of event)) ⊎ KeepsPending p.endpoint p'.endpoint
  there : KeepsPending q.endpoint q'.endpoint

pending-effect : (life : ℕ) (p q : PartyState) (event : EventContent) → IsUntimed event → life ≤ max_life → (effect_of life p q event).refusal ≡ None
    → IsSoundPair p q → q.endpoint.receiving.opened ≡ true → KeepBothPending p q (effect_of life p q event).here (effect_of life p q event).there event
unfolding effect_of party_after_receive after_receive party_after_acknowledge after_acknowledge
pending-effect life p q (Receive side room) calm most e pair opened =
    record { here = inr (receive-pending p.endpoint room (receive_refusal p.endpoint)); there = pending-same q.endpoint }
pending-effect life p q (Acknowledge side) calm most e pair opened =
    record { here = inr (record { range = range-same p.endpoint.sending; syn = λ e. e; ack = λ _ e. rw e refl }); there = pending-same q.endpoint }
pending-effect life p q (Emit side) calm most e pair opened = record { here = inl refl; there = pending-same q.endpoint }
pending-effect life p q (Deliver from k) calm most e pair opened =
    let back = pair-swapped p q pair in
    let d = delivered p q life k most e back in
    let there = pending-judgement q.endpoint p.endpoint.config.addr.0 q.endpoint.config.addr.0 d.content q.accepted q.closed back.there.alone opened in
    record { here = inr (pending-same p.endpoint); there = rw d.same there }
pending-effect life p q (Damage from k place value) calm most e pair opened =
    let same = (finds-damage q p life k place value calm e (pair-swapped _ _ pair)).same in
    record { here = inr (pending-same p.endpoint); there = subst (λ (x : PartyState). KeepsPending q.endpoint x.endpoint) (sym same) (pending-same q.endpoint) }
pending-effect life p q other calm most e pair opened = absurd calm

-- in the world, at one side
pub pending-event : (w : WorldState) (event : EventContent) (side : Side) → IsUntimed event → IsKept w → GoOn w.a w.b
    → (event ≡ Emit side) ⊎ KeepsPending (party_of w side).endpoint (party_of (world_after w event) side).endpoint
pending-event w event side calm h on =
    let s = side_of event in
    let both = λ (e : refusal_of w event ≡ None).
    pending-effect w.life (party_of w s) (party_of w (other s)) event calm h.sound.life e (side-pair w s h).pair (side-on w s on).back.opened in
    at-event (λ p q p' q'. (event ≡ Emit side) ⊎ KeepsPending p.endpoint p'.endpoint) w event side (inr (pending-same (party_of w side).endpoint))
    (λ e is. elim (both e).here [ inl emits ↦ inl (emits ∙ ap Emit (sym is)) | inr keeps ↦ inr keeps ]) (λ e. inr (both e).there)

-- ---- WAITS TO BE SPOKEN TO: it has sent no more than the other has, nothing goes out again, or its SYN alone was sent, and the other
-- doesn't know that it has all
pub record Waits (w : WorldState) (side : Side) : Type 0 where
  pub at : (party_of w side).endpoint.sending.snd_nxt ≡ rcv_position_of (party_of w (other side))
  pub behind : (party_of w (other side)).endpoint.sending.snd_una < rcv_position_of (party_of w side)
  pub range : RangeDone (party_of w side).endpoint.sending ⊎ ((party_of w side).endpoint.sending.snd_una ≡ 0)
  pub syn : (party_of w side).endpoint.pending.syn ≡ false

-- it still waits where both are where they were
pub waits-later : (w v : WorldState) (side : Side) → AreStill (party_of w side) (party_of w (other side)) (party_of v side) (party_of v (other side))
    → KeepsPending (party_of w side).endpoint (party_of v side).endpoint → Waits w side → Waits v side
waits-later w v side still keeps h = record {
  at = omega (arith, h.at, keeps.range.snd_nxt, still.rcv_position_of_y);
  behind = omega (arith, h.behind, still.snd_una_of_y, still.rcv_position_of_x);
  range = elim h.range [ inl done ↦ inl (keeps.range.done done) | inr first ↦ inr (still.snd_una_of_x ∙ first) ];
  syn = keeps.syn h.syn;
}

-- ---- WHAT IT EMITS is useful, but for a reset that goes first
reset-pending : (s : State) (reset : WaitingReset) → s.pending.reset ≡ Some reset → KeepsPending s (after_emission s)
unfolding after_emission due_of
reset-pending s reset e = rw e (record { range = record { done = λ h. h; snd_una = omega arith; snd_nxt = omega arith }; syn = λ e. e; ack = λ _ e. e })

none-pending : (s : State) → due_of s ≡ None → KeepsPending s (after_emission s)
unfolding after_emission
none-pending s e = rw e (pending-same s)

-- where nothing is due no SYN is pending
pub idle-no_syn : (s : State) → due_of s ≡ None → s.pending.syn ≡ false
unfolding due_of
idle-no_syn s idle =
    let none = (or-none (syn_due s.pending) _ (or-none (reset_due s.pending.reset) _ idle).1).0 in
    elim (cases_Bool s.pending.syn) [ inl pending ↦ absurd (none-some Syn (sym (rw pending at none))) | inr no_syn ↦ no_syn ]

-- what is at SND.NXT goes out, and comes
pub standing-out : (w : WorldState) (side : Side) (later : List EventContent) → AllByRecursion IsCalm later → IsGoing w
    → (party_of w side).endpoint.sending.snd_nxt ≡ rcv_position_of (party_of w (other side))
    → (party_of w (other side)).endpoint.sending.snd_una < rcv_position_of (party_of w side) → StandsAtNext (party_of w side).endpoint → Comes w (Emit side) later
    → NoneDiscarded (world_after_all (world_after w (Emit side)) later) → left_in (world_after_all (world_after w (Emit side)) later) < left_in w
standing-out w side later calm h at behind stands comes up =
    let p = party_of w side in
    let plain = not-reset p.endpoint stands.due stands.segment stands.is_due stands.form stands.no_rst in
    useful-out w side later stands.due calm h stands.is_due plain (record {
      start = _;
      content = _;
      fresh = fresh-emitted p (party_of w (other side)) (side-pair w side h.kept) stands.due stands.is_due stands.segment stands.form stands.no_rst
          stands.no_syn;
      use_of = inr (
        omega (arith, stands.starts, at),
        omega (arith, stands.starts, at, (side-pair w side h.kept).pair.back.alone.config.good.0.1.0),
        omega (arith, behind, still-next p (party_after_emission p) (still-emission p)),
      );
    }) comes up

waiting-due : (w : WorldState) (side : Side) → IsKept w → (party_of w side).endpoint.pending.reset ≡ None → Waits w side
    → (due_of (party_of w side).endpoint ≡ None) ⊎ StandsAtNext (party_of w side).endpoint
waiting-due w side h none waits =
    let s = (party_of w side).endpoint in
    stands-or-none s none waits.syn (λ sends. elim waits.range [
      | inl done ↦ done-none s.sending (text_limit s) done
      | inr first ↦ absurd (omega (arith, past-syn (party_of w side) (party_of w (other side)) (side-pair w side h) sends, first))
    ])

-- at any event: something is brought on in the end, or all that is pending is as it was
abbrev BringsOrKeeps : WorldState → Side → EventContent → List EventContent → Type 0
BringsOrKeeps w side event later =
    Lowers w (world_after_all (world_after w event) later) (KeepsPending (party_of w side).endpoint (party_of (world_after w event) side).endpoint)

-- where it emits
emits : (w : WorldState) (side : Side) (later : List EventContent) (waiting : Option WaitingReset) → (party_of w side).endpoint.pending.reset ≡ waiting
    → AllByRecursion IsCalm later → IsGoing w → Waits w side → Comes w (Emit side) later → NoneDiscarded (world_after_all (world_after w (Emit side)) later)
    → BringsOrKeeps w side (Emit side) later
emits w side later (Some reset) is calm h waits comes up =
    let s = (party_of w side).endpoint in
    inr (subst (λ (t : State). KeepsPending s t) (sym (emit-endpoint w side)) (reset-pending s reset is))
emits w side later None is calm h waits comes up =
    let s = (party_of w side).endpoint in
    elim (waiting-due w side h.kept is waits) [
      | inl none ↦ inr (subst (λ (t : State). KeepsPending s t) (sym (emit-endpoint w side)) (none-pending s none))
      | inr stands ↦ inl (standing-out w side later calm h waits.at waits.behind stands comes up)
    ]

goes-on : (w : WorldState) (side : Side) (event : EventContent) (later : List EventContent) → IsUntimed event → AllByRecursion IsCalm later → IsGoing w
    → Waits w side → Comes w event later → NoneDiscarded (world_after_all (world_after w event) later) → BringsOrKeeps w side event later
goes-on w side event later untimed calm h waits comes up =
    elim (pending-event w event side untimed h.kept h.on) [
      | inr keeps ↦ inr keeps
      | inl is ↦
          let Said : EventContent → Type 0 = λ e. Comes w e later → NoneDiscarded (world_after_all (world_after w e) later) → BringsOrKeeps w side e later in
          subst Said (sym is) (λ comes' up'. emits w side later (party_of w side).endpoint.pending.reset refl calm h waits comes' up') comes up
    ]

-- ---- AN ACKNOWLEDGEMENT THAT IS PENDING goes out before nothing is due there, and it comes, among these events or behind them
pub with_pending-lowers : (w : WorldState) (side : Side) (events back : List EventContent) → AllByRecursion IsUntimed events → AllByRecursion IsCalm back → IsGoing w
    → Waits w side → (party_of w side).endpoint.pending.ack ≡ true → AllCome w events back → IsIdle (world_after_all w events) side
    → NoneDiscarded (world_after_all w (events ++ back)) → left_in (world_after_all w (events ++ back)) < left_in w
unfolding world_after_all
with_pending-lowers w side [] back untimed after h waits has_pending come idle up = absurd (with_pending-due (party_of w side).endpoint has_pending idle)
with_pending-lowers w side (event ∷ events) back untimed after h waits has_pending come idle up =
    let v = world_after w event in
    let later = events ++ back in
    let calm = calm-append events back (all-untimed events untimed.1) after in
    elim (goes-on w side event later untimed.0 calm h waits come.0 up) [
      | inl less ↦ less
      | inr keeps ↦
          lowers w v _ h (steps-event w event (untimed-calm event untimed.0) h.kept) (steps-all v later calm) up (λ hv still.
          let waits' = waits-later w v side (still side) keeps waits in
          with_pending-lowers v side events back untimed.1 after hv waits' (keeps.ack (going-live v side hv).0.goes_on has_pending) come.1 idle up)
    ]

-- ---- WHAT IS OLD still is
pub old-still : (p q p' q' : PartyState) (k : ℕ) (v : Content) → AreStill p q p' q' → IsOld p q k v → IsOld p' q' k v
old-still p q p' q' k v still old = record {
  g = old.g;
  way = way-later p q p' q' k old.g v still.there still.back old.way;
  src = old.src ∙ ap (λ (c : Config). c.port) (sym still.there.config);
  dst = old.dst ∙ ap (λ (c : Config). c.port) (sym still.back.config);
  seq = old.seq ∙ ap (λ (c : Config). number c.isn.0 old.g.position) (sym still.there.config);
  some = old.some;
  ends = omega (arith, old.ends, still.rcv_position_of_y);
  near = omega (arith, old.near, still.rcv_position_of_y);
  wanted = omega (arith, old.wanted, still.snd_una_of_y);
}

-- ---- WHO IS STILL SPOKEN TO by what is old to it answers before all is idle
spoken : (w : WorldState) (side : Side) (k : ℕ) (v : Content) → IsGoing w → IsOld (party_of w (other side)) (party_of w side) k v
    → KeepsPending (party_of w side).endpoint (party_of (world_after w (Deliver (other side) k)) side).endpoint
    × ((party_of (world_after w (Deliver (other side) k)) side).endpoint.pending.ack ≡ true)
spoken w side k v h old =
    let p = party_of w side in
    let q = party_of w (other side) in
    let wakes = old-wakes q p w.life k v (kept-steady w h.kept).least (steady-back q p (side-pair w side h.kept))
    (record { live = (going-live w side h).0; read = h.read side }) old in
    deliver-to (λ _ x. KeepsPending p.endpoint x.endpoint × (x.endpoint.pending.ack ≡ true)) w side k wakes.0
    (subst (λ (x : PartyState). KeepsPending p.endpoint x.endpoint × (x.endpoint.pending.ack ≡ true)) (sym wakes.1)
    (record { range = range-same p.endpoint.sending; syn = λ e. e; ack = λ _ _. refl }, refl))

-- the old segment comes among these events, and so does the answer, or behind them
pub spoken-lowers : (w : WorldState) (side : Side) (k : ℕ) (v : Content) (events back : List EventContent) → AllByRecursion IsUntimed events
    → AllByRecursion IsCalm back → IsGoing w → Waits w side → IsOld (party_of w (other side)) (party_of w side) k v
    → Delivers (other side) k events → AllCome w events back → IsIdle (world_after_all w events) side
    → NoneDiscarded (world_after_all w (events ++ back)) → left_in (world_after_all w (events ++ back)) < left_in w
unfolding world_after_all
spoken-lowers w side k v [] back untimed after h waits old comes come idle up = absurd comes
spoken-lowers w side k v (event ∷ events) back untimed after h waits old comes come idle up =
    let u = world_after w event in
    let later = events ++ back in
    let calm = calm-append events back (all-untimed events untimed.1) after in
    let over = lowers w u _ h (steps-event w event (untimed-calm event untimed.0) h.kept) (steps-all u later calm) up in
    elim comes [
      | inl now ↦
          let Said : PartyState → Type 0 = λ x. KeepsPending (party_of w side).endpoint x.endpoint × (x.endpoint.pending.ack ≡ true) in
          let said = subst (λ (e : EventContent). Said (party_of (world_after w e) side)) (sym now) (spoken w side k v h old) in
          over (λ hu still. with_pending-lowers u side events back untimed.1 after hu (waits-later w u side (still side) said.0 waits) said.1 come.1 idle up)
      | inr more ↦ elim (goes-on w side event later untimed.0 calm h waits come.0 up) [
        | inl less ↦ less
        | inr keeps ↦
            over (λ hu still.
            let waits' = waits-later w u side (still side) keeps waits in
            let old' = old-still (party_of w (other side)) (party_of w side) (party_of u (other side)) (party_of u side) k v
            (still-back (party_of w side) (party_of w (other side)) (party_of u side) (party_of u (other side)) (still side)) old in
            spoken-lowers u side k v events back untimed.1 after hu waits' old' more come.1 idle up)
      ]
    ]
