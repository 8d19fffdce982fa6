-- ONE HALF TURN: a side's timeout expires and it emits; what goes out arrives, and the other's answer too. So something is brought on,
-- or the answer lay beyond the window (RFC 9293, 3.10.7.4, first).
use Rattle.tcp_replay.proofs.Words.{◌+◌, ◌++◌, ◌<◌, [], ack_alone, after_retransmit, ap, arith, cases_lt, Config, Content, count_numbers, Deliver, Due}
use Rattle.tcp_replay.proofs.Words.{due_of, effect_of, Emit, EmitAcknowledgement, EventContent, false, has, has_peer, IfSome, inl, inr, is_handshake}
use Rattle.tcp_replay.proofs.Words.{length, List, None, Option, other, party_after_ack_alone, party_after_emission, party_after_timer, party_of}
use Rattle.tcp_replay.proofs.Words.{PartyState, rcv_position_of, refl, report_options_short, Retransmit, rst, segment_of, sends_text, Some, start_of}
use Rattle.tcp_replay.proofs.Words.{State, subst, sym, Syn, syn, syn_segment, text_limit, Timer, true, world_after, WorldState, ℕ, ◌∙◌, ◌∷◌, ◌≡◌, ◌≤◌, ◌⊎◌}
use Rattle.tcp_progress.proofs.Words.{A, all_of, AnswerArrives, AreCalm, Arrives, B, CoversNext, HasHalfTurn, IsCalm, IsInFlight, IsLive, IsSteadyPair}
use Rattle.tcp_progress.proofs.Words.{KeepsFlight, left_in, MaySend, NoneDiscarded, SegmentIsAnswered, SendsAt, Side, timeout}
use Rattle.tcp_replay.specs.Among.{Happening, Happens}
unfoldable use Rattle.tcp_replay.specs.Among.{after_happenings}
use Rattle.tcp_progress.proofs.turn.Happened.{steps-happenings, useful-arrives, useful-sent, calm-parts, covering-sent, happenings-append}
use Rattle.tcp_progress.proofs.Lemmas.{acked-all, AreStill, deliver-at, emit-at, emit-other, emit-party, emitted-as, fresh-emitted, going-live, has-room}
use Rattle.tcp_progress.proofs.Lemmas.{in-flight, IsFresh, IsGoing, IsOld, IsStillFrom, kept-steady, live-in, live-sends, Lowers, new_lem, no-handshake}
use Rattle.tcp_progress.proofs.Lemmas.{syn-due, syn-old, timer-at, timer-endpoint, twice, unsent-sends, waits, steps-event}
use Rattle.tcp_replay.proofs.Lemmas.{due-alone, due-bits, end-is, one_if}
use Rattle.tcp_replay.proofs.{one_end.AloneEmissions.ack-alone-goes, one_end.AloneEmissions.GoesOutAlone, pair.Emissions.goes-out}
use Rattle.tcp_progress.proofs.{laws.FlightSentAgain.flight-kept, laws.FlightSentAgain.resent, laws.FlightSentAgain.timeout-keeps}
use Rattle.tcp_progress.proofs.{laws.FlightSentAgain.timeout-resends, turn.Asking.syn-alone, turn.Emitted.fresh-due, turn.Emitted.party_after_due}
use Rattle.tcp_progress.proofs.{turn.Live.due-still, turn.Serving.IsUseful, turn.Speaking.old-still}
use Rattle.tcp_conn.specs.declared.emit.due.Due.TheVariants as dues
use Rattle.tcp_progress.proofs.Lemmas.{lowers, no-syn-pending, old-wakes, over, past-syn, sends-synchronized, side-pair, Steps, still-emission, still-next}
use Rattle.tcp_progress.proofs.turn.Waking.{brought-old}

-- ---- WHAT AN EVENT SENDS at SND.NXT is fresh
pub alone-at : (P : PartyState → PartyState → Type 0) (w : WorldState) (side : Side) → P (party_after_ack_alone (party_of w side)) (party_of w (other side))
    → P (party_of (world_after w (EmitAcknowledgement side)) side) (party_of (world_after w (EmitAcknowledgement side)) (other side))
unfolding effect_of
alone-at P w A h = h
alone-at P w B h = h

pub alone-as : (p : PartyState) (due : Due) → ack_alone p.endpoint ≡ Some due → party_after_ack_alone p ≡ party_after_due p (Some due)
unfolding party_after_ack_alone
alone-as p due e = ap (party_after_due p) e

-- both parties after it
sends-at : (P : PartyState → PartyState → Type 0) (w : WorldState) (side : Side) (event : EventContent) (due : Due) → SendsAt w side event due
    → P (party_after_due (party_of w side) (Some due)) (party_of w (other side))
    → P (party_of (world_after w event) side) (party_of (world_after w event) (other side))
sends-at P w side event due (inl emits) h =
    let Said : PartyState → Type 0 = λ x. P x (party_of w (other side)) in
    subst (λ (e : EventContent). P (party_of (world_after w e) side) (party_of (world_after w e) (other side))) (sym emits.0)
    (emit-at P w side (subst Said (sym (emitted-as (party_of w side) due emits.1)) h))
sends-at P w side event due (inr alone) h =
    let Said : PartyState → Type 0 = λ x. P x (party_of w (other side)) in
    subst (λ (e : EventContent). P (party_of (world_after w e) side) (party_of (world_after w e) (other side))) (sym alone.0)
    (alone-at P w side (subst Said (sym (alone-as (party_of w side) due alone.1)) h))

-- it goes out
sends-goes : (w : WorldState) (side : Side) (event : EventContent) (due : Due) → IsSteadyPair (party_of w side) (party_of w (other side))
    → SendsAt w side event due → GoesOutAlone (party_of w side).endpoint (party_of w side).accepted (party_of w side).closed due
sends-goes w side event due h (inl emits) =
    let p = party_of w side in
    subst (λ (o : Option Due). IfSome o (GoesOutAlone p.endpoint p.accepted p.closed)) emits.1
    (due-alone p.endpoint p.accepted p.closed h.pair.there.alone)
sends-goes w side event due h (inr alone) =
    let p = party_of w side in
    subst (λ (o : Option Due). IfSome o (GoesOutAlone p.endpoint p.accepted p.closed)) alone.1
    (ack-alone-goes p.endpoint p.accepted p.closed h.pair.there.alone)

-- past the SYN it is no reset and no SYN
plain-due : (s : State) (due : Due) → 1 ≤ start_of s.sending due → (has rst (segment_of s due).flags ≡ false) × (has syn (segment_of s due).flags ≡ false)
unfolding segment_of
plain-due s dues.Reset least = absurd (omega (arith, least))
plain-due s dues.Syn least = absurd (omega (arith, least))
plain-due s due least = let bits = due-bits s.sending due in (bits.2, bits.0)

sent-fresh : (p q : PartyState) (due : Due) → IsSteadyPair p q → GoesOutAlone p.endpoint p.accepted p.closed due → 1 ≤ start_of p.endpoint.sending due
    → IsFresh (party_after_due p (Some due)) q (length p.sent) (start_of p.endpoint.sending due) (segment_of p.endpoint due)
sent-fresh p q due h out least =
    let bits = plain-due p.endpoint due least in
    fresh-due p q due h (goes-out p q due h.pair out) out bits.0 bits.1

-- within the window it brings on, when it comes
answer-out : (w : WorldState) (side : Side) (event : EventContent) (due : Due) (later : List Happening) → IsCalm event
    → AreCalm (world_after w event) later → IsGoing w → SendsAt w side event due
    → start_of (party_of w side).endpoint.sending due ≡ (party_of w side).endpoint.sending.snd_nxt
    → let p = party_of w side in let q = party_of w (other side) in p.endpoint.sending.snd_nxt < rcv_position_of q + q.endpoint.config.recv_capacity
    → q.endpoint.sending.snd_una < rcv_position_of p → Arrives side (length p.sent) later
    → NoneDiscarded (after_happenings (world_after w event) later) → left_in (after_happenings (world_after w event) later) < left_in w
answer-out w side event due later now calm h sends at inside behind comes up =
    let p = party_of w side in
    let q = party_of w (other side) in
    let k = length p.sent in
    let pair = side-pair w side h.kept in
    let live = going-live w side h in
    let taken : rcv_position_of q ≤ p.endpoint.sending.snd_nxt = pair.there.sent.taken live.1.opened in
    let still : rcv_position_of (party_after_due p (Some due)) ≡ rcv_position_of p =
    still-next p (record p { endpoint = (party_after_due p (Some due)).endpoint }) (due-still p (Some due)) in
    let out = sends-goes w side event due pair sends in
    let useful : IsUseful (party_after_due p (Some due)) q k = record {
      start = start_of p.endpoint.sending due;
      content = segment_of p.endpoint due;
      fresh = sent-fresh p q due pair out (omega (arith, at, taken));
      use_of = inr (omega (arith, at, taken), omega (arith, at, inside), omega (arith, behind, still));
    } in
    lowers w (world_after w event) _ h (steps-event w event now h.kept) (steps-happenings (world_after w event) later calm) up (λ hv _. useful-arrives (world_after w event) side k later calm hv
    (sends-at (λ x y. IsUseful x y k) w side event due sends useful) comes up)

-- ---- OVER THE PARTS of a list that leads to `end`
split-lowers : (w : WorldState) (xs ys list : List Happening) (end : WorldState) (Q : Type 0) → list ≡ xs ++ ys → after_happenings w list ≡ end
    → AreCalm w list → IsGoing w → NoneDiscarded end
    → (after_happenings (after_happenings w xs) ys ≡ end → AreCalm (after_happenings w xs) ys → IsGoing (after_happenings w xs)
    → IsStillFrom w (after_happenings w xs) → Lowers (after_happenings w xs) end Q) → Lowers w end Q
split-lowers w xs ys list end Q form reach calm h up next =
    let v = after_happenings w xs in
    let parts = calm-parts w xs ys (subst (AreCalm w) form calm) in
    let on : after_happenings v ys ≡ end = sym (happenings-append w xs ys) ∙ ap (after_happenings w) (sym form) ∙ reach in
    over w v end Q h (steps-happenings w xs parts.0 h.kept) (λ kept. subst (Steps v) on (steps-happenings v ys parts.1 kept)) up (λ hv still. next on parts.1 hv still)

-- at one event
step-lowers : (w : WorldState) (event : EventContent) (ys : List Happening) (end : WorldState) (Q : Type 0)
    → after_happenings (world_after w event) ys ≡ end
    → IsCalm event → AreCalm (world_after w event) ys → IsGoing w → NoneDiscarded end
    → (IsGoing (world_after w event) → IsStillFrom w (world_after w event) → Lowers (world_after w event) end Q) → Lowers w end Q
step-lowers w event ys end Q reach now calm h up next =
    over w (world_after w event) end Q h (steps-event w event now h.kept) (λ kept. subst (Steps (world_after w event)) reach (steps-happenings (world_after w event) ys calm kept)) up
    next

-- more is claimed
lowers-then : (w u : WorldState) (P Q : Type 0) → (P → Q) → Lowers w u P → Lowers w u Q
lowers-then w u P Q then (inl less) = inl less
lowers-then w u P Q then (inr is) = inr (then is)

-- FULL: p has sent up to the end of q's window
abbrev pub IsFull : PartyState → PartyState → Type 0
IsFull p q = rcv_position_of q + q.endpoint.config.recv_capacity ≤ p.endpoint.sending.snd_nxt

-- it was so already for where q was
full-still : (x y x' y' p : PartyState) → AreStill x y x' y' → IsFull p y' → IsFull p y
full-still x y x' y' p still full = omega (arith, full, still.rcv_position_of_y, ap (λ (c : Config). c.recv_capacity) still.back.config)

-- also seen from the other
full-back : (x y x' y' q' : PartyState) → AreStill x y x' y' → IsFull q' x' → IsFull q' x
full-back x y x' y' q' still full = omega (arith, full, still.rcv_position_of_x, ap (λ (c : Config). c.recv_capacity) still.there.config)

-- ---- AN ANSWER ARRIVES: something is brought on, or the side has filled the other's window in the end
answers-lowers : (w : WorldState) (side : Side) (events : List Happening) (end : WorldState) → after_happenings w events ≡ end
    → AreCalm w events → IsGoing w → NoneDiscarded end
    → (party_of w (other side)).endpoint.sending.snd_una < rcv_position_of (party_of w side) → AnswerArrives side w events
    → Lowers w end (IsFull (party_of end side) (party_of w (other side)))
unfolding after_happenings
answers-lowers w side events end reach calm h up behind a =
    split-lowers w a.before (Happens a.answer ∷ a.after) events end (IsFull (party_of end side) (party_of w (other side))) a.form reach calm h up
    (λ on calm' hv still.
    let v = after_happenings w a.before in
    let p = party_of v side in
    let q = party_of v (other side) in
    let is = still side in
    elim (cases_lt p.endpoint.sending.snd_nxt (rcv_position_of q + q.endpoint.config.recv_capacity)) [
      | inl inside ↦
          inl (subst (λ (u : WorldState). left_in u < left_in v) on (answer-out v side a.answer a.due a.after calm'.0 calm'.1 hv a.sends a.at inside
          (omega (arith, behind, is.snd_una_of_y, is.rcv_position_of_x)) a.arrives (subst NoneDiscarded (sym on) up)))
      | inr past ↦
          let more = subst (Steps v) on (steps-happenings v (Happens a.answer ∷ a.after) calm' hv.kept) in
          let full : IsFull (party_of end side) q = omega (arith, past, (more.grows side).snd_nxt) in
          inr (full-still (party_of w side) (party_of w (other side)) p q (party_of end side) is full)
    ])

-- ---- A SEGMENT IS ANSWERED that is old to the other
pub answered-lowers : (w : WorldState) (side : Side) (k : ℕ) (c : Content) (events : List Happening) (end : WorldState) → after_happenings w events ≡ end
    → AreCalm w events → IsGoing w → NoneDiscarded end
    → (party_of w side).endpoint.sending.snd_una < rcv_position_of (party_of w (other side)) → IsOld (party_of w side) (party_of w (other side)) k c
    → SegmentIsAnswered side k w events → Lowers w end (IsFull (party_of end (other side)) (party_of w side))
unfolding after_happenings
answered-lowers w side k c events end reach calm h up behind old answered =
    let Q : Type 0 = IsFull (party_of end (other side)) (party_of w side) in
    split-lowers w answered.before (Happens (Deliver side k) ∷ answered.after) events end Q answered.form reach calm h up (λ on calm' hv still.
    let v = after_happenings w answered.before in
    let z = world_after v (Deliver side k) in
    let p = party_of v side in
    let q = party_of v (other side) in
    let is = still side in
    let old' = old-still (party_of w side) (party_of w (other side)) p q k c is old in
    let wakes = old-wakes p q v.life k c (kept-steady v hv.kept).least (side-pair v side hv.kept)
    (record { live = (going-live v side hv).1; read = hv.read (other side) }) old' in
    let has_pending : (party_of z (other side)).endpoint.pending.ack ≡ true = deliver-at (λ _ y. y.endpoint.pending.ack ≡ true) v side k wakes.0
    (ap (λ (y : PartyState). y.endpoint.pending.ack) wakes.1) in
    let same : after_happenings w (answered.before ++ (Happens (Deliver side k) ∷ [])) ≡ z =
    happenings-append w answered.before (Happens (Deliver side k) ∷ []) in
    let answers = subst (λ (u : WorldState). AnswerArrives (other side) u answered.after) same
    (answered.answered (subst (λ (u : WorldState). (party_of u (other side)).endpoint.pending.ack ≡ true) (sym same) has_pending)) in
    step-lowers v (Deliver side k) answered.after end Q on tt calm'.1 hv up (λ hz still'.
    let is' = still' side in
    let behind' : (party_of z side).endpoint.sending.snd_una < rcv_position_of (party_of z (other side)) =
    omega (arith, behind, is.snd_una_of_x, is.rcv_position_of_y, is'.snd_una_of_x, is'.rcv_position_of_y) in
    lowers-then z end (IsFull (party_of end (other side)) (party_of z (other (other side)))) Q
    (λ full. let at = subst (λ (s : Side). IsFull (party_of end (other side)) (party_of z s)) (twice side) full in
    omega (arith, at, is.rcv_position_of_x, is'.rcv_position_of_x, ap (λ (c : Config). c.recv_capacity) is.there.config, ap (λ (c : Config). c.recv_capacity) is'.there.config))
    (answers-lowers z (other side) answered.after end on calm'.1 hz up
    (subst (λ (s : Side). (party_of z s).endpoint.sending.snd_una < rcv_position_of (party_of z (other side))) (sym (twice side)) behind') answers)))

-- ---- WHAT GOES OUT FIRST after the timeout covers SND.UNA; and the next position too, where two bytes of text are in flight
abbrev pub IsNarrow : PartyState → PartyState → Type 0
IsNarrow p q =
    rcv_position_of q ≡ p.endpoint.sending.snd_una + 1 → p.endpoint.sending.snd_una + 2 ≤ p.endpoint.sending.snd_nxt
    → p.endpoint.sending.snd_una + 2 ≤ 1 + length p.accepted → ⊥

-- it covers what q wants, or it covers SND.UNA, and q has all of a segment of one byte
abbrev pub GoesFirst : PartyState → PartyState → Type 0
GoesFirst p q =
    CoversNext (after_retransmit p.endpoint) (rcv_position_of q) ⊎ (CoversNext (after_retransmit p.endpoint) p.endpoint.sending.snd_una × IsNarrow p q)

room-for_two : (p q : PartyState) → IsSteadyPair p q → 2 ≤ text_limit p.endpoint
room-for_two p q h = omega (arith, h.there.mss, h.pair.there.alone.config.good.1.0, report_options_short p.endpoint)

pub again-first : (p q : PartyState) → IsSteadyPair p q → IsLive p → sends_text p.endpoint.phase ≡ true → p.endpoint.pending.reset ≡ None
    → p.endpoint.sending.snd_una < p.endpoint.sending.snd_nxt → p.endpoint.sending.snd_una ≤ rcv_position_of q → GoesFirst p q
unfolding after_retransmit
again-first p q h live sends clear flight had =
    let s = p.endpoint in
    let d = s.sending in
    let t = after_retransmit s in
    let past = no-handshake s.phase (sends-synchronized s.phase sends) in
    let may : MaySend s = record { phase = sends; reset = clear; syn = no-syn-pending p q h past; limit = has-room p q h } in
    let keeps : KeepsFlight d t.sending = timeout-keeps s may flight in
    let there : (position : ℕ) → d.snd_una ≤ position → position < d.snd_nxt → IsInFlight t.sending position = λ position least most.
    flight-kept d t.sending position keeps (in-flight p q position h live sends least most) in
    let last = end-is d p.accepted p.closed (live-sends p q h live) in
    elim (resent t d.snd_una (timeout-resends s may flight)) [
      | inl none ↦ absurd (none.past d.snd_una (there d.snd_una (omega arith) flight) (omega arith))
      | inr out ↦
          let first = out.covers d.snd_una (there d.snd_una (omega arith) flight) (omega arith) out.more in
          elim (cases_lt (d.snd_una + 1) d.snd_nxt) [
            | inr one ↦ inr (first, λ _ two _. omega (arith, one, two))
            | inl two ↦ elim (cases_lt (d.snd_una + 1) (1 + length p.accepted)) [
              | inr one ↦ inr (first, λ _ _ text. omega (arith, one, text))
              | inl text ↦
                  let flying = there (d.snd_una + 1) (omega arith) two in
                  let queued = (there d.snd_una (omega arith) flight).queued in
                  let next = out.wide queued (omega (arith, last, text, ap length keeps.queued, keeps.released)) (omega (arith, two, keeps.snd_nxt))
                  (room-for_two p q h) in
                  let second = out.covers (d.snd_una + 1) flying (omega arith) (omega (arith, next)) in
                  elim (cases_lt (rcv_position_of q) (d.snd_una + 1)) [
                    | inl here ↦ inl (subst (CoversNext t) (omega (arith, here, had)) first)
                    | inr on ↦ elim (cases_lt (d.snd_una + 1) (rcv_position_of q)) [
                      | inl far ↦ inr (first, λ at _ _. omega (arith, far, at))
                      | inr at ↦ inl (subst (CoversNext t) (omega (arith, on, at)) second)
                    ]
                  ]
            ]
          ]
    ]

-- ---- A SEGMENT THAT IS ANSWERED arrives
after-parts : (side : Side) (k : ℕ) (xs ys : List Happening) → Arrives side k (xs ++ (Happens (Deliver side k) ∷ ys))
after-parts side k [] ys = inl refl
after-parts side k (x ∷ xs) ys = inr (after-parts side k xs ys)

answered-comes : (side : Side) (k : ℕ) (w : WorldState) (list : List Happening) → SegmentIsAnswered side k w list → Arrives side k list
answered-comes side k w list answered = subst (Arrives side k) (sym answered.form) (after-parts side k answered.before answered.after)

-- ---- IT EMITS what is old to the other, and is answered
old-lowers : (v : WorldState) (side : Side) (c : Content) (later : List Happening) (end : WorldState) → after_happenings (world_after v (Emit side)) later ≡ end
    → AreCalm (world_after v (Emit side)) later → IsGoing v → NoneDiscarded end
    → (party_of v side).endpoint.sending.snd_una < rcv_position_of (party_of v (other side))
    → IsOld (party_after_emission (party_of v side)) (party_of v (other side)) (length (party_of v side).sent) c
    → SegmentIsAnswered side (length (party_of v side).sent) (world_after v (Emit side)) later
    → Lowers v end (((party_of v side).endpoint.sending.snd_una < rcv_position_of (party_of v (other side))) ×
    IsFull (party_of end (other side)) (party_of v side))
old-lowers v side c later end reach calm h up behind old answered =
    let p = party_of v side in
    let q = party_of v (other side) in
    let k = length p.sent in
    let x = world_after v (Emit side) in
    step-lowers v (Emit side) later end _ reach tt calm h up (λ hx still.
    let is = still side in
    lowers-then x end (IsFull (party_of end (other side)) (party_of x side)) _
    (λ full. (behind, full-back p q (party_of x side) (party_of x (other side)) (party_of end (other side)) is full))
    (answered-lowers x side k c later end reach calm hx up (omega (arith, behind, is.snd_una_of_x, is.rcv_position_of_y)) (emit-at (λ x y. IsOld x y k c) v side old)
    answered))

-- ---- IT EMITS what covers SND.UNA: something is brought on, or what it said is old, and the other answers beyond the window
first-lowers : (v : WorldState) (side : Side) (later : List Happening) (end : WorldState) → after_happenings (world_after v (Emit side)) later ≡ end
    → AreCalm (world_after v (Emit side)) later → IsGoing v → NoneDiscarded end → CoversNext (party_of v side).endpoint (party_of v side).endpoint.sending.snd_una
    → 1 ≤ (party_of v side).endpoint.sending.snd_una → SegmentIsAnswered side (length (party_of v side).sent) (world_after v (Emit side)) later
    → Lowers v end (((party_of v side).endpoint.sending.snd_una < rcv_position_of (party_of v (other side))) ×
    IsFull (party_of end (other side)) (party_of v side))
first-lowers v side later end reach calm h up covers least answered =
    let p = party_of v side in
    let q = party_of v (other side) in
    let k = length p.sent in
    let pair = side-pair v side h.kept in
    let live = going-live v side h in
    let x = world_after v (Emit side) in
    let come = answered-comes side k x later answered in
    let goes = fresh-emitted p q pair covers.due covers.is_due covers.segment covers.form covers.no_rst covers.no_syn in
    elim (cases_lt (rcv_position_of q) (covers.start + count_numbers covers.segment)) [
      | inl beyond ↦
          inl (subst (λ (u : WorldState). left_in u < left_in v) reach (useful-sent v side later calm h (record {
            start = _;
            content = _;
            fresh = goes;
            use_of = inl (omega (arith, covers.starts, covers.begins, pair.pair.there.between), omega (arith, covers.starts, beyond));
          }) come (subst NoneDiscarded (sym reach) up)))
      | inr had ↦
          let pair' = subst (λ (y : PartyState). IsSteadyPair (party_of x side) y) (emit-other v side)
          (side-pair x side (steps-event v (Emit side) tt h.kept).kept) in
          let pair'' = subst (λ (y : PartyState). IsSteadyPair y q) (emit-party v side) pair' in
          let old = brought-old p (party_after_emission p) q k (start_of p.endpoint.sending covers.due) covers.segment pair pair'' (still-emission p) goes
          (omega (arith, covers.starts, covers.begins)) (omega (arith, covers.starts, covers.ends)) (omega (arith, covers.starts, had))
          (pair.there.sent.taken live.1.opened) least in
          old-lowers v side covers.segment later end reach calm h up (omega (arith, covers.ends, had)) old answered
    ]

-- ---- IN SYN-RECEIVED it emits its SYN, which is old
opens-lowers : (v : WorldState) (side : Side) (later : List Happening) (end : WorldState) → after_happenings (world_after v (Emit side)) later ≡ end
    → AreCalm (world_after v (Emit side)) later → IsGoing v → NoneDiscarded end → due_of (party_of v side).endpoint ≡ Some Syn
    → (party_of v side).endpoint.sending.snd_una ≡ 0 → SegmentIsAnswered side (length (party_of v side).sent) (world_after v (Emit side)) later
    → Lowers v end (((party_of v side).endpoint.sending.snd_una < rcv_position_of (party_of v (other side))) ×
    IsFull (party_of end (other side)) (party_of v side))
opens-lowers v side later end reach calm h up due snd_una answered =
    let p = party_of v side in
    let q = party_of v (other side) in
    let pair = side-pair v side h.kept in
    let live = going-live v side h in
    let alone = syn-alone p q pair live.0 snd_una in
    let all : rcv_position_of q ≡ 1 = omega (arith, alone.1, pair.there.sent.taken live.1.opened) in
    let old = syn-old p q pair due live.0.opened (ap has_peer alone.0) snd_una all in
    old-lowers v side (syn_segment p.endpoint) later end reach calm h up (omega (arith, snd_una, all)) old answered

-- ---- WHAT A HALF LEAVES, where nothing is brought on: nothing from p to q, or q has filled p's window and p's first segment is narrow
abbrev pub IsHalved : PartyState → PartyState → PartyState → Type 0
IsHalved p q q' =
    ((all_of p ≤ p.endpoint.sending.snd_una) × (all_of p ≤ rcv_position_of q))
    ⊎ ((p.endpoint.sending.snd_una < rcv_position_of q) × IsFull q' p × IsNarrow p q)

halved-still : (x y x' y' q' : PartyState) → AreStill x y x' y' → IsHalved x' y' q' → IsHalved x y q'
halved-still x y x' y' q' still (inl done) =
    let alls : all_of x' ≡ all_of x = omega (arith, ap length still.there.accepted, ap one_if still.there.closed) in
    inl (omega (arith, done.0, alls, still.snd_una_of_x), omega (arith, done.1, alls, still.rcv_position_of_y))
halved-still x y x' y' q' still (inr stopped) = inr (
  omega (arith, stopped.0, still.snd_una_of_x, still.rcv_position_of_y),
  full-back x y x' y' q' still stopped.1,
  λ at two text. stopped.2 (omega (arith, at, still.snd_una_of_x, still.rcv_position_of_y)) (omega (arith, two, still.snd_una_of_x, still.there.snd_nxt))
      (omega (arith, text, still.snd_una_of_x, ap length still.there.accepted)),
)

-- ---- THE TIMEOUT EXPIRES, and it emits
module _ (u : WorldState) (side : Side) (after : List Happening) (end : WorldState)
    (reach : after_happenings (world_after (world_after u (Timer side Retransmit)) (Emit side)) after ≡ end)
    (calm : AreCalm (world_after (world_after u (Timer side Retransmit)) (Emit side)) after) (h : IsGoing u)
    (up : NoneDiscarded end) (answered : IfSome (due_of (after_retransmit (party_of u side).endpoint))
    (λ due. SegmentIsAnswered side (length (party_of u side).sent) (world_after (world_after u (Timer side Retransmit)) (Emit side)) after)) where
  abbrev v : WorldState
  v = world_after u (Timer side Retransmit)

  abbrev p : PartyState
  p = party_of u side

  abbrev q : PartyState
  q = party_of u (other side)

  -- what is due is answered
  is-answered : (due : Due) → due_of (after_retransmit p.endpoint) ≡ Some due
      → SegmentIsAnswered side (length (party_of v side).sent) (world_after v (Emit side)) after
  unfolding party_after_timer
  is-answered due is =
      let sent : (party_of v side).sent ≡ p.sent = timer-at (λ x _. x.sent ≡ p.sent) u side refl in
      let plain = subst (λ (o : Option Due). IfSome o (λ due. SegmentIsAnswered side (length p.sent) (world_after v (Emit side)) after)) is answered in
      subst (λ (n : ℕ). SegmentIsAnswered side n (world_after v (Emit side)) after) (ap length (sym sent)) plain

  -- over the timeout
  over-timeout : (Q : Type 0) → (IsGoing v → IsStillFrom u v → Lowers v end Q) → Lowers u end Q
  unfolding after_happenings
  over-timeout Q next = step-lowers u (Timer side Retransmit) (Happens (Emit side) ∷ after) end Q reach tt (tt, calm) h up next

  covered : CoversNext (after_retransmit p.endpoint) (rcv_position_of q) → Lowers u end (IsHalved p q (party_of end (other side)))
  unfolding party_after_timer
  covered covers = over-timeout _ (λ hv still.
      let covers' = timer-at (λ x y. CoversNext x.endpoint (rcv_position_of y)) u side covers in
      let k = length (party_of v side).sent in
      let comes = answered-comes side k (world_after v (Emit side)) after (is-answered covers.due covers.is_due) in
      inl (subst (λ (z : WorldState). left_in z < left_in v) reach (covering-sent v side after calm hv covers' comes (subst NoneDiscarded (sym reach) up))))

  -- what the emission leaves
  stopped : IsNarrow p q → IsStillFrom u v
      → (((party_of v side).endpoint.sending.snd_una < rcv_position_of (party_of v (other side))) × IsFull (party_of end (other side)) (party_of v side))
      → IsHalved p q (party_of end (other side))
  stopped narrow still is =
      let at = still side in
      inr (
        omega (arith, is.0, at.snd_una_of_x, at.rcv_position_of_y),
        full-back p q (party_of v side) (party_of v (other side)) (party_of end (other side)) at is.1,
        narrow,
      )

  first : CoversNext (after_retransmit p.endpoint) p.endpoint.sending.snd_una → 1 ≤ p.endpoint.sending.snd_una → IsNarrow p q
      → Lowers u end (IsHalved p q (party_of end (other side)))
  unfolding party_after_timer
  first covers least narrow = over-timeout _ (λ hv still.
      let at = still side in
      let covers' = subst (CoversNext (party_of v side).endpoint) (sym at.snd_una_of_x)
      (timer-at (λ x y. CoversNext x.endpoint p.endpoint.sending.snd_una) u side covers) in
      lowers-then v end _ _ (stopped narrow still)
      (first-lowers v side after end reach calm hv up covers' (omega (arith, least, at.snd_una_of_x)) (is-answered covers.due covers.is_due)))

  opens : due_of (after_retransmit p.endpoint) ≡ Some Syn → p.endpoint.sending.snd_una ≡ 0 → p.endpoint.sending.snd_nxt ≡ 1
      → Lowers u end (IsHalved p q (party_of end (other side)))
  opens due snd_una one = over-timeout _ (λ hv still.
      let at = still side in
      lowers-then v end _ _ (stopped (λ _ two _. omega (arith, two, snd_una, one)) still)
      (opens-lowers v side after end reach calm hv up (ap due_of (timer-endpoint u side) ∙ due) (at.snd_una_of_x ∙ snd_una) (is-answered Syn due)))

  -- ONE HALF
  pub from-timeout : p.endpoint.pending.reset ≡ None → Lowers u end (IsHalved p q (party_of end (other side)))
  from-timeout clear =
      let s = p.endpoint in
      let pair = side-pair u side h.kept in
      let live = going-live u side h in
      let had = pair.pair.there.between in
      let taken = pair.there.sent.taken live.1.opened in
      elim (cases_lt s.sending.snd_una s.sending.snd_nxt) [
        | inl flight ↦ elim (live-in p q pair live.0) [
          | inl handshake ↦ opens (syn-due s (ap is_handshake handshake.0) clear) handshake.1 handshake.2
          | inr rest ↦ elim rest.1 [
            | inr acked ↦ absurd (omega (arith, flight, acked-all s acked))
            | inl sends ↦ elim (again-first p q pair live.0 sends clear flight had) [
              | inl covers ↦ covered covers
              | inr narrow ↦ first narrow.0 rest.0 narrow.1
            ]
          ]
        ]
        | inr none ↦
            let idle : s.sending.snd_una ≡ s.sending.snd_nxt = omega (arith, none, pair.pair.there.alone.sends.order) in
            elim (cases_lt s.sending.snd_nxt (all_of p)) [
              | inl more ↦
                  let sends = unsent-sends p q pair live.0 idle more in
                  let past = no-handshake s.phase (sends-synchronized s.phase sends) in
                  let may : MaySend s = record { phase = sends; reset = clear; syn = no-syn-pending p q pair past; limit = has-room p q pair } in
                  let goes = new_lem s may
                  (record { idle = idle; waits = waits p q pair live.0 (past-syn p q pair sends) idle more; range = pair.there.range }) in
                  covered (subst (CoversNext (after_retransmit s)) (omega (arith, idle, had, taken)) goes.0)
              | inr all ↦ inr (inl (omega (arith, all, idle), omega (arith, all, idle, had)))
            ]
      ]

-- ---- A SIDE HAS A HALF among these events: something is brought on, or it is halved
pub half-lowers : (w : WorldState) (side : Side) (events : List Happening) (end : WorldState) → after_happenings w events ≡ end
    → AreCalm w events → IsGoing w → NoneDiscarded end → HasHalfTurn side w events
    → Lowers w end (IsHalved (party_of w side) (party_of w (other side)) (party_of end (other side)))
unfolding after_happenings
half-lowers w side events end reach calm h up half =
    let tail = timeout side ++ half.after in
    split-lowers w half.before tail events end _ half.form reach calm h up (λ on calm' hu still.
    let u = after_happenings w half.before in
    let same : after_happenings w (half.before ++ timeout side) ≡ world_after (world_after u (Timer side Retransmit)) (Emit side) =
    happenings-append w half.before (timeout side) in
    let answered = subst (λ (x : WorldState). IfSome (due_of (after_retransmit (party_of u side).endpoint))
    (λ due. SegmentIsAnswered side (length (party_of u side).sent) x half.after)) same half.answered in
    lowers-then u end _ _ (halved-still _ _ (party_of u side) (party_of u (other side)) (party_of end (other side)) (still side))
    (from-timeout u side half.after end on calm'.1.1 hu up answered half.no_reset))
