-- WHAT IS SURE TO COME AND BRINGS ON: a segment that is useful stays so until something is brought on, and brings on when it comes.
use Rattle.tcp_replay.proofs.Words.{◌+◌, ◌++◌, ◌<◌, [], after_emission, after_retransmit, AllByRecursion, ap, arith, Config, Content, count_numbers}
use Rattle.tcp_replay.proofs.Words.{Deliver, delivery_refusal, Due, due_of, Emit, EventContent, false, false≢true, has, IfSome, inl, inr, length, List}
use Rattle.tcp_replay.proofs.Words.{max, max_life, None, number, Option, other, party_after_arrival, party_after_emission, party_after_timer, party_of}
use Rattle.tcp_replay.proofs.Words.{PartyState, rcv_position_of, refl, Reset, rst, segment_at, segment_of, sends_text, Some, State, subst, suc, sym, true}
use Rattle.tcp_replay.proofs.Words.{WaitingReset, world_after, world_after_all, WorldState, zero, ℕ, ◌∙◌, ◌∷◌, ◌≡◌, ◌≤◌, ◌⊎◌}
use Rattle.tcp_progress.proofs.Words.{after_emissions, all_of, AllCome, Comes, CoversNext, Delivers, emissions, is_reset, IsCalm, IsIdle, IsLive}
use Rattle.tcp_progress.proofs.Words.{IsSteadyPair, least_life, left_in, left_of_both, MaySend, NoneDiscarded, served, Side}
use Rattle.tcp_progress.proofs.Lemmas.{after-append, again_lem, AreStill, calm-append, calm-emissions, deliver-at, delivered-in, delivered-next, emit-at}
use Rattle.tcp_progress.proofs.Lemmas.{flight-sends, fresh-emitted, going-live, has-room, in-flight, IsFresh, IsGoing, IsOpenTo, kept-steady, lowers}
use Rattle.tcp_progress.proofs.Lemmas.{steps-event, steps-left, timer-at, unsent-sends, waits, way-later}
use Rattle.tcp_replay.proofs.Lemmas.{none-some}
use Rattle.tcp_conn.specs.declared.emit.due.Due.TheVariants as dues
use Rattle.tcp_progress.proofs.Lemmas.{sends-synchronized, new_lem, no-handshake, no-syn-pending, over-served, past-syn, side-left, side-pair, steps-all}
use Rattle.tcp_replay.proofs.Lemmas.{waiting-bit, reset-waits}

-- ---- WHAT WAS FRESH STILL IS
wants-still : (p q p' q' : PartyState) → IsSteadyPair p q → IsSteadyPair p' q' → p.endpoint.receiving.opened ≡ true → AreStill p q p' q'
    → p'.endpoint.receiving.rcv_nxt ≡ p.endpoint.receiving.rcv_nxt
wants-still p q p' q' h h' opened still =
    h'.pair.there.takes.next (still.there.opened opened) ∙ ap (λ (c : Config). number c.isn.0 (rcv_position_of p')) still.back.config ∙ ap
    (number q.endpoint.config.isn.0) still.rcv_position_of_x ∙ sym (h.pair.there.takes.next opened)

-- while both are where they were
pub fresh-still : (p q p' q' : PartyState) (k start : ℕ) (v : Content) → IsSteadyPair p q → IsSteadyPair p' q' → p.endpoint.receiving.opened ≡ true
    → AreStill p q p' q' → IsFresh p q k start v → IsFresh p' q' k start v
fresh-still p q p' q' k start v h h' opened still f = record {
  g = f.g;
  way = way-later p q p' q' k f.g v still.there still.back f.way;
  starts = f.starts;
  wanted = f.wanted ∙ sym still.rcv_position_of_x;
  no_syn = f.no_syn;
  has_ack = f.has_ack;
  acks = f.acks ∙ sym (wants-still p q p' q' h h' opened still);
  src = f.src ∙ ap (λ (c : Config). c.port) (sym still.there.config);
  dst = f.dst ∙ ap (λ (c : Config). c.port) (sym still.back.config);
  seq = f.seq ∙ ap (λ (c : Config). number c.isn.0 start) (sym still.there.config);
  least = f.least;
  near = omega (arith, f.near, still.snd_una_of_x);
  most = omega (arith, f.most, still.there.snd_nxt);
  alone = f.alone;
  text = λ open_still. elim (f.text open_still) [
    | inl inside ↦ inl (omega (arith, inside, ap length still.there.accepted))
    | inr none ↦ inr none
  ];
}

-- ---- USEFUL: it covers what q wants next, or begins in q's window and acknowledges something new
pub record IsUseful (p q : PartyState) (k : ℕ) : Type 0 where
  pub start : ℕ
  pub content : Content
  pub fresh : IsFresh p q k start content
  pub use_of : ((start ≤ rcv_position_of q) × (rcv_position_of q < start + count_numbers content)) ⊎
      ((rcv_position_of q ≤ start) × (start < rcv_position_of q + q.endpoint.config.recv_capacity) × (q.endpoint.sending.snd_una < rcv_position_of p))

-- it stays so while both are where they were
pub useful-still : (p q p' q' : PartyState) (k : ℕ) → IsSteadyPair p q → IsSteadyPair p' q' → p.endpoint.receiving.opened ≡ true → AreStill p q p' q'
    → IsUseful p q k → IsUseful p' q' k
useful-still p q p' q' k h h' opened still u = record {
  start = u.start;
  content = u.content;
  fresh = fresh-still p q p' q' k u.start u.content h h' opened still u.fresh;
  use_of = elim u.use_of [
    | inl covers ↦ inl (omega (arith, covers.0, still.rcv_position_of_y), omega (arith, covers.1, still.rcv_position_of_y))
    | inr stands ↦ inr (
      omega (arith, stands.0, still.rcv_position_of_y),
      omega (arith, stands.1, still.rcv_position_of_y, ap (λ (c : Config). c.recv_capacity) still.back.config),
      omega (arith, stands.2, still.snd_una_of_y, still.rcv_position_of_x),
    )
  ];
}

-- and brings on when it comes
pub useful-delivered : (p q : PartyState) (life k : ℕ) → least_life ≤ life → life ≤ max_life → IsSteadyPair p q → p.endpoint.receiving.opened ≡ true
    → IsOpenTo q → IsUseful p q k → (delivery_refusal life p q k ≡ None) × (left_of_both p (party_after_arrival q p (segment_at p k)) < left_of_both p q)
unfolding party_after_arrival
useful-delivered p q life k least most h opened ready u =
    let sends = h.pair.there.alone.sends in
    elim u.use_of [
      | inl covers ↦
          let taken = delivered-next p q life k u.start u.content least most h opened ready u.fresh covers.0 covers.1 in
          (taken.0, omega (arith, covers.1, u.fresh.most, sends.most, taken.1.snd_una, taken.1.next, taken.2, h.pair.back.between))
      | inr stands ↦
          let taken = delivered-in p q life k u.start u.content least most h opened ready u.fresh stands.0 stands.1 in
          (taken.0, omega (arith, stands.2, taken.1.snd_una, taken.1.next, h.back.sent.taken opened, h.pair.back.alone.sends.most))
    ]

pub useful-now : (w : WorldState) (side : Side) (k : ℕ) → IsGoing w → IsUseful (party_of w side) (party_of w (other side)) k
    → left_in (world_after w (Deliver side k)) < left_in w
useful-now w side k h u =
    let live = going-live w side h in
    let steady = kept-steady w h.kept in
    let comes = useful-delivered (party_of w side) (party_of w (other side)) w.life k steady.least steady.most (side-pair w side h.kept) live.0.opened
    (record { live = live.1; read = h.read (other side) }) u in
    let less = deliver-at (λ x y. left_of_both x y < left_of_both (party_of w side) (party_of w (other side))) w side k comes.0 comes.1 in
    omega (arith, less, side-left (world_after w (Deliver side k)) side, side-left w side)

-- ---- WHAT IS USEFUL AND COMES BRINGS ON, whatever comes before it
pub useful-comes : (w : WorldState) (side : Side) (k : ℕ) (events : List EventContent) → AllByRecursion IsCalm events → IsGoing w
    → IsUseful (party_of w side) (party_of w (other side)) k → Delivers side k events → NoneDiscarded (world_after_all w events)
    → left_in (world_after_all w events) < left_in w
unfolding world_after_all
useful-comes w side k [] calm h u comes up = absurd comes
useful-comes w side k (event ∷ events) calm h u comes up =
    let v = world_after w event in
    let end = world_after_all v events in
    elim comes [
      | inl now ↦
          let less : left_in v < left_in w = subst (λ (e : EventContent). left_in (world_after w e) < left_in w) (sym now) (useful-now w side k h u) in
          omega (arith, less, steps-left v end (steps-all v events calm.1 (steps-event w event calm.0 h.kept).kept))
      | inr later ↦
          lowers w v end h (steps-event w event calm.0 h.kept) (steps-all v events calm.1) up (λ hv still.
          let u' = useful-still (party_of w side) (party_of w (other side)) (party_of v side) (party_of v (other side)) k (side-pair w side h.kept)
          (side-pair v side hv.kept) (going-live w side h).0.opened (still side) u in
          useful-comes v side k events calm.1 hv u' later up)
    ]

-- ---- ONE SIDE IS SERVED: where it has something in flight that the other hasn't taken, or nothing in flight and something
-- waits, what goes out is useful.
-- ---- AN END WITH NO RESET
abbrev pub cleared : State → State
cleared s = record s { pending = record s.pending { reset = None } }

-- where none waits
pub cleared-same : (s : State) → s.pending.reset ≡ None → cleared s ≡ s
cleared-same s e = ap (λ (r : Option WaitingReset). record s { pending = record s.pending { reset = r } }) (sym e)

-- a waiting reset goes first
pub reset-first : (s : State) (reset : WaitingReset) → s.pending.reset ≡ Some reset → (due_of s ≡ Some Reset) × (after_emission s ≡ cleared s)
unfolding after_emission due_of
reset-first s reset e = let same : (n : ℕ) → max n 0 ≡ n = λ n. omega arith in (rw e refl, rw (e, same) refl)

-- so what comes about after so many emissions without it comes about after one more at most
uncleared-by : (P : State → Type 0) (s : State) (waiting : Option WaitingReset) → s.pending.reset ≡ waiting → (count : ℕ) → P (after_emissions count (cleared s))
    → (n : ℕ) × (n ≤ suc count) × P (after_emissions n s)
uncleared-by P s None e count h = (count, omega arith, subst (λ (t : State). P (after_emissions count t)) (cleared-same s e) h)
uncleared-by P s (Some reset) e count h =
    (suc count, omega arith, subst (λ (t : State). P (after_emissions count t)) (sym (reset-first s reset e).1) h)

-- after the timeout
pub uncleared : (P : State → Type 0) (s : State) (count : ℕ) → P (after_emissions count (after_retransmit (cleared s)))
    → (n : ℕ) × (n ≤ suc count) × P (after_emissions n (after_retransmit s))
unfolding after_retransmit
uncleared P s count h = uncleared-by P (after_retransmit s) s.pending.reset refl count h

-- such an end may send
pub may-send-cleared : (p q : PartyState) → IsSteadyPair p q → sends_text p.endpoint.phase ≡ true → MaySend (cleared p.endpoint)
may-send-cleared p q h sends =
    let past = no-handshake p.endpoint.phase (sends-synchronized p.endpoint.phase sends) in
    record { phase = sends; reset = refl; syn = no-syn-pending p q h past; limit = has-room p q h }

-- IN FLIGHT AND NOT TAKEN, or UNSENT with nothing in flight
abbrev pub HasMore : PartyState → PartyState → Type 0
HasMore p q =
    (rcv_position_of q < p.endpoint.sending.snd_nxt)
    ⊎ ((p.endpoint.sending.snd_una ≡ p.endpoint.sending.snd_nxt) × (rcv_position_of q ≡ p.endpoint.sending.snd_nxt) × (p.endpoint.sending.snd_nxt < all_of p))

-- then a segment that covers what the other wants goes out after so many emissions
abbrev Covers : State → ℕ → Type 0
Covers s position = (count : ℕ) × CoversNext (after_emissions count s) position

timeout-covers : (p q : PartyState) → IsSteadyPair p q → IsLive p → HasMore p q → Covers (after_retransmit p.endpoint) (rcv_position_of q)
timeout-covers p q h live more =
    let s = p.endpoint in
    let position = rcv_position_of q in
    let cover : Covers (after_retransmit (cleared s)) position → Covers (after_retransmit s) position = λ c.
    let later = uncleared (λ t. CoversNext t position) s c.0 c.1 in (later.0, later.2) in
    elim more [
      | inl flight ↦
          let sends = flight-sends p q position h live (omega arith) h.pair.there.between flight in
          let again = again_lem (cleared s) position (may-send-cleared p q h sends) (in-flight p q position h live sends h.pair.there.between flight) in
          cover (again.1.count, again.1.covers)
      | inr unsent ↦
          let sends = unsent-sends p q h live unsent.0 unsent.2 in
          let goes = new_lem (cleared s) (may-send-cleared p q h sends)
          (record { idle = unsent.0; waits = waits p q h live (past-syn p q h sends) unsent.0 unsent.2; range = h.there.range }) in
          cover (0, subst (CoversNext (after_retransmit (cleared s))) (sym unsent.1) goes.0)
    ]

-- ---- IN THE WORLD
pub idle-stays : (n : ℕ) (s : State) → due_of s ≡ None → after_emissions n s ≡ s
unfolding after_emission
idle-stays zero s e = refl
idle-stays (suc n) s e = let same : after_emission s ≡ s = rw e refl in ap (after_emissions n) same ∙ idle-stays n s e

-- what goes out and is no reset comes
pub not-reset : (s : State) (due : Due) (v : Content) → due_of s ≡ Some due → v ≡ segment_of s due → has rst v.flags ≡ false → is_reset due ≡ false
unfolding segment_of
not-reset s dues.Reset v is form e =
    absurd (false≢true (sym e ∙ ap (λ (v : Content). has rst v.flags) form ∙ waiting-bit s s.pending.reset (reset-waits s is)))
not-reset s other v is form e = refl

-- and is delivered later
pub comes-due : (w : WorldState) (side : Side) (later : List EventContent) (due : Due) → due_of (party_of w side).endpoint ≡ Some due → is_reset due ≡ false
    → Comes w (Emit side) later → Delivers side (length (party_of w side).sent) later
comes-due w side later due e plain h =
    (subst (λ (o : Option Due). IfSome o (λ due. is_reset due ≡ false → Delivers side (length (party_of w side).sent) later)) e h) plain

-- ---- WHAT IS USEFUL GOES OUT, and comes: something is brought on
pub useful-out : (w : WorldState) (side : Side) (later : List EventContent) (due : Due) → AllByRecursion IsCalm later → IsGoing w
    → due_of (party_of w side).endpoint ≡ Some due → is_reset due ≡ false → IsUseful (party_after_emission (party_of w side)) (party_of w (other side))
    (length (party_of w side).sent) → Comes w (Emit side) later
    → NoneDiscarded (world_after_all (world_after w (Emit side)) later) → left_in (world_after_all (world_after w (Emit side)) later) < left_in w
useful-out w side later due calm h is plain u comes up =
    let k = length (party_of w side).sent in
    let v = world_after w (Emit side) in
    let come = comes-due w side later due is plain comes in
    lowers w v _ h (steps-event w (Emit side) tt h.kept) (steps-all v later calm) up (λ hv still. useful-comes v side k later calm hv (emit-at (λ x y. IsUseful x y k) w side u) come up)

-- what covers goes out at once
covering-out : (w : WorldState) (side : Side) (later : List EventContent) → AllByRecursion IsCalm later → IsGoing w
    → CoversNext (party_of w side).endpoint (rcv_position_of (party_of w (other side))) → Comes w (Emit side) later
    → NoneDiscarded (world_after_all (world_after w (Emit side)) later) → left_in (world_after_all (world_after w (Emit side)) later) < left_in w
covering-out w side later calm h covers comes up =
    let p = party_of w side in
    let plain = not-reset p.endpoint covers.due covers.segment covers.is_due covers.form covers.no_rst in
    useful-out w side later covers.due calm h covers.is_due plain (record {
      start = _;
      content = _;
      fresh = fresh-emitted p (party_of w (other side)) (side-pair w side h.kept) covers.due covers.is_due covers.segment covers.form covers.no_rst
          covers.no_syn;
      use_of = inl (omega (arith, covers.starts, covers.begins), omega (arith, covers.starts, covers.ends));
    }) comes up

-- or after so many emissions
covers-step : (side : Side) (later : List EventContent) → AllByRecursion IsCalm later → (w : WorldState) (n count : ℕ) → IsGoing w
    → CoversNext (after_emissions count (party_of w side).endpoint) (rcv_position_of (party_of w (other side))) → Comes w (Emit side) (emissions side n ++ later)
    → let v = world_after w (Emit side) in NoneDiscarded (world_after_all (world_after_all v (emissions side n)) later)
    → (left_in (world_after_all (world_after_all v (emissions side n)) later) < left_in w)
    ⊎ (Covers (party_of v side).endpoint (rcv_position_of (party_of v (other side))))
unfolding party_after_emission
covers-step side later calm w n zero h covers comes up =
    let events = emissions side n ++ later in
    let same = after-append (world_after w (Emit side)) (emissions side n) later in
    inl (rw (sym same) (covering-out w side events (calm-append (emissions side n) later (calm-emissions side n) calm) h covers comes (rw same up)))
covers-step side later calm w n (suc count) h covers comes up =
    inr (count, emit-at (λ x y. CoversNext (after_emissions count x.endpoint) (rcv_position_of y)) w side covers)

-- SERVED: what is left gets less
pub served-lowers : (n : ℕ) (w : WorldState) (side : Side) (later : List EventContent) → AllByRecursion IsCalm later → IsGoing w
    → HasMore (party_of w side) (party_of w (other side)) → IsIdle (world_after_all w (served side n)) side → AllCome w (served side n) later
    → NoneDiscarded (world_after_all (world_after_all w (served side n)) later) → left_in (world_after_all (world_after_all w (served side n)) later) < left_in w
unfolding party_after_timer
served-lowers n w side later calm h more idle come up =
    let covers = timeout-covers (party_of w side) (party_of w (other side)) (side-pair w side h.kept) (going-live w side h).0 more in
    let Ready : WorldState → Type 0 = λ v. Covers (party_of v side).endpoint (rcv_position_of (party_of v (other side))) in
    elim (over-served side later calm Ready (λ v k hv c comes up'. elim (covers-step side later calm v k c.0 hv c.1 comes up') [
      | inl less ↦ inl less
      | inr on ↦ inr (λ _ _. on)
    ]) n w h (λ _ _. (covers.0, timer-at (λ x y. CoversNext (after_emissions covers.0 x.endpoint) (rcv_position_of y)) w side covers.1)) come up) [
      | inl less ↦ less
      | inr c ↦ absurd (none-some c.1.due (sym idle ∙ ap due_of (sym (idle-stays c.0 _ idle)) ∙ c.1.is_due))
    ]
