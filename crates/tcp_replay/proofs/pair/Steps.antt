-- FROM STEP TO STEP: what was true stays true, and what an event must keep at the party where it happens, for both directions to stay sound.
use Rattle.tcp_replay.proofs.Words.{◌+◌, ◌++◌, ◌-◌, ◌<◌, [], after_discarding, after_orderly_end, ap, append-nil, AreOwn, arith, Bool, Config, Content}
use Rattle.tcp_replay.proofs.Words.{DeliversPrefix, discards, drop, drop-append-le, encoded_bytes, Ending, false, has_discarded, has_peer, inl, inr}
use Rattle.tcp_replay.proofs.Words.{IsAlone, IsOfUser, IsOwn, IsSoundEnd, IsSoundPair, IsTruthful, IsWritable, length, length-append, length-drop, List}
use Rattle.tcp_replay.proofs.Words.{None, NotEnded, number, Option, option_to_list, PartyState, rcv_position_of, Receiving, refl, SentSegment, slice_get}
use Rattle.tcp_replay.proofs.Words.{Some, SpeaksTo, StandsAt, State, subst, suc, sym, take, take-append-le, Takes, true, WaitingReset, with_ack_pending}
use Rattle.tcp_replay.proofs.Words.{with_reset, Witness, witness_of, zero, ◌||◌, ℕ, ◌∙◌, ◌∷◌, ◌≡◌, ◌≤◌, ◌⊎◌, ⊎_elim}
use Rattle.tcp_replay.proofs.{Lists.one_if, pair.Halves.delivers-discarded, pair.Halves.delivers-more, pair.Halves.takes-discarded, pair.Halves.takes-more, one_end.Phases.discards-not_ended}
use Rattle.tcp_replay.proofs.{one_end.Alone.alone-ack_pending, one_end.Alone.alone-discarded, one_end.Alone.alone-orderly, one_end.Alone.alone-with_pending, one_end.Alone.alone-reset, one_end.Alone.first_reset-keeps}

-- an end that has more to show than before
pub record Grows (x x' : Witness) : Type 0 where
  pub iss : x'.iss ≡ x.iss
  pub irs : x'.irs ≡ x.irs
  pub more : List ℕ
  pub accepted : x'.accepted ≡ x.accepted ++ more
  -- after a close nothing more is accepted
  pub closed : x.closed ≡ true → (more ≡ []) × (x'.closed ≡ true)
  pub opened : x.opened ≡ true → x'.opened ≡ true
  pub next : x.next ≤ x'.next

-- an end shows what it shows
pub grows-same : (x : Witness) → Grows x x
grows-same x =
    record { iss = refl; irs = refl; more = []; accepted = sym (append-nil x.accepted); closed = λ e. (refl, e); opened = λ e. e; next = omega arith }

within-grows : (position : ℕ) (old more new : List ℕ) (closed closed' : Bool) → new ≡ old ++ more → (closed ≡ true → (more ≡ []) × (closed' ≡ true))
    → position ≤ 1 + length old + one_if closed → position ≤ 1 + length new + one_if closed'
within-grows position old more new true closed' e fixed h = rw (fixed refl).1 (omega (arith, h, ap length e, length-append old more))
within-grows position old more new false closed' e fixed h = omega (arith, h, ap length e, length-append old more)

text-grows : (position : ℕ) (text old more new : List ℕ) → new ≡ old ++ more → 1 ≤ position → position + length text ≤ 1 + length old
    → text ≡ take (length text) (drop (position - 1) old) → text ≡ take (length text) (drop (position - 1) new)
text-grows position text old more new e least fits h =
    let inside : position - 1 ≤ length old = omega arith in
    let room : length text ≤ length (drop (position - 1) old) = omega (arith, length-drop (position - 1) old) in
    h ∙ sym (take-append-le (length text) (drop (position - 1) old) more room)
    ∙ ap (take (length text)) (sym (drop-append-le (position - 1) old more inside) ∙ ap (drop (position - 1)) (sym e))

-- a number that is not 0 is at least 1
pub positive : (n : ℕ) → (n ≡ 0 → ⊥) → 1 ≤ n
positive zero h = absurd (h refl)
positive (suc n) h = omega arith

-- a segment with text isn't at the SYN's position
pub position-of_text : (iss : ℕ) (accepted : List ℕ) (closed : Bool) (v : Content) → (h : IsOfUser iss accepted closed v) → 0 < length v.text → 1 ≤ h.position
position-of_text iss accepted closed v h some =
    positive h.position (λ none. let empty : length v.text ≡ 0 = ap length (h.bare none).0 in omega (arith, some, empty))

-- of one end's stream, while more is accepted
pub of_user-grows : (iss iss' : ℕ) (accepted more new : List ℕ) (closed closed' : Bool) (v : Content) → iss' ≡ iss → new ≡ accepted ++ more
    → (closed ≡ true → (more ≡ []) × (closed' ≡ true))
    → IsOfUser iss accepted closed v → IsOfUser iss' new closed' v
of_user-grows iss iss' accepted more new closed closed' v same_iss e fixed h = record {
  position = h.position;
  seq = h.seq ∙ ap (λ s. number s h.position) (sym same_iss);
  within = within-grows h.position accepted more new closed closed' e fixed h.within;
  has_syn = h.has_syn;
  bare = h.bare;
  fits = λ some. omega (arith, ap length e, length-append accepted more, h.fits some);
  text = λ some. text-grows h.position v.text accepted more new e (position-of_text iss accepted closed v h some) (h.fits some) (h.text some);
  has_fin = λ told.
      let shut = fixed (h.has_fin told).0 in
      let same : length new ≡ length accepted = ap length e ∙ ap (λ xs. length (accepted ++ xs)) shut.0 ∙ ap length (append-nil accepted) in
      (shut.1, omega (arith, same, (h.has_fin told).1));
}

truthful-grows : (x x' : Witness) (v : Content) → Grows x x' → IsTruthful x v → IsTruthful x' v
truthful-grows x x' v g h = record {
  own = of_user-grows x.iss x'.iss x.accepted g.more x'.accepted x.closed x'.closed v g.iss g.accepted g.closed h.own;
  has_ack = λ told. let a = h.has_ack told in record {
    opened = g.opened a.opened;
    position = a.position;
    least = a.least;
    most = omega (arith, a.most, g.next);
    number = a.number ∙ ap (λ s. number s a.position) (sym g.irs);
  };
}

stands-grows : (x x' : Witness) (v : Content) (position wanted : ℕ) → Grows x x' → StandsAt x v position wanted → StandsAt x' v position wanted
unfolding truthful-grows of_user-grows
stands-grows x x' v position wanted g h = record { truth = truthful-grows x x' v g h.truth; position_is = h.position_is; wanted_is = h.wanted_is }

-- what was emitted stays truthful while its end has more to show
pub own-grows : (x y x' y' : PartyState) (sent : SentSegment) → x'.endpoint.config.addr.0 ≡ x.endpoint.config.addr.0
    → y'.endpoint.config.addr.0 ≡ y.endpoint.config.addr.0
    → Grows (witness_of x y) (witness_of x' y') → IsOwn x y sent → IsOwn x' y' sent
own-grows x y x' y' sent src dst g h = record {
  content = h.content;
  valid = h.valid;
  spelled =
      h.spelled ∙ ap (λ a. encoded_bytes a y.endpoint.config.addr.0 h.content) (sym src) ∙ ap (λ b. encoded_bytes x'.endpoint.config.addr.0 b h.content)
      (sym dst);
  truthful = λ plain. stands-grows (witness_of x y) (witness_of x' y') h.content sent.position sent.wanted g (h.truthful plain);
}

-- Party p became p', while its peer q stayed.
pub record Moved (p p' q : PartyState) : Type 0 where
  pub here : IsSoundEnd p' q
  pub config : p'.endpoint.config ≡ p.endpoint.config
  pub grows : Grows (witness_of p q) (witness_of p' q)

-- its end may be in this state
abbrev pub Kept : PartyState → PartyState → State → Type 0
Kept p q s = Moved p (record p { endpoint = s }) q

-- what it emitted, where it emitted something
pub record Emitted (p p' q : PartyState) : Type 0 where
  pub new : Option SentSegment
  pub sent : p'.sent ≡ p.sent ++ option_to_list new
  pub own : (g : SentSegment) → new ≡ Some g → IsOwn p q g

-- an end may stay as it is
pub kept-same : (p q : PartyState) → IsSoundPair p q → Kept p q p.endpoint
kept-same p q h = record { here = h.there; config = refl; grows = grows-same (witness_of p q) }

-- a member of a list to which one was added, or none
pub slice_get-more : {A : Type 0} (sent : List A) (new : Option A) (k : ℕ) (g : A) → slice_get (sent ++ option_to_list new) k ≡ Some g
    → (slice_get sent k ≡ Some g) ⊎ (new ≡ Some g)
slice_get-more [] None k g e = absurd (cc)
slice_get-more [] (Some last) zero g e = inr e
slice_get-more [] (Some last) (suc k) g e = absurd (cc)
slice_get-more (first ∷ sent) new zero g e = inl e
slice_get-more (first ∷ sent) new (suc k) g e = slice_get-more sent new k g e

-- its peer has what it had
grows-of_peer : (p p' q : PartyState) → p'.endpoint.config ≡ p.endpoint.config → Grows (witness_of q p) (witness_of q p')
grows-of_peer p p' q config = record {
  iss = refl;
  irs = ap (λ (c : Config). c.isn.0) config;
  more = [];
  accepted = sym (append-nil q.accepted);
  closed = λ e. (refl, e);
  opened = λ e. e;
  next = omega arith;
}

there-from-move : (p p' q : PartyState) → Moved p p' q → Emitted p p' q → AreOwn p q → AreOwn p' q
there-from-move p p' q h e own k g is =
    let addr : p'.endpoint.config.addr.0 ≡ p.endpoint.config.addr.0 = ap (λ (c : Config). c.addr.0) h.config in
    own-grows p q p' q g addr refl h.grows
    (⊎_elim (λ (old : slice_get p.sent k ≡ Some g). own k g old) (λ (last : e.new ≡ Some g). e.own g last)
    (slice_get-more p.sent e.new k g (subst (λ (sent : List SentSegment). slice_get sent k ≡ Some g) e.sent is)))

back-from-move : (p p' q : PartyState) → Moved p p' q → IsSoundEnd q p → IsSoundEnd q p'
back-from-move p p' q h back = record {
  alone = back.alone;
  speaks = subst (λ (c : Config). SpeaksTo q.endpoint c.addr.0) (sym h.config) back.speaks;
  takes = subst (λ (c : Config). Takes q.endpoint.receiving c.isn.0 p'.accepted p'.closed) (sym h.config)
      (subst (λ (accepted : List ℕ). Takes q.endpoint.receiving p.endpoint.config.isn.0 accepted p'.closed) (sym h.grows.accepted)
      (takes-more q.endpoint.receiving p.endpoint.config.isn.0 p.accepted p.closed p'.closed h.grows.more h.grows.closed back.takes));
  delivers =
      subst (λ (accepted : List ℕ). DeliversPrefix q.endpoint.receiving.inbox.unread q.endpoint.receiving.ordered accepted p'.closed q.delivered q.ended
      (has_discarded q)) (sym h.grows.accepted)
      (delivers-more q.endpoint.receiving p.accepted p.closed p'.closed q.delivered h.grows.more q.ended (has_discarded q) h.grows.closed back.takes.order back.delivers);
  between = omega (arith, back.between, h.grows.next);
  limit = back.limit;
}

-- the peer keeps what it had
pub pair-from-move : (p p' q : PartyState) → Moved p p' q → Emitted p p' q → IsSoundPair p q → IsSoundPair p' q
pair-from-move p p' q h e pair = record {
  there = h.here;
  back = back-from-move p p' q h pair.back;
  own_there = there-from-move p p' q h e pair.own_there;
  own_back = λ k g is. own-grows q p q p' g refl (ap (λ (c : Config). c.addr.0) h.config) (grows-of_peer p p' q h.config) (pair.own_back k g is);
}

-- from the other side
pub pair-swapped : (p q : PartyState) → IsSoundPair p q → IsSoundPair q p
pair-swapped p q h = record { there = h.back; back = h.there; own_there = h.own_back; own_back = h.own_there }

-- the next position that a half wants
abbrev pub uncapped_rcv_position : Receiving → ℕ
uncapped_rcv_position r = 1 + r.ordered + one_if r.finished

-- from one state to another
pub kept-changed : (p q : PartyState) (s s' : State) → Kept p q s → s'.config ≡ s.config → IsAlone s' p.accepted p.closed → SpeaksTo s' q.endpoint.config.addr.0
    → Takes s'.receiving q.endpoint.config.isn.0 q.accepted q.closed
    → DeliversPrefix s'.receiving.inbox.unread s'.receiving.ordered q.accepted q.closed p.delivered p.ended (discards s'.ending)
    → s'.sending.snd_una ≤ rcv_position_of q → (s.receiving.opened ≡ true → s'.receiving.opened ≡ true) → uncapped_rcv_position s.receiving ≤ uncapped_rcv_position s'.receiving → Kept p q s'
kept-changed p q s s' h config alone speaks takes delivers between opened next =
    let limit : length p.accepted ≤ s'.config.limit = omega (arith, ap (λ (c : Config). c.limit) config, h.here.limit) in
    record {
      here = assumption;
      config = config ∙ h.config;
      grows = record {
        iss = ap (λ (c : Config). c.isn.0) config ∙ h.grows.iss;
        irs = h.grows.irs;
        more = h.grows.more;
        accepted = h.grows.accepted;
        closed = h.grows.closed;
        opened = λ e. opened (h.grows.opened e);
        next = omega (arith, h.grows.next, next);
      };
    }

-- what an end does by itself that moves neither what it received nor SND.UNA
pub kept-alone : (p q : PartyState) (s s' : State) → Kept p q s → s'.config ≡ s.config → IsAlone s' p.accepted p.closed → SpeaksTo s' q.endpoint.config.addr.0
    → s'.receiving ≡ s.receiving → discards s'.ending ≡ discards s.ending → s'.sending.snd_una ≤ rcv_position_of q → Kept p q s'
kept-alone p q s s' h config alone speaks receiving ending between =
    let takes : Takes s'.receiving q.endpoint.config.isn.0 q.accepted q.closed = rw receiving h.here.takes in
    let delivers : DeliversPrefix s'.receiving.inbox.unread s'.receiving.ordered q.accepted q.closed p.delivered p.ended (discards s'.ending) = rw
    (receiving, ending) h.here.delivers in
    kept-changed p q s s' h config alone speaks takes delivers between (λ e. ap (λ (r : Receiving). r.opened) receiving ∙ e) (omega (arith, ap uncapped_rcv_position receiving))

-- a reset to the peer waits, unless one did
pub kept-reset : (p q : PartyState) (s : State) (reset : WaitingReset) → IsWritable reset → reset.to.addr.0 ≡ q.endpoint.config.addr.0 → Kept p q s
    → Kept p q (with_reset s reset)
kept-reset p q s reset fits to h =
    let addr = q.endpoint.config.addr.0 in
    let alone = alone-reset s p.accepted p.closed reset fits h.here.alone in
    let waits = first_reset-keeps (λ (r : WaitingReset). r.to.addr.0 ≡ addr) s.pending.reset reset h.here.speaks.reset to in
    kept-alone p q s (with_reset s reset) h refl alone (record { peer = h.here.speaks.peer; reset = waits }) refl refl h.here.between

-- an acknowledgement is owed to the peer, whose SYN was taken
pub kept-with_pending : (p q : PartyState) (s : State) → has_peer s.phase ≡ true → s.receiving.opened ≡ true → Kept p q s → Kept p q (with_ack_pending s)
kept-with_pending p q s knows opened h =
    let alone = alone-with_pending s p.accepted p.closed knows opened h.here.alone in
    kept-alone p q s (with_ack_pending s) h refl alone (record { peer = h.here.speaks.peer; reset = h.here.speaks.reset }) refl refl h.here.between

-- an acknowledgement may be owed to it on a condition
pub kept-ack_pending : (p q : PartyState) (s : State) (adds_pending : Bool) → (adds_pending ≡ true → (has_peer s.phase ≡ true) × (s.receiving.opened ≡ true)) → Kept p q s
    → Kept p q (record s { pending = record s.pending { ack = s.pending.ack || adds_pending } })
kept-ack_pending p q s adds_pending fits h =
    let alone = alone-ack_pending s p.accepted p.closed adds_pending fits h.here.alone in
    kept-alone p q s _ h refl alone (record { peer = h.here.speaks.peer; reset = h.here.speaks.reset }) refl refl h.here.between

-- a reset or an abort ends the connection
pub kept-discarded : (p q : PartyState) (s : State) (ending : Ending) → discards ending ≡ true → Kept p q s → Kept p q (after_discarding s ending)
kept-discarded p q s ending gone h =
    kept-changed p q s (after_discarding s ending) h refl (alone-discarded s p.accepted p.closed ending gone h.here.alone)
    (record { peer = λ never. absurd (cc); reset = h.here.speaks.reset })
    (takes-discarded s.receiving q.endpoint.config.isn.0 q.accepted q.closed h.here.takes)
    (rw gone (delivers-discarded s.receiving q.accepted q.closed p.delivered p.ended (discards s.ending) h.here.delivers))
    h.here.between (λ e. e) (omega arith)

-- both sides closed, and both know it
pub kept-orderly : (p q : PartyState) (s : State) → s.ending ≡ NotEnded → Kept p q s → Kept p q (after_orderly_end s)
kept-orderly p q s going h =
    let none : false ≡ discards s.ending = sym (discards-not_ended s.ending going) in
    kept-alone p q s (after_orderly_end s) h refl (alone-orderly s p.accepted p.closed going h.here.alone)
    (record { peer = λ never. absurd (cc); reset = h.here.speaks.reset }) refl none h.here.between
