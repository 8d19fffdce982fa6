-- TWO GUARDED ENDS (RFC 5961, 5.2): what lives passes, so that a world of guarded ends is one without guards, to which strangers may
-- send more.
use Rattle.std.proofs.Common.{◌+◌, ◌-◌, ◌<◌, ◌^◌, ◌&&◌, ◌||◌, if◌then◌else◌, nat_le, nat_lt, inl, inr}
use Rattle.std.proofs.lemmas.Bool.{cases_lt, le-ltb}
use Rattle.std.proofs.lemmas.Bool.Decides.{nat_tests}
use Rattle.tcp_replay.proofs.Words.{[], ◌∷◌, ap, ack, arith, BadChecksum, Bool, Content, decode_answer, DecodeError, Err, EventContent, false, has, HasBytes, IfSome}
use Rattle.tcp_replay.proofs.Words.{is_expired, IsOwn, IsSoundPair, Judgement, judgement, length, List, max_life, None, Ok, Option, other, party_of, PartyState}
use Rattle.tcp_replay.proofs.Words.{refl, refusal_of, rst, SentSegment, sent_at, side_of, slice_get, Some, State, subst, sym, true, world_from, WorldState, ℕ, ◌∙◌}
use Rattle.tcp_replay.proofs.Words.{◌≡◌, ◌≤◌, Deliver, Damage, segment_at, bytes_with_damage}
unfoldable use Rattle.tcp_replay.specs.World.{effect_of, party_after_arrival}
use Rattle.tcp_replay.specs.World.{stay_or, effect_in, world_after}
use Rattle.tcp_numbers.specs.Position.{distance, number}
use Rattle.tcp_numbers.proofs.Positions.{distance_numbers}
use Rattle.tcp_conn.specs.declared.arrive.judgement.Judgement.TheVariants.{Unacceptable}
use Rattle.tcp_conn.specs.Guard.{after_intake_of, is_kept_out, keeps_out_reading}
unfoldable use Rattle.tcp_conn.specs.Guard.{after_intake, guarded, is_elsewhere, is_old_ack, keeps_out}
use Rattle.tcp_replay.specs.Among.{Happening, Happens, Injection, Injects, lets_in}
use Rattle.tcp_replay.proofs.Words.{after_judgement, Result, WaitingReset, world_with_runs}
use Rattle.tcp_wire.specs.Checksum.{AreBytes}
use Rattle.tcp_wire.specs.Wire.{IsWire}
use Rattle.tcp_wire.proofs.RoundTrip.{IsWire_encoded}
use Rattle.tcp_replay.specs.Guarded.{after_guarded, by_guard, guarded_after, is_reading_passed, IsBlindToGuard, IsFairToGuard, party_after_passing, there_guarded}
use Rattle.tcp_replay.specs.Guarded.{world_with_guarded_injection}
unfoldable use Rattle.tcp_replay.specs.Guarded.{after_all_guarded, AreFairToGuard}
use Rattle.tcp_replay.specs.Safe.{IsSafe, HintsAreTrue, FindsDamage}
use Rattle.tcp_replay.proofs.Lemmas.{after_syn-opened, Comes, comes, damage-found, delivered-there, flags-in, IsAckOnly, IsAfterSyn, judged, own-decodes}
use Rattle.tcp_replay.proofs.Lemmas.{one_if-most, rcv_position-is, segment-sent, young-both}
use Rattle.tcp_replay.proofs.run.Passing.{in-passing, life-passing, passes, sound-passing}
use Rattle.tcp_replay.proofs.run.Worlds as worlds
use Rattle.tcp_progress.specs.Fair.{BurstEnds, CanHaveTurns, GetsThrough, NeverGrows, NoneDiscarded}
use Rattle.tcp_progress.specs.Guarded.{GuardedEventsAreEvents, GuardedGoesOn, GuardedIsSafe, InEveryGuardedWorld, InEveryWorldOfGuards, LetInWhatLives}
use Rattle.tcp_progress.specs.Guarded.{LetsInWhatLives, WhatLivesPasses}
use Rattle.tcp_progress.specs.Half.{CanHaveHalves, GetsThroughByHalves}
use Rattle.tcp_progress.specs.Handshake.{CanOpen, OpensAndGetsThrough}
use Rattle.tcp_progress.specs.Sent.{TakeOnlySent}
use Rattle.tcp_progress.specs.Settled.{IsLive, IsNotStuck, least_life}
use Rattle.tcp_progress.specs.Steady.{IsSteady, IsSteadyPair}
use Rattle.tcp_progress.proofs.Words.{A, B, Side, StepError}
use Rattle.tcp_progress.proofs.{handshake.BothOpen.opens-and, handshake.FinishedInEight.can-open, laws.Injected.among-strangers-with-runs}
use Rattle.tcp_progress.proofs.{laws.NotStuck.not_stuck-kept, steady.AdvertisedWindows.advertised-kept, steady.AlwaysSteady.IsKept, steady.AlwaysSteady.kept-after}
use Rattle.tcp_progress.proofs.{steady.AlwaysSteady.kept-steady, steady.AlwaysSteady.new-kept, steady.AlwaysSteady.side-pair, steady.Edges.edges-kept}
use Rattle.tcp_progress.proofs.{steady.FinsByState.stages-kept, steady.OnlySent.only_sent, steady.OnlySent.sent-kept, turn.BothHalves.halved-kept}
use Rattle.tcp_progress.proofs.{turn.CalmWorlds.left-kept, turn.Draining.bursts-end, turn.HalfTurnsHad.halves_had-kept, turn.Live.steady-back}
use Rattle.tcp_progress.proofs.{turn.Lowering.lowers_lem, turn.Turning.served-kept, turn.TurnsHad.turns-kept}

and-first : (a b : Bool) → a ≡ false → (a && b) ≡ false
and-first false b e = refl
and-first true b e = absurd (cc)

and-second : (a b : Bool) → b ≡ false → (a && b) ≡ false
and-second true b e = e
and-second false b e = refl

or-both : (a b : Bool) → a ≡ false → b ≡ false → (a || b) ≡ false
or-both false b e f = f
or-both true b e f = absurd (cc)

-- ---- BY POSITIONS: an acknowledgement whose lifetime isn't over isn't old,
old-none : (isn at una reach life : ℕ) → at < una + 2 ^ 31 → una < at + life → life ≤ reach → life ≤ 2 ^ 31
    → (nat_lt reach (distance (number isn at) (number isn una)) && nat_le (distance (number isn at) (number isn una)) (2 ^ 31)) ≡ false
old-none isn at una reach life ahead young wide most =
    let behind = distance (number isn at) (number isn una) in
    elim (cases_lt una at) [
      | inl new ↦
          let is : distance (number isn una) (number isn at) ≡ at - una = distance_numbers isn una at (omega (arith, new)) (omega (arith, ahead)) in
          let back : behind ≡ 2 ^ 32 - (at - una) = omega (arith, is, new, ahead) in
          let far : nat_le behind (2 ^ 31) ≡ false = grind (arith, nat_tests, back, new, ahead) in
          and-second (nat_lt reach behind) (nat_le behind (2 ^ 31)) far
      | inr same ↦
          let is : behind ≡ una - at = distance_numbers isn at una same (omega (arith, young, most)) in
          and-first (nat_lt reach behind) (nat_le behind (2 ^ 31)) (le-ltb reach behind (omega (arith, is, young, wide)))
    ]

-- and what its peer sent within its reach isn't from elsewhere
near-none : (irs at rcv capacity reach life : ℕ) → rcv < at + life → life ≤ reach → life ≤ 2 ^ 31 → at ≤ rcv + capacity + 1 → capacity ≤ 2 ^ 20
    → (nat_lt (capacity + 1) (distance (number irs rcv) (number irs at)) && nat_lt reach (distance (number irs at) (number irs rcv))) ≡ false
near-none irs at rcv capacity reach life young wide most within small =
    let ahead = distance (number irs rcv) (number irs at) in
    let behind = distance (number irs at) (number irs rcv) in
    elim (cases_lt rcv at) [
      | inl new ↦
          let is : ahead ≡ at - rcv = distance_numbers irs rcv at (omega (arith, new)) (omega (arith, within, small)) in
          and-first (nat_lt (capacity + 1) ahead) (nat_lt reach behind) (le-ltb (capacity + 1) ahead (omega (arith, is, within)))
      | inr old ↦
          let is : behind ≡ rcv - at = distance_numbers irs at rcv old (omega (arith, young, most)) in
          and-second (nat_lt (capacity + 1) ahead) (nat_lt reach behind) (le-ltb reach behind (omega (arith, is, young, wide)))
    ]

-- ---- A SEGMENT THAT x EMITTED, at y, where its lifetime isn't over
module _ (y x : PartyState) (life reach k : ℕ) (g : SentSegment) (h : IsSteadyPair y x) (most : life ≤ max_life) (wide : life ≤ reach)
    (at : slice_get x.sent k ≡ Some g) (living : is_expired life y.endpoint g ≡ false) where
  own : IsOwn x y g
  own = h.pair.own_back k g at

  coming : Comes y x y.endpoint own.content g.position g.wanted
  coming = comes y x life g most living h.pair own

  not-old : IsAckOnly own.content → is_old_ack reach y.endpoint own.content ≡ false
  unfolding is_old_ack
  not-old told =
      let s = y.endpoint in
      let stands = coming.truthful told.plain in
      let a = stands.truth.has_ack told.is_ack in
      let same = stands.wanted_is told.is_ack in
      let flags = flags-in x y g own in
      let young = (young-both life s g living (ap (has rst) (sym flags) ∙ told.plain)).acks_young (ap (has ack) (sym flags) ∙ told.is_ack) in
      let sends = h.pair.there.alone.sends in
      let ahead : a.position < s.sending.snd_una + 2 ^ 31 = omega (arith, a.most, coming.near, sends.ahead, sends.released, sends.capacity) in
      subst (λ n. (nat_lt reach (distance n (number s.config.isn.0 s.sending.snd_una)) && nat_le (distance n (number s.config.isn.0 s.sending.snd_una)) (2 ^ 31)) ≡ false)
      (sym a.number) (old-none s.config.isn.0 a.position s.sending.snd_una reach life ahead (omega (arith, same, young)) wide most)

  not-elsewhere : IsAfterSyn y.endpoint → IsAckOnly own.content → is_elsewhere reach y.endpoint own.content ≡ false
  unfolding is_elsewhere
  not-elsewhere after_syn told =
      let s = y.endpoint in
      let alone = h.pair.there.alone in
      let stands = coming.truthful told.plain in
      let user = stands.truth.own in
      let opened = after_syn-opened s.phase s.ending s.sending.snd_una s.sending.snd_nxt s.receiving.opened s.receiving.finished after_syn.shut
      after_syn.listening after_syn.syn_sent alone.progress in
      let next = h.pair.there.takes.next opened in
      let flags = flags-in x y g own in
      let young = (young-both life s g living (ap (has rst) (sym flags) ∙ told.plain)).young in
      let emitted = h.back.sent.emitted k g own.content at (own-decodes x y g own) told.plain in
      let edge = h.back.edge in
      let is = rcv_position-is y x h.pair in
      let rcv = 1 + s.receiving.ordered + (if s.receiving.finished then 1 else 0) in
      let whole : user.position ≤ 1 + length x.accepted + (if x.closed then 1 else 0) = user.within in
      let within : user.position ≤ rcv + s.config.recv_capacity + 1 = omega (arith, whole, one_if-most x.closed, stands.position_is, emitted, edge) in
      let small : s.config.recv_capacity ≤ 2 ^ 20 = alone.config.good.0.1.1 in
      subst (λ n. (nat_lt (s.config.recv_capacity + 1) (distance s.receiving.rcv_nxt n) && nat_lt reach (distance n s.receiving.rcv_nxt)) ≡ false) (sym user.seq)
      (subst (λ m. (nat_lt (s.config.recv_capacity + 1) (distance m (number x.endpoint.config.isn.0 user.position)) && nat_lt reach (distance (number x.endpoint.config.isn.0 user.position) m)) ≡ false)
      (sym next) (near-none x.endpoint.config.isn.0 user.position rcv s.config.recv_capacity reach life (omega (arith, young, is, stands.position_is)) wide most within small))

  abbrev Passes : Judgement → Type 0
  Passes j = is_kept_out reach j y.endpoint own.content ≡ false

  passed : (src dst : List ℕ) → Passes (judgement y.endpoint src dst own.content)
  passed src dst =
      judged y.endpoint own.content Passes (record {
        foreign = refl;
        reset_ignored = refl;
        stray = refl;
        ack_of_listen = refl;
        no_syn = refl;
        peer_opens = λ _ _. refl;
        ack_of_no_syn = refl;
        peer_refuses = refl;
        peer_accepts = λ _ _. refl;
        unacceptable = λ _. refl;
        peer_resets = refl;
        reset_elsewhere = λ _. refl;
        syn_in_window = λ _. refl;
        no_ack = refl;
        acks_unsent = λ _. refl;
        handshake_refused = refl;
        handshake_refused_shut = λ _. refl;
        taken = λ _ is. not-old is.ack_only;
        taken_shut = λ after_syn told. or-both (is_old_ack reach y.endpoint own.content) (is_elsewhere reach y.endpoint own.content) (not-old told)
            (not-elsewhere after_syn told);
      }) src dst

  living-passes : keeps_out reach y.endpoint x.endpoint.config.addr.0 y.endpoint.config.addr.0 g.bytes ≡ false
  unfolding keeps_out
  living-passes =
      ap (keeps_out_reading reach y.endpoint x.endpoint.config.addr.0 y.endpoint.config.addr.0) (own-decodes x y g own)
      ∙ passed x.endpoint.config.addr.0 y.endpoint.config.addr.0

lets-living : (w : WorldState) → IsKept w → LetInWhatLives w
lets-living w h =
    let steady = kept-steady w h in record {
      there = λ reach k g wide at living. living-passes w.b w.a w.life reach k g (steady-back w.b w.a steady.ends) steady.most wide at living;
      back = λ reach k g wide at living. living-passes w.a w.b w.life reach k g steady.ends steady.most wide at living;
    }

pub what-lives-passes : WhatLivesPasses
what-lives-passes = among-strangers-with-runs LetInWhatLives lets-living

-- ---- AN EVENT is the same as without guards
damage-passes : (reach : ℕ) (s : State) (src dst bytes : List ℕ) (fault : DecodeError) → decode_answer src dst bytes ≡ Err fault
    → keeps_out reach s src dst bytes ≡ false
unfolding keeps_out
damage-passes reach s src dst bytes fault e = ap (keeps_out_reading reach s src dst) e

-- it isn't kept out: what is damaged is found before
abbrev PassesEvent : ℕ → PartyState → PartyState → EventContent → Type 0
PassesEvent reach p q (Deliver from k) = keeps_out reach q.endpoint p.endpoint.config.addr.0 q.endpoint.config.addr.0 (segment_at p k) ≡ false
PassesEvent reach p q other = Unit {0}

there-same : (reach life : ℕ) (p q : PartyState) (event : EventContent) → HasBytes event → (effect_of life p q event).refusal ≡ None → IsSoundPair q p
    → PassesEvent reach p q event → there_guarded reach life p q event ≡ (effect_of life p q event).there
unfolding effect_of party_after_arrival
there-same reach life p q (Deliver from k) fits e pair pass =
    ap (λ (s : State). record q { endpoint = s })
    (passes reach q.endpoint p.endpoint.config.addr.0 q.endpoint.config.addr.0 (segment_at p k) pass)
there-same reach life p q (Damage from k place value) fits e pair pass =
    let found = damage-found q p life k place value fits pair.own_back e in
    ap (λ (s : State). record q { endpoint = s })
    (passes reach q.endpoint p.endpoint.config.addr.0 q.endpoint.config.addr.0 (bytes_with_damage (segment_at p k) place value)
    (damage-passes reach q.endpoint p.endpoint.config.addr.0 q.endpoint.config.addr.0 (bytes_with_damage (segment_at p k) place value) BadChecksum found))
there-same reach life p q other fits e pair pass = refl

stays-same : (r : Option StepError) (w one two : WorldState) → (r ≡ None → one ≡ two) → stay_or r w one ≡ stay_or r w two
stays-same None w one two h = h refl
stays-same (Some error) w one two h = refl

abbrev PassesIn : ℕ → WorldState → EventContent → Type 0
PassesIn reach w event = PassesEvent reach (party_of w (side_of event)) (party_of w (other (side_of event))) event

event-same : (reach : ℕ) (w : WorldState) (event : EventContent) → HasBytes event → IsKept w → (refusal_of w event ≡ None → PassesIn reach w event)
    → guarded_after reach w event ≡ world_after w event
event-same reach w event fits h pass =
    let p = party_of w (side_of event) in
    let q = party_of w (other (side_of event)) in
    let pair = steady-back q p (side-pair w (side_of event) h) in
    stays-same (refusal_of w event) w _ _ (λ e. ap (world_from w.life (side_of event) (effect_in w event).here)
    (there-same reach w.life p q event fits e pair.pair (pass e)))

-- so it is where the guard reaches as far as segments live,
living-event : (reach life : ℕ) (p q : PartyState) (event : EventContent) → (effect_of life p q event).refusal ≡ None → life ≤ max_life → life ≤ reach
    → IsSteadyPair q p → PassesEvent reach p q event
unfolding effect_of
living-event reach life p q (Deliver from k) e most wide h =
    let there = delivered-there life q p k e in
    living-passes q p life reach k (sent_at p k) h most wide (segment-sent p k there.0) there.1
living-event reach life p q other e most wide h = tt

pub living-same : (reach : ℕ) (w : WorldState) → IsKept w → w.life ≤ reach → (event : EventContent) → HasBytes event
    → guarded_after reach w event ≡ world_after w event
living-same reach w h wide event fits =
    let p = party_of w (side_of event) in
    let q = party_of w (other (side_of event)) in
    event-same reach w event fits h
    (λ e. living-event reach w.life p q event e (kept-steady w h).most wide (steady-back q p (side-pair w (side_of event) h)))

-- ---- WHAT IS KEPT OUT of what a world delivers comes as a stranger's segment that isn't let in
module _ (reach : ℕ) (s : State) (src dst : List ℕ) where
  not-passed : (r : Result Content DecodeError) → keeps_out_reading reach s src dst r ≡ true → is_reading_passed reach s src dst r ≡ false
  unfolding guarded
  not-passed (Ok v) e = ap (λ (out : Bool). lets_in (if out then Unacceptable else judgement s src dst v)) e
  not-passed (Err fault) e = absurd (cc)

  same-reset : (r : Result Content DecodeError) → keeps_out_reading reach s src dst r ≡ true
      → (after_intake_of (by_guard reach) s src dst r).pending.reset ≡ s.pending.reset
  unfolding guarded
  same-reset (Ok v) e = ap (λ (out : Bool). (after_judgement (if out then Unacceptable else judgement s src dst v) s src v).pending.reset) e
  same-reset (Err fault) e = absurd (cc)

-- segment k of p, as it arrives at q
abbrev arriving : PartyState → PartyState → ℕ → Injection
arriving p q k = record { src = p.endpoint.config.addr.0; dst = q.endpoint.config.addr.0; bytes = segment_at p k }

own-bytes : (p q : PartyState) (g : SentSegment) → IsOwn p q g → AreBytes g.bytes
own-bytes p q g own =
    let src = p.endpoint.config.addr.0 in
    let dst = q.endpoint.config.addr.0 in
    let wire : IsWire src dst own.content g.bytes = subst (λ (sent : List ℕ). IsWire src dst own.content sent) (sym own.spelled)
    (IsWire_encoded src dst own.content own.valid) in
    wire.are_bytes

blind-to-guard : (reach : ℕ) (p q : PartyState) (k : ℕ) → IsSoundPair q p → slice_get p.sent k ≡ Some (sent_at p k)
    → keeps_out reach q.endpoint p.endpoint.config.addr.0 q.endpoint.config.addr.0 (segment_at p k) ≡ true → IsBlindToGuard reach q p (arriving p q k)
unfolding after_intake keeps_out
blind-to-guard reach p q k pair at out =
    let src = p.endpoint.config.addr.0 in
    let dst = q.endpoint.config.addr.0 in
    let r = decode_answer src dst (segment_at p k) in record {
      are_bytes = own-bytes p q (sent_at p k) (pair.own_back k (sent_at p k) at);
      kept_out = not-passed reach q.endpoint src dst r out;
      to_peer = subst (λ (reset : Option WaitingReset). IfSome reset (λ reset. reset.to.addr.0 ≡ src)) (sym (same-reset reach q.endpoint src dst r out))
          pair.there.speaks.reset;
    }

-- ---- WHAT HAPPENS keeps what every world keeps, however far the guards reach
guarded-injected : (reach : ℕ) (w : WorldState) (side : Side) (i : Injection) → IsBlindToGuard reach (party_of w side) (party_of w (other side)) i → IsKept w
    → IsKept (world_with_guarded_injection reach w side i)
guarded-injected reach w side i blind h = record {
  sound = sound-passing reach w side i blind h.sound;
  all = record {
    sent = in-passing _ _ _ sent-kept reach w side i blind h.sound.ends h.all.sent;
    advertised = in-passing _ _ _ advertised-kept reach w side i blind h.sound.ends h.all.advertised;
    edges = in-passing _ _ _ edges-kept reach w side i blind h.sound.ends h.all.edges;
    stages = in-passing _ _ _ stages-kept reach w side i blind h.sound.ends h.all.stages;
  };
  least = subst (λ (n : ℕ). least_life ≤ n) (sym (life-passing reach w side i)) h.least;
}

stays-kept : (r : Option StepError) (w there : WorldState) → IsKept w → (r ≡ None → IsKept there) → IsKept (stay_or r w there)
stays-kept None w there h next = next refl
stays-kept (Some error) w there h next = h

-- a delivery that is kept out,
kept-out : (reach : ℕ) (w : WorldState) (from : Side) (k : ℕ) → IsBlindToGuard reach (party_of w (other from)) (party_of w from) (arriving (party_of w from) (party_of w (other from)) k)
    → IsKept w → IsKept (world_from w.life from (party_of w from) (party_after_passing reach (party_of w (other from)) (party_of w from) (segment_at (party_of w from) k)))
kept-out reach w A k blind h = guarded-injected reach w B (arriving w.a w.b k) blind h
kept-out reach w B k blind h = guarded-injected reach w A (arriving w.b w.a k) blind h

-- and any
delivered : (reach : ℕ) (w : WorldState) (from : Side) (k : ℕ) → IsKept w → (out : Bool)
    → keeps_out reach (party_of w (other from)).endpoint (party_of w from).endpoint.config.addr.0 (party_of w (other from)).endpoint.config.addr.0 (segment_at (party_of w from) k) ≡ out
    → IsKept (guarded_after reach w (Deliver from k))
unfolding effect_of
delivered reach w from k h false e =
    subst IsKept (sym (event-same reach w (Deliver from k) tt h (λ _. e))) (worlds.kept-after IsKept kept-after w (Deliver from k) tt h)
delivered reach w from k h true e =
    let p = party_of w from in
    let q = party_of w (other from) in
    let pair = steady-back q p (side-pair w from h) in
    stays-kept (refusal_of w (Deliver from k)) w _ h (λ none.
    kept-out reach w from k (blind-to-guard reach p q k pair.pair (segment-sent p k (delivered-there w.life q p k none).0) e) h)

event-kept : (reach : ℕ) (w : WorldState) (event : EventContent) → HasBytes event → IsKept w → IsKept (guarded_after reach w event)
event-kept reach w (Deliver from k) fits h = delivered reach w from k h (keeps_out reach _ _ _ _) refl
event-kept reach w other fits h = subst IsKept (sym (event-same reach w other fits h (λ _. tt))) (worlds.kept-after IsKept kept-after w other fits h)

guarded-happening : (reach : ℕ) (w : WorldState) (happening : Happening) → IsFairToGuard reach w happening → IsKept w
    → IsKept (after_guarded reach w happening)
guarded-happening reach w (Happens event) fits h = event-kept reach w event fits h
guarded-happening reach w (Injects side i) blind h = guarded-injected reach w side i blind h

guarded-happenings : (reach : ℕ) (w : WorldState) (list : List Happening) → AreFairToGuard reach w list → IsKept w
    → IsKept (after_all_guarded reach w list)
unfolding after_all_guarded AreFairToGuard
guarded-happenings reach w [] fair h = h
guarded-happenings reach w (happening ∷ list) fair h =
    guarded-happenings reach (after_guarded reach w happening) list fair.1 (guarded-happening reach w happening fair.0 h)

life-from : (life : ℕ) (side : Side) (p q : PartyState) → (world_from life side p q).life ≡ life
life-from life A p q = refl
life-from life B p q = refl

life-stays : (r : Option StepError) (w there : WorldState) → there.life ≡ w.life → (stay_or r w there).life ≡ w.life
life-stays None w there e = e
life-stays (Some error) w there e = refl

life-happening : (reach : ℕ) (w : WorldState) (happening : Happening) → (after_guarded reach w happening).life ≡ w.life
life-happening reach w (Happens event) = life-stays (refusal_of w event) w _ (life-from w.life (side_of event) _ _)
life-happening reach w (Injects side i) = life-passing reach w side i

life-happenings : (reach : ℕ) (w : WorldState) (list : List Happening) → (after_all_guarded reach w list).life ≡ w.life
unfolding after_all_guarded
life-happenings reach w [] = refl
life-happenings reach w (happening ∷ list) = life-happenings reach (after_guarded reach w happening) list ∙ life-happening reach w happening

-- so what all worlds keep holds in every world of two guarded ends
in-any : (Holds : WorldState → Type 0) → ((w : WorldState) → IsKept w → Holds w) → InEveryWorldOfGuards Holds
in-any Holds holds life reach a b runs_a runs_b list least most one two fair =
    holds _ (guarded-happenings reach _ list fair (new-kept life a b runs_a runs_b least most one two))

in-guarded : (Holds : WorldState → Type 0) → ((w : WorldState) → IsKept w → Holds w) → InEveryGuardedWorld Holds
in-guarded Holds holds life reach a b runs_a runs_b list least most wide one two fair = in-any Holds holds life reach a b runs_a runs_b list least most one two fair

guarded-goes-same : GuardedEventsAreEvents
guarded-goes-same life reach a b runs_a runs_b list least most wide one two fair event fits =
    let start = world_with_runs life a b runs_a runs_b in
    living-same reach (after_all_guarded reach start list) (guarded-happenings reach start list fair (new-kept life a b runs_a runs_b least most one two))
    (subst (λ (n : ℕ). n ≤ reach) (sym (life-happenings reach start list)) wide) event fits

pub guarded-is-safe : GuardedIsSafe
guarded-is-safe = record {
  safe = in-any IsSafe (λ w h. worlds.safe-sound w h.sound);
  hints = in-any HintsAreTrue (λ w h. worlds.hints-sound w h.sound);
  damage = in-any FindsDamage (λ w h. worlds.damage-sound w h.sound);
  steady = in-any IsSteady kept-steady;
  taken = in-any TakeOnlySent (λ w h. only_sent w h.all.sent);
}

pub guarded-goes-on : GuardedGoesOn
guarded-goes-on = record {
  as_without = guarded-goes-same;
  not_stuck = in-guarded IsNotStuck not_stuck-kept;
  opens = in-guarded CanOpen can-open;
  served = in-guarded GetsThrough (served-kept lowers_lem);
  served_opens = in-guarded OpensAndGetsThrough opens-and;
  half_turns = in-guarded GetsThroughByHalves halved-kept;
  turns = in-guarded (λ w. NoneDiscarded w → (n : ℕ) → CanHaveTurns n w) turns-kept;
  halves = in-guarded (λ w. IsLive w.a → IsLive w.b → (n : ℕ) → CanHaveHalves n w) halves_had-kept;
  bursts = in-guarded (λ w. (side : Side) → BurstEnds w side) bursts-end;
  left = in-guarded NeverGrows left-kept;
}
