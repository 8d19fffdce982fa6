-- A keep-alive that reaches an end is its call `acknowledge`, or nothing.
use Rattle.tcp_replay.proofs.Words.{◌+◌, ◌<◌, ◌^◌, ap, arith, both, cond_both, Content, false, has, inl, inr, IsSound, IsSoundPair, List, max_life, None, Option, other, party_of, PartyState}
use Rattle.tcp_replay.proofs.Words.{rcv_position_of, refl, rst, SentSegment, slice_get, Some, State, sym, takes_text, true, WorldState, ℕ, ◌∙◌, ◌≡◌, ◌≤◌, ◌⊎◌, ⊎_elim, after_judgement, cases_Bool, world_with_runs}
use Rattle.tcp_reasm.specs.Reassembly.{window}
use Rattle.tcp_conn.specs.Judgement.{acks_syn}
unfoldable use Rattle.tcp_conn.specs.Judgement.{closed_judgement, is_foreign, judgement, judgement_after_syn, listen_judgement, phase_judgement, syn_sent_judgement}
use Rattle.tcp_replay.specs.declared.event.Side.{Side}
use Rattle.tcp_replay.specs.declared.event.Side.TheVariants.{A, B}
use Rattle.tcp_conn.specs.declared.arrive.judgement.Judgement.{Judgement}
use Rattle.tcp_conn.specs.declared.arrive.judgement.Judgement.TheVariants.{AckOfNoSyn, Foreign, OpensNothing, PeerAccepts, PeerRefuses, ResetIgnored, Unacceptable}
use Rattle.tcp_conn.specs.declared.phase.Phase.{Phase}
unfoldable use Rattle.tcp_conn.specs.Calls.{after_acknowledge}
use Rattle.tcp_conn.specs.Phase.{is_closed, is_listening, is_syn_sent}
use Rattle.tcp_replay.specs.World.{is_expired}
unfoldable use Rattle.tcp_replay.specs.World.{effect_of, party_after_acknowledge}
use Rattle.tcp_replay.proofs.one_end.Phases.{after_syn-opened}
use Rattle.tcp_replay.proofs.pair.Calls.{with_end}
use Rattle.tcp_replay.proofs.pair.Emissions.{rcv_position-is}
use Rattle.tcp_replay.proofs.pair.Events.{young-both}
use Rattle.tcp_replay.proofs.pair.Steps.{pair-swapped}
use Rattle.tcp_keep_alive.specs.Answered.{ComesOld, ComparesNumbers}
use Rattle.tcp_keep_alive.proofs.Answered.{before-number, called, judged-old}
use Rattle.tcp_kept_alive.proofs.Asks.{IsAsk}
use Rattle.tcp_replay.proofs.pair.Events.{arrival-ok}
use Rattle.tcp_replay.proofs.pair.Steps.{Kept}
use Rattle.tcp_halves.specs.declared.link.WaitingReset.{WaitingReset}
use Rattle.std.specs.Prelude.{◌&&◌, not, if◌then◌else◌, IfSome}
use Rattle.tcp_wire.specs.Flags.{ack, syn}
use Rattle.tcp_replay.proofs.Words.{subst}
use Rattle.tcp_replay.specs.Among.{is_reading_let_in, IsBlind, lets_in, party_after_injection}
use Rattle.tcp_kept_alive.proofs.Bare.{kept-bare}
use Rattle.tcp_kept_alive.proofs.Runs.{ask-ok, bytes-of, comes-bare, flags-of, is-ask, IsSoundAsker, read-as, sound-happenings, sound-start}
use Rattle.tcp_kept_alive.specs.Asked.{after_happenings, asking_world, as_injection, asks_in, IsAsInjected, IsAsTheCall, IsBlindTo, IsOpen, KeepAliveIsACall, KeepAlivesAreBlind, world_reached_by, world_with_arrival}
unfoldable use Rattle.tcp_kept_alive.specs.Asked.{party_after_ask}
use Rattle.tcp_conn.specs.Guard.{is_kept_out}
unfoldable use Rattle.tcp_conn.specs.Guard.{guarded}

-- an end that takes text compares numbers
compares : (s : State) → takes_text s.phase ≡ true → ComparesNumbers s
compares s e =
    let closed : (phase : Phase) → takes_text phase ≡ true → is_closed phase ≡ false = λ phase e. grind (arith, e) in
    let listening : (phase : Phase) → takes_text phase ≡ true → is_listening phase ≡ false = λ phase e. grind (arith, e) in
    let sent : (phase : Phase) → takes_text phase ≡ true → is_syn_sent phase ≡ false = λ phase e. grind (arith, e) in
    record { closed = closed s.phase e; listening = listening s.phase e; syn_sent = sent s.phase e }

-- a guard leaves what it doesn't keep out
unguarded : (guard : Option ℕ) (s : State) (v : Content) (src : List ℕ) (j : Judgement) → ((reach : ℕ) → is_kept_out reach j s v ≡ false)
    → after_judgement (guarded guard j s v) s src v ≡ after_judgement j s src v
unfolding guarded
unguarded None s v src j out = refl
unguarded (Some reach) s v src j out = rw (out reach) refl

-- ---- A KEEP-ALIVE of p that reaches q, whose window is open
module _ (life : ℕ) (p q : PartyState) (g : SentSegment) (most : life ≤ max_life) (pair : IsSoundPair p q) (ask : IsAsk p q g)
    (some : 0 < window q.endpoint.receiving.inbox) (fresh : is_expired life q.endpoint g ≡ false) where
  comes-old : ComparesNumbers q.endpoint → is_foreign q.endpoint p.endpoint.config.addr.0 q.endpoint.config.addr.0 ask.content ≡ false
      → ComesOld q.endpoint p.endpoint.config.addr.0 q.endpoint.config.addr.0 ask.content
  comes-old here mine =
      let s = q.endpoint in
      let opened = after_syn-opened s.phase s.ending s.sending.snd_una s.sending.snd_nxt s.receiving.opened s.receiving.finished here.closed here.listening
      here.syn_sent pair.back.alone.progress in
      let flags = flags-of p q g ask in
      let young = young-both life s g fresh (ap (has rst) (sym flags) ∙ ask.only.no_rst) in
      let near_ : rcv_position_of q < g.position + 2 ^ 31 = omega (arith, most, young.young, rcv_position-is q p (pair-swapped p q pair)) in
      record {
        mine = mine;
        only = ask.only;
        number = ask.valid.seq;
        old = rw (ask.seq, pair.back.takes.next opened) (before-number p.endpoint.config.isn.0 g.position (rcv_position_of q) ask.had near_);
      }

  abbrev is-judged : Judgement → Type 0
  is-judged j = judgement q.endpoint p.endpoint.config.addr.0 q.endpoint.config.addr.0 ask.content ≡ j

  foreign-passed : is_foreign q.endpoint p.endpoint.config.addr.0 q.endpoint.config.addr.0 ask.content ≡ true → is-judged Foreign
  unfolding judgement
  foreign-passed foreign = rw foreign refl

  -- where numbers are compared it is passed over, from whatever port it comes
  pub passed : ComparesNumbers q.endpoint → is-judged Foreign ⊎ is-judged Unacceptable
  passed here =
      let s = q.endpoint in
      let src = p.endpoint.config.addr.0 in
      let dst = s.config.addr.0 in
      elim (cases_Bool (is_foreign s src dst ask.content)) [
        | inl foreign ↦ inl (foreign-passed foreign)
        | inr mine ↦ inr (judged-old s src dst ask.content pair.back.alone.next here (comes-old here mine) some)
      ]

  -- ---- its end is as it was, or as after the call
  module _ (guard : Option ℕ) (takes : takes_text q.endpoint.phase ≡ true) where
    judged-call : (after_judgement (guarded guard (judgement q.endpoint p.endpoint.config.addr.0 q.endpoint.config.addr.0 ask.content) q.endpoint
        ask.content) q.endpoint p.endpoint.config.addr.0 ask.content ≡ q.endpoint)
        ⊎ (after_judgement (guarded guard (judgement q.endpoint p.endpoint.config.addr.0 q.endpoint.config.addr.0 ask.content) q.endpoint
        ask.content) q.endpoint p.endpoint.config.addr.0 ask.content ≡ after_acknowledge q.endpoint)
    judged-call =
        let s = q.endpoint in
        let src = p.endpoint.config.addr.0 in
        let v = ask.content in
        let after : Judgement → State = λ j. after_judgement (guarded guard j s v) s src v in
        ⊎_elim (λ (e : is-judged Foreign). inl (ap after e ∙ unguarded guard s v src Foreign (λ _. refl)))
        (λ (e : is-judged Unacceptable). inr (ap after e ∙ unguarded guard s v src Unacceptable (λ _. refl) ∙ called s takes))
        (passed (compares s takes))

    pub arrival-call : (party_after_ask guard q p g.bytes ≡ q) ⊎ (party_after_ask guard q p g.bytes ≡ party_after_acknowledge q)
    unfolding party_after_ask party_after_acknowledge
    arrival-call =
        let read = ask-ok guard q.endpoint p.endpoint.config.addr.0 q.endpoint.config.addr.0 g.bytes ask.content (read-as p q g ask) in
        ⊎_elim (λ (e : _ ≡ q.endpoint). inl (ap (with_end q) (read ∙ e))) (λ (e : _ ≡ after_acknowledge q.endpoint). inr (ap (with_end q) (read ∙ e))) judged-call

  -- ---- it is blind
  abbrev is-let_in : Judgement → Type 0
  is-let_in j = lets_in j ≡ false

  OutOrCompared : Judgement → Type 0
  OutOrCompared j = is-let_in j ⊎ ComparesNumbers q.endpoint

  out-in-closed : OutOrCompared (closed_judgement ask.content)
  unfolding closed_judgement OutOrCompared
  out-in-closed = rw ask.only.no_rst (inl refl)

  out-in-listen : OutOrCompared (listen_judgement ask.content)
  unfolding listen_judgement OutOrCompared
  out-in-listen = rw (ask.only.no_rst, ask.only.acks) (inl refl)

  out-in-syn_sent : OutOrCompared (syn_sent_judgement q.endpoint ask.content)
  unfolding syn_sent_judgement OutOrCompared
  out-in-syn_sent =
      let v = ask.content in
      cond_both (has ack v.flags && not (acks_syn q.endpoint v)) (if has rst v.flags then ResetIgnored else AckOfNoSyn)
      (if has rst v.flags then (if has ack v.flags then PeerRefuses else ResetIgnored) else (if has syn v.flags && has ack v.flags then PeerAccepts else OpensNothing))
      (λ j. is-let_in j ⊎ ComparesNumbers q.endpoint) (λ _. rw ask.only.no_rst (inl refl)) (λ _. rw (ask.only.no_rst, ask.only.no_syn) (inl refl))

  out-or-compared : OutOrCompared (judgement q.endpoint p.endpoint.config.addr.0 q.endpoint.config.addr.0 ask.content)
  unfolding judgement phase_judgement OutOrCompared
  out-or-compared =
      let s = q.endpoint in
      let v = ask.content in
      let opens = if is_syn_sent s.phase then syn_sent_judgement s v else judgement_after_syn s v in
      cond_both (is_foreign s p.endpoint.config.addr.0 s.config.addr.0 v) Foreign (phase_judgement s v) OutOrCompared (λ _. inl refl)
      (λ _. cond_both (is_closed s.phase) (closed_judgement v) (if is_listening s.phase then listen_judgement v else opens) OutOrCompared
      (λ _. out-in-closed)
      (λ closed. cond_both (is_listening s.phase) (listen_judgement v) opens OutOrCompared (λ _. out-in-listen)
      (λ listening. cond_both (is_syn_sent s.phase) (syn_sent_judgement s v) (judgement_after_syn s v) OutOrCompared (λ _. out-in-syn_sent)
      (λ sent. inr (record { closed = closed; listening = listening; syn_sent = sent })))))

  kept-out : is-let_in (judgement q.endpoint p.endpoint.config.addr.0 q.endpoint.config.addr.0 ask.content)
  unfolding OutOrCompared
  kept-out =
      ⊎_elim (λ (out : is-let_in (judgement q.endpoint p.endpoint.config.addr.0 q.endpoint.config.addr.0 ask.content)). out)
      (λ (here : ComparesNumbers q.endpoint). ⊎_elim (λ (e : is-judged Foreign). ap lets_in e) (λ (e : is-judged Unacceptable). ap lets_in e) (passed here))
      out-or-compared

  -- no reset waits for anybody but the peer
  speaks-to : Kept q p (after_judgement (judgement q.endpoint p.endpoint.config.addr.0 q.endpoint.config.addr.0 ask.content) q.endpoint
      p.endpoint.config.addr.0 ask.content)
  unfolding guarded
  speaks-to = kept-bare q p ask.content g.wanted None q.endpoint.config.addr.0 (pair-swapped p q pair) (comes-bare life p q g most pair ask fresh)

  blind : IsBlind q p (as_injection p q g)
  blind =
      let s = q.endpoint in
      let src = p.endpoint.config.addr.0 in
      let dst = s.config.addr.0 in
      let read = read-as p q g ask in
      record {
        are_bytes = bytes-of p q g ask;
        kept_out = ap (is_reading_let_in s src dst) read ∙ kept-out;
        to_peer = subst (λ (x : State). IfSome x.pending.reset (λ (reset : WaitingReset). reset.to.addr.0 ≡ src)) (sym (arrival-ok s src dst g.bytes ask.content read))
            speaks-to.here.speaks.reset;
      }

  same-injected : party_after_ask None q p g.bytes ≡ party_after_injection q (as_injection p q g)
  unfolding party_after_ask guarded
  same-injected =
      let s = q.endpoint in
      let src = p.endpoint.config.addr.0 in
      let dst = s.config.addr.0 in
      let read = read-as p q g ask in
      ap (with_end q) (ask-ok None s src dst g.bytes ask.content read ∙ sym (arrival-ok s src dst g.bytes ask.content read))

  pub as-injected : IsAsInjected p q g
  as-injected = record { blind = blind; same = same-injected }

-- so is the world
in-world : (w : WorldState) (side : Side) (guard : Option ℕ) (g : SentSegment) → IsSound w → IsAsk (party_of w side) (party_of w (other side)) g
    → IsOpen (party_of w (other side)).endpoint → is_expired w.life (party_of w (other side)).endpoint g ≡ false
    → IsAsTheCall w (other side) (world_with_arrival w side guard g)
unfolding effect_of
in-world w A guard g h ask open_ fresh =
    ⊎_elim (λ (e : party_after_ask guard w.b w.a g.bytes ≡ w.b). inl (ap (both w.life w.a) e))
    (λ (e : party_after_ask guard w.b w.a g.bytes ≡ party_after_acknowledge w.b). inr (ap (both w.life w.a) e))
    (arrival-call w.life w.a w.b g h.life h.ends ask open_.some fresh guard open_.takes)
in-world w B guard g h ask open_ fresh =
    ⊎_elim (λ (e : party_after_ask guard w.a w.b g.bytes ≡ w.a). inl (ap (λ (a : PartyState). both w.life a w.b) e))
    (λ (e : party_after_ask guard w.a w.b g.bytes ≡ party_after_acknowledge w.a). inr (ap (λ (a : PartyState). both w.life a w.b) e))
    (arrival-call w.life w.b w.a g h.life (pair-swapped w.a w.b h.ends) ask open_.some fresh guard open_.takes)

reached-call : (w : WorldState) (side : Side) (guard : Option ℕ) (found : Option SentSegment) → IsSound w
    → ((g : SentSegment) → found ≡ Some g → IsAsk (party_of w side) (party_of w (other side)) g) → IsOpen (party_of w (other side)).endpoint
    → IsAsTheCall w (other side) (world_reached_by w side guard found)
reached-call w side guard None h asks open_ = inl refl
reached-call w side guard (Some g) h asks open_ =
    cond_both (is_expired w.life (party_of w (other side)).endpoint g) w (world_with_arrival w side guard g) (IsAsTheCall w (other side))
    (λ _. inl refl) (λ fresh. in-world w side guard g h (asks g refl) open_ fresh)

pub keep_alive_is_a_call_lem : KeepAliveIsACall
keep_alive_is_a_call_lem life a b runs_a runs_b list most one two fits side guard k open_ =
    let w = after_happenings (asking_world (world_with_runs life a b runs_a runs_b)) list in
    let end : IsSoundAsker w = sound-happenings (asking_world (world_with_runs life a b runs_a runs_b)) list fits (sound-start life a b runs_a runs_b most one two) in
    reached-call w.world side guard (slice_get (asks_in w side) k) end.sound (λ g e. is-ask w side k g end e) open_

-- ---- BLIND at every end whose window is open
blind-at : (w : WorldState) (side : Side) (g : SentSegment) → IsSound w → IsAsk (party_of w side) (party_of w (other side)) g
    → IsBlindTo (party_of w side) (party_of w (other side)) w.life g
blind-at w A g h ask fresh some = as-injected w.life w.a w.b g h.life h.ends ask some fresh
blind-at w B g h ask fresh some = as-injected w.life w.b w.a g h.life (pair-swapped w.a w.b h.ends) ask some fresh

pub keep_alives_are_blind_lem : KeepAlivesAreBlind
keep_alives_are_blind_lem life a b runs_a runs_b list most one two fits side k g is =
    let w = after_happenings (asking_world (world_with_runs life a b runs_a runs_b)) list in
    let end : IsSoundAsker w = sound-happenings (asking_world (world_with_runs life a b runs_a runs_b)) list fits (sound-start life a b runs_a runs_b most one two) in
    blind-at w.world side g end.sound (is-ask w side k g end is)
