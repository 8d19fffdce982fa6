-- THE KEEP-ALIVES THAT WERE SENT stay what they are, whatever happens: they only acknowledge, and what they acknowledge was had.
use Rattle.tcp_replay.proofs.Words.{◌<◌, [], ap, arith, Content, Config}
use Rattle.tcp_replay.proofs.Words.{effect_of, encoded_bytes, EventContent, HasBytes, IsSoundEnd, IsSoundPair, IsValid, List, max_life, None, number, PartyState}
use Rattle.tcp_replay.proofs.Words.{rcv_position_of, SentSegment, slice_get, Some, State, subst, sym, witness_of, ℕ, ◌∙◌, ◌≡◌, ◌≤◌}
use Rattle.tcp_replay.specs.Truthful.{IsTrueAck}
use Rattle.tcp_replay.specs.World.{address_of, segment_at, sent_at, delivery_refusal}
unfoldable use Rattle.tcp_conn.specs.Emission.{after_emission, after_ack_alone, emitted_bytes}
unfoldable use Rattle.tcp_replay.specs.World.{party_after_connect, party_after_listen, party_after_send, party_after_receive, party_after_close, party_after_abort, party_after_acknowledge, party_after_timer, party_after_emission, party_after_ack_alone, party_after_resend_first, party_after_resend, party_after_arrival}
use Rattle.tcp_replay.specs.Events.{Connect, Listen, Send, Receive, Close, Abort, Acknowledge, Timer, Emit, EmitAcknowledgement, ResendFirst, Resend, Deliver, Damage}
use Rattle.tcp_replay.proofs.pair.Arrivals.{fair-judgement}
use Rattle.tcp_replay.proofs.pair.Calls.{on-connect, on-listen, on-send, on-receive, on-close, on-abort, on-acknowledge, on-timer, on-emission, on-ack-alone, on-resend-first, on-resend, with_end}
use Rattle.tcp_replay.proofs.pair.Events.{arrival-ok, comes, delivered-there, finds-damage, own-decodes, segment-sent}
use Rattle.tcp_replay.proofs.pair.Steps.{Kept, kept-same, Moved, pair-swapped}
use Rattle.tcp_replay.proofs.pair.Users.{sound-calls}
use Rattle.tcp_keep_alive.specs.Answered.{OnlyAcknowledges}

-- A KEEP-ALIVE of p to q, which had all before it, and what it acknowledges was had
pub record IsAsk (p q : PartyState) (g : SentSegment) : Type 0 where
  pub content : Content
  pub only : OnlyAcknowledges content
  pub bare : content.options ≡ []
  pub valid : IsValid content
  pub spelled : g.bytes ≡ encoded_bytes p.endpoint.config.addr.0 q.endpoint.config.addr.0 content
  pub seq : content.seq ≡ number p.endpoint.config.isn.0 g.position
  pub had : g.position < rcv_position_of q
  pub acks : IsTrueAck (witness_of p q) content.ack
  pub wanted : acks.position ≡ g.wanted

abbrev pub AreAsks : PartyState → PartyState → List SentSegment → Type 0
AreAsks p q list = (k : ℕ) (g : SentSegment) → slice_get list k ≡ Some g → IsAsk p q g

-- ---- IT STAYS ONE, whichever of the two goes on
ask-here : (p p' q : PartyState) (g : SentSegment) → Moved p p' q → IsAsk p q g → IsAsk p' q g
ask-here p p' q g h ask = record {
  content = ask.content;
  only = ask.only;
  bare = ask.bare;
  valid = ask.valid;
  spelled = ask.spelled ∙ ap (λ (c : Config). encoded_bytes c.addr.0 q.endpoint.config.addr.0 ask.content) (sym h.config);
  seq = ask.seq ∙ ap (λ (c : Config). number c.isn.0 g.position) (sym h.config);
  had = ask.had;
  acks = record {
    opened = h.grows.opened ask.acks.opened;
    position = ask.acks.position;
    least = ask.acks.least;
    most = omega (arith, ask.acks.most, h.grows.next);
    number = ask.acks.number;
  };
  wanted = ask.wanted;
}

ask-there : (p q q' : PartyState) (g : SentSegment) → Moved q q' p → IsAsk p q g → IsAsk p q' g
ask-there p q q' g h ask = record {
  content = ask.content;
  only = ask.only;
  bare = ask.bare;
  valid = ask.valid;
  spelled = ask.spelled ∙ ap (λ (c : Config). encoded_bytes p.endpoint.config.addr.0 c.addr.0 ask.content) (sym h.config);
  seq = ask.seq;
  had = omega (arith, ask.had, h.grows.next);
  acks = record {
    opened = ask.acks.opened;
    position = ask.acks.position;
    least = ask.acks.least;
    most = ask.acks.most;
    number = ask.acks.number ∙ ap (λ (c : Config). number c.isn.0 ask.acks.position) (sym h.config);
  };
  wanted = ask.wanted;
}

-- all that were sent in both directions
pub record Asks (p q : PartyState) (mine yours : List SentSegment) : Type 0 where
  pub there : AreAsks p q mine
  pub back : AreAsks q p yours

pub asks-swapped : (p q : PartyState) (mine yours : List SentSegment) → Asks p q mine yours → Asks q p yours mine
asks-swapped p q mine yours h = record { there = h.back; back = h.there }

pub asks-moved : (p p' q : PartyState) (mine yours : List SentSegment) → Moved p p' q → Asks p q mine yours → Asks p' q mine yours
asks-moved p p' q mine yours m h = record {
  there = λ k g is. ask-here p p' q g m (h.there k g is);
  back = λ k g is. ask-there q p p' g m (h.back k g is);
}

-- ---- ANY EVENT that isn't refused leaves them what they are
speaking : (p q : PartyState) (s : State) (sent : List SentSegment) → Kept p q s → Moved p (record p { endpoint = s; sent = sent }) q
speaking p q s sent h =
    let e = h.here in
    let here : IsSoundEnd (record p { endpoint = s; sent = sent }) q =
    record { alone = e.alone; speaks = e.speaks; takes = e.takes; delivers = e.delivers; between = e.between; limit = e.limit } in
    record { here = here; config = h.config; grows = h.grows }

module _ (p q : PartyState) (mine yours : List SentSegment) (pair : IsSoundPair p q) (h : Asks p q mine yours) where
  goes-on : (p' : PartyState) → Moved p p' q → Asks p' q mine yours
  goes-on p' m = asks-moved p p' q mine yours m h

  -- a segment of q is delivered to p
  on-delivery : (life k : ℕ) → life ≤ max_life → delivery_refusal life q p k ≡ None → Asks (party_after_arrival p q (segment_at q k)) q mine yours
  unfolding party_after_arrival
  on-delivery life k most e =
      let src = q.endpoint.config.addr.0 in
      let dst = p.endpoint.config.addr.0 in
      let g = sent_at q k in
      let there = delivered-there life p q k e in
      let own = pair.own_back k g (segment-sent q k there.0) in
      let v = own.content in
      let c = comes p q life g most there.1 pair own in
      let fair = fair-judgement p q p.endpoint dst v g.position g.wanted c (kept-same p q pair) in
      subst (λ (s : State). Asks (with_end p s) q mine yours) (sym (arrival-ok p.endpoint src dst g.bytes v (own-decodes q p g own)))
      (goes-on (with_end p _) fair)

module _ (p q : PartyState) (mine yours : List SentSegment) (pair : IsSoundPair p q) (h : Asks p q mine yours) where
  called : (p' : PartyState) → Moved p p' q → Asks p' q mine yours
  called p' m = asks-moved p p' q mine yours m h

  -- p's calls, timers and emissions, and what of p is delivered to q
  pub asks-event : (life : ℕ) (event : EventContent) → HasBytes event → (effect_of life p q event).refusal ≡ None → life ≤ max_life
      → Asks (effect_of life p q event).here (effect_of life p q event).there mine yours
  unfolding effect_of party_after_connect party_after_listen party_after_send party_after_receive party_after_close party_after_abort party_after_acknowledge party_after_timer party_after_resend_first party_after_resend party_after_emission party_after_ack_alone after_ack_alone
  asks-event life (Connect side) fits e most = called _ (on-connect (address_of q) p (λ p'. Moved p p' q) (sound-calls p q pair))
  asks-event life (Listen side) fits e most = called _ (on-listen (address_of q) p (λ p'. Moved p p' q) (sound-calls p q pair))
  asks-event life (Send side bytes) fits e most = called _ (on-send (address_of q) p (λ p'. Moved p p' q) (sound-calls p q pair) bytes fits)
  asks-event life (Receive side room) fits e most = called _ (on-receive (address_of q) p (λ p'. Moved p p' q) (sound-calls p q pair) room)
  asks-event life (Close side) fits e most = called _ (on-close (address_of q) p (λ p'. Moved p p' q) (sound-calls p q pair))
  asks-event life (Abort side) fits e most = called _ (on-abort (address_of q) p (λ p'. Moved p p' q) (sound-calls p q pair))
  asks-event life (Acknowledge side) fits e most = called _ (on-acknowledge (address_of q) p (λ p'. Moved p p' q) (sound-calls p q pair))
  asks-event life (Timer side which) fits e most = called _ (on-timer (address_of q) p (λ p'. Moved p p' q) (sound-calls p q pair) which)
  asks-event life (Emit side) fits e most =
      called _ (speaking p q _ _ (on-emission (address_of q) p (λ p'. Moved p p' q) (sound-calls p q pair) pair.there.alone))
  asks-event life (EmitAcknowledgement side) fits e most =
      called _ (speaking p q _ _ (on-ack-alone (address_of q) p (λ p'. Moved p p' q) (sound-calls p q pair) pair.there.alone))
  asks-event life (ResendFirst side) fits e most = called _ (on-resend-first (address_of q) p (λ p'. Moved p p' q) (sound-calls p q pair))
  asks-event life (Resend side from to) fits e most = called _ (on-resend (address_of q) p (λ p'. Moved p p' q) (sound-calls p q pair) from to)
  asks-event life (Deliver from k) fits e most =
      asks-swapped _ _ yours mine (on-delivery q p yours mine (pair-swapped p q pair) (asks-swapped p q mine yours h) life k most e)
  asks-event life (Damage from k place value) fits e most =
      subst (λ (q' : PartyState). Asks p q' mine yours) (sym (finds-damage q p life k place value fits e (pair-swapped p q pair)).same) h
