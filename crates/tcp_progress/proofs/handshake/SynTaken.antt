-- THE HANDSHAKE GOES THROUGH (RFC 9293, 3.5): the SYN of who is in SYN-SENT is taken in LISTEN, and the SYN of who is in SYN-RECEIVED, with its
-- acknowledgement, in SYN-SENT.
use Rattle.tcp_replay.proofs.Words.{ack, acks_syn, after_judgement, after_peer_accepts, after_peer_opens, ap, arith, Bool, Content, delivery_refusal}
use Rattle.tcp_replay.proofs.Words.{eq-eqb, false, has, is_foreign, IsAnswering, IsOpening, IsUnused, Judgement, judgement, List, Listen, listen_judgement}
use Rattle.tcp_replay.proofs.Words.{None, NotEnded, party_after_arrival, PartyState, PeerAccepts, PeerOpens, phase_judgement, position_near}
use Rattle.tcp_replay.proofs.Words.{position_of_number, rcv_position_of, refl, rst, segment_at, State, subst, sym, syn, syn_sent_judgement, SynReceived}
use Rattle.tcp_replay.proofs.Words.{SynSent, true, ℕ, ◌∙◌, ◌≡◌, ◌≤◌}
use Rattle.tcp_replay.proofs.Lemmas.{one_if}
use Rattle.tcp_progress.proofs.Words.{IsLive, IsSteadyPair, least_life}
use Rattle.tcp_progress.proofs.Lemmas.{arrives, goes, IsSyn, of_peer, steady-back, unexpired}

-- ---- WHAT EACH STATE OF THE HANDSHAKE HAS, on either side
pub unopened-listen : (p q : PartyState) → IsSteadyPair p q → p.endpoint.phase ≡ Listen
    → (p.endpoint.ending ≡ NotEnded) × IsUnused p.endpoint.sending.snd_nxt p.endpoint.receiving.opened
unopened-listen p q h phase = rw phase at h.pair.there.alone.progress

-- in SYN-SENT
pub opening : (p q : PartyState) → IsSteadyPair p q → p.endpoint.phase ≡ SynSent
    → (p.endpoint.ending ≡ NotEnded) × IsOpening p.endpoint.sending.snd_nxt p.endpoint.receiving.opened
opening p q h phase = rw phase at h.pair.there.alone.progress

-- in SYN-RECEIVED
pub answering : (p q : PartyState) → IsSteadyPair p q → p.endpoint.phase ≡ SynReceived
    → (p.endpoint.ending ≡ NotEnded) × IsAnswering p.endpoint.sending.snd_nxt p.endpoint.receiving.opened p.endpoint.receiving.finished
answering p q h phase = rw phase at h.pair.there.alone.progress

-- who has no SYN yet wants the first position; so does who has the SYN of an end in SYN-SENT
pub unopened-first : (p q : PartyState) → IsSteadyPair p q → p.endpoint.receiving.opened ≡ false → rcv_position_of p ≡ 1
unopened-first p q h unopened = let none = h.pair.there.takes.unopened unopened in omega (arith, none.1, ap one_if none.2)

-- of an end in SYN-SENT there is the SYN alone
pub answering-first : (p q : PartyState) → IsSteadyPair p q → p.endpoint.phase ≡ SynReceived → q.endpoint.phase ≡ SynSent → rcv_position_of p ≡ 1
answering-first p q h answers calls =
    omega (arith, h.back.sent.taken (answering p q h answers).1.is_opened, (opening q p (steady-back q p h) calls).1.snd_nxt_is)

-- ---- p's SYN is delivered to q, which has none yet
syn-goes : (p q : PartyState) (life k : ℕ) (told : Bool) → least_life ≤ life → IsSteadyPair p q → q.endpoint.receiving.opened ≡ false
    → q.endpoint.sending.snd_nxt ≤ 1 → IsSyn p q k told → delivery_refusal life p q k ≡ None
syn-goes p q life k told least h unopened few f =
    let first = unopened-first q p (steady-back q p h) unopened in
    goes p q life k f.g f.content f.way (unexpired p q life f.g h (omega (arith, first, f.starts, least))
    (omega (arith, h.pair.back.alone.sends.order, few, f.wanted, least)))

arrives-as : (p q : PartyState) (k : ℕ) (told : Bool) (j : Judgement) → (f : IsSyn p q k told)
    → judgement q.endpoint p.endpoint.config.addr.0 q.endpoint.config.addr.0 f.content ≡ j
    → party_after_arrival q p (segment_at p k) ≡ record q { endpoint = after_judgement j q.endpoint p.endpoint.config.addr.0 f.content }
arrives-as p q k told j f judged =
    arrives p q k f.g f.content f.way ∙ ap (λ (j : Judgement). record q { endpoint = after_judgement j q.endpoint p.endpoint.config.addr.0 f.content }) judged

-- ---- in LISTEN a SYN without acknowledgement opens
judged-opens : (s : State) (src dst : List ℕ) (v : Content) → is_foreign s src dst v ≡ false → s.phase ≡ Listen → has rst v.flags ≡ false
    → has ack v.flags ≡ false → has syn v.flags ≡ true → judgement s src dst v ≡ PeerOpens
unfolding judgement phase_judgement listen_judgement
judged-opens s src dst v mine phase no_rst no_ack has_syn = rw (mine, phase, no_rst, no_ack, has_syn) refl

opens-phase : (q : PartyState) (src : List ℕ) (v : Content) → (after_judgement PeerOpens q.endpoint src v).phase ≡ SynReceived
unfolding after_peer_opens
opens-phase q src v = refl

-- WHAT IT DOES: it is taken, and answered
pub listen-takes : (p q : PartyState) (life k : ℕ) → least_life ≤ life → IsSteadyPair p q → q.endpoint.phase ≡ Listen → IsSyn p q k false
    → (delivery_refusal life p q k ≡ None) × ((party_after_arrival q p (segment_at p k)).endpoint.phase ≡ SynReceived)
listen-takes p q life k least h phase f =
    let s = q.endpoint in
    let src = p.endpoint.config.addr.0 in
    let unused = (unopened-listen q p (steady-back q p h) phase).1 in (
      syn-goes p q life k false least h unused.not_opened (omega (arith, unused.snd_nxt_is)) f,
      ap (λ (x : PartyState). x.endpoint.phase)
          (arrives-as p q k false PeerOpens f (judged-opens s src s.config.addr.0 f.content (of_peer p q f.content h f.src f.dst) phase f.way.no_rst f.has_ack
          f.has_syn)) ∙ opens-phase q src f.content,
    )

-- ---- in SYN-SENT a SYN with the acknowledgement of its own SYN is accepted
judged-accepts : (s : State) (src dst : List ℕ) (v : Content) → is_foreign s src dst v ≡ false → s.phase ≡ SynSent → has rst v.flags ≡ false
    → has ack v.flags ≡ true → has syn v.flags ≡ true → acks_syn s v ≡ true → judgement s src dst v ≡ PeerAccepts
unfolding judgement phase_judgement syn_sent_judgement
judged-accepts s src dst v mine phase no_rst has_ack has_syn acks = rw (mine, phase, no_rst, has_ack, has_syn, acks) refl

acks-own_syn : (p q : PartyState) (k : ℕ) → IsSteadyPair p q → q.endpoint.phase ≡ SynSent → (f : IsSyn p q k true) → acks_syn q.endpoint f.content ≡ true
acks-own_syn p q k h calls f =
    let s = q.endpoint in
    let alone = h.pair.back.alone in
    let snd_nxt = (opening q p (steady-back q p h) calls).1.snd_nxt_is in
    let is : position_near s f.content.ack ≡ 1 = ap (position_near s) (f.acks refl) ∙ position_of_number s.config.isn.0 s.sending.snd_una 1 alone.config.isn
    (omega arith) (omega arith) in
    eq-eqb (position_near s f.content.ack) s.sending.snd_nxt (is ∙ sym snd_nxt)

accepts-live : (q : PartyState) (src : List ℕ) (v : Content) → q.endpoint.ending ≡ NotEnded → IsLive
    (record q { endpoint = after_judgement PeerAccepts q.endpoint src v })
unfolding after_peer_accepts
accepts-live q src v going = record { opened = refl; goes_on = going }

-- WHAT IT DOES: the end is open
pub syn_sent-takes : (p q : PartyState) (life k : ℕ) → least_life ≤ life → IsSteadyPair p q → q.endpoint.phase ≡ SynSent → IsSyn p q k true
    → (delivery_refusal life p q k ≡ None) × IsLive (party_after_arrival q p (segment_at p k))
syn_sent-takes p q life k least h calls f =
    let s = q.endpoint in
    let src = p.endpoint.config.addr.0 in
    let was = opening q p (steady-back q p h) calls in
    let judged = judged-accepts s src s.config.addr.0 f.content (of_peer p q f.content h f.src f.dst) calls f.way.no_rst f.has_ack f.has_syn
    (acks-own_syn p q k h calls f) in (
      syn-goes p q life k true least h was.1.not_opened (omega (arith, was.1.snd_nxt_is)) f,
      subst IsLive (sym (arrives-as p q k true PeerAccepts f judged)) (accepts-live q src f.content was.0),
    )
