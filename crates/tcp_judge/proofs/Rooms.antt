-- THE RECEIVE BUFFER of one end by itself: what is unread and the places out of order stay as many as the Config's capacity.
use Rattle.std.proofs.Common.{◌≡◌, ℕ, List, sym, subst}
use Rattle.std.specs.Prelude.{None}
use Rattle.std.proofs.lemmas.Bool.{cond_both}
use Rattle.tcp_wire.specs.Wire.{Content}
use Rattle.tcp_halves.specs.declared.link.Peer.{Peer}
use Rattle.tcp_halves.specs.Receiver.{Receiving, HoldsWithin, after_delivering, after_text, with_fin, without_bytes}
use Rattle.tcp_conn.specs.declared.arrive.judgement.Judgement.{Judgement}
use Rattle.tcp_conn.specs.declared.arrive.judgement.Judgement.TheVariants.{PeerResets, PeerOpens, PeerAccepts, Taken, TakenShut}
use Rattle.tcp_conn.specs.State.{State}
use Rattle.tcp_conn.specs.Calls.{receive_refusal}
use Rattle.tcp_conn.specs.Judgement.{judgement}
use Rattle.tcp_conn.specs.Arrival.{after_peer_opens, after_peer_accepts, after_its_ack, takes_text_of, after_its_text, takes_fin, after_fin, after_taking}
use Rattle.tcp_conn.specs.Arrival.{after_taking_shut, after_judgement}
use Rattle.tcp_replay.specs.World.{PartyState}
use Rattle.tcp_replay.proofs.one_end.Judgements.{judged}
use Rattle.tcp_replay.proofs.pair.Calls.{KeptByCalls}
use Rattle.tcp_replay.proofs.one_end.Room.{within-discarded, within-fin, within-read, within-text}
use Rattle.tcp_replay.proofs.pair.TakingSegments.{its_ack-receiving}

module _ (capacity : ℕ) where
  -- its room is the capacity
  abbrev pub HasRoom : Receiving → Type 0
  HasRoom r = HoldsWithin capacity r.inbox

  room-same : (r r' : Receiving) → HasRoom r → r' ≡ r → HasRoom r'
  room-same r r' h e = subst HasRoom (sym e) h

  -- ALL CALLS, timers and emissions
  pub room-calls : (peer : Peer) (p : PartyState) → HasRoom p.endpoint.receiving → KeptByCalls peer p (λ p'. HasRoom p'.endpoint.receiving)
  room-calls peer p h =
      let r = p.endpoint.receiving in
      let reads : (room : ℕ) → receive_refusal p.endpoint ≡ None → HasRoom (after_delivering r room) = λ room _. within-read capacity r room h in
      let gone : HasRoom (without_bytes r) = within-discarded capacity r h in
      assumption

  -- A SEGMENT ARRIVES
  room-its_text : (x : State) (v : Content) → HasRoom x.receiving → HasRoom (after_its_text x v).receiving
  unfolding after_its_text
  room-its_text x v h =
      cond_both (takes_text_of x v) (after_text x.receiving v.seq v.text) x.receiving HasRoom (λ _. within-text capacity x.receiving v.seq v.text h) (λ _. h)

  room-its_fin : (y : State) (v : Content) → HasRoom y.receiving → HasRoom (after_fin y v).receiving
  unfolding after_fin
  room-its_fin y v h = cond_both (takes_fin y v) (with_fin y.receiving) y.receiving HasRoom (λ _. within-fin capacity y.receiving h) (λ _. h)

  room-taking : (s : State) (v : Content) → HasRoom s.receiving → HasRoom (after_taking s v).receiving
  unfolding after_taking
  room-taking s v h =
      let x = after_its_ack s v in
      room-its_fin (after_its_text x v) v (room-its_text x v (room-same s.receiving x.receiving h (its_ack-receiving s v)))

  room-shut : (s : State) (v : Content) → HasRoom s.receiving → HasRoom (after_taking_shut s v).receiving
  unfolding after_taking_shut
  room-shut s v h = room-same s.receiving _ h (its_ack-receiving s v)

  room-opens : (s : State) (src : List ℕ) (v : Content) → HasRoom s.receiving → HasRoom (after_peer_opens s src v).receiving
  unfolding after_peer_opens
  room-opens s src v h = h

  room-accepts : (s : State) (v : Content) → HasRoom s.receiving → HasRoom (after_peer_accepts s v).receiving
  unfolding after_peer_accepts
  room-accepts s v h = h

  pub room-judgement : (s : State) (src dst : List ℕ) (v : Content) → HasRoom s.receiving
      → HasRoom (after_judgement (judgement s src dst v) s src v).receiving
  room-judgement s src dst v h =
      let J : Judgement → Type 0 = λ j. HasRoom (after_judgement j s src v).receiving in
      let gone : J PeerResets = within-discarded capacity s.receiving h in
      let opens : J PeerOpens = room-opens s src v h in
      let accepts : J PeerAccepts = room-accepts s v h in
      let taken : J Taken = room-taking s v h in
      let shut : J TakenShut = room-shut s v h in
      judged s v J (assumption) src dst
