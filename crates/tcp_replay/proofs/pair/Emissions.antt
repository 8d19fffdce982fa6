-- What is due may go out to the peer: it is truthful unless it is a reset, and the end stays sound.
use Rattle.tcp_halves.specs.Sent as half
use Rattle.tcp_replay.proofs.Words.{◌+◌, ◌-◌, ack, ap, arith, Bool, bytes_of, Content, count_of, decode_answer, decoded_encoded, destination_of, drop, Due}
use Rattle.tcp_replay.proofs.Words.{due_of, encoded_bytes, false, false≢true, fin, has, IfSome, if◌then◌else◌, is_fin, is_handshake, is_some, IsOfUser}
use Rattle.tcp_replay.proofs.Words.{IsOwn, IsSoundPair, IsTrueAck, IsTruthful, IsValid, IsWire_encoded, length, length-drop, length-take, List, min}
use Rattle.tcp_replay.proofs.Words.{ne_eqb, None, Ok, Option, PartyState, pending_after, plain_segment, position_of, position_of_number, psh, rcv_position}
use Rattle.tcp_replay.proofs.Words.{rcv_position_of, refl, Reset, rst, segment_of, sent_by, seq_in, Some, StandsAt, start_of, State, state_after, subst}
use Rattle.tcp_replay.proofs.Words.{sym, Syn, syn, syn_segment, take, take_min, text_of, true, WaitingReset, witness_of, ℕ, ◌∙◌, ◌≡◌, ◌≤◌}
use Rattle.tcp_replay.proofs.{Lists.one_if-most, one_end.AloneEmissions.due-alone, one_end.AloneEmissions.GoesOutAlone, one_end.AloneEmissions.if-some-map}
use Rattle.tcp_replay.proofs.{one_end.AloneEmissions.IsSaid, one_end.Phases.handshake-knows, one_end.Phases.handshake-una, pair.Steps.Kept}
use Rattle.tcp_replay.proofs.{pair.Steps.kept-alone, pair.Steps.kept-same}
use Rattle.tcp_replay.proofs.Words.{Acknowledgement, flags_of, Sending, Text, waiting_destination, waiting_segment}

-- an acknowledgement is of the next position
true-ack : (p q : PartyState) (ack : ℕ) → p.endpoint.receiving.opened ≡ true → ack ≡ p.endpoint.receiving.rcv_nxt → IsSoundPair p q
    → IsTrueAck (witness_of p q) ack
true-ack p q ack opened e h =
    record { opened = opened; position = rcv_position_of p; least = omega arith; most = omega arith; number = e ∙ h.there.takes.next opened }

-- the next position is counted to its end
pub rcv_position-is : (p q : PartyState) → IsSoundPair p q → rcv_position p.endpoint.receiving ≡ rcv_position_of p
rcv_position-is p q h = omega (arith, h.there.takes.order, h.back.alone.sends.limit, one_if-most p.endpoint.receiving.finished)

-- A SYN
pub syn-bits : (opened : Bool) → (has syn (syn + (if opened then ack else 0)) ≡ true) × (has fin (syn + (if opened then ack else 0)) ≡ false) × (has ack
    (syn + (if opened then ack else 0)) ≡ opened)
syn-bits true = (refl, refl, refl)
syn-bits false = (refl, refl, refl)

-- a SYN is its user's: position 0, without text
pub syn-of_user : (s : State) (accepted : List ℕ) (closed : Bool) → IsOfUser s.config.isn.0 accepted closed (syn_segment s)
syn-of_user s accepted closed =
    let bits = syn-bits s.receiving.opened in
    record {
      position = 0;
      seq = refl;
      within = omega arith;
      has_syn = bits.0;
      bare = λ _. (refl, bits.1);
      fits = λ some. absurd (omega arith);
      text = λ some. refl;
      has_fin = λ told. absurd (false≢true (sym bits.1 ∙ told));
    }

-- it acknowledges once the peer's SYN was taken
pub syn-opened : (s : State) → has ack (syn_segment s).flags ≡ true → s.receiving.opened ≡ true
syn-opened s told = sym (syn-bits s.receiving.opened).2 ∙ told

syn-truthful : (p q : PartyState) → IsSoundPair p q → IsTruthful (witness_of p q) (syn_segment p.endpoint)
syn-truthful p q h = record {
  own = syn-of_user p.endpoint p.accepted p.closed;
  has_ack = λ told.
      let r = p.endpoint.receiving in
      let opened = syn-opened p.endpoint told in
      true-ack p q (if r.opened then r.rcv_nxt else 0) opened (ap (λ (b : Bool). if b then r.rcv_nxt else 0) opened) h;
}

-- at the positions that are kept of it
syn-stands : (p q : PartyState) → is_handshake p.endpoint.phase ≡ true → IsSoundPair p q
    → StandsAt (witness_of p q) (syn_segment p.endpoint) (position_of p.endpoint.config.isn.0 p.endpoint.sending.snd_una (syn_segment p.endpoint).seq)
    (rcv_position p.endpoint.receiving)
unfolding syn-truthful syn-of_user true-ack
syn-stands p q handshake h =
    let s = p.endpoint in
    let d = s.sending in
    let first : d.snd_una ≤ 1 =
    handshake-una s.phase s.ending d.snd_una d.snd_nxt s.receiving.opened s.receiving.finished handshake h.there.alone.sends.order h.there.alone.progress in
    record {
      truth = syn-truthful p q h;
      position_is = sym (position_of_number s.config.isn.0 d.snd_una 0 h.there.alone.config.isn (omega arith) (omega (arith, first)));
      wanted_is = λ told. sym (rcv_position-is p q h);
    }

take-own_length : (n : ℕ) (xs : List ℕ) → take n xs ≡ take (length (take n xs)) xs
take-own_length n xs = sym (ap (λ k. take k xs) (length-take n xs) ∙ take_min n xs)

-- the flags of text, FIN and acknowledgement: ACK, and neither SYN nor RST
plain-bits : (push last : Bool)
    → (has syn (ack + (if push then psh else 0) + (if last then fin else 0)) ≡ false)
    × (has fin (ack + (if push then psh else 0) + (if last then fin else 0)) ≡ last)
    × (has rst (ack + (if push then psh else 0) + (if last then fin else 0)) ≡ false)
    × (has ack (ack + (if push then psh else 0) + (if last then fin else 0)) ≡ true)
plain-bits true true = (refl, refl, refl, refl)
plain-bits true false = (refl, refl, refl, refl)
plain-bits false true = (refl, refl, refl, refl)
plain-bits false false = (refl, refl, refl, refl)

-- of whatever is due, but for a reset and a SYN
pub due-bits : (d : Sending) (due : Due)
    → (has syn (flags_of d due) ≡ false) × (has fin (flags_of d due) ≡ is_fin due) × (has rst (flags_of d due) ≡ false) × (has ack (flags_of d due) ≡ true)
due-bits d Reset = (refl, refl, refl, refl)
due-bits d Syn = (refl, refl, refl, refl)
due-bits d (Text sent) = plain-bits (half.pushes d sent) (half.is_fin sent)
due-bits d Acknowledgement = (refl, refl, refl, refl)

-- text and FIN are the user's, at their positions
pub plain-of_user : (s : State) (accepted : List ℕ) (closed : Bool) (due : Due) → IsSaid s accepted closed due
    → IsOfUser s.config.isn.0 accepted closed (plain_segment s due)
plain-of_user s accepted closed due said =
    let d = s.sending in
    let plain = said.plain in
    let start = start_of d due in
    let bits = due-bits d due in
    let count : length (text_of d due) ≡ min (count_of due) (length accepted - (start - 1)) =
    ap length plain.text ∙ length-take (count_of due) (drop (start - 1) accepted) ∙ ap (min (count_of due)) (length-drop (start - 1) accepted) in
    record {
      position = start;
      seq = refl;
      within = plain.within;
      has_syn = bits.0 ∙ sym (ne_eqb start 0 (λ none. omega (arith, plain.least)));
      bare = λ none. absurd (omega (arith, plain.least));
      fits = λ some. omega (arith, count, plain.least);
      text = λ some. plain.text ∙ take-own_length (count_of due) (drop (start - 1) accepted) ∙ ap (λ xs. take (length xs) (drop (start - 1) accepted))
          (sym plain.text);
      has_fin = λ told. let last = plain.last (sym bits.1 ∙ told) in (last.0, omega (arith, last.1, last.2, count));
    }

plain-truthful : (p q : PartyState) (due : Due) → IsSaid p.endpoint p.accepted p.closed due → IsSoundPair p q
    → IsTruthful (witness_of p q) (plain_segment p.endpoint due)
plain-truthful p q due said h =
    record { own = plain-of_user p.endpoint p.accepted p.closed due said; has_ack = λ told. true-ack p q p.endpoint.receiving.rcv_nxt said.opened refl h }

plain-stands : (p q : PartyState) (due : Due) → IsSaid p.endpoint p.accepted p.closed due → IsSoundPair p q
    → StandsAt (witness_of p q) (plain_segment p.endpoint due) (position_of p.endpoint.config.isn.0 p.endpoint.sending.snd_una (plain_segment p.endpoint due).seq)
    (rcv_position p.endpoint.receiving)
unfolding plain-truthful plain-of_user true-ack
plain-stands p q due said h =
    let s = p.endpoint in
    let d = s.sending in
    let sends = h.there.alone.sends in
    let plain = said.plain in
    record {
      truth = plain-truthful p q due said h;
      position_is = sym (position_of_number s.config.isn.0 d.snd_una (start_of d due) h.there.alone.config.isn
          (omega (arith, plain.within, one_if-most p.closed, sends.ahead, sends.released)) (omega (arith, plain.behind)));
      wanted_is = λ told. sym (rcv_position-is p q h);
    }

-- WHAT GOES OUT
pub record GoesOut (p q : PartyState) (due : Due) : Type 0 where
  pub kept : Kept p q (state_after p.endpoint due)
  pub to : (destination_of p.endpoint due).addr.0 ≡ q.endpoint.config.addr.0
  pub valid : IsValid (segment_of p.endpoint due)
  pub truthful : has rst (segment_of p.endpoint due).flags ≡ false
      → StandsAt (witness_of p q) (segment_of p.endpoint due) (position_of p.endpoint.config.isn.0 p.endpoint.sending.snd_una (segment_of p.endpoint due).seq)
      (rcv_position p.endpoint.receiving)

-- the sequence number stands where it is read
pub seq-in : (src dst : List ℕ) (v : Content) → IsValid v → v.seq ≡ seq_in (encoded_bytes src dst v)
seq-in src dst v valid = (IsWire_encoded src dst v valid).header.seq

-- what is due is truthful, or a reset
pub own-due : (p q : PartyState) (due : Due) → GoesOut p q due → IsOwn p q (sent_by p.endpoint (bytes_of p.endpoint due))
unfolding bytes_of
own-due p q due h = record {
  content = segment_of p.endpoint due;
  valid = h.valid;
  spelled = ap (λ (addr : List ℕ). encoded_bytes p.endpoint.config.addr.0 addr (segment_of p.endpoint due)) h.to;
  truthful = λ plain.
      subst (λ (n : ℕ). StandsAt (witness_of p q) (segment_of p.endpoint due) (position_of p.endpoint.config.isn.0 p.endpoint.sending.snd_una n)
      (rcv_position p.endpoint.receiving))
      (seq-in p.endpoint.config.addr.0 (destination_of p.endpoint due).addr.0 (segment_of p.endpoint due) h.valid) (h.truthful plain);
}

-- it is read again
pub due-decodes : (p q : PartyState) (due : Due) → GoesOut p q due
    → decode_answer p.endpoint.config.addr.0 q.endpoint.config.addr.0 (bytes_of p.endpoint due) ≡ Ok (segment_of p.endpoint due)
unfolding bytes_of
due-decodes p q due h =
    let src = p.endpoint.config.addr.0 in
    let dst = q.endpoint.config.addr.0 in
    let v = segment_of p.endpoint due in
    ap (λ (addr : List ℕ). decode_answer src dst (encoded_bytes src addr v)) h.to ∙ decoded_encoded src dst v h.valid

-- the end after it, and whom it goes to
kept-out : (p q : PartyState) (due : Due) → GoesOutAlone p.endpoint p.accepted p.closed due
    → IfSome (pending_after p.endpoint.receiving.opened p.endpoint.pending due).reset (λ reset. reset.to.addr.0 ≡ q.endpoint.config.addr.0)
    → IsSoundPair p q → Kept p q (state_after p.endpoint due)
kept-out p q due out reset h =
    kept-alone p q p.endpoint (state_after p.endpoint due) (kept-same p q h) refl out.alone
    (record { peer = h.there.speaks.peer; reset = reset }) refl refl h.there.between

-- a reset has RST
pub reset-bit : (told : Bool) → has rst (rst + (if told then ack else 0)) ≡ true
reset-bit true = refl
reset-bit false = refl

pub waiting-bit : (s : State) (waiting : Option WaitingReset) → is_some waiting ≡ true → has rst (waiting_segment s waiting).flags ≡ true
waiting-bit s None e = absurd (cc)
waiting-bit s (Some reset) e = reset-bit (is_some reset.ack)

goes-plain : (p q : PartyState) (due : Due) → GoesOutAlone p.endpoint p.accepted p.closed due → IsSaid p.endpoint p.accepted p.closed due → IsSoundPair p q
    → GoesOut p q due
goes-plain p q due out said h = record {
  kept = kept-out p q due out (rw said.common.reset h.there.speaks.reset) h;
  to = ap (λ peer. peer.addr.0) said.common.to ∙ h.there.speaks.peer said.knows;
  valid = out.valid;
  truthful = λ _. rw said.common.segment (plain-stands p q due said h);
}

-- and goes where it says
waiting-to : (s : State) (waiting : Option WaitingReset) (addr : List ℕ) → is_some waiting ≡ true → IfSome waiting (λ reset. reset.to.addr.0 ≡ addr)
    → (waiting_destination s waiting).addr.0 ≡ addr
waiting-to s None addr e h = absurd (cc)
waiting-to s (Some reset) addr e h = h

-- what goes out of an end goes out to its peer, and both stay sound
pub goes-out : (p q : PartyState) (due : Due) → IsSoundPair p q → GoesOutAlone p.endpoint p.accepted p.closed due → GoesOut p q due
unfolding segment_of
goes-out p q Reset h out = record {
  kept = kept-out p q Reset out tt h;
  to = waiting-to p.endpoint p.endpoint.pending.reset q.endpoint.config.addr.0 out.kind h.there.speaks.reset;
  valid = out.valid;
  truthful = λ plain. absurd (false≢true (sym plain ∙ waiting-bit p.endpoint p.endpoint.pending.reset out.kind));
}
goes-out p q Syn h out = record {
  kept = kept-out p q Syn out h.there.speaks.reset h;
  to = h.there.speaks.peer (handshake-knows p.endpoint.phase out.kind);
  valid = out.valid;
  truthful = λ _. syn-stands p q out.kind h;
}
goes-out p q other h out = goes-plain p q other out out.kind h

-- WHATEVER IS DUE
pub due-goes : (p q : PartyState) → IsSoundPair p q → IfSome (due_of p.endpoint) (GoesOut p q)
due-goes p q h =
    if-some-map (GoesOutAlone p.endpoint p.accepted p.closed) (GoesOut p q) (due_of p.endpoint) (λ due out. goes-out p q due h out)
    (due-alone p.endpoint p.accepted p.closed h.there.alone)
