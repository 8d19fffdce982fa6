-- A SEGMENT THAT THE PEER EMITTED arrives: whatever is judged of it, the end stays sound; and what else each rule has to keep, gone through once.
use Rattle.tcp_replay.proofs.Words.{◌+◌, ◌^◌, ack, acks_more, after_ack, after_acked_text, after_discarding, after_fin, after_its_ack, after_its_text}
use Rattle.tcp_replay.proofs.Words.{after_judgement, after_orderly_end, after_own_fin, after_own_syn, after_peer_accepts, after_peer_opens, after_taking}
use Rattle.tcp_replay.proofs.Words.{after_taking_shut, after_text, after_window_and_blocks, ap, arith, Bool, cond_both, Content, discards, eqb-true, false}
use Rattle.tcp_replay.proofs.Words.{first_reset, HandshakeRefusedShut, has, has_fin, if◌then◌else◌, is_fin_acked, is_last_ack, is_listening}
use Rattle.tcp_replay.proofs.Words.{is_syn_received, is_syn_sent, IsTruthful, IsValid, Judgement, judgement, length, List, nat_tests, number, Option}
use Rattle.tcp_replay.proofs.Words.{PartyState, Pending, phase_after_fin, phase_after_own_fin, position_near, rcv_position_of, refl, reset_at_ack}
use Rattle.tcp_replay.proofs.Words.{reset_of_stray, rst, Sending, StandsAt, State, sym, syn, Taken, TakenShut, takes_fin, takes_text_of, true}
use Rattle.tcp_replay.proofs.Words.{WaitingReset, window_from, with_ack_pending, with_acked, with_fin, with_reset, with_syn_acked, with_window, witness_of}
use Rattle.tcp_replay.proofs.Words.{◌||◌, ℕ, ◌∙◌, ◌≡◌, ◌≤◌}
use Rattle.tcp_conn.specs.declared.phase.Ending.TheVariants.{Reset}
use Rattle.tcp_replay.proofs.one_end.AloneCalls.{after_syn-pending, alone-acceptance, alone-opening, writable-at_ack, writable-stray}
use Rattle.tcp_replay.proofs.pair.TakingSegments.{acked_text-behind, IsAck, IsAhead, IsYoung, kept-acked_text, kept-its_ack, kept-its_text, kept-own_syn}
use Rattle.tcp_replay.proofs.pair.TakingSegments.{kept-taking, kept-taking_shut, kept-window_and_blocks, own_syn-near, Synced, young-later}
use Rattle.tcp_replay.proofs.{pair.Halves.takes-syn, pair.Steps.Kept, pair.Steps.kept-changed, pair.Steps.kept-discarded, pair.Steps.kept-with_pending, pair.Steps.kept-reset, one_end.Phases.end-listen}
use Rattle.tcp_replay.proofs.{one_end.Phases.end-syn_sent, one_end.Phases.syn_sent-knows, one_end.Judgements.IsAckOnly, one_end.Judgements.IsAfterSyn, one_end.Judgements.IsSyn, one_end.Judgements.judged}
use Rattle.tcp_replay.proofs.{Lists.by_test, one_end.Alone.same-window_and_blocks, Cases.own_fin-cases}
use Rattle.tcp_replay.proofs.Words.{Stray, HandshakeRefused, Unacceptable, PeerResets, PeerOpens, PeerAccepts}
use Rattle.tcp_replay.proofs.one_end.Judgements.{IsTaken}

-- SYN: its position is 0
syn-number : (p q : PartyState) (v : Content) → IsTruthful (witness_of q p) v → has syn v.flags ≡ true → v.seq ≡ number q.endpoint.config.isn.0 0
syn-number p q v truth e =
    let zero : truth.own.position ≡ 0 = eqb-true truth.own.position 0 (sym truth.own.has_syn ∙ e) in
    truth.own.seq ∙ ap (number q.endpoint.config.isn.0) zero

-- in LISTEN
kept-opening : (p q : PartyState) (s : State) (v : Content) → IsValid v → IsTruthful (witness_of q p) v → is_listening s.phase ≡ true → has syn v.flags ≡ true
    → Kept p q s
    → Kept p q (after_peer_opens s q.endpoint.config.addr.0 v)
unfolding after_peer_opens
kept-opening p q s v valid truth listening e h =
    let r = s.receiving in
    let src = q.endpoint.config.addr.0 in
    let at = end-listen s listening h.here.alone.progress in
    kept-changed p q s _ h refl (alone-opening s p.accepted p.closed src v valid listening h.here.alone)
    (record { peer = λ _. refl; reset = h.here.speaks.reset })
    (takes-syn r q.endpoint.config.isn.0 v.seq q.accepted q.closed at.1.not_opened (syn-number p q v truth e) h.here.takes)
    h.here.delivers
    (omega arith) (λ _. refl) (omega arith)

-- in SYN-SENT
kept-acceptance : (p q : PartyState) (s : State) (v : Content) → IsTruthful (witness_of q p) v → is_syn_sent s.phase ≡ true → has syn v.flags ≡ true
    → Kept p q s → Kept p q (after_peer_accepts s v)
unfolding after_peer_accepts
kept-acceptance p q s v truth sent e h =
    let r = s.receiving in
    let at = end-syn_sent s sent h.here.alone.progress in
    kept-changed p q s _ h refl (alone-acceptance s p.accepted p.closed v sent h.here.alone)
    (record { peer = λ _. h.here.speaks.peer (syn_sent-knows s.phase sent); reset = h.here.speaks.reset })
    (takes-syn r q.endpoint.config.isn.0 v.seq q.accepted q.closed at.1.not_opened (syn-number p q v truth e) h.here.takes)
    h.here.delivers
    (omega (arith, at.1.snd_nxt_is)) (λ _. refl) (omega arith)

-- WHAT ARRIVES: a segment that the peer emitted at these positions, which is truthful unless it is a reset, and whose lifetime
-- isn't over
pub record Comes (p q : PartyState) (s : State) (v : Content) (position wanted : ℕ) : Type 0 where
  pub valid : IsValid v
  pub truthful : has rst v.flags ≡ false → StandsAt (witness_of q p) v position wanted
  pub near : rcv_position_of q ≤ 2 + length p.accepted
  pub close : IsAhead p q
  pub young : has rst v.flags ≡ false → IsYoung s position
  pub acks_young : has rst v.flags ≡ false → has ack v.flags ≡ true → s.sending.snd_una ≤ wanted + 2 ^ 31

-- a judgement under which the end stays sound
abbrev pub Fair : PartyState → PartyState → State → Content → Judgement → Type 0
Fair p q s v j = Kept p q (after_judgement j s q.endpoint.config.addr.0 v)

-- an acknowledgement may be owed in the phases that aren't tested first
fair-with_pending : (p q : PartyState) (s : State) → Kept p q s → IsAfterSyn s → Kept p q (with_ack_pending s)
fair-with_pending p q s h after_syn = let has_pending = after_syn-pending s p.accepted p.closed after_syn h.here.alone in kept-with_pending p q s has_pending.0 has_pending.1 h

-- the acknowledgement of a segment that is truthful
module _ (p q : PartyState) (s : State) (v : Content) (position wanted : ℕ) (c : Comes p q s v position wanted) (told : IsAckOnly v) where
  -- what it says
  abbrev pub truth_of : IsTruthful (witness_of q p) v
  truth_of = (c.truthful told.plain).truth

  -- what it acknowledges is a position of the own stream, and not far from SND.UNA
  pub ack-is : Kept p q s → IsAck s v (truth_of.has_ack told.is_ack).position
  ack-is h =
      let a = truth_of.has_ack told.is_ack in record {
        number = a.number ∙ ap (λ n. number n a.position) (sym h.grows.iss);
        behind = omega (arith, c.acks_young told.plain told.is_ack, (c.truthful told.plain).wanted_is told.is_ack);
      }

  -- its text does not lie too far behind what is wanted
  pub young-is : IsYoung s truth_of.own.position
  young-is = omega (arith, c.young told.plain, (c.truthful told.plain).position_is)

  fair-taken : Kept p q s → IsAfterSyn s → Fair p q s v Taken
  fair-taken h after_syn =
      let a = truth_of.has_ack told.is_ack in
      kept-taking p q s v a.position (ack-is h) a.most c.near c.close truth_of young-is after_syn h

  fair-taken_shut : Kept p q s → IsAfterSyn s → Fair p q s v TakenShut
  fair-taken_shut h after_syn =
      let a = truth_of.has_ack told.is_ack in
      kept-taking_shut p q s v a.position (ack-is h) a.most c.near after_syn h

fair-refused_shut : (p q : PartyState) (s : State) (v : Content) → IsValid v → Kept p q s → IsAfterSyn s → Fair p q s v HandshakeRefusedShut
fair-refused_shut p q s v valid h after_syn =
    let reset = reset_at_ack q.endpoint.config.addr.0 v in
    let waits : Kept p q (with_reset s reset) = kept-reset p q s reset (writable-at_ack q.endpoint.config.addr.0 v valid) refl h in
    fair-with_pending p q (with_reset s reset) waits (record { shut = after_syn.shut; listening = after_syn.listening; syn_sent = after_syn.syn_sent })

-- whatever is judged of a segment that the peer emitted, both ends stay sound
pub fair-judgement : (p q : PartyState) (s : State) (dst : List ℕ) (v : Content) (position wanted : ℕ) → Comes p q s v position wanted → Kept p q s
    → Fair p q s v (judgement s q.endpoint.config.addr.0 dst v)
fair-judgement p q s dst v position wanted c h =
    let src = q.endpoint.config.addr.0 in
    let J : Judgement → Type 0 = Fair p q s v in
    let stray : J Stray = kept-reset p q s (reset_of_stray src v) (writable-stray src v c.valid) refl h in
    let refused : J HandshakeRefused = kept-reset p q s (reset_at_ack src v) (writable-at_ack src v c.valid) refl h in
    let refused_shut : IsAfterSyn s → J HandshakeRefusedShut = fair-refused_shut p q s v c.valid h in
    let adds_pending : IsAfterSyn s → J Unacceptable = fair-with_pending p q s h in
    let gone : J PeerResets = kept-discarded p q s Reset refl h in
    let opens : is_listening s.phase ≡ true → IsSyn v → J PeerOpens =
    λ listening is. kept-opening p q s v c.valid (c.truthful is.plain).truth listening is.is_syn h in
    let accepts : is_syn_sent s.phase ≡ true → IsSyn v → J PeerAccepts = λ sent is. kept-acceptance p q s v (c.truthful is.plain).truth sent is.is_syn h in
    let taken : IsAfterSyn s → IsTaken s v → J Taken = λ after_syn is. fair-taken p q s v position wanted c is.ack_only h after_syn in
    let shut : IsAfterSyn s → IsAckOnly v → J TakenShut = λ after_syn told. fair-taken_shut p q s v position wanted c told h after_syn in
    judged s v J (assumption) src dst

-- WHAT EACH RULE HAS TO KEEP of party p's end where segment v comes, at these positions: P of the end before and after, B of the states between
-- the acknowledgement of its SYN and what that of its FIN does
pub record KeptByArrival (p q : PartyState) (v : Content) (position wanted : ℕ) (P B : State → Type 0) : Type 0 where
  pub same : P p.endpoint
  -- something is owed: most judgements do nothing else
  pub has_pending : (ack : Bool) (reset : Option WaitingReset) → P (record p.endpoint { pending = record p.endpoint.pending { ack = ack; reset = reset } })
  pub gone : P (after_discarding p.endpoint Reset)
  -- the peer's SYN is taken
  pub opens : is_listening p.endpoint.phase ≡ true → IsSyn v → P (after_peer_opens p.endpoint q.endpoint.config.addr.0 v)
  pub accepts : is_syn_sent p.endpoint.phase ≡ true → IsSyn v → P (after_peer_accepts p.endpoint v)
  -- the acknowledgement: of the own SYN, of text, its window and blocks, and of the own FIN
  pub own_syn : IsAfterSyn p.endpoint → IsAckOnly v → B (after_own_syn p.endpoint v)
  pub acked_text : (x : State) → IsAckOnly v → Synced p q x → position_near x v.ack ≡ wanted → B x → B (after_acked_text x v)
  pub window_and_blocks : (x : State) → IsAckOnly v → Synced p q x → x.sending.snd_una ≤ wanted + 2 ^ 31 → B x → B (after_window_and_blocks x v)
  pub last : (x : State) → Synced p q x → is_fin_acked x.sending ≡ true → is_last_ack x.phase ≡ true → B x → P (after_orderly_end x)
  pub passes : (x : State) → Synced p q x → is_fin_acked x.sending ≡ true → is_last_ack x.phase ≡ false → B x
      → P (record x { phase = phase_after_own_fin x.phase })
  pub stays : (x : State) → Synced p q x → is_fin_acked x.sending ≡ false → B x → P x
  -- text, and the peer's FIN; an acknowledgement of all that the peer wants was taken
  pub text : (x : State) (ack : Bool) → IsAckOnly v → Kept p q x → IsYoung x position → takes_text_of x v ≡ true → P x
      → P (record x { receiving = after_text x.receiving v.seq v.text; pending = record x.pending { ack = ack } })
  pub fin : (x : State) (ack : Bool) → IsAckOnly v → Kept p q x → (rcv_position_of q ≡ wanted → wanted ≤ p.endpoint.sending.snd_nxt → x.sending.snd_una ≡ wanted)
      → takes_fin x v ≡ true → P x
      → P (record x { phase = phase_after_fin x.phase; receiving = with_fin x.receiving; pending = record x.pending { ack = ack } })
  pub adds_pending : (x : State) (ack : Bool) → P x → P (record x { pending = record x.pending { ack = ack } })

-- SND.UNA is what is acknowledged of what was sent
pub ack-to : (d : Sending) (a : ℕ) → d.snd_una ≤ a → a ≤ d.snd_nxt → (after_ack d a).snd_una ≡ a
unfolding after_ack
ack-to d a least most =
    cond_both (acks_more d a) (with_acked d a) d (λ (x : Sending). x.snd_una ≡ a) (λ _. refl) (λ e. grind (arith, nat_tests, e, least, most))

-- and so it is of the acknowledgement of a segment
pub acked_text-to : (s : State) (v : Content) (a : ℕ) → position_near s v.ack ≡ a → s.sending.snd_una ≤ a → a ≤ s.sending.snd_nxt
    → (after_acked_text s v).sending.snd_una ≡ a
unfolding after_acked_text
acked_text-to s v a is least most = ack-to s.sending (position_near s v.ack) (omega (arith, is, least)) (omega (arith, is, most)) ∙ is

-- the acknowledgement of the own SYN leaves SND.NXT where it was
pub own_syn-nxt : (s : State) (v : Content) → (after_own_syn s v).sending.snd_nxt ≡ s.sending.snd_nxt
unfolding after_own_syn
own_syn-nxt s v =
    cond_both (is_syn_received s.phase) (with_window (with_syn_acked s.sending) v.seq v.ack (window_from s.link v.window)) s.sending
    (λ (x : Sending). x.snd_nxt ≡ s.sending.snd_nxt)
    (λ _. refl) (λ _. refl)

-- the acknowledgement of the own FIN leaves it there
own_fin-una : (x : State) → (after_own_fin x).sending.snd_una ≡ x.sending.snd_una
own_fin-una x = own_fin-cases x (λ y. y.sending.snd_una ≡ x.sending.snd_una) (λ _ _. refl) (λ _ _. refl) (λ _. refl)

text-una : (x : State) (v : Content) → (after_its_text x v).sending.snd_una ≡ x.sending.snd_una
unfolding after_its_text
text-una x v = refl

its_ack-released : (p q : PartyState) (s : State) (v : Content) → Synced p q (after_acked_text (after_own_syn s v) v)
    → (after_its_ack s v).sending.snd_una ≡ (after_acked_text (after_own_syn s v) v).sending.snd_una
unfolding after_its_ack
its_ack-released p q s v synced =
    let two = after_acked_text (after_own_syn s v) v in
    own_fin-una (after_window_and_blocks two v) ∙ (same-window_and_blocks two p.accepted p.closed (discards two.ending) v synced.kept.here.alone.sends).snd_una

module _ (p q : PartyState) (v : Content) (position wanted : ℕ) (P B : State → Type 0) (c : Comes p q p.endpoint v position wanted) where
  module _ (kept : Kept p q p.endpoint) (h : KeptByArrival p q v position wanted P B) where
    own_fin-kept : (x : State) → Synced p q x → B x → P (after_own_fin x)
    own_fin-kept x synced b =
        own_fin-cases x P (λ e last. h.last x synced e last b) (λ e more. h.passes x synced e more b) (λ e. h.stays x synced e b)

    its_text-kept : (x : State) → IsAckOnly v → Kept p q x → IsYoung x position → P x → P (after_its_text x v)
    unfolding after_its_text
    its_text-kept x told k young b =
        let pending : Pending = record x.pending { ack = x.pending.ack || takes_text_of x v } in
        by_test (takes_text_of x v) (λ b. P (record x { receiving = if b then after_text x.receiving v.seq v.text else x.receiving; pending = pending }))
        (λ e. h.text x pending.ack told k young e b) (λ _. h.adds_pending x pending.ack b)

    fin-kept : (x : State) → IsAckOnly v → Kept p q x → (rcv_position_of q ≡ wanted → wanted ≤ p.endpoint.sending.snd_nxt → x.sending.snd_una ≡ wanted) → P x
        → P (after_fin x v)
    unfolding after_fin
    fin-kept x told k snd_una b =
        let pending : Pending = record x.pending { ack = x.pending.ack || has_fin x v } in
        by_test (takes_fin x v)
        (λ b. P (record x { phase = if b then phase_after_fin x.phase else x.phase; receiving = if b then with_fin x.receiving else x.receiving; pending = pending }))
        (λ e. h.fin x pending.ack told k snd_una e b) (λ _. h.adds_pending x pending.ack b)

    module _ (told : IsAckOnly v) (after_syn : IsAfterSyn p.endpoint) where
      acked-synced : Synced p q (after_acked_text (after_own_syn p.endpoint v) v)
      acked-synced =
          let s = p.endpoint in
          let a = (c.truthful told.plain).truth.has_ack told.is_ack in
          let is = ack-is p q s v position wanted c told kept in
          kept-acked_text p q (after_own_syn s v) v a.position (own_syn-near p q s v a.position is a.most c.near after_syn kept) a.most
          (kept-own_syn p q s v after_syn kept)

      its_ack-kept : P (after_its_ack p.endpoint v)
      unfolding after_its_ack
      its_ack-kept =
          let s = p.endpoint in
          let stands = c.truthful told.plain in
          let a = stands.truth.has_ack told.is_ack in
          let same : a.position ≡ wanted = stands.wanted_is told.is_ack in
          let is = ack-is p q s v position wanted c told kept in
          let near = own_syn-near p q s v a.position is a.most c.near after_syn kept in
          let one = kept-own_syn p q s v after_syn kept in
          let two = acked-synced in
          let behind = acked_text-behind p q s v a.position is a.most c.near after_syn kept in
          own_fin-kept _ (kept-window_and_blocks p q _ v two)
          (h.window_and_blocks _ told two (omega (arith, behind, same)) (h.acked_text _ told one (near ∙ same) (h.own_syn after_syn told)))

      taking-kept : P (after_taking p.endpoint v)
      unfolding after_taking
      taking-kept =
          let s = p.endpoint in
          let stands = c.truthful told.plain in
          let a = stands.truth.has_ack told.is_ack in
          let is = ack-is p q s v position wanted c told kept in
          let first = kept-its_ack p q s v a.position is a.most c.near after_syn kept in
          let young = young-later s v stands.truth.own.position (young-is p q s v position wanted c told) in
          let later : IsYoung (after_its_ack s v) position = omega (arith, young, stands.position_is) in
          let one = kept-own_syn p q s v after_syn kept in
          let near = own_syn-near p q s v a.position is a.most c.near after_syn kept in
          let same : a.position ≡ wanted = stands.wanted_is told.is_ack in
          let snd_una : rcv_position_of q ≡ wanted → wanted ≤ s.sending.snd_nxt → (after_its_text (after_its_ack s v) v).sending.snd_una ≡ wanted = λ all sent.
          text-una (after_its_ack s v) v ∙ its_ack-released p q s v acked-synced
          ∙ acked_text-to (after_own_syn s v) v wanted (near ∙ same) (omega (arith, all, one.kept.here.between)) (omega (arith, sent, own_syn-nxt s v)) in
          fin-kept _ told (kept-its_text p q _ v c.close stands.truth young first) snd_una (its_text-kept _ told first later its_ack-kept)

      taking_shut-kept : P (after_taking_shut p.endpoint v)
      unfolding after_taking_shut
      taking_shut-kept = h.adds_pending _ (after_taking_shut p.endpoint v).pending.ack its_ack-kept

    -- whatever is judged of it
    pub on-arrival : (dst : List ℕ) → P (after_judgement (judgement p.endpoint q.endpoint.config.addr.0 dst v) p.endpoint q.endpoint.config.addr.0 v)
    on-arrival dst =
        let s = p.endpoint in
        let src = q.endpoint.config.addr.0 in
        let J : Judgement → Type 0 = λ j. P (after_judgement j s src v) in
        let stray : J Stray = h.has_pending s.pending.ack (first_reset s.pending.reset (reset_of_stray src v)) in
        let refused : J HandshakeRefused = h.has_pending s.pending.ack (first_reset s.pending.reset (reset_at_ack src v)) in
        let refused_shut : J HandshakeRefusedShut = h.has_pending true (first_reset s.pending.reset (reset_at_ack src v)) in
        let adds_pending : J Unacceptable = h.has_pending true s.pending.reset in
        let taken : IsAfterSyn s → IsTaken s v → J Taken = λ after_syn is. taking-kept is.ack_only after_syn in
        let shut : IsAfterSyn s → IsAckOnly v → J TakenShut = λ after_syn told. taking_shut-kept told after_syn in
        judged s v J (assumption) src dst
