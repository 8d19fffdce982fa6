-- What is known of a segment and the end where each judgement is passed: the tests are gone through once.
use Rattle.tcp_replay.proofs.Words.{◌&&◌, ◌==◌, acceptable_judgement, ack, ack_judgement, AckOfListen, AckOfNoSyn, acks_syn, acks_unsent, AcksUnsent}
use Rattle.tcp_replay.proofs.Words.{and_parts, closed_judgement, cond_both, Content, false, Foreign, HandshakeRefused, HandshakeRefusedShut, has}
use Rattle.tcp_replay.proofs.Words.{if◌then◌else◌, is_acceptable_segment, is_allowed_shut, is_closed, is_foreign, is_listening, is_syn_received}
use Rattle.tcp_replay.proofs.Words.{is_syn_sent, Judgement, judgement, judgement_after_syn, List, listen_judgement, NoAck, not, not-false, not-true}
use Rattle.tcp_replay.proofs.Words.{OpensNothing, PeerAccepts, PeerOpens, PeerRefuses, PeerResets, phase_judgement, position_near, ResetElsewhere}
use Rattle.tcp_replay.proofs.Words.{ResetIgnored, rst, State, Stray, syn, syn_sent_judgement, SynInWindow, Taken, TakenShut, true, Unacceptable}
use Rattle.tcp_replay.proofs.Words.{unacceptable_judgement, window, ℕ, ◌≡◌}

-- the phases that are tested first are none of them
pub record IsAfterSyn (s : State) : Type 0 where
  pub shut : is_closed s.phase ≡ false
  pub listening : is_listening s.phase ≡ false
  pub syn_sent : is_syn_sent s.phase ≡ false

-- a SYN without RST, and an acknowledgement without either
pub record IsSyn (v : Content) : Type 0 where
  pub plain : has rst v.flags ≡ false
  pub is_syn : has syn v.flags ≡ true

-- an acknowledgement without SYN and RST
pub record IsAckOnly (v : Content) : Type 0 where
  pub plain : has rst v.flags ≡ false
  pub no_syn : has syn v.flags ≡ false
  pub is_ack : has ack v.flags ≡ true

-- one that is taken whole is acceptable too
pub record IsTaken (s : State) (v : Content) : Type 0 where
  pub ack_only : IsAckOnly v
  pub acceptable : is_acceptable_segment s v ≡ true

-- something holds under each judgement, where it is passed
pub record Cases (s : State) (v : Content) (P : Judgement → Type 0) : Type 0 where
  pub foreign : P Foreign
  pub reset_ignored : P ResetIgnored
  pub stray : P Stray
  pub ack_of_listen : P AckOfListen
  pub no_syn : P OpensNothing
  pub peer_opens : is_listening s.phase ≡ true → IsSyn v → P PeerOpens
  pub ack_of_no_syn : P AckOfNoSyn
  pub peer_refuses : P PeerRefuses
  pub peer_accepts : is_syn_sent s.phase ≡ true → IsSyn v → P PeerAccepts
  pub unacceptable : IsAfterSyn s → P Unacceptable
  pub peer_resets : P PeerResets
  pub reset_elsewhere : IsAfterSyn s → P ResetElsewhere
  pub syn_in_window : IsAfterSyn s → P SynInWindow
  pub no_ack : P NoAck
  pub acks_unsent : IsAfterSyn s → P AcksUnsent
  pub handshake_refused : P HandshakeRefused
  pub handshake_refused_shut : IsAfterSyn s → P HandshakeRefusedShut
  pub taken : IsAfterSyn s → IsTaken s v → P Taken
  pub taken_shut : IsAfterSyn s → IsAckOnly v → P TakenShut

module _ (s : State) (v : Content) (P : Judgement → Type 0) (c : Cases s v P) where
  in-closed : P (closed_judgement v)
  unfolding closed_judgement
  in-closed = cond_both (has rst v.flags) ResetIgnored Stray P (λ _. c.reset_ignored) (λ _. c.stray)

  in-listen : is_listening s.phase ≡ true → P (listen_judgement v)
  unfolding listen_judgement
  in-listen listening =
      cond_both (has rst v.flags) ResetIgnored (if has ack v.flags then AckOfListen else (if has syn v.flags then PeerOpens else OpensNothing)) P
      (λ _. c.reset_ignored)
      (λ plain. cond_both (has ack v.flags) AckOfListen (if has syn v.flags then PeerOpens else OpensNothing) P (λ _. c.ack_of_listen)
      (λ _. cond_both (has syn v.flags) PeerOpens OpensNothing P (λ told. c.peer_opens listening (record { plain = plain; is_syn = told })) (λ _. c.no_syn)))

  in-syn_sent : is_syn_sent s.phase ≡ true → P (syn_sent_judgement s v)
  unfolding syn_sent_judgement
  in-syn_sent sent =
      let answers = if has syn v.flags && has ack v.flags then PeerAccepts else OpensNothing in
      let resets = if has ack v.flags then PeerRefuses else ResetIgnored in
      cond_both (has ack v.flags && not (acks_syn s v)) (if has rst v.flags then ResetIgnored else AckOfNoSyn) (if has rst v.flags then resets else answers) P
      (λ _. cond_both (has rst v.flags) ResetIgnored AckOfNoSyn P (λ _. c.reset_ignored) (λ _. c.ack_of_no_syn))
      (λ _. cond_both (has rst v.flags) resets answers P
      (λ _. cond_both (has ack v.flags) PeerRefuses ResetIgnored P (λ _. c.peer_refuses) (λ _. c.reset_ignored))
      (λ plain. cond_both (has syn v.flags && has ack v.flags) PeerAccepts OpensNothing P
      (λ e. c.peer_accepts sent (record { plain = plain; is_syn = (and_parts (has syn v.flags) (has ack v.flags) e).0 })) (λ _. c.no_syn)))

  by-ack : (good refused : Judgement) → IsAfterSyn s → P good → P refused → P (ack_judgement s v good refused)
  unfolding ack_judgement
  by-ack good refused after_syn well ill =
      cond_both (is_syn_received s.phase) (if acks_syn s v then good else refused)
      (if acks_unsent s.sending (position_near s v.ack) then AcksUnsent else good) P
      (λ _. cond_both (acks_syn s v) good refused P (λ _. well) (λ _. ill))
      (λ _. cond_both (acks_unsent s.sending (position_near s v.ack)) AcksUnsent good P (λ _. c.acks_unsent after_syn) (λ _. well))

  in-unacceptable : IsAfterSyn s → P (unacceptable_judgement s v)
  unfolding unacceptable_judgement
  in-unacceptable after_syn =
      let allowed = ack_judgement s v TakenShut HandshakeRefusedShut in
      cond_both (has rst v.flags) ResetIgnored (if is_allowed_shut s v then allowed else Unacceptable) P (λ _. c.reset_ignored)
      (λ plain. cond_both (is_allowed_shut s v) allowed Unacceptable P
      (λ e.
      let told = and_parts (has ack v.flags) (not (has syn v.flags))
      (and_parts (window s.receiving.inbox == 0) (has ack v.flags && not (has syn v.flags)) e).1 in
      by-ack TakenShut HandshakeRefusedShut after_syn
      (c.taken_shut after_syn (record { plain = plain; no_syn = not-true (has syn v.flags) told.1; is_ack = told.0 })) (c.handshake_refused_shut after_syn))
      (λ _. c.unacceptable after_syn))

  in-acceptable : IsAfterSyn s → is_acceptable_segment s v ≡ true → P (acceptable_judgement s v)
  unfolding acceptable_judgement
  in-acceptable after_syn fits =
      let resets = if v.seq == s.receiving.rcv_nxt then PeerResets else ResetElsewhere in
      let acks = ack_judgement s v Taken HandshakeRefused in
      cond_both (has rst v.flags) resets (if has syn v.flags then SynInWindow else (if not (has ack v.flags) then NoAck else acks)) P
      (λ _. cond_both (v.seq == s.receiving.rcv_nxt) PeerResets ResetElsewhere P (λ _. c.peer_resets) (λ _. c.reset_elsewhere after_syn))
      (λ plain. cond_both (has syn v.flags) SynInWindow (if not (has ack v.flags) then NoAck else acks) P (λ _. c.syn_in_window after_syn)
      (λ bare. cond_both (not (has ack v.flags)) NoAck acks P (λ _. c.no_ack)
      (λ told. by-ack Taken HandshakeRefused after_syn
      (c.taken after_syn (record {
        ack_only = record {
          plain = plain;
          no_syn = bare;
          is_ack = not-false
              (has ack v.flags) told;
        };
        acceptable = fits;
      })) c.handshake_refused)))

  in-after_syn : IsAfterSyn s → P (judgement_after_syn s v)
  unfolding judgement_after_syn
  in-after_syn after_syn =
      cond_both (is_acceptable_segment s v) (acceptable_judgement s v) (unacceptable_judgement s v) P (in-acceptable after_syn) (λ _. in-unacceptable after_syn)

  -- something holds of what is judged by the phase
  pub in-phase : P (phase_judgement s v)
  unfolding phase_judgement
  in-phase =
      let opens = if is_syn_sent s.phase then syn_sent_judgement s v else judgement_after_syn s v in
      cond_both (is_closed s.phase) (closed_judgement v) (if is_listening s.phase then listen_judgement v else opens) P (λ _. in-closed)
      (λ shut. cond_both (is_listening s.phase) (listen_judgement v) opens P in-listen
      (λ listening. cond_both (is_syn_sent s.phase) (syn_sent_judgement s v) (judgement_after_syn s v) P in-syn_sent
      (λ sent. in-after_syn (record { shut = shut; listening = listening; syn_sent = sent }))))

  -- and of whatever is judged
  pub judged : (src dst : List ℕ) → P (judgement s src dst v)
  unfolding judgement
  judged src dst = cond_both (is_foreign s src dst v) Foreign (phase_judgement s v) P (λ _. c.foreign) (λ _. in-phase)
