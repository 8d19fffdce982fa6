-- WHAT ONLY ACKNOWLEDGES, and truly, keeps both ends sound, whatever its sequence number and its window.
use Rattle.tcp_replay.proofs.Words.{◌+◌, [], and-false, ap, Bool, cond_both, Content, false}
use Rattle.tcp_replay.proofs.Words.{after_blocks, after_judgement, after_window_update, after_acked_text, after_own_syn, after_its_ack, after_its_text, after_fin, after_taking, after_taking_shut}
use Rattle.tcp_replay.proofs.Words.{after_window_and_blocks, blocks_used, has_discarded, has_fin, is_current, is_syn_received, IsSoundPair, IsValid, Judgement, judgement, KeepBothHints, length, List, position_near, PartyState}
use Rattle.tcp_replay.proofs.Words.{rcv_position_of, refl, reported_blocks, reset_at_ack, reset_of_stray, Sending, State, subst, sym, takes_text, takes_text_of, window_from, with_ack_pending, with_reset, with_syn_acked, with_window, ℕ, ◌∙◌, ◌≡◌, ◌≤◌}
use Rattle.tcp_conn.specs.declared.arrive.judgement.Judgement.TheVariants.{Stray, PeerOpens}
use Rattle.tcp_conn.specs.declared.arrive.judgement.Judgement.TheVariants.{PeerAccepts, Unacceptable, PeerResets}
use Rattle.tcp_conn.specs.declared.arrive.judgement.Judgement.TheVariants.{HandshakeRefused, HandshakeRefusedShut, Taken, TakenShut}
use Rattle.tcp_conn.specs.declared.phase.Ending.TheVariants.{Reset}
use Rattle.tcp_replay.proofs.one_end.AloneCalls.{after_syn-pending, writable-at_ack, writable-stray}
use Rattle.std.specs.Prelude.{Option, None, Some}
use Rattle.tcp_conn.specs.Guard.{is_kept_out}
unfoldable use Rattle.tcp_conn.specs.Guard.{guarded}
use Rattle.tcp_replay.proofs.one_end.Judgements.{Cases, IsAfterSyn, IsSyn, judged}
use Rattle.tcp_replay.proofs.one_end.Phases.{discards-not_ended, end-synchronized}
use Rattle.tcp_replay.proofs.pair.Calls.{or-false}
use Rattle.tcp_replay.proofs.pair.Steps.{Kept, kept-discarded, kept-reset, kept-same, kept-with_pending}
use Rattle.tcp_replay.proofs.pair.TakingSegments.{IsAck, kept-its_ack, kept-taking_shut}
use Rattle.tcp_replay.proofs.pair.TakingSegments.{kept-acked_text, kept-own_syn, kept-window_and_blocks, own_syn-near}
use Rattle.tcp_replay.proofs.Cases.{own_fin-cases}
use Rattle.tcp_replay.proofs.hints.Hints.{Keeps}
use Rattle.tcp_replay.proofs.hints.Holdings.{AreTrueMarks, marks-after_ack, marks-discarded, marks-window}
use Rattle.tcp_keep_alive.specs.Answered.{OnlyAcknowledges}

-- WHAT COMES to p from q: it only acknowledges, and what it acknowledges q has had
pub record ComesBare (p q : PartyState) (v : Content) (wanted : ℕ) : Type 0 where
  pub only : OnlyAcknowledges v
  pub bare : v.options ≡ []
  pub valid : IsValid v
  pub is : IsAck p.endpoint v wanted
  pub had : wanted ≤ rcv_position_of q
  pub near : rcv_position_of q ≤ 2 + length p.accepted

-- ---- neither text nor FIN is taken of it
unchanged-text : (s : State) (v : Content) (t : Bool) → takes_text_of s v ≡ t → t ≡ false → after_its_text s v ≡ s
unfolding after_its_text
unchanged-text s v t is none =
    let no : takes_text_of s v ≡ false = is ∙ none in
    rw no (ap (λ (b : Bool). record s { pending = record s.pending { ack = b } }) (or-false s.pending.ack))

no-text : (s : State) (v : Content) → OnlyAcknowledges v → after_its_text s v ≡ s
no-text s v only =
    let none : takes_text_of s v ≡ false = rw only.no_text (and-false (takes_text s.phase)) in
    unchanged-text s v false none refl

no-fin : (s : State) (v : Content) → OnlyAcknowledges v → after_fin s v ≡ s
unfolding after_fin
no-fin s v only =
    let none : has_fin s v ≡ false = rw only.no_fin (and-false (takes_text s.phase)) in
    rw none (ap (λ (b : Bool). record s { pending = record s.pending { ack = b } }) (or-false s.pending.ack))

pub taken-bare : (s : State) (v : Content) → OnlyAcknowledges v → after_taking s v ≡ after_its_ack s v
unfolding after_taking
taken-bare s v only = ap (λ (x : State). after_fin x v) (no-text (after_its_ack s v) v only) ∙ no-fin (after_its_ack s v) v only

-- ---- A GUARD keeps it out, or not: then it counts as unacceptable
guard-cases : (s : State) (v : Content) (J : Judgement → Type 0) (guard : Option ℕ) → Cases s v J → Cases s v (λ j. J (guarded guard j s v))
unfolding guarded
guard-cases s v J None c = c
guard-cases s v J (Some reach) c = record {
  foreign = c.foreign;
  reset_ignored = c.reset_ignored;
  stray = c.stray;
  ack_of_listen = c.ack_of_listen;
  no_syn = c.no_syn;
  peer_opens = c.peer_opens;
  ack_of_no_syn = c.ack_of_no_syn;
  peer_refuses = c.peer_refuses;
  peer_accepts = c.peer_accepts;
  unacceptable = c.unacceptable;
  peer_resets = c.peer_resets;
  reset_elsewhere = c.reset_elsewhere;
  syn_in_window = c.syn_in_window;
  no_ack = c.no_ack;
  acks_unsent = c.acks_unsent;
  handshake_refused = c.handshake_refused;
  handshake_refused_shut = c.handshake_refused_shut;
  taken = λ after_syn is. cond_both (is_kept_out reach Taken s v) Unacceptable Taken J (λ _. c.unacceptable after_syn) (λ _. c.taken after_syn is);
  taken_shut = λ after_syn is.
      cond_both (is_kept_out reach TakenShut s v) Unacceptable TakenShut J (λ _. c.unacceptable after_syn) (λ _. c.taken_shut after_syn is);
}

-- ---- THE END STAYS SOUND
module _ (p q : PartyState) (v : Content) (wanted : ℕ) (guard : Option ℕ) (dst : List ℕ) (pair : IsSoundPair p q) (c : ComesBare p q v wanted) where
  abbrev pub s : State
  s = p.endpoint

  abbrev pub src : List ℕ
  src = q.endpoint.config.addr.0

  same : Kept p q s
  same = kept-same p q pair

  owes : (x : State) → IsAfterSyn x → Kept p q x → Kept p q (with_ack_pending x)
  owes x after_syn h =
      let has_pending = after_syn-pending x p.accepted p.closed after_syn h.here.alone in
      kept-with_pending p q x has_pending.0 has_pending.1 h

  acked : IsAfterSyn s → Kept p q (after_its_ack s v)
  acked after_syn = kept-its_ack p q s v wanted c.is c.had c.near after_syn same

  pub kept-bare : Kept p q (after_judgement (guarded guard (judgement s src dst v) s v) s src v)
  kept-bare =
      let J : Judgement → Type 0 = λ j. Kept p q (after_judgement j s src v) in
      let stray : J Stray = kept-reset p q s (reset_of_stray src v) (writable-stray src v c.valid) refl same in
      let refused : J HandshakeRefused = kept-reset p q s (reset_at_ack src v) (writable-at_ack src v c.valid) refl same in
      let refused_shut : IsAfterSyn s → J HandshakeRefusedShut = λ after_syn. owes (with_reset s (reset_at_ack src v)) (record {
        shut = after_syn.shut;
        listening = after_syn.listening;
        syn_sent = after_syn.syn_sent;
      }) refused in
      let adds_pending : IsAfterSyn s → J Unacceptable = λ after_syn. owes s after_syn same in
      let gone : J PeerResets = kept-discarded p q s Reset refl same in
      let opens : IsSyn v → J PeerOpens = λ is. absurd (cc (is.is_syn, c.only.no_syn)) in
      let accepts : IsSyn v → J PeerAccepts = λ is. absurd (cc (is.is_syn, c.only.no_syn)) in
      let taken : IsAfterSyn s → J Taken = λ after_syn. subst (Kept p q) (sym (taken-bare s v c.only)) (acked after_syn) in
      let shut : IsAfterSyn s → J TakenShut = λ after_syn. kept-taking_shut p q s v wanted c.is c.had c.near after_syn same in
      judged s v (λ j. J (guarded guard j s v)) (guard-cases s v J guard (record {
        foreign = same;
        reset_ignored = same;
        stray = stray;
        ack_of_listen = refused;
        no_syn = same;
        peer_opens = λ _. opens;
        ack_of_no_syn = refused;
        peer_refuses = gone;
        peer_accepts = λ _. accepts;
        unacceptable = adds_pending;
        peer_resets = gone;
        reset_elsewhere = adds_pending;
        syn_in_window = adds_pending;
        no_ack = same;
        acks_unsent = adds_pending;
        handshake_refused = refused;
        handshake_refused_shut = refused_shut;
        taken = λ after_syn _. taken after_syn;
        taken_shut = λ after_syn _. shut after_syn;
      })) src dst

  -- ---- WHAT IS REPORTED and marked stays true: it brings no blocks
  module _ (k : KeepBothHints p q) where
    keeps : Keeps p q s
    keeps = (λ stays. (stays, λ n has. has), k.there.marks)

    keeps-own_syn : Keeps p q (after_own_syn s v)
    unfolding after_own_syn
    keeps-own_syn =
        let d = s.sending in
        let r = q.endpoint.receiving in
        let acked_syn = with_window (with_syn_acked d) v.seq v.ack (window_from s.link v.window) in (
          keeps.0,
          λ stays. cond_both (is_syn_received s.phase) acked_syn d (λ (x : Sending). AreTrueMarks x r) (λ _. keeps.1 stays) (λ _. keeps.1 stays),
        )

    keeps-acked_text : (x : State) → Keeps p q x → Keeps p q (after_acked_text x v)
    unfolding after_acked_text
    keeps-acked_text x b = (b.0, λ stays. marks-after_ack x.sending q.endpoint.receiving (position_near x v.ack) (b.1 stays))

    keeps-window : (x : State) → Keeps p q x → Keeps p q (after_window_and_blocks x v)
    unfolding after_window_and_blocks
    keeps-window x b =
        let r = q.endpoint.receiving in
        let told = window_from x.link v.window in
        let up = after_window_update x.sending v.seq v.ack told in
        let none : blocks_used x v ≡ [] =
        cond_both x.link.sack (reported_blocks v.options) [] (λ (blocks : List (ℕ × ℕ)). blocks ≡ []) (λ _. ap reported_blocks c.bare) (λ _. refl) in
        let updated : has_discarded q ≡ false → AreTrueMarks (after_blocks x.config.isn.0 up (blocks_used x v)) r =
        λ stays. rw none (marks-window x.sending r v.seq v.ack told (b.1 stays)) in (
          b.0,
          λ stays. cond_both (is_current x v) (after_blocks x.config.isn.0 up (blocks_used x v)) x.sending (λ (d : Sending). AreTrueMarks d r)
              (λ _. updated stays) (λ _. b.1 stays),
        )

    keeps-its_ack : IsAfterSyn s → Keeps p q (after_its_ack s v)
    unfolding after_its_ack
    keeps-its_ack after_syn =
        let x = after_acked_text (after_own_syn s v) v in
        let y = after_window_and_blocks x v in
        let near = own_syn-near p q s v wanted c.is c.had c.near after_syn same in
        let one = kept-own_syn p q s v after_syn same in
        let three = kept-window_and_blocks p q x v (kept-acked_text p q (after_own_syn s v) v wanted near c.had one) in
        let at = end-synchronized y three.synced three.kept.here.alone.progress in
        let b = keeps-window x (keeps-acked_text (after_own_syn s v) keeps-own_syn) in
        own_fin-cases y (Keeps p q) (λ _ _. (λ _. b.0 (discards-not_ended y.ending at.0), b.1)) (λ _ _. b) (λ _. b)

    keeps-shut : IsAfterSyn s → Keeps p q (after_taking_shut s v)
    unfolding after_taking_shut
    keeps-shut after_syn = keeps-its_ack after_syn

    pub keeps-bare : Keeps p q (after_judgement (guarded guard (judgement s src dst v) s v) s src v)
    keeps-bare =
        let J : Judgement → Type 0 = λ j. Keeps p q (after_judgement j s src v) in
        let gone : J PeerResets = (λ stays. absurd (cc), λ _. marks-discarded s.sending q.endpoint.receiving pair.there.alone.sends.flags) in
        judged s v (λ j. J (guarded guard j s v)) (guard-cases s v J guard (record {
          foreign = keeps;
          reset_ignored = keeps;
          stray = keeps;
          ack_of_listen = keeps;
          no_syn = keeps;
          peer_opens = λ _ is. absurd (cc (is.is_syn, c.only.no_syn));
          ack_of_no_syn = keeps;
          peer_refuses = gone;
          peer_accepts = λ _ is. absurd (cc (is.is_syn, c.only.no_syn));
          unacceptable = λ _. keeps;
          peer_resets = gone;
          reset_elsewhere = λ _. keeps;
          syn_in_window = λ _. keeps;
          no_ack = keeps;
          acks_unsent = λ _. keeps;
          handshake_refused = keeps;
          handshake_refused_shut = λ _. keeps;
          taken = λ after_syn _. subst (Keeps p q) (sym (taken-bare s v c.only)) (keeps-its_ack after_syn);
          taken_shut = λ after_syn _. keeps-shut after_syn;
        })) src dst
