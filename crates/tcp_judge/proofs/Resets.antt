-- THE OWN RESET ends the connection: what resets an end has pending in a connection that goes on were recorded in its handshake, at
-- another number than SND.NXT (RFC 9293, 3.5.2 and 3.10.7.3).
use Rattle.tcp_replay.proofs.Words.{◌≡◌, ℕ, ◌<◌, ◌≤◌, ◌^◌, ◌&&◌, ◌||◌, ◌==◌, ◌⊎◌, max, Bool, true, false, not, List, Option, Some, None, IfSome, is_some, Result, Ok, Err}
use Rattle.tcp_replay.proofs.Words.{refl, sym, ◌∙◌, ap, subst, arith, cond_both, ⊎_elim, inl, inr, if◌then◌else◌, and_parts, false≢true, number, option_or}
use Rattle.tcp_replay.proofs.Words.{State, Content, Phase, IsAlone, DecodeError, PartyState, Peer, Due, Pending, WaitingReset, is_handshake, is_closed, is_listening, is_syn_sent, is_syn_received}
use Rattle.tcp_replay.proofs.Words.{judgement, phase_judgement, closed_judgement, listen_judgement, syn_sent_judgement, judgement_after_syn, acceptable_judgement, unacceptable_judgement, ack_judgement}
use Rattle.tcp_replay.proofs.Words.{Judgement, Foreign, ResetIgnored, Stray, AckOfListen, OpensNothing, AckOfNoSyn, PeerRefuses, PeerAccepts, Unacceptable, PeerResets, ResetElsewhere, SynInWindow, NoAck, AcksUnsent}
use Rattle.tcp_replay.proofs.Words.{HandshakeRefused, HandshakeRefusedShut, Taken, TakenShut, PeerOpens, is_foreign, is_allowed_shut, is_acceptable_segment, acks_unsent, position_near}
use Rattle.tcp_replay.proofs.Words.{after_judgement, after_peer_accepts, after_own_syn, after_acked_text, after_window_and_blocks, after_its_ack, after_its_text}
use Rattle.tcp_replay.proofs.Words.{after_fin, after_taking, after_taking_shut, phase_after_close, pending_after, due_of, ack_alone, reset_due, first_reset, reset_at_ack, end_of, not-true, eq-eqb, eqb-true, or_cases, has_peer, nat_lt, waiting_segment, is_ended, after_reading}
use Rattle.tcp_wire.specs.Flags.{syn, rst, ack, has}
use Rattle.tcp_wire.specs.Position.{position_of}
use Rattle.tcp_numbers.specs.declared.seq.Seq.{Seq}
use Rattle.tcp_conn.specs.Judgement as conn
use Rattle.tcp_conn.specs.declared.emit.due.Due.TheVariants as dues
use Rattle.tcp_halves.specs.declared.sent.Sent.TheVariants as sents
use Rattle.tcp_wire.proofs.Lemmas.{position_of_number}
use Rattle.tcp_replay.proofs.Lists.{by_test}
use Rattle.tcp_replay.proofs.Lemmas.{KeptByCalls, MayGoOut, CanOpen, judged, end-closed, end-listen, own_fin-cases}
use Rattle.tcp_replay.proofs.one_end.Phases.{closed-unknown, not_ended}
use Rattle.std.proofs.lemmas.Bool.{le-ltb}
use Rattle.tcp_judge.specs.Heard.{is_syn}
use Rattle.tcp_judge.specs.Answers.{goes_elsewhere}
use Rattle.tcp_judge.specs.Known.{Known, initial_after, place_of, is_at_next, ends_by, known_after}
use Rattle.tcp_judge.specs.Rules.{takes_numbers, follows_reset}
use Rattle.tcp_judge.specs.Stream.{count_sent, count_taken}
use Rattle.tcp_judge.proofs.Streams.{unless, IsKnown}
use Rattle.tcp_judge.proofs.Follows.{place-reset, Follows, IsUpTo, follows-least}
use Rattle.tcp_judge.proofs.Reaching.{stays-its_ack}
use Rattle.tcp_judge.proofs.Acked.{sent-handshake}

-- ---- AN END THAT IS OVER stays so
pub record IsOver (s : State) : Type 0 where
  pub shut : is_closed s.phase ≡ true
  pub ended : is_ended s.ending ≡ true

closing-closed : (phase : Phase) → is_closed (phase_after_close phase) ≡ is_closed phase
closing-closed phase = grind arith

open-over : (s : State) → CanOpen s → IsOver s → ⊥
open-over s can over = false≢true (ap is_ended (sym can.ending) ∙ over.ended)

pub over-calls : (peer : Peer) (p : PartyState) → IsOver p.endpoint → KeptByCalls peer p (λ p'. IsOver p'.endpoint)
over-calls peer p over = record {
  same = over;
  connects = λ can. absurd (open-over p.endpoint can over);
  listens = λ can. absurd (open-over p.endpoint can over);
  sends = λ _ _ _. record { shut = over.shut; ended = over.ended };
  reads = λ _ _. record { shut = over.shut; ended = over.ended };
  withdraws = record { shut = refl; ended = refl };
  closes = λ _ _. record { shut = closing-closed p.endpoint.phase ∙ over.shut; ended = over.ended };
  aborts = record { shut = refl; ended = refl };
  acknowledges = record { shut = over.shut; ended = over.ended };
  resends = λ _. record { shut = over.shut; ended = over.ended };
  probes = record { shut = over.shut; ended = over.ended };
  fills = λ _ _ _. record { shut = over.shut; ended = over.ended };
  ends = λ _. record { shut = refl; ended = refl };
  resends-between = λ _ _ _. record { shut = over.shut; ended = over.ended };
  emits = λ _ _ _. record { shut = over.shut; ended = over.ended };
}

listening-open : (phase : Phase) → is_listening phase ≡ true → is_closed phase ≡ false
listening-open phase e = grind (arith, e)

sent-open : (phase : Phase) → is_syn_sent phase ≡ true → is_closed phase ≡ false
sent-open phase e = grind (arith, e)

pub over-judgement : (s : State) (src dst : List ℕ) (v : Content) → IsOver s → IsOver (after_judgement (judgement s src dst v) s src v)
over-judgement s src dst v over =
    let J : Judgement → Type 0 = λ j. IsOver (after_judgement j s src v) in
    let open_ : is_closed s.phase ≡ false → ⊥ = λ e. false≢true (sym e ∙ over.shut) in
    let keeps : J Foreign = over in
    let stays : J Stray = record { shut = over.shut; ended = over.ended } in
    judged s v J (record {
      foreign = keeps;
      reset_ignored = keeps;
      stray = stays;
      ack_of_listen = record { shut = over.shut; ended = over.ended };
      no_syn = keeps;
      peer_opens = λ e _. absurd (open_ (listening-open s.phase e));
      ack_of_no_syn = record { shut = over.shut; ended = over.ended };
      peer_refuses = record { shut = refl; ended = refl };
      peer_accepts = λ e _. absurd (open_ (sent-open s.phase e));
      unacceptable = λ a. absurd (open_ a.shut);
      peer_resets = record { shut = refl; ended = refl };
      reset_elsewhere = λ a. absurd (open_ a.shut);
      syn_in_window = λ a. absurd (open_ a.shut);
      no_ack = keeps;
      acks_unsent = λ a. absurd (open_ a.shut);
      handshake_refused = record { shut = over.shut; ended = over.ended };
      handshake_refused_shut = λ a. absurd (open_ a.shut);
      taken = λ a _. absurd (open_ a.shut);
      taken_shut = λ a _. absurd (open_ a.shut);
    }) src dst

pub over-reading : (s : State) (src dst : List ℕ) (r : Result Content DecodeError) → IsOver s → IsOver (after_reading s src dst r)
over-reading s src dst (Ok v) h = over-judgement s src dst v h
over-reading s src dst (Err fault) h = h

-- ---- A RESET THAT IS PENDING in a connection that goes on
pub record IsOfHandshake (snd_nxt isn : ℕ) (reset : WaitingReset) : Type 0 where
  pub first : snd_nxt ≤ 1
  pub other : reset.seq.0 ≡ number isn 1 → ⊥

abbrev pub IsQuiet : State → Type 0
IsQuiet s = is_closed s.phase ≡ false → IfSome s.pending.reset (IsOfHandshake s.sending.snd_nxt s.config.isn.0)

-- what goes out is the reset that waits, so that none waits behind it
waits-or_not : (o : Option WaitingReset) → (o ≡ None) ⊎ ((reset : WaitingReset) × (o ≡ Some reset))
waits-or_not None = inl refl
waits-or_not (Some reset) = inr (reset, refl)

first-out : (o : Option WaitingReset) (rest : Option Due) (reset : WaitingReset) (due : Due) → o ≡ Some reset → option_or (reset_due o) rest ≡ Some due → due ≡ dues.Reset
first-out None rest reset due waits is = absurd (cc)
first-out (Some r) rest reset due waits is = cc

none-alone : (o : Option WaitingReset) (syn : Bool) (rest : Option Due) (reset : WaitingReset) (due : Due) → o ≡ Some reset
    → (if is_some o || syn then None else rest) ≡ Some due → ⊥
none-alone None syn rest reset due waits is = absurd (cc)
none-alone (Some r) syn rest reset due waits is = absurd (cc)

due-reset : (s : State) (reset : WaitingReset) (due : Due) → s.pending.reset ≡ Some reset → MayGoOut s due → due ≡ dues.Reset
unfolding due_of ack_alone
due-reset s reset due waits (inl is) = first-out s.pending.reset _ reset due waits is
due-reset s reset due waits (inr is) = absurd (none-alone s.pending.reset s.pending.syn _ reset due waits is)

keeps-none : (opened : Bool) (o : Pending) (due : Due) → o.reset ≡ None → (pending_after opened o due).reset ≡ None
keeps-none opened o dues.Reset e = refl
keeps-none opened o dues.Syn e = e
keeps-none opened o (dues.Text (sents.NewText start count)) e = e
keeps-none opened o (dues.Text (sents.Resend start count)) e = e
keeps-none opened o (dues.Text (sents.Fin start)) e = e
keeps-none opened o (dues.Text (sents.ResentFin start)) e = e
keeps-none opened o dues.Acknowledgement e = e

pub none-waits : (s : State) (due : Due) → MayGoOut s due → (pending_after s.receiving.opened s.pending due).reset ≡ None
none-waits s due may =
    ⊎_elim (λ (none : s.pending.reset ≡ None). keeps-none s.receiving.opened s.pending due none)
    (λ (some : (reset : WaitingReset) × (s.pending.reset ≡ Some reset)).
    subst (λ (d : Due). (pending_after s.receiving.opened s.pending d).reset ≡ None) (sym (due-reset s some.0 due some.1 may)) refl)
    (waits-or_not s.pending.reset)

pub quiet-calls : (peer : Peer) (p : PartyState) → IsAlone p.endpoint p.accepted p.closed → 1 ≤ p.endpoint.sending.snd_nxt → IsQuiet p.endpoint
    → KeptByCalls peer p (λ p'. IsQuiet p'.endpoint)
quiet-calls peer p a sent h =
    let s = p.endpoint in
    let new : CanOpen s → ⊥ = λ can. omega (arith, sent, (end-closed s can.shut can.ending a.progress).snd_nxt_is) in
    record {
      same = h;
      connects = λ can. absurd (new can);
      listens = λ can. absurd (new can);
      sends = λ _ _ _. h;
      reads = λ _ _. h;
      withdraws = λ never. absurd (cc);
      closes = λ _ _ e. h (sym (closing-closed s.phase) ∙ e);
      aborts = λ never. absurd (cc);
      acknowledges = h;
      resends = λ _. h;
      probes = h;
      fills = λ _ _ _. h;
      ends = λ _ never. absurd (cc);
      resends-between = λ _ _ _. h;
      emits = λ due may _ _. subst (λ (o : Option WaitingReset). IfSome o (IsOfHandshake (max s.sending.snd_nxt (end_of s.sending due)) s.config.isn.0))
          (sym (none-waits s due may)) tt;
    }

-- ---- WHEN A RESET IS RECORDED
abbrev Recorded : State → Content → Judgement → Type 0
Recorded s v Stray = is_closed s.phase ≡ true
Recorded s v AckOfListen = is_listening s.phase ≡ true
Recorded s v AckOfNoSyn = (is_handshake s.phase ≡ true) × (conn.acks_syn s v ≡ false)
Recorded s v HandshakeRefused = (is_handshake s.phase ≡ true) × (conn.acks_syn s v ≡ false)
Recorded s v HandshakeRefusedShut = (is_handshake s.phase ≡ true) × (conn.acks_syn s v ≡ false)
Recorded s v other = Unit {0}

pub received-handshake : (phase : Phase) → is_syn_received phase ≡ true → is_handshake phase ≡ true
received-handshake phase e = grind (arith, e)

module _ (s : State) (v : Content) where
  abbrev R : Judgement → Type 0
  R = Recorded s v

  recorded-closed : is_closed s.phase ≡ true → R (closed_judgement v)
  unfolding closed_judgement
  recorded-closed e = cond_both (has rst v.flags) ResetIgnored Stray R (λ _. tt) (λ _. e)

  recorded-listen : is_listening s.phase ≡ true → R (listen_judgement v)
  unfolding listen_judgement
  recorded-listen e =
      cond_both (has rst v.flags) ResetIgnored (if has ack v.flags then AckOfListen else (if has syn v.flags then PeerOpens else OpensNothing)) R (λ _. tt)
      (λ _. cond_both (has ack v.flags) AckOfListen (if has syn v.flags then PeerOpens else OpensNothing) R (λ _. e)
      (λ _. cond_both (has syn v.flags) PeerOpens OpensNothing R (λ _. tt) (λ _. tt)))

  recorded-syn_sent : is_syn_sent s.phase ≡ true → R (syn_sent_judgement s v)
  unfolding syn_sent_judgement
  recorded-syn_sent sent =
      let answers = if has syn v.flags && has ack v.flags then PeerAccepts else OpensNothing in
      let resets = if has ack v.flags then PeerRefuses else ResetIgnored in
      cond_both (has ack v.flags && not (conn.acks_syn s v)) (if has rst v.flags then ResetIgnored else AckOfNoSyn) (if has rst v.flags then resets else answers) R
      (λ e. cond_both (has rst v.flags) ResetIgnored AckOfNoSyn R (λ _. tt)
      (λ _. (sent-handshake s.phase sent, not-true (conn.acks_syn s v) (and_parts (has ack v.flags) (not (conn.acks_syn s v)) e).1)))
      (λ _. cond_both (has rst v.flags) resets answers R (λ _. cond_both (has ack v.flags) PeerRefuses ResetIgnored R (λ _. tt) (λ _. tt))
      (λ _. cond_both (has syn v.flags && has ack v.flags) PeerAccepts OpensNothing R (λ _. tt) (λ _. tt)))

  recorded-ack : (good refused : Judgement) → R good → ((is_handshake s.phase ≡ true) × (conn.acks_syn s v ≡ false) → R refused)
      → R (ack_judgement s v good refused)
  unfolding ack_judgement
  recorded-ack good refused well ill =
      cond_both (is_syn_received s.phase) (if conn.acks_syn s v then good else refused)
      (if acks_unsent s.sending (position_near s v.ack) then AcksUnsent else good) R
      (λ received. cond_both (conn.acks_syn s v) good refused R (λ _. well) (λ no. ill (received-handshake s.phase received, no)))
      (λ _. cond_both (acks_unsent s.sending (position_near s v.ack)) AcksUnsent good R (λ _. tt) (λ _. well))

  recorded-unacceptable : R (unacceptable_judgement s v)
  unfolding unacceptable_judgement
  recorded-unacceptable =
      let allowed = ack_judgement s v TakenShut HandshakeRefusedShut in
      cond_both (has rst v.flags) ResetIgnored (if is_allowed_shut s v then allowed else Unacceptable) R (λ _. tt)
      (λ _. cond_both (is_allowed_shut s v) allowed Unacceptable R (λ _. recorded-ack TakenShut HandshakeRefusedShut tt (λ f. f)) (λ _. tt))

  recorded-acceptable : R (acceptable_judgement s v)
  unfolding acceptable_judgement
  recorded-acceptable =
      let resets = if v.seq == s.receiving.rcv_nxt then PeerResets else ResetElsewhere in
      let acks = ack_judgement s v Taken HandshakeRefused in
      cond_both (has rst v.flags) resets (if has syn v.flags then SynInWindow else (if not (has ack v.flags) then NoAck else acks)) R
      (λ _. cond_both (v.seq == s.receiving.rcv_nxt) PeerResets ResetElsewhere R (λ _. tt) (λ _. tt))
      (λ _. cond_both (has syn v.flags) SynInWindow (if not (has ack v.flags) then NoAck else acks) R (λ _. tt)
      (λ _. cond_both (not (has ack v.flags)) NoAck acks R (λ _. tt) (λ _. recorded-ack Taken HandshakeRefused tt (λ f. f))))

  recorded-after_syn : R (judgement_after_syn s v)
  unfolding judgement_after_syn
  recorded-after_syn =
      cond_both (is_acceptable_segment s v) (acceptable_judgement s v) (unacceptable_judgement s v) R (λ _. recorded-acceptable) (λ _. recorded-unacceptable)

  recorded-phase : R (phase_judgement s v)
  unfolding phase_judgement
  recorded-phase =
      let opens = if is_syn_sent s.phase then syn_sent_judgement s v else judgement_after_syn s v in
      cond_both (is_closed s.phase) (closed_judgement v) (if is_listening s.phase then listen_judgement v else opens) R recorded-closed
      (λ _. cond_both (is_listening s.phase) (listen_judgement v) opens R recorded-listen
      (λ _. cond_both (is_syn_sent s.phase) (syn_sent_judgement s v) (judgement_after_syn s v) R recorded-syn_sent (λ _. recorded-after_syn)))

  recorded-judgement : (src dst : List ℕ) → R (judgement s src dst v)
  unfolding judgement
  recorded-judgement src dst = cond_both (is_foreign s src dst v) Foreign (phase_judgement s v) R (λ _. tt) (λ _. recorded-phase)

-- ---- WHAT ARRIVES
pub quiet-first : (o : Option WaitingReset) (reset : WaitingReset) (P : WaitingReset → Type 0) → IfSome o P → P reset → IfSome (first_reset o reset) P
quiet-first None reset P h new = new
quiet-first (Some waiting) reset P h new = h

pub its_ack-reset : (s : State) (v : Content) → (after_its_ack s v).pending.reset ≡ s.pending.reset
unfolding after_its_ack after_window_and_blocks after_acked_text after_own_syn
its_ack-reset s v =
    own_fin-cases (after_window_and_blocks (after_acked_text (after_own_syn s v) v) v) (λ (x : State). x.pending.reset ≡ s.pending.reset) (λ _ _. refl) (λ _ _. refl)
    (λ _. refl)

its_ack-config : (s : State) (v : Content) → (after_its_ack s v).config ≡ s.config
unfolding after_its_ack after_window_and_blocks after_acked_text after_own_syn
its_ack-config s v =
    own_fin-cases (after_window_and_blocks (after_acked_text (after_own_syn s v) v) v) (λ (x : State). x.config ≡ s.config) (λ _ _. refl) (λ _ _. refl) (λ _. refl)

its_ack-quiet : (s : State) (v : Content) → IfSome s.pending.reset (IsOfHandshake s.sending.snd_nxt s.config.isn.0)
    → IfSome (after_its_ack s v).pending.reset (IsOfHandshake (after_its_ack s v).sending.snd_nxt (after_its_ack s v).config.isn.0)
its_ack-quiet s v h = rw (its_ack-reset s v, stays-its_ack s v, its_ack-config s v) h

taking-quiet : (s : State) (v : Content) → IfSome s.pending.reset (IsOfHandshake s.sending.snd_nxt s.config.isn.0) → IsQuiet (after_taking s v)
unfolding after_taking after_its_text after_fin
taking-quiet s v h open_ = its_ack-quiet s v h

shut-quiet : (s : State) (v : Content) → IfSome s.pending.reset (IsOfHandshake s.sending.snd_nxt s.config.isn.0) → IsQuiet (after_taking_shut s v)
unfolding after_taking_shut
shut-quiet s v h open_ = its_ack-quiet s v h

accepts-quiet : (s : State) (v : Content) → IfSome s.pending.reset (IsOfHandshake s.sending.snd_nxt s.config.isn.0) → IsQuiet (after_peer_accepts s v)
unfolding after_peer_accepts
accepts-quiet s v h open_ = h

-- no number but the one behind the SYN acknowledges it
no-first : (s : State) (v : Content) → s.config.isn.0 < 2 ^ 32 → s.sending.snd_una ≡ 0 → s.sending.snd_nxt ≡ 1 → conn.acks_syn s v ≡ false → v.ack ≡ number s.config.isn.0 1 → ⊥
no-first s v small none one other is =
    let isn = s.config.isn.0 in
    let near : position_of isn 0 (number isn 1) ≡ 1 = position_of_number isn 0 1 small (omega arith) (omega arith) in
    let there : position_near s v.ack ≡ s.sending.snd_nxt =
    ap (position_of isn s.sending.snd_una) is ∙ ap (λ una. position_of isn una (number isn 1)) none ∙ near ∙ sym one in
    false≢true (sym other ∙ eq-eqb (position_near s v.ack) s.sending.snd_nxt there)

pub quiet-judgement : (s : State) (src dst : List ℕ) (v : Content) (accepted : List ℕ) (closed : Bool) → IsAlone s accepted closed → 1 ≤ s.sending.snd_nxt
    → (is_handshake s.phase ≡ true → (s.sending.snd_nxt ≡ 1) × (s.sending.snd_una ≡ 0)) → IsQuiet s
    → IsQuiet (after_judgement (judgement s src dst v) s src v)
quiet-judgement s src dst v accepted closed a sent hand h =
    let P = IsOfHandshake s.sending.snd_nxt s.config.isn.0 in
    let J : Judgement → Type 0 = λ j. Recorded s v j → IsQuiet (after_judgement j s src v) in
    let same : J Foreign = λ _. h in
    let refused : J HandshakeRefused = λ fact open_. quiet-first s.pending.reset (reset_at_ack src v) P (h open_)
    (record {
      first = omega (arith, (hand fact.0).0);
      other = no-first s v a.config.isn (hand fact.0).1 (hand fact.0).0 fact.1;
    }) in
    let listens : is_listening s.phase ≡ true → ⊥ = λ e. omega (arith, sent, (end-listen s e a.progress).1.snd_nxt_is) in
    let gone : J PeerResets = λ _ never. absurd (cc) in
    judged s v J (record {
      foreign = same;
      reset_ignored = λ _. h;
      stray = λ shut open_. absurd (false≢true (sym open_ ∙ shut));
      ack_of_listen = λ e _. absurd (listens e);
      no_syn = λ _. h;
      peer_opens = λ e _ _. absurd (listens e);
      ack_of_no_syn = refused;
      peer_refuses = gone;
      peer_accepts = λ e _ _. accepts-quiet s v (h (sent-open s.phase e));
      unacceptable = λ _ _. h;
      peer_resets = gone;
      reset_elsewhere = λ _ _. h;
      syn_in_window = λ _ _. h;
      no_ack = λ _. h;
      acks_unsent = λ _ _. h;
      handshake_refused = refused;
      handshake_refused_shut = λ _. refused;
      taken = λ after_syn _ _. taking-quiet s v (h after_syn.shut);
      taken_shut = λ after_syn _ _. shut-quiet s v (h after_syn.shut);
    }) src dst (recorded-judgement s v src dst)

pub quiet-reading : (s : State) (src dst : List ℕ) (r : Result Content DecodeError) (accepted : List ℕ) (closed : Bool) → IsAlone s accepted closed → 1 ≤ s.sending.snd_nxt
    → (is_handshake s.phase ≡ true → (s.sending.snd_nxt ≡ 1) × (s.sending.snd_una ≡ 0)) → IsQuiet s → IsQuiet (after_reading s src dst r)
quiet-reading s src dst (Ok v) accepted closed a sent hand h = quiet-judgement s src dst v accepted closed a sent hand h
quiet-reading s src dst (Err fault) accepted closed a sent hand h = h

-- ---- A JUDGE sees the own reset only where the connection is over
abbrev pub KnowsEnd : Known → State → Type 0
KnowsEnd k s = k.ended ≡ true → IsOver s

pub open-ended : (k : Known) (s : State) → KnowsEnd k s → has_peer s.phase ≡ true → k.ended ≡ false
open-ended k s h knows =
    by_test k.ended (λ b. b ≡ false) (λ e. absurd (closed-unknown s.phase (h e).shut knows)) (λ _. refl)

pub after-open : (k : Known) (v : Content) (place : ℕ) → k.ended ≡ false → follows_reset k place v ≡ false
after-open k v place e = ap (λ b. b && (nat_lt 0 place && takes_numbers v)) e

pub after-reset : (k : Known) (v : Content) → has rst v.flags ≡ true → follows_reset k (place_of k v) v ≡ false
after-reset k v reset =
    let none = place-reset (initial_after k.initial v) (count_sent k.stream) v reset in
    unless k.ended (nat_lt 0 (place_of k v) && takes_numbers v)
    (λ _. ap (λ b. b && takes_numbers v) (le-ltb 0 (place_of k v) (omega (arith, none))))

-- what is no reset ends nothing
pub end-plain : (k : Known) (v : Content) (s : State) → has rst v.flags ≡ false → KnowsEnd k s → KnowsEnd (known_after k v) s
end-plain k v s plain h e =
    ⊎_elim h (λ (ends : ends_by k v ≡ true).
    absurd (false≢true (sym plain ∙ (and_parts (has rst v.flags) k.acked
    (and_parts (has rst v.flags && k.acked)
    (is_at_next k.initial (count_taken k.stream (is_some k.fin)) v && not (goes_elsewhere k.heard.ports v)) ends).0).0)))
    (or_cases k.ended (ends_by k v) (and_parts (not (is_syn v)) (k.ended || ends_by k v) e).1)

at-next : (initial : Option Seq) (next : ℕ) (v : Content) → is_at_next initial next v ≡ true → (first : Seq) × (initial ≡ Some first) × (v.seq ≡ number first.0 next)
at-next None next v e = absurd (false≢true e)
at-next (Some first) next v e = (first, refl, eqb-true v.seq (number first.0 next) e)

-- the reset that waits
waiting-over : (isn : ℕ) (s : State) (accepted : List ℕ) (closed : Bool) (k : Known) (first : Seq) (waiting : Option WaitingReset) → is_some waiting ≡ true
    → s.config.isn.0 ≡ isn → IsAlone s accepted closed → first.0 ≡ isn → IsUpTo k.stream k.fin s.sending.snd_nxt
    → (is_closed s.phase ≡ false → IfSome waiting (IsOfHandshake s.sending.snd_nxt s.config.isn.0))
    → (waiting_segment s waiting).seq ≡ number first.0 (count_taken k.stream (is_some k.fin)) → IsOver s
waiting-over isn s accepted closed k first None some same a number_is up quiet e = absurd (false≢true some)
waiting-over isn s accepted closed k first (Some reset) some same a number_is up quiet e =
    let shut : is_closed s.phase ≡ true = by_test (is_closed s.phase) (λ b. b ≡ true) (λ _. refl) (λ open_.
    let hand = quiet open_ in
    let one : count_taken k.stream (is_some k.fin) ≡ 1 = omega (arith, up.next, hand.first) in
    absurd (hand.other (e ∙ ap (number first.0) one ∙ ap (λ i. number i 1) (number_is ∙ sym same)))) in
    record {
      shut = shut;
      ended = by_test (is_ended s.ending) (λ b. b ≡ true) (λ _. refl)
          (λ goes_on. absurd (omega (arith, up.next, (end-closed s shut (not_ended s.ending goes_on) a.progress).snd_nxt_is)));
    }

-- in a connection that was opened a reset that waits is of the handshake
abbrev pub KnowsQuiet : Known → State → Type 0
KnowsQuiet k s = (first : Seq) → k.initial ≡ Some first → IsQuiet s

pub end-reset : (isn : ℕ) (stream : List ℕ) (s : State) (accepted : List ℕ) (closed : Bool) (k : Known) → is_some s.pending.reset ≡ true → s.config.isn.0 ≡ isn
    → IsAlone s accepted closed → IsKnown isn stream k → Follows k s.sending.snd_nxt → KnowsQuiet k s → KnowsEnd k s
    → KnowsEnd (known_after k (waiting_segment s s.pending.reset)) s
end-reset isn stream s accepted closed k some same a known follows quiet h e =
    let v = waiting_segment s s.pending.reset in
    let next = count_taken k.stream (is_some k.fin) in
    ⊎_elim h (λ (ends : ends_by k v ≡ true).
    let here = not (goes_elsewhere k.heard.ports v) in
    let there = at-next k.initial next v
    (and_parts (is_at_next k.initial next v) here (and_parts (has rst v.flags && k.acked) (is_at_next k.initial next v && here) ends).1).0 in
    let number_is : there.0.0 ≡ isn = subst (λ (o : Option Seq). IfSome o (λ n. n.0 ≡ isn)) there.1 known.initial in
    waiting-over isn s accepted closed k there.0 s.pending.reset some same a number_is (follows-least k there.0 s.sending.snd_nxt there.1 follows)
    (quiet there.0 there.1) there.2)
    (or_cases k.ended (ends_by k v) (and_parts (not (is_syn v)) (k.ended || ends_by k v) e).1)
