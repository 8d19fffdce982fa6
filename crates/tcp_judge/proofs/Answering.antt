-- THE RESETS of an end: each is at a number that it sent or at SND.NXT, answers what came, or goes to another port (RFC 9293, 3.5.2, 3.10.5 and
-- 3.10.7).
use Rattle.tcp_replay.proofs.Words.{◌≡◌, ℕ, ◌<◌, ◌≤◌, ◌^◌, ◌&&◌, ◌||◌, ◌==◌, ◌⊎◌, max, Bool, true, false, not, List, [], ◌∷◌, ◌++◌, Option, Some, None, IfSome, is_some}
use Rattle.tcp_replay.proofs.Words.{refl, sym, ◌∙◌, ap, subst, arith, cond_both, ⊎_elim, inl, inr, if◌then◌else◌, and_parts, false≢true, number, distance, or_left, or_right}
use Rattle.tcp_replay.proofs.Words.{State, Content, IsAlone, DecodeError, PartyState, Peer, WaitingReset, Result, Ok, Err, bytes_eq, eq-eqb, eqb-true, not-false}
use Rattle.tcp_replay.proofs.Words.{is_closed, is_listening, is_syn_sent, is_syn_received, window, waiting_segment, own_reset, resets_on_abort, end_of}
use Rattle.tcp_replay.proofs.Words.{judgement, phase_judgement, closed_judgement, listen_judgement, syn_sent_judgement, judgement_after_syn, acceptable_judgement, unacceptable_judgement, ack_judgement}
use Rattle.tcp_replay.proofs.Words.{Judgement, Foreign, ResetIgnored, Stray, AckOfListen, OpensNothing, AckOfNoSyn, PeerRefuses, PeerAccepts, Unacceptable, PeerResets, ResetElsewhere, SynInWindow, NoAck, AcksUnsent}
use Rattle.tcp_replay.proofs.Words.{HandshakeRefused, HandshakeRefusedShut, Taken, TakenShut, PeerOpens, is_foreign, is_for_other, is_allowed_shut, is_acceptable_segment, acks_unsent, position_near}
use Rattle.tcp_replay.proofs.Words.{after_judgement, after_peer_accepts, after_peer_opens, after_its_text, after_fin, after_taking, after_taking_shut, reset_of_stray, reset_at_ack, after_reading}
use Rattle.tcp_replay.proofs.Words.{SoloState, SoloContent, HasRanges, end_after, decode_answer, decoded_valid, AreBytes}
use Rattle.tcp_wire.specs.Flags.{syn, rst, ack, has}
use Rattle.tcp_numbers.specs.declared.seq.Seq.{Seq}
use Rattle.tcp_conn.specs.Forms.{reset_from}
use Rattle.tcp_conn.specs.Judgement as conn
use Rattle.std.proofs.lemmas.Bool.{le-leb, leb-true}
use Rattle.tcp_replay.proofs.Lists.{by_test}
use Rattle.tcp_replay.proofs.Lemmas.{KeptByCalls, end-closed}
use Rattle.tcp_replay.proofs.one_end.Judgements.{in-phase}
use Rattle.tcp_replay.proofs.one_end.AloneCalls.{IsAloneIn}
use Rattle.tcp_replay.proofs.one_end.SoloRuns.{party_in, solo-step}
use Rattle.tcp_replay.specs.SoloEvents.{Arrive}
use Rattle.tcp_judge.specs.Answers.{is_own, answer_to, answers_of, is_answer, any_answer, is_full, kept_with, may_answer, goes_elsewhere}
use Rattle.tcp_judge.specs.Heard.{is_elsewhere}
use Rattle.tcp_judge.specs.Judgement.{known_came}
use Rattle.tcp_judge.specs.Known.{Known, known_with}
use Rattle.tcp_judge.specs.Rules.{is_stray_by, is_stray}
use Rattle.tcp_judge.specs.Stream.{count_taken}
use Rattle.tcp_judge.specs.Taken.{taken_as}
use Rattle.tcp_judge.proofs.Streams.{unless}
use Rattle.tcp_judge.proofs.Follows.{known-or_not}
use Rattle.tcp_judge.proofs.Resets.{none-waits, quiet-first, its_ack-reset}

-- ---- WHICH RESETS a judge lets pass
pub record IsOwnNumber (isn n seq : ℕ) : Type 0 where
  pub place : ℕ
  pub inside : place ≤ n
  pub is : seq ≡ number isn place

abbrev pub MayGo : Option (ℕ × ℕ) → List (Seq × Option Seq) → ℕ → ℕ → ℕ → WaitingReset → Type 0
MayGo ports answers port isn n r =
    (goes_elsewhere ports (reset_from port r) ≡ true) ⊎ (IsOwnNumber isn n r.seq.0 ⊎ (may_answer (reset_from port r) answers ≡ true))

any-more : (v : Content) (answers more : List (Seq × Option Seq)) → any_answer v answers ≡ true → any_answer v (answers ++ more) ≡ true
any-more v [] more e = absurd (false≢true e)
any-more v (answer ∷ answers) more e =
    by_test (is_answer v answer) (λ b. b || any_answer v answers ≡ true → b || any_answer v (answers ++ more) ≡ true) (λ _ _. refl)
    (λ _ rest. any-more v answers more rest) e

any-last : (v : Content) (answers : List (Seq × Option Seq)) (answer : Seq × Option Seq) → is_answer v answer ≡ true → any_answer v (answers ++ answer ∷ []) ≡ true
any-last v [] answer e = ap (λ b. b || false) e
any-last v (first ∷ answers) answer e = or_right (is_answer v first) (any_answer v (answers ++ answer ∷ [])) (any-last v answers answer e)

may-more : (v : Content) (answers more : List (Seq × Option Seq)) → may_answer v answers ≡ true → may_answer v (kept_with answers more) ≡ true
may-more v answers more e =
    by_test (is_full answers)
    (λ b. b || any_answer v answers ≡ true → may_answer v (if b then answers else answers ++ more) ≡ true)
    (λ full _. ap (λ b. b || any_answer v answers) full)
    (λ _ any. or_right (is_full (answers ++ more)) (any_answer v (answers ++ more)) (any-more v answers more any)) e

may-last : (v : Content) (answers : List (Seq × Option Seq)) (answer : Seq × Option Seq) → is_answer v answer ≡ true
    → may_answer v (kept_with answers (answer ∷ [])) ≡ true
may-last v answers answer e =
    by_test (is_full answers) (λ b. may_answer v (if b then answers else answers ++ answer ∷ []) ≡ true)
    (λ full. ap (λ b. b || any_answer v answers) full)
    (λ _. or_right (is_full (answers ++ answer ∷ [])) (any_answer v (answers ++ answer ∷ [])) (any-last v answers answer e))

-- it may go still when more came
more-go : (ports : Option (ℕ × ℕ)) (answers more : List (Seq × Option Seq)) (port isn n : ℕ) (r : WaitingReset) → MayGo ports answers port isn n r
    → MayGo ports (kept_with answers more) port isn n r
more-go ports answers more port isn n r (inl away) = inl away
more-go ports answers more port isn n r (inr (inl own)) = inr (inl own)
more-go ports answers more port isn n r (inr (inr e)) = inr (inr (may-more (reset_from port r) answers more e))

-- it is its own answer
own-answer : (port : ℕ) (to : Peer) (seq : Seq) (acked : Option Seq)
    → is_answer (reset_from port (record { to = to; seq = seq; ack = acked })) (seq, acked) ≡ true
own-answer port to seq None = rw (eq-eqb seq.0 seq.0 refl) refl
own-answer port to seq (Some n) = rw (eq-eqb seq.0 seq.0 refl, eq-eqb n.0 n.0 refl) refl

-- ---- CALLS, timers and emissions
abbrev pub Waiting : Option (ℕ × ℕ) → List (Seq × Option Seq) → State → Type 0
Waiting ports answers s = IfSome s.pending.reset (MayGo ports answers s.config.port s.config.isn.0 s.sending.snd_nxt)

waiting-calls : (peer : Peer) (p : PartyState) (ports : Option (ℕ × ℕ)) (answers : List (Seq × Option Seq)) → IsAlone p.endpoint p.accepted p.closed
    → 1 ≤ p.endpoint.sending.snd_nxt → Waiting ports answers p.endpoint → KeptByCalls peer p (λ p'. Waiting ports answers p'.endpoint)
waiting-calls peer p ports answers a sent h =
    let s = p.endpoint in
    let P = MayGo ports answers s.config.port s.config.isn.0 s.sending.snd_nxt in
    record {
      same = h;
      connects = λ can. absurd (omega (arith, sent, (end-closed s can.shut can.ending a.progress).snd_nxt_is));
      listens = λ _. h;
      sends = λ _ _ _. h;
      reads = λ _ _. h;
      withdraws = h;
      closes = λ _ _. h;
      aborts = cond_both (resets_on_abort s.phase) (Some (own_reset s)) s.pending.reset (λ (o : Option WaitingReset). IfSome o P)
          (λ _. inr (inl (record { place = s.sending.snd_nxt; inside = omega arith; is = refl }))) (λ _. h);
      acknowledges = h;
      resends = λ _. h;
      probes = h;
      fills = λ _ _ _. h;
      ends = λ _. h;
      resends-between = λ _ _ _. h;
      emits = λ due may _.
          subst (λ (o : Option WaitingReset). IfSome o (MayGo ports answers s.config.port s.config.isn.0 (max s.sending.snd_nxt (end_of s.sending due))))
          (sym (none-waits s due may)) tt;
    }

-- at all that doesn't arrive
abbrev pub IsOwn : SoloContent → Type 0
IsOwn (Arrive from to bytes) = ⊥
IsOwn other = Unit {0}

pub waiting-step : (x : SoloState) (e : SoloContent) (ports : Option (ℕ × ℕ)) (answers : List (Seq × Option Seq)) → HasRanges e → IsOwn e
    → IsAloneIn (party_in x) → 1 ≤ x.endpoint.sending.snd_nxt → Waiting ports answers x.endpoint → Waiting ports answers (end_after x.endpoint e)
waiting-step x e ports answers fits own alone sent h =
    solo-step x (λ p. Waiting ports answers p.endpoint) alone (λ peer _. waiting-calls peer (party_in x) ports answers alone sent h) e fits
    (λ src dst bytes is. absurd (subst IsOwn is own))

-- ---- WHAT IS ANSWERED with a reset: no reset, and with ACK but in CLOSED
pub record HasAck (v : Content) : Type 0 where
  pub plain : has rst v.flags ≡ false
  pub told : has ack v.flags ≡ true

abbrev Answered : Content → Judgement → Type 0
Answered v Stray = has rst v.flags ≡ false
Answered v AckOfListen = HasAck v
Answered v AckOfNoSyn = HasAck v
Answered v HandshakeRefused = HasAck v
Answered v HandshakeRefusedShut = HasAck v
Answered v other = Unit {0}

module _ (s : State) (v : Content) where
  abbrev A : Judgement → Type 0
  A = Answered v

  answered-closed : A (closed_judgement v)
  unfolding closed_judgement
  answered-closed = cond_both (has rst v.flags) ResetIgnored Stray A (λ _. tt) (λ plain. plain)

  answered-listen : A (listen_judgement v)
  unfolding listen_judgement
  answered-listen =
      cond_both (has rst v.flags) ResetIgnored (if has ack v.flags then AckOfListen else (if has syn v.flags then PeerOpens else OpensNothing)) A (λ _. tt)
      (λ plain. cond_both (has ack v.flags) AckOfListen (if has syn v.flags then PeerOpens else OpensNothing) A (λ told. record { plain = plain; told = told })
      (λ _. cond_both (has syn v.flags) PeerOpens OpensNothing A (λ _. tt) (λ _. tt)))

  answered-syn_sent : A (syn_sent_judgement s v)
  unfolding syn_sent_judgement
  answered-syn_sent =
      let answers = if has syn v.flags && has ack v.flags then PeerAccepts else OpensNothing in
      let resets = if has ack v.flags then PeerRefuses else ResetIgnored in
      cond_both (has ack v.flags && not (conn.acks_syn s v)) (if has rst v.flags then ResetIgnored else AckOfNoSyn) (if has rst v.flags then resets else answers) A
      (λ e. cond_both (has rst v.flags) ResetIgnored AckOfNoSyn A (λ _. tt)
      (λ plain. record { plain = plain; told = (and_parts (has ack v.flags) (not (conn.acks_syn s v)) e).0 }))
      (λ _. cond_both (has rst v.flags) resets answers A (λ _. cond_both (has ack v.flags) PeerRefuses ResetIgnored A (λ _. tt) (λ _. tt))
      (λ _. cond_both (has syn v.flags && has ack v.flags) PeerAccepts OpensNothing A (λ _. tt) (λ _. tt)))

  answered-ack : (good refused : Judgement) → A good → A refused → A (ack_judgement s v good refused)
  unfolding ack_judgement
  answered-ack good refused well ill =
      cond_both (is_syn_received s.phase) (if conn.acks_syn s v then good else refused)
      (if acks_unsent s.sending (position_near s v.ack) then AcksUnsent else good) A
      (λ _. cond_both (conn.acks_syn s v) good refused A (λ _. well) (λ _. ill))
      (λ _. cond_both (acks_unsent s.sending (position_near s v.ack)) AcksUnsent good A (λ _. tt) (λ _. well))

  answered-unacceptable : A (unacceptable_judgement s v)
  unfolding unacceptable_judgement
  answered-unacceptable =
      let allowed = ack_judgement s v TakenShut HandshakeRefusedShut in
      cond_both (has rst v.flags) ResetIgnored (if is_allowed_shut s v then allowed else Unacceptable) A (λ _. tt)
      (λ plain. cond_both (is_allowed_shut s v) allowed Unacceptable A
      (λ e. let told = and_parts (has ack v.flags) (not (has syn v.flags))
      (and_parts (window s.receiving.inbox == 0) (has ack v.flags && not (has syn v.flags)) e).1 in
      answered-ack TakenShut HandshakeRefusedShut tt (record { plain = plain; told = told.0 })) (λ _. tt))

  answered-acceptable : A (acceptable_judgement s v)
  unfolding acceptable_judgement
  answered-acceptable =
      let resets = if v.seq == s.receiving.rcv_nxt then PeerResets else ResetElsewhere in
      let acks = ack_judgement s v Taken HandshakeRefused in
      cond_both (has rst v.flags) resets (if has syn v.flags then SynInWindow else (if not (has ack v.flags) then NoAck else acks)) A
      (λ _. cond_both (v.seq == s.receiving.rcv_nxt) PeerResets ResetElsewhere A (λ _. tt) (λ _. tt))
      (λ plain. cond_both (has syn v.flags) SynInWindow (if not (has ack v.flags) then NoAck else acks) A (λ _. tt)
      (λ _. cond_both (not (has ack v.flags)) NoAck acks A (λ _. tt)
      (λ told. answered-ack Taken HandshakeRefused tt (record { plain = plain; told = not-false (has ack v.flags) told }))))

  answered-after_syn : A (judgement_after_syn s v)
  unfolding judgement_after_syn
  answered-after_syn =
      cond_both (is_acceptable_segment s v) (acceptable_judgement s v) (unacceptable_judgement s v) A (λ _. answered-acceptable) (λ _. answered-unacceptable)

  answered-phase : A (phase_judgement s v)
  unfolding phase_judgement
  answered-phase =
      let opens = if is_syn_sent s.phase then syn_sent_judgement s v else judgement_after_syn s v in
      cond_both (is_closed s.phase) (closed_judgement v) (if is_listening s.phase then listen_judgement v else opens) A (λ _. answered-closed)
      (λ _. cond_both (is_listening s.phase) (listen_judgement v) opens A (λ _. answered-listen)
      (λ _. cond_both (is_syn_sent s.phase) (syn_sent_judgement s v) (judgement_after_syn s v) A (λ _. answered-syn_sent) (λ _. answered-after_syn)))

-- ---- WHAT ARRIVES: the reset that waits, or the new one where none does
module _ (s : State) (src dst : List ℕ) (v : Content) (Q : WaitingReset → Type 0) (had : IfSome s.pending.reset Q)
    (stray : has rst v.flags ≡ false → is_foreign s src dst v ≡ false → Q (reset_of_stray src v))
    (acked : HasAck v → is_foreign s src dst v ≡ false → Q (reset_at_ack src v))
  where
    abbrev Records : Judgement → Type 0
    Records j = IfSome (after_judgement j s src v).pending.reset Q

    taking-records : Records Taken
    unfolding after_taking after_its_text after_fin
    taking-records = subst (λ (o : Option WaitingReset). IfSome o Q) (sym (its_ack-reset s v)) had

    shut-records : Records TakenShut
    unfolding after_taking_shut
    shut-records = subst (λ (o : Option WaitingReset). IfSome o Q) (sym (its_ack-reset s v)) had

    opens-records : Records PeerOpens
    unfolding after_peer_opens
    opens-records = had

    accepts-records : Records PeerAccepts
    unfolding after_peer_accepts
    accepts-records = had

    pub records-judgement : Records (judgement s src dst v)
    unfolding judgement
    records-judgement =
        cond_both (is_foreign s src dst v) Foreign (phase_judgement s v) Records (λ _. had)
        (λ mine.
        let J : Judgement → Type 0 = λ j. Answered v j → Records j in
        let same : J Foreign = λ _. had in
        let refused : J HandshakeRefused = λ fact. quiet-first s.pending.reset (reset_at_ack src v) Q had (acked fact mine) in
        in-phase s v J (record {
          foreign = same;
          reset_ignored = same;
          stray = λ plain. quiet-first s.pending.reset (reset_of_stray src v) Q had (stray plain mine);
          ack_of_listen = refused;
          no_syn = same;
          peer_opens = λ _ _ _. opens-records;
          ack_of_no_syn = refused;
          peer_refuses = same;
          peer_accepts = λ _ _ _. accepts-records;
          unacceptable = λ _. same;
          peer_resets = same;
          reset_elsewhere = λ _. same;
          syn_in_window = λ _. same;
          no_ack = same;
          acks_unsent = λ _. same;
          handshake_refused = refused;
          handshake_refused_shut = λ _. refused;
          taken = λ _ _ _. taking-records;
          taken_shut = λ _ _ _. shut-records;
        }) (answered-phase s v))

-- ---- A JUDGE knows what came
abbrev pub KnowsReset : Known → State → Type 0
KnowsReset k s = (first : Seq) → k.initial ≡ Some first → k.heard.reset ≡ false → Waiting k.heard.ports k.answers s

-- what came with other ports is answered with other ports
not-mine : (s : State) (src dst : List ℕ) (v : Content) → is_foreign s src dst v ≡ false → v.dst_port ≡ s.config.port
unfolding is_foreign
not-mine s src dst v e =
    by_test (v.dst_port == s.config.port) (λ b. (v.dst_port == s.config.port ≡ b) → v.dst_port ≡ s.config.port)
    (λ _ same. eqb-true v.dst_port s.config.port same)
    (λ _ other. absurd (false≢true (sym e ∙ or_left (is_for_other s dst v) _
    (or_right (not (bytes_eq dst s.config.addr.0)) (not (v.dst_port == s.config.port)) (ap not other))))) refl

answers-elsewhere : (ports : Option (ℕ × ℕ)) (port : ℕ) (v : Content) (r : WaitingReset) → r.to.port ≡ v.src_port → v.dst_port ≡ port → is_elsewhere ports v ≡ true
    → goes_elsewhere ports (reset_from port r) ≡ true
answers-elsewhere None port v r to mine e = absurd (false≢true e)
answers-elsewhere (Some ports) port v r to mine e =
    subst (λ (n : ℕ). not (n == ports.0) || not (r.to.port == ports.1) ≡ true) mine
    (subst (λ (n : ℕ). not (v.dst_port == ports.0) || not (n == ports.1) ≡ true) (sym to) e)

-- one that answers it
answers-here : (ports : Option (ℕ × ℕ)) (first : Seq) (next n port isn : ℕ) (answers : List (Seq × Option Seq)) (v : Content) (r : WaitingReset)
    → first.0 ≡ isn → isn < 2 ^ 32 → v.ack < 2 ^ 32 → next ≤ n → has rst v.flags ≡ false → (r.seq, r.ack) ≡ answer_to v
    → MayGo ports (kept_with answers (answers_of (Some first) next v)) port isn n r
answers-here ports first next n port isn answers v r same small fits inside plain is =
    let own = has ack v.flags && is_own first.0 next v.ack in
    let none : has rst v.flags || own ≡ own = ap (λ b. b || own) plain in
    subst (λ (b : Bool). MayGo ports (kept_with answers (if b then [] else answer_to v ∷ [])) port isn n r) (sym none)
    (by_test own (λ b. MayGo ports (kept_with answers (if b then [] else answer_to v ∷ [])) port isn n r)
    (λ e.
    let parts = and_parts (has ack v.flags) (is_own first.0 next v.ack) e in
    let near : distance first.0 v.ack ≤ next = leb-true (distance first.0 v.ack) next parts.1 in
    let seq_is : r.seq.0 ≡ v.ack = ap (λ (answer : Seq × Option Seq). answer.0.0) is ∙ ap (λ (b : Bool). if b then v.ack else 0) parts.0 in
    inr (inl (record { place = distance first.0 v.ack; inside = omega (arith, near, inside); is = seq_is ∙ omega (arith, same, small, fits) })))
    (λ _. inr (inr (may-last (reset_from port r) answers (answer_to v)
    (subst (λ (answer : Seq × Option Seq). is_answer (reset_from port r) answer ≡ true) is (own-answer port r.to r.seq r.ack))))))

-- ---- THE RULE is kept
pub plain-passes : (k : Known) (v : Content) → has rst v.flags ≡ false → is_stray k v ≡ false
plain-passes k v plain = ap (λ b. (b && not (goes_elsewhere k.heard.ports v)) && is_stray_by k.initial (count_taken k.stream (is_some k.fin)) k.answers v) plain

some-more : (o : Option WaitingReset) (P Q : WaitingReset → Type 0) → ((r : WaitingReset) → P r → Q r) → IfSome o P → IfSome o Q
some-more None P Q more h = tt
some-more (Some r) P Q more h = more r h

no-reset : (a b : Bool) → a || b ≡ false → (a ≡ false) × (b ≡ false)
no-reset true b e = absurd (false≢true (sym e))
no-reset false b e = (refl, e)

pub before-came : (k : Known) (taken : Option Content) → (known_came k taken).heard.reset ≡ false → k.heard.reset ≡ false
before-came k None e = e
before-came k (Some v) e =
    by_test (is_elsewhere k.heard.ports v) (λ b. (if b then k else known_with k v).heard.reset ≡ false → k.heard.reset ≡ false) (λ _ going. going)
    (λ _ going. (no-reset k.heard.reset (has rst v.flags) going).0) e

-- what waited may go still
module _ (k : Known) (port isn n : ℕ) where
  came-go : (taken : Option Content) (r : WaitingReset) → (known_came k taken).heard.reset ≡ false → MayGo k.heard.ports k.answers port isn n r
      → MayGo (known_came k taken).heard.ports (known_came k taken).answers port isn n r
  came-go None r going h = h
  came-go (Some v) r going h =
      let more = answers_of k.initial (count_taken k.stream (is_some k.fin)) v in
      by_test (is_elsewhere k.heard.ports v)
      (λ b. (if b then k else known_with k v).heard.reset ≡ false
      → MayGo (if b then k else known_with k v).heard.ports (if b then k else known_with k v).answers port isn n r)
      (λ _ _. h)
      (λ _ still. subst (λ (b : Bool). MayGo (if b then None else k.heard.ports) (kept_with k.answers more) port isn n r)
      (sym (no-reset k.heard.reset (has rst v.flags) still).1) (more-go k.heard.ports k.answers more port isn n r h)) going

  -- and so may the answer
  new-go : (v : Content) (first : Seq) (r : WaitingReset) → k.initial ≡ Some first → first.0 ≡ isn → isn < 2 ^ 32 → v.ack < 2 ^ 32
      → count_taken k.stream (is_some k.fin) ≤ n → has rst v.flags ≡ false → v.dst_port ≡ port → r.to.port ≡ v.src_port → (r.seq, r.ack) ≡ answer_to v
      → MayGo (known_came k (Some v)).heard.ports (known_came k (Some v)).answers port isn n r
  new-go v first r known same small fits inside plain mine to is =
      let next = count_taken k.stream (is_some k.fin) in
      by_test (is_elsewhere k.heard.ports v)
      (λ b. MayGo (if b then k else known_with k v).heard.ports (if b then k else known_with k v).answers port isn n r)
      (λ away. inl (answers-elsewhere k.heard.ports port v r to mine away))
      (λ _. subst (λ (b : Bool). MayGo (if b then None else k.heard.ports) (kept_with k.answers (answers_of k.initial next v)) port isn n r) (sym plain)
      (subst (λ (o : Option Seq). MayGo k.heard.ports (kept_with k.answers (answers_of o next v)) port isn n r) (sym known)
      (answers-here k.heard.ports first next n port isn k.answers v r same small fits inside plain is)))

-- whatever comes
pub came-resets : (k : Known) (s : State) (src dst bytes : List ℕ) (r : Result Content DecodeError) (first : Seq) → AreBytes bytes → decode_answer src dst bytes ≡ r
    → k.initial ≡ Some first → first.0 ≡ s.config.isn.0 → s.config.isn.0 < 2 ^ 32 → count_taken k.stream (is_some k.fin) ≤ s.sending.snd_nxt
    → KnowsReset k s → (known_came k (taken_as bytes r)).heard.reset ≡ false
    → IfSome (after_reading s src dst r).pending.reset
    (MayGo (known_came k (taken_as bytes r)).heard.ports (known_came k (taken_as bytes r)).answers s.config.port s.config.isn.0 s.sending.snd_nxt)
came-resets k s src dst bytes (Ok v) first fits e known same small inside h going =
    let k' = known_came k (Some v) in
    let port = s.config.port in
    let isn = s.config.isn.0 in
    let n = s.sending.snd_nxt in
    let valid = decoded_valid src dst v bytes fits e in
    let new = new-go k port isn n v first in
    records-judgement s src dst v (MayGo k'.heard.ports k'.answers port isn n)
    (some-more s.pending.reset _ _ (λ r m. came-go k port isn n (Some v) r going m) (h first known (before-came k (Some v) going)))
    (λ plain mine. new (reset_of_stray src v) known same small valid.ack inside plain (not-mine s src dst v mine) refl refl)
    (λ acked mine. new (reset_at_ack src v) known same small valid.ack inside acked.plain (not-mine s src dst v mine) refl
    (ap (λ (b : Bool). (record { 0 = if b then v.ack else 0 }, if b then None else Some (record { 0 = number v.seq (conn.count_numbers v) }))) (sym acked.told)))
came-resets k s src dst bytes (Err fault) first fits e known same small inside h going =
    some-more s.pending.reset _ _ (λ r m. came-go k s.config.port s.config.isn.0 s.sending.snd_nxt (taken_as bytes (Err fault)) r going m)
    (h first known (before-came k (taken_as bytes (Err fault)) going))

-- THE RESET that goes
none-some : (o : Option Seq) (first : Seq) → o ≡ None → o ≡ Some first → ⊥
none-some None first none is = absurd (cc)
none-some (Some other) first none is = absurd (cc)

away-passes : (k : Known) (v : Content) → goes_elsewhere k.heard.ports v ≡ true → is_stray k v ≡ false
away-passes k v e =
    unless (has rst v.flags && not (goes_elsewhere k.heard.ports v)) (is_stray_by k.initial (count_taken k.stream (is_some k.fin)) k.answers v)
    (λ both. absurd (false≢true (sym (ap not e) ∙ (and_parts (has rst v.flags) (not (goes_elsewhere k.heard.ports v)) both).1)))

unknown-passes : (initial : Option Seq) (next : ℕ) (answers : List (Seq × Option Seq)) (v : Content)
    → ((first : Seq) → initial ≡ Some first → is_own first.0 next v.seq || may_answer v answers ≡ true) → is_stray_by initial next answers v ≡ false
unknown-passes None next answers v h = refl
unknown-passes (Some first) next answers v h = ap not (h first refl)

here-passes : (k : Known) (v : Content)
    → ((first : Seq) → k.initial ≡ Some first → is_own first.0 (count_taken k.stream (is_some k.fin)) v.seq || may_answer v k.answers ≡ true) → is_stray k v ≡ false
here-passes k v h =
    unless (has rst v.flags && not (goes_elsewhere k.heard.ports v)) (is_stray_by k.initial (count_taken k.stream (is_some k.fin)) k.answers v)
    (λ _. unknown-passes k.initial (count_taken k.stream (is_some k.fin)) k.answers v h)

own-passes : (k : Known) (v : Content) (first : Seq) (isn n : ℕ) → first.0 ≡ isn → isn < 2 ^ 32 → n ≡ count_taken k.stream (is_some k.fin) → n < 2 ^ 31
    → IsOwnNumber isn n v.seq → is_own first.0 (count_taken k.stream (is_some k.fin)) v.seq || may_answer v k.answers ≡ true
own-passes k v first isn n same small next short own =
    let far : distance first.0 v.seq ≡ own.place = omega (arith, same, small, short, own.is, own.inside) in
    or_left (is_own first.0 (count_taken k.stream (is_some k.fin)) v.seq) (may_answer v k.answers)
    (le-leb (distance first.0 v.seq) (count_taken k.stream (is_some k.fin)) (omega (arith, far, own.inside, next)))

pub reset-passes : (k : Known) (s : State) (waiting : Option WaitingReset) → is_some waiting ≡ true → s.config.isn.0 < 2 ^ 32
    → IfSome k.initial (λ n. n.0 ≡ s.config.isn.0)
    → ((first : Seq) → k.initial ≡ Some first → (s.sending.snd_nxt ≡ count_taken k.stream (is_some k.fin)) × (s.sending.snd_nxt < 2 ^ 31))
    → ((first : Seq) → k.initial ≡ Some first → IfSome waiting (MayGo k.heard.ports k.answers s.config.port s.config.isn.0 s.sending.snd_nxt))
    → is_stray k (waiting_segment s waiting) ≡ false
reset-passes k s None some small number next h = absurd (false≢true some)
reset-passes k s (Some r) some small number next h =
    let v = reset_from s.config.port r in
    ⊎_elim
    (λ (none : k.initial ≡ None). here-passes k v (λ first is. absurd (none-some k.initial first none is)))
    (λ (there : (first : Seq) × (k.initial ≡ Some first)).
    let first = there.0 in
    let same : first.0 ≡ s.config.isn.0 = subst (λ (o : Option Seq). IfSome o (λ n. n.0 ≡ s.config.isn.0)) there.1 number in
    ⊎_elim (λ (away : goes_elsewhere k.heard.ports v ≡ true). away-passes k v away)
    (λ (here : IsOwnNumber s.config.isn.0 s.sending.snd_nxt r.seq.0 ⊎ (may_answer v k.answers ≡ true)).
    here-passes k v (λ other is.
    let at = next other is in
    let number_is : other.0 ≡ s.config.isn.0 = subst (λ (o : Option Seq). IfSome o (λ n. n.0 ≡ s.config.isn.0)) is number in
    ⊎_elim
    (λ (own : IsOwnNumber s.config.isn.0 s.sending.snd_nxt r.seq.0).
    own-passes k v other s.config.isn.0 s.sending.snd_nxt number_is small at.0 at.1 (record { place = own.place; inside = own.inside; is = own.is }))
    (λ (answers : may_answer v k.answers ≡ true). or_right (is_own other.0 (count_taken k.stream (is_some k.fin)) v.seq) (may_answer v k.answers) answers) here))
    (h first there.1))
    (known-or_not k.initial)
