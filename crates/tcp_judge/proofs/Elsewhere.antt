-- WHAT COMES WITH OTHER PORTS: where a judge knows those of the end's SYN, the end has its peer there, or is over, so that such a segment
-- leaves all but a reset that waits (RFC 9293, 3.10.7).
use Rattle.tcp_replay.proofs.Words.{◌≡◌, ℕ, ◌&&◌, ◌||◌, ◌==◌, ◌⊎◌, Bool, true, false, not, List, Option, Some, None, IfSome, Result, Ok, Err, bytes_eq}
use Rattle.tcp_replay.proofs.Words.{refl, sym, ◌∙◌, ap, subst, arith, cond_both, ⊎_elim, inl, inr, if◌then◌else◌, false≢true, or_cases, or_left, or_right}
use Rattle.tcp_replay.proofs.Words.{State, Content, Phase, DecodeError, PartyState, Peer, Due, Reset, Syn, has_peer, is_closed, is_syn_received, phase_after_close, phase_after_fin}
use Rattle.tcp_replay.proofs.Words.{judgement, phase_judgement, closed_judgement, listen_judgement, syn_sent_judgement, judgement_after_syn, is_listening, is_syn_sent}
use Rattle.tcp_replay.proofs.Words.{Judgement, Foreign, ResetIgnored, Stray, PeerResets, is_foreign, decode_answer}
use Rattle.tcp_replay.proofs.Words.{after_judgement, after_peer_accepts, after_own_syn, after_acked_text, after_window_and_blocks, after_own_fin, after_its_ack, after_its_text}
use Rattle.tcp_replay.proofs.Words.{after_fin, takes_fin, after_taking, after_taking_shut, after_reading, segment_of, plain_segment, syn_segment, waiting_segment}
use Rattle.tcp_replay.proofs.Words.{SoloState, SoloContent, HasRanges, end_after}
use Rattle.tcp_conn.specs.Phase.{phase_after_own_fin}
use Rattle.tcp_conn.specs.declared.phase.Phase.TheVariants.{FinWait1, Established}
use Rattle.tcp_wire.specs.Flags.{syn, rst, has}
use Rattle.tcp_replay.proofs.Lists.{by_test}
use Rattle.tcp_replay.proofs.Lemmas.{KeptByCalls, CanOpen, GoesOutAlone, judged, own_fin-cases, handshake-knows, due-bits, waiting-bit}
use Rattle.tcp_replay.proofs.one_end.Phases.{closed-unknown, knows-own_syn}
use Rattle.tcp_replay.proofs.one_end.AloneCalls.{IsAloneIn}
use Rattle.tcp_replay.proofs.one_end.SoloRuns.{party_in, solo-step, read-arrival}
use Rattle.tcp_judge.specs.Heard.{is_syn, is_elsewhere, ports_after}
use Rattle.tcp_judge.specs.Taken.{taken_as}
use Rattle.tcp_judge.proofs.Resets.{IsOver, over-calls, over-reading}

-- ---- ITS CONNECTION is with these ports, as long as it has one
pub record IsConnected (s : State) (ports : ℕ × ℕ) : Type 0 where
  pub knows : has_peer s.phase ≡ true
  pub own : ports.0 ≡ s.config.port
  pub other : ports.1 ≡ s.peer.port

abbrev pub Keeps : ℕ × ℕ → State → Type 0
Keeps ports s = IsConnected s ports ⊎ IsOver s

abbrev pub HasPorts : Option (ℕ × ℕ) → State → Type 0
HasPorts ports s = IfSome ports (λ p. Keeps p s)

closing-knows : (phase : Phase) → has_peer (phase_after_close phase) ≡ has_peer phase
closing-knows phase = grind arith

connected-calls : (peer : Peer) (p : PartyState) (ports : ℕ × ℕ) → IsConnected p.endpoint ports → KeptByCalls peer p (λ p'. Keeps ports p'.endpoint)
connected-calls peer p ports h =
    let s = p.endpoint in
    let never : CanOpen s → ⊥ = λ can. closed-unknown s.phase can.shut h.knows in
    record {
      same = inl h;
      connects = λ can. absurd (never can);
      listens = λ can. absurd (never can);
      sends = λ _ _ _. inl (record { knows = h.knows; own = h.own; other = h.other });
      reads = λ _ _. inl (record { knows = h.knows; own = h.own; other = h.other });
      withdraws = inr (record { shut = refl; ended = refl });
      closes = λ _ _. inl (record { knows = closing-knows s.phase ∙ h.knows; own = h.own; other = h.other });
      aborts = inr (record { shut = refl; ended = refl });
      acknowledges = inl (record { knows = h.knows; own = h.own; other = h.other });
      resends = λ _. inl (record { knows = h.knows; own = h.own; other = h.other });
      probes = inl (record { knows = h.knows; own = h.own; other = h.other });
      fills = λ _ _ _. inl (record { knows = h.knows; own = h.own; other = h.other });
      ends = λ _. inr (record { shut = refl; ended = refl });
      resends-between = λ _ _ _. inl (record { knows = h.knows; own = h.own; other = h.other });
      emits = λ _ _ _. inl (record { knows = h.knows; own = h.own; other = h.other });
    }

-- ---- WHAT ARRIVES
own_fin-knows : (phase : Phase) → has_peer (phase_after_own_fin phase) ≡ has_peer phase
own_fin-knows phase = grind arith

fin-knows : (phase : Phase) → has_peer (phase_after_fin phase) ≡ has_peer phase
fin-knows phase = grind arith

fin-closed : (phase : Phase) → is_closed (phase_after_fin phase) ≡ is_closed phase
fin-closed phase = grind arith

listening-unknown : (phase : Phase) → is_listening phase ≡ true → has_peer phase ≡ true → ⊥
listening-unknown phase e knows = grind (arith, e, knows)

module _ (ports : ℕ × ℕ) where
  own_fin-keeps : (s : State) → IsConnected s ports → Keeps ports (after_own_fin s)
  own_fin-keeps s h =
      own_fin-cases s (Keeps ports) (λ _ _. inr (record { shut = refl; ended = refl }))
      (λ _ _. inl (record { knows = own_fin-knows s.phase ∙ h.knows; own = h.own; other = h.other })) (λ _. inl h)

  its_ack-keeps : (s : State) (v : Content) → IsConnected s ports → Keeps ports (after_its_ack s v)
  unfolding after_its_ack after_window_and_blocks after_acked_text after_own_syn
  its_ack-keeps s v h =
      own_fin-keeps (after_window_and_blocks (after_acked_text (after_own_syn s v) v) v) (record {
        knows = cond_both (is_syn_received s.phase) (if s.closing then FinWait1 else Established) s.phase (λ (p : Phase). has_peer p ≡ true)
            (λ _. knows-own_syn s.closing) (λ _. h.knows);
        own = h.own;
        other = h.other;
      })

  text-keeps : (y : State) (v : Content) → Keeps ports y → Keeps ports (after_its_text y v)
  unfolding after_its_text
  text-keeps y v (inl h) = inl (record { knows = h.knows; own = h.own; other = h.other })
  text-keeps y v (inr over) = inr (record { shut = over.shut; ended = over.ended })

  fin-keeps : (y : State) (v : Content) → Keeps ports y → Keeps ports (after_fin y v)
  unfolding after_fin
  fin-keeps y v (inl h) = inl (record {
    knows = cond_both (takes_fin y v) (phase_after_fin y.phase) y.phase (λ (p : Phase). has_peer p ≡ true) (λ _. fin-knows y.phase ∙ h.knows) (λ _. h.knows);
    own = h.own;
    other = h.other;
  })
  fin-keeps y v (inr over) = inr (record {
    shut = cond_both (takes_fin y v) (phase_after_fin y.phase) y.phase (λ (p : Phase). is_closed p ≡ true) (λ _. fin-closed y.phase ∙ over.shut)
        (λ _. over.shut);
    ended = over.ended;
  })

  taking-keeps : (s : State) (v : Content) → IsConnected s ports → Keeps ports (after_taking s v)
  unfolding after_taking
  taking-keeps s v h = fin-keeps (after_its_text (after_its_ack s v) v) v (text-keeps (after_its_ack s v) v (its_ack-keeps s v h))

  acked-keeps : (y : State) (ack : Bool) → Keeps ports y → Keeps ports (record y { pending = record y.pending { ack = ack } })
  acked-keeps y ack (inl h) = inl (record { knows = h.knows; own = h.own; other = h.other })
  acked-keeps y ack (inr over) = inr (record { shut = over.shut; ended = over.ended })

  shut-keeps : (s : State) (v : Content) → IsConnected s ports → Keeps ports (after_taking_shut s v)
  unfolding after_taking_shut
  shut-keeps s v h = acked-keeps (after_its_ack s v) _ (its_ack-keeps s v h)

  accepts-keeps : (s : State) (v : Content) → IsConnected s ports → Keeps ports (after_peer_accepts s v)
  unfolding after_peer_accepts
  accepts-keeps s v h = inl (record { knows = refl; own = h.own; other = h.other })

  connected-judgement : (s : State) (src dst : List ℕ) (v : Content) → IsConnected s ports → Keeps ports (after_judgement (judgement s src dst v) s src v)
  connected-judgement s src dst v h =
      let J : Judgement → Type 0 = λ j. Keeps ports (after_judgement j s src v) in
      let same : J Foreign = inl h in
      let waits : J Stray = inl (record { knows = h.knows; own = h.own; other = h.other }) in
      let gone : J PeerResets = inr (record { shut = refl; ended = refl }) in
      judged s v J (record {
        foreign = same;
        reset_ignored = same;
        stray = waits;
        ack_of_listen = inl (record { knows = h.knows; own = h.own; other = h.other });
        no_syn = same;
        peer_opens = λ e _. absurd (listening-unknown s.phase e h.knows);
        ack_of_no_syn = inl (record { knows = h.knows; own = h.own; other = h.other });
        peer_refuses = gone;
        peer_accepts = λ _ _. accepts-keeps s v h;
        unacceptable = λ _. inl (record { knows = h.knows; own = h.own; other = h.other });
        peer_resets = gone;
        reset_elsewhere = λ _. inl (record { knows = h.knows; own = h.own; other = h.other });
        syn_in_window = λ _. inl (record { knows = h.knows; own = h.own; other = h.other });
        no_ack = same;
        acks_unsent = λ _. inl (record { knows = h.knows; own = h.own; other = h.other });
        handshake_refused = inl (record { knows = h.knows; own = h.own; other = h.other });
        handshake_refused_shut = λ _. inl (record { knows = h.knows; own = h.own; other = h.other });
        taken = λ _ _. taking-keeps s v h;
        taken_shut = λ _ _. shut-keeps s v h;
      }) src dst

  connected-reading : (s : State) (src dst : List ℕ) (r : Result Content DecodeError) → IsConnected s ports → Keeps ports (after_reading s src dst r)
  connected-reading s src dst (Ok v) h = connected-judgement s src dst v h
  connected-reading s src dst (Err fault) h = inl h

-- ---- EACH EVENT
pub over-step : (x : SoloState) (e : SoloContent) → HasRanges e → IsAloneIn (party_in x) → IsOver x.endpoint → IsOver (end_after x.endpoint e)
over-step x e fits alone h =
    solo-step x (λ p. IsOver p.endpoint) alone (λ peer _. over-calls peer (party_in x) h) e fits
    (λ src dst bytes is. subst IsOver (sym (read-arrival x.endpoint src dst bytes (decode_answer src dst bytes) refl))
    (over-reading x.endpoint src dst (decode_answer src dst bytes) h))

connected-step : (x : SoloState) (e : SoloContent) (ports : ℕ × ℕ) → HasRanges e → IsAloneIn (party_in x) → IsConnected x.endpoint ports
    → Keeps ports (end_after x.endpoint e)
connected-step x e ports fits alone h =
    solo-step x (λ p. Keeps ports p.endpoint) alone (λ peer _. connected-calls peer (party_in x) ports h) e fits
    (λ src dst bytes is. subst (Keeps ports) (sym (read-arrival x.endpoint src dst bytes (decode_answer src dst bytes) refl))
    (connected-reading ports x.endpoint src dst (decode_answer src dst bytes) h))

pub ports-step : (ports : Option (ℕ × ℕ)) (x : SoloState) (e : SoloContent) → HasRanges e → IsAloneIn (party_in x) → HasPorts ports x.endpoint
    → HasPorts ports (end_after x.endpoint e)
ports-step None x e fits alone h = tt
ports-step (Some ports) x e fits alone (inl h) = connected-step x e ports fits alone h
ports-step (Some ports) x e fits alone (inr over) = inr (over-step x e fits alone over)

-- a reset that came leaves none known,
pub ports-came : (ports : Option (ℕ × ℕ)) (v : Content) (s : State) → HasPorts ports s → HasPorts (if has rst v.flags then None else ports) s
ports-came ports v s h = cond_both (has rst v.flags) None ports (λ (known : Option (ℕ × ℕ)). HasPorts known s) (λ _. tt) (λ _. h)

-- and the end's SYN its own
reset-no_syn : (v : Content) → has rst v.flags ≡ true → is_syn v ≡ false
reset-no_syn v e = by_test (has syn v.flags) (λ b. b && not (has rst v.flags) ≡ false) (λ _. ap not e) (λ _. refl)

ports-stay : (ports : Option (ℕ × ℕ)) (v : Content) (s : State) → is_syn v ≡ false → HasPorts ports s → HasPorts (ports_after ports v) s
ports-stay ports v s bare h = subst (λ (b : Bool). HasPorts (if b then Some (v.src_port, v.dst_port) else ports) s) (sym bare) h

pub ports-due : (ports : Option (ℕ × ℕ)) (s : State) (accepted : List ℕ) (closed : Bool) (due : Due) → GoesOutAlone s accepted closed due → HasPorts ports s
    → HasPorts (ports_after ports (segment_of s due)) s
unfolding segment_of
ports-due ports s accepted closed Reset out h =
    ports-stay ports (waiting_segment s s.pending.reset) s (reset-no_syn (waiting_segment s s.pending.reset) (waiting-bit s s.pending.reset out.kind)) h
ports-due ports s accepted closed Syn out h =
    let v = syn_segment s in
    cond_both (is_syn v) (Some (v.src_port, v.dst_port)) ports (λ (known : Option (ℕ × ℕ)). HasPorts known s)
    (λ _. inl (record { knows = handshake-knows s.phase out.kind; own = refl; other = refl })) (λ _. h)
ports-due ports s accepted closed other out h =
    ports-stay ports (plain_segment s other) s (ap (λ b. b && not (has rst (plain_segment s other).flags)) (due-bits s.sending other).0) h

-- ---- WHAT COMES ELSEWHERE is of no concern to the end
elsewhere-foreign : (ports : ℕ × ℕ) (s : State) (src dst : List ℕ) (v : Content) → IsConnected s ports → is_elsewhere (Some ports) v ≡ true
    → is_foreign s src dst v ≡ true
unfolding is_foreign
elsewhere-foreign ports s src dst v h e =
    let by_address = not (bytes_eq dst s.config.addr.0) in
    let from_other = not (bytes_eq src s.peer.addr.0) || not (v.src_port == s.peer.port) in
    ⊎_elim
    (λ (own : not (v.dst_port == ports.0) ≡ true).
    or_left (by_address || not (v.dst_port == s.config.port)) (has_peer s.phase && from_other)
    (or_right by_address (not (v.dst_port == s.config.port)) (subst (λ (n : ℕ). not (v.dst_port == n) ≡ true) h.own own)))
    (λ (other : not (v.src_port == ports.1) ≡ true).
    or_right (by_address || not (v.dst_port == s.config.port)) (has_peer s.phase && from_other)
    (ap (λ b. b && from_other) h.knows
    ∙ or_right (not (bytes_eq src s.peer.addr.0)) (not (v.src_port == s.peer.port)) (subst (λ (n : ℕ). not (v.src_port == n) ≡ true) h.other other)))
    (or_cases (not (v.dst_port == ports.0)) (not (v.src_port == ports.1)) e)

pub record StaysPut (s s' : State) : Type 0 where
  pub sending : s'.sending ≡ s.sending
  pub receiving : s'.receiving ≡ s.receiving
  pub ending : s'.ending ≡ s.ending
  pub link : s'.link ≡ s.link

over-judgement : (s : State) (src dst : List ℕ) (v : Content) → IsOver s → StaysPut s (after_judgement (judgement s src dst v) s src v)
unfolding judgement phase_judgement closed_judgement
over-judgement s src dst v over =
    let J : Judgement → Type 0 = λ j. StaysPut s (after_judgement j s src v) in
    let same : J Foreign = record { sending = refl; receiving = refl; ending = refl; link = refl } in
    let waits : J Stray = record { sending = refl; receiving = refl; ending = refl; link = refl } in
    let opens = if is_syn_sent s.phase then syn_sent_judgement s v else judgement_after_syn s v in
    let listens = if is_listening s.phase then listen_judgement v else opens in
    cond_both (is_foreign s src dst v) Foreign (if is_closed s.phase then closed_judgement v else listens) J (λ _. same)
    (λ _. cond_both (is_closed s.phase) (closed_judgement v) listens J
    (λ _. cond_both (has rst v.flags) ResetIgnored Stray J (λ _. same) (λ _. waits))
    (λ open_. absurd (false≢true (sym open_ ∙ over.shut))))

elsewhere-judgement : (ports : ℕ × ℕ) (s : State) (src dst : List ℕ) (v : Content) → Keeps ports s → is_elsewhere (Some ports) v ≡ true
    → StaysPut s (after_judgement (judgement s src dst v) s src v)
unfolding judgement
elsewhere-judgement ports s src dst v (inl h) e =
    subst (λ (b : Bool). StaysPut s (after_judgement (if b then Foreign else phase_judgement s v) s src v)) (sym (elsewhere-foreign ports s src dst v h e))
    (record { sending = refl; receiving = refl; ending = refl; link = refl })
elsewhere-judgement ports s src dst v (inr over) e = over-judgement s src dst v over

elsewhere-by : (known : Option (ℕ × ℕ)) (s : State) (src dst : List ℕ) (v : Content) → HasPorts known s → is_elsewhere known v ≡ true
    → StaysPut s (after_judgement (judgement s src dst v) s src v)
elsewhere-by None s src dst v h e = absurd (false≢true e)
elsewhere-by (Some ports) s src dst v h e = elsewhere-judgement ports s src dst v h e

-- of whatever is read
pub elsewhere-reading : (known : Option (ℕ × ℕ)) (s : State) (src dst bytes : List ℕ) (r : Result Content DecodeError) (v : Content) → HasPorts known s
    → taken_as bytes r ≡ Some v → is_elsewhere known v ≡ true → StaysPut s (after_reading s src dst r)
elsewhere-reading known s src dst bytes (Ok w) v h is e =
    let same : w ≡ v = cc in
    elsewhere-by known s src dst w h (ap (is_elsewhere known) same ∙ e)
elsewhere-reading known s src dst bytes (Err fault) v h is e = record { sending = refl; receiving = refl; ending = refl; link = refl }
