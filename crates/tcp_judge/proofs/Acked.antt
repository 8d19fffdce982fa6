-- THE END'S SYN IS ACKNOWLEDGED by a segment that came, and by nothing else: SND.UNA leaves 0 with one that acknowledges the SYN (RFC
-- 9293, 3.10.7.3 and 3.10.7.4, fifth).
use Rattle.tcp_replay.proofs.Words.{◌≡◌, ℕ, ◌+◌, ◌<◌, ◌≤◌, ◌^◌, ◌&&◌, ◌||◌, ◌==◌, Bool, true, false, not, List, length, Option, Some, None, IfSome, is_some, Result, Ok, Err}
use Rattle.tcp_replay.proofs.Words.{refl, sym, ◌∙◌, ap, subst, arith, cond_both, ⊎_elim, if◌then◌else◌, and_parts, eqb-true, nat_lt, false≢true, number, distance, or_left, or_right, cases_lt}
use Rattle.tcp_replay.proofs.Words.{not-false}
use Rattle.tcp_replay.proofs.Words.{State, Content, Phase, IsAlone, DecodeError, PartyState, Peer, IsValid, AreBytes, decode_answer, decoded_valid, after_reading, is_handshake, is_closed, is_listening, is_syn_sent, is_syn_received}
use Rattle.tcp_replay.proofs.Words.{judgement, phase_judgement, closed_judgement, listen_judgement, syn_sent_judgement, judgement_after_syn, acceptable_judgement, unacceptable_judgement, ack_judgement}
use Rattle.tcp_replay.proofs.Words.{Judgement, Foreign, ResetIgnored, OpensNothing, AckOfNoSyn, PeerRefuses, PeerAccepts, Unacceptable, PeerResets, ResetElsewhere, SynInWindow, NoAck, AcksUnsent}
use Rattle.tcp_replay.proofs.Words.{HandshakeRefused, HandshakeRefusedShut, Taken, TakenShut, PeerOpens, is_foreign, is_allowed_shut, is_acceptable_segment, acks_unsent, position_near, window}
use Rattle.tcp_replay.proofs.Words.{after_judgement, after_peer_opens, after_peer_accepts, after_own_syn, after_acked_text, after_window_and_blocks, after_own_fin, after_its_ack, after_its_text}
use Rattle.tcp_replay.proofs.Words.{after_fin, after_taking, after_taking_shut, takes_fin, phase_after_fin, phase_after_close, with_connection}
use Rattle.std.proofs.lemmas.Bool.{le-leb, le-ltb}
use Rattle.tcp_wire.specs.Flags.{syn, rst, ack, has}
use Rattle.tcp_wire.specs.Position.{position_of}
use Rattle.tcp_wire.proofs.Lemmas.{position_of_ahead, position_of_behind, position_of_number}
use Rattle.tcp_numbers.specs.declared.seq.Seq.{Seq}
use Rattle.tcp_conn.specs.Judgement as conn
use Rattle.tcp_replay.proofs.Lists.{by_test}
use Rattle.tcp_replay.proofs.Lemmas.{KeptByCalls, judged, IsAfterSyn, own_fin-cases, end-synchronized}
use Rattle.tcp_replay.proofs.one_end.Phases.{is_synchronized, handshake-own_fin, handshake-fin, handshake-closing}
use Rattle.tcp_replay.proofs.one_end.Alone.{own_syn-synced}
use Rattle.tcp_replay.proofs.one_end.Judgements.{IsTaken, IsAckOnly}
use Rattle.tcp_judge.specs.Heard.{carries_ack}
use Rattle.tcp_judge.specs.Stream.{Stream, count_sent, count_taken}
use Rattle.tcp_judge.specs.Known.{Known, initial_after, place_of, covers_syn, acks_syn_by, acks_syn, leads_back, known_after, known_with}
use Rattle.tcp_judge.specs.Heard.{is_syn}
use Rattle.tcp_judge.specs.Rules.{precedes_ack}
use Rattle.tcp_judge.specs.Taken.{taken_as}
use Rattle.tcp_judge.proofs.Streams.{IsKnown, part-most, unless, not-none}
use Rattle.tcp_judge.proofs.Follows.{place-reset, place-unknown, known-or_not}

-- ---- IN THE HANDSHAKE nothing is acknowledged
abbrev pub Waits : State → Type 0
Waits s = is_handshake s.phase ≡ true → s.sending.snd_una ≡ 0

pub waits-calls : (peer : Peer) (p : PartyState) → Waits p.endpoint → KeptByCalls peer p (λ p'. Waits p'.endpoint)
waits-calls peer p h =
    let s = p.endpoint in
    let connects : Waits (with_connection s peer) = λ _. refl in
    let gone : false ≡ true → s.sending.snd_una ≡ 0 = λ never. absurd (cc) in
    let closes : is_handshake (phase_after_close s.phase) ≡ true → s.sending.snd_una ≡ 0 = λ e. h (sym (handshake-closing s.phase) ∙ e) in
    assumption

synced-waits : (phase : Phase) → is_synchronized phase ≡ true → is_handshake phase ≡ false
synced-waits phase e = grind (arith, e)

done-own_fin : (x : State) → is_handshake x.phase ≡ false → is_handshake (after_own_fin x).phase ≡ false
done-own_fin x h =
    own_fin-cases x (λ (y : State). is_handshake y.phase ≡ false) (λ _ _. refl) (λ _ _. handshake-own_fin x.phase ∙ h) (λ _. h)

done-its_ack : (s : State) (v : Content) → IsAfterSyn s → is_handshake (after_its_ack s v).phase ≡ false
unfolding after_its_ack after_acked_text after_window_and_blocks
done-its_ack s v after_syn =
    done-own_fin (after_window_and_blocks (after_acked_text (after_own_syn s v) v) v) (synced-waits (after_own_syn s v).phase (own_syn-synced s v after_syn))

done-fin : (y : State) (v : Content) → is_handshake y.phase ≡ false → is_handshake (after_fin y v).phase ≡ false
unfolding after_fin
done-fin y v h = cond_both (takes_fin y v) (phase_after_fin y.phase) y.phase (λ (p : Phase). is_handshake p ≡ false) (λ _. handshake-fin y.phase ∙ h) (λ _. h)

done-taking : (s : State) (v : Content) → IsAfterSyn s → is_handshake (after_taking s v).phase ≡ false
unfolding after_taking after_its_text
done-taking s v after_syn = done-fin (after_its_text (after_its_ack s v) v) v (done-its_ack s v after_syn)

done-shut : (s : State) (v : Content) → IsAfterSyn s → is_handshake (after_taking_shut s v).phase ≡ false
unfolding after_taking_shut
done-shut s v after_syn = done-its_ack s v after_syn

waits-opens : (s : State) (src : List ℕ) (v : Content) → Waits (after_peer_opens s src v)
unfolding after_peer_opens
waits-opens s src v e = refl

done-accepts : (s : State) (v : Content) → is_handshake (after_peer_accepts s v).phase ≡ false
unfolding after_peer_accepts
done-accepts s v = refl

pub waits-judgement : (s : State) (src dst : List ℕ) (v : Content) → Waits s → Waits (after_judgement (judgement s src dst v) s src v)
waits-judgement s src dst v h =
    let J : Judgement → Type 0 = λ j. Waits (after_judgement j s src v) in
    let same : J Foreign = h in
    let gone : J PeerResets = λ never. absurd (cc) in
    let opens : J PeerOpens = waits-opens s src v in
    let accepts : J PeerAccepts = λ e. absurd (false≢true (sym (done-accepts s v) ∙ e)) in
    let taken : IsAfterSyn s → IsTaken s v → J Taken = λ after_syn _ e. absurd (false≢true (sym (done-taking s v after_syn) ∙ e)) in
    let shut : IsAfterSyn s → IsAckOnly v → J TakenShut = λ after_syn _ e. absurd (false≢true (sym (done-shut s v after_syn) ∙ e)) in
    judged s v J (assumption) src dst

-- ---- SND.UNA at calls, timers and emissions
pub una-calls : (peer : Peer) (p : PartyState) → KeptByCalls peer p (λ p'. p'.endpoint.sending.snd_una ≤ p.endpoint.sending.snd_una)
una-calls peer p =
    let same : p.endpoint.sending.snd_una ≤ p.endpoint.sending.snd_una = omega arith in
    let new : 0 ≤ p.endpoint.sending.snd_una = omega arith in
    assumption

-- ---- WHICH JUDGEMENTS take an acknowledgement
abbrev pub takes_ack : Judgement → Bool
takes_ack PeerAccepts = true
takes_ack Taken = true
takes_ack TakenShut = true
takes_ack other = false

pub record AcksOwnSyn (s : State) (v : Content) : Type 0 where
  pub told : has ack v.flags ≡ true
  pub plain : has rst v.flags ≡ false
  pub is : conn.acks_syn s v ≡ true

abbrev pub Acks : State → Content → Judgement → Type 0
Acks s v j = takes_ack j ≡ true → AcksOwnSyn s v

handshake-open : (phase : Phase) → is_handshake phase ≡ true → is_closed phase ≡ true → ⊥
handshake-open phase e closed = grind (arith, e, closed)

handshake-active : (phase : Phase) → is_handshake phase ≡ true → is_listening phase ≡ true → ⊥
handshake-active phase e listening = grind (arith, e, listening)

handshake-received : (phase : Phase) → is_handshake phase ≡ true → is_syn_sent phase ≡ false → is_syn_received phase ≡ true
handshake-received phase e sent = grind (arith, e, sent)

pub sent-handshake : (phase : Phase) → is_syn_sent phase ≡ true → is_handshake phase ≡ true
sent-handshake phase e = grind (arith, e)

done-synced : (phase : Phase) → is_closed phase ≡ false → is_listening phase ≡ false → is_handshake phase ≡ false → is_synchronized phase ≡ true
done-synced phase e f g = grind (arith, e, f, g)

never-opens : (s : State) (src : List ℕ) (v : Content) → 1 ≤ (after_peer_opens s src v).sending.snd_una → ⊥
unfolding after_peer_opens
never-opens s src v least = omega (arith, least)

both-not : (a b : Bool) → (a && not b) ≡ false → a ≡ true → b ≡ true
both-not true true e told = refl
both-not true false e told = absurd (false≢true (sym e))
both-not false b e told = absurd (false≢true told)

module _ (s : State) (v : Content) where
  acks-none : (j : Judgement) → takes_ack j ≡ false → Acks s v j
  acks-none j e takes = absurd (false≢true (sym e ∙ takes))

  acks-syn_sent : Acks s v (syn_sent_judgement s v)
  unfolding syn_sent_judgement
  acks-syn_sent =
      let answers = if has syn v.flags && has ack v.flags then PeerAccepts else OpensNothing in
      let resets = if has ack v.flags then PeerRefuses else ResetIgnored in
      cond_both (has ack v.flags && not (conn.acks_syn s v)) (if has rst v.flags then ResetIgnored else AckOfNoSyn) (if has rst v.flags then resets else answers) (Acks s v)
      (λ _. cond_both (has rst v.flags) ResetIgnored AckOfNoSyn (Acks s v) (λ _. acks-none ResetIgnored refl) (λ _. acks-none AckOfNoSyn refl))
      (λ good. cond_both (has rst v.flags) resets answers (Acks s v)
      (λ _. cond_both (has ack v.flags) PeerRefuses ResetIgnored (Acks s v) (λ _. acks-none PeerRefuses refl) (λ _. acks-none ResetIgnored refl))
      (λ plain. cond_both (has syn v.flags && has ack v.flags) PeerAccepts OpensNothing (Acks s v)
      (λ e _. let told = (and_parts (has syn v.flags) (has ack v.flags) e).1 in
      record { told = told; plain = plain; is = both-not (has ack v.flags) (conn.acks_syn s v) good told }) (λ _. acks-none OpensNothing refl)))

  module _ (received : is_syn_received s.phase ≡ true) where
    acks-ack : (good refused : Judgement) → takes_ack refused ≡ false → has ack v.flags ≡ true → has rst v.flags ≡ false
        → Acks s v (ack_judgement s v good refused)
    unfolding ack_judgement
    acks-ack good refused none told plain =
        cond_both (is_syn_received s.phase) (if conn.acks_syn s v then good else refused)
        (if acks_unsent s.sending (position_near s v.ack) then AcksUnsent else good) (Acks s v)
        (λ _. cond_both (conn.acks_syn s v) good refused (Acks s v) (λ is _. record { told = told; plain = plain; is = is }) (λ _. acks-none refused none))
        (λ other. absurd (false≢true (sym other ∙ received)))

    acks-unacceptable : Acks s v (unacceptable_judgement s v)
    unfolding unacceptable_judgement
    acks-unacceptable =
        let allowed = ack_judgement s v TakenShut HandshakeRefusedShut in
        cond_both (has rst v.flags) ResetIgnored (if is_allowed_shut s v then allowed else Unacceptable) (Acks s v) (λ _. acks-none ResetIgnored refl)
        (λ plain. cond_both (is_allowed_shut s v) allowed Unacceptable (Acks s v)
        (λ e. let told = and_parts (has ack v.flags) (not (has syn v.flags))
        (and_parts (window s.receiving.inbox == 0) (has ack v.flags && not (has syn v.flags)) e).1 in
        acks-ack TakenShut HandshakeRefusedShut refl told.0 plain) (λ _. acks-none Unacceptable refl))

    acks-acceptable : Acks s v (acceptable_judgement s v)
    unfolding acceptable_judgement
    acks-acceptable =
        let resets = if v.seq == s.receiving.rcv_nxt then PeerResets else ResetElsewhere in
        let acks = ack_judgement s v Taken HandshakeRefused in
        cond_both (has rst v.flags) resets (if has syn v.flags then SynInWindow else (if not (has ack v.flags) then NoAck else acks)) (Acks s v)
        (λ _. cond_both (v.seq == s.receiving.rcv_nxt) PeerResets ResetElsewhere (Acks s v) (λ _. acks-none PeerResets refl) (λ _. acks-none ResetElsewhere refl))
        (λ plain. cond_both (has syn v.flags) SynInWindow (if not (has ack v.flags) then NoAck else acks) (Acks s v) (λ _. acks-none SynInWindow refl)
        (λ _. cond_both (not (has ack v.flags)) NoAck acks (Acks s v) (λ _. acks-none NoAck refl)
        (λ told. acks-ack Taken HandshakeRefused refl (not-false (has ack v.flags) told) plain)))

    acks-after_syn : Acks s v (judgement_after_syn s v)
    unfolding judgement_after_syn
    acks-after_syn =
        cond_both (is_acceptable_segment s v) (acceptable_judgement s v) (unacceptable_judgement s v) (Acks s v) (λ _. acks-acceptable) (λ _. acks-unacceptable)

  acks-phase : is_handshake s.phase ≡ true → Acks s v (phase_judgement s v)
  unfolding phase_judgement
  acks-phase handshake =
      let opens = if is_syn_sent s.phase then syn_sent_judgement s v else judgement_after_syn s v in
      cond_both (is_closed s.phase) (closed_judgement v) (if is_listening s.phase then listen_judgement v else opens) (Acks s v)
      (λ e. absurd (handshake-open s.phase handshake e))
      (λ _. cond_both (is_listening s.phase) (listen_judgement v) opens (Acks s v) (λ e. absurd (handshake-active s.phase handshake e))
      (λ _. cond_both (is_syn_sent s.phase) (syn_sent_judgement s v) (judgement_after_syn s v) (Acks s v) (λ _. acks-syn_sent)
      (λ sent. acks-after_syn (handshake-received s.phase handshake sent))))

  pub acks-judgement : (src dst : List ℕ) → is_handshake s.phase ≡ true → Acks s v (judgement s src dst v)
  unfolding judgement
  acks-judgement src dst handshake =
      cond_both (is_foreign s src dst v) Foreign (phase_judgement s v) (Acks s v) (λ _. acks-none Foreign refl) (λ _. acks-phase handshake)

-- ---- WHEN SND.UNA LEAVES 0
record Leaves (s : State) (j : Judgement) : Type 0 where
  takes : takes_ack j ≡ true
  handshake : is_handshake s.phase ≡ true

leaves-judgement : (s : State) (src dst : List ℕ) (v : Content) (accepted : List ℕ) (closed : Bool) → IsAlone s accepted closed → s.sending.snd_una ≡ 0
    → 1 ≤ (after_judgement (judgement s src dst v) s src v).sending.snd_una → Leaves s (judgement s src dst v)
leaves-judgement s src dst v accepted closed a none =
    let J : Judgement → Type 0 = λ j. 1 ≤ (after_judgement j s src v).sending.snd_una → Leaves s j in
    let stays : 1 ≤ s.sending.snd_una → ⊥ = λ least. omega (arith, least, none) in
    let received : IsAfterSyn s → is_handshake s.phase ≡ true = λ after_syn.
    by_test (is_handshake s.phase) (λ b. b ≡ true) (λ _. refl)
    (λ done. absurd (omega (arith, none, (end-synchronized s (done-synced s.phase after_syn.shut after_syn.listening done) a.progress).1.least))) in
    judged s v J (record {
      foreign = λ least. absurd (stays least);
      reset_ignored = λ least. absurd (stays least);
      stray = λ least. absurd (stays least);
      ack_of_listen = λ least. absurd (stays least);
      no_syn = λ least. absurd (stays least);
      peer_opens = λ _ _ least. absurd (never-opens s src v least);
      ack_of_no_syn = λ least. absurd (stays least);
      peer_refuses = λ least. absurd (stays least);
      peer_accepts = λ sent _ _. record { takes = refl; handshake = sent-handshake s.phase sent };
      unacceptable = λ _ least. absurd (stays least);
      peer_resets = λ least. absurd (stays least);
      reset_elsewhere = λ _ least. absurd (stays least);
      syn_in_window = λ _ least. absurd (stays least);
      no_ack = λ least. absurd (stays least);
      acks_unsent = λ _ least. absurd (stays least);
      handshake_refused = λ least. absurd (stays least);
      handshake_refused_shut = λ _ least. absurd (stays least);
      taken = λ after_syn _ _. record { takes = refl; handshake = received after_syn };
      taken_shut = λ after_syn _ _. record { takes = refl; handshake = received after_syn };
    }) src dst

-- ---- A JUDGE sees it
-- once the end's SYN went, and one position is acknowledged, its acknowledgement is known to have come
abbrev pub KnowsAck : Known → State → Type 0
KnowsAck k s = (first : Seq) → k.initial ≡ Some first → 1 ≤ s.sending.snd_una → k.acked ≡ true

pub went-initial : (known : Option Seq) (v : Content) (first : Seq) → (is_syn v ≡ true → ⊥) → initial_after known v ≡ Some first → known ≡ Some first
went-initial None v first never e =
    by_test (is_syn v) (λ b. (b ≡ true → ⊥) → (if b then Some (record { 0 = v.seq }) else None) ≡ Some first → None ≡ Some first)
    (λ _ no _. absurd (no refl)) (λ _ _ same. same) never e
went-initial (Some number) v first never e = e

pub still-known : (back : Bool) (known : Option Seq) (first : Seq) → (if back then None else known) ≡ Some first → known ≡ Some first
still-known true known first e = absurd (cc)
still-known false known first e = e

-- the number behind the SYN's
first-acked : (isn w : ℕ) → isn < 2 ^ 32 → w < 2 ^ 32 → position_of isn 0 w ≡ 1 → w ≡ number isn 1
first-acked isn w small fits e =
    let less : distance (number isn 0) w < 2 ^ 32 = omega arith in
    ⊎_elim
    (λ (close : distance (number isn 0) w < 2 ^ 31). omega (arith, e, position_of_ahead isn 0 w small fits close))
    (λ (far : 2 ^ 31 ≤ distance (number isn 0) w). absurd (omega (arith, e, less, position_of_behind isn 0 w small fits far)))
    (cases_lt (distance (number isn 0) w) (2 ^ 31))

-- what isn't taken leaves it known
pub knows-with : (k : Known) (v : Content) (s : State) → KnowsAck k s → KnowsAck (known_with k v) s
knows-with k v s h first e least = or_left k.acked (acks_syn k v) (h first (still-known (leads_back k v) k.initial first e) least)

-- where what came counts from wherever it came
abbrev pub known_from : Known → Option Content → Known
known_from k None = k
known_from k (Some v) = known_with k v

pub knows-came : (k : Known) (taken : Option Content) (s : State) → KnowsAck k s → KnowsAck (known_from k taken) s
knows-came k (Some v) s h = knows-with k v s h
knows-came k None s h = h

-- and so does what goes out, but for the end's SYN, before which nothing is acknowledged
pub knows-went : (k : Known) (v : Content) (s : State) → (is_syn v ≡ true → s.sending.snd_una ≡ 0) → KnowsAck k s → KnowsAck (known_after k v) s
knows-went k v s waits h first e least =
    h first (went-initial k.initial v first (λ is. absurd (omega (arith, waits is, least))) e) least

-- ---- THE RULE is kept
late-unplaced : (k : Known) (v : Content) (place : ℕ) → place ≡ 0 → precedes_ack k place v ≡ false
late-unplaced k v place none =
    ap (λ b. (b && not (k.acked || k.fast)) && (not (length v.text == 0) && not (has syn v.flags))) (le-ltb 0 place (omega (arith, none)))

pub late-reset : (k : Known) (v : Content) → has rst v.flags ≡ true → precedes_ack k (place_of k v) v ≡ false
late-reset k v reset = late-unplaced k v (place_of k v) (place-reset (initial_after k.initial v) (count_sent k.stream) v reset)

pub late-syn : (k : Known) (v : Content) (place : ℕ) → has syn v.flags ≡ true → precedes_ack k place v ≡ false
late-syn k v place is =
    unless (nat_lt 0 place && not (k.acked || k.fast)) (not (length v.text == 0) && not (has syn v.flags))
    (λ _. unless (not (length v.text == 0)) (not (has syn v.flags)) (λ _. ap not is))

pub late-plain : (k : Known) (v : Content) (s : State) → is_syn v ≡ false → (0 < length v.text → 1 ≤ s.sending.snd_una) → KnowsAck k s
    → precedes_ack k (place_of k v) v ≡ false
late-plain k v s bare acked h =
    let place = place_of k v in
    unless (nat_lt 0 place && not (k.acked || k.fast)) (not (length v.text == 0) && not (has syn v.flags))
    (λ e. unless (not (length v.text == 0)) (not (has syn v.flags)) (λ some.
    let parts = and_parts (nat_lt 0 place) (not (k.acked || k.fast)) e in
    ⊎_elim
    (λ (none : k.initial ≡ None). absurd (false≢true (sym (le-ltb 0 place (omega (arith, place-unknown k.initial (count_sent k.stream) v none bare))) ∙ parts.0)))
    (λ (there : (first : Seq) × (k.initial ≡ Some first)).
    let is : k.acked ≡ true = h there.0 there.1 (acked (not-none (length v.text) some)) in
    absurd (false≢true (sym (ap not (or_left k.acked k.fast is)) ∙ parts.1)))
    (known-or_not k.initial)))

module _ (isn : ℕ) (accepted : List ℕ) (small : isn < 2 ^ 32) (short : 2 + length accepted < 2 ^ 31) where
  sees-syn : (first : Seq) (d : Stream) (has_fin : Bool) (v : Content) → first.0 ≡ isn → count_sent d ≤ length accepted → has ack v.flags ≡ true
      → has rst v.flags ≡ false → v.ack ≡ number isn 1 → acks_syn_by (Some first) d has_fin v ≡ true
  sees-syn first d has_fin v same inside told plain is =
      let count = count_sent d in
      let near : position_of isn count (number isn 1) ≡ 1 = position_of_number isn count 1 small (omega arith) (omega (arith, inside, short)) in
      let there : position_of first.0 count v.ack ≡ 1 = ap (λ i. position_of i count v.ack) same ∙ ap (position_of isn count) is ∙ near in
      let carries : carries_ack v ≡ true = rw (told, plain) refl in
      let covers : covers_syn d has_fin 1 ≡ true = le-leb 1 (count_taken d has_fin) (omega arith) in
      ap (λ b. b && covers_syn d has_fin (position_of first.0 count v.ack)) carries ∙ ap (covers_syn d has_fin) there ∙ covers

  -- of a segment that is judged
  pub ack-judgement : (s : State) (src dst : List ℕ) (v : Content) (k : Known) (now : List ℕ) (closed : Bool) → IsValid v → s.config.isn.0 ≡ isn → IsAlone s now closed
      → (is_handshake s.phase ≡ true → s.sending.snd_nxt ≡ 1) → IsKnown isn accepted k → KnowsAck k s
      → KnowsAck (known_with k v) (after_judgement (judgement s src dst v) s src v)
  ack-judgement s src dst v k now closed valid same a one known h first e least =
      let d = k.stream in
      let there : k.initial ≡ Some first = still-known (leads_back k v) k.initial first e in
      ⊎_elim
      (λ (new : s.sending.snd_una < 1).
      let none : s.sending.snd_una ≡ 0 = omega (arith, new) in
      let leaves = leaves-judgement s src dst v now closed a none least in
      let acks = acks-judgement s v src dst leaves.handshake leaves.takes in
      let position : position_near s v.ack ≡ 1 = eqb-true (position_near s v.ack) s.sending.snd_nxt acks.is ∙ one leaves.handshake in
      let near : position_of isn 0 v.ack ≡ 1 =
      ap (λ i. position_of i 0 v.ack) (sym same) ∙ ap (λ una. position_of s.config.isn.0 una v.ack) (sym none) ∙ position in
      let number_is : first.0 ≡ isn = subst (λ (o : Option Seq). IfSome o (λ n. n.0 ≡ isn)) there known.initial in
      let sees = sees-syn first d (is_some k.fin) v number_is (part-most accepted d known.stream) acks.told acks.plain
      (first-acked isn v.ack small valid.ack near) in
      or_right k.acked (acks_syn k v) (ap (λ (o : Option Seq). acks_syn_by o d (is_some k.fin) v) there ∙ sees))
      (λ (had : 1 ≤ s.sending.snd_una). or_left k.acked (acks_syn k v) (h first there had))
      (cases_lt s.sending.snd_una 1)

  -- and of whatever comes
  pub ack-reading : (s : State) (src dst bytes : List ℕ) (r : Result Content DecodeError) (k : Known) (now : List ℕ) (closed : Bool) → AreBytes bytes
      → decode_answer src dst bytes ≡ r → s.config.isn.0 ≡ isn → IsAlone s now closed → (is_handshake s.phase ≡ true → s.sending.snd_nxt ≡ 1)
      → IsKnown isn accepted k → KnowsAck k s → KnowsAck (known_from k (taken_as bytes r)) (after_reading s src dst r)
  ack-reading s src dst bytes (Ok v) k now closed fits e same a one known h =
      ack-judgement s src dst v k now closed (decoded_valid src dst v bytes fits e) same a one known h
  ack-reading s src dst bytes (Err fault) k now closed fits e same a one known h = knows-came k (taken_as bytes (Err fault)) s h
