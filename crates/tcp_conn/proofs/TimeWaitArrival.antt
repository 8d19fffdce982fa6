-- An arrival at an end in TIME-WAIT: the judgement and its effect depend only on the TIME-WAIT record.
use Rattle.std.proofs.Common.{◌≡◌, ℕ, ◌<◌, ◌^◌, List, refl, sym, ap, subst, ◌∙◌}
use Rattle.std.specs.Prelude.{Bool, true, false, ◌||◌, ◌&&◌, ◌==◌, not, if◌then◌else◌, bytes_eq, Result, Ok, Err}
use Rattle.tcp_wire.specs.Flags.{ack, has, rst, syn}
use Rattle.tcp_wire.specs.Position.{is_before}
use Rattle.tcp_wire.specs.Wire.{Content}
use Rattle.tcp_wire.specs.declared.fault.DecodeError.{DecodeError}
use Rattle.tcp_conn.specs.declared.arrive.judgement.Judgement.{Judgement}
use Rattle.tcp_conn.specs.declared.arrive.judgement.Judgement.TheVariants as judgements
use Rattle.tcp_conn.specs.declared.outcome.Arrival.{Arrival}
use Rattle.tcp_conn.specs.declared.outcome.Arrival.TheVariants.{Malformed}
use Rattle.tcp_conn.specs.declared.phase.Ending.{Ending}
use Rattle.tcp_conn.specs.declared.phase.Ending.TheVariants as endings
use Rattle.tcp_conn.specs.declared.phase.Phase.TheVariants as phases
use Rattle.tcp_halves.specs.Acceptable.{is_acceptable}
use Rattle.tcp_conn.specs.Arrival.{after_judgement, after_reading, answer_to_reading, reset_of_stray}
use Rattle.tcp_conn.specs.Judgement.{acceptable_judgement, ack_judgement, answer_of, closed_judgement, count_numbers, is_foreign, judgement, judgement_after_syn, listen_judgement, phase_judgement, syn_sent_judgement, unacceptable_judgement}
use Rattle.tcp_conn.specs.Phase.{has_peer, is_closed, is_listening, is_syn_sent}
use Rattle.tcp_conn.specs.TimeWait.{TimeWaitRecord, as_state, time_wait_after_judgement, time_wait_of, time_wait_phase}
use Rattle.tcp_conn.specs.State.{State}
use Rattle.tcp_conn.proofs.TimeWaits.{kept, unsent-number}
use Rattle.tcp_conn.proofs.InTimeWait.{Goes, IsInTimeWait, ends, has_pending, in-time_wait-of, recorded, takes, takes-shut}

-- THE JUDGEMENT, from the record
ack-judged : TimeWaitRecord → Content → Judgement → Judgement
ack-judged r v good = if is_before r.snd_nxt v.ack then judgements.AcksUnsent else good

acceptable-judged : TimeWaitRecord → Content → Judgement
acceptable-judged r v =
    if has rst v.flags then (if v.seq == r.rcv_nxt then judgements.PeerResets else judgements.ResetElsewhere)
    else (if has syn v.flags then judgements.SynInWindow
    else (if not (has ack v.flags) then judgements.NoAck
    else ack-judged r v judgements.Taken))

unacceptable-judged : TimeWaitRecord → Content → Judgement
unacceptable-judged r v =
    if has rst v.flags then judgements.ResetIgnored
    else (if (r.window == 0) && (has ack v.flags && not (has syn v.flags)) then ack-judged r v judgements.TakenShut
    else judgements.Unacceptable)

after_syn-judged : TimeWaitRecord → Content → Judgement
after_syn-judged r v = if is_acceptable r.rcv_nxt r.window v.seq (count_numbers v) then acceptable-judged r v else unacceptable-judged r v

abbrev phase-judged : Ending → TimeWaitRecord → Content → Judgement
phase-judged endings.NotEnded r v = after_syn-judged r v
phase-judged other r v = closed_judgement v

is-other : TimeWaitRecord → List ℕ → List ℕ → Content → Bool
is-other r src dst v =
    (not (bytes_eq dst r.addr.0) || not (v.dst_port == r.port))
    || (has_peer (time_wait_phase r.ending) && (not (bytes_eq src r.peer.addr.0) || not (v.src_port == r.peer.port)))

pub judged : TimeWaitRecord → List ℕ → List ℕ → Content → Judgement
judged r src dst v = if is-other r src dst v then judgements.Foreign else phase-judged r.ending r v

ack-is : (s : State) (v : Content) (good refused : Judgement) → IsInTimeWait s → s.phase ≡ phases.TimeWait → ack_judgement s v good refused ≡ ack-judged (time_wait_of s) v good
unfolding ack_judgement ack-judged
ack-is s v good refused h waits =
    rw (waits, h.acked, unsent-number s.config.isn.0 s.sending.snd_nxt v.ack h.isn) refl

after_syn-is : (s : State) (v : Content) → IsInTimeWait s → s.phase ≡ phases.TimeWait → judgement_after_syn s v ≡ after_syn-judged (time_wait_of s) v
unfolding judgement_after_syn acceptable_judgement unacceptable_judgement after_syn-judged acceptable-judged unacceptable-judged
after_syn-is s v h waits =
    rw (ack-is s v judgements.Taken judgements.HandshakeRefused h waits, ack-is s v judgements.TakenShut judgements.HandshakeRefusedShut h waits) refl

phase-is : (s : State) (v : Content) (ending : Ending) → s.phase ≡ time_wait_phase ending → IsInTimeWait s → phase_judgement s v ≡ phase-judged ending (time_wait_of s) v
unfolding phase_judgement
phase-is s v endings.NotEnded e h = ap (λ phase. if is_closed phase then closed_judgement v else (if is_listening phase then listen_judgement v else (if is_syn_sent phase then syn_sent_judgement s v else judgement_after_syn s v))) e ∙ after_syn-is s v h e
phase-is s v endings.Orderly e h = rw e refl
phase-is s v endings.Reset e h = rw e refl
phase-is s v endings.Aborted e h = rw e refl

judgement-is : (s : State) (src dst : List ℕ) (v : Content) → IsInTimeWait s → judgement s src dst v ≡ judged (time_wait_of s) src dst v
unfolding judgement is_foreign judged is-other
judgement-is s src dst v h =
    rw (phase-is s v s.ending h.phase h, h.phase) refl

-- THE EFFECT OF A JUDGEMENT on the record
abbrev Follows : State → List ℕ → Content → Judgement → Type 0
Follows s src v j = Goes (after_judgement j s src v) (time_wait_after_judgement j (time_wait_of s) src v)

pub stays : (s : State) → IsInTimeWait s → Goes s (time_wait_of s)
stays s h = record { rests = refl; in_time_wait = h }

follows-if : (s : State) (src : List ℕ) (v : Content) (b : Bool) (x y : Judgement) → Follows s src v x → Follows s src v y → Follows s src v (if b then x else y)
follows-if s src v true x y hx hy = hx
follows-if s src v false x y hx hy = hy

ack-follows : (s : State) (src : List ℕ) (v : Content) (good : Judgement) → IsInTimeWait s → Follows s src v good → Follows s src v (ack-judged (time_wait_of s) v good)
unfolding ack-judged
ack-follows s src v good h follows = follows-if s src v (is_before (time_wait_of s).snd_nxt v.ack) judgements.AcksUnsent good (has_pending s h) follows

acceptable-follows : (s : State) (src : List ℕ) (v : Content) → IsInTimeWait s → s.phase ≡ phases.TimeWait → Follows s src v (acceptable-judged (time_wait_of s) v)
unfolding acceptable-judged
acceptable-follows s src v h waits =
    follows-if s src v (has rst v.flags) (if v.seq == s.receiving.rcv_nxt then judgements.PeerResets else judgements.ResetElsewhere) _
    (follows-if s src v (v.seq == s.receiving.rcv_nxt) judgements.PeerResets judgements.ResetElsewhere (ends s endings.Reset h refl) (has_pending s h))
    (follows-if s src v (has syn v.flags) judgements.SynInWindow (if not (has ack v.flags) then judgements.NoAck else ack-judged (time_wait_of s) v judgements.Taken) (has_pending s h)
    (follows-if s src v (not (has ack v.flags)) judgements.NoAck (ack-judged (time_wait_of s) v judgements.Taken) (stays s h)
    (ack-follows s src v judgements.Taken h (takes s v h waits))))

unacceptable-follows : (s : State) (src : List ℕ) (v : Content) → IsInTimeWait s → s.phase ≡ phases.TimeWait → Follows s src v (unacceptable-judged (time_wait_of s) v)
unfolding unacceptable-judged
unacceptable-follows s src v h waits =
    follows-if s src v (has rst v.flags) judgements.ResetIgnored _ (stays s h)
    (follows-if s src v (((time_wait_of s).window == 0) && (has ack v.flags && not (has syn v.flags))) (ack-judged (time_wait_of s) v judgements.TakenShut) judgements.Unacceptable
    (ack-follows s src v judgements.TakenShut h (takes-shut s v h waits)) (has_pending s h))

phase-follows : (s : State) (src : List ℕ) (v : Content) (ending : Ending) → s.phase ≡ time_wait_phase ending → IsInTimeWait s → Follows s src v (phase-judged ending (time_wait_of s) v)
unfolding after_syn-judged closed_judgement
phase-follows s src v endings.NotEnded e h =
    follows-if s src v (is_acceptable s.receiving.rcv_nxt (time_wait_of s).window v.seq (count_numbers v)) (acceptable-judged (time_wait_of s) v) (unacceptable-judged (time_wait_of s) v)
    (acceptable-follows s src v h e) (unacceptable-follows s src v h e)
phase-follows s src v endings.Orderly e h = follows-if s src v (has rst v.flags) judgements.ResetIgnored judgements.Stray (stays s h) (recorded s (reset_of_stray src v) h)
phase-follows s src v endings.Reset e h = follows-if s src v (has rst v.flags) judgements.ResetIgnored judgements.Stray (stays s h) (recorded s (reset_of_stray src v) h)
phase-follows s src v endings.Aborted e h = follows-if s src v (has rst v.flags) judgements.ResetIgnored judgements.Stray (stays s h) (recorded s (reset_of_stray src v) h)

judged-follows : (s : State) (src dst : List ℕ) (v : Content) → IsInTimeWait s → Follows s src v (judged (time_wait_of s) src dst v)
unfolding judged
judged-follows s src dst v h =
    follows-if s src v (is-other (time_wait_of s) src dst v) judgements.Foreign (phase-judged s.ending (time_wait_of s) v) (stays s h) (phase-follows s src v s.ending h.phase h)

-- AN ARRIVAL
abbrev pub reading-answer : TimeWaitRecord → List ℕ → List ℕ → Result Content DecodeError → Arrival
reading-answer r src dst (Ok v) = answer_of (judged r src dst v)
reading-answer r src dst (Err fault) = Malformed fault

abbrev pub reading-effect : TimeWaitRecord → List ℕ → List ℕ → Result Content DecodeError → TimeWaitRecord
reading-effect r src dst (Ok v) = time_wait_after_judgement (judged r src dst v) r src v
reading-effect r src dst (Err fault) = r

pub arrival-is : (s : State) (src dst : List ℕ) (reading : Result Content DecodeError) → IsInTimeWait s
    → answer_to_reading s src dst reading ≡ reading-answer (time_wait_of s) src dst reading
arrival-is s src dst (Ok v) h = ap answer_of (judgement-is s src dst v h)
arrival-is s src dst (Err fault) h = refl

pub arrival-goes : (s : State) (src dst : List ℕ) (reading : Result Content DecodeError) → IsInTimeWait s
    → Goes (after_reading s src dst reading) (reading-effect (time_wait_of s) src dst reading)
arrival-goes s src dst (Ok v) h =
    subst (λ j. Goes (after_judgement j s src v) (time_wait_after_judgement (judged (time_wait_of s) src dst v) (time_wait_of s) src v)) (sym (judgement-is s src dst v h)) (judged-follows s src dst v h)
arrival-goes s src dst (Err fault) h = stays s h

-- and of the end of a record
pub followed : (r : TimeWaitRecord) (src dst : List ℕ) (v : Content) → r.snd_nxt < 2 ^ 32
    → time_wait_after_judgement (judgement (as_state r) src dst v) r src v ≡ time_wait_of (after_judgement (judgement (as_state r) src dst v) (as_state r) src v)
followed r src dst v fits =
    let s : State = as_state r in
    let h : IsInTimeWait s = in-time_wait-of r fits in
    let j : Judgement = judged (time_wait_of s) src dst v in
    ap (λ j'. time_wait_after_judgement j' r src v) (judgement-is s src dst v h)
    ∙ ap (λ r'. time_wait_after_judgement j r' src v) (sym (kept r fits))
    ∙ sym (arrival-goes s src dst (Ok v) h).rests
