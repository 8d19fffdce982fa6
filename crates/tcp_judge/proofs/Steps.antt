-- EACH EVENT, by what it keeps of what an end has and of what a judge knows.
use Rattle.tcp_replay.proofs.Words.{◌≡◌, ℕ, ◌≤◌, max, Bool, true, List, Option, None, IfSome, Result, Ok, Err}
use Rattle.tcp_replay.proofs.Words.{refl, sym, ◌∙◌, ap, subst, arith}
use Rattle.tcp_replay.proofs.Words.{Content, DecodeError, decode_answer, State, Due}
use Rattle.tcp_replay.proofs.Words.{IsAlone, end_of, is_handshake}
use Rattle.tcp_replay.proofs.Words.{SoloState, SoloContent, HasRanges, end_after}
use Rattle.tcp_replay.proofs.Words.{after_reading, state_after, WaitingReset}
use Rattle.tcp_replay.proofs.Lemmas.{MayGoOut}
use Rattle.tcp_replay.proofs.one_end.AloneCalls.{IsAloneIn}
use Rattle.tcp_replay.proofs.one_end.SoloRuns.{party_in, solo-step, read-arrival}
use Rattle.tcp_judge.specs.Known.{Known}
use Rattle.tcp_judge.proofs.InFlight.{IsInFlight, flight-calls, flight-judgement}
use Rattle.tcp_judge.proofs.Acked.{Waits, waits-calls, waits-judgement, una-calls, KnowsAck}
use Rattle.tcp_judge.proofs.Resets.{IsOfHandshake, IsQuiet, none-waits, quiet-calls, quiet-reading}
use Rattle.tcp_judge.proofs.Answering.{IsOwn}
use Rattle.tcp_judge.proofs.Windows.{IsAllowed, allowed-calls}
use Rattle.tcp_judge.proofs.Probing.{Probes, probes-calls, probes-reading}
use Rattle.tcp_judge.proofs.Edges.{KnowsEdge}

-- the range and the marks at each event
pub flight-reading : (s : State) (accepted : List ℕ) (closed : Bool) (src dst : List ℕ) (r : Result Content DecodeError) → IsAlone s accepted closed
    → IsInFlight s.sending → IsInFlight (after_reading s src dst r).sending
flight-reading s accepted closed src dst (Ok v) a h = flight-judgement s src dst v accepted closed a h
flight-reading s accepted closed src dst (Err fault) a h = h

pub flight-step : (x : SoloState) (e : SoloContent) → HasRanges e → IsAloneIn (party_in x) → IsInFlight x.endpoint.sending
    → IsInFlight (end_after x.endpoint e).sending
flight-step x e fits alone h =
    solo-step x (λ p. IsInFlight p.endpoint.sending) alone (λ peer _. flight-calls peer (party_in x) alone h) e fits
    (λ src dst bytes is. subst (λ (s : State). IsInFlight s.sending) (sym (read-arrival x.endpoint src dst bytes (decode_answer src dst bytes) refl))
    (flight-reading x.endpoint x.accepted x.closed src dst (decode_answer src dst bytes) alone h))

-- a probe
pub probes-step : (x : SoloState) (e : SoloContent) → HasRanges e → IsAloneIn (party_in x) → IsInFlight x.endpoint.sending → Probes x.endpoint
    → Probes (end_after x.endpoint e)
probes-step x e fits alone flight h =
    solo-step x (λ p. Probes p.endpoint) alone (λ peer _. probes-calls peer (party_in x) alone flight h) e fits
    (λ src dst bytes is. subst Probes (sym (read-arrival x.endpoint src dst bytes (decode_answer src dst bytes) refl))
    (probes-reading x.endpoint src dst (decode_answer src dst bytes) x.accepted x.closed alone h))

-- the handshake
pub waits-reading : (s : State) (src dst : List ℕ) (r : Result Content DecodeError) → Waits s → Waits (after_reading s src dst r)
waits-reading s src dst (Ok v) h = waits-judgement s src dst v h
waits-reading s src dst (Err fault) h = h

pub waits-step : (x : SoloState) (e : SoloContent) → HasRanges e → IsAloneIn (party_in x) → Waits x.endpoint → Waits (end_after x.endpoint e)
waits-step x e fits alone h =
    solo-step x (λ p. Waits p.endpoint) alone (λ peer _. waits-calls peer (party_in x) h) e fits
    (λ src dst bytes is. subst Waits (sym (read-arrival x.endpoint src dst bytes (decode_answer src dst bytes) refl))
    (waits-reading x.endpoint src dst (decode_answer src dst bytes) h))

-- a call, a timer or an emission acknowledges nothing
pub una-step : (x : SoloState) (e : SoloContent) → HasRanges e → IsOwn e → IsAloneIn (party_in x) → (end_after x.endpoint e).sending.snd_una ≤ x.endpoint.sending.snd_una
una-step x e fits own alone =
    solo-step x (λ p. p.endpoint.sending.snd_una ≤ x.endpoint.sending.snd_una) alone (λ peer _. una-calls peer (party_in x)) e fits
    (λ src dst bytes is. absurd (subst IsOwn is own))

pub knows-fewer : (k : Known) (s s' : State) → s'.sending.snd_una ≤ s.sending.snd_una → KnowsAck k s → KnowsAck k s'
knows-fewer k s s' fewer h first e least = h first e (omega (arith, fewer, least))

-- what the windows allow, at all that doesn't arrive
pub edge-step : (x : SoloState) (e : SoloContent) (k : Known) → HasRanges e → IsOwn e → IsAloneIn (party_in x) → KnowsEdge k x.endpoint → KnowsEdge k (end_after x.endpoint e)
edge-step x e k fits own alone h =
    let fewer = una-step x e fits own alone in
    record {
      allowed = solo-step x (λ p. IsAllowed k.edge p.endpoint) alone (λ peer _. allowed-calls peer (party_in x) k.edge h.allowed) e fits
          (λ src dst bytes is. absurd (subst IsOwn is own));
      acked = λ first is. omega (arith, fewer, h.acked first is);
      sent = h.sent;
    }

-- the end of a connection
pub quiet-step : (x : SoloState) (e : SoloContent) → HasRanges e → IsAloneIn (party_in x) → 1 ≤ x.endpoint.sending.snd_nxt
    → (is_handshake x.endpoint.phase ≡ true → (x.endpoint.sending.snd_nxt ≡ 1) × (x.endpoint.sending.snd_una ≡ 0)) → IsQuiet x.endpoint → IsQuiet (end_after x.endpoint e)
quiet-step x e fits alone sent hand h =
    solo-step x (λ p. IsQuiet p.endpoint) alone (λ peer _. quiet-calls peer (party_in x) alone sent h) e fits
    (λ src dst bytes is. subst IsQuiet (sym (read-arrival x.endpoint src dst bytes (decode_answer src dst bytes) refl))
    (quiet-reading x.endpoint src dst (decode_answer src dst bytes) x.accepted x.closed alone sent hand h))

-- none waits once something went out
pub quiet-out : (s s' : State) (due : Due) → s' ≡ state_after s due → MayGoOut s due → IsQuiet s'
quiet-out s s' due e may =
    subst IsQuiet (sym e) (λ _. subst (λ (o : Option WaitingReset). IfSome o (IsOfHandshake (max s.sending.snd_nxt (end_of s.sending due)) s.config.isn.0))
    (sym (none-waits s due may)) tt)

pub waits-out : (s s' : State) (due : Due) → s' ≡ state_after s due → MayGoOut s due → s'.pending.reset ≡ None
waits-out s s' due e may = ap (λ (x : State). x.pending.reset) e ∙ none-waits s due may
