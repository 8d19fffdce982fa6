-- A PROBE that is granted goes out where nothing is in flight: so new text ends no further behind SND.UNA than the window, or one byte (RFC 9293,
-- 3.8.6 and 3.8.6.1).
use Rattle.tcp_replay.proofs.Words.{◌≡◌, ℕ, ◌+◌, ◌-◌, ◌<◌, ◌≤◌, ◌||◌, ◌==◌, ◌⊎◌, max, min, Bool, true, List, length, Option, Some, IfSome, Result, Ok, Err, Range}
use Rattle.tcp_replay.proofs.Words.{nat_lt, nat_le, if◌then◌else◌, ltb-true, leb-true, refl, sym, ◌∙◌, subst, arith, cond_both, ⊎_elim, inl, inr, and_parts, eqb-true, false≢true, or_cases, length-drop}
use Rattle.tcp_replay.proofs.Words.{State, Sending, Content, Due, Text, IsAlone, DecodeError, PartyState, Peer, count_unsent, is_probe_needed, needs_probe, sends_text}
use Rattle.tcp_replay.proofs.Words.{text_limit, with_acked, acks_more, after_ack, with_window, with_syn_acked, window_from, is_syn_received, is_listening, state_after}
use Rattle.tcp_replay.proofs.Words.{after_judgement, judgement, Judgement, Foreign, PeerResets, PeerOpens, PeerAccepts, Taken, TakenShut, after_peer_opens, after_peer_accepts, after_reading}
use Rattle.tcp_replay.proofs.Words.{after_own_syn, after_acked_text, after_window_and_blocks, after_its_ack, after_its_text, after_fin, after_taking, after_taking_shut, position_near}
use Rattle.tcp_replay.proofs.Words.{new_count, without_marks, after_mark}
use Rattle.tcp_halves.specs.Sent.{count_allowed, usable_window}
use Rattle.tcp_replay.proofs.Lists.{by_test}
use Rattle.tcp_replay.proofs.Lemmas.{KeptByCalls, KeptByDue, MayGoOut, again-kept, due-kept, ack_alone-kept, judged, going-on, own_fin-cases, window_and_blocks-cases, end-closed, end-listen}
use Rattle.tcp_replay.proofs.one_end.AloneCalls.{send-open}
use Rattle.tcp_replay.proofs.one_end.Judgements.{IsSyn}
use Rattle.tcp_judge.proofs.InFlight.{IsInFlight}

pub record IsProbing (d : Sending) (closing : Bool) : Type 0 where
  pub least : 1 ≤ d.snd_una
  -- all that was sent is acknowledged, or nothing is left to be sent
  pub last : (d.snd_una ≡ d.snd_nxt) ⊎ ((closing ≡ true) × (count_unsent d ≡ 0))

abbrev pub Probes : State → Type 0
Probes s = s.pending.probe ≡ true → IsProbing s.sending s.closing

-- SND.NXT stays
probing-moved : (d : Sending) (closing : Bool) (m : ℕ) (again : Option (Range ℕ)) → m ≡ d.snd_nxt → IsProbing d closing
    → IsProbing (record d { snd_nxt = m; resend = again }) closing
probing-moved d closing m again same h = record {
  least = h.least;
  last = ⊎_elim (λ (e : d.snd_una ≡ d.snd_nxt). inl (e ∙ sym same))
      (λ (e : (closing ≡ true) × (count_unsent d ≡ 0)). inr (e.0, omega (arith, e.1, same))) h.last;
}

-- ---- WHAT GOES OUT
probes-due : (s : State) (accepted : List ℕ) (closed : Bool) → IsAlone s accepted closed → IsInFlight s.sending → Probes s
    → KeptByDue s (λ due. Probes (state_after s due))
probes-due s accepted closed a flight h =
    let d = s.sending in
    let inside : (range : Range ℕ) → d.resend ≡ Some range → range.end ≤ d.snd_nxt = λ range is.
    subst (λ (o : Option (Range ℕ)). IfSome o (λ r. r.end ≤ d.snd_nxt)) is flight.range in
    record {
      resets = λ _ _ e. probing-moved d s.closing _ _ (omega arith) (h e);
      syn = λ _ e. probing-moved d s.closing _ _ (omega (arith, (h e).least, a.sends.order)) (h e);
      acks = λ _ e. probing-moved d s.closing _ _ (omega arith) (h e);
      again = λ _. again-kept d (text_limit s) (λ sent. Probes (state_after s (Text sent))) (record {
        text = λ range start count again ends _ _ e. probing-moved d s.closing _ _ (omega (arith, ends, inside range again.is)) (h e);
        fin = λ range again e. probing-moved d s.closing _ _ (omega (arith, again.inside, inside range again.is)) (h e);
      });
      new_text = λ _ _ never. absurd (cc);
      fin = λ _ shut last e. record { least = (h e).least; last = inr (shut, omega (arith, last)) };
    }

probes-emits : (s : State) (accepted : List ℕ) (closed : Bool) (due : Due) → IsAlone s accepted closed → IsInFlight s.sending → Probes s → MayGoOut s due
    → Probes (state_after s due)
probes-emits s accepted closed due a flight h (inl is) =
    let P : Due → Type 0 = λ due. Probes (state_after s due) in
    subst (λ (o : Option Due). IfSome o P) is (due-kept s P (probes-due s accepted closed a flight h))
probes-emits s accepted closed due a flight h (inr is) =
    let P : Due → Type 0 = λ due. Probes (state_after s due) in
    subst (λ (o : Option Due). IfSome o P) is (ack_alone-kept s P (probes-due s accepted closed a flight h))

-- ---- CALLS AND TIMERS
probes-timeout : (s : State) (accepted : List ℕ) (closed : Bool) → IsAlone s accepted closed → Probes s → s.pending.probe || needs_probe s ≡ true
    → IsProbing s.sending s.closing
probes-timeout s accepted closed a h e =
    ⊎_elim h
    (λ (needs : needs_probe s ≡ true).
    let parts = and_parts (sends_text s.phase) (is_probe_needed s.sending) needs in
    record {
      least = (going-on s accepted closed parts.0 a).0;
      last = inl (eqb-true s.sending.snd_una s.sending.snd_nxt (and_parts (s.sending.snd_una == s.sending.snd_nxt) _ parts.1).0);
    })
    (or_cases s.pending.probe (needs_probe s) e)

pub probes-calls : (peer : Peer) (p : PartyState) → IsAlone p.endpoint p.accepted p.closed → IsInFlight p.endpoint.sending → Probes p.endpoint
    → KeptByCalls peer p (λ p'. Probes p'.endpoint)
unfolding without_marks
probes-calls peer p a flight h =
    let s = p.endpoint in
    let d = s.sending in
    let same : s.pending.probe ≡ true → IsProbing (record d { resend = d.resend }) s.closing = h in
    record {
      same = h;
      connects = λ can e. absurd (omega (arith, (h e).least, a.sends.order, (end-closed s can.shut can.ending a.progress).snd_nxt_is));
      listens = λ can e. h e;
      sends = λ text _ open_ e. let i = h e in
          record {
            least = i.least;
            last = ⊎_elim (λ (all : d.snd_una ≡ d.snd_nxt). inl all)
                (λ (shut : (s.closing ≡ true) × (count_unsent d ≡ 0)). absurd (false≢true (sym (send-open s text open_).1 ∙ shut.0))) i.last;
          };
      reads = λ _ _ e. h e;
      withdraws = λ never. absurd (cc);
      closes = λ _ _ e. let i = h e in
          record {
            least = i.least;
            last = ⊎_elim (λ (all : d.snd_una ≡ d.snd_nxt). inl all) (λ (shut : (s.closing ≡ true) × (count_unsent d ≡ 0)). inr (refl, shut.1)) i.last;
          };
      aborts = λ never. absurd (cc);
      acknowledges = h;
      resends = λ _ e. let i = probes-timeout s p.accepted p.closed a h e in record { least = i.least; last = i.last };
      probes = λ e. probes-timeout s p.accepted p.closed a h e;
      fills = λ _ _ _ e. let i = h e in record { least = i.least; last = i.last };
      ends = λ _ never. absurd (cc);
      resends-between = λ _ _ _ e. let i = h e in record { least = i.least; last = i.last };
      emits = λ due may _. probes-emits s p.accepted p.closed due a flight h may;
    }

-- ---- WHAT ARRIVES
probing-acked : (d : Sending) (closing : Bool) (a : ℕ) → IsProbing d closing → IsProbing (after_ack d a) closing
unfolding after_ack
probing-acked d closing a h =
    by_test (acks_more d a) (λ b. IsProbing (if b then with_acked d a else d) closing)
    (λ e.
    let parts = and_parts (nat_lt d.snd_una a) (nat_le a d.snd_nxt) e in
    let more : d.snd_una < a = ltb-true d.snd_una a parts.0 in
    let most : a ≤ d.snd_nxt = leb-true a d.snd_nxt parts.1 in
    record {
      least = omega (arith, more);
      last = ⊎_elim (λ (all : d.snd_una ≡ d.snd_nxt). absurd (omega (arith, all, more, most)))
          (λ (shut : (closing ≡ true) × (count_unsent d ≡ 0)).
          inr (shut.0, omega (arith, shut.1, length-drop (min (a - (1 + d.released)) (length d.queue.bytes)) d.queue.bytes))) h.last;
    })
    (λ _. h)

probing-own_syn : (s : State) (v : Content) → s.sending.snd_una ≤ s.sending.snd_nxt → IsProbing s.sending s.closing
    → IsProbing (after_own_syn s v).sending s.closing
unfolding after_own_syn
probing-own_syn s v order h =
    let d = s.sending in
    cond_both (is_syn_received s.phase) (with_window (with_syn_acked d) v.seq v.ack (window_from s.link v.window)) d (λ (x : Sending). IsProbing x s.closing)
    (λ _. record { least = omega (arith, h.least, order); last = inl refl }) (λ _. h)

probing-news : (s : State) (v : Content) → IsProbing s.sending s.closing → IsProbing (after_window_and_blocks s v).sending s.closing
unfolding after_mark
probing-news s v h =
    window_and_blocks-cases (λ (d : Sending). IsProbing d s.closing) s v (λ d k. record { least = k.least; last = k.last })
    (λ d left right e k. record { least = k.least; last = k.last }) h

probes-news : (s : State) (v : Content) → s.sending.snd_una ≤ s.sending.snd_nxt → Probes s
    → Probes (after_window_and_blocks (after_acked_text (after_own_syn s v) v) v)
unfolding after_window_and_blocks after_acked_text after_own_syn
probes-news s v order h e =
    let first = after_own_syn s v in
    probing-news (after_acked_text first v) v (probing-acked first.sending s.closing (position_near first v.ack) (probing-own_syn s v order (h e)))

probes-its_ack : (s : State) (v : Content) → s.sending.snd_una ≤ s.sending.snd_nxt → Probes s → Probes (after_its_ack s v)
unfolding after_its_ack
probes-its_ack s v order h =
    let first = after_own_syn s v in
    let second = after_acked_text first v in
    let third = after_window_and_blocks second v in
    let news : third.pending.probe ≡ true → IsProbing third.sending third.closing = probes-news s v order h in
    own_fin-cases third Probes (λ _ _ never. absurd (cc)) (λ _ _ e. let i = news e in record { least = i.least; last = i.last }) (λ _ e. news e)

probes-fin : (s : State) (v : Content) → Probes s → Probes (after_fin (after_its_text s v) v)
unfolding after_fin after_its_text
probes-fin s v h e = h e

probes-taking : (s : State) (v : Content) → s.sending.snd_una ≤ s.sending.snd_nxt → Probes s → Probes (after_taking s v)
unfolding after_taking
probes-taking s v order h = probes-fin (after_its_ack s v) v (probes-its_ack s v order h)

probes-shut : (s : State) (v : Content) → s.sending.snd_una ≤ s.sending.snd_nxt → Probes s → Probes (after_taking_shut s v)
unfolding after_taking_shut
probes-shut s v order h e = probes-its_ack s v order h e

probes-opens : (s : State) (src : List ℕ) (v : Content) (accepted : List ℕ) (closed : Bool) → is_listening s.phase ≡ true → IsAlone s accepted closed → Probes s
    → Probes (after_peer_opens s src v)
unfolding after_peer_opens
probes-opens s src v accepted closed listening a h e =
    absurd (omega (arith, (h e).least, a.sends.order, (end-listen s listening a.progress).1.snd_nxt_is))

probes-accepts : (s : State) (v : Content) → s.sending.snd_una ≤ s.sending.snd_nxt → Probes s → Probes (after_peer_accepts s v)
unfolding after_peer_accepts
probes-accepts s v order h e = let i = h e in record { least = omega (arith, i.least, order); last = inl refl }

pub probes-judgement : (s : State) (src dst : List ℕ) (v : Content) (accepted : List ℕ) (closed : Bool) → IsAlone s accepted closed → Probes s
    → Probes (after_judgement (judgement s src dst v) s src v)
probes-judgement s src dst v accepted closed a h =
    let J : Judgement → Type 0 = λ j. Probes (after_judgement j s src v) in
    let same : J Foreign = h in
    let gone : J PeerResets = λ never. absurd (cc) in
    let opens : is_listening s.phase ≡ true → IsSyn v → J PeerOpens = λ listening _. probes-opens s src v accepted closed listening a h in
    let accepts : J PeerAccepts = probes-accepts s v a.sends.order h in
    let taken : J Taken = probes-taking s v a.sends.order h in
    let shut : J TakenShut = probes-shut s v a.sends.order h in
    judged s v J (assumption) src dst

pub probes-reading : (s : State) (src dst : List ℕ) (r : Result Content DecodeError) (accepted : List ℕ) (closed : Bool) → IsAlone s accepted closed → Probes s
    → Probes (after_reading s src dst r)
probes-reading s src dst (Ok v) accepted closed a h = probes-judgement s src dst v accepted closed a h
probes-reading s src dst (Err fault) accepted closed a h = h

-- ---- NEW TEXT ends within the window, or is a probe
allowed-most : (d : Sending) (probe : Bool) (k : ℕ) → 0 < k → k ≤ count_unsent d → k ≤ count_allowed d probe → d.snd_una ≤ d.snd_nxt
    → (probe ≡ true → (d.snd_una ≡ d.snd_nxt) ⊎ (count_unsent d ≡ 0)) → d.snd_nxt + k ≤ d.snd_una + max d.snd_wnd 1
allowed-most d probe k some unsent allowed order last =
    by_test (usable_window d == 0) (λ b. k ≤ (if b then (if probe then 1 else 0) else usable_window d) → d.snd_nxt + k ≤ d.snd_una + max d.snd_wnd 1)
    (λ _ most. by_test probe (λ b. (b ≡ true → (d.snd_una ≡ d.snd_nxt) ⊎ (count_unsent d ≡ 0)) → k ≤ (if b then 1 else 0) → d.snd_nxt + k ≤ d.snd_una + max d.snd_wnd 1)
    (λ _ at one. ⊎_elim (λ (all : d.snd_una ≡ d.snd_nxt). omega (arith, all, one)) (λ (none : count_unsent d ≡ 0). absurd (omega (arith, none, unsent, some))) (at refl))
    (λ _ _ none. absurd (omega (arith, none, some))) last most)
    (λ _ most. omega (arith, most, some, order)) allowed

pub new-most : (s : State) → Probes s → s.sending.snd_una ≤ s.sending.snd_nxt → 0 < new_count s.sending (text_limit s) s.pending.probe
    → s.sending.snd_nxt + new_count s.sending (text_limit s) s.pending.probe ≤ s.sending.snd_una + max s.sending.snd_wnd 1
new-most s h order some =
    let d = s.sending in
    let k = new_count d (text_limit s) s.pending.probe in
    allowed-most d s.pending.probe k some (omega arith) (omega arith) order
    (λ e. ⊎_elim (λ (all : d.snd_una ≡ d.snd_nxt). inl all) (λ (shut : (s.closing ≡ true) × (count_unsent d ≡ 0)). inr shut.1) (h e).last)
