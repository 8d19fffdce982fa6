-- HOW FAR AN END HAS SENT: SND.NXT moves on with what goes out, and from 0 to 1 with an opening; and what goes out begins at SND.NXT or
-- before it (RFC 9293, 3.3.1 and 3.4).
use Rattle.tcp_replay.proofs.Words.{inl, inr, ◌⊎◌, ◌≡◌, ℕ, ◌+◌, ◌<◌, ◌≤◌, max, Bool, true, List, length, Option, Some, None, IfSome, subst, refl, sym, ◌∙◌, arith}
use Rattle.tcp_replay.proofs.Words.{cond_both, length-take, length-drop, take, drop, Range}
use Rattle.tcp_replay.proofs.Words.{State, Sending, Content, Due, NewText, Text, Resend, IsAlone, CallError, Result, Ok, Err, DecodeError}
use Rattle.tcp_replay.proofs.Words.{start_of, end_of, text_of, is_fin, place_of, text_limit, new_count, count_unsent, sends_text}
use Rattle.tcp_replay.proofs.Words.{after_connect, after_listen, after_send, after_receive, after_close, after_abort, after_acknowledge, after_closing, with_closing}
use Rattle.tcp_replay.proofs.Words.{after_retransmit, after_reorder, after_time_wait, after_resend, after_resend_first, after_discarding, after_orderly_end, Aborted}
use Rattle.tcp_replay.proofs.Words.{opening_refusal, send_refusal, receive_refusal, close_refusal, open_refusal, state_unless, with_abort, with_connection, with_bytes_received, is_unanswered}
use Rattle.tcp_replay.proofs.Words.{with_text, with_all_resent, with_resent, after_gaps, last_mark_end, resends_between, sends_again, is_time_wait, if◌then◌else◌}
use Rattle.tcp_replay.proofs.Words.{after_own_syn, after_acked_text, after_window_and_blocks, after_own_fin, after_its_ack, after_its_text, after_fin, after_ack, with_acked, acks_more}
use Rattle.tcp_replay.proofs.Words.{after_taking, after_taking_shut, after_peer_opens, after_peer_accepts, after_judgement, Judgement, judgement, after_reading}
use Rattle.tcp_replay.proofs.Words.{decode_answer, with_window, with_syn_acked, window_from, is_syn_received, position_near}
use Rattle.tcp_replay.proofs.Words.{Foreign, PeerOpens, PeerAccepts, Taken, TakenShut, end_after, SoloContent, is_listening}
use Rattle.tcp_replay.specs.SoloEvents.{Abort, Acknowledge, Arrive, Close, Connect, Emit, EmitAcknowledgement, Listen, Receive, ResendFirst, Send, Timer}
use Rattle.tcp_replay.specs.SoloEvents as events
use Rattle.tcp_conn.specs.declared.phase.Timer.TheVariants.{Retransmit, Reorder, TimeWait}
use Rattle.tcp_conn.specs.declared.phase.Phase.TheVariants as phases
use Rattle.tcp_replay.proofs.Lists.{one_if}
use Rattle.tcp_replay.proofs.Lemmas.{KeptByDue, again-kept, going-on, judged, own_fin-cases, window_and_blocks-cases, end-listen, end-closed}
use Rattle.tcp_replay.proofs.one_end.SoloRuns.{read-arrival}
use Rattle.tcp_replay.proofs.pair.Calls.{unless-kept, can-open}
use Rattle.tcp_replay.proofs.one_end.Judgements.{IsSyn}
use Rattle.tcp_judge.proofs.InFlight.{IsInFlight}
use Rattle.tcp_judge.proofs.Probing.{Probes, new-most}

-- ---- WHERE WHAT GOES OUT BEGINS
pub record Reaches (d : Sending) (due : Due) : Type 0 where
  pub start : start_of d due ≤ d.snd_nxt
  -- it has text only where the SYN is acknowledged
  pub acked : 0 < length (text_of d due) → 1 ≤ d.snd_una
  -- and ends where something did before, or within the window (RFC 9293, 3.8.6)
  pub within : 0 < length (text_of d due)
      → (start_of d due + length (text_of d due) ≤ d.snd_nxt) ⊎ (start_of d due + length (text_of d due) ≤ d.snd_una + max d.snd_wnd 1)
  -- and what it adds to what went is its text and its FIN
  pub end : 1 ≤ d.snd_nxt → max d.snd_nxt (end_of d due) ≡ max d.snd_nxt (start_of d due + length (text_of d due) + one_if (is_fin due))

reaches-again : (d : Sending) (start count : ℕ) → 1 ≤ d.snd_una → start + count ≤ d.snd_nxt → Reaches d (Text (Resend start count))
reaches-again d start count acked before =
    let few = length-take count (drop (place_of d start) d.queue.bytes) in
    record { start = omega (arith, before); acked = λ _. acked; within = λ _. inl (omega (arith, before, few)); end = λ _. omega (arith, before, few) }

reaches-new : (d : Sending) (k : ℕ) → 1 ≤ d.snd_una → k ≤ count_unsent d → (0 < k → d.snd_nxt + k ≤ d.snd_una + max d.snd_wnd 1)
    → Reaches d (Text (NewText d.snd_nxt k))
reaches-new d k acked unsent most =
    let from = place_of d d.snd_nxt in
    let whole : length (take k (drop from d.queue.bytes)) ≡ k
    = omega (arith, unsent, length-take k (drop from d.queue.bytes), length-drop from d.queue.bytes) in
    record {
      start = omega arith;
      acked = λ _. acked;
      within = λ some. inr (omega (arith, whole, most (omega (arith, some, whole))));
      end = λ _. omega (arith, whole);
    }

pub reaches-due : (s : State) (accepted : List ℕ) (closed : Bool) → IsAlone s accepted closed → IsInFlight s.sending → Probes s
    → KeptByDue s (Reaches s.sending)
reaches-due s accepted closed a h probes =
    let d = s.sending in
    let inside : (range : Range ℕ) → d.resend ≡ Some range → range.end ≤ d.snd_nxt = λ range is.
    subst (λ (o : Option (Range ℕ)). IfSome o (λ r. r.end ≤ d.snd_nxt)) is h.range in
    let acked : sends_text s.phase ≡ true → 1 ≤ d.snd_una = λ e. (going-on s accepted closed e a).0 in
    record {
      resets = λ _ _. record { start = omega arith; acked = λ never. absurd (omega (arith, never)); within = λ never. absurd (omega (arith, never)); end = λ sent. omega (arith, sent) };
      syn = λ _. record { start = omega arith; acked = λ never. absurd (omega (arith, never)); within = λ never. absurd (omega (arith, never)); end = λ sent. omega (arith, sent) };
      acks = λ _. record { start = omega arith; acked = λ never. absurd (omega (arith, never)); within = λ never. absurd (omega (arith, never)); end = λ sent. omega (arith, sent) };
      again = λ e. again-kept d (text_limit s) (λ sent. Reaches d (Text sent)) (record {
        text = λ range start count again ends _ _. reaches-again d start count (acked e) (omega (arith, ends, inside range again.is));
        fin = λ range again. record {
          start = omega (arith, again.inside, inside range again.is);
          acked = λ _. acked e;
          within = λ never. absurd (omega (arith, never));
          end = λ _. omega (arith, again.inside, inside range again.is);
        };
      });
      new_text = λ e _. reaches-new d (new_count d (text_limit s) s.pending.probe) (acked e) (omega arith) (new-most s probes a.sends.order);
      fin = λ e _ _. record { start = omega arith; acked = λ _. acked e; within = λ never. absurd (omega (arith, never)); end = λ _. omega arith };
    }

-- ---- SND.NXT stays at every other event, once a SYN went
abbrev pub Stays : State → State → Type 0
Stays s s' = 1 ≤ s.sending.snd_nxt → s'.sending.snd_nxt ≡ s.sending.snd_nxt

stays-gaps : (s : State) (end : Option ℕ) → Stays s (record s { sending = after_gaps s.sending end })
stays-gaps s None sent = refl
stays-gaps s (Some end) sent = refl

stays-closing : (s : State) → Stays s (after_closing s)
stays-closing s =
    cond_both (is_unanswered s.phase) (record (after_discarding s Aborted) { closing = true }) (with_closing s) (Stays s) (λ _ _. refl) (λ _ _. refl)

stays-acked : (d : Sending) (a : ℕ) → (after_ack d a).snd_nxt ≡ d.snd_nxt
unfolding after_ack
stays-acked d a = cond_both (acks_more d a) (with_acked d a) d (λ (x : Sending). x.snd_nxt ≡ d.snd_nxt) (λ _. refl) (λ _. refl)

stays-own_syn : (s : State) (v : Content) → (after_own_syn s v).sending.snd_nxt ≡ s.sending.snd_nxt
unfolding after_own_syn
stays-own_syn s v =
    let d = s.sending in
    cond_both (is_syn_received s.phase) (with_window (with_syn_acked d) v.seq v.ack (window_from s.link v.window)) d (λ (x : Sending). x.snd_nxt ≡ d.snd_nxt)
    (λ _. refl) (λ _. refl)

stays-acked_text : (s : State) (v : Content) → (after_acked_text s v).sending.snd_nxt ≡ s.sending.snd_nxt
unfolding after_acked_text
stays-acked_text s v = stays-acked s.sending (position_near s v.ack)

stays-news : (s : State) (v : Content) → (after_window_and_blocks s v).sending.snd_nxt ≡ s.sending.snd_nxt
stays-news s v = window_and_blocks-cases (λ d. d.snd_nxt ≡ s.sending.snd_nxt) s v (λ d k. k) (λ d left right e k. k) refl

stays-own_fin : (s : State) → (after_own_fin s).sending.snd_nxt ≡ s.sending.snd_nxt
stays-own_fin s = own_fin-cases s (λ (x : State). x.sending.snd_nxt ≡ s.sending.snd_nxt) (λ _ _. refl) (λ _ _. refl) (λ _. refl)

pub stays-its_ack : (s : State) (v : Content) → (after_its_ack s v).sending.snd_nxt ≡ s.sending.snd_nxt
unfolding after_its_ack
stays-its_ack s v =
    let first = after_own_syn s v in
    let second = after_acked_text first v in
    stays-own_fin (after_window_and_blocks second v) ∙ stays-news second v ∙ stays-acked_text first v ∙ stays-own_syn s v

stays-taking : (s : State) (v : Content) → (after_taking s v).sending.snd_nxt ≡ s.sending.snd_nxt
unfolding after_taking after_its_text after_fin
stays-taking s v = stays-its_ack s v

stays-shut : (s : State) (v : Content) → (after_taking_shut s v).sending.snd_nxt ≡ s.sending.snd_nxt
unfolding after_taking_shut
stays-shut s v = stays-its_ack s v

stays-opens : (s : State) (src : List ℕ) (v : Content) (accepted : List ℕ) (closed : Bool) → IsAlone s accepted closed → is_listening s.phase ≡ true
    → Stays s (after_peer_opens s src v)
unfolding after_peer_opens
stays-opens s src v accepted closed a listening sent = absurd (omega (arith, sent, (end-listen s listening a.progress).1.snd_nxt_is))

stays-accepts : (s : State) (v : Content) → Stays s (after_peer_accepts s v)
unfolding after_peer_accepts
stays-accepts s v sent = refl

stays-judgement : (s : State) (src dst : List ℕ) (v : Content) (accepted : List ℕ) (closed : Bool) → IsAlone s accepted closed
    → Stays s (after_judgement (judgement s src dst v) s src v)
stays-judgement s src dst v accepted closed a =
    let J : Judgement → Type 0 = λ j. Stays s (after_judgement j s src v) in
    let same : J Foreign = λ _. refl in
    let opens : is_listening s.phase ≡ true → IsSyn v → J PeerOpens = λ listening _. stays-opens s src v accepted closed a listening in
    let accepts : J PeerAccepts = stays-accepts s v in
    let taken : J Taken = λ _. stays-taking s v in
    let shut : J TakenShut = λ _. stays-shut s v in
    judged s v J (assumption) src dst

stays-reading : (s : State) (src dst : List ℕ) (r : Result Content DecodeError) (accepted : List ℕ) (closed : Bool) → IsAlone s accepted closed
    → Stays s (after_reading s src dst r)
stays-reading s src dst (Ok v) accepted closed a = stays-judgement s src dst v accepted closed a
stays-reading s src dst (Err fault) accepted closed a = λ _. refl

-- what puts nothing out
abbrev pub IsSilent : SoloContent → Type 0
IsSilent Emit = ⊥
IsSilent EmitAcknowledgement = ⊥
IsSilent other = Unit {0}

stays-unless : (s s' : State) (o : Option CallError) → (o ≡ None → Stays s s') → Stays s (state_unless o s s')
stays-unless s s' o h = unless-kept (Stays s) o s s' (λ _. refl) h

new-end : (s : State) (accepted : List ℕ) (closed : Bool) → IsAlone s accepted closed → opening_refusal s ≡ None → 1 ≤ s.sending.snd_nxt → ⊥
new-end s accepted closed a e sent =
    let can = can-open s e in
    omega (arith, sent, (end-closed s can.shut can.ending a.progress).snd_nxt_is)

-- what is to go out again is of what went out
stays-stretch : (s : State) (test : Bool) (from to : ℕ)
    → Stays s (record s { sending = if test then with_resent s.sending from to else s.sending })
stays-stretch s test from to = λ _.
    cond_both test (with_resent s.sending from to) s.sending (λ (d : Sending). d.snd_nxt ≡ s.sending.snd_nxt) (λ _. refl) (λ _. refl)

pub stays-step : (s : State) (e : SoloContent) (accepted : List ℕ) (closed : Bool) → IsAlone s accepted closed → IsSilent e → Stays s (end_after s e)
unfolding after_connect after_listen after_send after_receive after_close after_abort after_acknowledge after_retransmit after_reorder after_time_wait after_resend_first after_resend
stays-step s (Connect addr port) accepted closed a silent =
    stays-unless s (with_connection s (record { addr = record { 0 = addr }; port = port })) (opening_refusal s)
    (λ e sent. absurd (new-end s accepted closed a e sent))
stays-step s Listen accepted closed a silent = stays-unless s (record s { phase = phases.Listen }) (opening_refusal s) (λ _ _. refl)
stays-step s (Send text) accepted closed a silent =
    stays-unless s (record s { sending = with_text s.sending s.config.limit text }) (send_refusal s text) (λ _ _. refl)
stays-step s (Receive room) accepted closed a silent = stays-unless s (with_bytes_received s room) (receive_refusal s) (λ _ _. refl)
stays-step s Close accepted closed a silent = stays-unless s (after_closing s) (close_refusal s) (λ _. stays-closing s)
stays-step s Abort accepted closed a silent = stays-unless s (with_abort s) (open_refusal s) (λ _ _. refl)
stays-step s Acknowledge accepted closed a silent = λ _. refl
stays-step s (Timer Retransmit) accepted closed a silent = λ _.
    cond_both (sends_again s) (with_all_resent s.sending) s.sending (λ (d : Sending). d.snd_nxt ≡ s.sending.snd_nxt) (λ _. refl) (λ _. refl)
stays-step s (Timer Reorder) accepted closed a silent =
    cond_both (sends_text s.phase) (last_mark_end s.sending.queue) None (λ (end : Option ℕ). Stays s (record s { sending = after_gaps s.sending end }))
    (λ _. stays-gaps s (last_mark_end s.sending.queue)) (λ _ _. refl)
stays-step s (Timer TimeWait) accepted closed a silent = cond_both (is_time_wait s.phase) (after_orderly_end s) s (Stays s) (λ _ _. refl) (λ _ _. refl)
stays-step s ResendFirst accepted closed a silent =
    let una = s.sending.snd_una in
    stays-stretch s (sends_again s) una (una + text_limit s)
stays-step s (events.Resend from to) accepted closed a silent = stays-stretch s (resends_between s from to) from to
stays-step s (Arrive src dst bytes) accepted closed a silent =
    subst (Stays s) (sym (read-arrival s src dst bytes (decode_answer src dst bytes) refl)) (stays-reading s src dst (decode_answer src dst bytes) accepted closed a)
stays-step s Emit accepted closed a silent = absurd silent
stays-step s EmitAcknowledgement accepted closed a silent = absurd silent
