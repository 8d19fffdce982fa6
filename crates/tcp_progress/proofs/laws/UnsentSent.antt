-- What is unsent goes out: with nothing in flight nothing is sent again, and the window or the probe allows a byte.
use Rattle.tcp_replay.proofs.Words.{◌&&◌, ◌<◌, ◌==◌, after_arrival, after_emission, after_retransmit, ap, arith, arrival_answer, Bool, bytes_of}
use Rattle.tcp_replay.proofs.Words.{cases_Bool, cases_lt, Content, count_allowed, count_unsent, decode_answer, destination_of, Dropped, Due, due_of}
use Rattle.tcp_replay.proofs.Words.{emitted_bytes, end_of, end_of_text, false, false≢true, Fin, IfSome, inl, inr, judgement, judgement_after_syn, List}
use Rattle.tcp_replay.proofs.Words.{max, nat_lt, nat_tests, new_count, new_text_of, NewText, None, number, Ok, Option, phase_judgement, plain_segment}
use Rattle.tcp_replay.proofs.Words.{Range, refl, resend_of, segment_of, Sending, sends_text, Some, start_of, State, subst, suc, sym, text_limit, true}
use Rattle.tcp_replay.proofs.Words.{true≢false, Unacceptable, unacceptable_judgement, with_ack_pending, ℕ, ◌∙◌, ◌≡◌, ◌≤◌, ◌⊎◌}
use Rattle.tcp_progress.proofs.Words.{after_emissions, CoversNext, IsUnacceptable, KeepsFlight, MayAnswer, MaySend, MovesOn, SpokenToAnswers, StandsAtNext}
use Rattle.tcp_progress.proofs.Words.{UnsentGoesOut}
use Rattle.tcp_progress.proofs.laws.FlightSentAgain.{at-rest, covering, emission, Exhausts, exhausts, IsRested, kept, may-after_retransmit, no-syn}
use Rattle.tcp_progress.proofs.laws.FlightSentAgain.{timeout-keeps, timeout-resends}
use Rattle.tcp_replay.proofs.Lemmas.{done-none, due-kept, none-some, due-bits, some-due}
use Rattle.tcp_progress.proofs.{laws.NextTaken.is-synchronized, laws.NextTaken.IsAfterSyn, laws.PendingSent.with_pending-due}
use Rattle.tcp_replay.proofs.Words.{Text}

-- nothing goes out again where nothing is in flight
pub still-done : (range : Option (Range ℕ)) (snd_una snd_nxt : ℕ) → snd_nxt ≤ snd_una → IfSome range (λ range. range.end ≤ snd_nxt)
    → IfSome range (λ range. range.end ≤ max range.start snd_una)
still-done range snd_una snd_nxt idle h = grind (arith, idle, h)

no-resend : (d : Sending) (limit : ℕ) → d.snd_nxt ≤ d.snd_una → IfSome d.resend (λ range. range.end ≤ d.snd_nxt) → resend_of d limit d.resend ≡ None
no-resend d limit idle most = done-none d limit (still-done d.resend d.snd_una d.snd_nxt idle most)

-- an end that has nothing to send again, and a probe at a zero window
record IsReadyNew (s : State) : Type 0 where
  may : MaySend s
  idle : s.sending.snd_una ≡ s.sending.snd_nxt
  none : resend_of s.sending (text_limit s) s.sending.resend ≡ None
  probe : 0 < count_unsent s.sending → s.sending.snd_wnd ≡ 0 → s.pending.probe ≡ true

allowed : (d : Sending) (probe : Bool) → d.snd_una ≡ d.snd_nxt → (d.snd_wnd ≡ 0 → probe ≡ true) → 0 < count_allowed d probe
allowed d probe idle granted = grind (arith, nat_tests, idle, granted)

new_of : State → ℕ
new_of s = new_count s.sending (text_limit s) s.pending.probe

-- what goes out
record GoesNew (s : State) : Type 0 where
  covers : CoversNext s s.sending.snd_nxt
  moves : MovesOn s.sending (after_emission s).sending

moving : (s : State) (due : Due) → due_of s ≡ Some due → s.sending.snd_nxt < end_of s.sending due → MovesOn s.sending (after_emission s).sending
moving s due e more = rw (emission s due e) (record { snd_una = refl; snd_nxt = omega (arith, more); released = refl; queued = refl })

text-goes : (s : State) → IsReadyNew s → 0 < count_unsent s.sending → GoesNew s
unfolding due_of new_text_of segment_of new_of
text-goes s ready unsent =
    let d = s.sending in
    let room = allowed d s.pending.probe ready.idle (ready.probe unsent) in
    let test : (new_of s == 0) ≡ false = grind (arith, nat_tests) in
    let due : due_of s ≡ Some (Text (NewText d.snd_nxt (new_of s))) = rw (ready.may.reset, ready.may.syn, ready.may.phase, ready.none, test) refl in
    record {
      covers = covering s (Text (NewText d.snd_nxt (new_of s))) d.snd_nxt (record { is_due = due; form = refl; to = refl; inside = omega arith }) (omega arith)
          (omega arith);
      moves = moving s (Text (NewText d.snd_nxt (new_of s))) due (omega arith);
    }

new-fin_goes : (s : State) → IsReadyNew s → s.closing ≡ true → s.sending.snd_nxt ≡ end_of_text s.sending → GoesNew s
unfolding due_of new_text_of segment_of
new-fin_goes s ready closing last =
    let n = s.sending.snd_nxt in
    let test : (new_count s.sending (text_limit s) s.pending.probe == 0) ≡ true = grind (arith, nat_tests) in
    let turn : (n == end_of_text s.sending) ≡ true = grind (arith, nat_tests, last) in
    let due : due_of s ≡ Some (Text (Fin n)) = rw (ready.may.reset, ready.may.syn, ready.may.phase, ready.none, test, closing, turn) refl in
    record {
      covers = covering s (Text (Fin n)) n (record { is_due = due; form = refl; to = refl; inside = omega arith }) (omega arith) (omega arith);
      moves = moving s (Text (Fin n)) due (omega arith);
    }

-- THE TIMEOUT
pub nothing-resent : (s : State) → MaySend s → s.sending.snd_nxt ≤ s.sending.snd_una → (after_retransmit s).sending ≡ s.sending
unfolding after_retransmit
nothing-resent s may idle =
    let test : (sends_text s.phase && nat_lt s.sending.snd_una s.sending.snd_nxt) ≡ false = rw may.phase (grind (arith, nat_tests, idle)) in
    rw test refl

probe-granted : (s : State) → MaySend s → s.sending.snd_una ≡ s.sending.snd_nxt → 0 < count_unsent s.sending → s.sending.snd_wnd ≡ 0
    → (after_retransmit s).pending.probe ≡ true
unfolding after_retransmit
probe-granted s may idle unsent shut = grind (arith, nat_tests, may, idle, unsent, shut)

pub new_lem : UnsentGoesOut
unfolding after_retransmit
new_lem s may unsent =
    let t = after_retransmit s in
    let same : t.sending ≡ s.sending = nothing-resent s may (omega (arith, unsent.idle)) in
    let ready : IsReadyNew t = record {
      may = may-after_retransmit s may;
      idle = rw same unsent.idle;
      none = rw same (no-resend s.sending (text_limit s) (omega (arith, unsent.idle)) unsent.range);
      probe = rw same (probe-granted s may unsent.idle);
    } in
    let goes : GoesNew t = elim unsent.waits [
      | inl text ↦ text-goes t ready (rw same text)
      | inr last ↦ new-fin_goes t ready last.0 (rw same last.1)
    ] in
    (subst (λ (d : Sending). CoversNext t d.snd_nxt) same goes.covers, subst (λ (d : Sending). MovesOn d (after_emission t).sending) same goes.moves)

-- ---- Who is spoken to answers: what is left to be sent again goes out, then a pending acknowledgement goes out at SND.NXT.

standing : (s : State) (due : Due) → due_of s ≡ Some due → segment_of s due ≡ plain_segment s due → destination_of s due ≡ s.peer
    → start_of s.sending due ≡ s.sending.snd_nxt → StandsAtNext s
unfolding emitted_bytes bytes_of
standing s due e form to starts =
    let bits = due-bits s.sending due in
    record {
      due = due;
      is_due = e;
      segment = plain_segment s due;
      form = sym form;
      starts = starts;
      emitted = rw e (rw (form, to) refl);
      seq = ap (λ n. number s.config.isn.0 n) starts;
      no_rst = bits.2;
      no_syn = bits.0;
      has_ack = bits.3;
      acknowledged = refl;
    }

-- where nothing is sent again, whatever is due is at SND.NXT: text, FIN or an acknowledgement by itself
pub stands-or-none : (s : State) → s.pending.reset ≡ None → s.pending.syn ≡ false
    → (sends_text s.phase ≡ true → resend_of s.sending (text_limit s) s.sending.resend ≡ None) → (due_of s ≡ None) ⊎ StandsAtNext s
unfolding segment_of
stands-or-none s reset syn none =
    let Stands : Due → Type 0 = λ due. (segment_of s due ≡ plain_segment s due) × (destination_of s due ≡ s.peer) × (start_of s.sending due ≡ s.sending.snd_nxt) in
    elim (some-due Stands (due_of s) (due-kept s Stands (record {
      resets = λ waiting is. absurd (none-some waiting (sym reset ∙ is));
      syn = λ pending. absurd (false≢true (sym syn ∙ pending));
      acks = λ _. (refl, refl, refl);
      again = λ sends. rw (none sends) tt;
      new_text = λ _ _. (refl, refl, refl);
      fin = λ _ _ _. (refl, refl, refl);
    }))) [
      | inl idle ↦ inl idle
      | inr is ↦ inr (standing s is.0 is.1 is.2.0 is.2.1 is.2.2)
    ]

stands : (s : State) → IsRested s → s.pending.ack ≡ true → StandsAtNext s
stands s rested pending =
    elim (stands-or-none s rested.reset rested.syn rested.none) [ inl idle ↦ absurd (with_pending-due s pending idle) | inr is ↦ is ]

-- what isn't acceptable makes one pending
pub judged-old : (s : State) (src dst : List ℕ) (v : Content) → IsAfterSyn s.phase → IsUnacceptable s src dst v → judgement s src dst v ≡ Unacceptable
unfolding judgement phase_judgement judgement_after_syn unacceptable_judgement
judged-old s src dst v here old = rw (old.mine, here.shut, here.listening, here.syn_sent, old.outside, old.no_rst, old.untaken) refl

answered : (s : State) → IsRested s → (src dst bytes : List ℕ) (v : Content) → decode_answer src dst bytes ≡ Ok v → IsUnacceptable s src dst v
    → (arrival_answer s src dst bytes ≡ Dropped) × StandsAtNext (after_arrival s src dst bytes)
unfolding arrival_answer after_arrival
answered s rested src dst bytes v decoded old =
    rw (decoded, judged-old s src dst v (is-synchronized s.phase rested.phase) old) (refl, stands (with_ack_pending s) (assumption) refl)

-- THE TIMEOUT, in a phase that sends no text, and where nothing is in flight
quiet-rests : (s : State) → MayAnswer s → sends_text s.phase ≡ false → KeepsFlight s.sending (after_retransmit s).sending × IsRested (after_retransmit s)
unfolding after_retransmit
quiet-rests s may quiet =
    let none = λ (sends : sends_text s.phase ≡ true). true≢false (sym sends ∙ quiet) in
    (rw quiet (kept s.sending), record { phase = may.phase; reset = may.reset; syn = no-syn s may.phase may.syn; none = λ sends. absurd (none sends) })

idle-rests : (s : State) → MayAnswer s → MaySend s → s.sending.snd_nxt ≤ s.sending.snd_una
    → KeepsFlight s.sending (after_retransmit s).sending × IsRested (after_retransmit s)
unfolding after_retransmit
idle-rests s may sends idle =
    let same = nothing-resent s sends idle in
    let none = no-resend s.sending (text_limit s) idle may.range in
    (rw same (kept s.sending), record { phase = may.phase; reset = may.reset; syn = no-syn s may.phase may.syn; none = λ _. rw same none })

-- after it, what is left to be sent again comes to an end
timeout-exhausts : (s : State) → MayAnswer s → KeepsFlight s.sending (after_retransmit s).sending × Exhausts (after_retransmit s)
timeout-exhausts s may =
    let t = after_retransmit s in
    elim (cases_Bool (sends_text s.phase)) [
      | inr quiet ↦ let rests = quiet-rests s may quiet in (rests.0, at-rest t rests.1)
      | inl phase ↦
          let sends : MaySend s = record { phase = phase; reset = may.reset; syn = may.syn; limit = may.limit } in
          elim (cases_lt s.sending.snd_una s.sending.snd_nxt) [
            | inl flight ↦ (timeout-keeps s sends flight, exhausts (suc t.sending.snd_nxt) t s.sending.snd_una (timeout-resends s sends flight) (omega arith))
            | inr idle ↦ let rests = idle-rests s may sends idle in (rests.0, at-rest t rests.1)
          ]
    ]

pub answer_lem : SpokenToAnswers
answer_lem s may =
    let rests = timeout-exhausts s may in
    (rests.0, record { count = rests.1.count; keeps = rests.1.keeps; answers = answered (after_emissions rests.1.count (after_retransmit s)) rests.1.rested })
