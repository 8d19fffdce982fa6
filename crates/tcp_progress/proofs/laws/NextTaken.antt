-- A segment that covers the next position and ends within the window is acceptable.
use Rattle.tcp_replay.proofs.Words.{◌+◌, ◌+ℤ◌, ◌<◌, ◌<ℤ◌, ◌==◌, ◌^◌, acceptable_judgement, ack_judgement, acks_more, after_ack, after_acked_text}
use Rattle.tcp_replay.proofs.Words.{after_arrival, after_fin, after_its_ack, after_its_text, after_own_fin, after_own_syn, after_taking, after_taking_shut}
use Rattle.tcp_replay.proofs.Words.{after_text, after_window_and_blocks, AlwaysHolds, and_from, ap, arith, arrival_answer, Bool, cases_Bool, Content}
use Rattle.tcp_replay.proofs.Words.{count_numbers, false, fin, HandshakeRefused, HandshakeRefusedShut, has, if◌then◌else◌, inl, inr, ints, is_acceptable}
use Rattle.tcp_replay.proofs.Words.{is_acceptable_segment, is_closed, is_fin_acked, is_fin_due, is_foreign, is_last_ack, is_listening, is_syn_received}
use Rattle.tcp_replay.proofs.Words.{is_syn_sent, Judgement, judgement, judgement_after_syn, length, List, max_ordered, nat_le, nat_lt, nat_tests, not}
use Rattle.tcp_replay.proofs.Words.{number, offset, or_left, or_right, Phase, phase_after_own_fin, phase_after_own_syn, phase_judgement, pos}
use Rattle.tcp_replay.proofs.Words.{position_near, Receiving, refl, Sending, State, subst, sym, syn, Taken, TakenShut, takes_text, true}
use Rattle.tcp_replay.proofs.Words.{unacceptable_judgement, window, ◌||◌, ℕ, ℤ, ◌∙◌, ◌≡◌, ◌≤◌, ◌≤ℤ◌, ◌⊎◌}
use Rattle.tcp_progress.proofs.Words.{AckedIsReleased, AcksNew, BringsOn, ends_at, is_synchronized, IsNext, IsPlainAck, IsReleased, TakesWhatIsNext}
use Rattle.tcp_replay.proofs.Lemmas.{own_fin-cases, window_and_blocks-cases}
use Rattle.tcp_progress.proofs.laws.BroughtOn.{its_text-moves, with-fin, without-fin}
use Rattle.tcp_sendq.specs.SendQueue as queues

pub covering-acceptable : (next window seq count : ℕ) → (pos 0 <ℤ (offset next seq +ℤ pos count)) → ((offset next seq +ℤ pos count) ≤ℤ pos window) → 1 ≤ count
    → is_acceptable next window seq count ≡ true
unfolding is_acceptable offset
covering-acceptable next window seq count behind within some = grind (arith, ints, nat_tests, behind, within, some)

-- ---- A segment that is next is taken whole, and the acknowledgement is taken of one that acknowledges something new.
-- the phases that are tested first are none of those in which it is
pub record IsAfterSyn (phase : Phase) : Type 0 where
  pub shut : is_closed phase ≡ false
  pub listening : is_listening phase ≡ false
  pub syn_sent : is_syn_sent phase ≡ false

is-after_syn : (phase : Phase) (closing : Bool) → takes_text (phase_after_own_syn phase closing) ≡ true → IsAfterSyn phase
is-after_syn phase closing e = record { shut = grind (arith, e); listening = grind (arith, e); syn_sent = grind (arith, e) }

pub is-synchronized : (phase : Phase) → is_synchronized phase ≡ true → IsAfterSyn phase
is-synchronized phase e = record { shut = grind (arith, e); listening = grind (arith, e); syn_sent = grind (arith, e) }

-- the acknowledgement is a good one
judged-ack : (s : State) (v : Content) (good refused : Judgement) → IsPlainAck s v → ack_judgement s v good refused ≡ good
unfolding ack_judgement
judged-ack s v good refused plain = grind (arith, nat_tests, plain)

pub judged-acceptable : (s : State) (src dst : List ℕ) (v : Content) → is_foreign s src dst v ≡ false → IsAfterSyn s.phase → IsPlainAck s v
    → is_acceptable_segment s v ≡ true → judgement s src dst v ≡ Taken
unfolding judgement phase_judgement judgement_after_syn acceptable_judgement
judged-acceptable s src dst v mine here plain fits =
    rw (mine, here.shut, here.listening, here.syn_sent, fits, plain.no_rst, plain.no_syn, plain.has_ack) (judged-ack s v Taken HandshakeRefused plain)

judged-shut : (s : State) (src dst : List ℕ) (v : Content) → is_foreign s src dst v ≡ false → IsAfterSyn s.phase → IsPlainAck s v
    → is_acceptable_segment s v ≡ false → (window s.receiving.inbox == 0) ≡ true → judgement s src dst v ≡ TakenShut
unfolding judgement phase_judgement judgement_after_syn unacceptable_judgement
judged-shut s src dst v mine here plain outside shut =
    rw (mine, here.shut, here.listening, here.syn_sent, outside, plain.no_rst, shut, plain.has_ack, plain.no_syn)
    (judged-ack s v TakenShut HandshakeRefusedShut plain)

pub judged-next : (s : State) (src dst : List ℕ) (v : Content) → IsNext s src dst v → judgement s src dst v ≡ Taken
judged-next s src dst v next =
    judged-acceptable s src dst v next.mine (is-after_syn s.phase s.closing next.phase) next.plain
    (covering-acceptable s.receiving.rcv_nxt (window s.receiving.inbox) v.seq (count_numbers v) next.ends next.within
    (omega (arith, ints, next.begins, next.ends)))

pub judged-new : (s : State) (src dst : List ℕ) (v : Content) → AcksNew s src dst v → (judgement s src dst v ≡ Taken) ⊎ (judgement s src dst v ≡ TakenShut)
judged-new s src dst v acks =
    let here = is-synchronized s.phase acks.phase in
    elim (cases_Bool (is_acceptable_segment s v)) [
      | inl fits ↦ inl (judged-acceptable s src dst v acks.mine here acks.plain fits)
      | inr outside ↦
          let shut : (window s.receiving.inbox == 0) ≡ true = ap (λ b. b || (window s.receiving.inbox == 0)) (sym outside) ∙ acks.heard in
          inr (judged-shut s src dst v acks.mine here acks.plain outside shut)
    ]

-- ---- What is next is taken: through the stages of a segment that is taken whole.
-- THE ACKNOWLEDGEMENT leaves the half that receives as it is, and a phase in which text is taken one of those
record StillTakes (s s' : State) : Type 0 where
  receiving : s'.receiving ≡ s.receiving
  phase : takes_text s'.phase ≡ true

not-last_ack : (phase : Phase) → takes_text phase ≡ true → is_last_ack phase ≡ false
not-last_ack phase e = grind (arith, e)

takes-after_own_fin : (phase : Phase) → takes_text phase ≡ true → takes_text (phase_after_own_fin phase) ≡ true
takes-after_own_fin phase e = grind (arith, e)

own_fin-takes : (s : State) → takes_text s.phase ≡ true → StillTakes s (after_own_fin s)
unfolding after_own_fin
own_fin-takes s e =
    elim (cases_Bool (is_fin_acked s.sending)) [
      | inl acked ↦ rw (acked, not-last_ack s.phase e) (record { receiving = refl; phase = takes-after_own_fin s.phase e })
      | inr waiting ↦ rw waiting (record { receiving = refl; phase = e })
    ]

its_ack-takes : (s : State) (v : Content) → takes_text (phase_after_own_syn s.phase s.closing) ≡ true → StillTakes s (after_its_ack s v)
unfolding after_its_ack after_window_and_blocks after_acked_text after_own_syn
its_ack-takes s v e =
    let still = own_fin-takes (after_window_and_blocks (after_acked_text (after_own_syn s v) v) v) e in
    record { receiving = still.receiving; phase = still.phase }

-- TEXT AND FIN
record FitsTaken (r : Receiving) (v : Content) : Type 0 where
  next : r.rcv_nxt < 2 ^ 32
  ordered : r.ordered ≤ max_ordered
  whole : length r.inbox.held ≡ window r.inbox
  begins : offset r.rcv_nxt v.seq ≤ℤ pos 0
  ends : pos 0 <ℤ (offset r.rcv_nxt v.seq +ℤ pos (count_numbers v))
  within : (offset r.rcv_nxt v.seq +ℤ pos (count_numbers v)) ≤ℤ pos (window r.inbox)

text_fin : State → Content → State
text_fin s v = after_fin (after_its_text s v) v

-- TAKING: and an acknowledgement is pending for text and for FIN
record TakenWhole (r : Receiving) (s' : State) (end : ℤ) : Type 0 where
  brings : BringsOn r s'.receiving end
  has_pending : s'.pending.ack ≡ true

fin-taken : (s : State) (v : Content) → takes_text s.phase ≡ true → has syn v.flags ≡ false → has fin v.flags ≡ true → FitsTaken s.receiving v
    → TakenWhole s.receiving (text_fin s v) (offset s.receiving.rcv_nxt v.seq +ℤ pos (count_numbers v))
unfolding text_fin after_fin after_its_text
fin-taken s v takes plain last fits =
    let r = s.receiving in
    let count : count_numbers v ≡ length v.text + 1 = rw (plain, last) (omega arith) in
    let m = its_text-moves r v.seq v.text fits.next fits.ordered fits.whole fits.begins (omega (arith, ints, fits.within, count)) in
    let r' : Receiving = if not (length v.text == 0) then after_text r v.seq v.text else r in
    let brings = with-fin r r' v.seq (length v.text) m (is_fin_due r' (number v.seq (length v.text))) refl (omega (arith, ints, fits.within, count)) in
    record { brings = rw (count, takes, last) brings; has_pending = rw (takes, last) (or_right _ true refl) }

text-taken : (s : State) (v : Content) → takes_text s.phase ≡ true → has syn v.flags ≡ false → has fin v.flags ≡ false → FitsTaken s.receiving v
    → TakenWhole s.receiving (text_fin s v) (offset s.receiving.rcv_nxt v.seq +ℤ pos (count_numbers v))
unfolding text_fin after_fin after_its_text
text-taken s v takes plain open_still fits =
    let r = s.receiving in
    let count : count_numbers v ≡ length v.text = rw (plain, open_still) (omega arith) in
    let m = its_text-moves r v.seq v.text fits.next fits.ordered fits.whole fits.begins (omega (arith, ints, fits.within, count)) in
    let r' : Receiving = if not (length v.text == 0) then after_text r v.seq v.text else r in
    let text : (length v.text == 0) ≡ false = grind (arith, nat_tests) in
    record {
      brings = rw (count, takes, open_still) (without-fin r r' _ (offset r.rcv_nxt v.seq +ℤ pos (length v.text)) m m.least);
      has_pending = rw (takes, open_still, text) (or_left (s.pending.ack || true) false (or_right s.pending.ack true refl));
    }

text_fin-taken : (s : State) (v : Content) → takes_text s.phase ≡ true → has syn v.flags ≡ false → FitsTaken s.receiving v
    → TakenWhole s.receiving (text_fin s v) (offset s.receiving.rcv_nxt v.seq +ℤ pos (count_numbers v))
text_fin-taken s v takes plain fits =
    elim (cases_Bool (has fin v.flags)) [
      | inl last ↦ fin-taken s v takes plain last fits
      | inr open_still ↦ text-taken s v takes plain open_still fits
    ]

-- all that is asked of the half that receives: RCV.NXT is a number, and the window has a place for each byte that is held
pub record IsReady (r : Receiving) : Type 0 where
  pub next : r.rcv_nxt < 2 ^ 32
  pub ordered : r.ordered ≤ max_ordered
  pub whole : length r.inbox.held ≡ window r.inbox

taking : (s : State) (src dst : List ℕ) (v : Content) → IsReady s.receiving → IsNext s src dst v → TakenWhole s.receiving (after_taking s v) (ends_at s v)
unfolding after_taking text_fin
taking s src dst v sound next =
    let still = its_ack-takes s v next.phase in
    let fits : FitsTaken s.receiving v = assumption in
    let after = after_its_ack s v in
    let taken = text_fin-taken after v still.phase next.plain.no_syn (subst (λ r. FitsTaken r v) (sym still.receiving) fits) in
    subst (λ (r : Receiving). TakenWhole r (text_fin after v) (offset r.rcv_nxt v.seq +ℤ pos (count_numbers v))) still.receiving taken

pub ready-takes : (s : State) → IsReady s.receiving → TakesWhatIsNext s
unfolding arrival_answer after_arrival
ready-takes s sound src dst bytes v decoded next =
    let taken = taking s src dst v sound next in
    rw (decoded, judged-next s src dst v next) (refl, taken.brings, taken.has_pending)

pub next_lem : (s : State) → AlwaysHolds s → TakesWhatIsNext s
next_lem s sound = ready-takes s (record { next = sound.next; ordered = sound.ordered; whole = omega (arith, sound.inbox.whole) })

-- ---- What is acknowledged is released: windows, blocks and the end of a connection leave SND.UNA and the queue as they are.
-- the same SND.UNA and the same text
pub record KeepsText (d d' : Sending) : Type 0 where
  pub snd_una : d'.snd_una ≡ d.snd_una
  pub released : d'.released ≡ d.released
  pub queued : d'.queue.bytes ≡ d.queue.bytes

text-kept : (d : Sending) → KeepsText d d
text-kept d = assumption

pub window_and_blocks-keep : (s : State) (v : Content) → KeepsText s.sending (after_window_and_blocks s v).sending
unfolding queues.after_mark
window_and_blocks-keep s v =
    window_and_blocks-cases (KeepsText s.sending) s v (λ d h. record { snd_una = h.snd_una; released = h.released; queued = h.queued })
    (λ d left right _ h. record { snd_una = h.snd_una; released = h.released; queued = h.queued }) (text-kept s.sending)

-- its own FIN's acknowledgement
pub own_fin-keeps : (s : State) → KeepsText s.sending (after_own_fin s).sending
own_fin-keeps s =
    own_fin-cases s (λ (t : State). KeepsText s.sending t.sending) (λ _ _. record { snd_una = refl; released = refl; queued = refl })
    (λ _ _. text-kept s.sending) (λ _. text-kept s.sending)

-- the acknowledgement itself
not-syn_received : (phase : Phase) → is_synchronized phase ≡ true → is_syn_received phase ≡ false
not-syn_received phase e = grind (arith, e)

acked-released : (s : State) (v : Content) → is_syn_received s.phase ≡ false → s.sending.snd_una < position_near s v.ack → position_near s v.ack ≤ s.sending.snd_nxt
    → IsReleased s.sending (after_acked_text (after_own_syn s v) v).sending (position_near s v.ack)
unfolding after_acked_text after_own_syn after_ack
acked-released s v opened new sent =
    let more : acks_more s.sending (position_near s v.ack) ≡ true =
    and_from (nat_lt s.sending.snd_una (position_near s v.ack)) (nat_le (position_near s v.ack) s.sending.snd_nxt) (grind (arith, nat_tests, new))
    (grind (arith, nat_tests, sent)) in
    rw (opened, more) assumption

released-keeps : (d e f : Sending) (position : ℕ) → IsReleased d e position → KeepsText e f → IsReleased d f position
released-keeps d e f position is keeps =
    record { snd_una = keeps.snd_una ∙ is.snd_una; released = keeps.released ∙ is.released; queued = keeps.queued ∙ is.queued }

its_ack-released : (s : State) (src dst : List ℕ) (v : Content) → AcksNew s src dst v → IsReleased s.sending (after_its_ack s v).sending (position_near s v.ack)
unfolding after_its_ack
its_ack-released s src dst v acks =
    let acked : State = after_acked_text (after_own_syn s v) v in
    let told : State = after_window_and_blocks acked v in
    released-keeps s.sending told.sending (after_own_fin told).sending (position_near s v.ack)
    (released-keeps s.sending acked.sending told.sending (position_near s v.ack)
    (acked-released s v (not-syn_received s.phase acks.phase) acks.new acks.plain.of_sent) (window_and_blocks-keep acked v)) (own_fin-keeps told)

pub acked_lem : AckedIsReleased
unfolding arrival_answer after_arrival after_taking after_fin after_its_text after_taking_shut
acked_lem s src dst bytes v decoded acks =
    let released = its_ack-released s src dst v acks in
    elim (judged-new s src dst v acks) [ inl taken ↦ rw (decoded, taken) (refl, released) | inr shut ↦ rw (decoded, shut) (refl, released) ]
