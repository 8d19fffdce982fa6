-- ONE END after every list of events: what it keeps of its own, where what it has came from, and what it emitted.
use Rattle.tcp_replay.proofs.Words.{◌+◌, ◌++◌, ◌<◌, [], ◌^◌, ack, ack_alone, AcknowledgesInOrderWith, after_arrival, after_reading, after_solo, AllByRecursion}
use Rattle.tcp_replay.proofs.Words.{answer_unless, ap, append-nil, append_assoc, AreBytes, arith, Arrive, Bool, bytes_of, bytes_put_out, bytes_taken}
use Rattle.tcp_replay.proofs.Words.{CallError, Came, CameInWith, Config, Content, count_come, count_in_order, count_sendable, decode_answer, decoded_encoded}
use Rattle.tcp_replay.proofs.Words.{decoded_valid, DecodeError, DeliversWhatCameWith, destination_of, discards, Due, due_of, end_after, Err, false, false≢true}
use Rattle.tcp_replay.proofs.Words.{front_taken, has, HasRanges, IfSome, if◌then◌else◌, is_acceptable_segment, is_close, is_foreign, IsAlone, IsConfig}
use Rattle.tcp_replay.proofs.Words.{IsOfUser, List, end_with_runs, None, number, Ok, OneEndIsTrueWithRuns, Option, option_map, option_to_list, party_after_abort}
use Rattle.tcp_replay.proofs.Words.{party_after_acknowledge, party_after_close, party_after_connect, party_after_listen, party_after_receive}
use Rattle.tcp_replay.proofs.Words.{party_after_resend, party_after_resend_first, party_after_send, party_after_timer, PartyState, Peer, rcv_position_with, refl, Reset}
use Rattle.tcp_replay.proofs.Words.{Result, rst, alone_with_runs, segment_alone, segment_due, segment_emitted, segment_of, send_refusal, SendsItsUsers}
use Rattle.tcp_replay.proofs.Words.{slice_get, solo_run, solo_with_runs, SoloContent, SoloState, Some, State, subst, sym, Syn, syn, TookSynWith, true, ◌||◌, ℕ}
use Rattle.tcp_replay.proofs.Words.{◌∙◌, ◌∷◌, ◌≡◌, ⊎_elim}
use Rattle.tcp_replay.specs.SoloEvents.{Abort, Acknowledge, Close, Connect, Emit, EmitAcknowledgement, Listen, Receive, Resend, ResendFirst, Send, Timer}
use Rattle.tcp_replay.proofs.one_end.Feeds.{AllText, ByNumber, fed-any, fed-more, fed-new, IsFed, text-at, text-front, text-of}
use Rattle.tcp_replay.proofs.pair.Calls.{KeptByCalls, on-abort, on-ack-alone, on-acknowledge, on-close, on-connect, on-emission, on-listen, on-receive}
use Rattle.tcp_replay.proofs.pair.Calls.{on-resend, on-resend-first, on-send, on-timer, or-false, with_end}
use Rattle.tcp_replay.proofs.{Lists.by_test, Lists.one_if, one_end.Alone.alone-new, one_end.AloneCalls.alone-calls, one_end.AloneCalls.alone-judgement}
use Rattle.tcp_replay.proofs.{one_end.AloneCalls.IsAloneIn, one_end.AloneCalls.send-unclosed, one_end.AloneEmissions.ack-alone-goes}
use Rattle.tcp_replay.proofs.{one_end.AloneEmissions.due-alone, one_end.AloneEmissions.GoesOutAlone, one_end.AloneEmissions.IsSaid}
use Rattle.tcp_replay.proofs.{one_end.AloneFeeds.Feeds, one_end.AloneFeeds.feeds-calls, one_end.AloneFeeds.feeds-judgement, one_end.AloneFeeds.feeds-same}
use Rattle.tcp_replay.proofs.{one_end.Judgements.IsTaken, pair.Emissions.plain-of_user, pair.Emissions.syn-of_user, pair.Emissions.syn-opened}
use Rattle.tcp_replay.proofs.{pair.Steps.of_user-grows, pair.Steps.slice_get-more}
use Rattle.tcp_replay.proofs.pair.Emissions.{waiting-bit}

-- an arrival is what its bytes are read as
pub read-arrival : (s : State) (src dst bytes : List ℕ) (r : Result Content DecodeError) → decode_answer src dst bytes ≡ r
    → after_arrival s src dst bytes ≡ after_reading s src dst r
unfolding after_arrival
read-arrival s src dst bytes r e = ap (after_reading s src dst) e

-- WHAT IT KEEPS OF ITS OWN
alone-reading : (s : State) (accepted : List ℕ) (closed : Bool) (src dst bytes : List ℕ) (r : Result Content DecodeError) → AreBytes bytes
    → decode_answer src dst bytes ≡ r → IsAlone s accepted closed
    → IsAlone (after_reading s src dst r) accepted closed
alone-reading s accepted closed src dst bytes (Ok v) fits e h = alone-judgement s accepted closed src dst v (decoded_valid src dst v bytes fits e) h
alone-reading s accepted closed src dst bytes (Err fault) fits e h = h

alone-arrived : (s : State) (accepted : List ℕ) (closed : Bool) (src dst bytes : List ℕ) → AreBytes bytes → IsAlone s accepted closed
    → IsAlone (after_arrival s src dst bytes) accepted closed
alone-arrived s accepted closed src dst bytes fits h =
    subst (λ (x : State). IsAlone x accepted closed) (sym (read-arrival s src dst bytes (decode_answer src dst bytes) refl))
    (alone-reading s accepted closed src dst bytes (decode_answer src dst bytes) fits refl h)

-- the party of an end, which keeps no list of what it emitted
abbrev pub party_in : SoloState → PartyState
party_in x = record { endpoint = x.endpoint; sent = []; accepted = x.accepted; delivered = x.delivered; closed = x.closed; ended = x.ended }

-- some peer
abbrev peer_of : State → Peer
peer_of s = record { addr = s.config.addr; port = s.config.port }

module _ (x : SoloState) (P : PartyState → Type 0) (alone : IsAloneIn (party_in x)) where
  module _ (calls : (peer : Peer) → peer.port < 2 ^ 16 → KeptByCalls peer (party_in x) P) where
    -- nothing is added
    nothing-added : (p : PartyState) → P p
        → P (record p { accepted = p.accepted ++ []; delivered = p.delivered ++ []; closed = p.closed || false; ended = p.ended || false })
    nothing-added p h = rw (append-nil p.accepted, append-nil p.delivered, or-false p.closed, or-false p.ended) h

    own-calls : KeptByCalls (peer_of x.endpoint) (party_in x) P
    own-calls = calls (peer_of x.endpoint) alone.config.port

    -- P holds after any event at one end: what calls, timers and emissions keep, and what an arrival does
    pub solo-step : (e : SoloContent) → HasRanges e
        → ((src dst bytes : List ℕ) → e ≡ Arrive src dst bytes → P (with_end (party_in x) (after_arrival x.endpoint src dst bytes)))
        → P (party_in (after_solo x e))
    unfolding party_after_connect party_after_listen party_after_send party_after_receive party_after_close party_after_abort party_after_acknowledge party_after_timer party_after_resend_first party_after_resend
    solo-step (Connect addr port) fits arrives = nothing-added _ (on-connect _ (party_in x) P (calls _ fits))
    solo-step Listen fits arrives = nothing-added _ (on-listen _ (party_in x) P own-calls)
    solo-step (Send text) fits arrives = rw (append-nil x.delivered, or-false x.closed, or-false x.ended) (on-send _ (party_in x) P own-calls text fits)
    solo-step (Receive room) fits arrives = rw (append-nil x.accepted, or-false x.closed) (on-receive _ (party_in x) P own-calls room)
    solo-step Close fits arrives = rw (append-nil x.accepted, append-nil x.delivered, or-false x.ended) (on-close _ (party_in x) P own-calls)
    solo-step Abort fits arrives = nothing-added _ (on-abort _ (party_in x) P own-calls)
    solo-step Acknowledge fits arrives = nothing-added _ (on-acknowledge _ (party_in x) P own-calls)
    solo-step (Timer which) fits arrives = nothing-added _ (on-timer _ (party_in x) P own-calls which)
    solo-step Emit fits arrives = nothing-added _ (on-emission _ (party_in x) P own-calls alone)
    solo-step EmitAcknowledgement fits arrives = nothing-added _ (on-ack-alone _ (party_in x) P own-calls alone)
    solo-step ResendFirst fits arrives = nothing-added _ (on-resend-first _ (party_in x) P own-calls)
    solo-step (Resend from to) fits arrives = nothing-added _ (on-resend _ (party_in x) P own-calls from to)
    solo-step (Arrive src dst bytes) fits arrives = nothing-added _ (arrives src dst bytes refl)

-- any event keeps what an end keeps by itself
pub alone-step : (x : SoloState) (e : SoloContent) → HasRanges e → IsAloneIn (party_in x) → IsAloneIn (party_in (after_solo x e))
alone-step x e fits h =
    solo-step x IsAloneIn h (λ peer port. alone-calls peer (party_in x) port h) e fits
    (λ src dst bytes is. alone-arrived x.endpoint x.accepted x.closed src dst bytes (subst HasRanges is fits) h)

-- after a close nothing more is accepted
taken-unless : (o : Option CallError) (n : ℕ) (text : List ℕ) → (o ≡ None → ⊥) → front_taken (answer_unless o n) text ≡ []
taken-unless None n text never = absurd (never refl)
taken-unless (Some error) n text never = refl

fixed-step : (s : State) (accepted : List ℕ) (closed : Bool) (e : SoloContent) → IsAlone s accepted closed → closed ≡ true
    → (bytes_taken s e ≡ []) × ((closed || is_close s e) ≡ true)
fixed-step s accepted closed (Send text) h shut = (
  taken-unless (send_refusal s text) (count_sendable s.sending s.config.limit text) text
      (λ open_. false≢true (sym (send-unclosed s accepted text closed open_ h) ∙ shut)),
  ap (λ b. b || false) shut,
)
fixed-step s accepted closed Close h shut = (refl, ap (λ b. b || is_close s Close) shut)
fixed-step s accepted closed other h shut = (refl, ap (λ b. b || false) shut)

-- WHAT IS EMITTED
pub record Says (s : State) (accepted : List ℕ) (closed : Bool) (v : Content) : Type 0 where
  pub own : IsOfUser s.config.isn.0 accepted closed v
  pub reported : has ack v.flags ≡ true → (s.receiving.opened ≡ true) × (v.ack ≡ s.receiving.rcv_nxt)

syn-speaks : (s : State) (accepted : List ℕ) (closed : Bool) → Says s accepted closed (segment_of s Syn)
unfolding segment_of
syn-speaks s accepted closed = record {
  own = syn-of_user s accepted closed;
  reported = λ e. let opened = syn-opened s e in (opened, ap (λ (b : Bool). if b then s.receiving.rcv_nxt else 0) opened);
}

plain-says : (s : State) (accepted : List ℕ) (closed : Bool) (due : Due) → IsSaid s accepted closed due → Says s accepted closed (segment_of s due)
plain-says s accepted closed due said =
    subst (Says s accepted closed) (sym said.common.segment) (record { own = plain-of_user s accepted closed due said; reported = λ _. (said.opened, refl) })

due-says : (s : State) (accepted : List ℕ) (closed : Bool) (due : Due) → GoesOutAlone s accepted closed due → has rst (segment_of s due).flags ≡ false
    → Says s accepted closed (segment_of s due)
unfolding segment_of
due-says s accepted closed Reset out plain = absurd (false≢true (sym plain ∙ waiting-bit s s.pending.reset out.kind))
due-says s accepted closed Syn out plain = syn-speaks s accepted closed
due-says s accepted closed other out plain = plain-says s accepted closed other out.kind

-- what was put out is read as a segment that says what the end has
pub record Emits (s : State) (accepted : List ℕ) (closed : Bool) (to bytes : List ℕ) : Type 0 where
  pub content : Content
  pub read : decode_answer s.config.addr.0 to bytes ≡ Ok content
  pub says : has rst content.flags ≡ false → Says s accepted closed content

emits-due : (s : State) (accepted : List ℕ) (closed : Bool) (to bytes : List ℕ) (due : Option Due) → IfSome due (GoesOutAlone s accepted closed)
    → option_map {U = List ℕ × List ℕ} (λ due. ((destination_of s due).addr.0, bytes_of s due)) due ≡ Some (to, bytes) → Emits s accepted closed to bytes
unfolding bytes_of
emits-due s accepted closed to bytes None out e = absurd (cc)
emits-due s accepted closed to bytes (Some due) out e =
    let same : ((destination_of s due).addr.0, bytes_of s due) ≡ (to, bytes) = cc in
    let there : (destination_of s due).addr.0 ≡ to = ap (λ (segment : List ℕ × List ℕ). segment.0) same in
    let spelled : bytes_of s due ≡ bytes = ap (λ (segment : List ℕ × List ℕ). segment.1) same in
    record {
      content = segment_of s due;
      read = subst (λ (to : List ℕ). decode_answer s.config.addr.0 to bytes ≡ Ok (segment_of s due)) there
          (subst (λ (bytes : List ℕ). decode_answer s.config.addr.0 (destination_of s due).addr.0 bytes ≡ Ok (segment_of s due)) spelled
          (decoded_encoded s.config.addr.0 (destination_of s due).addr.0 (segment_of s due) out.valid));
      says = due-says s accepted closed due out;
    }

emits : (s : State) (accepted : List ℕ) (closed : Bool) (e : SoloContent) (to bytes : List ℕ) → IsAlone s accepted closed
    → segment_emitted s e ≡ Some (to, bytes) → Emits s accepted closed to bytes
unfolding segment_due segment_alone
emits s accepted closed Emit to bytes h is = emits-due s accepted closed to bytes (due_of s) (due-alone s accepted closed h) is
emits s accepted closed EmitAcknowledgement to bytes h is = emits-due s accepted closed to bytes (ack_alone s) (ack-alone-goes s accepted closed h) is
emits s accepted closed other to bytes h is = absurd (cc)

-- WHERE WHAT IT HAS CAME FROM stays so while more happens
came-more : (list : List SoloContent) (e : SoloContent) → Came list → Came (list ++ e ∷ [])
came-more list e h = record {
  front = h.front;
  src = h.src;
  dst = h.dst;
  bytes = h.bytes;
  rest = h.rest ++ e ∷ [];
  whole = ap (λ xs. xs ++ e ∷ []) h.whole ∙ append_assoc h.front (Arrive h.src h.dst h.bytes ∷ h.rest) (e ∷ []);
  content = h.content;
  read = h.read;
}

byte-more : (c : Config) (runs : ℕ) (list : List SoloContent) (e : SoloContent) (n byte : ℕ) → CameInWith c runs list n byte → CameInWith c runs (list ++ e ∷ []) n byte
unfolding came-more
byte-more c runs list e n byte h =
    record {
      came = came-more list e h.came;
      mine = h.mine;
      acceptable = h.acceptable;
      no_rst = h.no_rst;
      no_syn = h.no_syn;
      has_ack = h.has_ack;
      place = h.place;
      byte_is = h.byte_is;
      number = h.number;
    }

syn-more : (c : Config) (runs : ℕ) (list : List SoloContent) (e : SoloContent) (irs : ℕ) → TookSynWith c runs list irs → TookSynWith c runs (list ++ e ∷ []) irs
unfolding came-more
syn-more c runs list e irs h = record { came = came-more list e h.came; is_syn = h.is_syn; before = h.before; after = h.after; number = h.number }

-- the segment that comes last
came-last : (list : List SoloContent) (src dst bytes : List ℕ) (v : Content) → decode_answer src dst bytes ≡ Ok v → Came (list ++ Arrive src dst bytes ∷ [])
came-last list src dst bytes v e = record { front = list; src = src; dst = dst; bytes = bytes; rest = []; whole = refl; content = v; read = e }

text-came : (c : Config) (runs : ℕ) (list : List SoloContent) (x : SoloState) (src dst bytes : List ℕ) (v : Content) → alone_with_runs c runs list ≡ x
    → decode_answer src dst bytes ≡ Ok v
    → is_foreign x.endpoint src dst v ≡ false → IsTaken x.endpoint v
    → AllText (ByNumber (CameInWith c runs (list ++ Arrive src dst bytes ∷ [])) v.seq) 0 v.text
unfolding came-last
text-came c runs list x src dst bytes v at e mine fits =
    text-of (ByNumber (CameInWith c runs (list ++ Arrive src dst bytes ∷ [])) v.seq) 0 0 v.text refl (λ i byte is. record {
      came = came-last list src dst bytes v e;
      mine = ap (λ (y : SoloState). is_foreign y.endpoint src dst v) at ∙ mine;
      acceptable = ap (λ (y : SoloState). is_acceptable_segment y.endpoint v) at ∙ fits.acceptable;
      no_rst = fits.ack_only.plain;
      no_syn = fits.ack_only.no_syn;
      has_ack = fits.ack_only.is_ack;
      place = i;
      byte_is = is;
      number = ap (number v.seq) (omega arith);
    })

-- IRS so far: until a SYN is taken, the number of the last segment that came
abbrev pub seq_read : Result Content DecodeError → ℕ
seq_read (Ok v) = v.seq
seq_read (Err fault) = 0

-- what serves as IRS after an event
abbrev pub next_irs : State → ℕ → SoloContent → ℕ
next_irs s irs (Arrive src dst bytes) = if s.receiving.opened then irs else seq_read (decode_answer src dst bytes)
next_irs s irs other = irs

-- and after several
abbrev pub irs_of : SoloState → ℕ → List SoloContent → ℕ
irs_of x irs [] = irs
irs_of x irs (e ∷ list) = irs_of (after_solo x e) (next_irs x.endpoint irs e) list

-- WHAT HOLDS AFTER THESE EVENTS
pub record Holds (c : Config) (runs : ℕ) (list : List SoloContent) (x : SoloState) (irs k : ℕ) : Type 0 where
  pub at : alone_with_runs c runs list ≡ x
  pub config : x.endpoint.config ≡ c
  pub alone : IsAlone x.endpoint x.accepted x.closed
  pub fed : IsFed (CameInWith c runs list) x.endpoint.receiving irs k x.delivered (discards x.endpoint.ending)
  pub taken : x.endpoint.receiving.opened ≡ true → TookSynWith c runs list irs
  pub sends : SendsItsUsers c x.accepted x.closed x.emitted

-- one event more
pub run-last : (x : SoloState) (list : List SoloContent) (e : SoloContent) → solo_run x (list ++ e ∷ []) ≡ after_solo (solo_run x list) e
unfolding solo_run
run-last x [] e = refl
run-last x (first ∷ list) e = run-last (after_solo x first) list e

fed-irs : (P : ℕ → ℕ → Type 0) (s : State) (irs n k : ℕ) (delivered : List ℕ) → IsFed P s.receiving irs k delivered (discards s.ending)
    → IsFed P s.receiving (if s.receiving.opened then irs else n) k delivered (discards s.ending)
fed-irs P s irs n k delivered h =
    by_test s.receiving.opened (λ b. IsFed P s.receiving (if b then irs else n) k delivered (discards s.ending)) (λ _. h)
    (λ shut. fed-any P s.receiving irs n k delivered (discards s.ending) shut h)

-- a SYN came
abbrev pub IsSynRead : Result Content DecodeError → Type 0
IsSynRead (Ok v) = has syn v.flags ≡ true
IsSynRead (Err fault) = ⊥

feeds-reading : (P : ℕ → ℕ → Type 0) (s : State) (irs k : ℕ) (delivered accepted : List ℕ) (closed : Bool) (src dst bytes : List ℕ)
    (r : Result Content DecodeError) → AreBytes bytes → decode_answer src dst bytes ≡ r
    → IsAlone s accepted closed
    → ((v : Content) → decode_answer src dst bytes ≡ Ok v → is_foreign s src dst v ≡ false → IsTaken s v → AllText (ByNumber P v.seq) 0 v.text)
    → IsFed P s.receiving irs k delivered (discards s.ending)
    → Feeds P (IsSynRead r) s (after_reading s src dst r) (if s.receiving.opened then irs else seq_read r) k delivered
feeds-reading P s irs k delivered accepted closed src dst bytes (Ok v) fits e a came h =
    feeds-judgement P s (if s.receiving.opened then irs else v.seq) k delivered accepted closed src dst v (decoded_valid src dst v bytes fits e).seq a
    (λ shut. ap (λ (b : Bool). if b then irs else v.seq) shut) (came v e) (fed-irs P s irs v.seq k delivered h)
feeds-reading P s irs k delivered accepted closed src dst bytes (Err fault) fits e a came h =
    feeds-same P ⊥ s (if s.receiving.opened then irs else 0) k delivered (fed-irs P s irs 0 k delivered h)

-- what an arrival feeds came in its bytes, with its numbers
pub feeds-arrived : (P : ℕ → ℕ → Type 0) (s : State) (irs k : ℕ) (delivered accepted : List ℕ) (closed : Bool) (src dst bytes : List ℕ) → AreBytes bytes
    → IsAlone s accepted closed
    → ((v : Content) → decode_answer src dst bytes ≡ Ok v → is_foreign s src dst v ≡ false → IsTaken s v → AllText (ByNumber P v.seq) 0 v.text)
    → IsFed P s.receiving irs k delivered (discards s.ending)
    → Feeds P (IsSynRead (decode_answer src dst bytes)) s (after_arrival s src dst bytes)
    (if s.receiving.opened then irs else seq_read (decode_answer src dst bytes)) k delivered
feeds-arrived P s irs k delivered accepted closed src dst bytes fits a came h =
    let r = decode_answer src dst bytes in
    subst (λ (s' : State). Feeds P (IsSynRead r) s s' (if s.receiving.opened then irs else seq_read r) k delivered) (sym (read-arrival s src dst bytes r refl))
    (feeds-reading P s irs k delivered accepted closed src dst bytes r fits refl a came h)

-- a SYN came
abbrev pub BringsSyn : SoloContent → Type 0
BringsSyn (Arrive src dst bytes) = IsSynRead (decode_answer src dst bytes)
BringsSyn other = ⊥

-- the number of the last segment serves until a SYN is taken
pub fed-next : (P : ℕ → ℕ → Type 0) (s : State) (irs k : ℕ) (delivered : List ℕ) (e : SoloContent) → IsFed P s.receiving irs k delivered (discards s.ending)
    → IsFed P s.receiving (next_irs s irs e) k delivered (discards s.ending)
fed-next P s irs k delivered (Arrive src dst bytes) h = fed-irs P s irs (seq_read (decode_answer src dst bytes)) k delivered h
fed-next P s irs k delivered other h = h

-- by event
feeds-by : (c : Config) (runs : ℕ) (list : List SoloContent) (x : SoloState) (irs k : ℕ) (e : SoloContent) → HasRanges e → Holds c runs list x irs k
    → IsFed (CameInWith c runs (list ++ e ∷ [])) x.endpoint.receiving irs k x.delivered (discards x.endpoint.ending)
    → Feeds (CameInWith c runs (list ++ e ∷ [])) (BringsSyn e) x.endpoint (end_after x.endpoint e) (next_irs x.endpoint irs e) k
    (x.delivered ++ bytes_put_out x.endpoint e)
feeds-by c runs list x irs k e fits h fed =
    let P = λ (e : SoloContent) (s : State) (delivered : List ℕ). Feeds (CameInWith c runs (list ++ e ∷ [])) (BringsSyn e) x.endpoint s
    (next_irs x.endpoint irs e) k delivered in
    solo-step x (λ p. P e p.endpoint p.delivered) h.alone
    (λ peer _. feeds-calls _ (BringsSyn e) peer (party_in x) (next_irs x.endpoint irs e) k h.alone (fed-next _ x.endpoint irs k x.delivered e fed)) e fits
    (λ src dst bytes is. subst (λ e. P e (after_arrival x.endpoint src dst bytes) x.delivered) (sym is)
    (feeds-arrived _ x.endpoint irs k x.delivered x.accepted x.closed src dst bytes (subst HasRanges is fits) h.alone
    (λ v e mine ok. text-came c runs list x src dst bytes v h.at e mine ok)
    (subst (λ e. IsFed (CameInWith c runs (list ++ e ∷ [])) x.endpoint.receiving irs k x.delivered (discards x.endpoint.ending)) is fed)))

feeds-step : (c : Config) (runs : ℕ) (list : List SoloContent) (x : SoloState) (irs k : ℕ) (e : SoloContent) → HasRanges e → Holds c runs list x irs k
    → Feeds (CameInWith c runs (list ++ e ∷ [])) (BringsSyn e) x.endpoint (end_after x.endpoint e) (next_irs x.endpoint irs e) k
    (x.delivered ++ bytes_put_out x.endpoint e)
feeds-step c runs list x irs k e fits h =
    feeds-by c runs list x irs k e fits h
    (fed-more (CameInWith c runs list) (CameInWith c runs (list ++ e ∷ [])) x.endpoint.receiving irs k x.delivered (discards x.endpoint.ending) (byte-more c runs list e) h.fed)

-- IRS is what it was once a SYN was taken
pub irs-same : (s : State) (irs : ℕ) (e : SoloContent) → s.receiving.opened ≡ true → next_irs s irs e ≡ irs
irs-same s irs (Arrive src dst bytes) opened = ap (λ (b : Bool). if b then irs else seq_read (decode_answer src dst bytes)) opened
irs-same s irs other opened = refl

syn-read : (c : Config) (runs : ℕ) (list : List SoloContent) (x : SoloState) (irs : ℕ) (src dst bytes : List ℕ) (r : Result Content DecodeError)
    → decode_answer src dst bytes ≡ r → IsSynRead r → alone_with_runs c runs list ≡ x
    → x.endpoint.receiving.opened ≡ false → (after_arrival x.endpoint src dst bytes).receiving.opened ≡ true
    → TookSynWith c runs (list ++ Arrive src dst bytes ∷ []) (seq_read r)
unfolding came-last
syn-read c runs list x irs src dst bytes (Err fault) e is at shut opened = absurd is
syn-read c runs list x irs src dst bytes (Ok v) e is at shut opened = record {
  came = came-last list src dst bytes v e;
  is_syn = is;
  before = ap (λ (y : SoloState). y.endpoint.receiving.opened) at ∙ shut;
  after = ap (λ (y : SoloState). (after_arrival y.endpoint src dst bytes).receiving.opened) at ∙ opened;
  number = refl;
}

syn-new : (c : Config) (runs : ℕ) (list : List SoloContent) (x : SoloState) (irs : ℕ) (e : SoloContent) → BringsSyn e → alone_with_runs c runs list ≡ x
    → x.endpoint.receiving.opened ≡ false
    → (end_after x.endpoint e).receiving.opened ≡ true → TookSynWith c runs (list ++ e ∷ []) (next_irs x.endpoint irs e)
syn-new c runs list x irs (Arrive src dst bytes) is at shut opened =
    subst (TookSynWith c runs (list ++ Arrive src dst bytes ∷ [])) (ap (λ (b : Bool). if b then irs else seq_read (decode_answer src dst bytes)) (sym shut))
    (syn-read c runs list x irs src dst bytes (decode_answer src dst bytes) refl is at shut opened)
syn-new c runs list x irs other is at shut opened = absurd is

syn-step : (c : Config) (runs : ℕ) (list : List SoloContent) (x : SoloState) (irs k : ℕ) (e : SoloContent) → HasRanges e → Holds c runs list x irs k
    → (end_after x.endpoint e).receiving.opened ≡ true
    → TookSynWith c runs (list ++ e ∷ []) (next_irs x.endpoint irs e)
syn-step c runs list x irs k e fits h opened =
    let s = x.endpoint in
    by_test s.receiving.opened (λ _. TookSynWith c runs (list ++ e ∷ []) (next_irs s irs e))
    (λ had. subst (TookSynWith c runs (list ++ e ∷ [])) (sym (irs-same s irs e had)) (syn-more c runs list e irs (h.taken had)))
    (λ shut. ⊎_elim (λ (had : s.receiving.opened ≡ true). absurd (false≢true (sym shut ∙ had))) (λ is. syn-new c runs list x irs e is h.at shut opened)
    ((feeds-step c runs list x irs k e fits h).opens opened))

-- all that was emitted
sends-step : (c : Config) (runs : ℕ) (list : List SoloContent) (x : SoloState) (irs k : ℕ) (e : SoloContent) → Holds c runs list x irs k
    → SendsItsUsers c (x.accepted ++ bytes_taken x.endpoint e) (x.closed || is_close x.endpoint e) (x.emitted ++ option_to_list (segment_emitted x.endpoint e))
sends-step c runs list x irs k e h n to bytes is =
    let s = x.endpoint in
    let more : (v : Content) → IsOfUser c.isn.0 x.accepted x.closed v → IsOfUser c.isn.0 (x.accepted ++ bytes_taken s e) (x.closed || is_close s e) v =
    λ v own. of_user-grows c.isn.0 c.isn.0 x.accepted (bytes_taken s e) (x.accepted ++ bytes_taken s e) x.closed (x.closed || is_close s e) v refl refl
    (fixed-step s x.accepted x.closed e h.alone) own in
    ⊎_elim
    (λ (old : slice_get x.emitted n ≡ Some (to, bytes)). let had = h.sends n to bytes old in (had.0, had.1, λ plain. more had.0 (had.2 plain)))
    (λ (new : segment_emitted s e ≡ Some (to, bytes)).
    let out = emits s x.accepted x.closed e to bytes h.alone new in (
      out.content,
      subst (λ (c : Config). decode_answer c.addr.0 to bytes ≡ Ok out.content) h.config out.read,
      λ plain. more out.content (subst (λ (c : Config). IsOfUser c.isn.0 x.accepted x.closed out.content) h.config (out.says plain).own),
    ))
    (slice_get-more x.emitted (segment_emitted s e) n (to, bytes) is)

holds-step : (c : Config) (runs : ℕ) (list : List SoloContent) (x : SoloState) (irs k : ℕ) (e : SoloContent) → HasRanges e → Holds c runs list x irs k
    → Holds c runs (list ++ e ∷ []) (after_solo x e) (next_irs x.endpoint irs e) (k + count_come x.endpoint e)
holds-step c runs list x irs k e fits h =
    let feeds = feeds-step c runs list x irs k e fits h in
    record {
      at = run-last (solo_with_runs c runs) list e ∙ ap (λ (y : SoloState). after_solo y e) h.at;
      config = feeds.config ∙ h.config;
      alone = alone-step x e fits h.alone;
      fed = feeds.fed;
      taken = syn-step c runs list x irs k e fits h;
      sends = sends-step c runs list x irs k e h;
    }

-- ALL EVENTS
record HoldsAfter (c : Config) (runs : ℕ) (list rest : List SoloContent) (x : SoloState) (irs k : ℕ) : Type 0 where
  holds : Holds c runs (list ++ rest) (solo_run x rest) (irs_of x irs rest) (k + count_in_order x.endpoint rest)
  stays : x.endpoint.receiving.opened ≡ true → irs_of x irs rest ≡ irs

reaches : (c : Config) (runs : ℕ) (list rest : List SoloContent) (x : SoloState) (irs k : ℕ) → AllByRecursion HasRanges rest → Holds c runs list x irs k
    → HoldsAfter c runs list rest x irs k
unfolding solo_run count_in_order
reaches c runs list [] x irs k fits h =
    let none : k ≡ k + 0 = omega arith in
    record { holds = subst (λ (l : List SoloContent). Holds c runs l x irs (k + 0)) (sym (append-nil list)) (subst (Holds c runs list x irs) none h); stays = λ _. refl }
reaches c runs list (e ∷ rest) x irs k fits h =
    let s = x.endpoint in
    let next = holds-step c runs list x irs k e fits.0 h in
    let further = reaches c runs (list ++ e ∷ []) rest (after_solo x e) (next_irs s irs e) (k + count_come s e) fits.1 next in
    let sum : (k + count_come s e) + count_in_order (end_after s e) rest ≡ k + (count_come s e + count_in_order (end_after s e) rest) = omega arith in
    record {
      holds = subst (λ (l : List SoloContent). Holds c runs l (solo_run (after_solo x e) rest) (irs_of (after_solo x e) (next_irs s irs e) rest)
          (k + (count_come s e + count_in_order (end_after s e) rest)))
          (append_assoc list (e ∷ []) rest)
          (subst (Holds c runs ((list ++ e ∷ []) ++ rest) (solo_run (after_solo x e) rest) (irs_of (after_solo x e) (next_irs s irs e) rest)) sum further.holds);
      stays = λ opened. further.stays ((feeds-step c runs list x irs k e fits.0 h).stays opened) ∙ irs-same s irs e opened;
    }

holds-new : (c : Config) (runs : ℕ) → IsConfig c → Holds c runs [] (solo_with_runs c runs) 0 0
unfolding solo_run
holds-new c runs is = record {
  at = refl;
  config = refl;
  alone = alone-new c runs is;
  fed = fed-new (CameInWith c runs []) c.recv_capacity runs 0;
  taken = λ never. absurd (cc);
  sends = λ k to bytes never. absurd (cc);
}

irs-split : (x : SoloState) (irs : ℕ) (front rest : List SoloContent) → irs_of x irs (front ++ rest) ≡ irs_of (solo_run x front) (irs_of x irs front) rest
unfolding solo_run
irs-split x irs [] rest = refl
irs-split x irs (e ∷ front) rest = irs-split (after_solo x e) (next_irs x.endpoint irs e) front rest

all-split : (front rest : List SoloContent) → AllByRecursion HasRanges (front ++ rest) → AllByRecursion HasRanges front × AllByRecursion HasRanges rest
all-split [] rest fits = (tt, fits)
all-split (e ∷ front) rest fits = let both = all-split front rest fits.1 in ((fits.0, both.0), both.1)

-- WHAT IT HANDS OVER CAME
not-empty : (xs more : List ℕ) (i byte : ℕ) → xs ++ more ≡ [] → slice_get xs i ≡ Some byte → ⊥
not-empty [] more i byte none is = absurd (cc)
not-empty (x ∷ xs) more i byte none is = absurd (cc)

delivers-came : (c : Config) (runs : ℕ) (list : List SoloContent) (x : SoloState) (irs k : ℕ) → Holds c runs list x irs k → DeliversWhatCameWith c runs list x.delivered
delivers-came c runs list x irs k h =
    let r = x.endpoint.receiving in
    record {
      irs = irs;
      came = λ i byte is. (
        h.taken (by_test r.opened (λ b. b ≡ true) (λ _. refl) (λ shut. absurd (not-empty x.delivered r.inbox.unread i byte (h.fed.unopened shut).1 is))),
        text-at (ByNumber (CameInWith c runs list) irs) 1 x.delivered i (1 + i) byte refl is
            (text-front (ByNumber (CameInWith c runs list) irs) 1 x.delivered r.inbox.unread h.fed.text),
      );
    }

-- WHAT IT ACKNOWLEDGES IS IN ORDER
abbrev read_as : Content → Result Content DecodeError
read_as v = Ok v

-- what two segments were read as is the same
pub content-is : {v w : Content} → read_as v ≡ read_as w → v ≡ w
content-is e = cc

acknowledges : (c : Config) (runs : ℕ) (list : List SoloContent) → IsConfig c → AllByRecursion HasRanges list → AcknowledgesInOrderWith c runs list
acknowledges c runs list is fits = record {
  irs = irs_of (solo_with_runs c runs) 0 list;
  reported = λ front rest event to bytes v whole due read plain acked.
      let all = all-split front (event ∷ rest) (subst (AllByRecursion HasRanges) whole fits) in
      let start = holds-new c runs is in
      let x = alone_with_runs c runs front in
      let count : 0 + count_in_order (end_with_runs c runs) front ≡ count_in_order (end_with_runs c runs) front = omega arith in
      let irs = irs_of (solo_with_runs c runs) 0 front in
      let there = reaches c runs [] front (solo_with_runs c runs) 0 0 all.0 start in
      let beyond = reaches c runs front (event ∷ rest) x irs (0 + count_in_order (end_with_runs c runs) front) all.1 there.holds in
      let out = emits x.endpoint x.accepted x.closed event to bytes there.holds.alone due in
      let same : out.content ≡ v = content-is (sym out.read ∙ ap (λ (c : Config). decode_answer c.addr.0 to bytes) there.holds.config ∙ read) in
      let says = out.says (ap (λ (w : Content). has rst w.flags) same ∙ plain) in
      let told = says.reported (ap (λ (w : Content). has ack w.flags) same ∙ acked) in
      let one : irs_of (solo_with_runs c runs) 0 list ≡ irs = ap (irs_of (solo_with_runs c runs) 0) whole ∙ irs-split (solo_with_runs c runs) 0 front (event ∷ rest) ∙
      beyond.stays told.0 in (
        subst (TookSynWith c runs front) (sym one) (there.holds.taken told.0),
        ap (λ (w : Content). w.ack) (sym same) ∙ told.1 ∙ there.holds.fed.next told.0
            ∙ ap (λ (n : ℕ). number irs (1 + n + one_if x.endpoint.receiving.finished)) count ∙ ap (λ (n : ℕ). number n (rcv_position_with c runs front)) (sym one),
      );
}

-- ONE END IS TRUE, over every list of events, whoever its peer is, whatever number of runs it keeps
pub one_end_is_true_lem : OneEndIsTrueWithRuns
one_end_is_true_lem c runs list is fits =
    let there = reaches c runs [] list (solo_with_runs c runs) 0 0 fits (holds-new c runs is) in
    record {
      sends = there.holds.sends;
      delivers = delivers-came c runs list (alone_with_runs c runs list) (irs_of (solo_with_runs c runs) 0 list)
          (0 + count_in_order (end_with_runs c runs) list) there.holds;
      acknowledges = acknowledges c runs list is fits;
    }
