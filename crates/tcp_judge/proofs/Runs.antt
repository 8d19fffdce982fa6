-- ONE END after every list of events, against what a judge heard of it: each segment that it emits is of form, and acknowledges what
-- came.
use Rattle.std.proofs.Common.{◌≡◌, ℕ, ◌+◌, List, [], ◌∷◌, ◌++◌, refl, sym, ◌∙◌, ap, subst, ⊎_elim, arith, ◌<◌, ◌≤◌, ◌^◌, length, Bool, true, false}
use Rattle.std.proofs.Common.{if◌then◌else◌, Option, Some, None, IfSome, option_map, Result, Ok, is_some, not, ◌&&◌, ◌||◌}
use Rattle.std.specs.List.{AllByRecursion}
use Rattle.std.proofs.lemmas.Bool.{false≢true, cond_both, and_parts, cases_lt, not-true}
use Rattle.tcp_wire.specs.Decoded.{decode_answer}
use Rattle.tcp_wire.specs.Flags.{rst, ack, has, syn}
use Rattle.tcp_wire.specs.Position.{number, distance}
use Rattle.tcp_wire.specs.Wire.{Content, encoded_bytes}
use Rattle.tcp_wire.specs.declared.fault.DecodeError.{DecodeError}
use Rattle.tcp_wire.proofs.RoundTrip.{decoded_encoded}
use Rattle.tcp_reasm.specs.Reassembly.{max_capacity}
use Rattle.tcp_halves.specs.declared.config.Config.{Config}
use Rattle.tcp_conn.specs.declared.emit.due.Due.{Due}
use Rattle.tcp_conn.specs.declared.emit.due.Due.TheVariants.{Reset, Syn, Acknowledgement}
use Rattle.tcp_halves.specs.declared.link.WaitingReset.{WaitingReset}
use Rattle.tcp_halves.specs.Config.{IsConfig}
use Rattle.tcp_conn.specs.Phase.{discards}
use Rattle.tcp_conn.specs.State.{State}
use Rattle.tcp_conn.specs.Due.{ack_alone, due_of}
use Rattle.tcp_conn.specs.Forms.{segment_of, shift_offered, is_sack_offered, scale_options, permission_options, syn_segment, plain_segment, waiting_segment}
use Rattle.tcp_conn.specs.Writing.{bytes_of, destination_of}
use Rattle.tcp_replay.specs.Alone.{IsAlone}
use Rattle.tcp_replay.specs.Solo.{SoloState, solo_with_runs, end_after, segment_alone, segment_due, after_solo}
use Rattle.tcp_replay.specs.SoloEvents.{SoloContent, HasRanges, Emit, EmitAcknowledgement}
use Rattle.tcp_replay.proofs.Lists.{by_test, one_if}
use Rattle.tcp_replay.proofs.one_end.Alone.{alone-new}
use Rattle.tcp_replay.proofs.one_end.AloneCalls.{IsAloneIn}
use Rattle.tcp_replay.proofs.one_end.AloneEmissions.{GoesOutAlone, ack-alone-goes, due-alone}
use Rattle.tcp_replay.proofs.pair.Emissions.{syn-opened, due-bits, waiting-bit}
use Rattle.tcp_replay.proofs.one_end.Feeds.{ByNumber}
use Rattle.tcp_numbers.specs.declared.seq.Seq.{Seq}
use Rattle.tcp_replay.proofs.one_end.SoloRuns.{party_in, alone-step}
use Rattle.tcp_replay.proofs.one_end.Phases.{handshake-knows}
use Rattle.tcp_judge.specs.Heard.{Heard, nothing_heard, has_come, goes_on, begins, is_of_came, is_further, carries_ack, acks_beyond, goes_further, without_passed}
use Rattle.tcp_judge.specs.Heard.{after_acknowledging, after_telling, after_went, ports_after}
use Rattle.tcp_judge.specs.Heard.{any_scale, answers_more, oversteps}
use Rattle.tcp_judge.specs.Log.{PassageContent, went_from, log_of, log_with_runs}
use Rattle.tcp_judge.specs.Rules.{ack_finding}
use Rattle.tcp_judge.specs.Law.{heard_went, AllSaidRight}
use Rattle.tcp_judge.proofs.Numbers.{HasSyn, begins-at, positions-came, still-come}
use Rattle.tcp_judge.proofs.Streams.{none-found, unless}
use Rattle.tcp_judge.proofs.Links.{Offered}
use Rattle.tcp_judge.proofs.Blocks.{due-report}
use Rattle.tcp_judge.proofs.Forms.{due-form}
use Rattle.tcp_judge.proofs.PeerNotDiscarded.{not-gone}
use Rattle.tcp_judge.proofs.Elsewhere.{ports-due}
use Rattle.tcp_judge.proofs.Heeding.{Heeds, heard_next, heeds-step}
use Rattle.tcp_judge.proofs.Hears.{IsSince, since-most, Hears, hears-new, held-inside}
use Rattle.tcp_judge.proofs.Hearings.{address-step}

-- ACKNOWLEDGEMENTS
record CarriesAck (s : State) (v : Content) : Type 0 where
  opened : s.receiving.opened ≡ true
  next : v.ack ≡ s.receiving.rcv_nxt
  gone : discards s.ending ≡ false

due-carries_ack : (s : State) (accepted : List ℕ) (closed : Bool) (due : Due) → GoesOutAlone s accepted closed due → IsAlone s accepted closed
    → has rst (segment_of s due).flags ≡ false → has ack (segment_of s due).flags ≡ true → CarriesAck s (segment_of s due)
unfolding segment_of
due-carries_ack s accepted closed Reset out a plain acked_number = absurd (false≢true (sym plain ∙ waiting-bit s s.pending.reset out.kind))
due-carries_ack s accepted closed Syn out a plain acked_number =
    let opened = syn-opened s acked_number in
    record {
      opened = opened;
      next = ap (λ (b : Bool). if b then s.receiving.rcv_nxt else 0) opened;
      gone = not-gone s accepted closed (handshake-knows s.phase out.kind) a;
    }
due-carries_ack s accepted closed other out a plain acked_number =
    record { opened = out.kind.opened; next = refl; gone = not-gone s accepted closed out.kind.knows a }

-- every position from the last one that was told up to the next one that is wanted came
wanted-came : (x : SoloState) (h : Heard) (irs k p : ℕ) (hears : Hears h x irs k) → discards x.endpoint.ending ≡ false → hears.since ≤ p
    → p < 1 + k + one_if x.endpoint.receiving.finished → has_come h.spans (number irs p) ≡ true
wanted-came x h irs k p hears here from below =
    ⊎_elim (λ (inside : p < 1 + k). (hears.comes here).text p from inside)
    (λ (behind : 1 + k ≤ p).
    by_test x.endpoint.receiving.finished (λ b. p < 1 + k + one_if b → has_come h.spans (number irs p) ≡ true)
    (λ done less.
    let same : 1 + k ≡ p = omega (arith, behind, less) in
    subst (λ (n : ℕ). has_come h.spans (number irs n) ≡ true) same (hears.fin done (omega (arith, same, from))))
    (λ _ less. absurd (omega (arith, behind, less))) below)
    (cases_lt p (1 + k))

-- so what is told next continues from it
reach : (x : SoloState) (h : Heard) (irs k : ℕ) (v : Content) (hears : Hears h x irs k) → CarriesAck x.endpoint v
    → goes_on h.spans (number irs hears.since) v.ack ≡ true
reach x h irs k v hears t =
    let r = x.endpoint.receiving in
    let to = 1 + k + one_if r.finished in
    let most = since-most h.acked_number r irs k hears.since hears.acked_number in
    subst (λ (n : ℕ). goes_on h.spans (number irs hears.since) n ≡ true) (sym (t.next ∙ hears.fed.next t.opened))
    (positions-came h.spans irs hears.since to most (λ p from below. wanted-came x h irs k p hears t.gone from below))

acked_number-right : (x : SoloState) (h : Heard) (irs k since : ℕ) (v : Content) (acked_number : Option Seq) → IsSince acked_number x.endpoint.receiving irs k since
    → (acked_number ≡ None → HasSyn h.syns irs) → goes_on h.spans (number irs since) v.ack ≡ true → is_of_came acked_number h.spans h.syns v.ack ≡ true
acked_number-right x h irs k since v None first has_syn goes =
    begins-at h.spans h.syns irs v.ack (has_syn refl) (subst (λ (n : ℕ). goes_on h.spans (number irs n) v.ack ≡ true) first goes)
acked_number-right x h irs k since v (Some a) before has_syn goes =
    ap (λ (b : Bool). b || begins h.spans h.syns v.ack) (subst (λ (n : ℕ). goes_on h.spans n v.ack ≡ true) (sym before.number_is) goes)

-- AFTER IT each number from it on is known to have come
goes-acked_number : (h : Heard) (v : Content) → goes_further h v ≡ true → carries_ack v ≡ true
goes-acked_number h v e =
    (and_parts (carries_ack v) (is_further h.acked_number h.spans h.syns v.ack && is_of_came h.acked_number h.spans h.syns v.ack) e).0

after-acknowledging : (h : Heard) (x : SoloState) (irs k : ℕ) (v : Content) → Hears h x irs k → CarriesAck x.endpoint v → Hears (after_acknowledging h v.ack) x irs k
after-acknowledging h x irs k v hears t =
    let r = x.endpoint.receiving in
    let next : v.ack ≡ number irs (1 + k + one_if r.finished) = t.next ∙ hears.fed.next t.opened in
    let P : ℕ → ℕ → Type 0 = λ n byte. has_come h.spans n ≡ true in
    let P' : ℕ → ℕ → Type 0 = λ n byte. has_come (without_passed v.ack h.spans) n ≡ true in
    record {
      since = 1 + k + one_if r.finished;
      acked_number = record { opened = t.opened; least = omega arith; most = omega arith; number_is = next };
      fed = hears.fed;
      comes = λ going. record {
        text = λ p from below. absurd (omega (arith, from, below));
        held = held-inside (ByNumber P r.rcv_nxt) (ByNumber P' r.rcv_nxt) 0 r.inbox.held
            (λ i byte _ below came.
            let small : v.ack < 2 ^ 32 = omega (arith, next) in
            let near : distance v.ack (number r.rcv_nxt i) ≡ i = omega (arith, next, t.next, below, hears.room.received, hears.small) in
            still-come h.spans v.ack (number r.rcv_nxt i) small (omega (arith, near, below, hears.room.received, hears.small)) came)
            (hears.comes going).held;
      };
      syn = λ never. absurd (cc);
      fin = λ done from. absurd (omega (arith, from, ap one_if done));
      capacity = hears.capacity;
      small = hears.small;
      room = hears.room;
      offered = hears.offered;
    }

-- whatever the ports are
with-ports : (h : Heard) (x : SoloState) (irs k : ℕ) (ports : Option (ℕ × ℕ)) → Hears h x irs k → Hears (record h { ports = ports }) x irs k
with-ports h x irs k ports hears = record {
  since = hears.since;
  acked_number = hears.acked_number;
  fed = hears.fed;
  comes = hears.comes;
  syn = hears.syn;
  fin = hears.fin;
  capacity = hears.capacity;
  small = hears.small;
  room = hears.room;
  offered = hears.offered;
}

record HasAcked (h : Heard) (x : SoloState) (irs k : ℕ) (v : Content) : Type 0 where
  right : ack_finding h v ≡ None
  after : Hears (after_went h v) x irs k

carries_ack-right : (h : Heard) (x : SoloState) (irs k : ℕ) (v : Content) → Hears h x irs k
    → (has rst v.flags ≡ false → has ack v.flags ≡ true → CarriesAck x.endpoint v) → HasAcked h x irs k v
carries_ack-right h x irs k v hears tell =
    let r = x.endpoint.receiving in
    let plain : carries_ack v ≡ true → CarriesAck x.endpoint v = λ e. tell (not-true (has rst v.flags) (and_parts (has ack v.flags) (not (has rst v.flags)) e).1)
    (and_parts (has ack v.flags) (not (has rst v.flags)) e).0 in
    record {
      right = none-found (acks_beyond h v) _
          (unless (carries_ack v) (not (is_of_came h.acked_number h.spans h.syns v.ack))
          (λ e. let t = plain e in
          ap not (acked_number-right x h irs k hears.since v h.acked_number hears.acked_number (λ silent. hears.syn silent t.opened) (reach x h irs k v hears t))));
      after = with-ports (after_telling h v) x irs k (ports_after h.ports v)
          (cond_both (goes_further h v) (after_acknowledging h v.ack) h (λ (g : Heard). Hears g x irs k)
          (λ e. after-acknowledging h x irs k v hears (plain (goes-acked_number h v e))) (λ _. hears));
    }

-- A SYN that answers has what was offered
syn-scale : (shift : Option ℕ) (offered : Bool) → any_scale (scale_options shift ++ permission_options offered) ≡ is_some shift
syn-scale None true = refl
syn-scale None false = refl
syn-scale (Some n) true = refl
syn-scale (Some n) false = refl

scale-in_use : (opened scaling : Bool) (shift : Option ℕ) → opened ≡ true → is_some (if opened && not scaling then None else shift) ≡ true → scaling ≡ true
scale-in_use opened true shift e is = refl
scale-in_use opened false shift e is =
    absurd (false≢true (ap (λ (b : Bool). is_some (if b && true then None else shift)) (sym e) ∙ is))

syn-answers : (s : State) (h : Heard) → Offered h.scaling h.sack s.link → oversteps h (syn_segment s) ≡ false
syn-answers s h offered =
    let options = syn-scale (shift_offered s) (is_sack_offered s) in
    unless (has syn (syn_segment s).flags && has ack (syn_segment s).flags) (answers_more h (syn_segment s).options)
    (λ e.
    let opened : s.receiving.opened ≡ true = syn-opened s (and_parts (has syn (syn_segment s).flags) (has ack (syn_segment s).flags) e).1 in
    unless (any_scale (syn_segment s).options) (not h.scaling)
    (λ has_scale. ap not (offered.scaling_is (scale-in_use s.receiving.opened s.link.scaling s.config.window_shift opened (sym options ∙ has_scale)))))

plain-answers : (s : State) (h : Heard) (due : Due) → oversteps h (plain_segment s due) ≡ false
plain-answers s h due =
    let bits = due-bits s.sending due in
    ap (λ (b : Bool). (b && has ack (plain_segment s due).flags) && answers_more h (plain_segment s due).options) bits.0

reset-answers : (acked_number : Bool) (more : Bool)
    → ((has syn (rst + (if acked_number then ack else 0)) && has ack (rst + (if acked_number then ack else 0))) && more) ≡ false
reset-answers true more = refl
reset-answers false more = refl

waiting-answers : (s : State) (h : Heard) (waiting : Option WaitingReset) → oversteps h (waiting_segment s waiting) ≡ false
waiting-answers s h None = plain-answers s h Acknowledgement
waiting-answers s h (Some reset) = reset-answers (is_some reset.ack) (answers_more h [])

due-answers : (s : State) (h : Heard) (due : Due) → Offered h.scaling h.sack s.link → oversteps h (segment_of s due) ≡ false
unfolding segment_of
due-answers s h Reset offered = waiting-answers s h s.pending.reset
due-answers s h Syn offered = syn-answers s h offered
due-answers s h other offered = plain-answers s h other

-- its address stays
still-at : (src : List ℕ) (x : SoloState) (e : SoloContent) (h : Heard) → HasRanges e → IsAloneIn (party_in x) → Heeds h x → x.endpoint.config.addr.0 ≡ src
    → (end_after x.endpoint e).config.addr.0 ≡ src
still-at src x e h fits a heeds at = ap (λ (c : Config). c.addr.0) (address-step x e h heeds.irs heeds.k fits a heeds.hears) ∙ at

-- WHAT GOES OUT, and all after it
said-due : (src : List ℕ) (x : SoloState) (h : Heard) (log : List PassageContent) (due : Option Due) → x.endpoint.config.addr.0 ≡ src
    → IfSome due (GoesOutAlone x.endpoint x.accepted x.closed) → IsAloneIn (party_in x) → Heeds h x
    → ((h' : Heard) → Heeds h' x → AllSaidRight h' log)
    → AllSaidRight h (went_from src (option_map {U = List ℕ × List ℕ} (λ due. ((destination_of x.endpoint due).addr.0, bytes_of x.endpoint due)) due) ++ log)
unfolding bytes_of
said-due src x h log None at out a heeds further = further h heeds
said-due src x h log (Some due) at out a heeds further =
    let s = x.endpoint in
    let irs = heeds.irs in
    let k = heeds.k in
    let hears = heeds.hears in
    let v = segment_of s due in
    let to = (destination_of s due).addr.0 in
    let bytes = encoded_bytes s.config.addr.0 to v in
    let read : decode_answer src to bytes ≡ Ok v =
    subst (λ (src : List ℕ). decode_answer src to bytes ≡ Ok v) at (decoded_encoded s.config.addr.0 to v out.valid) in
    let acked_number = carries_ack-right h x irs k v hears (due-carries_ack s x.accepted x.closed due out a) in
    let small : length s.receiving.inbox.held ≤ max_capacity = omega (arith, hears.room.received, hears.small) in (
      (
        v,
        read,
        due-form s x.accepted x.closed due out a,
        rw (acked_number.right, none-found (oversteps h v) _ (due-answers s h due hears.offered))
            (due-report s x.accepted x.closed h due out a hears.offered small (λ going. (hears.comes going).held)),
      ),
      subst (λ (r : Result Content DecodeError). AllSaidRight (heard_went h r) log) (sym read)
          (further (after_went h v) (record { irs = irs; k = k; hears = acked_number.after; ports = ports-due h.ports s x.accepted x.closed due out heeds.ports })),
    )

runs : (src : List ℕ) (x : SoloState) (list : List SoloContent) (h : Heard) → x.endpoint.config.addr.0 ≡ src → AllByRecursion HasRanges list
    → IsAloneIn (party_in x) → Heeds h x → AllSaidRight h (log_of src x.endpoint list)
unfolding log_of segment_due segment_alone
runs src x [] h at fits a heeds = tt
runs src x (Emit ∷ list) h at fits a heeds =
    said-due src x h (log_of src (end_after x.endpoint Emit) list) (due_of x.endpoint) at (due-alone x.endpoint x.accepted x.closed a) a heeds
    (λ h' heeds'. runs src (after_solo x Emit) list h' (still-at src x Emit h' fits.0 a heeds' at) fits.1 (alone-step x Emit fits.0 a)
    (heeds-step x h' a heeds' Emit fits.0))
runs src x (EmitAcknowledgement ∷ list) h at fits a heeds =
    let e = EmitAcknowledgement in
    said-due src x h (log_of src (end_after x.endpoint e) list) (ack_alone x.endpoint) at (ack-alone-goes x.endpoint x.accepted x.closed a) a heeds
    (λ h' heeds'. runs src (after_solo x e) list h' (still-at src x e h' fits.0 a heeds' at) fits.1 (alone-step x e fits.0 a) (heeds-step x h' a heeds' e fits.0))
runs src x (e ∷ list) h at fits a heeds =
    runs src (after_solo x e) list (heard_next h e) (still-at src x e h fits.0 a heeds at) fits.1 (alone-step x e fits.0 a) (heeds-step x h a heeds e fits.0)

pub said-right : (c : Config) (most : ℕ) (list : List SoloContent) → IsConfig c → AllByRecursion HasRanges list
    → AllSaidRight nothing_heard (log_with_runs c most list)
said-right c most list is fits =
    runs c.addr.0 (solo_with_runs c most) list nothing_heard refl fits (alone-new c most is)
    (record { irs = 0; k = 0; hears = hears-new c most is; ports = tt })
