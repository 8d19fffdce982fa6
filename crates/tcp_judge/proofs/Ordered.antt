-- ONE END after every list of events, against what a judge knows of what went: no text goes out before the SYN is acknowledged, nothing
-- after the own reset, and nothing behind a gap.
use Rattle.tcp_replay.proofs.Words.{nat_lt, ◌≡◌, ℕ, ◌+◌, ◌<◌, ◌≤◌, ◌^◌, ◌++◌, max, Bool, true, false, not, ◌&&◌, List, [], ◌∷◌, length, Option, Some, None, IfSome, is_some, Result, Ok, Err}
use Rattle.tcp_replay.proofs.Words.{refl, sym, ◌∙◌, ap, subst, arith, cond_both, and_parts, inl, inr, ⊎_elim, count_come, AllByRecursion, option_map, number, position_of, if◌then◌else◌, false≢true}
use Rattle.tcp_replay.proofs.Words.{Content, DecodeError, decode_answer, decoded_encoded, State, Sending, Due, Syn, Reset, segment_of, destination_of, bytes_of}
use Rattle.tcp_replay.proofs.Words.{IsAlone, IsConfig, Config, due_of, ack_alone, start_of, end_of, is_handshake, rst, has, after_emission, after_ack_alone}
use Rattle.tcp_replay.proofs.Words.{SoloState, SoloContent, HasRanges, solo_with_runs, after_solo, end_after, segment_due, segment_alone, IsOfUser}
use Rattle.tcp_replay.proofs.Words.{after_reading, after_due, plain_segment, syn_segment, waiting_segment, WaitingReset}
use Rattle.tcp_replay.specs.SoloEvents.{Emit, EmitAcknowledgement, Arrive}
use Rattle.tcp_wire.specs.Flags.{syn, fin, ack}
use Rattle.tcp_wire.specs.Wire.{encoded_bytes}
use Rattle.tcp_numbers.specs.declared.seq.Seq.{Seq}
use Rattle.tcp_wire.proofs.Lemmas.{position_of_number}
use Rattle.tcp_conn.specs.declared.phase.Phase.{Phase}
use Rattle.tcp_conn.specs.declared.phase.Phase.TheVariants.{SynSent, SynReceived}
use Rattle.tcp_conn.specs.declared.phase.Ending.{Ending}
use Rattle.tcp_replay.specs.Alone.{FitsPhase}
use Rattle.tcp_replay.proofs.Lists.{one_if, by_test}
use Rattle.tcp_replay.proofs.Lemmas.{GoesOutAlone, due-alone, MayGoOut, handshake-knows, due-kept, ack_alone-kept, due-bits, syn-bits, waiting-bit}
use Rattle.tcp_replay.proofs.one_end.Alone.{alone-new}
use Rattle.tcp_replay.proofs.one_end.AloneCalls.{IsAloneIn}
use Rattle.tcp_replay.proofs.one_end.AloneEmissions.{ack-alone-goes}
use Rattle.tcp_replay.proofs.one_end.SoloRuns.{party_in, alone-step, read-arrival, content-is, next_irs}
use Rattle.tcp_judge.specs.Heard.{Heard, nothing_heard, is_elsewhere}
use Rattle.tcp_judge.specs.Stream.{Stream, count_sent, count_taken}
use Rattle.tcp_judge.specs.Known.{Known, nothing_known, initial_after, place_by, place_of, leads_back, known_after, known_with}
use Rattle.tcp_judge.specs.Heard.{is_syn}
use Rattle.tcp_judge.specs.Log.{PassageContent, Came, Went, went_from, log_of, log_with_runs}
use Rattle.tcp_judge.specs.Judgement.{known_read, known_came}
use Rattle.tcp_judge.specs.Rules.{is_stray, precedes_ack, follows_reset, order_by, order_finding}
use Rattle.tcp_judge.specs.Taken.{taken_of}
use Rattle.tcp_judge.specs.declared.finding.Finding.TheVariants.{BeforeAck, AfterReset, BeyondWindow}
use Rattle.tcp_judge.proofs.Hearing.{heard_past}
use Rattle.tcp_judge.proofs.Hears.{Hears, hears-new}
use Rattle.tcp_judge.proofs.Hearings.{hears-step, address-step}
use Rattle.tcp_judge.proofs.Streams.{none-found, IsKnown, nothing-known, IsAt, part-most, placed-plain, known-kept, came-kept}
use Rattle.tcp_judge.proofs.InFlight.{IsInFlight}
use Rattle.tcp_judge.proofs.Reaching.{Reaches, reaches-due, stays-step}
use Rattle.tcp_judge.proofs.Follows.{place-reset, FollowsBy, Follows, IsUpTo, fin-one, plain-initial, known-or_not, place-unknown, follows-least, follows-moved, follows-came, Goes, goes-unplaced, goes-reset, goes-syn, goes-placed}
use Rattle.tcp_judge.proofs.Acked.{Waits, KnowsAck, knows-went, late-reset, late-syn, late-plain, known_from, ack-reading, still-known}
use Rattle.tcp_judge.proofs.Elsewhere.{HasPorts, over-step, ports-step, ports-came, ports-due, elsewhere-reading}
use Rattle.tcp_judge.proofs.Resets.{IsQuiet, KnowsEnd, open-ended, after-open, after-reset}
use Rattle.tcp_judge.proofs.Resets.{end-plain, end-reset, KnowsQuiet}
use Rattle.tcp_judge.proofs.Answering.{IsOwn, MayGo, KnowsReset, waiting-step, came-resets, plain-passes, reset-passes}
use Rattle.tcp_judge.proofs.Steps.{flight-step, probes-step, waits-step, una-step, knows-fewer, edge-step, quiet-step, quiet-out, waits-out}
use Rattle.tcp_judge.proofs.Probing.{Probes}
use Rattle.tcp_judge.proofs.Edges.{KnowsEdge, edge-came, edge-went, beyond-unplaced, beyond-syn, beyond-none}
use Rattle.tcp_judge.specs.Edge.{is_past}
use Rattle.tcp_judge.proofs.Users.{AllWent, IsUsers}

-- WHAT EACH SEGMENT THAT WENT KEEPS
abbrev pub IsInOrder : Known → Result Content DecodeError → Type 0
IsInOrder k (Ok v) = order_finding k (place_of k v) v ≡ None
IsInOrder k (Err fault) = Unit {0}

abbrev pub AllInOrder : Known → List PassageContent → Type 0
AllInOrder k [] = Unit {0}
AllInOrder k (Came src dst bytes ∷ log) = AllInOrder (known_came k (taken_of src dst bytes)) log
AllInOrder k (Went src dst bytes ∷ log) = IsInOrder k (decode_answer src dst bytes) × AllInOrder (known_read k (decode_answer src dst bytes)) log

-- in the handshake the SYN alone went
handshake-nxt : (phase : Phase) (ending : Ending) (snd_una snd_nxt : ℕ) (opened finished : Bool) → is_handshake phase ≡ true
    → FitsPhase phase ending snd_una snd_nxt opened finished → snd_nxt ≡ 1
handshake-nxt SynSent ending snd_una snd_nxt opened finished e h = h.1.snd_nxt_is
handshake-nxt SynReceived ending snd_una snd_nxt opened finished e h = h.1.snd_nxt_is
handshake-nxt other ending snd_una snd_nxt opened finished e h = absurd (cc)

syn-plain : (opened : Bool) → has rst (syn + (if opened then ack else 0)) ≡ false
syn-plain true = refl
syn-plain false = refl

waiting-empty : (s : State) (waiting : Option WaitingReset) → has syn (waiting_segment s waiting).flags ≡ true → length (waiting_segment s waiting).text ≡ 0
waiting-empty s None e = refl
waiting-empty s (Some reset) e = refl

is-syn : (s : State) → is_syn (syn_segment s) ≡ true
is-syn s = rw ((syn-bits s.receiving.opened).0, syn-plain s.receiving.opened) refl

follows-unknown : (known : Option Seq) (d : Stream) (fin : Option ℕ) (n m : ℕ) → known ≡ None → FollowsBy known d fin n → FollowsBy known d fin m
follows-unknown None d fin n m e h = h
follows-unknown (Some first) d fin n m e h = absurd (cc)

module _ (isn : ℕ) (accepted : List ℕ) (closed : Bool) (small : isn < 2 ^ 32) (short : 2 + length accepted < 2 ^ 31) where
  -- ONE SEGMENT: text, FIN or an acknowledgement, where it begins
  record IsPlaced (s : State) (due : Due) (k : Known) (first : Seq) : Type 0 where
    up : IsUpTo k.stream k.fin s.sending.snd_nxt
    there : place_of k (plain_segment s due) ≡ start_of s.sending due
    at : IsAt accepted (place_of k (plain_segment s due)) (plain_segment s due)

  is-placed : (s : State) (due : Due) (k : Known) (first : Seq) → k.initial ≡ Some first → s.config.isn.0 ≡ isn → Reaches s.sending due → IsKnown isn accepted k
      → Follows k s.sending.snd_nxt → IsOfUser isn accepted closed (plain_segment s due) → IsPlaced s due k first
  is-placed s due k first known_first same reaches known follows user =
      let d = s.sending in
      let v = plain_segment s due in
      let bits = due-bits d due in
      let count = count_sent k.stream in
      let start = start_of d due in
      let bare : is_syn v ≡ false = ap (λ b. b && not (has rst v.flags)) bits.0 in
      let number_is : first.0 ≡ isn = subst (λ (o : Option Seq). IfSome o (λ n. n.0 ≡ isn)) known_first known.initial in
      let up : IsUpTo k.stream k.fin d.snd_nxt = subst (λ (o : Option Seq). FollowsBy o k.stream k.fin d.snd_nxt) known_first follows in
      let part = part-most accepted k.stream known.stream in
      let near : position_of isn count (number isn start) ≡ start =
      position_of_number isn count start small (omega (arith, reaches.start, up.next, fin-one k.fin, part, short)) (omega (arith, part, short)) in
      let placed : position_of first.0 count v.seq ≡ start =
      ap (λ i. position_of i count v.seq) number_is ∙ ap (λ i. position_of isn count (number i start)) same ∙ near in
      let there : place_of k v ≡ start =
      ap (λ (o : Option Seq). place_by o count v) (plain-initial k.initial v bare ∙ known_first)
      ∙ ap (λ (b : Bool). if b then 0 else position_of first.0 count v.seq + (if has syn v.flags then 1 else 0)) bits.2
      ∙ ap (λ (b : Bool). position_of first.0 count v.seq + (if b then 1 else 0)) bits.0 ∙ omega (arith, placed) in
      record {
        up = up;
        there = there;
        at = subst (λ (i : ℕ). IsAt accepted i v)
            (ap (λ (b : Bool). position_of first.0 count v.seq + (if b then 1 else 0)) bits.0 ∙ omega (arith, placed, there))
            (placed-plain isn accepted closed small short first count v number_is part user);
      }

  goes-plain : (s : State) (due : Due) (k : Known) → s.config.isn.0 ≡ isn → Reaches s.sending due → IsKnown isn accepted k → Follows k s.sending.snd_nxt
      → IsOfUser isn accepted closed (plain_segment s due) → Goes k (plain_segment s due) (max s.sending.snd_nxt (end_of s.sending due))
  goes-plain s due k same reaches known follows user =
      let d = s.sending in
      let v = plain_segment s due in
      let bits = due-bits d due in
      let bare : is_syn v ≡ false = ap (λ b. b && not (has rst v.flags)) bits.0 in
      ⊎_elim
      (λ (none : k.initial ≡ None).
      goes-unplaced k v _ bare (place-unknown k.initial (count_sent k.stream) v none bare) (follows-unknown k.initial k.stream k.fin d.snd_nxt _ none follows))
      (λ (some : (first : Seq) × (k.initial ≡ Some first)).
      let placed = is-placed s due k some.0 some.1 same reaches known follows user in
      goes-placed accepted k v d.snd_nxt _ some.0 some.1 known.stream known.fin placed.at (omega (arith, placed.there, reaches.start, placed.up.next))
      (omega (arith, placed.there, reaches.end (omega (arith, placed.up.next)), ap one_if bits.1)) follows)
      (known-or_not k.initial)

  -- and ends within the window
  text-before : (known : Option ℕ) (d : Stream) (n end : ℕ) → IsUpTo d known n → IfSome known (λ f. f ≡ 1 + length accepted) → end ≤ n → end ≤ 1 + length accepted
      → end ≤ 1 + count_sent d
  text-before None d n end up last before ends = omega (arith, up.next, before)
  text-before (Some f) d n end up last before ends = omega (arith, up.last, last, ends)

  within-plain : (s : State) (due : Due) (k : Known) → s.config.isn.0 ≡ isn → Reaches s.sending due → IsKnown isn accepted k → Follows k s.sending.snd_nxt
      → IsOfUser isn accepted closed (plain_segment s due) → KnowsEdge k s → is_past k.edge (place_of k (plain_segment s due)) (plain_segment s due) ≡ false
  within-plain s due k same reaches known follows user edge =
      let d = s.sending in
      let v = plain_segment s due in
      let bits = due-bits d due in
      let bare : is_syn v ≡ false = ap (λ b. b && not (has rst v.flags)) bits.0 in
      ⊎_elim (λ (none : k.initial ≡ None). beyond-unplaced k.edge (place_of k v) v (place-unknown k.initial (count_sent k.stream) v none bare))
      (λ (some : (first : Seq) × (k.initial ≡ Some first)).
      let placed = is-placed s due k some.0 some.1 same reaches known follows user in
      let acked = edge.acked some.0 some.1 in
      beyond-none k.edge (place_of k v) v (λ text. ⊎_elim
      (λ (before : start_of d due + length v.text ≤ d.snd_nxt).
      omega (arith, edge.sent, text-before k.fin k.stream d.snd_nxt (place_of k v + length v.text) placed.up known.fin (omega (arith, before, placed.there)) (placed.at.ends text)))
      (λ (new : start_of d due + length v.text ≤ d.snd_una + max d.snd_wnd 1). omega (arith, new, placed.there, acked, edge.allowed.wnd))
      (reaches.within text)))
      (known-or_not k.initial)

  -- WHAT A JUDGE FINDS of it, and knows after it
  record GoesRight (k : Known) (v : Content) (s : State) (n : ℕ) : Type 0 where
    right : order_finding k (place_of k v) v ≡ None
    beyond : is_past k.edge (place_of k v) v ≡ false
    waits : is_syn v ≡ true → s.sending.snd_una ≡ 0
    empty : has syn v.flags ≡ true → length v.text ≡ 0
    follows : Follows (known_after k v) n
    knows : KnowsAck (known_after k v) s
    ends : KnowsEnd (known_after k v) s

  no-rule : (k : Known) (v : Content) (n : ℕ) → precedes_ack k (place_of k v) v ≡ false → follows_reset k (place_of k v) v ≡ false → Goes k v n
      → is_past k.edge (place_of k v) v ≡ false → (k.heard.reset ≡ false → is_stray k v ≡ false) → order_finding k (place_of k v) v ≡ None
  no-rule k v n late over goes beyond stray =
      by_test k.heard.reset (λ b. (if b then None else order_by k (place_of k v) v) ≡ None) (λ _. refl)
      (λ going. rw (
        none-found _ (BeforeAck (record { 0 = v.seq })) late,
        none-found _ (AfterReset (record { 0 = v.seq })) over,
        goes.right,
        none-found _ (BeyondWindow (record { 0 = v.seq })) (ap (λ b. b && (nat_lt 0 k.edge.acked && nat_lt 0 k.edge.window)) beyond),
      ) (none-found _ _ (stray going)))

  -- what is known of the end
  record IsReady (k : Known) (s : State) : Type 0 where
    waits : Waits s
    knows : KnowsAck k s
    quiet : KnowsQuiet k s
    ends : KnowsEnd k s
    resets : KnowsReset k s
    edge : KnowsEdge k s

  -- SND.NXT is below 2^31
  next-short : (s : State) (k : Known) → IsKnown isn accepted k → Follows k s.sending.snd_nxt → (first : Seq) → k.initial ≡ Some first
      → (s.sending.snd_nxt ≡ count_taken k.stream (is_some k.fin)) × (s.sending.snd_nxt < 2 ^ 31)
  next-short s k known follows first is =
      let up = follows-least k first s.sending.snd_nxt is follows in
      (up.next, omega (arith, up.next, fin-one k.fin, part-most accepted k.stream known.stream, short))

  -- of each that is due
  goes-due : (s : State) (now : List ℕ) (shut : Bool) (due : Due) (k : Known) → s.config.isn.0 ≡ isn → IsAlone s now shut → GoesOutAlone s now shut due
      → Reaches s.sending due → IsKnown isn accepted k → Follows k s.sending.snd_nxt → IsReady k s
      → (has rst (segment_of s due).flags ≡ false → IsOfUser isn accepted closed (segment_of s due))
      → GoesRight k (segment_of s due) s (max s.sending.snd_nxt (end_of s.sending due))
  unfolding segment_of
  goes-due s now shut Reset k same a out reaches known follows ready user =
      let v = waiting_segment s s.pending.reset in
      let reset : has rst v.flags ≡ true = waiting-bit s s.pending.reset out.kind in
      let goes = goes-reset k v _ reset (follows-moved k s.sending.snd_nxt _ (λ _. omega arith) follows) in
      let beyond = beyond-unplaced k.edge (place_of k v) v (place-reset (initial_after k.initial v) (count_sent k.stream) v reset) in
      record {
        beyond = beyond;
        waits = λ is. absurd (false≢true (sym (ap not reset) ∙ (and_parts (has syn v.flags) (not (has rst v.flags)) is).1));
        empty = waiting-empty s s.pending.reset;
        right = no-rule k v _ (late-reset k v reset) (after-reset k v reset) goes beyond
            (λ going. reset-passes k s s.pending.reset out.kind a.config.isn (subst (λ (i : ℕ). IfSome k.initial (λ n. n.0 ≡ i)) (sym same) known.initial)
            (next-short s k known follows) (λ first is. ready.resets first is going));
        follows = goes.after;
        knows = knows-went k v s (λ is. absurd (false≢true (sym (ap not reset) ∙ (and_parts (has syn v.flags) (not (has rst v.flags)) is).1))) ready.knows;
        ends = end-reset isn accepted s now shut k out.kind same a known follows ready.quiet ready.ends;
      }
  goes-due s now shut Syn k same a out reaches known follows ready user =
      let v = syn_segment s in
      let bits = syn-bits s.receiving.opened in
      let one = handshake-nxt s.phase s.ending s.sending.snd_una s.sending.snd_nxt s.receiving.opened s.receiving.finished out.kind a.progress in
      let goes = goes-syn k v _ (is-syn s) refl bits.1 (omega (arith, one)) (follows-moved k s.sending.snd_nxt _ (λ _. omega (arith, one)) follows) in
      let beyond = beyond-syn k.edge (place_of k v) v bits.0 in
      record {
        beyond = beyond;
        waits = λ _. ready.waits out.kind;
        empty = λ _. refl;
        right = no-rule k v _ (late-syn k v (place_of k v) bits.0)
            (after-open k v (place_of k v) (open-ended k s ready.ends (handshake-knows s.phase out.kind))) goes beyond
            (λ _. plain-passes k v (syn-plain s.receiving.opened));
        follows = goes.after;
        knows = knows-went k v s (λ _. ready.waits out.kind) ready.knows;
        ends = end-plain k v s (syn-plain s.receiving.opened) ready.ends;
      }
  goes-due s now shut other k same a out reaches known follows ready user =
      let v = plain_segment s other in
      let bits = due-bits s.sending other in
      let bare : is_syn v ≡ false = ap (λ b. b && not (has rst v.flags)) bits.0 in
      let goes = goes-plain s other k same reaches known follows (user bits.2) in
      let beyond = within-plain s other k same reaches known follows (user bits.2) ready.edge in
      record {
        beyond = beyond;
        waits = λ is. absurd (false≢true (sym bare ∙ is));
        empty = λ is. absurd (false≢true (sym bits.0 ∙ is));
        right = no-rule k v _ (late-plain k v s bare reaches.acked ready.knows) (after-open k v (place_of k v) (open-ended k s ready.ends out.kind.knows)) goes beyond
            (λ _. plain-passes k v bits.2);
        follows = goes.after;
        knows = knows-went k v s (λ is. absurd (false≢true (sym bare ∙ is))) ready.knows;
        ends = end-plain k v s bits.2 ready.ends;
      }

  -- what holds of the end and of what is known
  record Stands (x : SoloState) (k : Known) (h : Heard) (irs n : ℕ) : Type 0 where
    alone : IsAloneIn (party_in x)
    isn_is : x.endpoint.config.isn.0 ≡ isn
    hears : Hears h x irs n
    flight : IsInFlight x.endpoint.sending
    known : IsKnown isn accepted k
    follows : Follows k x.endpoint.sending.snd_nxt
    ready : IsReady k x.endpoint
    ports : HasPorts k.heard.ports x.endpoint
    probes : Probes x.endpoint

  isn-step : (x : SoloState) (e : SoloContent) (h : Heard) (irs n : ℕ) → HasRanges e → IsAloneIn (party_in x) → Hears h x irs n → x.endpoint.config.isn.0 ≡ isn
      → (end_after x.endpoint e).config.isn.0 ≡ isn
  isn-step x e h irs n fits a hears same = ap (λ (c : Config). c.isn.0) (address-step x e h irs n fits a hears) ∙ same

  -- after an event, what is known being right
  stands-on : (x : SoloState) (e : SoloContent) (k k' : Known) (h : Heard) (irs n : ℕ) → HasRanges e → Stands x k h irs n → IsKnown isn accepted k'
      → Follows k' (end_after x.endpoint e).sending.snd_nxt → KnowsAck k' (end_after x.endpoint e)
      → KnowsQuiet k' (end_after x.endpoint e) → KnowsEnd k' (end_after x.endpoint e) → HasPorts k'.heard.ports (end_after x.endpoint e)
      → KnowsReset k' (end_after x.endpoint e) → KnowsEdge k' (end_after x.endpoint e) → Stands (after_solo x e) k' (heard_past h e) (next_irs x.endpoint irs e) (n + count_come x.endpoint e)
  stands-on x e k k' h irs n fits s known follows knows quiet ends ports resets edge = record {
    alone = alone-step x e fits s.alone;
    isn_is = isn-step x e h irs n fits s.alone s.hears s.isn_is;
    hears = hears-step x e h irs n fits s.alone s.hears;
    flight = flight-step x e fits s.alone s.flight;
    known = known;
    follows = follows;
    ready = record { waits = waits-step x e fits s.alone s.ready.waits; knows = knows; quiet = quiet; ends = ends; resets = resets; edge = edge };
    ports = ports;
    probes = probes-step x e fits s.alone s.flight s.probes;
  }

  came-known : (k : Known) (taken : Option Content) → IsKnown isn accepted k → IsKnown isn accepted (known_came k taken)
  came-known k (Some v) h =
      cond_both (is_elsewhere k.heard.ports v) k (known_with k v) (IsKnown isn accepted) (λ _. h) (λ _. came-kept isn accepted closed small short k v h)
  came-known k None h = h

  came-initial : (k : Known) (taken : Option Content) (first : Seq) → (known_came k taken).initial ≡ Some first → k.initial ≡ Some first
  came-initial k (Some v) first e =
      by_test (is_elsewhere k.heard.ports v) (λ b. (if b then k else known_with k v).initial ≡ Some first → k.initial ≡ Some first) (λ _ is. is)
      (λ _ is. still-known (leads_back k v) k.initial first is) e
  came-initial k None first e = e

  came-ended : (k : Known) (taken : Option Content) → (known_came k taken).ended ≡ true → k.ended ≡ true
  came-ended k (Some v) e =
      by_test (is_elsewhere k.heard.ports v) (λ b. (if b then k else known_with k v).ended ≡ true → k.ended ≡ true) (λ _ is. is) (λ _ is. is) e
  came-ended k None e = e

  came-follows : (k : Known) (taken : Option Content) (n : ℕ) → Follows k n → Follows (known_came k taken) n
  came-follows k (Some v) n h =
      cond_both (is_elsewhere k.heard.ports v) k (known_with k v) (λ (k' : Known). Follows k' n) (λ _. h) (λ _. follows-came k v n h)
  came-follows k None n h = h

  came-knows : (k : Known) (s : State) (src dst bytes : List ℕ) (taken : Option Content) → taken_of src dst bytes ≡ taken → HasPorts k.heard.ports s → KnowsAck k s
      → KnowsAck (known_from k taken) (after_reading s src dst (decode_answer src dst bytes))
      → KnowsAck (known_came k taken) (after_reading s src dst (decode_answer src dst bytes))
  came-knows k s src dst bytes None is ports h all = all
  came-knows k s src dst bytes (Some v) is ports h all =
      let r = decode_answer src dst bytes in
      cond_both (is_elsewhere k.heard.ports v) k (known_with k v) (λ (k' : Known). KnowsAck k' (after_reading s src dst r))
      (λ elsewhere.
      let put = elsewhere-reading k.heard.ports s src dst bytes r v ports is elsewhere in
      knows-fewer k s (after_reading s src dst r) (omega (arith, ap (λ (d : Sending). d.snd_una) put.sending)) h) (λ _. all)

  came-ports : (k : Known) (s : State) (taken : Option Content) → HasPorts k.heard.ports s → HasPorts (known_came k taken).heard.ports s
  came-ports k s None h = h
  came-ports k s (Some v) h =
      by_test (is_elsewhere k.heard.ports v) (λ b. HasPorts (if b then k else known_with k v).heard.ports s) (λ _. h) (λ _. ports-came k.heard.ports v s h)

  -- WHAT GOES OUT
  record GoesOn (k : Known) (r : Result Content DecodeError) (s : State) (n : ℕ) : Type 0 where
    right : IsInOrder k r
    known : IsKnown isn accepted (known_read k r)
    follows : Follows (known_read k r) n
    knows : KnowsAck (known_read k r) s
    ends : KnowsEnd (known_read k r) s
    ports : HasPorts (known_read k r).heard.ports s
    edge : KnowsEdge (known_read k r) s

  went-on : (src : List ℕ) (x : SoloState) (k : Known) (h : Heard) (irs n : ℕ) (due : Due) → x.endpoint.config.addr.0 ≡ src → Stands x k h irs n
      → GoesOutAlone x.endpoint x.accepted x.closed due → Reaches x.endpoint.sending due
      → IsUsers isn accepted closed src (destination_of x.endpoint due).addr.0 (bytes_of x.endpoint due)
      → GoesOn k (decode_answer src (destination_of x.endpoint due).addr.0 (bytes_of x.endpoint due)) x.endpoint (max x.endpoint.sending.snd_nxt (end_of x.endpoint.sending due))
  unfolding bytes_of
  went-on src x k h irs n due at stands out reaches users =
      let s = x.endpoint in
      let v = segment_of s due in
      let to = (destination_of s due).addr.0 in
      let bytes = encoded_bytes s.config.addr.0 to v in
      let read : decode_answer src to bytes ≡ Ok v =
      subst (λ (src : List ℕ). decode_answer src to bytes ≡ Ok v) at (decoded_encoded s.config.addr.0 to v out.valid) in
      let same : users.0 ≡ v = content-is (sym users.1 ∙ read) in
      let user : has rst v.flags ≡ false → IsOfUser isn accepted closed v =
      subst (λ (w : Content). has rst w.flags ≡ false → IsOfUser isn accepted closed w) same users.2 in
      let goes = goes-due s x.accepted x.closed due k stands.isn_is stands.alone out reaches stands.known stands.follows stands.ready user in
      subst (λ (r : Result Content DecodeError). GoesOn k r s (max s.sending.snd_nxt (end_of s.sending due))) (sym read)
      (record {
        right = goes.right;
        known = known-kept isn accepted closed small short k v stands.known user;
        follows = goes.follows;
        knows = goes.knows;
        ends = goes.ends;
        ports = ports-due k.heard.ports s x.accepted x.closed due out stands.ports;
        edge = edge-went k v s goes.waits goes.empty goes.beyond stands.ready.edge;
      })

  -- the end after it, and the log from there on
  due-ordered : (src : List ℕ) (x : SoloState) (e : SoloContent) (k : Known) (h : Heard) (irs n : ℕ) (log : List PassageContent) (due : Option Due)
      → x.endpoint.config.addr.0 ≡ src → HasRanges e → IsOwn e → end_after x.endpoint e ≡ after_due x.endpoint due
      → ((d : Due) → due ≡ Some d → MayGoOut x.endpoint d) → heard_past h e ≡ h → Stands x k h irs n
      → IfSome due (GoesOutAlone x.endpoint x.accepted x.closed) → IfSome due (Reaches x.endpoint.sending)
      → AllWent (IsUsers isn accepted closed)
      (went_from src (option_map {U = List ℕ × List ℕ} (λ due. ((destination_of x.endpoint due).addr.0, bytes_of x.endpoint due)) due) ++ log)
      → ((k' : Known) → Stands (after_solo x e) k' h (next_irs x.endpoint irs e) (n + count_come x.endpoint e) → AllWent (IsUsers isn accepted closed) log → AllInOrder k' log)
      → AllInOrder k (went_from src (option_map {U = List ℕ × List ℕ} (λ due. ((destination_of x.endpoint due).addr.0, bytes_of x.endpoint due)) due) ++ log)
  due-ordered src x e k h irs n log None at fits own after may still stands out reaches users further =
      let s' = end_after x.endpoint e in
      let follows : Follows k s'.sending.snd_nxt = subst (λ (s : State). Follows k s.sending.snd_nxt) (sym after) stands.follows in
      let ready = stands.ready in
      further k (subst (λ (h' : Heard). Stands (after_solo x e) k h' (next_irs x.endpoint irs e) (n + count_come x.endpoint e)) still
      (stands-on x e k k h irs n fits stands stands.known follows (subst (KnowsAck k) (sym after) ready.knows) (subst (KnowsQuiet k) (sym after) ready.quiet)
      (subst (KnowsEnd k) (sym after) ready.ends) (ports-step k.heard.ports x e fits stands.alone stands.ports)
      (subst (KnowsReset k) (sym after) ready.resets) (subst (KnowsEdge k) (sym after) ready.edge))) users
  due-ordered src x e k h irs n log (Some due) at fits own after may still stands out reaches users further =
      let s = x.endpoint in
      let s' = end_after s e in
      let r = decode_answer src (destination_of s due).addr.0 (bytes_of s due) in
      let went = went-on src x k h irs n due at stands out reaches users.0 in
      let k' = known_read k r in
      let follows : Follows k' s'.sending.snd_nxt = subst (λ (s : State). Follows k' s.sending.snd_nxt) (sym after) went.follows in (
        went.right,
        further k' (subst (λ (h' : Heard). Stands (after_solo x e) k' h' (next_irs s irs e) (n + count_come s e)) still
            (stands-on x e k k' h irs n fits stands went.known follows
            (knows-fewer k' s s' (una-step x e fits own stands.alone) went.knows) (λ _ _. quiet-out s s' due after (may due refl))
            (λ ended. over-step x e fits stands.alone (went.ends ended)) (ports-step k'.heard.ports x e fits stands.alone went.ports)
            (λ _ _ _. subst (λ (o : Option WaitingReset). IfSome o (MayGo k'.heard.ports k'.answers s'.config.port s'.config.isn.0 s'.sending.snd_nxt))
            (sym (waits-out s s' due after (may due refl))) tt) (edge-step x e k' fits own stands.alone went.edge))) users.1,
      )

  -- a SYN went, so that SND.NXT isn't 0 any more
  opened-quiet : (x : SoloState) (e : SoloContent) (k : Known) (h : Heard) (irs n : ℕ) (first : Seq) → HasRanges e → Stands x k h irs n → k.initial ≡ Some first
      → IsQuiet (end_after x.endpoint e)
  opened-quiet x e k h irs n first fits stands is =
      let s = x.endpoint in
      let up = follows-least k first s.sending.snd_nxt is stands.follows in
      quiet-step x e fits stands.alone (omega (arith, up.next))
      (λ hand. (handshake-nxt s.phase s.ending s.sending.snd_una s.sending.snd_nxt s.receiving.opened s.receiving.finished hand stands.alone.progress, stands.ready.waits hand))
      (stands.ready.quiet first is)

  -- a reset that is recorded answers what came
  resets-came : (x : SoloState) (k : Known) (h : Heard) (irs n : ℕ) (from to bytes : List ℕ) → HasRanges (Arrive from to bytes) → Stands x k h irs n
      → KnowsReset (known_came k (taken_of from to bytes)) (end_after x.endpoint (Arrive from to bytes))
  resets-came x k h irs n from to bytes fits stands first is going =
      let e = Arrive from to bytes in
      let s = x.endpoint in
      let s' = end_after s e in
      let r = decode_answer from to bytes in
      let k' = known_came k (taken_of from to bytes) in
      let had = came-initial k (taken_of from to bytes) first is in
      let up = follows-least k first s.sending.snd_nxt had stands.follows in
      let number_is : first.0 ≡ s.config.isn.0 = subst (λ (o : Option Seq). IfSome o (λ n. n.0 ≡ isn)) had stands.known.initial ∙ sym stands.isn_is in
      let nxt = stays-step s e x.accepted x.closed stands.alone tt (omega (arith, up.next)) in
      let same = address-step x e h irs n fits stands.alone stands.hears in
      let waits = came-resets k s from to bytes r first fits refl had number_is stands.alone.config.isn (omega (arith, up.next)) stands.ready.resets going in
      let there : IfSome s'.pending.reset (MayGo k'.heard.ports k'.answers s.config.port s.config.isn.0 s.sending.snd_nxt) =
      subst (λ (y : State). IfSome y.pending.reset (MayGo k'.heard.ports k'.answers s.config.port s.config.isn.0 s.sending.snd_nxt))
      (sym (read-arrival s from to bytes r refl)) waits in
      subst (λ (c : Config). IfSome s'.pending.reset (MayGo k'.heard.ports k'.answers c.port c.isn.0 s'.sending.snd_nxt)) (sym same)
      (subst (λ (i : ℕ). IfSome s'.pending.reset (MayGo k'.heard.ports k'.answers s.config.port s.config.isn.0 i)) (sym nxt) there)

  ordered-log : (src : List ℕ) (x : SoloState) (list : List SoloContent) (k : Known) (h : Heard) (irs n : ℕ) → x.endpoint.config.addr.0 ≡ src
      → AllByRecursion HasRanges list → Stands x k h irs n → AllWent (IsUsers isn accepted closed) (log_of src x.endpoint list)
      → AllInOrder k (log_of src x.endpoint list)
  unfolding log_of segment_due segment_alone after_emission after_ack_alone
  ordered-log src x [] k h irs n at fits stands users = tt
  ordered-log src x (Emit ∷ list) k h irs n at fits stands users =
      due-ordered src x Emit k h irs n (log_of src (end_after x.endpoint Emit) list) (due_of x.endpoint) at fits.0 tt refl (λ d e. inl e) refl stands
      (due-alone x.endpoint x.accepted x.closed stands.alone)
      (due-kept x.endpoint (Reaches x.endpoint.sending) (reaches-due x.endpoint x.accepted x.closed stands.alone stands.flight stands.probes)) users
      (λ k' stands'. ordered-log src (after_solo x Emit) list k' h _ _
      (ap (λ (c : Config). c.addr.0) (address-step x Emit h irs n fits.0 stands.alone stands.hears) ∙ at) fits.1 stands')
  ordered-log src x (EmitAcknowledgement ∷ list) k h irs n at fits stands users =
      let e = EmitAcknowledgement in
      due-ordered src x e k h irs n (log_of src (end_after x.endpoint e) list) (ack_alone x.endpoint) at fits.0 tt refl (λ d e. inr e) refl stands
      (ack-alone-goes x.endpoint x.accepted x.closed stands.alone)
      (ack_alone-kept x.endpoint (Reaches x.endpoint.sending) (reaches-due x.endpoint x.accepted x.closed stands.alone stands.flight stands.probes)) users
      (λ k' stands'. ordered-log src (after_solo x e) list k' h _ _
      (ap (λ (c : Config). c.addr.0) (address-step x e h irs n fits.0 stands.alone stands.hears) ∙ at) fits.1 stands')
  ordered-log src x (Arrive from to bytes ∷ list) k h irs n at fits stands users =
      let e = Arrive from to bytes in
      let s = x.endpoint in
      let k' = known_came k (taken_of from to bytes) in
      let follows = follows-moved k' s.sending.snd_nxt _ (stays-step s e x.accepted x.closed stands.alone tt)
      (came-follows k (taken_of from to bytes) s.sending.snd_nxt stands.follows) in
      let one : is_handshake s.phase ≡ true → s.sending.snd_nxt ≡ 1 =
      λ is. handshake-nxt s.phase s.ending s.sending.snd_una s.sending.snd_nxt s.receiving.opened s.receiving.finished is stands.alone.progress in
      let knows : KnowsAck k' (end_after s e) =
      subst (KnowsAck k') (sym (read-arrival s from to bytes (decode_answer from to bytes) refl))
      (came-knows k s from to bytes (taken_of from to bytes) refl stands.ports stands.ready.knows (ack-reading isn accepted small short s from to bytes (decode_answer from to bytes) k x.accepted x.closed fits.0 refl stands.isn_is stands.alone one stands.known
      stands.ready.knows)) in
      ordered-log src (after_solo x e) list k' (heard_past h e) _ _
      (ap (λ (c : Config). c.addr.0) (address-step x e h irs n fits.0 stands.alone stands.hears) ∙ at) fits.1
      (stands-on x e k k' h irs n fits.0 stands (came-known k (taken_of from to bytes) stands.known) follows knows
      (λ first is. opened-quiet x e k h irs n first fits.0 stands (came-initial k (taken_of from to bytes) first is))
      (λ ended. over-step x e fits.0 stands.alone (stands.ready.ends (came-ended k (taken_of from to bytes) ended)))
      (came-ports k (end_after s e) (taken_of from to bytes) (ports-step k.heard.ports x e fits.0 stands.alone stands.ports))
      (resets-came x k h irs n from to bytes fits.0 stands)
      (subst (KnowsEdge k') (sym (read-arrival s from to bytes (decode_answer from to bytes) refl))
      (edge-came k s stands.alone.config.isn (subst (λ (i : ℕ). IfSome k.initial (λ n. n.0 ≡ i)) (sym stands.isn_is) stands.known.initial)
      (next-short s k stands.known stands.follows) (omega (arith, part-most accepted k.stream stands.known.stream, short))
      (λ is. omega (arith, one is, stands.ready.waits is)) stands.ready.edge from to bytes (decode_answer from to bytes) fits.0 refl stands.ports))) users
  ordered-log src x (e ∷ list) k h irs n at fits stands users =
      let follows = follows-moved k x.endpoint.sending.snd_nxt _ (stays-step x.endpoint e x.accepted x.closed stands.alone tt) stands.follows in
      ordered-log src (after_solo x e) list k (heard_past h e) _ _
      (ap (λ (c : Config). c.addr.0) (address-step x e h irs n fits.0 stands.alone stands.hears) ∙ at) fits.1
      (stands-on x e k k h irs n fits.0 stands stands.known follows
      (knows-fewer k x.endpoint (end_after x.endpoint e) (una-step x e fits.0 tt stands.alone) stands.ready.knows)
      (λ first is. opened-quiet x e k h irs n first fits.0 stands is) (λ ended. over-step x e fits.0 stands.alone (stands.ready.ends ended))
      (ports-step k.heard.ports x e fits.0 stands.alone stands.ports)
      (λ first is going. waiting-step x e k.heard.ports k.answers fits.0 tt stands.alone
      (let up = follows-least k first x.endpoint.sending.snd_nxt is stands.follows in omega (arith, up.next)) (stands.ready.resets first is going))
      (edge-step x e k fits.0 tt stands.alone stands.ready.edge)) users

-- nothing goes out behind a gap
pub in-order : (c : Config) (runs : ℕ) (list : List SoloContent) (accepted : List ℕ) (closed : Bool) → 2 + length accepted < 2 ^ 31 → IsConfig c
    → AllByRecursion HasRanges list → AllWent (IsUsers c.isn.0 accepted closed) (log_with_runs c runs list) → AllInOrder nothing_known (log_with_runs c runs list)
in-order c runs list accepted closed short is fits users =
    let x = solo_with_runs c runs in
    let stands : Stands c.isn.0 accepted closed is.isn short x nothing_known nothing_heard 0 0 = record {
      alone = alone-new c runs is;
      isn_is = refl;
      hears = hears-new c runs is;
      flight = record { range = tt; marks = λ place never. absurd (cc) };
      known = nothing-known c.isn.0 accepted;
      follows = (refl, refl);
      ready = record { waits = λ never. absurd (cc); knows = λ first never. absurd (cc); quiet = λ first never. absurd (cc); ends = λ never. absurd (cc); resets = λ first never. absurd (cc); edge = record { allowed = record { wnd = omega arith; shift = omega arith }; acked = λ first never. absurd (cc); sent = omega arith } };
      ports = tt;
      probes = λ never. absurd (cc);
    } in
    ordered-log c.isn.0 accepted closed is.isn short c.addr.0 x list nothing_known nothing_heard 0 0 refl fits stands users
