-- EVERY EVENT of two sound ends, gone through once: deliveries, damage that is found, what was emitted, and what a fact of both has to keep.
use Rattle.tcp_replay.proofs.Words.{◌+◌, ◌++◌, ◌<◌, ◌==◌, [], A, Abort, ack, ack_alone, Acknowledge, acks_late, address_of, after_arrival, after_due}
use Rattle.tcp_replay.proofs.Words.{after_emission, after_judgement, after_reading, answer_to_reading, ap, append-nil, AreOwn, AreSoundEnds, arith}
use Rattle.tcp_replay.proofs.Words.{arrival_answer, arrival_outcome, B, BadChecksum, bit_xor, Bool, bytes_of, bytes_with_damage, Close, Config, Connect}
use Rattle.tcp_replay.proofs.Words.{Content, Damage, damage_refusal, decode_answer, decoded_damaged, decoded_encoded, DecodeError, Deliver}
use Rattle.tcp_replay.proofs.Words.{delivery_refusal, destination_of, differs_set, DiffersInOnePlace, Due, due_of, effect_of, Emit, EmitAcknowledgement}
use Rattle.tcp_replay.proofs.Words.{emitted_bytes, eqb-false, Err, EventContent, Expired, false, flags_in, has, HasBytes, IfSome, if◌then◌else◌, inl, inr}
use Rattle.tcp_replay.proofs.Words.{is_expired, is_late, is_missing, IsOwn, IsSoundEnd, IsSoundPair, IsWire, IsWire_encoded, judgement, leb-false, length}
use Rattle.tcp_replay.proofs.Words.{List, Malformed, max_life, nat_le, NoChange, None, NoSuchSegment, not, Ok, Option, option_map, option_to_list, other}
use Rattle.tcp_replay.proofs.Words.{party_after_abort, party_after_ack_alone, party_after_acknowledge, party_after_arrival, party_after_close}
use Rattle.tcp_replay.proofs.Words.{party_after_connect, party_after_emission, party_after_listen, party_after_receive, party_after_resend, party_after_resend_first}
use Rattle.tcp_replay.proofs.Words.{party_after_send, party_after_timer, party_of, party_out, PartyState, PlaceOutside, position_of, rcv_position, Receive}
use Rattle.tcp_replay.proofs.Words.{refl, refusal_of, ResendFirst, Result, rst, segment_at, segment_of, Send, sent_at, sent_by, SentSegment, Side, side_of}
use Rattle.tcp_replay.proofs.Words.{slice_get, slice_get-get_or, slice_index, Some, State, state_after, StepError, subst, sym, Timer, true}
use Rattle.tcp_replay.proofs.Words.{unwrap_or-slice_get, WaitingReset, world_from, world_with_effect, WorldState, xor_assoc, xor_of_8, xor_self}
use Rattle.tcp_replay.proofs.Words.{xor_zero_l, ◌||◌, ℕ, ◌∙◌, ◌≡◌, ◌≢◌, ◌≤◌, ⊎_elim}
use Rattle.tcp_replay.proofs.pair.Calls.{KeptByCalls, MayGoOut, on-abort, on-acknowledge, on-close, on-connect, on-due, on-listen, on-receive}
use Rattle.tcp_replay.proofs.pair.Calls.{on-resend, on-resend-first, on-send, on-timer, with_end}
use Rattle.tcp_replay.specs.Events.{Listen, Resend}
use Rattle.tcp_replay.specs.Among.{with_pending}
use Rattle.std.proofs.lemmas.Bool.{or_parts}
use Rattle.tcp_replay.proofs.{Lists.and-fails, Lists.one_if-most, pair.Arrivals.Comes, pair.Arrivals.fair-judgement, pair.Emissions.due-decodes}
use Rattle.tcp_replay.proofs.{pair.Emissions.goes-out, pair.Emissions.GoesOut, pair.Emissions.seq-in, pair.Emissions.rcv_position-is, one_end.AloneEmissions.ack-alone-goes}
use Rattle.tcp_replay.proofs.{one_end.AloneEmissions.due-alone, one_end.AloneEmissions.GoesOutAlone, one_end.AloneEmissions.if-some-map, pair.Steps.Kept, pair.Steps.kept-same, pair.Steps.Moved}
use Rattle.tcp_replay.proofs.{pair.Steps.pair-swapped, pair.Steps.slice_get-more, pair.Users.sound-calls}
use Rattle.tcp_replay.specs.declared.outcome.Outcome.TheVariants as outcomes

-- DELIVERY of a segment that the peer emitted
pub arrival-ok : (s : State) (src dst bytes : List ℕ) (v : Content) → decode_answer src dst bytes ≡ Ok v
    → after_arrival s src dst bytes ≡ after_judgement (judgement s src dst v) s src v
unfolding after_arrival
arrival-ok s src dst bytes v e = ap (after_reading s src dst) e

arrival-err : (s : State) (src dst bytes : List ℕ) (fault : DecodeError) → decode_answer src dst bytes ≡ Err fault → after_arrival s src dst bytes ≡ s
unfolding after_arrival
arrival-err s src dst bytes fault e = ap (after_reading s src dst) e

-- what the peer emitted is read as what it wrote
pub own-decodes : (q p : PartyState) (g : SentSegment) → (own : IsOwn q p g)
    → decode_answer q.endpoint.config.addr.0 p.endpoint.config.addr.0 g.bytes ≡ Ok own.content
own-decodes q p g own =
    ap (decode_answer q.endpoint.config.addr.0 p.endpoint.config.addr.0) own.spelled ∙
    decoded_encoded q.endpoint.config.addr.0 p.endpoint.config.addr.0 own.content own.valid

-- its control bits stand where they are read
pub flags-in : (q p : PartyState) (g : SentSegment) → (own : IsOwn q p g) → own.content.flags ≡ flags_in g.bytes
flags-in q p g own =
    let src = q.endpoint.config.addr.0 in
    let dst = p.endpoint.config.addr.0 in
    let wire : IsWire src dst own.content g.bytes = subst (λ (sent : List ℕ). IsWire src dst own.content sent) (sym own.spelled)
    (IsWire_encoded src dst own.content own.valid) in
    wire.header.flags

-- a segment whose lifetime isn't over
pub record IsYoungBoth (life : ℕ) (s : State) (g : SentSegment) : Type 0 where
  pub young : rcv_position s.receiving < g.position + life
  pub acks_young : has ack (flags_in g.bytes) ≡ true → s.sending.snd_una < g.wanted + life

pub young-both : (life : ℕ) (s : State) (g : SentSegment) → is_expired life s g ≡ false → has rst (flags_in g.bytes) ≡ false → IsYoungBoth life s g
young-both life s g e plain =
    let both = or_parts (is_late life s g) (acks_late life s g)
    (and-fails (not (has rst (flags_in g.bytes))) (is_late life s g || acks_late life s g) e (ap not plain)) in
    record {
      young = leb-false (g.position + life) (rcv_position s.receiving) both.0;
      acks_young = λ told. leb-false (g.wanted + life) s.sending.snd_una
          (and-fails (has ack (flags_in g.bytes)) (nat_le (g.wanted + life) s.sending.snd_una) both.1 told);
    }

-- a segment that the peer emitted and that has not expired comes as an arrival may assume
pub comes : (p q : PartyState) (life : ℕ) (g : SentSegment) → life ≤ max_life → is_expired life p.endpoint g ≡ false → IsSoundPair p q → (own : IsOwn q p g)
    → Comes p q p.endpoint own.content g.position g.wanted
comes p q life g most e h own =
    let flags = flags-in q p g own in
    let young : has rst own.content.flags ≡ false → IsYoungBoth life p.endpoint g = λ plain. young-both life p.endpoint g e
    (ap (has rst) (sym flags) ∙ plain) in
    record {
      valid = own.valid;
      truthful = own.truthful;
      near = omega (arith, one_if-most q.endpoint.receiving.finished, h.back.takes.order);
      close = record { ahead = omega (arith, h.back.alone.sends.ahead, h.back.alone.sends.released, h.back.between); limit = h.back.alone.sends.limit };
      young = λ plain. omega (arith, most, (young plain).young, rcv_position-is p q h);
      acks_young = λ plain told. omega (arith, most, (young plain).acks_young (ap (has ack) (sym flags) ∙ told));
    }

-- bytes that are no segment
unmoved : (p q : PartyState) (bytes : List ℕ) (fault : DecodeError) → decode_answer q.endpoint.config.addr.0 p.endpoint.config.addr.0 bytes ≡ Err fault
    → party_after_arrival p q bytes ≡ p
unfolding party_after_arrival
unmoved p q bytes fault e =
    ap (λ (s : State). record p { endpoint = s }) (arrival-err p.endpoint q.endpoint.config.addr.0 p.endpoint.config.addr.0 bytes fault e)

answers-malformed : (p q : PartyState) (bytes : List ℕ) (fault : DecodeError)
    → decode_answer q.endpoint.config.addr.0 p.endpoint.config.addr.0 bytes ≡ Err fault → arrival_outcome p q bytes ≡ outcomes.Arrived (Malformed fault)
unfolding arrival_answer
answers-malformed p q bytes fault e = ap (λ r. outcomes.Arrived (answer_to_reading p.endpoint q.endpoint.config.addr.0 p.endpoint.config.addr.0 r)) e

-- a segment that was emitted, by its number
pub segment-sent : (q : PartyState) (k : ℕ) → is_missing q k ≡ false → slice_get q.sent k ≡ Some (sent_at q k)
segment-sent q k there =
    let inside : k < length q.sent = leb-false (length q.sent) k there in
    let none : SentSegment = record { bytes = []; position = 0; wanted = 0 } in
    slice_get-get_or q.sent k none inside ∙ ap Some (sym (unwrap_or-slice_get q.sent k none))

refusal-none : (b : Bool) (error : StepError) (rest : Option StepError) → (if b then Some error else rest) ≡ None → (b ≡ false) × (rest ≡ None)
refusal-none true error rest e = absurd (cc)
refusal-none false error rest e = (refl, e)

-- a delivery that is not refused is of a segment that was emitted and has not expired
pub delivered-there : (life : ℕ) (p q : PartyState) (k : ℕ) → delivery_refusal life q p k ≡ None
    → (is_missing q k ≡ false) × (is_expired life p.endpoint (sent_at q k) ≡ false)
delivered-there life p q k e =
    let first = refusal-none (is_missing q k) NoSuchSegment _ e in
    (first.0, (refusal-none (is_expired life p.endpoint (sent_at q k)) Expired None first.1).0)

-- DAMAGE: one byte of it differs, and is always found
xor-changes : (x value : ℕ) → value ≢ 0 → bit_xor x value ≢ x
xor-changes x value some e =
    some (sym (xor_zero_l value) ∙ ap (λ z. bit_xor z value) (sym (xor_self x)) ∙ xor_assoc x x value ∙ ap (bit_xor x) e ∙ xor_self x)

pub damage-found : (p q : PartyState) (life k place value : ℕ) → value < 256 → AreOwn q p → damage_refusal life q p k place value ≡ None
    → decode_answer q.endpoint.config.addr.0 p.endpoint.config.addr.0 (bytes_with_damage (segment_at q k) place value) ≡ Err BadChecksum
damage-found p q life k place value fits owns e =
    let src = q.endpoint.config.addr.0 in
    let dst = p.endpoint.config.addr.0 in
    let bytes = segment_at q k in
    let first = refusal-none (is_missing q k) NoSuchSegment _ e in
    let second = refusal-none (value == 0) NoChange _ first.1 in
    let third = refusal-none (nat_le (length bytes) place) PlaceOutside _ second.1 in
    let own = owns k (sent_at q k) (segment-sent q k first.0) in
    let wire : IsWire src dst own.content bytes = subst (λ (sent : List ℕ). IsWire src dst own.content sent) (sym own.spelled)
    (IsWire_encoded src dst own.content own.valid) in
    let differs : DiffersInOnePlace bytes (bytes_with_damage bytes place value) =
    differs_set bytes place (bit_xor (slice_index bytes place) value) wire.are_bytes (leb-false (length bytes) place third.0)
    (xor_of_8 (slice_index bytes place) value (wire.are_bytes place) fits)
    (λ same. xor-changes (slice_index bytes place) value (eqb-false value 0 second.0) (sym same)) in
    decoded_damaged src dst own.content bytes (bytes_with_damage bytes place value) wire differs

-- it changes nothing, and is answered
pub record IsFoundDamage (p q : PartyState) (k place value : ℕ) : Type 0 where
  pub same : party_after_arrival p q (bytes_with_damage (segment_at q k) place value) ≡ p
  pub answer : arrival_outcome p q (bytes_with_damage (segment_at q k) place value) ≡ outcomes.Arrived (Malformed BadChecksum)

-- a damaged segment is found, and changes nothing
pub finds-damage : (p q : PartyState) (life k place value : ℕ) → value < 256 → damage_refusal life q p k place value ≡ None → IsSoundPair p q
    → IsFoundDamage p q k place value
finds-damage p q life k place value fits e h =
    let bytes = bytes_with_damage (segment_at q k) place value in
    let found = damage-found p q life k place value fits h.own_back e in
    record { same = unmoved p q bytes BadChecksum found; answer = answers-malformed p q bytes BadChecksum found }

-- WHAT p EMITTED at an event by which it became p', where it emitted something
pub record Speaks (p p' q : PartyState) : Type 0 where
  pub due : Option Due
  pub sent : p'.sent ≡ p.sent ++ option_to_list (option_map (sent_by p.endpoint) (option_map (bytes_of p.endpoint) due))
  pub goes : IfSome due (GoesOut p q)
  pub out : IfSome due (GoesOutAlone p.endpoint p.accepted p.closed)
  pub after : IfSome due (λ due. p'.endpoint ≡ state_after p.endpoint due)

pub speaks-nothing : (p p' q : PartyState) → p'.sent ≡ p.sent → Speaks p p' q
speaks-nothing p p' q same = record { due = None; sent = same ∙ sym (append-nil p.sent); goes = tt; out = tt; after = tt }

after-due : (s : State) (due : Option Due) → IfSome due (λ d. after_due s due ≡ state_after s d)
after-due s None = tt
after-due s (Some due) = refl

-- this goes out of p
speaks-out : (p q : PartyState) (due : Option Due) → IsSoundPair p q → IfSome due (GoesOutAlone p.endpoint p.accepted p.closed) → Speaks p (party_out p due) q
speaks-out p q due pair out = record {
  due = due;
  sent = refl;
  goes = if-some-map (GoesOutAlone p.endpoint p.accepted p.closed) (GoesOut p q) due (λ d alone. goes-out p q d pair alone) out;
  out = out;
  after = after-due p.endpoint due;
}

-- what an option has is one
pub some-is : {x y : SentSegment} → Some x ≡ Some y → x ≡ y
some-is e = cc

-- bytes are read in one way
pub same-content : (v v' : Content) (r : Result Content DecodeError) → r ≡ Ok v → r ≡ Ok v' → v ≡ v'
same-content v v' r e e' = cc

-- WHAT EACH SEGMENT SAYS that x emitted, as y reads it
abbrev pub AllSaid : PartyState → PartyState → (SentSegment → Content → Type 0) → Type 0
AllSaid x y Says = (k : ℕ) (g : SentSegment) (v : Content) → slice_get x.sent k ≡ Some g
    → decode_answer x.endpoint.config.addr.0 y.endpoint.config.addr.0 g.bytes ≡ Ok v → Says g v

-- what is due says this where it goes out and p becomes p'
abbrev pub DueSays : PartyState → PartyState → PartyState → (SentSegment → Content → Type 0) → Type 0
DueSays p p' q Says = (due : Due) → GoesOut p q due → GoesOutAlone p.endpoint p.accepted p.closed due → p'.endpoint ≡ state_after p.endpoint due
    → Says (sent_by p.endpoint (bytes_of p.endpoint due)) (segment_of p.endpoint due)

module _ (p p' q : PartyState) (Says : SentSegment → Content → Type 0) where
  said-new : DueSays p p' q Says → (due : Option Due) → IfSome due (GoesOut p q) → IfSome due (GoesOutAlone p.endpoint p.accepted p.closed)
      → IfSome due (λ due. p'.endpoint ≡ state_after p.endpoint due) → (g : SentSegment) (v : Content)
      → option_map (sent_by p.endpoint) (option_map (bytes_of p.endpoint) due) ≡ Some g
      → decode_answer p.endpoint.config.addr.0 q.endpoint.config.addr.0 g.bytes ≡ Ok v → Says g v
  said-new says None goes out after g v e read = absurd (cc)
  said-new says (Some due) goes out after g v e read =
      let src = p.endpoint.config.addr.0 in
      let dst = q.endpoint.config.addr.0 in
      let sent : sent_by p.endpoint (bytes_of p.endpoint due) ≡ g = some-is e in
      let own : decode_answer src dst g.bytes ≡ Ok (segment_of p.endpoint due) = ap (λ (g : SentSegment). decode_answer src dst g.bytes) (sym sent) ∙
      due-decodes p q due goes in
      subst (λ (g : SentSegment). Says g v) sent
      (subst (Says (sent_by p.endpoint (bytes_of p.endpoint due))) (same-content (segment_of p.endpoint due) v (decode_answer src dst g.bytes) own read)
      (says due goes out after))

  -- of all that p emitted, the last included
  pub said-after : p'.endpoint.config ≡ p.endpoint.config → Speaks p p' q → AllSaid p q Says → DueSays p p' q Says → AllSaid p' q Says
  said-after config out old new k g v is told =
      let read : decode_answer p.endpoint.config.addr.0 q.endpoint.config.addr.0 g.bytes ≡ Ok v =
      subst (λ (c : Config). decode_answer c.addr.0 q.endpoint.config.addr.0 g.bytes ≡ Ok v) config told in
      let last = option_map (sent_by p.endpoint) (option_map (bytes_of p.endpoint) out.due) in
      ⊎_elim (λ (was : slice_get p.sent k ≡ Some g). old k g v was read) (λ (now : last ≡ Some g). said-new new out.due out.goes out.out out.after g v now read)
      (slice_get-more p.sent last k g (subst (λ (sent : List SentSegment). slice_get sent k ≡ Some g) out.sent is))

  -- what its peer emitted says what it said
  pub said-back : p'.endpoint.config ≡ p.endpoint.config → AllSaid q p Says → AllSaid q p' Says
  said-back config h k g v is told = h k g v is (subst (λ (c : Config). decode_answer q.endpoint.config.addr.0 c.addr.0 g.bytes ≡ Ok v) config told)

-- a fact of each of two parties against the other
pub record Both (One : PartyState → PartyState → Type 0) (x y : PartyState) : Type 0 where
  pub there : One x y
  pub back : One y x

-- from the other side
pub both-swapped : (One : PartyState → PartyState → Type 0) (p q : PartyState) → Both One p q → Both One q p
both-swapped One p q h = record { there = h.back; back = h.there }

-- the positions at which what is due goes out
pub due-position : (p q : PartyState) (due : Due) → GoesOut p q due
    → (sent_by p.endpoint (bytes_of p.endpoint due)).position ≡ position_of p.endpoint.config.isn.0 p.endpoint.sending.snd_una (segment_of p.endpoint due).seq
unfolding bytes_of
due-position p q due goes =
    let s = p.endpoint in
    ap (position_of s.config.isn.0 s.sending.snd_una) (sym (seq-in s.config.addr.0 (destination_of s due).addr.0 (segment_of s due) goes.valid))

-- A SEGMENT ARRIVES at p that q emitted, and is read as this
pub record Arrives (p q : PartyState) (g : SentSegment) (v : Content) : Type 0 where
  pub place : ℕ
  pub sent : slice_get q.sent place ≡ Some g
  pub read : decode_answer q.endpoint.config.addr.0 p.endpoint.config.addr.0 g.bytes ≡ Ok v
  pub comes : Comes p q p.endpoint v g.position g.wanted

-- p's end after it
abbrev pub after_segment : PartyState → PartyState → Content → State
after_segment p q v =
    after_judgement (judgement p.endpoint q.endpoint.config.addr.0 p.endpoint.config.addr.0 v) p.endpoint q.endpoint.config.addr.0 v

-- WHAT KEEPS K, a fact of two parties, where G holds of them. `Stays p q s accepted`: the end of p may become s, its user's bytes being these.
pub record PairKept (G K : PartyState → PartyState → Type 0) (Stays : PartyState → PartyState → State → List ℕ → Type 0) : Type 0 where
  pub swapped : (p q : PartyState) → K p q → K q p
  pub calls : (p q : PartyState) → IsSoundPair p q → K p q → KeptByCalls (address_of q) p (λ p'. Stays p q p'.endpoint p'.accepted)
  pub arrives : (p q : PartyState) (g : SentSegment) (v : Content) → G p q → IsSoundPair p q → Arrives p q g v → K p q
      → Stays p q (after_segment p q v) p.accepted
  -- what isn't let in changes nothing but what is pending
  pub has_pending : (p q : PartyState) (ack : Bool) (reset : Option WaitingReset) → IsSoundPair p q → K p q
      → Stays p q (with_pending p.endpoint ack reset) p.accepted
  pub moved : (p p' q : PartyState) → IsSoundPair p q → Moved p p' q → Speaks p p' q → Stays p q p'.endpoint p'.accepted → K p q → K p' q

-- what is emitted is no part of what p's end is
moved-speaking : (p q : PartyState) (s : State) (sent : List SentSegment) → Kept p q s → Moved p (record p { endpoint = s; sent = sent }) q
moved-speaking p q s sent h =
    let e = h.here in
    let here : IsSoundEnd (record p { endpoint = s; sent = sent }) q =
    record { alone = e.alone; speaks = e.speaks; takes = e.takes; delivers = e.delivers; between = e.between; limit = e.limit } in
    record { here = here; config = h.config; grows = h.grows }

module _ (G K : PartyState → PartyState → Type 0) (Stays : PartyState → PartyState → State → List ℕ → Type 0) (h : PairKept G K Stays) where
  on-moved : (p p' q : PartyState) → IsSoundPair p q → K p q → p'.sent ≡ p.sent → Moved p p' q → Stays p q p'.endpoint p'.accepted → K p' q
  on-moved p p' q pair k same moved stays = h.moved p p' q pair moved (speaks-nothing p p' q same) stays k

  -- something goes out
  on-out : (p q : PartyState) (due : Option Due) → ((d : Due) → due ≡ Some d → MayGoOut p.endpoint d) → IfSome due (GoesOutAlone p.endpoint p.accepted p.closed)
      → IsSoundPair p q → K p q
      → K (party_out p due) q
  on-out p q due may out pair k =
      h.moved p _ q pair (moved-speaking p q _ _ (on-due (address_of q) p _ (sound-calls p q pair) due may out)) (speaks-out p q due pair out)
      (on-due (address_of q) p _ (h.calls p q pair k) due may out) k

  on-emitting : (p q : PartyState) → IsSoundPair p q → K p q → K (party_after_emission p) q
  unfolding party_after_emission emitted_bytes after_emission
  on-emitting p q pair k = on-out p q (due_of p.endpoint) (λ d e. inl e) (due-alone p.endpoint p.accepted p.closed pair.there.alone) pair k

  on-answering : (p q : PartyState) → IsSoundPair p q → K p q → K (party_after_ack_alone p) q
  unfolding party_after_ack_alone
  on-answering p q pair k = on-out p q (ack_alone p.endpoint) (λ d e. inr e) (ack-alone-goes p.endpoint p.accepted p.closed pair.there.alone) pair k

  -- a segment that the peer emitted arrives
  on-delivery : (p q : PartyState) (life k : ℕ) → life ≤ max_life → delivery_refusal life q p k ≡ None → G p q → IsSoundPair p q → K p q
      → K (party_after_arrival p q (segment_at q k)) q
  unfolding party_after_arrival
  on-delivery p q life k most e given pair kept =
      let src = q.endpoint.config.addr.0 in
      let dst = p.endpoint.config.addr.0 in
      let g = sent_at q k in
      let there = delivered-there life p q k e in
      let sent = segment-sent q k there.0 in
      let own = pair.own_back k g sent in
      let v = own.content in
      let read = own-decodes q p g own in
      let c = comes p q life g most there.1 pair own in
      let fair = fair-judgement p q p.endpoint dst v g.position g.wanted c (kept-same p q pair) in
      subst (λ (s : State). K (with_end p s) q) (sym (arrival-ok p.endpoint src dst g.bytes v read))
      (on-moved p (with_end p (after_segment p q v)) q pair kept refl fair
      (h.arrives p q g v given pair (record { place = k; sent = sent; read = read; comes = c }) kept))

  -- ANY EVENT that isn't refused, at the party whose side it names
  every-event : (life : ℕ) (p q : PartyState) (event : EventContent) → life ≤ max_life → HasBytes event → (effect_of life p q event).refusal ≡ None
      → G q p → IsSoundPair p q → K p q
      → K (effect_of life p q event).here (effect_of life p q event).there
  unfolding effect_of party_after_connect party_after_listen party_after_send party_after_receive party_after_close party_after_abort party_after_acknowledge party_after_timer party_after_resend_first party_after_resend
  every-event life p q (Connect side) most fits e given pair k =
      on-moved p _ q pair k refl (on-connect _ p _ (sound-calls p q pair)) (on-connect _ p _ (h.calls p q pair k))
  every-event life p q (Listen side) most fits e given pair k =
      on-moved p _ q pair k refl (on-listen _ p _ (sound-calls p q pair)) (on-listen _ p _ (h.calls p q pair k))
  every-event life p q (Send side bytes) most fits e given pair k =
      on-moved p _ q pair k refl (on-send _ p _ (sound-calls p q pair) bytes fits) (on-send _ p _ (h.calls p q pair k) bytes fits)
  every-event life p q (Receive side room) most fits e given pair k =
      on-moved p _ q pair k refl (on-receive _ p _ (sound-calls p q pair) room) (on-receive _ p _ (h.calls p q pair k) room)
  every-event life p q (Close side) most fits e given pair k =
      on-moved p _ q pair k refl (on-close _ p _ (sound-calls p q pair)) (on-close _ p _ (h.calls p q pair k))
  every-event life p q (Abort side) most fits e given pair k =
      on-moved p _ q pair k refl (on-abort _ p _ (sound-calls p q pair)) (on-abort _ p _ (h.calls p q pair k))
  every-event life p q (Acknowledge side) most fits e given pair k =
      on-moved p _ q pair k refl (on-acknowledge _ p _ (sound-calls p q pair)) (on-acknowledge _ p _ (h.calls p q pair k))
  every-event life p q (Timer side which) most fits e given pair k =
      on-moved p _ q pair k refl (on-timer _ p _ (sound-calls p q pair) which) (on-timer _ p _ (h.calls p q pair k) which)
  every-event life p q (Emit side) most fits e given pair k = on-emitting p q pair k
  every-event life p q (EmitAcknowledgement side) most fits e given pair k = on-answering p q pair k
  every-event life p q (ResendFirst side) most fits e given pair k =
      on-moved p _ q pair k refl (on-resend-first _ p _ (sound-calls p q pair)) (on-resend-first _ p _ (h.calls p q pair k))
  every-event life p q (Resend side from to) most fits e given pair k =
      on-moved p _ q pair k refl (on-resend _ p _ (sound-calls p q pair) from to) (on-resend _ p _ (h.calls p q pair k) from to)
  every-event life p q (Deliver from k) most fits e given pair kept =
      h.swapped _ _ (on-delivery q p life k most e given (pair-swapped _ _ pair) (h.swapped _ _ kept))
  every-event life p q (Damage from k place value) most fits e given pair kept =
      h.swapped _ _ (subst (λ (p' : PartyState). K p' p) (sym (finds-damage q p life k place value fits e (pair-swapped _ _ pair)).same) (h.swapped _ _ kept))

  from-side : (w : WorldState) (side : Side) (event : EventContent) → w.life ≤ max_life → HasBytes event
      → (effect_of w.life (party_of w side) (party_of w (other side)) event).refusal ≡ None
      → G w.a w.b → G w.b w.a → AreSoundEnds w → K w.a w.b
      → K (world_from w.life side (effect_of w.life (party_of w side) (party_of w (other side)) event).here
      (effect_of w.life (party_of w side) (party_of w (other side)) event).there).a
      (world_from w.life side (effect_of w.life (party_of w side) (party_of w (other side)) event).here
      (effect_of w.life (party_of w side) (party_of w (other side)) event).there).b
  from-side w A event most fits e there back ends k = every-event w.life w.a w.b event most fits e back ends k
  from-side w B event most fits e there back ends k =
      h.swapped _ _ (every-event w.life w.b w.a event most fits e there (pair-swapped _ _ ends) (h.swapped _ _ k))

  -- in a world
  pub in-world : (w : WorldState) (event : EventContent) → w.life ≤ max_life → HasBytes event → refusal_of w event ≡ None → G w.a w.b → G w.b w.a
      → AreSoundEnds w → K w.a w.b
      → K (world_with_effect w event).a (world_with_effect w event).b
  in-world w event most fits e there back ends k = from-side w (side_of event) event most fits e there back ends k
