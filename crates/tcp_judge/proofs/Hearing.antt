-- WHAT A JUDGE HEARD at each event of one end by itself: a number that came is known to have come.
use Rattle.std.proofs.Common.{◌≡◌, ℕ, zero, suc, ◌^◌, ◌<◌, ◌≤◌, List, [], ◌∷◌, ◌++◌, length, refl, sym, ◌∙◌, ap, subst, arith, slice_get, inl}
use Rattle.std.specs.Prelude.{Bool, true, false, ◌&&◌, ◌||◌, ◌==◌, Option, Some, None, Result, Ok, Err, if◌then◌else◌}
use Rattle.std.proofs.lemmas.Bool.{lt-ltb, eqb-true, or_right, false≢true}
use Rattle.tcp_numbers.specs.declared.seq.Seq.{Seq}
use Rattle.tcp_wire.specs.Checksum.{AreBytes}
use Rattle.tcp_wire.specs.Decoded.{decode_answer}
use Rattle.tcp_wire.specs.Flags.{has, fin, rst}
use Rattle.tcp_wire.specs.Position.{number, distance}
use Rattle.tcp_wire.specs.Wire.{Content, IsValid}
use Rattle.tcp_wire.specs.declared.fault.DecodeError.{DecodeError}
use Rattle.tcp_wire.proofs.RoundTrip.{decoded_valid}
use Rattle.tcp_halves.specs.Options.{link_of}
use Rattle.tcp_halves.specs.declared.link.Link.{Link}
use Rattle.tcp_conn.specs.declared.arrive.judgement.Judgement.{Judgement}
use Rattle.tcp_conn.specs.declared.arrive.judgement.Judgement.TheVariants.{Foreign, PeerOpens, PeerAccepts, Taken, TakenShut}
use Rattle.tcp_conn.specs.Arrival.{after_judgement, after_reading, after_arrival}
use Rattle.tcp_conn.specs.Judgement.{count_numbers, judgement}
use Rattle.tcp_conn.specs.Phase.{discards}
use Rattle.tcp_conn.specs.State.{State}
use Rattle.tcp_replay.specs.Alone.{IsAlone}
use Rattle.tcp_replay.specs.Solo.{SoloState, end_after, bytes_put_out}
use Rattle.tcp_replay.specs.SoloEvents.{SoloContent, HasRanges, Arrive}
use Rattle.tcp_replay.proofs.Lists.{by_test, one_if}
use Rattle.tcp_replay.proofs.one_end.Judgements.{IsSyn, IsAckOnly, IsTaken, judged}
use Rattle.tcp_replay.proofs.one_end.AloneCalls.{IsAloneIn}
use Rattle.tcp_replay.proofs.one_end.Feeds.{AllText, ByNumber, IsFed}
use Rattle.tcp_replay.proofs.one_end.AloneFeeds.{Feeds, feeds-calls}
use Rattle.tcp_replay.proofs.one_end.SoloRuns.{party_in, next_irs, seq_read, IsSynRead, BringsSyn, read-arrival, solo-step, feeds-arrived, fed-next}
use Rattle.tcp_judge.specs.Heard.{Heard, is_syn, covers, has_come, spans_of, syns_of, after_came, any_scale, any_permission}
use Rattle.tcp_judge.specs.Taken.{taken_as, taken_of}
use Rattle.tcp_judge.proofs.Finishes.{Finishes, nothing-new, finishes-calls, finishes-judgement}
use Rattle.tcp_judge.proofs.Links.{Links, links-calls, links-judgement, Offered, offered-link}
use Rattle.tcp_judge.proofs.Numbers.{come-more, come-last, HasSyn, syn-more, syn-last}
use Rattle.tcp_judge.proofs.Rooms.{HasRoom, room-calls, room-judgement}

short-text : (v : Content) → IsValid v → length v.text < 2 ^ 32
short-text v valid = omega (arith, valid.most)

-- WHAT A JUDGE HEARD where what came counts from wherever it came
abbrev pub heard_from : Heard → Option Content → Heard
heard_from h None = h
heard_from h (Some v) = after_came h v

-- after an event
abbrev pub heard_past : Heard → SoloContent → Heard
heard_past h (Arrive src dst bytes) = heard_from h (taken_of src dst bytes)
heard_past h other = h

read-more : (h : Heard) (taken : Option Content) (n : ℕ) → has_come h.spans n ≡ true → has_come (heard_from h taken).spans n ≡ true
read-more h (Some v) n e = come-more h.spans (spans_of v) n e
read-more h None n e = e

pub spans-more : (h : Heard) (e : SoloContent) (n : ℕ) → has_come h.spans n ≡ true → has_come (heard_past h e).spans n ≡ true
spans-more h (Arrive src dst bytes) n e = read-more h (taken_of src dst bytes) n e
spans-more h other n e = e

read-syns : (h : Heard) (taken : Option Content) (n : ℕ) → HasSyn h.syns n → HasSyn (heard_from h taken).syns n
read-syns h (Some v) n e = syn-more h.syns (syns_of h.acked_number h.reset v) n e
read-syns h None n e = e

pub syns-more : (h : Heard) (e : SoloContent) (n : ℕ) → HasSyn h.syns n → HasSyn (heard_past h e).syns n
syns-more h (Arrive src dst bytes) n e = read-syns h (taken_of src dst bytes) n e
syns-more h other n e = e

read-acked_number : (h : Heard) (taken : Option Content) → (heard_from h taken).acked_number ≡ h.acked_number
read-acked_number h (Some v) = refl
read-acked_number h None = refl

pub acked_number-same : (h : Heard) (e : SoloContent) → (heard_past h e).acked_number ≡ h.acked_number
acked_number-same h (Arrive src dst bytes) = read-acked_number h (taken_of src dst bytes)
acked_number-same h other = refl

-- THE NUMBERS of a segment's text, and of the FIN behind it
pub within : (text : List ℕ) (i byte : ℕ) → slice_get text i ≡ Some byte → i < length text
within [] i byte e = absurd (cc)
within (b ∷ text) zero byte e = omega arith
within (b ∷ text) (suc i) byte e = omega (arith, within text i byte e)

covered : (seq i count : ℕ) → seq < 2 ^ 32 → i < count → i < 2 ^ 32 → covers (number seq i) (record { 0 = seq }, count) ≡ true
covered seq i count small inside short =
    let far : distance seq (number seq i) ≡ i = omega arith in
    lt-ltb (distance seq (number seq i)) count (omega (arith, far, inside))

come-here : (h : Heard) (v : Content) (i : ℕ) → has rst v.flags ≡ false → v.seq < 2 ^ 32 → i < count_numbers v → i < 2 ^ 32 → has_come (after_came h v).spans (number v.seq i) ≡ true
come-here h v i plain small inside short =
    let span : Seq × ℕ = (record { 0 = v.seq }, count_numbers v) in
    subst (λ (r : Bool). has_come (h.spans ++ (if r || count_numbers v == 0 then [] else span ∷ [])) (number v.seq i) ≡ true) (sym plain)
    (by_test (count_numbers v == 0) (λ b. has_come (h.spans ++ (if b then [] else span ∷ [])) (number v.seq i) ≡ true)
    (λ none. absurd (omega (arith, eqb-true (count_numbers v) 0 none, inside)))
    (λ _. come-last h.spans span (number v.seq i) (covered v.seq i (count_numbers v) small inside short)))

fin-heard : (h : Heard) (v : Content) → has rst v.flags ≡ false → v.seq < 2 ^ 32 → length v.text < 2 ^ 32 → has fin v.flags ≡ true
    → has_come (after_came h v).spans (number v.seq (length v.text)) ≡ true
fin-heard h v plain small short acked_number =
    let one : one_if (has fin v.flags) ≡ 1 = ap one_if acked_number in
    come-here h v (length v.text) plain small (omega (arith, one)) short

pub byte-read : (h : Heard) (v : Content) (src dst bytes : List ℕ) → AreBytes bytes → decode_answer src dst bytes ≡ Ok v → has rst v.flags ≡ false
    → (i byte : ℕ)
    → slice_get v.text i ≡ Some byte → has_come (heard_from h (taken_of src dst bytes)).spans (number v.seq i) ≡ true
byte-read h v src dst bytes fits read plain i byte is =
    let valid = decoded_valid src dst v bytes fits read in
    let inside = within v.text i byte is in
    let more : length v.text ≤ count_numbers v = omega arith in
    subst (λ (r : Result Content DecodeError). has_come (heard_from h (taken_as bytes r)).spans (number v.seq i) ≡ true) (sym read)
    (come-here h v i plain valid.seq (omega (arith, inside, more)) (omega (arith, inside, short-text v valid)))

-- EACH EVENT brings bytes, of which P holds where it does of those of a text that comes
module _ (P : SoloContent → ℕ → ℕ → Type 0)
    (brings : (src dst bytes : List ℕ) (v : Content) → AreBytes bytes → decode_answer src dst bytes ≡ Ok v → has rst v.flags ≡ false
    → AllText (ByNumber (P (Arrive src dst bytes)) v.seq) 0 v.text)
  where
    pub feeds-by : (x : SoloState) (e : SoloContent) (irs k : ℕ) → HasRanges e → IsAloneIn (party_in x)
        → IsFed (P e) x.endpoint.receiving irs k x.delivered (discards x.endpoint.ending)
        → Feeds (P e) (BringsSyn e) x.endpoint (end_after x.endpoint e) (next_irs x.endpoint irs e) k (x.delivered ++ bytes_put_out x.endpoint e)
    feeds-by x e irs k fits alone fed =
        let F = λ (e : SoloContent) (s : State) (delivered : List ℕ). Feeds (P e) (BringsSyn e) x.endpoint s (next_irs x.endpoint irs e) k delivered in
        solo-step x (λ p. F e p.endpoint p.delivered) alone
        (λ peer _. feeds-calls _ (BringsSyn e) peer (party_in x) (next_irs x.endpoint irs e) k alone (fed-next _ x.endpoint irs k x.delivered e fed)) e fits
        (λ src dst bytes is. subst (λ e. F e (after_arrival x.endpoint src dst bytes) x.delivered) (sym is)
        (feeds-arrived _ x.endpoint irs k x.delivered x.accepted x.closed src dst bytes (subst HasRanges is fits) alone
        (λ v read mine ok. brings src dst bytes v (subst HasRanges is fits) read ok.ack_only.plain)
        (subst (λ e. IsFed (P e) x.endpoint.receiving irs k x.delivered (discards x.endpoint.ending)) is fed)))

finishes-reading : (h : Heard) (s : State) (accepted : List ℕ) (closed : Bool) (src dst bytes : List ℕ) (r : Result Content DecodeError) → AreBytes bytes
    → decode_answer src dst bytes ≡ r → IsAlone s accepted closed
    → Finishes (λ f. has_come (heard_from h (taken_as bytes r)).spans f ≡ true) s.receiving (after_reading s src dst r).receiving
finishes-reading h s accepted closed src dst bytes (Ok v) fits e a =
    let valid = decoded_valid src dst v bytes fits e in
    finishes-judgement (λ f. has_come (after_came h v).spans f ≡ true) s src dst v accepted closed a
    (λ taken acked_number. fin-heard h v taken.ack_only.plain valid.seq (short-text v valid) acked_number)
finishes-reading h s accepted closed src dst bytes (Err fault) fits e a = nothing-new _ s.receiving s.receiving refl

pub finishes-by : (x : SoloState) (e : SoloContent) (h : Heard) → HasRanges e → IsAloneIn (party_in x)
    → Finishes (λ f. has_come (heard_past h e).spans f ≡ true) x.endpoint.receiving (end_after x.endpoint e).receiving
finishes-by x e h fits alone =
    let P = λ (e : SoloContent) (s : State). Finishes (λ f. has_come (heard_past h e).spans f ≡ true) x.endpoint.receiving s.receiving in
    solo-step x (λ p. P e p.endpoint) alone (λ peer _. finishes-calls _ peer (party_in x)) e fits
    (λ src dst bytes is. subst (λ e. P e (after_arrival x.endpoint src dst bytes)) (sym is)
    (subst (λ (s : State). P (Arrive src dst bytes) s) (sym (read-arrival x.endpoint src dst bytes (decode_answer src dst bytes) refl))
    (finishes-reading h x.endpoint x.accepted x.closed src dst bytes (decode_answer src dst bytes) (subst HasRanges is fits) refl alone)))

-- the buffer
room-reading : (capacity : ℕ) (s : State) (src dst : List ℕ) (r : Result Content DecodeError) → HasRoom capacity s.receiving
    → HasRoom capacity (after_reading s src dst r).receiving
room-reading capacity s src dst (Ok v) h = room-judgement capacity s src dst v h
room-reading capacity s src dst (Err fault) h = h

pub room-by : (capacity : ℕ) (x : SoloState) (e : SoloContent) → HasRanges e → IsAloneIn (party_in x) → HasRoom capacity x.endpoint.receiving
    → HasRoom capacity (end_after x.endpoint e).receiving
room-by capacity x e fits alone h =
    solo-step x (λ p. HasRoom capacity p.endpoint.receiving) alone (λ peer _. room-calls capacity peer (party_in x) h) e fits
    (λ src dst bytes is. subst (λ (s : State). HasRoom capacity s.receiving) (sym (read-arrival x.endpoint src dst bytes (decode_answer src dst bytes) refl))
    (room-reading capacity x.endpoint src dst (decode_answer src dst bytes) h))

-- offers
offered-more : (scaling sack more more' : Bool) (link : Link) → Offered scaling sack link → Offered (scaling || more) (sack || more') link
offered-more scaling sack more more' link h = record {
  scaling_is = λ e. ap (λ b. b || more) (h.scaling_is e);
  sack_is = λ e. ap (λ b. b || more') (h.sack_is e);
}

read-offers : (h : Heard) (taken : Option Content) (link : Link) → Offered h.scaling h.sack link
    → Offered (heard_from h taken).scaling (heard_from h taken).sack link
read-offers h (Some v) link is = offered-more h.scaling h.sack _ _ link is
read-offers h None link is = is

pub offers-more : (h : Heard) (e : SoloContent) (link : Link) → Offered h.scaling h.sack link
    → Offered (heard_past h e).scaling (heard_past h e).sack link
offers-more h (Arrive src dst bytes) link is = read-offers h (taken_of src dst bytes) link is
offers-more h other link is = is

syn-plain : (v : Content) → IsSyn v → is_syn v ≡ true
syn-plain v is = rw (is.is_syn, is.plain) refl

offered-new : (h : Heard) (v : Content) (link : Link) → is_syn v ≡ true → Offered (any_scale v.options) (any_permission v.options) link
    → Offered (after_came h v).scaling (after_came h v).sack link
offered-new h v link is offered = record {
  scaling_is = λ e. or_right h.scaling (is_syn v && any_scale v.options)
      (ap (λ b. b && any_scale v.options) is ∙ offered.scaling_is e);
  sack_is = λ e. or_right h.sack (is_syn v && any_permission v.options)
      (ap (λ b. b && any_permission v.options) is ∙ offered.sack_is e);
}

links-reading : (h : Heard) (s : State) (src dst bytes : List ℕ) (r : Result Content DecodeError)
    → Links (Offered (heard_from h (taken_as bytes r)).scaling (heard_from h (taken_as bytes r)).sack) s (after_reading s src dst r)
links-reading h s src dst bytes (Ok v) =
    links-judgement (Offered (after_came h v).scaling (after_came h v).sack) s src dst v
    (λ is. offered-new h v (link_of s.config v.options) (syn-plain v is) (offered-link s.config v.options))
links-reading h s src dst bytes (Err fault) = inl refl

pub links-by : (x : SoloState) (e : SoloContent) (h : Heard) → HasRanges e → IsAloneIn (party_in x)
    → Links (Offered (heard_past h e).scaling (heard_past h e).sack) x.endpoint (end_after x.endpoint e)
links-by x e h fits alone =
    let P = λ (e : SoloContent) (s : State). Links (Offered (heard_past h e).scaling (heard_past h e).sack) x.endpoint s in
    solo-step x (λ p. P e p.endpoint) alone (λ peer _. links-calls _ peer (party_in x)) e fits
    (λ src dst bytes is. subst (λ e. P e (after_arrival x.endpoint src dst bytes)) (sym is)
    (subst (λ (s : State). P (Arrive src dst bytes) s) (sym (read-arrival x.endpoint src dst bytes (decode_answer src dst bytes) refl))
    (links-reading h x.endpoint src dst bytes (decode_answer src dst bytes))))

-- THE SYN that is taken came, and is no reset
takes-plain : (s : State) (src dst : List ℕ) (v : Content) → s.receiving.opened ≡ false
    → (after_judgement (judgement s src dst v) s src v).receiving.opened ≡ true → has rst v.flags ≡ false
takes-plain s src dst v shut =
    let J : Judgement → Type 0 = λ j. (after_judgement j s src v).receiving.opened ≡ true → has rst v.flags ≡ false in
    let same : J Foreign = λ opened. absurd (false≢true (sym shut ∙ opened)) in
    let syns : IsSyn v → has rst v.flags ≡ false = λ is. is.plain in
    let opens : IsSyn v → J PeerOpens = λ is _. is.plain in
    let accepts : IsSyn v → J PeerAccepts = λ is _. is.plain in
    let taken : IsTaken s v → J Taken = λ is _. is.ack_only.plain in
    let only : IsAckOnly v → J TakenShut = λ is _. is.plain in
    judged s v J (assumption) src dst

-- of what is read
IsPlainRead : Result Content DecodeError → Type 0
IsPlainRead (Ok v) = has rst v.flags ≡ false
IsPlainRead (Err fault) = Unit {0}

plain-reading : (s : State) (src dst : List ℕ) (r : Result Content DecodeError) → s.receiving.opened ≡ false → (after_reading s src dst r).receiving.opened ≡ true
    → IsPlainRead r
unfolding IsPlainRead
plain-reading s src dst (Ok v) shut opened = takes-plain s src dst v shut opened
plain-reading s src dst (Err fault) shut opened = tt

syn-heard : (h : Heard) (bytes : List ℕ) (r : Result Content DecodeError) → h.acked_number ≡ None → IsSynRead r → IsPlainRead r
    → HasSyn (heard_from h (taken_as bytes r)).syns (seq_read r)
unfolding IsPlainRead
syn-heard h bytes (Err fault) silent is plain = absurd is
syn-heard h bytes (Ok v) silent is plain =
    let plain_syn : is_syn v ≡ true = rw (is, plain) refl in
    subst (λ (acked_number : Option Seq). HasSyn (h.syns ++ syns_of acked_number h.reset v) v.seq) (sym silent)
    (subst (λ (b : Bool). HasSyn (h.syns ++ (if b && true then record { 0 = v.seq } ∷ [] else [])) v.seq) (sym plain_syn)
    (syn-last h.syns (record { 0 = v.seq })))

pub syn-new : (h : Heard) (s : State) (irs : ℕ) (e : SoloContent) → h.acked_number ≡ None → BringsSyn e → s.receiving.opened ≡ false
    → (end_after s e).receiving.opened ≡ true → HasSyn (heard_past h e).syns (next_irs s irs e)
syn-new h s irs (Arrive src dst bytes) silent is shut opened =
    let r = decode_answer src dst bytes in
    let plain = plain-reading s src dst r shut (subst (λ (x : State). x.receiving.opened ≡ true) (read-arrival s src dst bytes r refl) opened) in
    subst (HasSyn (heard_from h (taken_of src dst bytes)).syns) (ap (λ (b : Bool). if b then irs else seq_read r) (sym shut)) (syn-heard h bytes r silent is plain)
syn-new h s irs other silent is shut opened = absurd is
