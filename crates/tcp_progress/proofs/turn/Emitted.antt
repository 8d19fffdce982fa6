-- WHAT IS ASKED OF A SEGMENT on the way from p to q, before any rule: it is the peer's, and it hasn't expired.
use Rattle.tcp_replay.proofs.Words.{◌&&◌, ◌+◌, ◌++◌, ◌-◌, ◌<◌, ◌==◌, [], ack, after_arrival, after_due, after_emission, after_retransmit, ap, arith, Bool}
use Rattle.tcp_replay.proofs.Words.{bytes_eq, bytes_eq-Decides, bytes_of, cases_lt, Content, count_numbers, count_of, decode_answer, delivery_refusal}
use Rattle.tcp_replay.proofs.Words.{drop, Due, due_of, emitted_bytes, false, false≢true, fin, flags_in, has, has_peer, IfSome, if◌then◌else◌, inl, inr}
use Rattle.tcp_replay.proofs.Words.{is_expired, is_fin, is_for_other, is_foreign, is_from_other, is_handshake, is_missing, IsSoundPair, length}
use Rattle.tcp_replay.proofs.Words.{length-drop, length-take, max_life, min, nat_tests, None, not, number, Ok, Option, option_map, option_to_list, or-true}
use Rattle.tcp_replay.proofs.Words.{party_after_arrival, party_after_emission, PartyState, plain_segment, position_of, position_of_number, rcv_position_of}
use Rattle.tcp_replay.proofs.Words.{refl, Reset, rst, segment_at, segment_of, sent_at, sent_by, SentSegment, slice_get, slice_get_within, Some, start_of}
use Rattle.tcp_replay.proofs.Words.{State, subst, sym, Syn, syn, syn_segment, true, unwrap_or, ◌||◌, ℕ, ◌∙◌, ◌≡◌, ◌≤◌, ◌⊎◌}
use Rattle.tcp_replay.proofs.Lemmas.{after_segment, arrival-ok, Arrives, Comes, comes, delivered-there, due-alone, due-bits, due-decodes, due-goes}
use Rattle.tcp_replay.proofs.Lemmas.{due-position, GoesOut, GoesOutAlone, handshake-knows, handshake-una, IsSaid, one_if, one_if-most, own-decodes}
use Rattle.tcp_replay.proofs.Lemmas.{pair-swapped, rcv_position-is, same-content, segment-sent, syn-bits}
use Rattle.tcp_progress.proofs.{Words.IsSteadyPair, turn.Live.last-of, steady.OnlySent.due-ends, steady.OnlySent.DueEnds}
use Rattle.tcp_replay.proofs.Lemmas.{waiting-bit}

-- it is the peer's, also where none is known yet
known-mine : (knows far from_far : Bool) → far ≡ false → (knows ≡ true → from_far ≡ false) → (far || (knows && from_far)) ≡ false
known-mine knows far from_far e near = grind (arith, e, near)

pub of_peer : (p q : PartyState) (v : Content) → IsSteadyPair p q → v.src_port ≡ p.endpoint.config.port → v.dst_port ≡ q.endpoint.config.port
    → is_foreign q.endpoint p.endpoint.config.addr.0 q.endpoint.config.addr.0 v ≡ false
unfolding is_foreign
of_peer p q v h src_port dst_port =
    let s = q.endpoint in
    let src = p.endpoint.config.addr.0 in
    let dst = s.config.addr.0 in
    let to : bytes_eq dst s.config.addr.0 ≡ true = (bytes_eq-Decides dst dst).1 refl in
    let to_port : (v.dst_port == s.config.port) ≡ true = grind (arith, nat_tests, dst_port) in
    known-mine (has_peer s.phase) (is_for_other s dst v) (is_from_other s src v) (rw (to, to_port) refl) (λ knows.
    let from : bytes_eq src s.peer.addr.0 ≡ true = (bytes_eq-Decides src s.peer.addr.0).1 (sym (h.pair.back.speaks.peer knows)) in
    let from_port : (v.src_port == s.peer.port) ≡ true = grind (arith, nat_tests, src_port, h.back.port knows) in
    rw (from, from_port) refl)

-- ---- ON ITS WAY from p to q: the k-th segment of p, which q reads as v; it is no reset
pub record IsOnItsWay (p q : PartyState) (k : ℕ) (g : SentSegment) (v : Content) : Type 0 where
  pub sent : slice_get p.sent k ≡ Some g
  pub read : decode_answer p.endpoint.config.addr.0 q.endpoint.config.addr.0 g.bytes ≡ Ok v
  pub no_rst : has rst v.flags ≡ false

-- the party after it sent what is due
abbrev pub party_after_due : PartyState → Option Due → PartyState
party_after_due p due =
    record p { endpoint = after_due p.endpoint due; sent = p.sent ++ option_to_list (option_map (sent_by p.endpoint) (option_map (bytes_of p.endpoint) due)) }

-- an emission sends it
pub emitted-as : (p : PartyState) (due : Due) → due_of p.endpoint ≡ Some due → party_after_emission p ≡ party_after_due p (Some due)
unfolding party_after_emission emitted_bytes after_emission
emitted-as p due e = ap (party_after_due p) e

-- and it goes out
pub goes-due : (p q : PartyState) (due : Due) → IsSoundPair p q → due_of p.endpoint ≡ Some due → GoesOut p q due
goes-due p q due h e = subst (λ (o : Option Due). IfSome o (GoesOut p q)) e (due-goes p q h)

-- what goes out and is no reset is on its way
pub due-way : (p q : PartyState) (due : Due) → GoesOut p q due → has rst (segment_of p.endpoint due).flags ≡ false
    → IsOnItsWay (party_after_due p (Some due)) q (length p.sent) (sent_by p.endpoint (bytes_of p.endpoint due)) (segment_of p.endpoint due)
due-way p q due goes plain = record {
  sent = last-of p.sent (sent_by p.endpoint (bytes_of p.endpoint due));
  read = due-decodes p q due goes;
  no_rst = plain;
}

-- its lifetime isn't over
none-late : (reset late acks over : Bool) → late ≡ false → over ≡ false → (not reset && (late || (acks && over))) ≡ false
none-late reset late acks over e f = grind (arith, e, f)

pub is-there : (p : PartyState) (k : ℕ) (g : SentSegment) → slice_get p.sent k ≡ Some g → sent_at p k ≡ g
is-there p k g sent = let none : SentSegment = record { bytes = []; position = 0; wanted = 0 } in ap (λ found. unwrap_or found none) sent

pub unexpired : (p q : PartyState) (life : ℕ) (g : SentSegment) → IsSteadyPair p q → rcv_position_of q < g.position + life
    → q.endpoint.sending.snd_una < g.wanted + life → is_expired life q.endpoint g ≡ false
unexpired p q life g h young acks_young =
    none-late (has rst (flags_in g.bytes)) _ (has ack (flags_in g.bytes)) _ (grind (arith, nat_tests, young, rcv_position-is q p (pair-swapped p q h.pair)))
    (grind (arith, nat_tests, acks_young))

pub goes : (p q : PartyState) (life k : ℕ) (g : SentSegment) (v : Content) → IsOnItsWay p q k g v → is_expired life q.endpoint g ≡ false
    → delivery_refusal life p q k ≡ None
goes p q life k g v way kept =
    let inside : k < length p.sent = slice_get_within p.sent k g way.sent in
    let there : is_missing p k ≡ false = grind (arith, nat_tests, inside) in
    let still : is_expired life q.endpoint (sent_at p k) ≡ false = ap (is_expired life q.endpoint) (is-there p k g way.sent) ∙ kept in
    rw (there, still) refl

-- it arrives as what it is read as
pub arrives : (p q : PartyState) (k : ℕ) (g : SentSegment) (v : Content) → IsOnItsWay p q k g v
    → party_after_arrival q p (segment_at p k) ≡ record q { endpoint = after_segment q p v }
unfolding party_after_arrival
arrives p q k g v way =
    let src = p.endpoint.config.addr.0 in
    let dst = q.endpoint.config.addr.0 in
    ap (λ (t : State). record q { endpoint = t })
    (ap (λ (g : SentSegment). after_arrival q.endpoint src dst g.bytes) (is-there p k g way.sent) ∙ arrival-ok q.endpoint src dst g.bytes v way.read)

-- A DELIVERY that isn't refused: what arrives at q, and what q becomes
pub record IsDelivered (p q : PartyState) (k : ℕ) : Type 0 where
  pub g : SentSegment
  pub content : Content
  pub comes : Arrives q p g content
  pub same : party_after_arrival q p (segment_at p k) ≡ record q { endpoint = after_segment q p content }

-- a segment that was sent, and has not expired
pub sent-arrives : (p q : PartyState) (life k : ℕ) (g : SentSegment) (v : Content) → life ≤ max_life → is_expired life q.endpoint g ≡ false → IsSoundPair q p
    → slice_get p.sent k ≡ Some g → decode_answer p.endpoint.config.addr.0 q.endpoint.config.addr.0 g.bytes ≡ Ok v → Arrives q p g v
sent-arrives p q life k g v most young pair sent read =
    let own = pair.own_back k g sent in
    let same = same-content own.content v (decode_answer p.endpoint.config.addr.0 q.endpoint.config.addr.0 g.bytes) (own-decodes p q g own) read in
    let come = subst (λ (w : Content). Comes q p q.endpoint w g.position g.wanted) same (comes q p life g most young pair own) in
    record { place = k; sent = sent; read = read; comes = come }

-- so it is with every delivery
pub delivered : (p q : PartyState) (life k : ℕ) → life ≤ max_life → delivery_refusal life p q k ≡ None → IsSoundPair q p → IsDelivered p q k
unfolding party_after_arrival
delivered p q life k most e pair =
    let g = sent_at p k in
    let there = delivered-there life q p k e in
    let sent = segment-sent p k there.0 in
    let own = pair.own_back k g sent in
    let read = own-decodes p q g own in
    let same = arrival-ok q.endpoint p.endpoint.config.addr.0 q.endpoint.config.addr.0 g.bytes own.content read in
    record {
      g = g;
      content = own.content;
      comes = sent-arrives p q life k g own.content most there.1 pair sent read;
      same = ap (λ (t : State). record q { endpoint = t }) same;
    }

-- ---- WHAT WAS JUST EMITTED: a plain segment says what its sender wants now, and where it is (RFC 9293, 3.8).
-- FRESH: the k-th segment of p is plain, begins at `start`, and acknowledges what p wants now
pub record IsFresh (p q : PartyState) (k start : ℕ) (v : Content) : Type 0 where
  pub g : SentSegment
  pub way : IsOnItsWay p q k g v
  pub starts : g.position ≡ start
  pub wanted : g.wanted ≡ rcv_position_of p
  pub no_syn : has syn v.flags ≡ false
  pub has_ack : has ack v.flags ≡ true
  pub acks : v.ack ≡ p.endpoint.receiving.rcv_nxt
  pub src : v.src_port ≡ p.endpoint.config.port
  pub dst : v.dst_port ≡ q.endpoint.config.port
  pub seq : v.seq ≡ number p.endpoint.config.isn.0 start
  pub least : 1 ≤ start
  pub near : p.endpoint.sending.snd_una ≤ 1 + start
  -- at most to SND.NXT, after it went out
  pub most : start + count_numbers v ≤ p.endpoint.sending.snd_nxt
  -- it is text or a FIN, not both; text ends where the accepted text does, at most
  pub alone : has fin v.flags ≡ true → length v.text ≡ 0
  pub text : has fin v.flags ≡ false → (start + count_numbers v ≤ 1 + length p.accepted) ⊎ (count_numbers v ≡ 0)

-- what text, FIN and acknowledgement say
fresh-said : (p q : PartyState) (due : Due) → IsSteadyPair p q → GoesOut p q due → IsSaid p.endpoint p.accepted p.closed due → DueEnds p due
    → IsFresh (party_after_due p (Some due)) q (length p.sent) (start_of p.endpoint.sending due) (segment_of p.endpoint due)
fresh-said p q due h goes said ends =
    let s = p.endpoint in
    let d = s.sending in
    let v = plain_segment s due in
    let start = start_of d due in
    let form : segment_of s due ≡ v = said.common.segment in
    let plain = said.plain in
    let sends = h.pair.there.alone.sends in
    let bits = due-bits d due in
    let at : position_of s.config.isn.0 d.snd_una v.seq ≡ start =
    position_of_number s.config.isn.0 d.snd_una start h.pair.there.alone.config.isn (omega (arith, plain.within, one_if-most p.closed, sends.ahead, sends.released))
    (omega (arith, plain.behind)) in
    let place : position_of s.config.isn.0 d.snd_una (segment_of s due).seq ≡ start = ap (λ (v : Content). position_of s.config.isn.0 d.snd_una v.seq) form ∙ at in
    let no_rst : has rst (segment_of s due).flags ≡ false = ap (λ (v : Content). has rst v.flags) form ∙ bits.2 in
    let size : length v.text ≡ min (count_of due) (length p.accepted - (start - 1)) =
    ap length plain.text ∙ length-take (count_of due) (drop (start - 1) p.accepted) ∙ ap (min (count_of due)) (length-drop (start - 1) p.accepted) in
    let numbers : count_numbers v ≡ length v.text + one_if (is_fin due) = omega (arith, ap one_if bits.0, ap one_if bits.1) in
    rw form (record {
      g = sent_by s (bytes_of s due);
      way = subst (IsOnItsWay (party_after_due p (Some due)) q (length p.sent) (sent_by s (bytes_of s due))) form (due-way p q due goes no_rst);
      starts = due-position p q due goes ∙ place;
      wanted = rcv_position-is p q h.pair;
      no_syn = bits.0;
      has_ack = bits.3;
      acks = refl;
      src = refl;
      dst = h.there.port said.knows;
      seq = refl;
      least = plain.least;
      near = plain.behind;
      most = omega (arith, ends no_rst, place, ap count_numbers form);
      alone = λ last. omega (arith, size, (plain.last (sym bits.1 ∙ last)).2);
      text = λ open_still.
          let none : one_if (is_fin due) ≡ 0 = ap one_if (sym bits.1 ∙ open_still) in
          elim (cases_lt 0 (length v.text)) [
            | inl some ↦ inl (omega (arith, size, some, plain.least, numbers, none))
            | inr empty ↦ inr (omega (arith, numbers, none, empty))
          ];
    })

pub fresh-due : (p q : PartyState) (due : Due) → IsSteadyPair p q → GoesOut p q due → GoesOutAlone p.endpoint p.accepted p.closed due
    → has rst (segment_of p.endpoint due).flags ≡ false → has syn (segment_of p.endpoint due).flags ≡ false
    → IsFresh (party_after_due p (Some due)) q (length p.sent) (start_of p.endpoint.sending due) (segment_of p.endpoint due)
unfolding segment_of
fresh-due p q Reset h goes out no_rst no_syn = absurd (false≢true (sym no_rst ∙ waiting-bit p.endpoint p.endpoint.pending.reset out.kind))
fresh-due p q Syn h goes out no_rst no_syn = absurd (false≢true (sym no_syn ∙ (syn-bits p.endpoint.receiving.opened).0))
fresh-due p q other h goes out no_rst no_syn = fresh-said p q other h goes out.kind (due-ends p q other h.pair out)

-- WHAT IS DUE GOES OUT FRESH, unless it is a reset or a SYN
pub fresh-emitted : (p q : PartyState) → IsSteadyPair p q → (due : Due) → due_of p.endpoint ≡ Some due → (v : Content) → v ≡ segment_of p.endpoint due
    → has rst v.flags ≡ false → has syn v.flags ≡ false → IsFresh (party_after_emission p) q (length p.sent) (start_of p.endpoint.sending due) v
fresh-emitted p q h due is v form no_rst no_syn =
    let out : GoesOutAlone p.endpoint p.accepted p.closed due = subst (λ (o : Option Due). IfSome o (GoesOutAlone p.endpoint p.accepted p.closed)) is
    (due-alone p.endpoint p.accepted p.closed h.pair.there.alone) in
    rw (emitted-as p due is, form) (fresh-due p q due h (goes-due p q due h.pair is) out (rw form at no_rst) (rw form at no_syn))

-- ---- ITS SYN GOES OUT AGAIN after a retransmission timeout in SYN-SENT and SYN-RECEIVED (RFC 9293, 3.8.1), and what it says then.
-- the k-th segment of p IS ITS SYN, by which p wants the first position after q's; it acknowledges q's SYN where `told` says so
pub record IsSyn (p q : PartyState) (k : ℕ) (told : Bool) : Type 0 where
  pub content : Content
  pub g : SentSegment
  pub way : IsOnItsWay p q k g content
  pub starts : g.position ≡ 0
  pub wanted : g.wanted ≡ 1
  pub has_syn : has syn content.flags ≡ true
  pub has_ack : has ack content.flags ≡ told
  pub acks : told ≡ true → content.ack ≡ number q.endpoint.config.isn.0 1
  pub src : content.src_port ≡ p.endpoint.config.port
  pub dst : content.dst_port ≡ q.endpoint.config.port

-- ---- it is due, and goes out
pub syn-due : (s : State) → is_handshake s.phase ≡ true → s.pending.reset ≡ None → due_of (after_retransmit s) ≡ Some Syn
unfolding due_of after_retransmit
syn-due s shakes none = rw (none, shakes, or-true s.pending.syn) refl

-- it is at the first position
pub syn-position : (p q : PartyState) → IsSteadyPair p q → GoesOut p q Syn → p.endpoint.sending.snd_una ≤ 1
    → (sent_by p.endpoint (bytes_of p.endpoint Syn)).position ≡ 0
unfolding segment_of
syn-position p q h goes first =
    due-position p q Syn goes ∙ position_of_number p.endpoint.config.isn.0 p.endpoint.sending.snd_una 0 h.pair.there.alone.config.isn (omega arith)
    (omega (arith, first))

-- a SYN carries no RST
pub no-reset : (opened : Bool) → has rst (syn + (if opened then ack else 0)) ≡ false
no-reset opened = grind arith

-- and is on its way
pub syn-way : (p q : PartyState) → GoesOut p q Syn
    → IsOnItsWay (party_after_due p (Some Syn)) q (length p.sent) (sent_by p.endpoint (bytes_of p.endpoint Syn)) (syn_segment p.endpoint)
unfolding segment_of
syn-way p q goes = due-way p q Syn goes (no-reset p.endpoint.receiving.opened)

-- WHAT IT SAYS
pub syn-emitted : (p q : PartyState) → IsSteadyPair p q → is_handshake p.endpoint.phase ≡ true → rcv_position_of p ≡ 1 → due_of p.endpoint ≡ Some Syn
    → IsSyn (party_after_emission p) q (length p.sent) p.endpoint.receiving.opened
syn-emitted p q h shakes first due =
    let s = p.endpoint in
    let goes = goes-due p q Syn h.pair due in
    let bits = syn-bits s.receiving.opened in
    let alone = h.pair.there.alone in
    let snd_una = handshake-una s.phase s.ending s.sending.snd_una s.sending.snd_nxt s.receiving.opened s.receiving.finished shakes alone.sends.order alone.progress in
    rw (emitted-as p Syn due) (record {
      content = syn_segment s;
      g = sent_by s (bytes_of s Syn);
      way = syn-way p q goes;
      starts = syn-position p q h goes snd_una;
      wanted = rcv_position-is p q h.pair ∙ first;
      has_syn = bits.0;
      has_ack = bits.2;
      acks = λ opened. ap (λ (b : Bool). if b then s.receiving.rcv_nxt else 0) opened ∙ h.pair.there.takes.next opened ∙ ap (number q.endpoint.config.isn.0) first;
      src = refl;
      dst = h.there.port (handshake-knows s.phase shakes);
    })
