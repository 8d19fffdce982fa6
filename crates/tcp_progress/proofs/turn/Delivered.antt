-- WHAT A FRESH SEGMENT DOES when it is delivered (RFC 9293, 3.10.7.4): it hasn't expired, it is the peer's, all that it acknowledges
-- is SND.UNA, and the connection goes on, or has ended in order with nothing left.
use Rattle.tcp_replay.proofs.Words.{◌+◌, ◌-◌, ◌-ℤ◌, ◌<◌, ◌<ℤ◌, ◌==◌, [], ◌^◌, after_acked_text, after_arrival, after_fin, after_its_ack, after_its_text}
use Rattle.tcp_replay.proofs.Words.{after_judgement, after_own_fin, after_own_syn, after_taking, after_taking_shut, after_window_and_blocks, ap, arith}
use Rattle.tcp_replay.proofs.Words.{Bool, cases_Bool, cases_lt, Content, count_numbers, decode_answer, delivery_refusal, discards, distance, false, fin}
use Rattle.tcp_replay.proofs.Words.{first_inside, has, inl, inr, ints, is_acceptable, is_acceptable_segment, is_expired, is_fin_acked, is_foreign}
use Rattle.tcp_replay.proofs.Words.{is_inside, is_last_ack, Judgement, judgement, LastAck, length, lt-ltb, max_life, max_ordered, nat_tests, near, None}
use Rattle.tcp_replay.proofs.Words.{NotEnded, number, offset, Ok, or_left, Orderly, party_after_arrival, PartyState, Phase, phase_after_own_syn, pos}
use Rattle.tcp_replay.proofs.Words.{position_near, position_of_number, rcv_position_of, Receiving, refl, segment_at, Sends, SentSegment, State, subst, sym}
use Rattle.tcp_replay.proofs.Words.{Taken, takes_text, true, window, ◌||◌, ℕ, ℤ, ◌∙◌, ◌≡◌, ◌≤◌, ◌⊎◌}
use Rattle.tcp_replay.proofs.Lemmas.{acked_text-to, discards-not_ended, end-syn_received, Fair, fair-judgement, IsAck, IsAfterSyn as IsHere, Kept}
use Rattle.tcp_replay.proofs.Lemmas.{kept-acked_text, kept-own_syn, kept-same, kept-window_and_blocks, one_if, one_if-most, own_fin-cases, own_syn-near}
use Rattle.tcp_replay.proofs.Lemmas.{own_syn-nxt, pair-swapped, same-window_and_blocks, uncapped_rcv_position}
use Rattle.tcp_progress.proofs.Words.{all_of, begins_at, BringsOn, ends_at, IsLive, IsNext, IsPlainAck, IsSteadyPair, least_life, left_of_both, SaysByPhase}
use Rattle.tcp_numbers.proofs.Positions.{distance_numbers, offset_of_earlier, offset_of_later}
use Rattle.tcp_progress.proofs.{laws.NextTaken.IsAfterSyn, laws.NextTaken.IsReady, laws.NextTaken.judged-acceptable, laws.NextTaken.judged-next}
use Rattle.tcp_progress.proofs.{laws.NextTaken.own_fin-keeps, laws.NextTaken.ready-takes, steady.Table.own_fin-acked, turn.Emitted.arrives}
use Rattle.tcp_progress.proofs.{turn.Emitted.goes, turn.Emitted.is-there, turn.Emitted.IsFresh, turn.Emitted.of_peer, turn.Emitted.sent-arrives}
use Rattle.tcp_progress.proofs.{turn.Emitted.unexpired, turn.Live.live-after_syn, turn.Live.steady-back}

-- OPEN: it lives, and its user has read all
pub record IsOpenTo (q : PartyState) : Type 0 where
  pub live : IsLive q
  pub read : q.endpoint.receiving.inbox.unread ≡ []

-- TAKEN UP: what the delivery does to q, which becomes q'
pub record TakenUp (p q q' : PartyState) : Type 0 where
  -- all that p acknowledged is SND.UNA, RCV.NXT doesn't go back
  pub snd_una : q'.endpoint.sending.snd_una ≡ rcv_position_of p
  pub next : rcv_position_of q ≤ rcv_position_of q'
  pub opened : q'.endpoint.receiving.opened ≡ true
  -- it lives on, or ended in order and nothing is left
  pub goes_on : (q'.endpoint.ending ≡ NotEnded) ⊎ ((q'.endpoint.ending ≡ Orderly) × (left_of_both p q' ≡ 0))

-- ---- IN THE WINDOW, from RCV.NXT on, a segment that begins there is acceptable, whatever its length
begins-inside : (next window seq count : ℕ) → next < 2 ^ 32 → distance next seq < window → window ≤ 2 ^ 20 → is_acceptable next window seq count ≡ true
unfolding is_acceptable
begins-inside next window seq count fits inside small =
    let first : is_inside next window (near next seq) ≡ true = first_inside next window seq fits small ∙ lt-ltb (distance next seq) window inside in
    let opened : (window == 0) ≡ false = grind (arith, nat_tests, inside) in
    elim (cases_Bool (count == 0)) [ inl bare ↦ rw (bare, opened) first | inr numbers ↦ rw (numbers, opened) (or_left _ _ first) ]

-- ---- its own FIN's acknowledgement ends the connection in LAST-ACK alone
abbrev pub EndsOrGoesOn : State → State → Type 0
EndsOrGoesOn s s' = (s'.ending ≡ NotEnded) ⊎ ((s'.ending ≡ Orderly) × (is_fin_acked s.sending ≡ true) × (is_last_ack s.phase ≡ true))

pub own_fin-ends : (s : State) → s.ending ≡ NotEnded → EndsOrGoesOn s (after_own_fin s)
own_fin-ends s e = own_fin-cases s (EndsOrGoesOn s) (λ acked last. inr (refl, acked, last)) (λ _ _. inl e) (λ _. inl e)

pub last-before : (phase : Phase) (closing : Bool) → is_last_ack (phase_after_own_syn phase closing) ≡ true → phase ≡ LastAck
last-before phase closing e = grind (arith, e)

-- before it, an acknowledgement leaves ending and phase
pub same-ending : (s : State) (v : Content) → (after_window_and_blocks (after_acked_text (after_own_syn s v) v) v).ending ≡ s.ending
unfolding after_window_and_blocks after_acked_text after_own_syn
same-ending s v = refl

pub same-phase : (s : State) (v : Content) → is_last_ack (after_window_and_blocks (after_acked_text (after_own_syn s v) v) v).phase ≡ true
    → is_last_ack (phase_after_own_syn s.phase s.closing) ≡ true
unfolding after_window_and_blocks after_acked_text after_own_syn
same-phase s v e = e

-- of the acknowledgement, text and FIN change neither what is sent nor how the connection ends
pub record IsTakenAs (s t : State) : Type 0 where
  pub snd_una : s.sending.snd_una ≡ t.sending.snd_una
  pub ending : s.ending ≡ t.ending

pub taken-as : (s : State) (v : Content) → IsTakenAs (after_taking s v) (after_its_ack s v)
unfolding after_taking after_fin after_its_text
taken-as s v = assumption

-- nor at a zero window
pub shut-as : (s : State) (v : Content) → IsTakenAs (after_taking_shut s v) (after_its_ack s v)
unfolding after_taking_shut
shut-as s v = assumption

-- ---- after LAST-ACK nothing is left: each had all of the other, and each acknowledged it
pub nothing-left : (p q q' : PartyState) → IsSteadyPair p q → q'.accepted ≡ q.accepted → q'.closed ≡ q.closed → q'.endpoint.sending.snd_una ≡ rcv_position_of p
    → rcv_position_of q ≤ rcv_position_of q' → 2 + length q.accepted ≤ rcv_position_of p → q.endpoint.phase ≡ LastAck → left_of_both p q' ≡ 0
nothing-left p q q' h accepted closed snd_una next all last =
    let r = p.endpoint.receiving in
    let says : SaysByPhase LastAck q.endpoint = subst (λ (phase : Phase). SaysByPhase phase q.endpoint) last h.back.stage in
    let had = h.pair.back.takes.fin says.finished in
    let finished : r.finished ≡ true = elim (cases_Bool r.finished) [
      | inl yes_it_is ↦ yes_it_is
      | inr never ↦ absurd (omega (arith, ap one_if never, all, h.pair.there.takes.order))
    ] in
    let whole : all_of p ≤ rcv_position_of q = omega (arith, ap one_if says.finished, had.1, one_if-most p.closed) in
    let rest : all_of q' ≤ rcv_position_of p = omega (arith, all, ap length accepted, one_if-most q'.closed) in
    omega (arith, whole, rest, snd_una, next)

-- q's state takes text, or comes to one that does, as long as the peer's FIN wasn't taken
phase-takes : (phase : Phase) (s : State) → IsAfterSyn phase → SaysByPhase phase s → s.receiving.finished ≡ false
    → takes_text (phase_after_own_syn phase s.closing) ≡ true
phase-takes phase s here says open_still = grind (arith, here, says, open_still)

-- where it begins and ends
lies : (initial next start : ℕ) → start ≤ next → next ≤ start + 2 ^ 31 → offset (number initial next) (number initial start) ≡ pos start -ℤ pos next
lies initial next start begins close =
    elim (cases_lt start next) [
      | inl before ↦ offset_of_earlier initial next start before close ∙ omega (arith, ints, before)
      | inr here ↦ offset_of_later initial next start here (omega (arith, begins)) ∙ omega (arith, ints, here, begins)
    ]

-- RCV.NXT moves on
brings-further : (r r' : Receiving) (end : ℤ) → BringsOn r r' end → pos 0 <ℤ end → r.finished ≡ false → r.ordered + window r.inbox ≤ max_ordered
    → uncapped_rcv_position r < uncapped_rcv_position r'
brings-further r r' end brings behind open_still room =
    let some : 1 ≤ brings.count = omega (arith, ints, behind, brings.least) in
    let none : one_if r.finished ≡ 0 = ap one_if open_still in
    let last : one_if r'.finished ≡ one_if brings.fin = ap one_if (brings.finished ∙ ap (λ b. b || brings.fin) open_still) in
    omega (arith, some, none, last, brings.counted, brings.ordered, brings.most, room)

-- ---- A FRESH SEGMENT OF p, while q is open to it
module _ (p q : PartyState) (life k start : ℕ) (v : Content) (least : least_life ≤ life) (most : life ≤ max_life) (h : IsSteadyPair p q)
    (opened : p.endpoint.receiving.opened ≡ true) (open_to : IsOpenTo q) (f : IsFresh p q k start v) where
  unexpired-still : is_expired life q.endpoint f.g ≡ false
  unexpired-still =
      let sends = h.pair.there.alone.sends in
      unexpired p q life f.g h (omega (arith, sends.most, one_if-most p.closed, sends.ahead, sends.released, f.near, f.starts, f.least, least))
      (omega (arith, h.pair.back.between, f.wanted, least))

  fresh-goes : delivery_refusal life p q k ≡ None
  fresh-goes = goes p q life k f.g v f.way unexpired-still

  open-after_syn : IsAfterSyn q.endpoint.phase
  open-after_syn = live-after_syn q p (steady-back q p h) open_to.live

  mine : is_foreign q.endpoint p.endpoint.config.addr.0 q.endpoint.config.addr.0 v ≡ false
  mine = of_peer p q v h f.src f.dst

  -- what it acknowledges was sent
  acks-sent : rcv_position_of p ≤ q.endpoint.sending.snd_nxt
  acks-sent = h.back.sent.taken opened

  ack-number : v.ack ≡ number q.endpoint.config.isn.0 (rcv_position_of p)
  ack-number = f.acks ∙ h.pair.there.takes.next opened

  ack-is : position_near q.endpoint v.ack ≡ rcv_position_of p
  ack-is =
      let s = q.endpoint in
      let sends = h.pair.back.alone.sends in
      ap (position_near s) ack-number ∙ position_of_number s.config.isn.0 s.sending.snd_una (rcv_position_of p) h.pair.back.alone.config.isn
      (omega (arith, acks-sent, sends.most, one_if-most q.closed, sends.ahead, sends.released)) (omega (arith, h.pair.back.between))

  plain : IsPlainAck q.endpoint v
  plain = record {
    no_rst = f.way.no_rst;
    no_syn = f.no_syn;
    has_ack = f.has_ack;
    of_sent = omega (arith, ack-is, acks-sent);
    of_syn = λ shaking. omega (arith, ack-is, acks-sent, (end-syn_received q.endpoint shaking h.pair.back.alone.progress).1.snd_nxt_is);
  }

  -- the window is as wide as the receive buffer
  wide : window q.endpoint.receiving.inbox ≡ q.endpoint.config.recv_capacity
  wide = omega (arith, h.back.within.size, ap length open_to.read)

  judged-in : rcv_position_of q ≤ start → start < rcv_position_of q + q.endpoint.config.recv_capacity
      → judgement q.endpoint p.endpoint.config.addr.0 q.endpoint.config.addr.0 v ≡ Taken
  judged-in begins inside =
      let s = q.endpoint in
      let good = h.pair.back.alone.config.good in
      let isn = p.endpoint.config.isn.0 in
      let next = rcv_position_of q in
      let far : distance (number isn next) (number isn start) ≡ start - next = distance_numbers isn next start begins (omega (arith, inside, good.0.1.1)) in
      let at : distance s.receiving.rcv_nxt v.seq ≡ start - next =
      ap (λ n. distance n v.seq) (h.pair.back.takes.next open_to.live.opened) ∙ ap (distance (number isn next)) f.seq ∙ far in
      let fits : is_acceptable_segment s v ≡ true =
      begins-inside s.receiving.rcv_nxt (window s.receiving.inbox) v.seq (count_numbers v) h.pair.back.alone.next (omega (arith, at, wide, begins, inside))
      (omega (arith, wide, good.0.1.1)) in
      judged-acceptable s p.endpoint.config.addr.0 s.config.addr.0 v mine open-after_syn plain fits

  -- the acknowledgement makes all that p acknowledged SND.UNA, and ends q in LAST-ACK alone
  ack-taken : let s' = after_its_ack q.endpoint v in (s'.sending.snd_una ≡ rcv_position_of p)
      × ((s'.ending ≡ NotEnded) ⊎ ((s'.ending ≡ Orderly) × (2 + length q.accepted ≤ rcv_position_of p) × (q.endpoint.phase ≡ LastAck)))
  unfolding after_its_ack
  ack-taken =
      let s = q.endpoint in
      let a = rcv_position_of p in
      let after_syn = open-after_syn in
      let here : IsHere s = record { shut = after_syn.shut; listening = after_syn.listening; syn_sent = after_syn.syn_sent } in
      let kept : Kept q p s = kept-same q p (pair-swapped p q h.pair) in
      let told : IsAck s v a = record { number = ack-number; behind = omega (arith, h.pair.back.between) } in
      let close : a ≤ 2 + length q.accepted = omega (arith, one_if-most p.endpoint.receiving.finished, h.pair.there.takes.order) in
      let one = after_own_syn s v in
      let two = after_acked_text one v in
      let three = after_window_and_blocks two v in
      let near = own_syn-near q p s v a told (omega arith) close here kept in
      let first = kept-own_syn q p s v here kept in
      let second = kept-acked_text q p one v a near (omega arith) first in
      let third = kept-window_and_blocks q p two v second in
      let window_and_blocks = same-window_and_blocks two q.accepted q.closed (discards two.ending) v second.kept.here.alone.sends in
      let snd_una : two.sending.snd_una ≡ a = acked_text-to one v a near first.kept.here.between (omega (arith, acks-sent, own_syn-nxt s v)) in
      let goes : three.ending ≡ NotEnded = same-ending s v ∙ open_to.live.goes_on in
      let sends = subst (Sends three.sending q.accepted q.closed) (discards-not_ended three.ending goes) third.kept.here.alone.sends in (
        (own_fin-keeps three).snd_una ∙ window_and_blocks.snd_una ∙ snd_una,
        elim (own_fin-ends three goes) [
          | inl on ↦ inl on
          | inr over ↦
              let all : 2 + length q.accepted ≤ a = omega (arith, own_fin-acked three.sending q.accepted q.closed sends over.1, window_and_blocks.snd_una, snd_una) in
              inr (over.0, all, last-before s.phase s.closing (same-phase s v over.2))
        ],
      )

  -- and so it is taken
  fresh-taken : judgement q.endpoint p.endpoint.config.addr.0 q.endpoint.config.addr.0 v ≡ Taken → TakenUp p q (party_after_arrival q p (segment_at p k))
  fresh-taken judged =
      let s = q.endpoint in
      let src = p.endpoint.config.addr.0 in
      let q' : PartyState = record q { endpoint = after_taking s v } in
      let back = pair-swapped p q h.pair in
      let come = sent-arrives p q life k f.g v most unexpired-still back f.way.sent f.way.read in
      let fair = fair-judgement q p s s.config.addr.0 v f.g.position f.g.wanted come.comes (kept-same q p back) in
      let kept : Kept q p (after_taking s v) = subst (λ (j : Judgement). Fair q p s v j) judged fair in
      let as_acked = taken-as s v in
      let snd_una : q'.endpoint.sending.snd_una ≡ rcv_position_of p = as_acked.snd_una ∙ ack-taken.0 in
      let arrived = arrives p q k f.g v f.way ∙ ap (λ (j : Judgement). record q { endpoint = after_judgement j s src v }) judged in
      subst (λ (x : PartyState). TakenUp p q x) (sym arrived) (record {
        snd_una = snd_una;
        next = kept.grows.next;
        opened = kept.grows.opened open_to.live.opened;
        goes_on = elim ack-taken.1 [
          | inl on ↦ inl (as_acked.ending ∙ on)
          | inr over ↦ inr (as_acked.ending ∙ over.0, nothing-left p q q' h refl refl snd_una kept.grows.next over.1 over.2)
        ];
      })

  -- IN THE WINDOW, from RCV.NXT on, a fresh segment is taken
  pub delivered-in : rcv_position_of q ≤ start → start < rcv_position_of q + q.endpoint.config.recv_capacity
      → (delivery_refusal life p q k ≡ None) × TakenUp p q (party_after_arrival q p (segment_at p k))
  delivered-in begins inside = (fresh-goes, fresh-taken (judged-in begins inside))

  -- something of p lies behind RCV.NXT, so that its FIN wasn't taken
  unfinished : rcv_position_of q < p.endpoint.sending.snd_nxt → q.endpoint.receiving.finished ≡ false
  unfinished more =
      let r = q.endpoint.receiving in
      elim (cases_Bool r.finished) [
        | inl finished ↦
            let had = h.pair.back.takes.fin finished in
            absurd (omega (arith, ap one_if finished, had.1, more, h.pair.there.alone.sends.most, one_if-most p.closed))
        | inr not_yet ↦ not_yet
      ]

  -- ---- IT IS NEXT (RFC 9293, 3.10.7.4) where it begins at or before RCV.NXT and ends behind it; RCV.NXT moves on.
  -- Text ends within the room of the receive buffer, a FIN at RCV.NXT takes one place of a window that is open
  ends-within : start ≤ rcv_position_of q → rcv_position_of q < start + count_numbers v
      → start + count_numbers v ≤ rcv_position_of q + window q.endpoint.receiving.inbox
  ends-within begins ends =
      let no_syn = ap one_if f.no_syn in
      elim (cases_Bool (has fin v.flags)) [
        | inl last ↦ omega (arith, f.alone last, no_syn, ap one_if last, begins, ends, wide, h.pair.back.alone.config.good.0.1.0)
        | inr open_still ↦ elim (f.text open_still) [
          | inl inside ↦ omega (arith, inside, f.most, h.there.edge, wide)
          | inr none ↦ omega (arith, none, begins, ends)
        ]
      ]

  is-next : start ≤ rcv_position_of q → rcv_position_of q < start + count_numbers v → IsNext q.endpoint p.endpoint.config.addr.0 q.endpoint.config.addr.0 v
  is-next begins ends =
      let s = q.endpoint in
      let initial = p.endpoint.config.isn.0 in
      let next = rcv_position_of q in
      let sends = h.pair.there.alone.sends in
      let close : next ≤ start + 2 ^ 31 = omega (arith, sends.most, one_if-most p.closed, sends.ahead, sends.released, f.near, f.least) in
      let at : begins_at s v ≡ pos start -ℤ pos next =
      ap (λ n. offset n v.seq) (h.pair.back.takes.next open_to.live.opened) ∙ ap (λ n. offset (number initial next) n) f.seq ∙ lies initial next start begins
      close in
      record {
        phase = phase-takes s.phase s open-after_syn h.back.stage (unfinished (omega (arith, ends, f.most)));
        mine = mine;
        plain = plain;
        begins = omega (arith, ints, at, begins);
        ends = omega (arith, ints, at, ends);
        within = omega (arith, ints, at, ends-within begins ends);
      }

  next-on : start ≤ rcv_position_of q → rcv_position_of q < start + count_numbers v → rcv_position_of q < rcv_position_of (party_after_arrival q p (segment_at p k))
  unfolding party_after_arrival
  next-on begins ends =
      let s = q.endpoint in
      let src = p.endpoint.config.addr.0 in
      let dst = s.config.addr.0 in
      let next = is-next begins ends in
      let limit = h.pair.there.alone.sends.limit in
      let ready : IsReady s.receiving = record {
        next = h.pair.back.alone.next;
        ordered = omega (arith, limit);
        whole = omega (arith, h.back.within.size, h.back.within.received);
      } in
      let read : decode_answer src dst (segment_at p k) ≡ Ok v =
      ap (λ (g : SentSegment). decode_answer src dst g.bytes) (is-there p k f.g f.way.sent) ∙ f.way.read in
      let brings = ready-takes s ready src dst (segment_at p k) v read next in
      brings-further s.receiving (after_arrival s src dst (segment_at p k)).receiving (ends_at s v) brings.1 next.ends
      (unfinished (omega (arith, ends, f.most))) (omega (arith, limit, wide, h.pair.back.alone.config.good.0.1.1))

  -- WHAT IS NEXT is taken, and brings RCV.NXT on
  pub delivered-next : start ≤ rcv_position_of q → rcv_position_of q < start + count_numbers v
      → (delivery_refusal life p q k ≡ None) × TakenUp p q (party_after_arrival q p (segment_at p k)) ×
      (rcv_position_of q < rcv_position_of (party_after_arrival q p (segment_at p k)))
  delivered-next begins ends =
      let taken = judged-next q.endpoint p.endpoint.config.addr.0 q.endpoint.config.addr.0 v (is-next begins ends) in
      (fresh-goes, fresh-taken taken, next-on begins ends)
