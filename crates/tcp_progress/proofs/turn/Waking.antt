-- What an end has had already wakes it (RFC 9293, 3.10.7.4, first): an old segment isn't acceptable, and an acknowledgement is pending for it.
use Rattle.tcp_replay.proofs.Words.{◌+◌, ◌+ℤ◌, ◌-◌, ◌<◌, ◌==◌, after_emission, after_judgement, ap, arith, bytes_of, Content, count_numbers}
use Rattle.tcp_replay.proofs.Words.{delivery_refusal, due_of, false, has_peer, ints, is_acceptable, Judgement, length, max_capacity, nat_tests, negsuc}
use Rattle.tcp_replay.proofs.Words.{None, number, offset, offset_of_earlier, party_after_arrival, party_after_emission, PartyState, pos, rcv_position_of}
use Rattle.tcp_replay.proofs.Words.{refl, segment_at, sent_by, SentSegment, Some, State, suc, sym, Syn, syn_segment, true, window, with_ack_pending, zero}
use Rattle.tcp_replay.proofs.Words.{ℕ, ◌∙◌, ◌≡◌, ◌≤◌, ◌≤ℤ◌}
use Rattle.tcp_progress.proofs.turn.Emitted.{arrives, emitted-as, goes, goes-due, IsFresh, IsOnItsWay, of_peer, syn-position, syn-way, unexpired}
use Rattle.tcp_replay.proofs.Lemmas.{one_if-most, rcv_position-is}
use Rattle.tcp_progress.proofs.{Words.after_emissions, Words.IsSteadyPair, Words.IsUnacceptable, Words.least_life, laws.UnsentSent.judged-old, turn.Delivered.IsOpenTo}
use Rattle.tcp_progress.proofs.{turn.Live.IsStill, turn.Live.live-after_syn, turn.Live.steady-back}

-- OLD: the k-th segment of p has numbers, and q has had them all. Its lifetime isn't over
pub record IsOld (p q : PartyState) (k : ℕ) (v : Content) : Type 0 where
  pub g : SentSegment
  pub way : IsOnItsWay p q k g v
  pub src : v.src_port ≡ p.endpoint.config.port
  pub dst : v.dst_port ≡ q.endpoint.config.port
  pub seq : v.seq ≡ number p.endpoint.config.isn.0 g.position
  pub some : 1 ≤ count_numbers v
  pub ends : g.position + count_numbers v ≤ rcv_position_of q
  pub near : rcv_position_of q ≤ g.position + max_capacity + 2
  pub wanted : q.endpoint.sending.snd_una ≤ g.wanted

-- ---- it isn't acceptable where the window is open
old-unacceptable : (next window seq count : ℕ) → ((offset next seq +ℤ pos count) ≤ℤ pos 0) → 1 ≤ count → 1 ≤ window
    → is_acceptable next window seq count ≡ false
unfolding is_acceptable offset
old-unacceptable next window seq count behind some wide = grind (arith, ints, nat_tests, behind, some, wide)

old-behind : (p q : PartyState) (k : ℕ) (v : Content) → IsSteadyPair p q → q.endpoint.receiving.opened ≡ true → IsOld p q k v
    → (offset q.endpoint.receiving.rcv_nxt v.seq +ℤ pos (count_numbers v)) ≤ℤ pos 0
old-behind p q k v h opened old =
    let isn = p.endpoint.config.isn.0 in
    let at = old.g.position in
    let next : q.endpoint.receiving.rcv_nxt ≡ number isn (rcv_position_of q) = h.pair.back.takes.next opened in
    let place : offset (number isn (rcv_position_of q)) (number isn at) ≡ negsuc (rcv_position_of q - at - 1) =
    offset_of_earlier isn (rcv_position_of q) at (omega (arith, old.ends, old.some)) (omega (arith, old.near)) in
    rw (next, old.seq, place) (omega (arith, ints, old.ends, old.some))

-- ---- WHAT IT DOES: an acknowledgement is pending, and nothing else changes
old-untaken : (p q : PartyState) (k : ℕ) (v : Content) → IsSteadyPair p q → IsOpenTo q → IsOld p q k v
    → IsUnacceptable q.endpoint p.endpoint.config.addr.0 q.endpoint.config.addr.0 v
old-untaken p q k v h ready old =
    let s = q.endpoint in
    let wide : 1 ≤ window s.receiving.inbox = omega (arith, h.back.within.size, ap length ready.read, h.pair.back.alone.config.good.0.1.0) in
    let opened : (window s.receiving.inbox == 0) ≡ false = grind (arith, nat_tests, wide) in
    record {
      mine = of_peer p q v h old.src old.dst;
      no_rst = old.way.no_rst;
      outside = old-unacceptable s.receiving.rcv_nxt (window s.receiving.inbox) v.seq (count_numbers v) (old-behind p q k v h ready.live.opened old) old.some wide;
      untaken = rw opened refl;
    }

pub old-wakes : (p q : PartyState) (life k : ℕ) (v : Content) → least_life ≤ life → IsSteadyPair p q → IsOpenTo q → IsOld p q k v
    → (delivery_refusal life p q k ≡ None) × (party_after_arrival q p (segment_at p k) ≡ record q { endpoint = with_ack_pending q.endpoint })
old-wakes p q life k v least h ready old =
    let s = q.endpoint in
    let src = p.endpoint.config.addr.0 in
    let judged = judged-old s src s.config.addr.0 v (live-after_syn q p (steady-back q p h) ready.live) (old-untaken p q k v h ready old) in (
      goes p q life k old.g v old.way (unexpired p q life old.g h (omega (arith, old.near, least)) (omega (arith, old.wanted, least))),
      arrives p q k old.g v old.way ∙ ap (λ (j : Judgement). record q { endpoint = after_judgement j s src v }) judged,
    )

-- ---- where p's phase sends text: what covers SND.UNA goes out again
pub emissions-last : (n : ℕ) (s : State) → after_emissions (suc n) s ≡ after_emission (after_emissions n s)
emissions-last zero s = refl
emissions-last (suc n) s = emissions-last n (after_emission s)

-- a fresh segment that covers SND.UNA is old to q where it ends there
pub brought-old : (p p' q : PartyState) (k start : ℕ) (v : Content) → IsSteadyPair p q → IsSteadyPair p' q → IsStill p p' → IsFresh p' q k start v
    → start ≤ p.endpoint.sending.snd_una → p.endpoint.sending.snd_una < start + count_numbers v → start + count_numbers v ≤ rcv_position_of q
    → rcv_position_of q ≤ p.endpoint.sending.snd_nxt → 1 ≤ p.endpoint.sending.snd_una → IsOld p' q k v
brought-old p p' q k start v before after still goes begins some ends all least =
    let sends = before.pair.there.alone.sends in
    record {
      g = goes.g;
      way = goes.way;
      src = goes.src;
      dst = goes.dst;
      seq = goes.seq ∙ ap (number p'.endpoint.config.isn.0) (sym goes.starts);
      some = omega (arith, begins, some);
      ends = omega (arith, goes.starts, ends);
      near = omega (arith, goes.starts, goes.near, still.snd_una, all, sends.most, one_if-most p.closed, sends.ahead, sends.released, least);
      wanted = omega (arith, goes.wanted, after.pair.back.between);
    }

-- so it is where q has all that was sent
pub text-old : (p p' q : PartyState) (k start : ℕ) (v : Content) → IsSteadyPair p q → IsSteadyPair p' q → IsStill p p'
    → p'.endpoint.sending.snd_nxt ≡ p.endpoint.sending.snd_nxt → IsFresh p' q k start v → start ≤ p.endpoint.sending.snd_una
    → p.endpoint.sending.snd_una < start + count_numbers v → rcv_position_of q ≡ p.endpoint.sending.snd_nxt → 1 ≤ p.endpoint.sending.snd_una → IsOld p' q k v
text-old p p' q k start v before after still snd_nxt goes begins ends all least =
    brought-old p p' q k start v before after still goes begins ends (omega (arith, goes.most, snd_nxt, all)) (omega (arith, all)) least

-- ---- in SYN-RECEIVED: the SYN goes out again
-- it is old to q, which has it
pub syn-old : (p q : PartyState) → IsSteadyPair p q → due_of p.endpoint ≡ Some Syn → p.endpoint.receiving.opened ≡ true → has_peer p.endpoint.phase ≡ true
    → p.endpoint.sending.snd_una ≡ 0 → rcv_position_of q ≡ 1 → IsOld (party_after_emission p) q (length p.sent) (syn_segment p.endpoint)
syn-old p q pair due opened knows snd_una all =
    let s = p.endpoint in
    let goes = goes-due p q Syn pair.pair due in
    let says : count_numbers (syn_segment s) ≡ 1 = rw opened refl in
    let at = syn-position p q pair goes (omega (arith, snd_una)) in
    rw (emitted-as p Syn due) (record {
      g = sent_by s (bytes_of s Syn);
      way = syn-way p q goes;
      src = refl;
      dst = pair.there.port knows;
      seq = ap (number s.config.isn.0) (sym at);
      some = omega (arith, says);
      ends = omega (arith, at, says, all);
      near = omega (arith, at, all);
      wanted = omega (arith, rcv_position-is p q pair.pair, pair.pair.back.between);
    })
