-- A segment of the peer is taken, stage by stage: its acknowledgement, window and blocks, its text, its FIN.
use Rattle.tcp_replay.proofs.Words.{◌%◌, ◌+◌, ◌-◌, ◌<◌, ◌==◌, ◌^◌, acks_more, advance_of, Advances, after_ack, after_acked_text, after_fin, after_its_ack}
use Rattle.tcp_replay.proofs.Words.{after_its_text, after_own_fin, after_own_syn, after_place, after_place-agrees, after_taking, after_taking_shut}
use Rattle.tcp_replay.proofs.Words.{after_text, after_window_and_blocks, and_parts, ap, arith, Bool, cases_lt, cond_both, Content, discards, drop}
use Rattle.tcp_replay.proofs.Words.{drop-drop, eqb-false, eqb-true, false, fin, has, has_fin, has_peer, if◌then◌else◌, is_fin_due, is_syn_received}
use Rattle.tcp_replay.proofs.Words.{IsTruthful, length, LiesAt, List, max_capacity, nat_lt, negsuc, not, not-true, NotEnded, number, offset}
use Rattle.tcp_replay.proofs.Words.{offset_of_earlier, offset_of_later, PartyState, phase_after_fin, place_answer, pos, position_near, position_of_number}
use Rattle.tcp_replay.proofs.Words.{rcv_position_of, refl, Sending, Sends, State, stream_limit, subst, suc, sym, take, takes_fin, takes_text}
use Rattle.tcp_replay.proofs.Words.{takes_text_of, true, window, window_from, with_acked, with_fin, with_syn_acked, with_window, witness_of, ◌||◌, ℕ, ℤ}
use Rattle.tcp_replay.proofs.Words.{◌∙◌, ◌≡◌, ◌≤◌, ⊎_elim}
use Rattle.tcp_replay.proofs.pair.Steps.{Kept, kept-ack_pending, kept-alone, kept-changed, kept-orderly, position-of_text, positive, uncapped_rcv_position}
use Rattle.tcp_replay.proofs.one_end.Phases.{after_syn-knows, discards-not_ended, end-syn_received, end-synchronized, end-takes_text, is_synchronized}
use Rattle.tcp_replay.proofs.one_end.Phases.{knows-fin, knows-own_fin}
use Rattle.tcp_replay.proofs.one_end.Alone.{alone-acked_text, alone-fin_taken, alone-own_syn, alone-text, alone-window_and_blocks, answers_shut}
use Rattle.tcp_replay.proofs.one_end.Alone.{own_fin-phase, own_syn-synced, pending-going_on, pending-taking, same-window_and_blocks}
use Rattle.tcp_replay.proofs.{Lists.by_test, Lists.drop-take_sub, Lists.number-further, Lists.number-same, Lists.one_if, Lists.one_if-false, Lists.one_if-most}
use Rattle.tcp_replay.proofs.{pair.Halves.delivers-advance, pair.Halves.takes-advance, pair.Halves.takes-fin, one_end.Judgements.IsAfterSyn, Cases.own_fin-cases}

-- a state in which both SYNs were taken
pub record Synced (p q : PartyState) (s : State) : Type 0 where
  pub kept : Kept p q s
  pub synced : is_synchronized s.phase ≡ true

-- OWN SYN
pub kept-own_syn : (p q : PartyState) (s : State) (v : Content) → IsAfterSyn s → Kept p q s → Synced p q (after_own_syn s v)
unfolding after_own_syn
kept-own_syn p q s v after_syn h =
    let d = s.sending in
    let knows : has_peer s.phase ≡ true = after_syn-knows s.phase after_syn.shut after_syn.listening in
    let acked = with_window (with_syn_acked d) v.seq v.ack (window_from s.link v.window) in
    record {
      kept = kept-alone p q s (after_own_syn s v) h refl (alone-own_syn s p.accepted p.closed v after_syn h.here.alone)
          (record { peer = λ _. h.here.speaks.peer knows; reset = h.here.speaks.reset }) refl refl
          (cond_both (is_syn_received s.phase) acked d (λ (x : Sending). x.snd_una ≤ rcv_position_of q)
          (λ e. omega (arith, (end-syn_received s e h.here.alone.progress).1.snd_nxt_is)) (λ _. h.here.between));
      synced = own_syn-synced s v after_syn;
    }

-- ACKNOWLEDGEMENT of a position that the peer wants next, or wanted before
una-acked : (d : Sending) (a n : ℕ) → d.snd_una ≤ n → a ≤ n → (after_ack d a).snd_una ≤ n
unfolding after_ack
una-acked d a n low had = cond_both (acks_more d a) (with_acked d a) d (λ (x : Sending). x.snd_una ≤ n) (λ _. had) (λ _. low)

-- both ends stay sound over the acknowledgement of a segment
pub kept-acked_text : (p q : PartyState) (s : State) (v : Content) (a : ℕ) → position_near s v.ack ≡ a → a ≤ rcv_position_of q → Synced p q s
    → Synced p q (after_acked_text s v)
unfolding after_acked_text
kept-acked_text p q s v a is had h = record {
  kept = kept-alone p q s (after_acked_text s v) h.kept refl (alone-acked_text s p.accepted p.closed v h.synced h.kept.here.alone)
      (record { peer = h.kept.here.speaks.peer; reset = h.kept.here.speaks.reset }) refl refl
      (una-acked s.sending (position_near s v.ack) (rcv_position_of q) h.kept.here.between (omega (arith, is, had)));
  synced = h.synced;
}

-- WINDOW UPDATE, and the blocks: neither is part of what is kept
pub kept-window_and_blocks : (p q : PartyState) (s : State) (v : Content) → Synced p q s → Synced p q (after_window_and_blocks s v)
unfolding after_window_and_blocks
kept-window_and_blocks p q s v h =
    let same = same-window_and_blocks s p.accepted p.closed (discards s.ending) v h.kept.here.alone.sends in
    record {
      kept = kept-alone p q s (after_window_and_blocks s v) h.kept refl (alone-window_and_blocks s p.accepted p.closed v h.kept.here.alone)
          (record { peer = h.kept.here.speaks.peer; reset = h.kept.here.speaks.reset }) refl refl
          (omega (arith, same.snd_una, h.kept.here.between));
      synced = h.synced;
    }

-- OWN FIN: the connection goes on, or has ended
kept-own_fin : (p q : PartyState) (s : State) → Synced p q s → Kept p q (after_own_fin s)
kept-own_fin p q s h =
    let at = end-synchronized s h.synced h.kept.here.alone.progress in
    own_fin-cases s (Kept p q) (λ _ _. kept-orderly p q s at.0 h.kept)
    (λ _ _. kept-alone p q s _ h.kept refl (own_fin-phase s p.accepted p.closed h.kept.here.alone)
    (record { peer = λ known. h.kept.here.speaks.peer (sym (knows-own_fin s.phase) ∙ known); reset = h.kept.here.speaks.reset }) refl refl
    h.kept.here.between)
    (λ _. h.kept)

-- TEXT of the peer's stream
lies-ahead : (ordered position : ℕ) (text accepted : List ℕ) → 1 + ordered ≤ position → text ≡ take (length text) (drop (position - 1) accepted)
    → LiesAt (pos (position - (1 + ordered))) text (drop ordered accepted)
lies-ahead ordered position text accepted order is =
    let whole : ordered + (position - (1 + ordered)) ≡ position - 1 = omega arith in
    ap (take (length text)) (drop-drop (position - (1 + ordered)) ordered accepted ∙ ap (λ k. drop k accepted) whole) ∙ sym is

lies-before : (ordered position : ℕ) (text accepted : List ℕ) → 1 ≤ position → position ≤ ordered → text ≡ take (length text) (drop (position - 1) accepted)
    → LiesAt (negsuc (1 + ordered - position - 1)) text (drop ordered accepted)
lies-before ordered position text accepted least order is =
    let k = suc (1 + ordered - position - 1) in
    let whole : position - 1 + k ≡ ordered = omega arith in
    ap (drop k) is ∙ drop-take_sub k (length text) (drop (position - 1) accepted)
    ∙ ap (take (length text - k)) (drop-drop k (position - 1) accepted ∙ ap (λ n. drop n accepted) whole)

lies-at : (irs ordered position next seq : ℕ) (text accepted : List ℕ) → 1 + ordered ≤ position + 2 ^ 31 → position < 1 + ordered + 2 ^ 31 → 1 ≤ position
    → next ≡ number irs (1 + ordered) → seq ≡ number irs position
    → text ≡ take (length text) (drop (position - 1) accepted) → LiesAt (offset next seq) text (drop ordered accepted)
lies-at irs ordered position next seq text accepted young close least next_is seq_is is =
    let P : ℤ → Type 0 = λ z. LiesAt z text (drop ordered accepted) in
    subst (λ (n : ℕ). P (offset n seq)) (sym next_is) (subst (λ (m : ℕ). P (offset (number irs (1 + ordered)) m)) (sym seq_is)
    (⊎_elim
    (λ less. let behind : position ≤ ordered = omega arith in subst P (sym (offset_of_earlier irs (1 + ordered) position less (omega arith)))
    (lies-before ordered position text accepted least behind is))
    (λ more. subst P (sym (offset_of_later irs (1 + ordered) position more (omega arith))) (lies-ahead ordered position text accepted more is))
    (cases_lt position (1 + ordered))))

-- what a segment needs that is placed: its text is the other end's
pub record Placed (p q : PartyState) (s : State) (v : Content) : Type 0 where
  pub opened : s.receiving.opened ≡ true
  pub unfinished : s.receiving.finished ≡ false
  pub going : s.ending ≡ NotEnded
  pub next : s.receiving.rcv_nxt ≡ number q.endpoint.config.isn.0 (1 + s.receiving.ordered)

-- an end that takes text expects it at RCV.NXT, and has not taken a FIN
pub placed : (p q : PartyState) (s : State) (v : Content) → takes_text s.phase ≡ true → Kept p q s → Placed p q s v
placed p q s v e h =
    let at = end-takes_text s e h.here.alone.progress in
    let none : one_if s.receiving.finished ≡ 0 = one_if-false s.receiving.finished at.1.goes_on in
    record {
      opened = at.1.is_opened;
      unfinished = at.1.goes_on;
      going = at.0;
      next = h.here.takes.next at.1.is_opened ∙ ap (number q.endpoint.config.isn.0) (omega (arith, none));
    }

-- it is placed where it lies in the stream
abbrev pub text_advance : State → Content → ℕ
text_advance s v = advance_of (place_answer s.receiving.inbox (offset s.receiving.rcv_nxt v.seq) v.text)

-- what the peer has accepted lies close ahead of what the end wants
pub record IsAhead (p q : PartyState) : Type 0 where
  pub ahead : length q.accepted ≤ rcv_position_of p + max_capacity
  pub limit : length q.accepted ≤ stream_limit

-- a position that lies not too far behind what the end wants
abbrev pub IsYoung : State → ℕ → Type 0
IsYoung s position = uncapped_rcv_position s.receiving ≤ position + 2 ^ 31

-- so many bytes of the text come in order, all of them the stream of the peer
pub text-advances : (p q : PartyState) (s : State) (v : Content) → takes_text s.phase ≡ true → IsAhead p q → (truth : IsTruthful (witness_of q p) v)
    → IsYoung s truth.own.position → (length v.text ≡ 0 → ⊥) → Kept p q s
    → Advances s.receiving.inbox (after_place s.receiving.inbox (offset s.receiving.rcv_nxt v.seq) v.text) (drop s.receiving.ordered q.accepted) (text_advance s v)
text-advances p q s v e close truth young some h =
    let r = s.receiving in
    let at = placed p q s v e h in
    let takes = h.here.takes in
    let nonempty : 0 < length v.text = positive (length v.text) some in
    let least : 1 ≤ truth.own.position = position-of_text q.endpoint.config.isn.0 q.accepted q.closed v truth.own nonempty in
    let fit : truth.own.position + length v.text ≤ 1 + length q.accepted = truth.own.fits nonempty in
    let lies : LiesAt (offset r.rcv_nxt v.seq) v.text (drop r.ordered q.accepted) =
    lies-at q.endpoint.config.isn.0 r.ordered truth.own.position r.rcv_nxt v.seq v.text q.accepted (omega (arith, young))
    (omega (arith, fit, close.ahead, h.grows.next, one_if-most r.finished)) least at.next truth.own.seq (truth.own.text nonempty) in
    after_place-agrees r.inbox (offset r.rcv_nxt v.seq) v.text (drop r.ordered q.accepted) takes.held lies

takes-text : (p q : PartyState) (s : State) (v : Content) → takes_text s.phase ≡ true → IsAhead p q → (truth : IsTruthful (witness_of q p) v)
    → IsYoung s truth.own.position
    → (length v.text ≡ 0 → ⊥) → Kept p q s → Kept p q (record s { receiving = after_text s.receiving v.seq v.text })
unfolding after_text
takes-text p q s v e close truth young some h =
    let r = s.receiving in
    let at = placed p q s v e h in
    let takes = h.here.takes in
    let gone : discards s.ending ≡ false = discards-not_ended s.ending at.going in
    let steps = text-advances p q s v e close truth young some h in
    let inbox = after_place r.inbox (offset r.rcv_nxt v.seq) v.text in
    let new = takes-advance r q.endpoint.config.isn.0 q.accepted q.closed inbox (text_advance s v) close.limit at.opened at.unfinished takes steps in
    let delivers = delivers-advance r q.endpoint.config.isn.0 q.accepted q.closed p.delivered p.ended (discards s.ending) inbox
    (text_advance s v) close.limit gone takes h.here.delivers steps in
    kept-changed p q s _ h refl (alone-text s p.accepted p.closed v h.here.alone)
    (record { peer = h.here.speaks.peer; reset = h.here.speaks.reset }) new delivers h.here.between (λ e. e) (omega (arith, takes.order, close.limit))

-- both ends stay sound where text comes
pub kept-its_text : (p q : PartyState) (s : State) (v : Content) → IsAhead p q → (truth : IsTruthful (witness_of q p) v) → IsYoung s truth.own.position
    → Kept p q s → Kept p q (after_its_text s v)
unfolding after_its_text
kept-its_text p q s v close truth young h =
    let after = record s { receiving = if takes_text_of s v then after_text s.receiving v.seq v.text else s.receiving } in
    let stage : Kept p q after = by_test (takes_text_of s v)
    (λ b. Kept p q (record s { receiving = if b then after_text s.receiving v.seq v.text else s.receiving }))
    (λ e.
    let parts = and_parts (takes_text s.phase) (not (length v.text == 0)) e in
    takes-text p q s v parts.0 close truth young (eqb-false (length v.text) 0 (not-true (length v.text == 0) parts.1)) h)
    (λ _. h) in
    kept-ack_pending p q after (takes_text_of s v)
    (λ e. pending-taking after p.accepted p.closed (and_parts (takes_text s.phase) (not (length v.text == 0)) e).0 stage.here.alone) stage

-- THE PEER'S FIN: its number is the next one, so that all before it has come
fin-next : (irs position count ordered whole next seq : ℕ) → position + count ≡ 1 + whole → ordered ≤ whole → whole < ordered + 2 ^ 32
    → seq ≡ number irs position → next ≡ number irs (1 + ordered)
    → number seq count ≡ next → ordered ≡ whole
fin-next irs position count ordered whole next seq last order close seq_is next_is due =
    let one : (seq + count) % 2 ^ 32 ≡ number irs (position + count) = number-further irs position count seq seq_is in
    let same : position + count ≡ 1 + ordered = number-same irs (position + count) (1 + ordered) (omega arith) (omega arith) (sym one ∙ due ∙ next_is) in
    omega arith

-- what a FIN needs that is taken: its turn has come, and the peer closed
pub record TakesFin (p q : PartyState) (s : State) (v : Content) : Type 0 where
  pub phase : takes_text s.phase ≡ true
  pub is_closed : q.closed ≡ true
  pub all : s.receiving.ordered ≡ length q.accepted

-- a FIN of the peer that is taken comes behind all that it accepted
pub fin-in_turn : (p q : PartyState) (s : State) (v : Content) → IsAhead p q → IsTruthful (witness_of q p) v → takes_fin s v ≡ true → Kept p q s
    → TakesFin p q s v
fin-in_turn p q s v close truth e h =
    let r = s.receiving in
    let told = and_parts (has_fin s v) (is_fin_due r (number v.seq (length v.text))) e in
    let flag = and_parts (takes_text s.phase) (has fin v.flags) told.0 in
    let due = and_parts (number v.seq (length v.text) == r.rcv_nxt) (nat_lt 0 (window r.inbox)) told.1 in
    let at = placed p q s v flag.0 h in
    let last = truth.own.has_fin flag.1 in
    record {
      phase = flag.0;
      is_closed = last.0;
      all = fin-next q.endpoint.config.isn.0 truth.own.position (length v.text) r.ordered (length q.accepted) r.rcv_nxt v.seq last.1 h.here.takes.order
          (omega (arith, close.ahead, h.grows.next, one_if-most r.finished)) truth.own.seq at.next
          (eqb-true (number v.seq (length v.text)) r.rcv_nxt due.0);
    }

fin-true : (p q : PartyState) (s : State) (v : Content) → IsAhead p q → IsTruthful (witness_of q p) v → takes_fin s v ≡ true → Kept p q s
    → Kept p q (record s { phase = phase_after_fin s.phase; receiving = with_fin s.receiving })
fin-true p q s v close truth e h =
    let r = s.receiving in
    let fin = fin-in_turn p q s v close truth e h in
    let at = placed p q s v fin.phase h in
    let knows : has_peer (phase_after_fin s.phase) ≡ has_peer s.phase = knows-fin s.phase in
    kept-changed p q s _ h refl (alone-fin_taken s p.accepted p.closed fin.phase h.here.alone)
    (record { peer = λ known. h.here.speaks.peer (sym knows ∙ known); reset = h.here.speaks.reset })
    (takes-fin r q.endpoint.config.isn.0 q.accepted q.closed at.opened at.unfinished fin.is_closed fin.all h.here.takes)
    h.here.delivers h.here.between
    (λ opened. opened) (omega (arith, one_if-false r.finished at.unfinished))

kept-fin : (p q : PartyState) (s : State) (v : Content) → IsAhead p q → IsTruthful (witness_of q p) v → Kept p q s → Kept p q (after_fin s v)
unfolding after_fin
kept-fin p q s v close truth h =
    let adds_pending : State = record s { pending = record s.pending { ack = s.pending.ack || has_fin s v } } in
    let has_pending : Kept p q adds_pending = kept-ack_pending p q s (has_fin s v)
    (λ e. pending-taking s p.accepted p.closed (and_parts (takes_text s.phase) (has fin v.flags) e).0 h.here.alone) h in
    by_test (takes_fin s v)
    (λ b. Kept p q (record adds_pending { phase = if b then phase_after_fin s.phase else s.phase; receiving = if b then with_fin s.receiving else s.receiving }))
    (λ e. fin-true p q adds_pending v close truth e has_pending) (λ _. has_pending)

-- ALL OF IT. The acknowledgement is the number of a position of the own direction, which lies not too far behind SND.UNA.
pub record IsAck (s : State) (v : Content) (a : ℕ) : Type 0 where
  pub number : v.ack ≡ number s.config.isn.0 a
  pub behind : s.sending.snd_una ≤ a + 2 ^ 31

near-is : (s : State) (v : Content) (a : ℕ) (accepted : List ℕ) (closed gone : Bool) → s.config.isn.0 < 2 ^ 32 → Sends s.sending accepted closed gone
    → a ≤ 2 + length accepted → IsAck s v a → position_near s v.ack ≡ a
near-is s v a accepted closed gone fits sends most h =
    ap (position_near s) h.number ∙ position_of_number s.config.isn.0 s.sending.snd_una a fits (omega (arith, sends.ahead, sends.released)) h.behind

own_syn-number : (s : State) (v : Content) (a : ℕ) → IsAck s v a → v.ack ≡ number (after_own_syn s v).config.isn.0 a
unfolding after_own_syn
own_syn-number s v a told = told.number

own_syn-behind : (p q : PartyState) (s : State) (v : Content) (a : ℕ) → IsAck s v a → Kept p q s → (after_own_syn s v).sending.snd_una ≤ a + 2 ^ 31
unfolding after_own_syn
own_syn-behind p q s v a told h =
    let d = s.sending in
    cond_both (is_syn_received s.phase) (with_window (with_syn_acked d) v.seq v.ack (window_from s.link v.window)) d (λ (x : Sending). x.snd_una ≤ a + 2 ^ 31)
    (λ e. omega (arith, (end-syn_received s e h.here.alone.progress).1.snd_nxt_is)) (λ _. told.behind)

-- once the own SYN is acknowledged the number acknowledged is read as the same position
pub own_syn-near : (p q : PartyState) (s : State) (v : Content) (a : ℕ) → IsAck s v a → a ≤ rcv_position_of q → rcv_position_of q ≤ 2 + length p.accepted
    → IsAfterSyn s → Kept p q s → position_near (after_own_syn s v) v.ack ≡ a
own_syn-near p q s v a told had near after_syn h =
    let first = kept-own_syn p q s v after_syn h in
    near-is (after_own_syn s v) v a p.accepted p.closed (discards (after_own_syn s v).ending) first.kept.here.alone.config.isn first.kept.here.alone.sends
    (omega (arith, had, near))
    (record { number = own_syn-number s v a told; behind = own_syn-behind p q s v a told h })

-- SND.UNA is at most 2^31 ahead of the position acknowledged
pub acked_text-behind : (p q : PartyState) (s : State) (v : Content) (a : ℕ) → IsAck s v a → a ≤ rcv_position_of q → rcv_position_of q ≤ 2 + length p.accepted
    → IsAfterSyn s → Kept p q s
    → (after_acked_text (after_own_syn s v) v).sending.snd_una ≤ a + 2 ^ 31
unfolding after_acked_text
acked_text-behind p q s v a told had near after_syn h =
    let x = after_own_syn s v in
    una-acked x.sending (position_near x v.ack) (a + 2 ^ 31) (own_syn-behind p q s v a told h) (omega (arith, own_syn-near p q s v a told had near after_syn h))

-- both ends stay sound over all that an acknowledgement does
pub kept-its_ack : (p q : PartyState) (s : State) (v : Content) (a : ℕ) → IsAck s v a → a ≤ rcv_position_of q → rcv_position_of q ≤ 2 + length p.accepted
    → IsAfterSyn s → Kept p q s → Kept p q (after_its_ack s v)
unfolding after_its_ack
kept-its_ack p q s v a told had near after_syn h =
    kept-own_fin p q _ (kept-window_and_blocks p q _ v
    (kept-acked_text p q (after_own_syn s v) v a (own_syn-near p q s v a told had near after_syn h) had (kept-own_syn p q s v after_syn h)))

-- which leaves the half that receives as it was
pub its_ack-receiving : (s : State) (v : Content) → (after_its_ack s v).receiving ≡ s.receiving
unfolding after_its_ack after_own_syn after_acked_text after_window_and_blocks
its_ack-receiving s v =
    own_fin-cases (after_window_and_blocks (after_acked_text (after_own_syn s v) v) v) (λ y. y.receiving ≡ s.receiving) (λ _ _. refl) (λ _ _. refl) (λ _. refl)

-- a position that is young stays so over an acknowledgement
pub young-later : (s : State) (v : Content) (position : ℕ) → IsYoung s position → IsYoung (after_its_ack s v) position
young-later s v position young = omega (arith, young, ap uncapped_rcv_position (its_ack-receiving s v))

-- and where a segment is taken whole,
pub kept-taking : (p q : PartyState) (s : State) (v : Content) (a : ℕ) → IsAck s v a → a ≤ rcv_position_of q → rcv_position_of q ≤ 2 + length p.accepted
    → IsAhead p q
    → (truth : IsTruthful (witness_of q p) v) → IsYoung s truth.own.position → IsAfterSyn s → Kept p q s → Kept p q (after_taking s v)
unfolding after_taking
kept-taking p q s v a told had near close truth young after_syn h =
    let first = kept-its_ack p q s v a told had near after_syn h in
    kept-fin p q _ v close truth (kept-its_text p q _ v close truth (young-later s v truth.own.position young) first)

-- and with the window shut
pub kept-taking_shut : (p q : PartyState) (s : State) (v : Content) (a : ℕ) → IsAck s v a → a ≤ rcv_position_of q → rcv_position_of q ≤ 2 + length p.accepted
    → IsAfterSyn s → Kept p q s → Kept p q (after_taking_shut s v)
unfolding after_taking_shut
kept-taking_shut p q s v a told had near after_syn h =
    let x = after_its_ack s v in
    let first = kept-its_ack p q s v a told had near after_syn h in
    kept-ack_pending p q x (answers_shut x) (pending-going_on s p.accepted p.closed v after_syn first.here.alone) first
