-- SELECTIVE ACKNOWLEDGEMENT: what is reported is true, and every event keeps blocks and marks true.
use Rattle.tcp_replay.proofs.Words.{◌+◌, ◌++◌, ◌-◌, ◌==◌, [], ◌^◌, Aborted, ack, address_of, after_acked_text, after_blocks, after_delivering}
use Rattle.tcp_replay.proofs.Words.{after_discarding, after_own_syn, after_peer_accepts, after_peer_opens, after_place, after_place-keeps, after_text}
use Rattle.tcp_replay.proofs.Words.{after_window_and_blocks, after_window_update, AllByRecursion, and_parts, ap, append-nil, AreBlocksBehind, AreSoundEnds}
use Rattle.tcp_replay.proofs.Words.{arith, block_numbers, blocks, blocks_to_report, blocks_used, Bool, Cell, cond_both, Config, Content, discards, Due}
use Rattle.tcp_replay.proofs.Words.{Ending, eqb-false, EventContent, false, false≢true, has, has_discarded, HasBytes, HasPosition, HasTrueHints}
use Rattle.tcp_replay.proofs.Words.{HintsAreTrue, inr, insertion_by_stamp, is_current, is_sack_offered, is_syn_received, IsBlockBehind, IsHeld, IsMaximal}
use Rattle.tcp_replay.proofs.Words.{IsSoundPair, IsTrueBlock, IsTruthful, KeepBothHints, KeepsHints, length, List, map, max_blocks, max_life, Mss, nat_lt}
use Rattle.tcp_replay.proofs.Words.{party_with_runs, None, not, not-true, number, offset, Option, other, PartyState, permission_options, plain_segment}
use Rattle.tcp_replay.proofs.Words.{position_near, rcv_position, rcv_position_of, Receiving, refl, refusal_of, reported_blocks, Reset, rst, Run, runs}
use Rattle.tcp_replay.proofs.Words.{runs_are_maximal_lem, runs_newest_first, sack_options, scale_options, segment_of, Sending, SentSegment, shift_offered}
use Rattle.tcp_replay.proofs.Words.{slice_get, Some, State, subst, suc, sym, Syn, take, takes_fin, takes_text, takes_text_of, true, window_from}
use Rattle.tcp_replay.proofs.Words.{with_all_resent, with_fin, with_syn_acked, with_window, Witness, witness_of, world_with_effect, WorldState, zero, ℕ}
use Rattle.tcp_replay.proofs.Words.{◌∙◌, ◌∷◌, ◌≡◌, ◌≤◌}
use Rattle.tcp_conn.specs.declared.phase.Ending.TheVariants.{Reset}
use Rattle.tcp_replay.proofs.hints.Holdings.{AreTrueMarks, Has, has-fin, has-inside, has-read, has-text, HasMore, marks-after_ack, marks-blocks}
use Rattle.tcp_replay.proofs.hints.Holdings.{marks-discarded, marks-none, marks-text, marks-window}
use Rattle.tcp_replay.proofs.{pair.Steps.Kept, pair.Steps.kept-same, pair.Steps.Moved, one_end.Phases.end-synchronized, one_end.Phases.discards-not_ended, one_end.Phases.time_wait-synchronized}
use Rattle.tcp_replay.proofs.{one_end.Alone.same-window, pair.TakingSegments.fin-in_turn, pair.TakingSegments.IsAhead, pair.TakingSegments.IsYoung, pair.TakingSegments.placed, pair.TakingSegments.Synced, pair.TakingSegments.text-advances}
use Rattle.tcp_replay.proofs.{pair.TakingSegments.text_advance, pair.Events.after_segment, pair.Events.Arrives, pair.Events.in-world, pair.Events.PairKept, pair.Events.said-after, pair.Events.said-back}
use Rattle.tcp_replay.proofs.{pair.Events.Speaks, pair.Calls.KeptByCalls, pair.Arrivals.on-arrival, Lists.number-further, pair.Emissions.GoesOut, pair.Emissions.due-bits}
use Rattle.tcp_replay.proofs.{pair.Emissions.rcv_position-is}
use Rattle.tcp_replay.proofs.Words.{waiting_segment, WaitingReset, Acknowledgement}
use Rattle.tcp_replay.proofs.Words.{send_refusal, receive_refusal, AreBytes, with_text, with_bytes_received, is_time_wait, after_orderly_end}

-- Party p's end may be in this state, its peer q being where it is: what it had it has, unless it gave up, and what it
-- marks q has, unless that gave up.
abbrev pub Keeps : PartyState → PartyState → State → Type 0
Keeps p q s =
    (discards s.ending ≡ false → (has_discarded p ≡ false) × HasMore p.endpoint.receiving s.receiving)
    × (has_discarded q ≡ false → AreTrueMarks s.sending q.endpoint.receiving)

keeps-same : (p q : PartyState) → KeepBothHints p q → Keeps p q p.endpoint
keeps-same p q h = (λ stays. (stays, λ n has. has), h.there.marks)

-- the half that receives has more
has-further : (p q : PartyState) (s : State) (r : Receiving) → HasMore s.receiving r → Keeps p q s → discards s.ending ≡ false
    → (has_discarded p ≡ false) × HasMore p.endpoint.receiving r
has-further p q s r more h stays = let had = h.0 stays in (had.0, λ n has. more n (had.1 n has))

-- a reset or an abort
keeps-discarded : (p q : PartyState) (s : State) (ending : Ending) → discards ending ≡ true → length s.sending.queue.marks ≡ length s.sending.queue.bytes
    → Keeps p q (after_discarding s ending)
keeps-discarded p q s ending gone flags = (λ stays. absurd (false≢true (sym stays ∙ gone)), λ _. marks-discarded s.sending q.endpoint.receiving flags)

-- ---- THE CALLS, the timers and the emissions
hints-calls : (p q : PartyState) → IsSoundPair p q → KeepBothHints p q → KeptByCalls (address_of q) p (λ p'. Keeps p q p'.endpoint)
hints-calls p q pair k =
    let s = p.endpoint in
    let d = s.sending in
    let r = q.endpoint.receiving in
    let h = keeps-same p q k in
    let gone : Keeps p q (after_discarding s Aborted) = keeps-discarded p q s Aborted refl pair.there.alone.sends.flags in
    let sends : (text : List ℕ) → AreBytes text → send_refusal s text ≡ None → Keeps p q (record s { sending = with_text d s.config.limit text }) =
    λ text _ _. (h.0, λ stays. marks-text d r s.config.limit text (h.1 stays)) in
    let reads : (room : ℕ) → receive_refusal s ≡ None → Keeps p q (with_bytes_received s room) =
    λ room _. (has-further p q s (after_delivering s.receiving room) (has-read s.receiving room) h, h.1) in
    let resends : Keeps p q (record s { sending = with_all_resent d }) = (h.0, λ _. marks-none d (with_all_resent d) r refl) in
    let ends : is_time_wait s.phase ≡ true → Keeps p q (after_orderly_end s) = λ e.
    let at = end-synchronized s (time_wait-synchronized s.phase e) pair.there.alone.progress in
    (λ _. h.0 (discards-not_ended s.ending at.0), h.1) in
    assumption

-- ---- A SEGMENT IS TAKEN. A position that the peer has lies within the stream
has-small : (p q : PartyState) → IsSoundPair p q → (n : ℕ) → Has q.endpoint.receiving n → n ≤ 1 + length p.accepted
has-small p q h n has = has-inside q.endpoint.receiving p.accepted n h.back.takes.order h.back.takes.held has

keeps-window_and_blocks : (p q : PartyState) (s : State) (v : Content) (wanted : ℕ) → IsSoundPair p q → s.sending.snd_una ≤ wanted + 2 ^ 31
    → (has_discarded q ≡ false → AreBlocksBehind (witness_of q p) wanted (reported_blocks v.options)) → Synced p q s → Keeps p q s → Keeps p q (after_window_and_blocks s v)
unfolding after_window_and_blocks
keeps-window_and_blocks p q s v wanted pair young true_ones at h =
    let d = s.sending in
    let r = q.endpoint.receiving in
    let told = window_from s.link v.window in
    let up = after_window_update d v.seq v.ack told in
    let window = same-window d v.seq v.ack told p.accepted p.closed (discards s.ending) at.kept.here.alone.sends in
    let began = end-synchronized s at.synced at.kept.here.alone.progress in
    let blocks : has_discarded q ≡ false → AreBlocksBehind (witness_of q p) wanted (blocks_used s v) =
    λ stays. cond_both s.link.sack (reported_blocks v.options) [] (λ (blocks : List (ℕ × ℕ)). AreBlocksBehind (witness_of q p) wanted blocks)
    (λ _. true_ones stays)
    (λ _ k block none. absurd (cc)) in
    let window_and_blocks : has_discarded q ≡ false → AreTrueMarks (after_blocks s.config.isn.0 up (blocks_used s v)) r =
    λ stays. rw at.kept.grows.iss (marks-blocks (witness_of q p) r up wanted (blocks_used s v) p.accepted p.closed
    (discards s.ending) pair.there.alone.config.isn
    (omega (arith, window.snd_una, young)) (omega (arith, window.snd_una, began.1.least)) (has-small p q pair) (λ n has. has) (blocks stays) window.sends
    (marks-window d r v.seq v.ack told (h.1 stays))) in (
      h.0,
      λ stays. cond_both (is_current s v) (after_blocks s.config.isn.0 up (blocks_used s v)) d (λ (x : Sending). AreTrueMarks x r) (λ _. window_and_blocks stays)
          (λ _. h.1 stays),
    )

-- text of the stream is placed, and the FIN is taken in its turn
text-has : (p q : PartyState) (s : State) (v : Content) → IsAhead p q → (truth : IsTruthful (witness_of q p) v) → IsYoung s truth.own.position
    → takes_text_of s v ≡ true → Kept p q s
    → HasMore s.receiving (after_text s.receiving v.seq v.text)
unfolding after_text
text-has p q s v close truth young e kept =
    let r = s.receiving in
    let parts = and_parts (takes_text s.phase) (not (length v.text == 0)) e in
    let some : length v.text ≡ 0 → ⊥ = eqb-false (length v.text) 0 (not-true (length v.text == 0) parts.1) in
    has-text r (after_place r.inbox (offset r.rcv_nxt v.seq) v.text) q.accepted (text_advance s v) kept.here.takes.order close.limit
    (after_place-keeps r.inbox (offset r.rcv_nxt v.seq) v.text)
    (text-advances p q s v parts.0 close truth young some kept)

fin-has : (p q : PartyState) (s : State) (v : Content) → IsAhead p q → IsTruthful (witness_of q p) v → takes_fin s v ≡ true → Kept p q s
    → HasMore s.receiving (with_fin s.receiving)
fin-has p q s v close truth e kept =
    let fin = fin-in_turn p q s v close truth e kept in
    has-fin s.receiving q.accepted (placed p q s v fin.phase kept).unfinished fin.all kept.here.takes.held

-- WHAT ARRIVES, with blocks that are true
hints-arrive : (p q : PartyState) (g : SentSegment) (v : Content) → IsSoundPair p q → Arrives p q g v → KeepBothHints p q → Keeps p q (after_segment p q v)
unfolding after_own_syn after_acked_text after_peer_opens after_peer_accepts
hints-arrive p q g v pair a k =
    let s = p.endpoint in
    let d = s.sending in
    let r = q.endpoint.receiving in
    let h = keeps-same p q k in
    let acked = with_window (with_syn_acked d) v.seq v.ack (window_from s.link v.window) in
    on-arrival p q v g.position g.wanted (Keeps p q) (Keeps p q) a.comes (kept-same p q pair) (record {
      same = h;
      has_pending = λ _ _. h;
      gone = keeps-discarded p q s Reset refl pair.there.alone.sends.flags;
      opens = λ _ _. h;
      accepts = λ _ _. h;
      own_syn = λ _ _. (h.0, λ stays. cond_both (is_syn_received s.phase) acked d (λ (x : Sending). AreTrueMarks x r) (λ _. h.1 stays) (λ _. h.1 stays));
      acked_text = λ x _ _ _ b. (b.0, λ stays. marks-after_ack x.sending r (position_near x v.ack) (b.1 stays));
      window_and_blocks = λ x told synced young b. keeps-window_and_blocks p q x v g.wanted pair young (k.back.blocks a.place g v a.sent a.read) synced b;
      last = λ x synced _ _ b.
          let at = end-synchronized x synced.synced synced.kept.here.alone.progress in
          (λ _. b.0 (discards-not_ended x.ending at.0), b.1);
      passes = λ _ _ _ _ b. b;
      stays = λ _ _ _ b. b;
      text = λ x _ told kept young e b.
          let stands = a.comes.truthful told.plain in (
            has-further p q x (after_text x.receiving v.seq v.text)
                (text-has p q x v a.comes.close stands.truth (omega (arith, young, stands.position_is)) e kept) b,
            b.1,
          );
      fin = λ x _ told kept _ e b. (has-further p q x (with_fin x.receiving) (fin-has p q x v a.comes.close (a.comes.truthful told.plain).truth e kept) b, b.1);
      adds_pending = λ _ _ b. b;
    }) p.endpoint.config.addr.0

-- ---- WHAT IS REPORTED
all-map : {X Y : Type 0} (f : X → Y) (P : Y → Type 0) (xs : List X) → AllByRecursion (λ x. P (f x)) xs → AllByRecursion P (map f xs)
all-map f P [] h = tt
all-map f P (x ∷ xs) h = (h.0, all-map f P xs h.1)

all-further : {X : Type 0} (P P' : X → Type 0) (xs : List X) → ((x : X) → P x → P' x) → AllByRecursion P xs → AllByRecursion P' xs
all-further P P' [] further h = tt
all-further P P' (x ∷ xs) further h = (further x h.0, all-further P P' xs further h.1)

all-take : {X : Type 0} (P : X → Type 0) (n : ℕ) (xs : List X) → AllByRecursion P xs → AllByRecursion P (take n xs)
all-take P zero xs h = tt
all-take P (suc n) [] h = tt
all-take P (suc n) (x ∷ xs) h = (h.0, all-take P n xs h.1)

all-at : {X : Type 0} (P : X → Type 0) (xs : List X) (k : ℕ) (x : X) → AllByRecursion P xs → slice_get xs k ≡ Some x → P x
all-at P [] k x h e = absurd (cc)
all-at P (first ∷ xs) zero x h e = let is : first ≡ x = cc in subst P is h.0
all-at P (first ∷ xs) (suc k) x h e = all-at P xs k x h.1 e

all-insertion : (P : Run → Type 0) (run : Run) (others : List Run) → P run → AllByRecursion P others → AllByRecursion P (insertion_by_stamp run others)
all-insertion P run [] here h = (here, tt)
all-insertion P run (other ∷ others) here h =
    cond_both (nat_lt other.stamp run.stamp) (run ∷ other ∷ others) (other ∷ insertion_by_stamp run others) (AllByRecursion P) (λ _. (here, h))
    (λ _. (h.0, all-insertion P run others here h.1))

all-newest_first : (P : Run → Type 0) (all : List Run) → AllByRecursion P all → AllByRecursion P (runs_newest_first all)
unfolding runs_newest_first
all-newest_first P [] h = tt
all-newest_first P (run ∷ others) h = all-insertion P run (runs_newest_first others) h.0 (all-newest_first P others h.1)

cell-held : (held : List (Option Cell)) (k : ℕ) → IsHeld held k → (cell : Cell) × (slice_get held k ≡ Some (Some cell))
cell-held [] k h = absurd (cc)
cell-held (None ∷ held) zero h = absurd (cc)
cell-held (Some cell ∷ held) zero h = (cell, refl)
cell-held (place ∷ held) (suc k) h = cell-held held k h

-- a maximal run of held places is of positions that the end has
block-true : (p q : PartyState) (run : Run) → p.endpoint.receiving.rcv_nxt ≡ number q.endpoint.config.isn.0 (rcv_position_of p)
    → IsMaximal p.endpoint.receiving.inbox.held run
    → IsBlockBehind (witness_of p q) (rcv_position_of p) (block_numbers p.endpoint.receiving.rcv_nxt (run.from, run.to))
block-true p q run next is =
    let irs = q.endpoint.config.isn.0 in
    let n = rcv_position_of p in
    let held = p.endpoint.receiving.inbox.held in
    let block : IsTrueBlock (witness_of p q) (block_numbers p.endpoint.receiving.rcv_nxt (run.from, run.to)) = (
      n + run.from,
      n + run.to,
      omega (arith, is.some),
      number-further irs n run.from p.endpoint.receiving.rcv_nxt next,
      number-further irs n run.to p.endpoint.receiving.rcv_nxt next,
      λ position from to.
          let cell = cell-held held (position - n) (is.inside (position - n) (omega arith) (omega arith)) in
          inr (cell.0, omega arith, cell.1),
    ) in
    (block, omega arith)

-- what holds of each maximal run of held places, by its numbers, holds of each block that is reported
pub blocks-all : (P : ℕ × ℕ → Type 0) (r : Receiving) → ((run : Run) → IsMaximal r.inbox.held run → P (block_numbers r.rcv_nxt (run.from, run.to)))
    → AllByRecursion P (map (block_numbers r.rcv_nxt) (blocks r.inbox))
unfolding blocks
blocks-all P r each =
    let Q : Run → Type 0 = λ run. P (block_numbers r.rcv_nxt (run.from, run.to)) in
    let all = runs_newest_first (runs r.inbox.held) in
    let newest = all-newest_first (IsMaximal r.inbox.held) (runs r.inbox.held) (runs_are_maximal_lem r.inbox.held) in
    all-map (block_numbers r.rcv_nxt) P (blocks r.inbox)
    (all-map (λ (run : Run). (run.from, run.to)) (λ block. P (block_numbers r.rcv_nxt block)) (take max_blocks all)
    (all-take Q max_blocks all (all-further (IsMaximal r.inbox.held) Q all each newest)))

reported-true : (p q : PartyState) → p.endpoint.receiving.opened ≡ true → IsSoundPair p q
    → AreBlocksBehind (witness_of p q) (rcv_position_of p) (blocks_to_report p.endpoint)
reported-true p q opened h =
    let r = p.endpoint.receiving in
    let P : ℕ × ℕ → Type 0 = IsBlockBehind (witness_of p q) (rcv_position_of p) in
    let told : AllByRecursion P (map (block_numbers r.rcv_nxt) (blocks r.inbox)) = blocks-all P r
    (λ run is. block-true p q run (h.there.takes.next opened) is) in
    cond_both p.endpoint.link.sack (map (block_numbers r.rcv_nxt) (blocks r.inbox)) []
    (λ (list : List (ℕ × ℕ)). AreBlocksBehind (witness_of p q) (rcv_position_of p) list)
    (λ _ k block e. all-at P (map (block_numbers r.rcv_nxt) (blocks r.inbox)) k block told e)
    (λ _ k block e. absurd (cc))

-- which options report blocks
blocks-of_syn : (mss : ℕ) (shift : Option ℕ) (sack : Bool) → reported_blocks (Mss mss ∷ (scale_options shift ++ permission_options sack)) ≡ []
blocks-of_syn mss None true = refl
blocks-of_syn mss None false = refl
blocks-of_syn mss (Some shift) true = refl
blocks-of_syn mss (Some shift) false = refl

blocks-of_sack : (list : List (ℕ × ℕ)) → reported_blocks (sack_options list) ≡ list
blocks-of_sack [] = refl
blocks-of_sack (block ∷ list) = append-nil (block ∷ list)

none-true : (p q : PartyState) (list : List (ℕ × ℕ)) → list ≡ [] → AreBlocksBehind (witness_of p q) (rcv_position_of p) list
none-true p q list e k block is =
    let never : slice_get {X = ℕ × ℕ} [] k ≡ Some block = subst (λ (list : List (ℕ × ℕ)). slice_get list k ≡ Some block) e is in absurd (cc)

-- an end that reports blocks has taken the peer's SYN
plain-reports : (p q : PartyState) (due form : Due) → segment_of p.endpoint due ≡ plain_segment p.endpoint form → IsSoundPair p q → GoesOut p q due
    → AreBlocksBehind (witness_of p q) (rcv_position_of p) (reported_blocks (segment_of p.endpoint due).options)
plain-reports p q due form is h goes =
    let s = p.endpoint in
    let bits = due-bits s.sending form in
    let opened = ((goes.truthful (ap (λ (v : Content). has rst v.flags) is ∙ bits.2)).truth.has_ack
    (ap (λ (v : Content). has ack v.flags) is ∙ bits.3)).opened in
    let list : reported_blocks (segment_of s due).options ≡ blocks_to_report s = ap (λ (v : Content). reported_blocks v.options) is ∙ blocks-of_sack
    (blocks_to_report s) in
    rw list (reported-true p q opened h)

blocks-of_waiting : (p q : PartyState) (waiting : Option WaitingReset) → p.endpoint.pending.reset ≡ waiting → IsSoundPair p q → GoesOut p q Reset
    → AreBlocksBehind (witness_of p q) (rcv_position_of p) (reported_blocks (waiting_segment p.endpoint waiting).options)
unfolding segment_of
blocks-of_waiting p q None e h goes =
    subst (λ (w : Option WaitingReset). AreBlocksBehind (witness_of p q) (rcv_position_of p) (reported_blocks (waiting_segment p.endpoint w).options)) e
    (plain-reports p q Reset Acknowledgement (ap (waiting_segment p.endpoint) e) h goes)
blocks-of_waiting p q (Some reset) e h goes = none-true p q [] refl

blocks-of_due : (p q : PartyState) (due : Due) → IsSoundPair p q → GoesOut p q due
    → AreBlocksBehind (witness_of p q) (rcv_position_of p) (reported_blocks (segment_of p.endpoint due).options)
unfolding segment_of
blocks-of_due p q Reset h goes = blocks-of_waiting p q p.endpoint.pending.reset refl h goes
blocks-of_due p q Syn h goes = none-true p q _ (blocks-of_syn p.endpoint.config.mss (shift_offered p.endpoint) (is_sack_offered p.endpoint))
blocks-of_due p q other h goes = plain-reports p q other other refl h goes

-- a block stays true of an end that has as many positions or more
block-more : (x x' : Witness) (block : ℕ × ℕ) → x'.irs ≡ x.irs → ((n : ℕ) → HasPosition x n → HasPosition x' n) → IsTrueBlock x block → IsTrueBlock x' block
block-more x x' block irs more h =
    (h.0, h.1, h.2, h.3 ∙ ap (λ n. number n h.0) (sym irs), h.4 ∙ ap (λ n. number n h.1) (sym irs), λ n from to. more n (h.5 n from to))

behind-more : (x x' : Witness) (wanted : ℕ) (block : ℕ × ℕ) → x'.irs ≡ x.irs → ((n : ℕ) → HasPosition x n → HasPosition x' n) → IsBlockBehind x wanted block
    → IsBlockBehind x' wanted block
unfolding block-more
behind-more x x' wanted block irs more h = (block-more x x' block irs more h.0, h.1)

-- p became p', and emitted what is due
hints-moved : (p p' q : PartyState) → IsSoundPair p q → Moved p p' q → Speaks p p' q → Keeps p q p'.endpoint → KeepBothHints p q → KeepBothHints p' q
hints-moved p p' q pair moved out keeps h =
    let mine = witness_of p' q in
    let back = witness_of q p' in
    let more : (stays : has_discarded p' ≡ false) (n : ℕ) → HasPosition (witness_of p q) n → HasPosition mine n = λ stays. (keeps.0 stays).1 in
    record {
      there = record {
        blocks = said-after p p' q (λ g v. has_discarded p' ≡ false → AreBlocksBehind mine g.wanted (reported_blocks v.options)) moved.config out
            (λ k g v is read stays i block e. behind-more (witness_of p q) mine g.wanted block refl (more stays)
            (h.there.blocks k g v is read (keeps.0 stays).0 i block e))
            (λ due goes _ _ stays i block e.
            let own : AreBlocksBehind (witness_of p q) (rcv_position p.endpoint.receiving) (reported_blocks (segment_of p.endpoint due).options) =
            subst (λ (n : ℕ). AreBlocksBehind (witness_of p q) n (reported_blocks (segment_of p.endpoint due).options)) (sym (rcv_position-is p q pair))
            (blocks-of_due p q due pair goes) in
            behind-more (witness_of p q) mine (rcv_position p.endpoint.receiving) block refl (more stays) (own i block e));
        marks = keeps.1;
      };
      back = record {
        blocks = said-back p p' q (λ g v. has_discarded q ≡ false → AreBlocksBehind back g.wanted (reported_blocks v.options)) moved.config
            (λ k g v is read stays i block e.
            behind-more (witness_of q p) back g.wanted block (ap (λ (c : Config). c.isn.0) moved.config) (λ n has. has)
            (h.back.blocks k g v is read stays i block e));
        marks = λ stays place is. let had = keeps.0 stays in had.1 _ (h.back.marks had.0 place is);
      };
    }

pub hints-kept : PairKept (λ _ _. Unit {0}) KeepBothHints (λ p q s _. Keeps p q s)
hints-kept = record {
  swapped = λ p q h. record { there = h.back; back = h.there };
  calls = hints-calls;
  arrives = λ p q g v _ pair a k. hints-arrive p q g v pair a k;
  has_pending = λ p q ack reset _ k. keeps-same p q k;
  moved = hints-moved;
}

-- any event keeps blocks and marks true
pub hints-after : (w : WorldState) (event : EventContent) → w.life ≤ max_life → HasBytes event → refusal_of w event ≡ None → AreSoundEnds w
    → KeepBothHints w.a w.b
    → KeepBothHints (world_with_effect w event).a (world_with_effect w event).b
hints-after w event most fits e ends h = in-world _ _ _ hints-kept w event most fits e tt tt ends h

-- nothing is marked or reported yet
new-hints : (a b : Config) (runs_a runs_b : ℕ) → KeepsHints (party_with_runs a runs_a) (party_with_runs b runs_b)
new-hints a b runs_a runs_b = record { blocks = λ k g v never. absurd (cc); marks = λ stays place never. absurd (cc) }

-- two new ends report and mark nothing
pub hints-new : (a b : Config) (runs_a runs_b : ℕ) → KeepBothHints (party_with_runs a runs_a) (party_with_runs b runs_b)
hints-new a b runs_a runs_b = record { there = new-hints a b runs_a runs_b; back = new-hints b a runs_b runs_a }

-- what is kept tells that the hints are true
true-there : (p q : PartyState) → KeepsHints p q → HasTrueHints p q
true-there p q h = record { blocks = λ v sent stays k block is. (h.blocks sent.0 sent.1 v sent.2 sent.3 stays k block is).0; marks = h.marks }

-- what is kept of blocks and marks is what is promised of them
pub hints-true : (w : WorldState) → KeepBothHints w.a w.b → HintsAreTrue w
hints-true w h = record { there = true-there w.a w.b h.there; back = true-there w.b w.a h.back }
