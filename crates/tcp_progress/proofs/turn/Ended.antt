-- THE END: where nothing is left, the users read all, TIME-WAIT expires, and the ends end in order.
use Rattle.tcp_replay.proofs.Words.{◌+◌, ◌++◌, [], after_orderly_end, after_read, after_receive, after_time_wait, and-false, ap, append-nil, arith, Bool}
use Rattle.tcp_replay.proofs.Words.{both, cond_both, discards, effect_of, Ending, false, FitsPhase, inl, inr, is_closed, is_fin_acked, is_time_wait}
use Rattle.tcp_replay.proofs.Words.{length, None, NotEnded, or-true, Orderly, party_after_receive, party_after_timer, PartyState, Phase, rcv_position_of}
use Rattle.tcp_replay.proofs.Words.{receive_refusal, refl, Sends, State, subst, sym, take_all, true, unread_of, world_after_all, WorldState, ℕ, ◌∙◌, ◌≡◌}
use Rattle.tcp_replay.proofs.Words.{◌≤◌, ◌⊎◌}
use Rattle.tcp_progress.proofs.Words.{HasReadAll, all_of, HasStreamsOf, IsSettled, IsSteadyPair, IsThrough, left_of_both, SaysByPhase, time_waits}
use Rattle.tcp_replay.proofs.Lemmas.{Both, both-swapped, kept-after_all, one_if, one_if-most}
use Rattle.tcp_progress.proofs.{turn.Live.GoOn, turn.Live.IsUp, turn.Live.live-after_syn, turn.Live.steady-back, steady.AlwaysSteady.IsKept, steady.AlwaysSteady.kept-after}
use Rattle.tcp_progress.proofs.{steady.AlwaysSteady.kept-steady, steady.Table.own_fin-is_acked}
use Rattle.tcp_conn.specs.declared.phase.Timer.TheVariants as timers

-- ---- NOTHING IS LEFT between two ends that are up: each has taken all of the other, and all of it is acknowledged
pub record IsAllTaken (x y : PartyState) : Type 0 where
  pub up : IsUp x
  pub taken : all_of x ≤ rcv_position_of y
  pub acked : all_of x ≤ x.endpoint.sending.snd_una

-- both ways
abbrev pub IsComplete : PartyState → PartyState → Type 0
IsComplete x y = Both IsAllTaken x y

pub complete : (x y : PartyState) → GoOn x y → left_of_both x y ≡ 0 → IsComplete x y
complete x y on none = record {
  there = record { up = on.there; taken = omega (arith, none); acked = omega (arith, none) };
  back = record { up = on.back; taken = omega (arith, none); acked = omega (arith, none) };
}

-- AS FAR ON as before: what was accepted, taken and acknowledged is the same
pub record IsAsFar (p p' : PartyState) : Type 0 where
  pub all : all_of p' ≡ all_of p
  pub next : rcv_position_of p' ≡ rcv_position_of p
  pub snd_una : p'.endpoint.sending.snd_una ≡ p.endpoint.sending.snd_una
  pub up : IsUp p → IsUp p'

pub complete-on : (p p' q : PartyState) → IsAsFar p p' → IsComplete p q → IsComplete p' q
complete-on p p' q far h = record {
  there = record { up = far.up h.there.up; taken = omega (arith, far.all, h.there.taken); acked = omega (arith, far.all, far.snd_una, h.there.acked) };
  back = record { up = h.back.up; taken = omega (arith, far.next, h.back.taken); acked = h.back.acked };
}

-- ---- THE USER READS ALL, and then once more
-- an end that lives or has ended in order still delivers what is unread
pub delivers-still : (p q : PartyState) → IsSteadyPair p q → IsUp p → receive_refusal p.endpoint ≡ None
delivers-still p q h up =
    elim up.kept [
      | inl goes ↦ rw (goes, (live-after_syn p q h (record { opened = up.opened; goes_on = goes })).shut) refl
      | inr over ↦ rw (over, and-false (is_closed p.endpoint.phase)) refl
    ]

-- once nothing is unread, the end of the stream is delivered
pub read-end : (p : PartyState) → receive_refusal p.endpoint ≡ None → unread_of p ≡ [] → HasReadAll (party_after_receive p 0)
unfolding party_after_receive after_receive after_read
read-end p delivers none = record { all = rw delivers none; ended = rw delivers (λ finished. rw (none, finished) (or-true p.ended)) }

-- ---- WHAT NOTHING LEFT SAYS of the numbers: all came in order, and the FIN where there is one
pub record HasAll (n count : ℕ) (closed fin : Bool) : Type 0 where
  pub ordered : count ≡ n
  pub finished : closed ≡ true → fin ≡ true

has-all : (n count : ℕ) (closed fin : Bool) → count ≤ n → (fin ≡ true → (closed ≡ true) × (count ≡ n)) → 1 + n + one_if closed ≤ 1 + count + one_if fin
    → HasAll n count closed fin
has-all n count closed fin order taken all = record { ordered = grind (arith, order, taken, all); finished = grind (arith, order, taken, all) }

-- y has all of x
pub all-come : (x y : PartyState) → IsSteadyPair x y → IsAllTaken x y
    → HasAll (length x.accepted) y.endpoint.receiving.ordered x.closed y.endpoint.receiving.finished
all-come x y h left =
    has-all (length x.accepted) y.endpoint.receiving.ordered x.closed y.endpoint.receiving.finished h.pair.back.takes.order h.pair.back.takes.fin left.taken

-- who is up was neither reset nor aborted
pub up-stays : (ending : Ending) → (ending ≡ NotEnded) ⊎ (ending ≡ Orderly) → discards ending ≡ false
up-stays ending kept = grind (arith, kept)

-- ---- ITS FIN is acknowledged where all is, and the user closed
closed-acked : (x y : PartyState) → IsSteadyPair x y → IsAllTaken x y → x.closed ≡ true → is_fin_acked x.endpoint.sending ≡ true
closed-acked x y h whole closed =
    let sends = subst (Sends x.endpoint.sending x.accepted x.closed) (up-stays x.endpoint.ending whole.up.kept) h.pair.there.alone.sends in
    own_fin-is_acked x.endpoint.sending x.accepted x.closed sends (omega (arith, whole.acked, ap one_if closed, sends.order, sends.most, one_if-most x.closed))

-- so what x accepted is through to y
pub through : (x y : PartyState) → IsSteadyPair x y → IsComplete x y → HasReadAll y → IsThrough x y
through x y h whole read =
    let come = all-come x y h whole.there in
    let delivers = h.pair.back.delivers in
    let count = delivers.whole (up-stays y.endpoint.ending whole.back.up.kept) in
    let least : length x.accepted ≤ delivers.count = omega (arith, count, come.ordered) in
    record {
      delivered = sym (append-nil y.delivered) ∙ ap (λ bytes. y.delivered ++ bytes) (sym read.all) ∙ delivers.delivery ∙ take_all delivers.count x.accepted least;
      released = omega (arith, whole.there.acked, h.pair.there.alone.sends.released);
      ended = λ closed. read.ended (come.finished closed);
      fin_acked = closed-acked x y h whole.there;
      stays = up-stays x.endpoint.ending whole.there.up.kept;
    }

-- which state it is in then (RFC 9293, 3.3.2): TIME-WAIT, or it has ended in order
last-phase : (s : State) (phase : Phase) → s.closing ≡ true → is_fin_acked s.sending ≡ true → s.receiving.finished ≡ true → s.receiving.opened ≡ true
    → 2 ≤ s.sending.snd_una → (s.ending ≡ NotEnded) ⊎ (s.ending ≡ Orderly)
    → FitsPhase phase s.ending s.sending.snd_una s.sending.snd_nxt s.receiving.opened s.receiving.finished → SaysByPhase phase s
    → (is_time_wait phase ≡ true) ⊎ (s.ending ≡ Orderly)
last-phase s phase closing acked finished took snd_una kept fits says = grind (arith, closing, acked, finished, took, snd_una, kept, fits, says)

-- ---- TIME-WAIT EXPIRES
over-after : (s : State) → (is_time_wait s.phase ≡ true) ⊎ (s.ending ≡ Orderly) → (after_time_wait s).ending ≡ Orderly
unfolding after_time_wait
over-after s waits = grind (arith, waits)

-- where both users closed, x has ended in order
abbrev pub EndsInOrder : PartyState → PartyState → Type 0
EndsInOrder x y = x.closed ≡ true → y.closed ≡ true → x.endpoint.ending ≡ Orderly

pub ends-in-order : (x y : PartyState) → IsSteadyPair x y → IsSteadyPair y x → IsComplete x y → EndsInOrder (party_after_timer x timers.TimeWait) y
unfolding party_after_timer
ends-in-order x y h back whole closed their =
    let s = x.endpoint in
    let alone = h.pair.there.alone in
    let acked : 2 + length x.accepted ≤ s.sending.snd_una = omega (arith, whole.there.acked, ap one_if closed) in
    let fin = closed-acked x y h whole.there closed in
    let finished = (all-come y x back whole.back).finished their in
    over-after s (last-phase s s.phase (alone.closing ∙ closed) fin finished whole.there.up.opened (omega (arith, acked)) whole.there.up.kept alone.progress
    h.there.stage)

-- what a TIME-WAIT timeout leaves as it is
pub record IsOver (p p' : PartyState) : Type 0 where
  pub far : IsAsFar p p'
  pub accepted : p'.accepted ≡ p.accepted
  pub closed : p'.closed ≡ p.closed
  pub read : HasReadAll p → HasReadAll p'

pub over-still : (p : PartyState) → IsOver p (party_after_timer p timers.TimeWait)
unfolding party_after_timer after_time_wait
over-still p =
    let s = p.endpoint in
    cond_both (is_time_wait s.phase) (after_orderly_end s) s (λ (t : State). IsOver p (record p { endpoint = t })) (λ _. record {
      far = record { all = refl; next = refl; snd_una = refl; up = λ up. record { opened = up.opened; kept = inr refl } };
      accepted = refl;
      closed = refl;
      read = λ read. record { all = read.all; ended = read.ended };
    }) (λ _. record { far = record { all = refl; next = refl; snd_una = refl; up = λ up. up }; accepted = refl; closed = refl; read = λ read. read })

-- ---- WHERE NOTHING IS LEFT and both users have read all, TIME-WAIT expires at both ends (RFC 9293, 3.10.8): then they have ended in order
-- where both users closed.
time_waits-are : (w : WorldState) → world_after_all w time_waits ≡ both w.life (party_after_timer w.a timers.TimeWait) (party_after_timer w.b timers.TimeWait)
unfolding effect_of world_after_all
time_waits-are w = refl

-- then the world is settled
pub waited : (w : WorldState) → IsKept w → IsComplete w.a w.b → HasReadAll w.a → HasReadAll w.b → IsSettled (world_after_all w time_waits)
waited w h whole read-a read-b =
    let a = w.a in
    let b = w.b in
    let a' = party_after_timer a timers.TimeWait in
    let b' = party_after_timer b timers.TimeWait in
    let pair = (kept-steady w h).ends in
    let pair' = (kept-steady (both w.life a' b') (subst IsKept (time_waits-are w) (kept-after_all IsKept kept-after w time_waits (tt, (tt, tt)) h))).ends in
    let over-a = over-still a in
    let over-b = over-still b in
    let whole' = both-swapped IsAllTaken b' a' (complete-on b b' a' over-b.far (both-swapped IsAllTaken a' b (complete-on a a' b over-a.far whole))) in
    let ends-a = ends-in-order a b pair (steady-back b a pair) whole in
    let ends-b = ends-in-order b a (steady-back b a pair) pair (both-swapped IsAllTaken a b whole) in
    rw (time_waits-are w) (record {
      there = through a' b' pair' whole' (over-b.read read-b);
      back = through b' a' (steady-back b' a' pair') (both-swapped IsAllTaken a' b' whole') (over-a.read read-a);
      orderly = λ closed their. (ends-a closed (sym over-b.closed ∙ their), ends-b their (sym over-a.closed ∙ closed));
    })

-- of the streams that there were before it
pub waits-streams : (w v : WorldState) → HasStreamsOf w v → HasStreamsOf w (world_after_all v time_waits)
waits-streams w v h =
    let over-a = over-still v.a in
    let over-b = over-still v.b in
    subst (HasStreamsOf w) (sym (time_waits-are v)) (record {
      accepted_of_a = over-a.accepted ∙ h.accepted_of_a;
      accepted_of_b = over-b.accepted ∙ h.accepted_of_b;
      closed_of_a = over-a.closed ∙ h.closed_of_a;
      closed_of_b = over-b.closed ∙ h.closed_of_b;
    })
