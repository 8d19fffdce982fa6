-- PAIR AFTER PAIR of half turns: each leaves less, or both have sent all, once. So as many as something is left, and two more, bring both ways through.
use Rattle.tcp_replay.proofs.Words.{◌&&◌, ◌+◌, ◌++◌, ◌-◌, ◌<◌, and_from, ap, arith, Bool, cases_lt, Config, false, false≢true, inl, inr, length, List, min}
use Rattle.tcp_replay.proofs.Words.{PartyState, rcv_position_of, refl, subst, suc, sym, true, WorldState, zero, ℕ, ◌∙◌, ◌≡◌, ◌≤◌, ◌⊎◌}
use Rattle.tcp_replay.specs.Among.{after_happenings, Happening}
use Rattle.tcp_progress.proofs.Words.{A, all_of, AreCalm, B, GetsThroughByHalves, GotThrough, HalfTurnsGetThrough, HasBothHalves, HasHalves, HaveRoom}
use Rattle.tcp_progress.proofs.Words.{IsSteadyPair, left_in, NoneDiscarded}
use Rattle.tcp_progress.proofs.Lemmas.{AreStill, both-live, GoOn, in-every-world, IsGoing, IsKept}
use Rattle.tcp_progress.proofs.Lemmas.{side-pair, Steps, steps-left, steps-then}
use Rattle.tcp_progress.proofs.{steady.Edges.KeepsEdges, turn.GoingOn.side-still, turn.Happened.calm-joined, turn.Happened.happenings-append}
use Rattle.tcp_progress.proofs.{turn.Happened.steps-happenings, turn.OneHalf.half-lowers, turn.OneHalf.IsFull, turn.OneHalf.IsHalved}
use Rattle.tcp_progress.proofs.{turn.OneHalf.IsNarrow, turn.Turning.done-through, turn.Turning.IsDone}
use Rattle.tcp_replay.proofs.Lemmas.{one_if, one_if-most}
use Rattle.tcp_progress.proofs.turn.Turning.{done-steps}

-- ---- WHAT ISN'T SENT YET, both ways; and one for it, where there is something
abbrev pub unsent_in : WorldState → ℕ
unsent_in w = (all_of w.a - w.a.endpoint.sending.snd_nxt) + (all_of w.b - w.b.endpoint.sending.snd_nxt)

abbrev pub rest_in : WorldState → ℕ
rest_in w = left_in w + min 1 (unsent_in w)

steps-rest : (w v : WorldState) → Steps w v → unsent_in v ≤ unsent_in w
steps-rest w v h =
    let a = h.grows A in
    let b = h.grows B in
    omega (arith, a.snd_nxt, b.snd_nxt, ap length a.accepted, ap one_if a.closed, ap length b.accepted, ap one_if b.closed)

-- ---- WHERE A WINDOW IS FILLED to its end, and one byte of it was taken and isn't acknowledged: all was sent, and a FIN behind the window
-- x of y: u is SND.UNA, n the other's RCV.NXT, x SND.NXT in the end, `more` the position after the text
pub stands-so : (u n x room text all fin : ℕ) → u < n → n + room ≤ x → min x text ≤ u + room → all ≡ text + fin → fin ≤ 1 → x ≤ all
    → (n ≡ u + 1) × (x ≡ all) × (text ≡ u + room)
stands-so u n x room text all fin behind full near all_is last most = omega arith

-- one of two whose first segment is narrow hasn't sent all at first
unsent-first : (p q : PartyState) (room : ℕ) → rcv_position_of q ≡ p.endpoint.sending.snd_una + 1 → 1 + length p.accepted ≡ p.endpoint.sending.snd_una + room
    → 2 ≤ room → IsNarrow p q → p.endpoint.sending.snd_nxt < all_of p
unsent-first p q room one text wide narrow =
    elim (cases_lt p.endpoint.sending.snd_nxt (p.endpoint.sending.snd_una + 2)) [
      | inl short ↦ omega (arith, short, text, wide)
      | inr two ↦ absurd (narrow one two (omega (arith, text, wide)))
    ]

-- ---- NOTHING IS BROUGHT ON by a pair: then both had not sent all, and now have
module _ (p q p' q' : PartyState) (pair : IsSteadyPair p q) (pair' : IsSteadyPair p' q') (edges : KeepsEdges p' q') (edges' : KeepsEdges q' p')
    (still : AreStill p q p' q') where
  -- where q has filled p's window
  pub filled : q.endpoint.sending.snd_una < rcv_position_of p → IsFull q' p
      → (rcv_position_of p ≡ q.endpoint.sending.snd_una + 1) × (q'.endpoint.sending.snd_nxt ≡ all_of q)
      × (1 + length q.accepted ≡ q.endpoint.sending.snd_una + p.endpoint.config.recv_capacity)
  filled behind full =
      let count = ap length still.back.accepted in
      let fin = ap one_if still.back.closed in
      let room = ap (λ (c : Config). c.recv_capacity) still.there.config in
      stands-so q.endpoint.sending.snd_una (rcv_position_of p) q'.endpoint.sending.snd_nxt p.endpoint.config.recv_capacity (1 + length q.accepted) (all_of q)
      (one_if q.closed) behind full (omega (arith, edges'.near, count, room, still.snd_una_of_y)) refl (one_if-most q.closed)
      (omega (arith, pair'.pair.back.alone.sends.most, count, fin))

  -- where nothing is left from p, q hasn't filled p's
  pub unfilled : all_of p ≤ rcv_position_of q → IsFull p' q → ⊥
  unfilled done full =
      omega (
        arith,
        done,
        full,
        pair'.pair.there.alone.sends.most,
        ap length still.there.accepted,
        ap one_if still.there.closed,
        pair.pair.back.alone.config.good.0.1.0,
      )

-- LESS is left in the end, or all was sent in it, and not before
abbrev pub Rests : WorldState → WorldState → Type 0
Rests w v = (left_in v < left_in w) ⊎ ((unsent_in v ≡ 0) × (0 < unsent_in w))

-- both widths, from whichever side
wide-either : (w : WorldState) → HaveRoom w → (P : Type 0) → ((w.a.closed && w.b.closed) ≡ false → P) → (2 ≤ w.a.endpoint.config.recv_capacity → P)
    → (2 ≤ w.b.endpoint.config.recv_capacity → P) → P
wide-either w (inl open_still) P none one two = none open_still
wide-either w (inr (inl a)) P none one two = one a
wide-either w (inr (inr b)) P none one two = two b

-- a FIN was sent
fin-so : (b : Bool) → 1 ≤ one_if b → b ≡ true
fin-so b h = grind (arith, h)

-- where nothing was brought on
pair-rests : (w v : WorldState) → IsGoing w → IsKept v → GoOn v.a v.b → Steps w v → HaveRoom w → left_in w ≤ left_in v → IsHalved w.a w.b v.b
    → IsHalved w.b w.a v.a → Rests w v
pair-rests w v h kept on steps wide as_much here there =
    let still = side-still w v A steps on as_much in
    let still' = side-still w v B steps on as_much in
    let pair = side-pair w A h.kept in
    let pair' = side-pair v A kept in
    let back = side-pair w B h.kept in
    let back' = side-pair v B kept in
    let edges = kept.all.edges in
    elim here [
      | inl done ↦ elim there [
        | inl done' ↦ absurd (omega (arith, h.some, done.0, done.1, done'.0, done'.1))
        | inr stopped ↦ absurd (unfilled w.a w.b v.a v.b pair pair' edges.there edges.back still done.1 stopped.1)
      ]
      | inr stopped ↦ elim there [
        | inl done ↦ absurd (unfilled w.b w.a v.b v.a back back' edges.back edges.there still' done.1 stopped.1)
        | inr stopped' ↦
            let of_b = filled w.a w.b v.a v.b pair pair' edges.there edges.back still stopped'.0 stopped.1 in
            let of_a = filled w.b w.a v.b v.a back back' edges.back edges.there still' stopped.0 stopped'.1 in
            let closed_b = fin-so w.b.closed (omega (arith, stopped.1, of_b.0, of_b.1, of_b.2)) in
            let closed_a = fin-so w.a.closed (omega (arith, stopped'.1, of_a.0, of_a.1, of_a.2)) in
            let some : 0 < unsent_in w = wide-either w wide (0 < unsent_in w)
            (λ open_still. absurd (false≢true (sym open_still ∙ and_from w.a.closed w.b.closed closed_a closed_b)))
            (λ two. let less = unsent-first w.b w.a w.a.endpoint.config.recv_capacity of_b.0 of_b.2 two stopped'.2 in omega (arith, less))
            (λ two. let less = unsent-first w.a w.b w.b.endpoint.config.recv_capacity of_a.0 of_a.2 two stopped.2 in omega (arith, less)) in
            let all_a : all_of v.a ≡ all_of w.a = omega (arith, ap length still.there.accepted, ap one_if still.there.closed) in
            let all_b : all_of v.b ≡ all_of w.b = omega (arith, ap length still.back.accepted, ap one_if still.back.closed) in
            inr (omega (arith, of_a.1, of_b.1, all_a, all_b), some)
      ]
    ]

-- ---- EACH PAIR LEAVES LESS, while something is left
pair-lowers : (w : WorldState) (events : List Happening) → IsKept w → GoOn w.a w.b → HaveRoom w → HasBothHalves w events
    → NoneDiscarded (after_happenings w events)
    → 0 < left_in w → rest_in (after_happenings w events) < rest_in w
pair-lowers w events h on wide pair up some =
    let v = after_happenings w events in
    let going : IsGoing w = record { kept = h; on = on; some = some; read = λ side. (pair.read side).all } in
    let steps = steps-happenings w events pair.calm h in
    let on' = steps.on on up in
    let left = steps-left w v steps in
    let rest = steps-rest w v steps in
    let rests : Rests w v = elim (cases_lt (left_in v) (left_in w)) [
      | inl less ↦ inl less
      | inr as_much ↦ elim (half-lowers w A events v refl pair.calm going up (pair.half A)) [
        | inl less ↦ inl less
        | inr here ↦ elim (half-lowers w B events v refl pair.calm going up (pair.half B)) [
          | inl less ↦ inl less
          | inr there ↦ pair-rests w v going steps.kept on' steps wide as_much here there
        ]
      ]
    ] in
    elim rests [ inl less ↦ omega (arith, less, rest) | inr sent ↦ omega (arith, sent.0, sent.1, left) ]

-- ---- PAIR AFTER PAIR
pub halves-calm : (n : ℕ) (w : WorldState) (events : List Happening) → HasHalves n w events → AreCalm w events
halves-calm zero w events h = h
halves-calm (suc n) w events h =
    let v = after_happenings w h.0 in
    subst (AreCalm w) (sym h.3) (calm-joined w h.0 (h.1 ++ h.2) h.4 (calm-joined v h.1 h.2 h.5.calm (halves-calm n (after_happenings v h.1) h.2 h.6)))

wide-later : (w v : WorldState) → Steps w v → HaveRoom w → HaveRoom v
wide-later w v steps (inl open_still) = inl (rw ((steps.grows A).closed, (steps.grows B).closed) open_still)
wide-later w v steps (inr (inl a)) = inr (inl (omega (arith, a, ap (λ (c : Config). c.recv_capacity) (steps.grows A).config)))
wide-later w v steps (inr (inr b)) = inr (inr (omega (arith, b, ap (λ (c : Config). c.recv_capacity) (steps.grows B).config)))

-- what comes after a pair
abbrev pub AfterPair : ℕ → WorldState → Type 0
AfterPair n w =
    (u : WorldState) (after : List Happening) → rest_in u < rest_in w → IsKept u → GoOn u.a u.b → HaveRoom u → HasHalves n u after
    → NoneDiscarded (after_happenings u after) → IsDone (after_happenings u after)

first-pair : (n : ℕ) (w : WorldState) (events : List Happening) → IsKept w → GoOn w.a w.b → HaveRoom w → HasHalves (suc n) w events
    → NoneDiscarded (after_happenings w events) → AfterPair n w → IsDone (after_happenings w events)
first-pair n w events h on wide halves up next =
    let before = halves.0 in
    let pair = halves.1 in
    let after = halves.2 in
    let is = halves.5 in
    let v = after_happenings w before in
    let u = after_happenings v pair in
    let joined = happenings-append v pair after in
    let same : after_happenings w events ≡ after_happenings u after = ap (after_happenings w) halves.3 ∙ happenings-append w before (pair ++ after) ∙ joined in
    let up' = subst NoneDiscarded same up in
    let calm' = halves-calm n u after halves.6 in
    let steps = steps-happenings w before halves.4 h in
    let steps' = steps-happenings v pair is.calm steps.kept in
    let up'' = (steps-happenings u after calm' steps'.kept).stays up' in
    let on' = steps.on on (steps'.stays up'') in
    elim (cases_lt 0 (left_in v)) [
      | inr none ↦
          let done : IsDone v = record { kept = steps.kept; on = on'; none = omega (arith, none); read = is.read } in
          subst IsDone (sym (same ∙ sym joined)) (done-steps v (after_happenings v (pair ++ after))
          (steps-happenings v (pair ++ after) (calm-joined v pair after is.calm calm') steps.kept) (subst NoneDiscarded (sym joined) up') done)
      | inl some ↦
          let less = pair-lowers v pair steps.kept on' (wide-later w v steps wide) is up'' some in
          let more : rest_in v ≤ rest_in w = omega (arith, steps-left w v steps, steps-rest w v steps) in
          let wide' = wide-later w u (steps-then w v u steps steps') wide in
          subst IsDone (sym same) (next u after (omega (arith, less, more)) steps'.kept (steps'.on on' up'') wide' halves.6 up')
    ]

-- as many pairs as that is, and one
pub halves-done : (n : ℕ) (w : WorldState) (events : List Happening) → rest_in w ≤ n → IsKept w → GoOn w.a w.b → HaveRoom w → HasHalves (suc n) w events
    → NoneDiscarded (after_happenings w events) → IsDone (after_happenings w events)
halves-done zero w events most h on wide halves up = first-pair zero w events h on wide halves up (λ u after less _ _ _ _ _. absurd (omega (arith, most, less)))
halves-done (suc n) w events most h on wide halves up =
    first-pair (suc n) w events h on wide halves up
    (λ u after less h' on' wide' rest up'. halves-done n u after (omega (arith, most, less)) h' on' wide' rest up')

-- so half turns get through
halves-through : (n : ℕ) (w : WorldState) (events : List Happening) → rest_in w ≤ n → IsKept w → GoOn w.a w.b → HaveRoom w → HasHalves (suc n) w events
    → NoneDiscarded (after_happenings w events) → GotThrough w (after_happenings w events)
halves-through n w events most h on wide halves up =
    done-through w (after_happenings w events) (steps-happenings w events (halves-calm (suc n) w events halves) h)
    (halves-done n w events most h on wide halves up)

-- in every world
pub halved-kept : (w : WorldState) → IsKept w → GetsThroughByHalves w
halved-kept w h a b wide events halves up = halves-through (suc (left_in w)) w events (omega arith) h (both-live w.a w.b a b) wide halves up

pub halved_lem : HalfTurnsGetThrough
halved_lem = in-every-world GetsThroughByHalves halved-kept
