-- A WORLD THAT GOES ON, over calm events: either less is left in the end, or both are where they were, and what holds so is carried on.
use Rattle.tcp_replay.proofs.Words.{◌+◌, ◌++◌, ◌-◌, ◌<◌, [], AllByRecursion, ap, arith, Bool, cases_lt, Emit, EventContent, inl, inr, length, List}
use Rattle.tcp_replay.proofs.Words.{nil_from_length, other, party_of, PartyState, rcv_position_of, refl, Retransmit, suc, Timer, true, unread_of}
use Rattle.tcp_replay.proofs.Words.{world_after, world_after_all, WorldState, zero, ℕ, ◌≡◌, ◌≤◌, ◌⊎◌}
use Rattle.tcp_progress.proofs.Words.{A, all_of, AllCome, B, Comes, emissions, IsCalm, IsLive, IsSteadyPair, left_in, left_of_both, NoneDiscarded, served, Side}
use Rattle.tcp_progress.proofs.turn.CalmWorlds.{Steps, steps-all, steps-event, steps-left, steps-then}
use Rattle.tcp_replay.proofs.Lemmas.{one_if}
use Rattle.tcp_progress.proofs.{steady.AlwaysSteady.IsKept, steady.AlwaysSteady.side-pair, turn.Calm.Grows, turn.Live.GoOn, turn.Live.IsUp}
use Rattle.tcp_progress.proofs.{turn.Live.steady-back, turn.Live.swapped, turn.Turning.calm-emissions, turn.Turning.in-order}

-- ---- NOTHING IS BROUGHT ON: then both are where they were
pub record AreThere (n u m v n' u' m' v' : ℕ) : Type 0 where
  pub n_is : n' ≡ n
  pub u_is : u' ≡ u
  pub m_is : m' ≡ m
  pub v_is : v' ≡ v

there-still : (a b n u m v n' u' m' v' : ℕ) → n ≤ n' → u ≤ u' → m ≤ m' → v ≤ v' → n' ≤ a → u' ≤ a → m' ≤ b → v' ≤ b
    → ((a - n) + (a - u)) + ((b - m) + (b - v)) ≤ ((a - n') + (a - u')) + ((b - m') + (b - v')) → AreThere n u m v n' u' m' v'
there-still a b n u m v n' u' m' v' one two three four five six seven eight some = omega arith

-- two parties that are where they were
pub record AreStill (x y x' y' : PartyState) : Type 0 where
  pub there : Grows x x'
  pub back : Grows y y'
  pub rcv_position_of_y : rcv_position_of y' ≡ rcv_position_of y
  pub snd_una_of_x : x'.endpoint.sending.snd_una ≡ x.endpoint.sending.snd_una
  pub rcv_position_of_x : rcv_position_of x' ≡ rcv_position_of x
  pub snd_una_of_y : y'.endpoint.sending.snd_una ≡ y.endpoint.sending.snd_una

-- how far an end may be
una-most : (x y : PartyState) → IsSteadyPair x y → x.endpoint.sending.snd_una ≤ all_of x
una-most x y h = omega (arith, h.pair.there.alone.sends.order, h.pair.there.alone.sends.most)

next-most : (x y : PartyState) → IsSteadyPair x y → y.endpoint.receiving.opened ≡ true → rcv_position_of y ≤ all_of x
next-most x y h opened = omega (arith, h.there.sent.taken opened, h.pair.there.alone.sends.most)

-- where as much is left in the end
pub are-still : (x y x' y' : PartyState) → IsSteadyPair x' y' → GoOn x' y' → Grows x x' → Grows y y' → left_of_both x y ≤ left_of_both x' y'
    → AreStill x y x' y'
are-still x y x' y' h on gx gy some =
    let alls : all_of x' ≡ all_of x = omega (arith, ap length gx.accepted, ap one_if gx.closed) in
    let alls' : all_of y' ≡ all_of y = omega (arith, ap length gy.accepted, ap one_if gy.closed) in
    let is = there-still (all_of x) (all_of y) (rcv_position_of y) x.endpoint.sending.snd_una (rcv_position_of x) y.endpoint.sending.snd_una
    (rcv_position_of y') x'.endpoint.sending.snd_una (rcv_position_of x') y'.endpoint.sending.snd_una
    gy.next gx.snd_una gx.next gy.snd_una (omega (arith, next-most x' y' h on.back.opened, alls)) (omega (arith, una-most x' y' h, alls))
    (omega (arith, next-most y' x' (steady-back y' x' h) on.there.opened, alls')) (omega (arith, una-most y' x' (steady-back y' x' h), alls'))
    (omega (arith, some, alls, alls')) in
    record { there = gx; back = gy; rcv_position_of_y = is.n_is; snd_una_of_x = is.u_is; rcv_position_of_x = is.m_is; snd_una_of_y = is.v_is }

pub still-back : (x y x' y' : PartyState) → AreStill x y x' y' → AreStill y x y' x'
still-back x y x' y' h =
    record { there = h.back; back = h.there; rcv_position_of_y = h.rcv_position_of_x; snd_una_of_x = h.snd_una_of_y; rcv_position_of_x = h.rcv_position_of_y; snd_una_of_y = h.snd_una_of_x }

-- a user who has read all has still read all
not-more : (n n' all : ℕ) (fin fin' : Bool) → n' ≤ all → (fin ≡ true → n ≡ all) → 1 + n' + one_if fin' ≡ 1 + n + one_if fin → n' ≤ n
not-more n n' all fin fin' most last same = grind (arith, most, last, same)

-- of a user who has read all
pub read-still : (x y x' y' : PartyState) → IsSteadyPair x y → IsSteadyPair x' y' → IsUp x → IsUp x' → AreStill x y x' y' → unread_of x ≡ [] → unread_of x' ≡ []
read-still x y x' y' h h' up up' still none =
    let r = x.endpoint.receiving in
    let r' = x'.endpoint.receiving in
    let most : r'.ordered ≤ length y.accepted = omega (arith, h'.pair.there.takes.order, ap length still.back.accepted) in
    let ordered = not-more r.ordered r'.ordered (length y.accepted) r.finished r'.finished most (λ e. (h.pair.there.takes.fin e).1) still.rcv_position_of_x in
    nil_from_length (unread_of x') (omega (arith, in-order x y h up, in-order x' y' h' up', ap length none, still.there.delivery, ordered))

-- ---- THE WORLD FROM ONE SIDE
-- both go on
pub side-on : (w : WorldState) (side : Side) → GoOn w.a w.b → GoOn (party_of w side) (party_of w (other side))
side-on w A h = h
side-on w B h = swapped w.b w.a h

-- what is left is the same
pub side-left : (w : WorldState) (side : Side) → left_of_both (party_of w side) (party_of w (other side)) ≡ left_in w
side-left w A = refl
side-left w B = omega arith

-- where as much is left
pub side-still : (w v : WorldState) (side : Side) → Steps w v → GoOn v.a v.b → left_in w ≤ left_in v
    → AreStill (party_of w side) (party_of w (other side)) (party_of v side) (party_of v (other side))
side-still w v side steps on some =
    are-still (party_of w side) (party_of w (other side)) (party_of v side) (party_of v (other side)) (side-pair v side steps.kept) (side-on v side on)
    (steps.grows side) (steps.grows (other side)) (omega (arith, some, side-left w side, side-left v side))

-- both users have read all
abbrev pub AreRead : WorldState → Type 0
AreRead w = (side : Side) → unread_of (party_of w side) ≡ []

-- ---- GOING: something is left, and both users have read all
pub record IsGoing (w : WorldState) : Type 0 where
  pub kept : IsKept w
  pub on : GoOn w.a w.b
  pub some : 0 < left_in w
  pub read : AreRead w

-- both are where they were
abbrev pub IsStillFrom : WorldState → WorldState → Type 0
IsStillFrom w v = (side : Side) → AreStill (party_of w side) (party_of w (other side)) (party_of v side) (party_of v (other side))

-- then both live
pub going-live : (w : WorldState) (side : Side) → IsGoing w → IsLive (party_of w side) × IsLive (party_of w (other side))
going-live w side h = (side-on w side h.on).live (omega (arith, h.some, side-left w side))

-- events, and events after them
pub steps-both : (w : WorldState) (xs ys : List EventContent) → AllByRecursion IsCalm xs → AllByRecursion IsCalm ys → IsKept w
    → Steps w (world_after_all (world_after_all w xs) ys)
steps-both w xs ys calm calm' h =
    let one = steps-all w xs calm h in
    steps-then w (world_after_all w xs) (world_after_all (world_after_all w xs) ys) one (steps-all (world_after_all w xs) ys calm' one.kept)

-- less than at w, or what is claimed
abbrev pub Lowers : WorldState → WorldState → Type 0 → Type 0
Lowers w u Q = (left_in u < left_in w) ⊎ Q

-- where nothing else is claimed
pub lowers-only : (w u : WorldState) → Lowers w u ⊥ → left_in u < left_in w
lowers-only w u (inl less) = less
lowers-only w u (inr none) = absurd none

-- over steps to a world and from it to the end
pub over : (w v u : WorldState) (Q : Type 0) → IsGoing w → Steps w v → (IsKept v → Steps v u) → NoneDiscarded u
    → (IsGoing v → IsStillFrom w v → Lowers v u Q) → Lowers w u Q
over w v u Q h steps later up next =
    let rest = later steps.kept in
    let on' = steps.on h.on (rest.stays up) in
    elim (cases_lt (left_in v) (left_in w)) [
      | inl less ↦ inl (omega (arith, less, steps-left v u rest))
      | inr as_much ↦
          let read : AreRead v = λ side. read-still (party_of w side) (party_of w (other side)) (party_of v side) (party_of v (other side))
          (side-pair w side h.kept) (side-pair v side steps.kept) (side-on w side h.on).there (side-on v side on').there
          (side-still w v side steps on' as_much) (h.read side) in
          elim (next (record { kept = steps.kept; on = on'; some = omega (arith, h.some, as_much); read = read })
          (λ side. side-still w v side steps on' as_much)) [
            | inl less ↦ inl (omega (arith, less, steps-left w v steps))
            | inr is ↦ inr is
          ]
    ]

-- where less is left in the end
pub lowers : (w v u : WorldState) → IsGoing w → Steps w v → (IsKept v → Steps v u) → NoneDiscarded u
    → (IsGoing v → IsStillFrom w v → left_in u < left_in v) → left_in u < left_in w
lowers w v u h steps later up next = lowers-only w u (over w v u ⊥ h steps later up (λ hv still. inl (next hv still)))

-- OVER THE EMISSIONS of a side, and what comes later: what is known at each of them goes on to be known, or something is brought on
module _ (side : Side) (later : List EventContent) (calm : AllByRecursion IsCalm later) (Ready : WorldState → Type 0) where
  -- where so many emissions and what comes later lead
  abbrev BurstEnd : ℕ → WorldState → WorldState
  BurstEnd n w = world_after_all (world_after_all w (emissions side n)) later

  -- at one emission
  abbrev pub KeepsReady : Type 0
  KeepsReady = (w : WorldState) (n : ℕ) → IsGoing w → Ready w → Comes w (Emit side) (emissions side n ++ later)
      → NoneDiscarded (BurstEnd n (world_after w (Emit side)))
      → (left_in (BurstEnd n (world_after w (Emit side))) < left_in w)
      ⊎ (IsGoing (world_after w (Emit side)) → IsStillFrom w (world_after w (Emit side)) → Ready (world_after w (Emit side)))

  -- over so many of them
  pub over-burst : KeepsReady → (n : ℕ) (w : WorldState) → IsGoing w → Ready w → AllCome w (emissions side n) later → NoneDiscarded (BurstEnd n w)
      → Lowers w (BurstEnd n w) (Ready (world_after_all w (emissions side n)))
  unfolding world_after_all
  over-burst step zero w h ready come up = inr ready
  over-burst step (suc n) w h ready come up =
      let v = world_after w (Emit side) in
      elim (step w n h ready come.0 up) [
        | inl less ↦ inl less
        | inr on ↦
            over w v (BurstEnd n v) (Ready (world_after_all v (emissions side n))) h (steps-event w (Emit side) tt h.kept)
            (steps-both v (emissions side n) later (calm-emissions side n) calm) up (λ hv still. over-burst step n v hv (on hv still) come.1 up)
      ]

  -- over those after its retransmission timeout
  pub over-served : KeepsReady → (n : ℕ) (w : WorldState) → IsGoing w
      → (let v = world_after w (Timer side Retransmit) in IsGoing v → IsStillFrom w v → Ready v)
      → AllCome w (served side n) later → NoneDiscarded (world_after_all (world_after_all w (served side n)) later)
      → Lowers w (world_after_all (world_after_all w (served side n)) later) (Ready (world_after_all w (served side n)))
  unfolding world_after_all
  over-served step n w h first come up =
      let v = world_after w (Timer side Retransmit) in
      over w v (BurstEnd n v) (Ready (world_after_all v (emissions side n))) h (steps-event w (Timer side Retransmit) tt h.kept)
      (steps-both v (emissions side n) later (calm-emissions side n) calm) up (λ hv still. over-burst step n v hv (first hv still) come.1 up)
