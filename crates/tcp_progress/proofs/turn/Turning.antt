-- WHAT COMES LATER: what is delivered among some events is delivered among more of them, and what goes out in a list comes part by part.
use Rattle.tcp_replay.proofs.Words.{◌++◌, ◌+◌, ◌<◌, [], after_read, after_receive, AllByRecursion, ap, append_assoc, arith, both, cases_lt, drop, Due, due_of}
use Rattle.tcp_replay.proofs.Words.{effect_of, Emit, EmitAcknowledgement, ResendFirst, EventContent, false, IfSome, inl, inr, length, length-append}
use Rattle.tcp_replay.proofs.Words.{length-drop, length-take, List, None, Option, nil_from_length}
use Rattle.tcp_replay.proofs.Words.{other, party_after_receive, party_of, PartyState, receive_refusal, refl, Some, subst, suc, sym, Timer, unread_of}
use Rattle.tcp_replay.proofs.Words.{world_after, world_after_all, WorldState, zero, ℕ, ◌∙◌, ◌∷◌, ◌≡◌, ◌≤◌}
use Rattle.tcp_progress.proofs.Words.{A, all_room, AllCome, B, both_served, Comes, Delivers, emissions, GetsThrough, GotThrough, HasReadAll, HasTurns}
use Rattle.tcp_progress.proofs.Words.{is_reset, IsCalm, IsSteadyPair, IsTurn, IsUntimed, left_in, NoneDiscarded, reads, served, Side}
use Rattle.tcp_progress.proofs.Words.{WhoIsServedGetsThrough}
use Rattle.tcp_progress.proofs.turn.Ended.{all-come, complete, delivers-still, IsAllTaken, IsComplete, read-end, through, up-stays, waited}
use Rattle.tcp_replay.specs.Events.{Resend}
use Rattle.tcp_replay.proofs.Lemmas.{both-swapped}
use Rattle.tcp_progress.proofs.{steady.AlwaysSteady.in-every-world, steady.AlwaysSteady.IsKept, steady.AlwaysSteady.kept-steady, turn.Calm.Grows}
use Rattle.tcp_progress.proofs.{turn.CalmWorlds.Steps, turn.CalmWorlds.steps-all, turn.CalmWorlds.steps-left, turn.CalmWorlds.steps-streams}
use Rattle.tcp_progress.proofs.{turn.Live.both-live, turn.Live.GoOn, turn.Live.IsUp, turn.Live.steady-back, turn.Live.still-reading, turn.Sides.on-both}

-- AMONG: whatever is delivered among some events is delivered among others
abbrev pub AreAmong : List EventContent → List EventContent → Type 0
AreAmong xs ys = (side : Side) (k : ℕ) → Delivers side k xs → Delivers side k ys

-- what comes first is among all
pub among-left : (xs ys : List EventContent) → AreAmong xs (xs ++ ys)
among-left [] ys side k h = absurd h
among-left (x ∷ xs) ys side k (inl now) = inl now
among-left (x ∷ xs) ys side k (inr more) = inr (among-left xs ys side k more)

-- what comes behind is among all
pub among-right : (xs ys : List EventContent) → AreAmong ys (xs ++ ys)
among-right [] ys side k h = h
among-right (x ∷ xs) ys side k h = inr (among-right xs ys side k h)

-- also behind the same events
pub among-behind : (xs ys zs : List EventContent) → AreAmong ys zs → AreAmong (xs ++ ys) (xs ++ zs)
among-behind [] ys zs among side k h = among side k h
among-behind (x ∷ xs) ys zs among side k (inl now) = inl now
among-behind (x ∷ xs) ys zs among side k (inr more) = inr (among-behind xs ys zs among side k more)

-- ---- WHAT COMES AMONG some events comes among more
pub due-among : (due : Option Due) (side : Side) (k : ℕ) (xs ys : List EventContent) → AreAmong xs ys
    → IfSome due (λ due. is_reset due ≡ false → Delivers side k xs) → IfSome due (λ due. is_reset due ≡ false → Delivers side k ys)
due-among None side k xs ys among h = tt
due-among (Some due) side k xs ys among h = λ plain. among side k (h plain)

comes-among : (w : WorldState) (event : EventContent) (xs ys : List EventContent) → AreAmong xs ys → Comes w event xs → Comes w event ys
comes-among w (Emit side) xs ys among h = due-among (due_of (party_of w side).endpoint) side (length (party_of w side).sent) xs ys among h
comes-among w event xs ys among h = h

-- what goes out at some events
pub come-among : (w : WorldState) (events xs ys : List EventContent) → AreAmong xs ys → AllCome w events xs → AllCome w events ys
come-among w [] xs ys among h = tt
come-among w (event ∷ events) xs ys among h =
    (comes-among w event (events ++ xs) (events ++ ys) (among-behind events xs ys among) h.0, come-among (world_after w event) events xs ys among h.1)

-- ---- PART BY PART: what goes out first, and what goes out after it
pub come-first : (w : WorldState) (xs ys later : List EventContent) → AllCome w (xs ++ ys) later → AllCome w xs (ys ++ later)
come-first w [] ys later h = tt
come-first w (x ∷ xs) ys later h =
    (subst (λ (events : List EventContent). Comes w x events) (append_assoc xs ys later) h.0, come-first (world_after w x) xs ys later h.1)

-- what goes out after it
pub come-after : (w : WorldState) (xs ys later : List EventContent) → AllCome w (xs ++ ys) later → AllCome (world_after_all w xs) ys later
unfolding world_after_all
come-after w [] ys later h = h
come-after w (x ∷ xs) ys later h = come-after (world_after w x) xs ys later h.1

-- and both together
pub come-both : (w : WorldState) (xs ys later : List EventContent) → AllCome w xs (ys ++ later) → AllCome (world_after_all w xs) ys later
    → AllCome w (xs ++ ys) later
unfolding world_after_all
come-both w [] ys later one two = two
come-both w (x ∷ xs) ys later one two = (
  subst (λ (events : List EventContent). Comes w x events) (sym (append_assoc xs ys later)) one.0,
  come-both (world_after w x) xs ys later one.1 two,
)

-- ---- TURN AFTER TURN: where each turn leaves less, as many turns as something is left, and one more, bring both ways through.
-- ---- A TURN IS CALM
pub untimed-calm : (event : EventContent) → IsUntimed event → IsCalm event
untimed-calm (Timer side which) h = absurd h
untimed-calm (EmitAcknowledgement side) h = tt
untimed-calm (ResendFirst side) h = tt
untimed-calm (Resend side from to) h = tt
untimed-calm other h = h

-- what follows of each of some events follows of all
pub all-more : (Holds Follows : EventContent → Type 0) → ((event : EventContent) → Holds event → Follows event) → (events : List EventContent)
    → AllByRecursion Holds events → AllByRecursion Follows events
all-more Holds Follows more [] h = tt
all-more Holds Follows more (event ∷ events) h = (more event h.0, all-more Holds Follows more events h.1)

-- untimed events are calm
pub all-untimed : (events : List EventContent) → AllByRecursion IsUntimed events → AllByRecursion IsCalm events
all-untimed events h = all-more IsUntimed IsCalm untimed-calm events h

-- what holds of each of some events and of each of others holds of both
pub all-append : (Holds : EventContent → Type 0) (xs ys : List EventContent) → AllByRecursion Holds xs → AllByRecursion Holds ys
    → AllByRecursion Holds (xs ++ ys)
all-append Holds [] ys h k = k
all-append Holds (x ∷ xs) ys h k = (h.0, all-append Holds xs ys h.1 k)

-- and of both it holds of each
pub all-parts : (Holds : EventContent → Type 0) (xs ys : List EventContent) → AllByRecursion Holds (xs ++ ys)
    → AllByRecursion Holds xs × AllByRecursion Holds ys
all-parts Holds [] ys h = (tt, h)
all-parts Holds (x ∷ xs) ys h = let more = all-parts Holds xs ys h.1 in ((h.0, more.0), more.1)

-- calm events after calm events
pub calm-append : (xs ys : List EventContent) → AllByRecursion IsCalm xs → AllByRecursion IsCalm ys → AllByRecursion IsCalm (xs ++ ys)
calm-append xs ys h k = all-append IsCalm xs ys h k

-- what holds of one emission holds of so many
pub all-emissions : (Holds : EventContent → Type 0) (side : Side) → Holds (Emit side) → (n : ℕ) → AllByRecursion Holds (emissions side n)
all-emissions Holds side h zero = tt
all-emissions Holds side h (suc n) = (h, all-emissions Holds side h n)

-- emissions are calm
pub calm-emissions : (side : Side) (n : ℕ) → AllByRecursion IsCalm (emissions side n)
calm-emissions side n = all-emissions IsCalm side tt n

-- so is the timeout before them
pub calm-served : (side : Side) (n : ℕ) → AllByRecursion IsCalm (served side n)
calm-served side n = (tt, calm-emissions side n)

-- what follows the reads
abbrev pub turn-tail : (w : WorldState) (turn : List EventContent) → IsTurn w turn → List EventContent
turn-tail w turn t = both_served t.first t.count t.then_count ++ (t.there ++ t.back)

-- it is calm
pub tail-calm : (w : WorldState) (turn : List EventContent) (t : IsTurn w turn) → AllByRecursion IsCalm (turn-tail w turn t)
tail-calm w turn t =
    let one = served t.first t.count in
    let two = served (other t.first) t.then_count in
    calm-append (one ++ two) (t.there ++ t.back) (calm-append one two (calm-served t.first t.count) (calm-served (other t.first) t.then_count))
    (calm-append t.there t.back (all-untimed t.there t.untimed) t.calm)

-- events after events, in a world
pub after-append : (w : WorldState) (xs ys : List EventContent) → world_after_all w (xs ++ ys) ≡ world_after_all (world_after_all w xs) ys
unfolding world_after_all
after-append w [] ys = refl
after-append w (x ∷ xs) ys = after-append (world_after w x) xs ys

-- the reads are calm
pub reads-calm : AllByRecursion IsCalm reads
reads-calm = (tt, (tt, (tt, (tt, tt))))

-- the whole turn
pub turn-calm : (w : WorldState) (turn : List EventContent) → IsTurn w turn → AllByRecursion IsCalm turn
turn-calm w turn t =
    subst (λ (events : List EventContent). AllByRecursion IsCalm events) (sym t.form) (calm-append reads (turn-tail w turn t) reads-calm (tail-calm w turn t))

-- the world after it
pub turn-same : (w : WorldState) (turn : List EventContent) (t : IsTurn w turn)
    → world_after_all w turn ≡ world_after_all (world_after_all w reads) (turn-tail w turn t)
turn-same w turn t = ap (world_after_all w) t.form ∙ after-append w reads (turn-tail w turn t)

-- and so many turns
pub turns-calm : (n : ℕ) (w : WorldState) (events : List EventContent) → HasTurns n w events → AllByRecursion IsCalm events
turns-calm zero w events h = h
turns-calm (suc n) w events h =
    let before = h.0 in
    let turn = h.1 in
    let after = h.2 in
    let v = world_after_all w before in
    subst (λ (list : List EventContent). AllByRecursion IsCalm list) (sym h.3)
    (calm-append before (turn ++ after) h.4 (calm-append turn after (turn-calm v turn h.5) (turns-calm n (world_after_all v turn) after h.6)))

-- ---- BOTH USERS READ ALL
pub reads-are : (w : WorldState)
    → world_after_all w reads ≡ both w.life (party_after_receive (party_after_receive w.a all_room) 0)
    (party_after_receive (party_after_receive w.b all_room) 0)
unfolding effect_of world_after_all
reads-are w = refl

read-most : (p : PartyState) → receive_refusal p.endpoint ≡ None → length (unread_of p) ≤ all_room → unread_of (party_after_receive p all_room) ≡ []
unfolding party_after_receive after_receive after_read
read-most p delivers most = rw delivers (nil_from_length (drop all_room (unread_of p)) (omega (arith, length-drop all_room (unread_of p), most)))

has-read : (p q : PartyState) → IsSteadyPair p q → IsUp p → HasReadAll (party_after_receive (party_after_receive p all_room) 0)
has-read p q h up =
    let delivers = delivers-still p q h up in
    let still = still-reading p all_room in
    read-end (party_after_receive p all_room) (rw (still.ending, still.phase) delivers)
    (read-most p delivers (omega (arith, h.there.within.size, h.pair.there.alone.config.good.0.1.1)))

-- of both users
abbrev pub HaveRead : WorldState → Type 0
HaveRead w = (side : Side) → HasReadAll (party_of w side)

-- so it is after the reads of a turn
pub have-read : (w : WorldState) → IsKept w → GoOn w.a w.b → HaveRead (world_after_all w reads)
have-read w h on =
    let pair = (kept-steady w h).ends in
    subst HaveRead (sym (reads-are w)) (on-both _ (has-read w.a w.b pair on.there) (has-read w.b w.a (steady-back w.b w.a pair) on.back))

-- ---- DONE: nothing is left, and all is read
pub record IsDone (w : WorldState) : Type 0 where
  pub kept : IsKept w
  pub on : GoOn w.a w.b
  pub none : left_in w ≡ 0
  pub read : HaveRead w

-- how much was delivered to its user and is unread
pub in-order : (p q : PartyState) → IsSteadyPair p q → IsUp p → length p.delivered + length (unread_of p) ≡ p.endpoint.receiving.ordered
in-order p q h up =
    let delivers = h.pair.there.delivers in
    omega (
      arith,
      ap length delivers.delivery,
      length-append p.delivered,
      length-take delivers.count q.accepted,
      delivers.whole (up-stays p.endpoint.ending up.kept),
      h.pair.there.takes.order,
    )

-- at x, which has all of y
read-stays : (x y x' y' : PartyState) → IsSteadyPair x y → IsSteadyPair x' y' → IsComplete x y → IsUp x' → Grows x x' → Grows y y' → HasReadAll x
    → HasReadAll x'
read-stays x y x' y' h h' whole up' gx gy read =
    let come = all-come y x (steady-back y x h) whole.back in
    let was = in-order x y h whole.there.up in
    let is = in-order x' y' h' up' in
    record {
      all = nil_from_length (unread_of x') (omega (arith, was, is, ap length read.all, come.ordered, gx.delivery, h'.pair.there.takes.order, ap length gy.accepted));
      ended = λ finished. gx.ended (read.ended (come.finished (sym gy.closed ∙ (h'.pair.there.takes.fin finished).0)));
    }

-- and stays so, over whatever only brings both on
pub done-steps : (w v : WorldState) → Steps w v → NoneDiscarded v → IsDone w → IsDone v
done-steps w v steps up done =
    let on = steps.on done.on up in
    let pair = (kept-steady w done.kept).ends in
    let pair' = (kept-steady v steps.kept).ends in
    let whole = complete w.a w.b done.on done.none in
    record {
      kept = steps.kept;
      on = on;
      none = omega (arith, done.none, steps-left w v steps);
      read = on-both _ (read-stays w.a w.b v.a v.b pair pair' whole on.there (steps.grows A) (steps.grows B) (done.read A))
          (read-stays w.b w.a v.b v.a (steady-back w.b w.a pair) (steady-back v.b v.a pair') (both-swapped IsAllTaken w.a w.b whole) on.back (steps.grows B)
          (steps.grows A) (done.read B));
    }

-- then all got through
pub done-through : (w v : WorldState) → Steps w v → IsDone v → GotThrough w v
done-through w v steps done =
    let pair = (kept-steady v done.kept).ends in
    let whole = complete v.a v.b done.on done.none in
    let there = through v.a v.b pair whole (done.read B) in
    let back = through v.b v.a (steady-back v.b v.a pair) (both-swapped IsAllTaken v.a v.b whole) (done.read A) in
    let streams = steps-streams w v steps in
    let settles = waited v done.kept whole (done.read A) (done.read B) in
    assumption

-- a turn where nothing is left
turn-done : (w : WorldState) (turn : List EventContent) → IsKept w → GoOn w.a w.b → left_in w ≡ 0 → IsTurn w turn → NoneDiscarded (world_after_all w turn)
    → IsDone (world_after_all w turn)
turn-done w turn h on none t up =
    let v = world_after_all w reads in
    let tail = turn-tail w turn t in
    let same = turn-same w turn t in
    let calm = tail-calm w turn t in
    let steps = steps-all w reads reads-calm h in
    let up' : NoneDiscarded (world_after_all v tail) = subst NoneDiscarded same up in
    let rest = steps-all v tail calm steps.kept in
    let on' = steps.on on (rest.stays up') in
    let done : IsDone v = record { kept = steps.kept; on = on'; none = omega (arith, none, steps-left w v steps); read = have-read w h on } in
    subst IsDone (sym same) (done-steps v (world_after_all v tail) rest up' done)

-- ---- EACH TURN LEAVES LESS, while something is left
abbrev pub TurnLowers : Type 0
TurnLowers =
    (w : WorldState) (turn : List EventContent) → IsKept w → GoOn w.a w.b → IsTurn w turn → NoneDiscarded (world_after_all w turn) → 0 < left_in w
    → left_in (world_after_all w turn) < left_in w

-- so turn after turn all is done
module _ (lowers : TurnLowers) where
  -- what comes after a turn
  abbrev Later : ℕ → WorldState → Type 0
  Later n w =
      (u : WorldState) (after : List EventContent) → left_in u < left_in w → IsKept u → GoOn u.a u.b → HasTurns n u after → NoneDiscarded (world_after_all u after)
      → IsDone (world_after_all u after)

  first-turn : (n : ℕ) (w : WorldState) (events : List EventContent) → IsKept w → GoOn w.a w.b → HasTurns (suc n) w events
      → NoneDiscarded (world_after_all w events)
      → Later n w → IsDone (world_after_all w events)
  first-turn n w events h on turns up next =
      let before = turns.0 in
      let turn = turns.1 in
      let after = turns.2 in
      let t = turns.5 in
      let v = world_after_all w before in
      let u = world_after_all v turn in
      let same : world_after_all w events ≡ world_after_all u after =
      ap (world_after_all w) turns.3 ∙ after-append w before (turn ++ after) ∙ after-append v turn after in
      let up' = subst NoneDiscarded same up in
      let calm = turn-calm v turn t in
      let calm' = turns-calm n u after turns.6 in
      let steps = steps-all w before turns.4 h in
      let steps' = steps-all v turn calm steps.kept in
      let rest = steps-all u after calm' steps'.kept in
      let up'' = rest.stays up' in
      let on' = steps.on on (steps'.stays up'') in
      subst IsDone (sym same) (elim (cases_lt 0 (left_in v)) [
        | inr none ↦ done-steps u (world_after_all u after) rest up' (turn-done v turn steps.kept on' (omega (arith, none)) t up'')
        | inl some ↦
            let less = lowers v turn steps.kept on' t up'' some in
            next u after (omega (arith, less, steps-left w v steps)) steps'.kept (steps'.on on' up'') turns.6 up'
      ])

  -- as many turns as something is left, and one
  pub turns-done : (n : ℕ) (w : WorldState) (events : List EventContent) → left_in w ≤ n → IsKept w → GoOn w.a w.b → HasTurns (suc n) w events
      → NoneDiscarded (world_after_all w events) → IsDone (world_after_all w events)
  turns-done zero w events most h on turns up = first-turn zero w events h on turns up (λ u after less _ _ _ _. absurd (omega (arith, most, less)))
  turns-done (suc n) w events most h on turns up =
      first-turn (suc n) w events h on turns up (λ u after less h' on' rest up'. turns-done n u after (omega (arith, most, less)) h' on' rest up')

  -- so who is served gets through
  pub got-through : (n : ℕ) (w : WorldState) (events : List EventContent) → left_in w ≤ n → IsKept w → GoOn w.a w.b → HasTurns (suc n) w events
      → NoneDiscarded (world_after_all w events) → GotThrough w (world_after_all w events)
  got-through n w events most h on turns stays =
      done-through w (world_after_all w events) (steps-all w events (turns-calm (suc n) w events turns) h) (turns-done n w events most h on turns stays)

  -- in every world
  pub served-kept : (w : WorldState) → IsKept w → GetsThrough w
  served-kept w h a b events turns stays = got-through (left_in w) w events (omega arith) h (both-live w.a w.b a b) turns stays

  pub served_lem : WhoIsServedGetsThrough
  served_lem = in-every-world GetsThrough served-kept
