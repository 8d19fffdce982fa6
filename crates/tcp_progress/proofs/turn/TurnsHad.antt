-- WHERE NO RESET COMES no end is reset or aborted: reads, the retransmission timeout and emissions end nothing, nor does a segment that is no reset.
use Rattle.tcp_replay.proofs.Words.{◌++◌, [], acceptable_judgement, ack_judgement, after_judgement, AllByRecursion, ap, Bool, bytes_of, cases_Bool}
use Rattle.tcp_replay.proofs.Words.{closed_judgement, Content, Deliver, discards, Due, due_of, effect_of, Emit, EmitAcknowledgement, EventContent, false}
use Rattle.tcp_replay.proofs.Words.{false≢true, has, has_discarded, if◌then◌else◌, inl, inr, is_closed, IsAlone, IsSoundPair, Judgement, judgement}
use Rattle.tcp_replay.proofs.Words.{judgement_after_syn, length, List, listen_judgement, None, Option, other, party_after_emission, party_of, PartyState}
use Rattle.tcp_replay.proofs.Words.{phase_judgement, Receive, refl, Retransmit, rst, segment_of, sent_by, SentSegment, side_of, Some, State, subst, suc}
use Rattle.tcp_replay.proofs.Words.{sym, syn_sent_judgement, Timer, true, unacceptable_judgement, world_after, world_after_all, WorldState, zero, ℕ, ◌∙◌}
use Rattle.tcp_replay.proofs.Words.{◌∷◌, ◌≡◌}
use Rattle.tcp_progress.proofs.Words.{A, AllCome, B, both_served, CanHaveTurns, Comes, emissions, is_reset, IsCalm, IsIdle, IsQuiet, IsTurn, IsUntimed}
use Rattle.tcp_progress.proofs.Words.{NoneDiscarded, reads, served, Side, TurnsCanBeHad}
use Rattle.tcp_progress.proofs.Lemmas.{after-append, all-append, all-emissions, all-more, all-untimed, among-left, among-right, AreAmong, arrives, at-event}
use Rattle.tcp_progress.proofs.Lemmas.{closed-ending, come-both, due-way, emit-at, emitted-as, goes-due, Grows, how-ends, in-every-world, IsKept, IsOnItsWay}
use Rattle.tcp_progress.proofs.Lemmas.{no-reset, Resets, side-pair, Steps, steps-all, steps-event, steps-then, still-ack_alone, still-emission}
use Rattle.tcp_progress.proofs.Lemmas.{still-reading, still-retransmit}
use Rattle.tcp_progress.proofs.Lemmas.{way-later}
use Rattle.tcp_replay.proofs.Lemmas.{not-closed-ended, due-bits}
use Rattle.tcp_progress.proofs.{turn.Behind.emissions-other, turn.Draining.burst-ends}
use Rattle.tcp_conn.specs.declared.emit.due.Due.TheVariants as dues
use Rattle.tcp_conn.specs.declared.phase.Timer.TheVariants as timers

-- ---- WITHOUT RST no judgement is passed that a reset alone brings (RFC 9293, 3.10.7)
record IsPlain (j : Judgement) : Type 0 where
  never : Resets j → ⊥

plain-if : (b : Bool) (x y : Judgement) → IsPlain x → IsPlain y → IsPlain (if b then x else y)
plain-if true x y one two = one
plain-if false x y one two = two

after_syn-plain : (s : State) (v : Content) → has rst v.flags ≡ false → IsPlain (judgement_after_syn s v)
unfolding judgement_after_syn unacceptable_judgement acceptable_judgement ack_judgement
after_syn-plain s v plain = rw plain (search plain-if depth 16)

judged-plain : (s : State) (src dst : List ℕ) (v : Content) → has rst v.flags ≡ false → IsPlain (judgement s src dst v)
unfolding judgement phase_judgement closed_judgement listen_judgement syn_sent_judgement
judged-plain s src dst v plain =
    let after_syn = after_syn-plain s v plain in
    rw plain (search plain-if depth 16)

-- so no end is reset or aborted at it
stays-judgement : (s : State) (src dst : List ℕ) (v : Content) (accepted : List ℕ) (closed : Bool) → IsAlone s accepted closed → has rst v.flags ≡ false
    → discards s.ending ≡ false → discards (after_judgement (judgement s src dst v) s src v).ending ≡ false
stays-judgement s src dst v accepted closed alone plain stays =
    elim (cases_Bool (is_closed s.phase)) [
      | inl shut ↦ ap discards (closed-ending s src dst v shut) ∙ stays
      | inr here ↦
          let goes = not-closed-ended s.phase s.ending s.sending.snd_una s.sending.snd_nxt s.receiving.opened s.receiving.finished here alone.progress in
          elim (how-ends s src dst v goes) [
            | inl reset ↦ absurd ((judged-plain s src dst v plain).never reset)
            | inr ends ↦ elim ends [ inl on ↦ ap discards on | inr over ↦ ap discards over.0 ]
          ]
    ]

-- ---- NO RESET: the k-th segment of p, as q reads it
abbrev pub IsNoReset : PartyState → PartyState → ℕ → Type 0
IsNoReset p q k = (g : SentSegment) × (v : Content) × IsOnItsWay p q k g v

-- it is none later
pub no_reset-later : (p q p' q' : PartyState) (k : ℕ) → Grows p p' → Grows q q' → IsNoReset p q k → IsNoReset p' q' k
no_reset-later p q p' q' k gp gq h = (h.0, h.1, way-later p q p' q' k h.0 h.1 gp gq h.2)

pub due-plain : (s : State) (due : Due) → is_reset due ≡ false → has rst (segment_of s due).flags ≡ false
unfolding segment_of
due-plain s dues.Reset e = absurd (false≢true (sym e))
due-plain s dues.Syn e = no-reset s.receiving.opened
due-plain s due e = (due-bits s.sending due).2

-- what is due is none, unless a reset is
pub no_reset-emitted : (p q : PartyState) (due : Due) → IsSoundPair p q → due_of p.endpoint ≡ Some due → is_reset due ≡ false
    → IsNoReset (party_after_emission p) q (length p.sent)
no_reset-emitted p q due h is plain =
    let s = p.endpoint in
    rw (emitted-as p due is) (sent_by s (bytes_of s due), segment_of s due, due-way p q due (goes-due p q due h is) (due-plain s due plain))

-- ---- SAFE: at these no end is reset or aborted
abbrev pub IsSafeAt : PartyState → PartyState → EventContent → Type 0
IsSafeAt p q (Receive side room) = Unit {0}
IsSafeAt p q (Timer side timers.Retransmit) = Unit {0}
IsSafeAt p q (Emit side) = Unit {0}
IsSafeAt p q (EmitAcknowledgement side) = Unit {0}
IsSafeAt p q (Deliver from k) = IsNoReset p q k
IsSafeAt p q other = ⊥

-- for the side that the event names
abbrev pub IsSafe : WorldState → EventContent → Type 0
IsSafe w event = IsSafeAt (party_of w (side_of event)) (party_of w (other (side_of event))) event

safe-calm : (p q : PartyState) (event : EventContent) → IsSafeAt p q event → IsCalm event
safe-calm p q (Receive side room) h = tt
safe-calm p q (Timer side timers.Retransmit) h = tt
safe-calm p q (Emit side) h = tt
safe-calm p q (EmitAcknowledgement side) h = tt
safe-calm p q (Deliver from k) h = tt
safe-calm p q event h = absurd h

safe-at : (p q p' q' : PartyState) (event : EventContent) → Grows p p' → Grows q q' → IsSafeAt p q event → IsSafeAt p' q' event
safe-at p q p' q' (Deliver from k) gp gq h = no_reset-later p q p' q' k gp gq h
safe-at p q p' q' event gp gq h = h

-- what is safe is safe later
pub safe-later : (w v : WorldState) (event : EventContent) → Steps w v → IsSafe w event → IsSafe v event
safe-later w v event steps h = safe-at _ _ _ _ event (steps.grows (side_of event)) (steps.grows (other (side_of event))) h

stays-effect : (life : ℕ) (p q : PartyState) (event : EventContent) → IsSafeAt p q event → IsSoundPair p q → (has_discarded p ≡ false) × (has_discarded q ≡ false)
    → (has_discarded (effect_of life p q event).here ≡ false) × (has_discarded (effect_of life p q event).there ≡ false)
unfolding effect_of
stays-effect life p q (Receive side room) safe pair up = (ap discards (still-reading p room).ending ∙ up.0, up.1)
stays-effect life p q (Timer side timers.Retransmit) safe pair up = (ap discards (still-retransmit p).ending ∙ up.0, up.1)
stays-effect life p q (Emit side) safe pair up = (ap discards (still-emission p).ending ∙ up.0, up.1)
stays-effect life p q (EmitAcknowledgement side) safe pair up = (ap discards (still-ack_alone p).ending ∙ up.0, up.1)
stays-effect life p q (Deliver from k) safe pair up = (
  up.0,
  ap has_discarded (arrives p q k safe.0 safe.1 safe.2) ∙ stays-judgement q.endpoint p.endpoint.config.addr.0 q.endpoint.config.addr.0 safe.1 q.accepted
      q.closed pair.back.alone safe.2.no_rst up.1,
)
stays-effect life p q event safe pair up = absurd safe

stays-event : (w : WorldState) (event : EventContent) → IsSafe w event → IsKept w → NoneDiscarded w → NoneDiscarded (world_after w event)
stays-event w event safe h =
    let s = side_of event in
    let stays = stays-effect w.life (party_of w s) (party_of w (other s)) event safe (side-pair w s h).pair in
    at-event (λ p q p' q'. (has_discarded p ≡ false) × (has_discarded q ≡ false) → (has_discarded p' ≡ false) × (has_discarded q' ≡ false)) w event A (λ up. up) (λ _ _. stays)
    (λ _ up. let both = stays (up.1, up.0) in (both.1, both.0))

-- ---- SOUND AND UP: what every world keeps, and no end was reset or aborted
pub record IsFine (w : WorldState) : Type 0 where
  pub kept : IsKept w
  pub up : NoneDiscarded w

-- over safe events
pub record GoesSafely (w v : WorldState) : Type 0 where
  pub steps : Steps w v
  pub fine : IsFine v

all-safe : (w : WorldState) (events : List EventContent) → AllByRecursion (IsSafe w) events → IsFine w → NoneDiscarded (world_after_all w events)
unfolding world_after_all
all-safe w [] safe h = h.up
all-safe w (event ∷ events) safe h =
    let v = world_after w event in
    let step = steps-event w event (safe-calm _ _ event safe.0) h.kept in
    all-safe v events (all-more (IsSafe w) (IsSafe v) (λ later is. safe-later w v later step is) events safe.1)
    (record { kept = step.kept; up = stays-event w event safe.0 h.kept h.up })

-- over safe events
pub goes-safely : (w : WorldState) (events : List EventContent) → AllByRecursion (IsSafe w) events → IsFine w → GoesSafely w (world_after_all w events)
goes-safely w events safe h =
    let steps = steps-all w events (all-more (IsSafe w) IsCalm (λ event is. safe-calm _ _ event is) events safe) h.kept in
    record { steps = steps; fine = record { kept = steps.kept; up = all-safe w events safe h } }

-- ---- TURNS CAN BE HAD, as many as one likes: from every world in which no end was reset or aborted, both bursts end; all that went out in them is
-- delivered; both answer, which ends too; and what they answered is delivered. No end is reset or aborted in it.
-- ---- WHAT IS DELIVERED of the emissions of a side is each segment that goes out, but no reset: deliveries alone
abbrev IsDelivery : EventContent → Type 0
IsDelivery (Deliver from k) = Unit {0}
IsDelivery other = ⊥

-- so nothing goes out at them
delivery-comes : (w : WorldState) (event : EventContent) (later : List EventContent) → IsDelivery event → Comes w event later
delivery-comes w (Deliver from k) later h = tt
delivery-comes w event later h = absurd h

deliveries-come : (w : WorldState) (events later : List EventContent) → AllByRecursion IsDelivery events → AllCome w events later
deliveries-come w [] later h = tt
deliveries-come w (event ∷ events) later h = (delivery-comes w event (events ++ later) h.0, deliveries-come (world_after w event) events later h.1)

-- and no timer expires
delivery-plain : (event : EventContent) → IsDelivery event → IsUntimed event × IsQuiet event
delivery-plain (Deliver from k) h = (tt, tt)
delivery-plain event h = absurd h

-- none of which is a reset
abbrev IsSafeDelivery : WorldState → EventContent → Type 0
IsSafeDelivery w event = IsDelivery event × IsSafe w event

-- ---- WHAT GOES OUT at some events, which go safely, is delivered safely
record IsOut (w : WorldState) (events : List EventContent) : Type 0 where
  out : List EventContent
  safe : AllByRecursion (IsSafeDelivery (world_after_all w events)) out
  goes : GoesSafely w (world_after_all w events)
  comes : (later : List EventContent) → AreAmong out later → AllCome w events later

-- at events and those after them
out-both : (w : WorldState) (xs ys : List EventContent) → IsOut w xs → IsOut (world_after_all w xs) ys → IsOut w (xs ++ ys)
out-both w xs ys one two =
    let same = after-append w xs ys in
    let u = world_after_all w xs in
    let v = world_after_all u ys in
    let goes : GoesSafely w v = record { steps = steps-then w u v one.goes.steps two.goes.steps; fine = two.goes.fine } in
    let safe = all-more (IsSafeDelivery u) (IsSafeDelivery v) (λ event is. (is.0, safe-later u v event two.goes.steps is.1)) one.out one.safe in
    record {
      out = one.out ++ two.out;
      safe = rw same (all-append _ one.out two.out safe two.safe);
      goes = rw same goes;
      comes = λ later among. come-both w xs ys later
          (one.comes (ys ++ later) (λ from k h. among-right ys later from k (among from k (among-left one.out two.out from k h))))
          (two.comes later (λ from k h. among from k (among-right one.out two.out from k h)));
    }

-- at one emission
due-out : (w : WorldState) (side : Side) (due : Option Due) → due_of (party_of w side).endpoint ≡ due → IsFine w → IsOut w (Emit side ∷ [])
unfolding world_after_all
due-out w side None e h = record { out = []; safe = tt; goes = goes-safely w (Emit side ∷ []) (tt, tt) h; comes = λ later among. (rw e tt, tt) }
due-out w side (Some due) e h =
    let k = length (party_of w side).sent in
    let goes = goes-safely w (Emit side ∷ []) (tt, tt) h in
    elim (cases_Bool (is_reset due)) [
      | inl reset ↦ record { out = []; safe = tt; goes = goes; comes = λ later among. (rw (e, reset) (λ never. absurd (cc)), tt) }
      | inr plain ↦
          let out = no_reset-emitted (party_of w side) (party_of w (other side)) due (side-pair w side h.kept).pair e plain in
          let safe = emit-at (λ x y. IsNoReset x y k) w side out in
          record { out = Deliver side k ∷ []; safe = ((tt, safe), tt); goes = goes; comes = λ later among. (rw e (λ _. among side k (inl refl)), tt) }
    ]

emissions-out : (n : ℕ) (w : WorldState) (side : Side) → IsFine w → IsOut w (emissions side n)
unfolding world_after_all
emissions-out zero w side h = record { out = []; safe = tt; goes = goes-safely w [] tt h; comes = λ later among. tt }
emissions-out (suc n) w side h =
    let one = due-out w side (due_of (party_of w side).endpoint) refl h in
    out-both w (Emit side ∷ []) (emissions side n) one (emissions-out n (world_after w (Emit side)) side one.goes.fine)

-- ONE SIDE EMITS until nothing is due, perhaps after its timeout
record OutAll (w : WorldState) (side : Side) (events : ℕ → List EventContent) : Type 0 where
  count : ℕ
  idle : IsIdle (world_after_all w (events count)) side
  is : IsOut w (events count)

emits-all : (w : WorldState) (side : Side) → IsFine w → OutAll w side (emissions side)
emits-all w side h = let end = burst-ends w side h.kept in record { count = end.0; idle = end.1; is = emissions-out end.0 w side h }

serves-all : (w : WorldState) (side : Side) → IsFine w → OutAll w side (served side)
unfolding world_after_all
serves-all w side h =
    let timeout = Timer side Retransmit ∷ [] in
    let goes = goes-safely w timeout (tt, tt) h in
    let first : IsOut w timeout = record { out = []; safe = tt; goes = goes; comes = λ later among. (tt, tt) } in
    let all = emits-all (world_after w (Timer side Retransmit)) side goes.fine in
    record { count = all.count; idle = all.idle; is = out-both w timeout (emissions side all.count) first all.is }

-- ---- BOTH WERE SERVED: what they sent is delivered, both answer, and what they answered is delivered
record IsAnswered (w : WorldState) (sent : List EventContent) : Type 0 where
  there : List EventContent
  back : List EventContent
  among : AreAmong sent there
  untimed : AllByRecursion IsUntimed there
  calm : AllByRecursion IsCalm back
  quiet : AllByRecursion IsQuiet (there ++ back)
  idle_a : IsIdle (world_after_all w there) A
  idle_b : IsIdle (world_after_all w there) B
  comes : AllCome w there back
  fine : IsFine (world_after_all w (there ++ back))

-- safe deliveries
abbrev AreBrought : WorldState → List EventContent → Type 0
AreBrought w events = AllByRecursion (IsSafeDelivery w) events

go-safely : (w : WorldState) (events : List EventContent) → AreBrought w events → IsFine w → IsFine (world_after_all w events)
go-safely w events safe h = (goes-safely w events (all-more (IsSafeDelivery w) (IsSafe w) (λ event is. is.1) events safe) h).fine

are-untimed : (w : WorldState) (events : List EventContent) → AreBrought w events → AllByRecursion IsUntimed events
are-untimed w events safe = all-more (IsSafeDelivery w) IsUntimed (λ event is. (delivery-plain event is.0).0) events safe

are-quiet : (w : WorldState) (events : List EventContent) → AreBrought w events → AllByRecursion IsQuiet events
are-quiet w events safe = all-more (IsSafeDelivery w) IsQuiet (λ event is. (delivery-plain event is.0).1) events safe

are-answered : (w : WorldState) (sent : List EventContent) → AreBrought w sent → IsFine w → IsAnswered w sent
are-answered w sent safe h =
    let y = world_after_all w sent in
    let one = emits-all y A (go-safely w sent safe h) in
    let ya = world_after_all y (emissions A one.count) in
    let two = emits-all ya B one.is.goes.fine in
    let emitted = emissions A one.count ++ emissions B two.count in
    let z = world_after_all y emitted in
    let both = out-both y (emissions A one.count) (emissions B two.count) one.is two.is in
    let end = after-append w sent emitted in
    let end' = after-append y (emissions A one.count) (emissions B two.count) in
    let delivered = all-more (IsSafeDelivery w) IsDelivery (λ event is. is.0) sent safe in
    let emits = λ (Holds : EventContent → Type 0) (a : Holds (Emit A)) (b : Holds (Emit B)).
    all-append Holds (emissions A one.count) (emissions B two.count) (all-emissions Holds A a one.count) (all-emissions Holds B b two.count) in
    record {
      there = sent ++ emitted;
      back = both.out;
      among = among-left sent emitted;
      untimed = all-append _ sent emitted (are-untimed w sent safe) (emits IsUntimed tt tt);
      calm = all-untimed both.out (are-untimed z both.out both.safe);
      quiet = all-append _ (sent ++ emitted) both.out
          (all-append _ sent emitted (are-quiet w sent safe) (emits IsQuiet tt tt)) (are-quiet z both.out both.safe);
      idle_a = rw (end, end') (ap (λ p. due_of p.endpoint) (emissions-other two.count ya B) ∙ one.idle);
      idle_b = rw (end, end') two.idle;
      comes = come-both w sent emitted both.out (deliveries-come w sent (emitted ++ both.out) delivered) (both.comes both.out (λ from k h. h));
      fine = rw (after-append w (sent ++ emitted) both.out, end) (go-safely z both.out both.safe both.goes.fine);
    }

-- ---- A TURN
record HasTurn (w : WorldState) : Type 0 where
  turn : List EventContent
  is : IsTurn w turn
  quiet : AllByRecursion IsQuiet turn
  fine : IsFine (world_after_all w turn)

has-turn : (w : WorldState) → IsFine w → HasTurn w
has-turn w h =
    let v = world_after_all w reads in
    let one = serves-all v A (goes-safely w reads (tt, (tt, (tt, (tt, tt)))) h).fine in
    let two = serves-all (world_after_all v (served A one.count)) B one.is.goes.fine in
    let both = both_served A one.count two.count in
    let sent = out-both v (served A one.count) (served B two.count) one.is two.is in
    let g = are-answered (world_after_all v both) sent.out sent.safe sent.goes.fine in
    let rest = g.there ++ g.back in
    let after-both = after-append w reads both in
    let after-there = after-append v both g.there in
    record {
      turn = reads ++ (both ++ rest);
      is = record {
        first = A;
        count = one.count;
        then_count = two.count;
        there = g.there;
        back = g.back;
        form = refl {a = reads ++ (both ++ rest)};
        untimed = g.untimed;
        calm = g.calm;
        first_out = rw (after-append w reads (served A one.count)) one.idle;
        then_out = rw (after-both, after-append v (served A one.count) (served B two.count)) two.idle;
        answered_a = rw (after-append w reads (both ++ g.there), after-there) g.idle_a;
        answered_b = rw (after-append w reads (both ++ g.there), after-there) g.idle_b;
        comes_there = sent.comes g.there g.among;
        comes_back = rw after-both g.comes;
      };
      quiet = all-append _ reads (both ++ rest) (tt, (tt, (tt, (tt, tt)))) (all-append _ both rest
          (all-append _ (served A one.count) (served B two.count) (tt, all-emissions IsQuiet A tt one.count) (tt, all-emissions IsQuiet B tt two.count))
          g.quiet);
      fine = rw (after-append w reads (both ++ rest), after-append v both rest) g.fine;
    }

-- as many as one likes, and all quiet
pub record HasQuietTurns (n : ℕ) (w : WorldState) : Type 0 where
  pub turns : CanHaveTurns n w
  pub quiet : AllByRecursion IsQuiet turns.events

pub have-turns : (n : ℕ) (w : WorldState) → IsFine w → HasQuietTurns n w
unfolding world_after_all
have-turns zero w h = record { turns = record { events = []; turns = tt; stays = h.up }; quiet = tt }
have-turns (suc n) w h =
    let t = has-turn w h in
    let rest = have-turns n (world_after_all w t.turn) t.fine in
    let after = rest.turns.events in
    record {
      turns = record {
        events = t.turn ++ after;
        turns = ([], t.turn, after, refl, tt, t.is, rest.turns.turns);
        stays = subst NoneDiscarded (sym (after-append w t.turn after)) rest.turns.stays;
      };
      quiet = all-append IsQuiet t.turn after t.quiet rest.quiet;
    }

-- in every world
pub turns-kept : (w : WorldState) → IsKept w → NoneDiscarded w → (n : ℕ) → CanHaveTurns n w
turns-kept w h up n = (have-turns n w (record { kept = h; up = up })).turns

pub turns_lem : TurnsCanBeHad
turns_lem = in-every-world (λ w. NoneDiscarded w → (n : ℕ) → CanHaveTurns n w) turns-kept
