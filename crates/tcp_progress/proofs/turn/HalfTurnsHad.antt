-- HALF TURNS CAN BE HAD: a side emits what it has to first, its timeout expires, it emits, this is delivered, the other answers, and this is delivered.
use Rattle.tcp_replay.proofs.Words.{◌++◌, [], ack_alone, Acknowledgement, after_due, after_emission, after_retransmit, ap, append-nil, append_assoc}
use Rattle.tcp_replay.proofs.Words.{cases_Bool, Deliver, discards, Due, due_of, Emit, EmitAcknowledgement, EventContent, false, false≢true, IfSome, inl}
use Rattle.tcp_replay.proofs.Words.{inr, is_some, length, List, NewText, None, Option, other, party_after_timer, party_of, PartyState, Receive, refl}
use Rattle.tcp_replay.proofs.Words.{Reset, Retransmit, segment_of, Some, State, subst, suc, sym, Syn, Text, Timer, true, WaitingReset, world_after}
use Rattle.tcp_replay.proofs.Words.{world_after_all, WorldState, zero, ℕ, ◌∙◌, ◌∷◌, ◌≡◌}
use Rattle.tcp_replay.specs.Among.{Happening, Happens}
unfoldable use Rattle.tcp_replay.specs.Among.{after_happenings}
use Rattle.tcp_progress.proofs.Words.{A, all_room, AnswerArrives, AreCalm, Arrives, B, CanHaveHalves, HalvesCanBeHad, HasBothHalves, HasHalfTurn, is_reset}
use Rattle.tcp_progress.proofs.Words.{IsLive, NoneDiscarded, reads, SegmentIsAnswered, Side, timeout}
use Rattle.tcp_progress.proofs.Lemmas.{both-live, due-way, emit-at, emit-endpoint, emit-other, GoOn, have-read, in-every-world, IsKept}
use Rattle.tcp_progress.proofs.Lemmas.{reads-calm, side-pair, timer-at, timer-endpoint, timer-other, twice}
use Rattle.tcp_replay.proofs.Lemmas.{reset-waits}
use Rattle.tcp_replay.proofs.{one_end.AloneEmissions.ack-alone-goes, one_end.AloneEmissions.GoesOutAlone, pair.Emissions.goes-out}
use Rattle.tcp_progress.proofs.{turn.Emitted.party_after_due, turn.TurnsHad.due-plain, turn.TurnsHad.goes-safely, turn.TurnsHad.IsFine, turn.TurnsHad.IsNoReset, turn.TurnsHad.IsSafe, turn.TurnsHad.no_reset-emitted}
use Rattle.tcp_progress.proofs.{turn.OneHalf.alone-at}
use Rattle.tcp_progress.proofs.{turn.OneHalf.alone-as, turn.Serving.cleared, turn.Serving.reset-first, turn.Speaking.pending-event}
use Rattle.tcp_progress.proofs.{turn.Happened.calm-joined, turn.Happened.happenings-append, turn.Happened.steps-happenings, turn.Sides.on-both, turn.Turning.HaveRead}
use Rattle.tcp_conn.specs.declared.emit.due.Due.TheVariants as dues

-- ---- WHAT AN EMISSION LEAVES PENDING: no reset; and no SYN, where no reset was
due-no_reset : (s : State) (due : Option Due) → s.pending.reset ≡ None → (after_due s due).pending.reset ≡ None
due-no_reset s None e = e
due-no_reset s (Some dues.Reset) e = refl
due-no_reset s (Some dues.Syn) e = e
due-no_reset s (Some (dues.Text (NewText start count))) e = e
due-no_reset s (Some due) e = e

clears-by : (s : State) (waiting : Option WaitingReset) → s.pending.reset ≡ waiting → (after_emission s).pending.reset ≡ None
unfolding after_emission
clears-by s None e = due-no_reset s (due_of s) e
clears-by s (Some reset) e = ap (λ (t : State). t.pending.reset) (reset-first s reset e).1

-- no reset is pending after it
pub clears : (s : State) → (after_emission s).pending.reset ≡ None
clears s = clears-by s s.pending.reset refl

due-no_syn : (s : State) (due : Option Due) → s.pending.syn ≡ false → (after_due s due).pending.syn ≡ false
due-no_syn s None e = e
due-no_syn s (Some dues.Reset) e = e
due-no_syn s (Some dues.Syn) e = refl
due-no_syn s (Some (dues.Text (NewText start count))) e = e
due-no_syn s (Some due) e = e

pub opens : (s : State) → s.pending.reset ≡ None → (after_emission s).pending.syn ≡ false
unfolding after_emission due_of
opens s none =
    elim (cases_Bool s.pending.syn) [
      | inl pending ↦ rw (none, pending) refl
      | inr no_syn ↦ due-no_syn s (due_of s) no_syn
    ]

-- ---- ONE SAFE EVENT
fine-after : (w : WorldState) (event : EventContent) → IsSafe w event → IsFine w → IsFine (world_after w event)
unfolding world_after_all
fine-after w event safe h = (goes-safely w (event ∷ []) (safe, tt) h).fine

-- ---- AN ANSWER ARRIVES
record AnswerHad (z : WorldState) (side : Side) : Type 0 where
  events : List Happening
  calm : AreCalm z events
  fine : IsFine (after_happenings z events)
  answers : (later : List Happening) → (party_of z side).endpoint.pending.ack ≡ true → AnswerArrives side z (events ++ later)

alone-due : (s : State) → s.pending.ack ≡ true → s.pending.reset ≡ None → s.pending.syn ≡ false → ack_alone s ≡ Some Acknowledgement
unfolding ack_alone
alone-due s has_pending reset syn = rw (reset, syn, has_pending) refl

-- an acknowledgement alone answers, whatever is to be sent again
answers-alone : (w : WorldState) (side : Side) (later : List Happening) → (party_of w side).endpoint.pending.ack ≡ true
    → (party_of w side).endpoint.pending.reset ≡ None → (party_of w side).endpoint.pending.syn ≡ false
    → Arrives side (length (party_of w side).sent) later → AnswerArrives side w (Happens (EmitAcknowledgement side) ∷ later)
unfolding after_happenings
answers-alone w side later has_pending reset syn comes = record {
  before = [];
  answer = EmitAcknowledgement side;
  after = later;
  form = refl;
  due = Acknowledgement;
  sends = inr (refl, alone-due (party_of w side).endpoint has_pending reset syn);
  at = refl;
  arrives = comes;
}

-- an acknowledgement alone is no reset
alone-plain : (z : WorldState) (side : Side) → IsKept z → ack_alone (party_of z side).endpoint ≡ Some Acknowledgement
    → let v = world_after z (EmitAcknowledgement side) in IsNoReset (party_of v side) (party_of v (other side)) (length (party_of z side).sent)
alone-plain z side h is =
    let p = party_of z side in
    let q = party_of z (other side) in
    let k = length p.sent in
    let pair = side-pair z side h in
    let goes = goes-out p q Acknowledgement pair.pair (subst (λ (o : Option Due). IfSome o (GoesOutAlone p.endpoint p.accepted p.closed)) is
    (ack-alone-goes p.endpoint p.accepted p.closed pair.pair.there.alone)) in
    let out : IsNoReset (party_after_due p (Some Acknowledgement)) q k =
    (_, segment_of p.endpoint Acknowledgement, due-way p q Acknowledgement goes (due-plain p.endpoint Acknowledgement refl)) in
    alone-at (λ x y. IsNoReset x y k) z side (subst (λ (x : PartyState). IsNoReset x q k) (sym (alone-as p Acknowledgement is)) out)

answer-clear : (z : WorldState) (side : Side) → IsFine z → (party_of z side).endpoint.pending.ack ≡ true → (party_of z side).endpoint.pending.reset ≡ None
    → (party_of z side).endpoint.pending.syn ≡ false → AnswerHad z side
unfolding after_happenings
answer-clear z side h has_pending reset syn =
    let j = length (party_of z side).sent in
    let v = world_after z (EmitAcknowledgement side) in
    let plain = alone-plain z side h.kept (alone-due (party_of z side).endpoint has_pending reset syn) in
    record {
      events = Happens (EmitAcknowledgement side) ∷ (Happens (Deliver side j) ∷ []);
      calm = (tt, (tt, tt));
      fine = fine-after v (Deliver side j) plain (fine-after z (EmitAcknowledgement side) tt h);
      answers = λ later _. answers-alone z side (Happens (Deliver side j) ∷ later) has_pending reset syn (inl refl);
    }

answers-behind : (z : WorldState) (side : Side) (event : EventContent) (ys : List Happening) → AnswerArrives side (world_after z event) ys
    → AnswerArrives side z (Happens event ∷ ys)
unfolding after_happenings
answers-behind z side event ys a = record {
  before = Happens event ∷ a.before;
  answer = a.answer;
  after = a.after;
  form = ap (λ (list : List Happening). Happens event ∷ list) a.form;
  due = a.due;
  sends = a.sends;
  at = a.at;
  arrives = a.arrives;
}

answer-by : (z : WorldState) (side : Side) (waiting : Option WaitingReset) → (party_of z side).endpoint.pending.reset ≡ waiting → IsFine z
    → (party_of z side).endpoint.pending.syn ≡ false → (party_of z side).endpoint.pending.ack ≡ true → AnswerHad z side
unfolding after_happenings
answer-by z side None e h syn has_pending = answer-clear z side h has_pending e syn
answer-by z side (Some reset) e h syn has_pending =
    let s = (party_of z side).endpoint in
    let v = world_after z (Emit side) in
    let same : (party_of v side).endpoint ≡ cleared s = emit-endpoint z side ∙ (reset-first s reset e).1 in
    let has_pending' = ap (λ (t : State). t.pending.ack) same ∙ has_pending in
    let rest = answer-clear v side (fine-after z (Emit side) tt h) has_pending' (ap (λ (t : State). t.pending.reset) same) (ap (λ (t : State). t.pending.syn) same ∙ syn) in
    record {
      events = Happens (Emit side) ∷ rest.events;
      calm = (tt, rest.calm);
      fine = rest.fine;
      answers = λ later _. answers-behind z side (Emit side) (rest.events ++ later) (rest.answers later has_pending');
    }

answer-had : (z : WorldState) (side : Side) → IsFine z → (party_of z side).endpoint.pending.syn ≡ false → AnswerHad z side
unfolding after_happenings
answer-had z side h syn =
    let s = (party_of z side).endpoint in
    elim (cases_Bool s.pending.ack) [
      | inl has_pending ↦ answer-by z side s.pending.reset refl h syn has_pending
      | inr none ↦ record { events = []; calm = tt; fine = h; answers = λ later e. absurd (false≢true (sym none ∙ e)) }
    ]

-- ---- A SEGMENT IS ANSWERED
record AnsweredHad (x : WorldState) (side : Side) (k : ℕ) : Type 0 where
  events : List Happening
  calm : AreCalm x events
  fine : IsFine (after_happenings x events)
  is : (later : List Happening) → SegmentIsAnswered side k x (events ++ later)

answered-had : (x : WorldState) (side : Side) (k : ℕ) → IsFine x → GoOn x.a x.b → (party_of x (other side)).endpoint.pending.syn ≡ false
    → IsNoReset (party_of x side) (party_of x (other side)) k → AnsweredHad x side k
unfolding after_happenings
answered-had x side k h on syn plain =
    let z = world_after x (Deliver side k) in
    let syn' : (party_of z (other side)).endpoint.pending.syn ≡ false = elim (pending-event x (Deliver side k) (other side) tt h.kept on) [
      | inl is ↦ absurd (cc)
      | inr keeps ↦ keeps.syn syn
    ] in
    let a = answer-had z (other side) (fine-after x (Deliver side k) plain h) syn' in
    record {
      events = Happens (Deliver side k) ∷ a.events;
      calm = (tt, a.calm);
      fine = a.fine;
      is = λ later. record { before = []; after = a.events ++ later; form = refl; answered = λ has_pending. a.answers later has_pending };
    }

-- ---- A HALF
record HalfHad (w : WorldState) (side : Side) : Type 0 where
  events : List Happening
  calm : AreCalm w events
  fine : IsFine (after_happenings w events)
  half : (later : List Happening) → HasHalfTurn side w (events ++ later)

due-not_reset : (s : State) (due : Due) → s.pending.reset ≡ None → due_of s ≡ Some due → is_reset due ≡ false
due-not_reset s dues.Reset none is = absurd (false≢true (ap is_some (sym none) ∙ reset-waits s is))
due-not_reset s due none is = refl

retransmit-reset : (s : State) → s.pending.reset ≡ None → (after_retransmit s).pending.reset ≡ None
unfolding after_retransmit
retransmit-reset s e = e

timer-sent : (u : WorldState) (side : Side) → (party_of (world_after u (Timer side Retransmit)) side).sent ≡ (party_of u side).sent
unfolding party_after_timer
timer-sent u side = timer-at (λ x _. x.sent ≡ (party_of u side).sent) u side refl

timeout-by : (u : WorldState) (side : Side) (due : Option Due) → due_of (after_retransmit (party_of u side).endpoint) ≡ due → IsFine u → GoOn u.a u.b
    → (party_of u side).endpoint.pending.reset ≡ None → (party_of u (other side)).endpoint.pending.syn ≡ false → HalfHad u side
unfolding after_happenings
timeout-by u side None e h on reset syn =
    let fine = fine-after (world_after u (Timer side Retransmit)) (Emit side) tt (fine-after u (Timer side Retransmit) tt h) in
    record {
      events = Happens (Timer side Retransmit) ∷ (Happens (Emit side) ∷ []);
      calm = (tt, (tt, tt));
      fine = fine;
      half = λ later. record { before = []; after = later; form = refl; no_reset = reset; answered = rw e tt };
    }
timeout-by u side (Some due) e h on reset syn =
    let s = (party_of u side).endpoint in
    let k = length (party_of u side).sent in
    let v = world_after u (Timer side Retransmit) in
    let x = world_after v (Emit side) in
    let fv = fine-after u (Timer side Retransmit) tt h in
    let fx = fine-after v (Emit side) tt fv in
    let on' = (steps-happenings u (Happens (Timer side Retransmit) ∷ (Happens (Emit side) ∷ [])) (tt, (tt, tt)) h.kept).on on fx.up in
    let is : due_of (party_of v side).endpoint ≡ Some due = ap due_of (timer-endpoint u side) ∙ e in
    let none : (party_of v side).endpoint.pending.reset ≡ None = ap (λ (t : State). t.pending.reset) (timer-endpoint u side) ∙ retransmit-reset s reset in
    let same : (party_of v side).sent ≡ (party_of u side).sent = timer-sent u side in
    let out = emit-at (λ x y. IsNoReset x y (length (party_of v side).sent)) v side (no_reset-emitted (party_of v side) (party_of v (other side)) due
    (side-pair v side fv.kept).pair is (due-not_reset (party_of v side).endpoint due none is)) in
    let plain = subst (λ (n : ℕ). IsNoReset (party_of x side) (party_of x (other side)) n) (ap length same) out in
    let syn' = ap (λ (p : PartyState). p.endpoint.pending.syn) (emit-other v side ∙ timer-other u side) ∙ syn in
    let rest = answered-had x side k fx on' syn' plain in
    record {
      events = Happens (Timer side Retransmit) ∷ (Happens (Emit side) ∷ rest.events);
      calm = (tt, (tt, rest.calm));
      fine = rest.fine;
      half = λ later. record {
        before = [];
        after = rest.events ++ later;
        form = refl;
        no_reset = reset;
        answered = subst (λ (o : Option Due). IfSome o (λ due. SegmentIsAnswered side k x (rest.events ++ later))) (sym e) (rest.is later);
      };
    }

-- behind other events
half-behind : (side : Side) (w : WorldState) (xs ys : List Happening) → HasHalfTurn side (after_happenings w xs) ys → HasHalfTurn side w (xs ++ ys)
half-behind side w xs ys h =
    let out = timeout side in
    let Said : WorldState → WorldState → Type 0 = λ u x. IfSome (due_of (after_retransmit (party_of u side).endpoint))
    (λ due. SegmentIsAnswered side (length (party_of u side).sent) x h.after) in
    let first = happenings-append w xs h.before in
    let second : after_happenings w ((xs ++ h.before) ++ out) ≡ after_happenings (after_happenings w xs) (h.before ++ out) =
    ap (after_happenings w) (append_assoc xs h.before out) ∙ happenings-append w xs (h.before ++ out) in
    record {
      before = xs ++ h.before;
      after = h.after;
      form = ap (λ (list : List Happening). xs ++ list) h.form ∙ sym (append_assoc xs h.before (timeout side ++ h.after));
      no_reset = subst (λ (u : WorldState). (party_of u side).endpoint.pending.reset ≡ None) (sym first) h.no_reset;
      answered = subst (λ (u : WorldState). Said u (after_happenings w ((xs ++ h.before) ++ out))) (sym first)
          (subst (λ (x : WorldState). Said (after_happenings (after_happenings w xs) h.before) x) (sym second) h.answered);
    }

-- what is pending goes out first: a reset here, a reset and a SYN there
half-had : (w : WorldState) (side : Side) → IsFine w → GoOn w.a w.b → HalfHad w side
unfolding after_happenings
half-had w side h on =
    let there = other side in
    let w' = world_after w (Emit side) in
    let w'' = world_after w' (Emit there) in
    let u = world_after w'' (Emit there) in
    let first = Happens (Emit side) ∷ (Happens (Emit there) ∷ (Happens (Emit there) ∷ [])) in
    let fine = fine-after w'' (Emit there) tt (fine-after w' (Emit there) tt (fine-after w (Emit side) tt h)) in
    let on' = (steps-happenings w first (tt, (tt, (tt, tt))) h.kept).on on fine.up in
    let stays : party_of u side ≡ party_of w' side =
    subst (λ (s : Side). party_of u s ≡ party_of w' s) (twice side) (emit-other w'' there ∙ emit-other w' there) in
    let reset = ap (λ (p : PartyState). p.endpoint.pending.reset) stays ∙ ap (λ (t : State). t.pending.reset) (emit-endpoint w side)
    ∙ clears (party_of w side).endpoint in
    let once = ap (λ (t : State). t.pending.reset) (emit-endpoint w' there) ∙ clears (party_of w' there).endpoint in
    let syn = ap (λ (t : State). t.pending.syn) (emit-endpoint w'' there) ∙ opens (party_of w'' there).endpoint once in
    let rest = timeout-by u side (due_of (after_retransmit (party_of u side).endpoint)) refl fine on' reset syn in
    record {
      events = first ++ rest.events;
      calm = (tt, (tt, (tt, rest.calm)));
      fine = rest.fine;
      half = λ later. half-behind side w first (rest.events ++ later) (rest.half later);
    }

-- ---- A PAIR, and as many as one likes
record PairHad (w : WorldState) : Type 0 where
  events : List Happening
  is : HasBothHalves w events
  fine : IsFine (after_happenings w events)

pair-had : (w : WorldState) → IsFine w → GoOn w.a w.b → HaveRead w → PairHad w
pair-had w h on read =
    let one = half-had w A h on in
    let v = after_happenings w one.events in
    let two = half-had v B one.fine ((steps-happenings w one.events one.calm h.kept).on on one.fine.up) in
    let calm = calm-joined w one.events two.events one.calm two.calm in
    let second = half-behind B w one.events two.events (subst (λ (list : List Happening). HasHalfTurn B v list) (append-nil two.events) (two.half [])) in
    record {
      events = one.events ++ two.events;
      is = record {
        calm = calm;
        read = read;
        half = on-both (λ side. HasHalfTurn side w (one.events ++ two.events)) (one.half two.events) second;
      };
      fine = subst IsFine (sym (happenings-append w one.events two.events)) two.fine;
    }

-- both users read
abbrev both-read : List Happening
both-read = Happens (Receive A all_room) ∷ (Happens (Receive A 0) ∷ (Happens (Receive B all_room) ∷ (Happens (Receive B 0) ∷ [])))

halves-had : (n : ℕ) (w : WorldState) → IsFine w → GoOn w.a w.b → CanHaveHalves n w
unfolding after_happenings world_after_all
halves-had zero w h on = record { list = []; halves = tt; stays = h.up }
halves-had (suc n) w h on =
    let v = after_happenings w both-read in
    let fine : IsFine v = (goes-safely w reads (tt, (tt, (tt, (tt, tt)))) h).fine in
    let on' = (steps-happenings w both-read reads-calm h.kept).on on fine.up in
    let pair = pair-had v fine on' (have-read w h.kept on) in
    let u = after_happenings v pair.events in
    let rest = halves-had n u pair.fine ((steps-happenings v pair.events pair.is.calm fine.kept).on on' pair.fine.up) in
    let end = happenings-append w both-read (pair.events ++ rest.list) ∙ happenings-append v pair.events rest.list in
    record {
      list = both-read ++ (pair.events ++ rest.list);
      halves = (both-read, pair.events, rest.list, refl, reads-calm, pair.is, rest.halves);
      stays = subst NoneDiscarded (sym end) rest.stays;
    }

-- in every world
pub halves_had-kept : (w : WorldState) → IsKept w → IsLive w.a → IsLive w.b → (n : ℕ) → CanHaveHalves n w
halves_had-kept w h a b n =
    let up : NoneDiscarded w = (ap discards a.goes_on, ap discards b.goes_on) in
    halves-had n w (record { kept = h; up = up }) (both-live w.a w.b a b)

pub halves_had_lem : HalvesCanBeHad
halves_had_lem = in-every-world (λ w. IsLive w.a → IsLive w.b → (n : ℕ) → CanHaveHalves n w) halves_had-kept
