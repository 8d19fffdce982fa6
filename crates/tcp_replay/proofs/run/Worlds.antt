-- THE HEADLINE on the definitions: every event keeps both ends sound, sound ends are safe, and no segment expires where the lifetime is the longest.
use Rattle.tcp_replay.proofs.Words.{◌+◌, ◌++◌, ◌-◌, ◌<◌, [], A, ack, acks_late, address_of, age_refusal, AllByRecursion, and_parts, ap, AreOwn}
use Rattle.tcp_replay.proofs.Words.{AreSoundEnds, arith, Arrived, B, BadChecksum, Bool, both, bytes_of, cond_both, Config, Damage, default_limit, drop}
use Rattle.tcp_replay.proofs.Words.{default_runs, Due, Effect, effect_of, EmitsTruth, empty_inbox-agrees, Err, EventContent, EveryRunIsSafe, EveryRunIsSafeWithRuns, Expired, false, FindsDamage}
use Rattle.tcp_replay.proofs.Words.{flags_in, grows_for, has, HasBytes, HintsAreTrue, IfErr, IfNone, IfOk, IfSome, is_expired, is_late, IsConfig, IsDamage}
use Rattle.tcp_replay.proofs.Words.{IsOwn, IsSafe, IsSafeDirection, IsSound, IsSoundEnd, IsSoundPair, KeepsAllSegments, leb-true, length, length-take}
use Rattle.tcp_replay.proofs.Words.{List, Malformed, max_life, min, nat_le, party_with_runs, world_with_runs, NoMemory, None, not, Ok, OnErr, OnOk, Option}
use Rattle.tcp_replay.proofs.Words.{option_map, or_cases, other, Outcome, outcome_of, party_of, PartyState, Peer, rcv_position, refl, refusal_of, Result}
use Rattle.tcp_replay.proofs.Words.{rst, run_of, sent_by, SentSegment, Side, side_of, Some, State, stay_or, StepError, subst, sym, take, take-append-drop}
use Rattle.tcp_replay.proofs.Words.{true, world_after, world_after_all, world_from, world_with_effect, WorldState, ◌||◌, ℕ, ◌∙◌, ◌∷◌, ◌≡◌, ◌≤◌, ⊎_elim}
use Rattle.tcp_replay.proofs.{Lists.one_if, Lists.one_if-most, one_end.Alone.alone-new, pair.Steps.pair-from-move, pair.Steps.pair-swapped, pair.Events.finds-damage, pair.Events.in-world}
use Rattle.tcp_replay.proofs.{pair.Events.own-decodes, pair.Events.PairKept, pair.Events.some-is, pair.Emissions.GoesOut, pair.Emissions.own-due, pair.Emissions.rcv_position-is, pair.Calls.KeptByCalls}
use Rattle.tcp_replay.proofs.{hints.Hints.hints-after, hints.Hints.hints-new, hints.Hints.hints-true, run.Runs.not-refused}
use Rattle.tcp_replay.specs.declared.outcome.Outcome.TheVariants as outcomes
use Rattle.tcp_replay.proofs.run.Runs.{refusal-cases}

-- SOUNDNESS rests on nothing else
nothing-kept : (peer : Peer) (p : PartyState) → KeptByCalls peer p (λ _. Unit {0})
nothing-kept peer p = assumption

own-new : (p q : PartyState) (due : Option Due) → IfSome due (GoesOut p q) → (g : SentSegment)
    → option_map (sent_by p.endpoint) (option_map (bytes_of p.endpoint) due) ≡ Some g → IsOwn p q g
own-new p q None goes g e = absurd (cc)
own-new p q (Some due) goes g e = subst (IsOwn p q) (some-is e) (own-due p q due goes)

pub sound-kept : PairKept (λ _ _. Unit {0}) IsSoundPair (λ _ _ _ _. Unit {0})
sound-kept = record {
  swapped = pair-swapped;
  calls = λ p q pair _. nothing-kept (address_of q) p;
  arrives = λ p q g v _ pair comes _. tt;
  has_pending = λ p q ack reset pair _. tt;
  moved = λ p p' q pair moved out _ _. pair-from-move p p' q moved (record { new = _; sent = out.sent; own = own-new p q out.due out.goes }) pair;
}

-- any event leaves both ends sound
pub ends-after : (w : WorldState) (event : EventContent) → w.life ≤ max_life → HasBytes event → refusal_of w event ≡ None → AreSoundEnds w
    → AreSoundEnds (world_with_effect w event)
ends-after w event most fits e h = in-world _ _ _ sound-kept w event most fits e tt tt h h

-- the lifetime stays
life-from : (life : ℕ) (side : Side) (p q : PartyState) → (world_from life side p q).life ≡ life
life-from life A p q = refl
life-from life B p q = refl

-- and the lifetime of segments as it is
pub life-after : (w : WorldState) (event : EventContent) → (world_with_effect w event).life ≡ w.life
life-after w event = life-from w.life (side_of event) _ _

-- DAMAGE that isn't refused is found, and changes nothing
record IsFound (p q : PartyState) (effect : Effect) : Type 0 where
  outcome : effect.outcome ≡ outcomes.Arrived (Malformed BadChecksum)
  here : effect.here ≡ p
  there : effect.there ≡ q

damage-is_found : (life : ℕ) (p q : PartyState) (event : EventContent) → IsDamage event → HasBytes event → (effect_of life p q event).refusal ≡ None
    → IsSoundPair p q → IsFound p q (effect_of life p q event)
unfolding effect_of
damage-is_found life p q (Damage from k place value) is fits e h =
    let found = finds-damage q p life k place value fits e (pair-swapped _ _ h) in
    record { outcome = found.answer; here = refl; there = found.same }
damage-is_found life p q other is fits e h = absurd is

damage-from : (w : WorldState) (side : Side) (event : EventContent) → IsDamage event → HasBytes event
    → (effect_of w.life (party_of w side) (party_of w (other side)) event).refusal ≡ None → AreSoundEnds w
    → ((effect_of w.life (party_of w side) (party_of w (other side)) event).outcome ≡ outcomes.Arrived (Malformed BadChecksum))
    × (world_from w.life side (effect_of w.life (party_of w side) (party_of w (other side)) event).here
    (effect_of w.life (party_of w side) (party_of w (other side)) event).there ≡ w)
damage-from w A event is fits e h =
    let found = damage-is_found w.life w.a w.b event is fits e h in
    (found.outcome, ap (λ (p : PartyState). both w.life p (effect_of w.life w.a w.b event).there) found.here ∙ ap (both w.life w.a) found.there)
damage-from w B event is fits e h =
    let found = damage-is_found w.life w.b w.a event is fits e (pair-swapped _ _ h) in (
      found.outcome,
      ap (λ (p : PartyState). both w.life (effect_of w.life w.b w.a event).there p) found.here ∙ ap
          (λ (q : PartyState). both w.life q w.b) found.there,
    )

-- a damaged segment that is delivered is found, and changes nothing
pub damage-refused : (w : WorldState) (event : EventContent) → IsDamage event → HasBytes event → refusal_of w event ≡ None → AreSoundEnds w
    → (outcome_of w event ≡ outcomes.Arrived (Malformed BadChecksum)) × (world_with_effect w event ≡ w)
damage-refused w event is fits e h = damage-from w (side_of event) event is fits e h

-- SOUND ENDS ARE SAFE
released-ordered : (snd_una released whole ordered : ℕ) (finished : Bool) → released ≡ min (snd_una - 1) whole → snd_una ≤ 1 + ordered + one_if finished
    → (finished ≡ true → ordered ≡ whole) → released ≤ ordered
released-ordered snd_una released whole ordered true is had fin = omega (arith, fin refl)
released-ordered snd_una released whole ordered false is had fin = omega arith

safe-direction : (x y : PartyState) → IsSoundEnd x y → IsSoundEnd y x → IsSafeDirection x y
safe-direction x y h h' =
    let takes = h'.takes in
    let delivers = h'.delivers in
    let sends = h.alone.sends in
    let r = y.endpoint.receiving in
    let front : y.delivered ++ r.inbox.unread ≡ take delivers.count x.accepted = delivers.delivery in
    let fin : r.finished ≡ true → r.ordered ≡ length x.accepted = λ e. (takes.fin e).1 in
    record {
      delivery = (drop delivers.count x.accepted, sym (take-append-drop delivers.count x.accepted) ∙ ap (λ xs. xs ++ drop delivers.count x.accepted) (sym front));
      whole = λ goes. omega (arith, ap length front, length-take delivers.count x.accepted, delivers.whole goes, takes.order);
      ended = delivers.all_delivered;
      released = released-ordered x.endpoint.sending.snd_una x.endpoint.sending.released (length x.accepted) r.ordered r.finished sends.released h.between fin;
      ordered = takes.order;
      queued = sends.queue;
    }

emits-truth : (x y : PartyState) → AreOwn x y → EmitsTruth x y
emits-truth x y told k g e =
    let own = told k g e in
    (own.content, own-decodes x y g own, λ plain. (own.truthful plain).truth, own.truthful)

-- two sound ends are safe
pub safe-ends : (w : WorldState) → AreSoundEnds w → IsSafe w
safe-ends w h = record {
  there = safe-direction w.a w.b h.there h.back;
  back = safe-direction w.b w.a h.back h.there;
  emitted_there = emits-truth w.a w.b h.own_there;
  emitted_back = emits-truth w.b w.a h.own_back;
}

-- TWO NEW ENDS are sound
new-end : (a b : Config) (runs_a runs_b : ℕ) → IsConfig a → IsSoundEnd (party_with_runs a runs_a) (party_with_runs b runs_b)
new-end a b runs_a runs_b one = record {
  alone = alone-new a runs_a one;
  speaks = record { peer = λ never. absurd (cc); reset = tt };
  takes =
      record {
        next = λ never. absurd (cc);
        unopened = λ _. (refl, refl, refl);
        order = omega arith;
        fin = λ never. absurd (cc);
        held = empty_inbox-agrees a.recv_capacity [];
      };
  delivers = record { count = 0; delivery = refl; least = omega arith; whole = λ _. refl; all_delivered = λ never. absurd (cc) };
  between = omega arith;
  limit = omega arith;
}

-- two new ends are sound
pub ends-new : (life : ℕ) (a b : Config) (runs_a runs_b : ℕ) → IsConfig a → IsConfig b → AreSoundEnds (world_with_runs life a b runs_a runs_b)
ends-new life a b runs_a runs_b one two = record {
  there = new-end a b runs_a runs_b one;
  back = new-end b a runs_b runs_a two;
  own_there = λ k g none. absurd (cc);
  own_back = λ k g none. absurd (cc);
}

-- ANY RUN keeps what each event that isn't refused keeps
abbrev pub IsKeptByEvents : (WorldState → Type 0) → Type 0
IsKeptByEvents P = (w : WorldState) (event : EventContent) → HasBytes event → refusal_of w event ≡ None → P w → P (world_with_effect w event)

module _ (P : WorldState → Type 0) (keeps : IsKeptByEvents P) where
  stays-or-goes : (refusal : Option StepError) (here there : WorldState) → P here → (refusal ≡ None → P there) → P (stay_or refusal here there)
  stays-or-goes None here there h next = next refl
  stays-or-goes (Some error) here there h next = h

  -- P holds after an event, refused or not
  pub kept-after : (w : WorldState) (event : EventContent) → HasBytes event → P w → P (world_after w event)
  kept-after w event fits h = stays-or-goes (refusal_of w event) w (world_with_effect w event) h (λ e. keeps w event fits e h)

  -- after a run, as far as it goes
  pub kept-run : (w : WorldState) (list : List EventContent) → AllByRecursion HasBytes list → P w → P (run_of w list)
  unfolding run_of
  kept-run w [] fits h = h
  kept-run w (event ∷ list) fits h =
      stays-or-goes (refusal_of w event) w (run_of (world_with_effect w event) list) h
      (λ e. kept-run (world_with_effect w event) list fits.1 (keeps w event fits.0 e h))

  -- and after a list of events, refused ones left out
  pub kept-after_all : (w : WorldState) (list : List EventContent) → AllByRecursion HasBytes list → P w → P (world_after_all w list)
  unfolding world_after_all
  kept-after_all w [] fits h = h
  kept-after_all w (event ∷ list) fits h = kept-after_all (world_after w event) list fits.1 (kept-after w event fits.0 h)

-- so is a new world
pub sound-new : (life : ℕ) (a b : Config) (runs_a runs_b : ℕ) → life ≤ max_life → IsConfig a → IsConfig b
    → IsSound (world_with_runs life a b runs_a runs_b)
sound-new life a b runs_a runs_b most one two =
    record { ends = ends-new life a b runs_a runs_b one two; hints = hints-new a b runs_a runs_b; life = most }

-- and a world after any event
pub sound-after : (w : WorldState) (event : EventContent) → HasBytes event → refusal_of w event ≡ None → IsSound w → IsSound (world_with_effect w event)
sound-after w event fits e h = record {
  ends = ends-after w event h.life fits e h.ends;
  hints = hints-after w event h.life fits e h.ends h.hints;
  life = omega (arith, life-after w event, h.life);
}

-- a sound world is safe,
pub safe-sound : (w : WorldState) → IsSound w → IsSafe w
safe-sound w h = safe-ends w h.ends

-- and its blocks and marks are true
pub hints-sound : (w : WorldState) → IsSound w → HintsAreTrue w
hints-sound w h = hints-true w h.hints

pub damage-sound : (w : WorldState) → IsSound w → FindsDamage w
damage-sound w h event is fits e = damage-refused w event is fits e h.ends

-- EVERY RUN IS SAFE, whatever events happen, in whatever order
pub every_run_with_runs_lem : EveryRunIsSafeWithRuns
every_run_with_runs_lem life a b runs_a runs_b list most one two fits =
    let start = sound-new life a b runs_a runs_b most one two in
    let stops = kept-run IsSound sound-after (world_with_runs life a b runs_a runs_b) list fits start in
    let goes_on = kept-after_all IsSound sound-after (world_with_runs life a b runs_a runs_b) list fits start in
    (safe-sound _ stops, safe-sound _ goes_on, hints-sound _ stops, hints-sound _ goes_on, damage-sound _ stops, damage-sound _ goes_on)

pub every_run_is_safe_lem : EveryRunIsSafe
every_run_is_safe_lem life a b list most one two fits = every_run_with_runs_lem life a b default_runs default_runs list most one two fits

-- ONE STEP of the code: what it did if it answered Ok, and nothing if it didn't
pub sound_step : (r : Result Outcome StepError) (w new : WorldState) (event : EventContent) → IsSound w → OnOk r (new ≡ world_with_effect w event)
    → OnOk r (HasBytes event)
    → IfSome (refusal_of w event) (λ e. r ≡ Err e) → OnErr r (new ≡ w) → IsSound new
sound_step (Ok o) w new event sound state bytes refused kept =
    subst (λ (w : WorldState). IsSound w) (sym state) (sound-after w event bytes (not-refused (refusal_of w event) o refused) sound)
sound_step (Err e) w new event sound state bytes refused kept = subst (λ (w : WorldState). IsSound w) (sym kept) sound

-- what a step answers to damage, where it finds memory
pub damage_step : (r : Result Outcome StepError) (w new : WorldState) (event : EventContent) → IsSound w → OnOk r (new ≡ world_with_effect w event)
    → IfOk r (λ o. o ≡ outcome_of w event) → OnOk r (HasBytes event)
    → IfSome (refusal_of w event) (λ e. r ≡ Err e) → IsDamage event → IfOk r (λ o. (o ≡ Arrived (Malformed BadChecksum)) × (new ≡ w))
damage_step (Ok o) w new event sound state outcome bytes refused is =
    let told = damage-refused w event is bytes (not-refused (refusal_of w event) o refused) sound.ends in
    (outcome ∙ told.0, state ∙ told.1)
damage_step (Err e) w new event sound state outcome bytes refused is = tt

-- NOTHING IS OLD at an end whose positions stay below the lifetime
age-none : (life : ℕ) (s : State) (g : SentSegment) → rcv_position s.receiving < life → s.sending.snd_una < life → is_expired life s g ≡ true → ⊥
age-none life s g next snd_una e =
    let old = and_parts (not (has rst (flags_in g.bytes))) (is_late life s g || acks_late life s g) e in
    ⊎_elim (λ (late : is_late life s g ≡ true). let behind : g.position + life ≤ rcv_position s.receiving = leb-true (g.position + life)
    (rcv_position s.receiving) late in absurd (omega (arith, behind, next)))
    (λ (late : acks_late life s g ≡ true).
    let behind : g.wanted + life ≤ s.sending.snd_una = leb-true (g.wanted + life) s.sending.snd_una
    (and_parts (has ack (flags_in g.bytes)) (nat_le (g.wanted + life) s.sending.snd_una) late).1 in
    absurd (omega (arith, behind, snd_una)))
    (or_cases (is_late life s g) (acks_late life s g) old.1)

age-not_expired : (life : ℕ) (s : State) (g : SentSegment) → rcv_position s.receiving < life → s.sending.snd_una < life → age_refusal life s g ≡ Some Expired → ⊥
age-not_expired life s g next snd_una =
    cond_both (is_expired life s g) (Some Expired) None (λ r. r ≡ Some Expired → ⊥) (λ old _. age-none life s g next snd_una old) (λ _ e. absurd (cc))

-- the positions of an end lie within what both ends accepted
record StaysBelow (life : ℕ) (s : State) : Type 0 where
  next : rcv_position s.receiving < life
  snd_una : s.sending.snd_una < life

stays-below : (life : ℕ) (p q : PartyState) → length p.accepted + 2 < life → length q.accepted + 2 < life → IsSoundPair p q → StaysBelow life q.endpoint
stays-below life p q short short' h = record {
  next = omega (arith, rcv_position-is q p (pair-swapped p q h), h.back.takes.order, one_if-most q.endpoint.receiving.finished, short);
  snd_una = omega (arith, h.back.between, h.there.takes.order, one_if-most p.endpoint.receiving.finished, short');
}

below-from_side : (w : WorldState) (side : Side) → IsSound w → KeepsAllSegments w → StaysBelow w.life (party_of w (other side)).endpoint
below-from_side w A h keeps =
    stays-below w.life w.a w.b (omega (arith, h.ends.there.limit, keeps.limit_of_a, keeps.life))
    (omega (arith, h.ends.back.limit, keeps.limit_of_b, keeps.life)) h.ends
below-from_side w B h keeps =
    stays-below w.life w.b w.a (omega (arith, h.ends.back.limit, keeps.limit_of_b, keeps.life))
    (omega (arith, h.ends.there.limit, keeps.limit_of_a, keeps.life)) (pair-swapped w.a w.b h.ends)

not-expired : (w : WorldState) (event : EventContent) → IsSound w → KeepsAllSegments w → refusal_of w event ≡ Some Expired → ⊥
not-expired w event h keeps =
    let q = party_of w (other (side_of event)) in
    let below = below-from_side w (side_of event) h keeps in
    refusal-cases (λ r. r ≡ Some Expired → ⊥) (λ e. absurd (cc)) (λ e. absurd (cc)) (λ e. absurd (cc)) (λ e. absurd (cc)) w.life (party_of w (side_of event)) q
    event (λ g. age-not_expired w.life q.endpoint g below.next below.snd_una)

-- WHAT THE ENDS WERE MADE FROM stays, and its limits
abbrev HaveLimits : PartyState → PartyState → Type 0
HaveLimits x y = (x.endpoint.config.limit ≤ default_limit) × (y.endpoint.config.limit ≤ default_limit)

limits-kept : PairKept (λ _ _. Unit {0}) HaveLimits (λ _ _ _ _. Unit {0})
limits-kept = record {
  swapped = λ p q h. (h.1, h.0);
  calls = λ p q _ _. nothing-kept (address_of q) p;
  arrives = λ p q g v _ _ _ _. tt;
  has_pending = λ p q ack reset _ _. tt;
  moved = λ p p' q _ moved _ _ h. (omega (arith, ap (λ (c : Config). c.limit) moved.config, h.0), h.1);
}

keeps-after : (w : WorldState) (event : EventContent) → HasBytes event → refusal_of w event ≡ None → IsSound w → KeepsAllSegments w
    → KeepsAllSegments (world_with_effect w event)
keeps-after w event fits e h keeps =
    let limits = in-world _ _ _ limits-kept w event h.life fits e tt tt h.ends (keeps.limit_of_a, keeps.limit_of_b) in
    record { life = life-after w event ∙ keeps.life; limit_of_a = limits.0; limit_of_b = limits.1 }

-- ONE STEP of the code
refused-expired : (r : Result Outcome StepError) (refused : Option StepError) (Q : Type 0) → r ≡ Err Expired → IfSome refused (λ e. r ≡ Err e)
    → IfNone refused (IfErr r (λ e. (e ≡ NoMemory) × Q)) → refused ≡ Some Expired
refused-expired (Ok o) refused Q e h m = absurd (cc)
refused-expired (Err error) None Q e h m = let never : error ≡ NoMemory = m.0 in absurd (cc)
refused-expired (Err error) (Some other) Q e h m = cc

-- a step of a world that keeps all segments never answers Expired
pub unexpired_step : (r : Result Outcome StepError) (w : WorldState) (event : EventContent) → IsSound w → KeepsAllSegments w
    → IfSome (refusal_of w event) (λ e. r ≡ Err e)
    → IfNone (refusal_of w event) (IfErr r (λ e. (e ≡ NoMemory) × (grows_for w event ≡ true))) → r ≡ Err Expired → ⊥
unexpired_step r w event sound keeps refused memory e =
    not-expired w event sound keeps (refused-expired r (refusal_of w event) (grows_for w event ≡ true) e refused memory)

-- and the world after it keeps them still
pub keeps_step : (r : Result Outcome StepError) (w new : WorldState) (event : EventContent) → IsSound w → OnOk r (new ≡ world_with_effect w event)
    → OnOk r (HasBytes event)
    → IfSome (refusal_of w event) (λ e. r ≡ Err e) → OnErr r (new ≡ w) → KeepsAllSegments w → KeepsAllSegments new
keeps_step (Ok o) w new event sound state bytes refused kept keeps =
    subst (λ (w : WorldState). KeepsAllSegments w) (sym state) (keeps-after w event bytes (not-refused (refusal_of w event) o refused) sound keeps)
keeps_step (Err e) w new event sound state bytes refused kept keeps = subst (λ (w : WorldState). KeepsAllSegments w) (sym kept) keeps
