-- A run, taken event by event.
use Rattle.tcp_replay.proofs.Words.{◌++◌, ◌+◌, ◌<◌, ◌==◌, [], add-one, age_refusal, AllByRecursion, ap, arith, cond_both, Damage, Deliver}
use Rattle.tcp_replay.proofs.Words.{drop, drop_more, effect_of, Err, EventContent, Expired, get_or, get_or-map, grows_for, IfNone, IfSome}
use Rattle.tcp_replay.proofs.Words.{if◌then◌else◌, is_expired, is_missing, later, length, length-map, length-take-le, List, map, nat_le, NoChange, NoMemory}
use Rattle.tcp_replay.proofs.Words.{None, NoSuchSegment, Ok, Option, other, Outcome, party_of, PartyState, PlaceOutside, refl, refusal_of, Result, run_of}
use Rattle.tcp_replay.proofs.Words.{segment_at, sent_at, SentSegment, side_of, slice_get-get_or, Some, State, stay_or, StepError, stop_of, stop_or}
use Rattle.tcp_replay.proofs.Words.{StopsForMemory, subst, sym, take, take-append-drop, take_more, true, world_with_effect, WorldState, ℕ, ◌∙◌, ◌∷◌, ◌≡◌}

-- where nothing was refused, the first event wasn't, nor any of the rest
record GoesThrough (refused : Option StepError) (rest : Option (ℕ × StepError)) : Type 0 where
  first : refused ≡ None
  others : rest ≡ None

goes-through : (refused : Option StepError) (rest : Option (ℕ × StepError)) → stop_or refused rest ≡ None → GoesThrough refused rest
goes-through None None e = record { first = refl; others = refl }
goes-through None (Some stop) e = absurd (cc)
goes-through (Some error) rest e = absurd (cc)

-- the run goes on by one event
pub record GoesOn (w : WorldState) (list : List EventContent) (next : WorldState) : Type 0 where
  pub stop : stop_of w list ≡ None
  pub end : run_of w list ≡ next

run-more : (w : WorldState) (list : List EventContent) (event : EventContent) → stop_of w list ≡ None → refusal_of (run_of w list) event ≡ None
    → GoesOn w (list ++ event ∷ []) (world_with_effect (run_of w list) event)
unfolding stop_of run_of
run-more w [] event e f = record { stop = ap (λ r. stop_or r None) f; end = ap (λ r. stay_or r w (world_with_effect w event)) f }
run-more w (first ∷ list) event e f =
    let both = goes-through (refusal_of w first) (stop_of (world_with_effect w first) list) e in
    let here : stay_or (refusal_of w first) w (run_of (world_with_effect w first) list) ≡ run_of (world_with_effect w first) list = ap
    (λ r. stay_or r w (run_of (world_with_effect w first) list)) both.first in
    let more = run-more (world_with_effect w first) list event both.others (ap (λ v. refusal_of v event) (sym here) ∙ f) in
    record {
      stop = ap (λ r. stop_or r (stop_of (world_with_effect w first) (list ++ event ∷ []))) both.first ∙ ap later more.stop;
      end = ap (λ r. stay_or r w (run_of (world_with_effect w first) (list ++ event ∷ []))) both.first ∙ more.end ∙ ap (λ v. world_with_effect v event)
          (sym here);
    }

-- the run stops at one
pub record Stops (w : WorldState) (list : List EventContent) (index : ℕ) (error : StepError) (end : WorldState) : Type 0 where
  pub stop : stop_of w list ≡ Some (index, error)
  pub stays : run_of w list ≡ end

run-stop : (w : WorldState) (list rest : List EventContent) (event : EventContent) (error : StepError) → stop_of w list ≡ None
    → refusal_of (run_of w list) event ≡ Some error
    → Stops w (list ++ event ∷ rest) (length list) error (run_of w list)
unfolding stop_of run_of
run-stop w [] rest event error e f =
    record {
      stop = ap (λ r. stop_or r (stop_of (world_with_effect w event) rest)) f;
      stays = ap
          (λ r. stay_or r w (run_of (world_with_effect w event) rest)) f;
    }
run-stop w (first ∷ list) rest event error e f =
    let both = goes-through (refusal_of w first) (stop_of (world_with_effect w first) list) e in
    let here : stay_or (refusal_of w first) w (run_of (world_with_effect w first) list) ≡ run_of (world_with_effect w first) list = ap
    (λ r. stay_or r w (run_of (world_with_effect w first) list)) both.first in
    let more = run-stop (world_with_effect w first) list rest event error both.others (ap (λ v. refusal_of v event) (sym here) ∙ f) in
    record {
      stop = ap (λ r. stop_or r (stop_of (world_with_effect w first) (list ++ event ∷ rest))) both.first ∙ ap later more.stop;
      stays = ap (λ r. stay_or r w (run_of (world_with_effect w first) (list ++ event ∷ rest))) both.first ∙ more.stays ∙ sym here;
    }

-- THE REFUSAL OF AN EVENT: none, one of a delivery, or that of a segment's age
pub refusal-cases : (P : Option StepError → Type 0) → P None → P (Some NoSuchSegment) → P (Some NoChange) → P (Some PlaceOutside) → (life : ℕ)
    (p q : PartyState) (event : EventContent) → ((g : SentSegment) → P (age_refusal life q.endpoint g)) → P (effect_of life p q event).refusal
unfolding effect_of
refusal-cases P none missing same outside life p q (Deliver from k) age =
    cond_both (is_missing p k) (Some NoSuchSegment) (age_refusal life q.endpoint (sent_at p k)) P (λ _. missing) (λ _. age (sent_at p k))
refusal-cases P none missing same outside life p q (Damage from k place value) age =
    let old = age_refusal life q.endpoint (sent_at p k) in
    let inside = if nat_le (length (segment_at p k)) place then Some PlaceOutside else old in
    cond_both (is_missing p k) (Some NoSuchSegment) (if value == 0 then Some NoChange else inside) P (λ _. missing)
    (λ _. cond_both (value == 0) (Some NoChange) inside P (λ _. same)
    (λ _. cond_both (nat_le (length (segment_at p k)) place) (Some PlaceOutside) old P (λ _. outside) (λ _. age (sent_at p k))))
refusal-cases P none missing same outside life p q another age = none

-- want of memory is no reason of the definitions
age-not_memory : (life : ℕ) (s : State) (g : SentSegment) → age_refusal life s g ≡ Some NoMemory → ⊥
age-not_memory life s g = cond_both (is_expired life s g) (Some Expired) None (λ r. r ≡ Some NoMemory → ⊥) (λ _ e. absurd (cc)) (λ _ e. absurd (cc))

refusal-not_memory : (w : WorldState) (event : EventContent) → refusal_of w event ≡ Some NoMemory → ⊥
refusal-not_memory w event =
    refusal-cases (λ r. r ≡ Some NoMemory → ⊥) (λ e. absurd (cc)) (λ e. absurd (cc)) (λ e. absurd (cc)) (λ e. absurd (cc)) w.life (party_of w (side_of event))
    (party_of w (other (side_of event))) event (age-not_memory w.life (party_of w (other (side_of event))).endpoint)

-- what a step answers, with its type
abbrev pub answered : Outcome → Result Outcome StepError
answered o = Ok o

-- what a step answers that is refused
abbrev pub refused_by : StepError → Result Outcome StepError
refused_by e = Err e

-- where a run stopped, and why
abbrev pub stopped : ℕ → StepError → Option (ℕ × StepError)
stopped k e = Some (k, e)

-- what a step's clauses tell of the definitions' refusal
pub not-refused : (refused : Option StepError) (o : Outcome) → IfSome refused (λ e. answered o ≡ Err e) → refused ≡ None
not-refused None o h = refl
not-refused (Some e) o h = absurd (cc)

is-refused : (refused : Option StepError) (error : StepError) (Q : Type 0) → IfSome refused (λ e. refused_by error ≡ Err e)
    → IfNone refused ((error ≡ NoMemory) × Q) → (error ≡ NoMemory → ⊥) → refused ≡ Some error
is-refused None error Q h m other = absurd (other m.0)
is-refused (Some e) error Q h m other = cc

is-memory : (refused : Option StepError) (error : StepError) → IfSome refused (λ e. refused_by error ≡ Err e) → error ≡ NoMemory
    → (refused ≡ Some NoMemory → ⊥) → refused ≡ None
is-memory None error h e never = refl
is-memory (Some e) error h is never = absurd (never (cc))

-- the events up to one, that one, and the rest
split-at : (list : List EventContent) (i : ℕ) (event : EventContent) → i < length list → event ≡ get_or list i event
    → take i list ++ event ∷ drop (i + 1) list ≡ list
split-at list i event inside is =
    ap (λ rest. take i list ++ rest) (ap (λ e. e ∷ drop (i + 1) list) is ∙ sym (drop_more list i event inside)) ∙ take-append-drop i list

-- the events up to the next one
pub next-front : {X : Type 0} (list : List X) (i : ℕ) (event : X) → i < length list → event ≡ get_or list i event
    → take i list ++ event ∷ [] ≡ take (i + 1) list
next-front list i event inside is = ap (λ e. take i list ++ e ∷ []) is ∙ sym (take_more list i event inside)

-- something holds of each event so far, taken in turn
all-last : {X : Type 0} (P : X → Type 0) (list : List X) (e : X) → AllByRecursion P list → P e → AllByRecursion P (list ++ e ∷ [])
all-last P [] e all fits = (fits, tt)
all-last P (first ∷ list) e all fits = (all.0, all-last P list e all.1 fits)

-- what holds of all events so far and of the next holds of one more
pub all-go_on : {X : Type 0} (P : X → Type 0) (list : List X) (i : ℕ) (e : X) → i < length list → e ≡ get_or list i e → AllByRecursion P (take i list) → P e
    → AllByRecursion P (take (i + 1) list)
all-go_on P list i e inside is all fits = subst (AllByRecursion P) (next-front list i e inside is) (all-last P (take i list) e all fits)

-- a run as far as an event, in the code's words
pub record RunsTo (w here : WorldState) (list : List EventContent) (i : ℕ) : Type 0 where
  pub going : stop_of w (take i list) ≡ None
  pub now : here ≡ run_of w (take i list)

-- a run that a refusal stops is that of the definition
pub run_refused : (w here new : WorldState) (list : List EventContent) (i : ℕ) (event : EventContent) (error : StepError) (Q : Type 0) → i < length list
    → event ≡ get_or list i event
    → RunsTo w here list i → IfSome (refusal_of here event) (λ e. refused_by error ≡ Err e) → IfNone (refusal_of here event) ((error ≡ NoMemory) × Q)
    → new ≡ here
    → (error ≡ NoMemory → ⊥) → (stop_of w list ≡ Some (i, error)) × (new ≡ run_of w list)
run_refused w here new list i event error Q inside is so_far h m same other =
    let refused : refusal_of (run_of w (take i list)) event ≡ Some error = ap (λ v. refusal_of v event) (sym so_far.now) ∙ is-refused
    (refusal_of here event) error Q h m other in
    let stops = run-stop w (take i list) (drop (i + 1) list) event error so_far.going refused in
    let whole = split-at list i event inside is in
    let count : length (take i list) ≡ i = length-take-le i list (omega arith) in (
      ap (λ all. stop_of w all) (sym whole) ∙ stops.stop ∙ ap (λ k. stopped k error) count,
      same ∙ so_far.now ∙ sym stops.stays ∙ ap (λ all. run_of w all) whole,
    )

grows-if : (refusal : Option StepError) (error : StepError) (Q : Type 0) → refusal ≡ None → IfNone refusal ((error ≡ NoMemory) × Q) → Q
grows-if None error Q e m = m.1
grows-if (Some other) error Q e m = absurd (cc)

-- a run that finds no memory stops there
pub run_out_of_memory : (w here new : WorldState) (list : List EventContent) (i : ℕ) (event : EventContent) (error : StepError) → i < length list
    → event ≡ get_or list i event
    → RunsTo w here list i → IfSome (refusal_of here event) (λ e. refused_by error ≡ Err e)
    → IfNone (refusal_of here event) ((error ≡ NoMemory) × (grows_for here event ≡ true)) → new ≡ here
    → error ≡ NoMemory → StopsForMemory w list i new
run_out_of_memory w here new list i event error inside is so_far h m same memory =
    let none : refusal_of here event ≡ None = is-memory (refusal_of here event) error h memory (refusal-not_memory here event) in
    let fine : refusal_of (run_of w (take i list)) event ≡ None = ap (λ v. refusal_of v event) (sym so_far.now) ∙ none in
    let more = run-more w (take i list) event so_far.going fine in
    record {
      event = event;
      event_is = slice_get-get_or list i event inside ∙ ap Some (sym is);
      going = ap (λ n. stop_of w (take n list)) (sym (add-one i)) ∙ ap (λ all. stop_of w all) (sym (next-front list i event inside is)) ∙ more.stop;
      grows = ap (λ v. grows_for v event) same ∙ grows-if (refusal_of here event) error (grows_for here event ≡ true) none m;
      stays = same ∙ so_far.now;
    }

-- a run goes on by one event
pub run_goes_on : (w here new : WorldState) (list : List EventContent) (i : ℕ) (event : EventContent) (o : Outcome) → i < length list
    → event ≡ get_or list i event
    → RunsTo w here list i → IfSome (refusal_of here event) (λ e. answered o ≡ Err e) → new ≡ world_with_effect here event → RunsTo w new list (i + 1)
run_goes_on w here new list i event o inside is so_far h state =
    let fine : refusal_of (run_of w (take i list)) event ≡ None = ap (λ v. refusal_of v event) (sym so_far.now) ∙ not-refused (refusal_of here event) o h in
    let more = run-more w (take i list) event so_far.going fine in
    record {
      going = ap (λ all. stop_of w all) (sym (next-front list i event inside is)) ∙ more.stop;
      now = state ∙ ap (λ v. world_with_effect v event) so_far.now ∙ sym more.end ∙ ap (λ all. run_of w all) (next-front list i event inside is);
    }

-- a run of no events is where it began
pub run_begins : (w : WorldState) (list : List EventContent) → RunsTo w w list 0
unfolding stop_of run_of
run_begins w list = record { going = refl; now = refl }

-- the content of an event of the code's list, by its index
pub content_at : {X Y : Type 0} (content : X → Y) (list : List X) (i : ℕ) (event : X) → i < length list → event ≡ get_or list i event
    → content event ≡ get_or (map content list) i (content event)
content_at content list i event inside is = ap content is ∙ sym (get_or-map content list i event (content event) inside)

-- an index of a list is one of the list of its contents
pub content_inside : {X Y : Type 0} (content : X → Y) (list : List X) (i : ℕ) → i < length list → i < length (map content list)
content_inside content list i inside = simp length-map inside
