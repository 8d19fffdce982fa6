-- A LOG whose segments are each of form and the user's is clean.
use Rattle.std.proofs.Common.{◌≡◌, ℕ, suc, ◌+◌, ◌^◌, ◌<◌, List, [], ◌∷◌, ◌++◌, length, refl, sym, ◌∙◌, ap, subst, append-nil, append_assoc}
use Rattle.std.specs.Prelude.{Bool, false, if◌then◌else◌, Option, Some, None, option_to_list, Result, Ok, Err, slice_get}
use Rattle.std.specs.List.{AllByRecursion}
use Rattle.std.proofs.lemmas.Bool.{cond_both}
use Rattle.tcp_wire.specs.Decoded.{decode_answer}
use Rattle.tcp_wire.specs.Flags.{rst, has}
use Rattle.tcp_wire.specs.Wire.{Content}
use Rattle.tcp_wire.specs.declared.fault.DecodeError.{DecodeError}
use Rattle.tcp_halves.specs.declared.config.Config.{Config}
use Rattle.tcp_halves.specs.Config.{IsConfig}
use Rattle.tcp_replay.specs.Solo.{SoloState, solo_with_runs, solo_run, alone_with_runs, after_solo, segment_alone, segment_due}
use Rattle.tcp_replay.specs.SoloEvents.{SoloContent, HasRanges, Emit, EmitAcknowledgement, Arrive}
use Rattle.tcp_replay.specs.Truthful.{IsOfUser}
use Rattle.tcp_replay.proofs.one_end.SoloRuns.{one_end_is_true_lem, content-is}
use Rattle.tcp_replay.proofs.Lists.{by_test}
use Rattle.tcp_judge.specs.Heard.{is_elsewhere, after_came}
use Rattle.tcp_judge.specs.Known.{Known, nothing_known, known_with}
use Rattle.tcp_judge.specs.Log.{PassageContent, Came, Went, went_from, log_of, log_with_runs}
use Rattle.tcp_judge.specs.Judgement.{finding_read, known_read, known_came, first_finding, placed_or, IsClean}
use Rattle.tcp_judge.specs.Known.{place_of}
use Rattle.tcp_judge.specs.Rules.{form_finding, heard_finding, order_finding, finding_of}
use Rattle.tcp_judge.specs.Taken.{taken_of}
use Rattle.tcp_judge.specs.Law.{heard_read, heard_went, IsSaidRight, AllSaidRight}
use Rattle.tcp_judge.proofs.Runs.{said-right}
use Rattle.tcp_judge.proofs.Streams.{IsKnown, nothing-known, keeps-positions, known-kept, came-kept}
use Rattle.tcp_judge.proofs.Users.{AllWent, IsUsers}
use Rattle.tcp_judge.proofs.Ordered.{IsInOrder, AllInOrder, in-order}

module _ (isn : ℕ) (accepted : List ℕ) (closed : Bool) (small : isn < 2 ^ 32) (short : 2 + length accepted < 2 ^ 31) where
  -- ONE SEGMENT
  keeps-rules : (k : Known) (v : Content) → IsKnown isn accepted k → form_finding v ≡ None → heard_finding k.heard v ≡ None
      → order_finding k (place_of k v) v ≡ None → (has rst v.flags ≡ false → IsOfUser isn accepted closed v)
      → finding_of k v ≡ None
  keeps-rules k v h form right order user = rw (form, keeps-positions isn accepted closed small short k v h user, right) order

  record IsPast (k : Known) (r : Result Content DecodeError) : Type 0 where
    finding : finding_read k r ≡ None
    known : IsKnown isn accepted (known_read k r)

  past-segment : (k : Known) (src dst bytes : List ℕ) → IsKnown isn accepted k → IsSaidRight k.heard src dst bytes → IsInOrder k (decode_answer src dst bytes)
      → IsUsers isn accepted closed src dst bytes → IsPast k (decode_answer src dst bytes)
  past-segment k src dst bytes h formed ordered users =
      let v = users.0 in
      let same : formed.0 ≡ v = content-is (sym formed.1 ∙ users.1) in
      let form : form_finding v ≡ None = ap form_finding (sym same) ∙ formed.2 in
      let right : heard_finding k.heard v ≡ None = ap (heard_finding k.heard) (sym same) ∙ formed.3 in
      let order : order_finding k (place_of k v) v ≡ None = subst (IsInOrder k) users.1 ordered in
      subst (IsPast k) (sym users.1)
      (record { finding = keeps-rules k v h form right order users.2; known = known-kept isn accepted closed small short k v h users.2 })

  -- what came leaves what is known of the stream
  came-known : (k : Known) (taken : Option Content) → IsKnown isn accepted k → IsKnown isn accepted (known_came k taken)
  came-known k (Some v) h =
      cond_both (is_elsewhere k.heard.ports v) k (known_with k v) (IsKnown isn accepted) (λ _. h) (λ _. came-kept isn accepted closed small short k v h)
  came-known k None h = h

  came-heard : (k : Known) (taken : Option Content) (log : List PassageContent) → AllSaidRight (heard_read k.heard taken) log
      → AllSaidRight (known_came k taken).heard log
  came-heard k (Some v) log h =
      by_test (is_elsewhere k.heard.ports v)
      (λ b. AllSaidRight (if b then k.heard else after_came k.heard v) log → AllSaidRight (if b then k else known_with k v).heard log) (λ _ said. said)
      (λ _ said. said) h
  came-heard k None log h = h

  went-heard : (k : Known) (r : Result Content DecodeError) (log : List PassageContent) → AllSaidRight (heard_went k.heard r) log
      → AllSaidRight (known_read k r).heard log
  went-heard k (Ok v) log h = h
  went-heard k (Err fault) log h = h

  -- ALL SEGMENTS
  clean-log : (log : List PassageContent) (k : Known) (place : ℕ) → IsKnown isn accepted k → AllSaidRight k.heard log
      → AllInOrder k log → AllWent (IsUsers isn accepted closed) log → first_finding k place log ≡ None
  clean-log [] k place h said ordered users = refl
  clean-log (Came src dst bytes ∷ log) k place h said ordered users =
      let taken = taken_of src dst bytes in
      clean-log log (known_came k taken) (suc place) (came-known k taken h) (came-heard k taken log said) ordered users
  clean-log (Went src dst bytes ∷ log) k place h said ordered users =
      let r = decode_answer src dst bytes in
      let past = past-segment k src dst bytes h said.0 ordered.0 users.0 in
      ap (λ f. placed_or place f (first_finding (known_read k r) (suc place) log)) past.finding
      ∙ clean-log log (known_read k r) (suc place) past.known (went-heard k r log said.1) ordered.1 users.1

-- WHAT WENT is what was emitted
abbrev segments_of : List PassageContent → List (List ℕ × List ℕ)
segments_of [] = []
segments_of (Came src dst bytes ∷ log) = segments_of log
segments_of (Went src dst bytes ∷ log) = (dst, bytes) ∷ segments_of log

due-log : (src : List ℕ) (sent : List (List ℕ × List ℕ)) (due : Option (List ℕ × List ℕ)) (log : List PassageContent)
    → (sent ++ option_to_list due) ++ segments_of log ≡ sent ++ segments_of (went_from src due ++ log)
due-log src sent None log = ap (λ (s : List (List ℕ × List ℕ)). s ++ segments_of log) (append-nil sent)
due-log src sent (Some segment) log = append_assoc sent (segment ∷ []) (segments_of log)

emitted-log : (src : List ℕ) (x : SoloState) (list : List SoloContent)
    → (solo_run x list).emitted ≡ x.emitted ++ segments_of (log_of src x.endpoint list)
unfolding solo_run log_of
emitted-log src x [] = sym (append-nil x.emitted)
emitted-log src x (Emit ∷ list) =
    emitted-log src (after_solo x Emit) list ∙ due-log src x.emitted (segment_due x.endpoint) (log_of src (after_solo x Emit).endpoint list)
emitted-log src x (EmitAcknowledgement ∷ list) =
    emitted-log src (after_solo x EmitAcknowledgement) list
    ∙ due-log src x.emitted (segment_alone x.endpoint) (log_of src (after_solo x EmitAcknowledgement).endpoint list)
emitted-log src x (Arrive from to bytes ∷ list) =
    emitted-log src (after_solo x (Arrive from to bytes)) list
    ∙ ap (λ (sent : List (List ℕ × List ℕ)). sent ++ segments_of (log_of src (after_solo x (Arrive from to bytes)).endpoint list)) (append-nil x.emitted)
emitted-log src x (other ∷ list) =
    emitted-log src (after_solo x other) list
    ∙ ap (λ (sent : List (List ℕ × List ℕ)). sent ++ segments_of (log_of src (after_solo x other).endpoint list)) (append-nil x.emitted)

-- what holds of each member holds of each that went, where all went from one address
abbrev FromAddress : List ℕ → List PassageContent → Type 0
FromAddress src log = AllWent (λ from dst bytes. from ≡ src) log

from-due : (src : List ℕ) (due : Option (List ℕ × List ℕ)) (log : List PassageContent) → FromAddress src log → FromAddress src (went_from src due ++ log)
from-due src None log h = h
from-due src (Some segment) log h = (refl, h)

from-log : (src : List ℕ) (x : SoloState) (list : List SoloContent) → FromAddress src (log_of src x.endpoint list)
unfolding log_of
from-log src x [] = tt
from-log src x (Emit ∷ list) = from-due src (segment_due x.endpoint) _ (from-log src (after_solo x Emit) list)
from-log src x (EmitAcknowledgement ∷ list) = from-due src (segment_alone x.endpoint) _ (from-log src (after_solo x EmitAcknowledgement) list)
from-log src x (other ∷ list) = from-log src (after_solo x other) list

went-all : (P : List ℕ → List ℕ → Type 0) (src : List ℕ) (log : List PassageContent) → FromAddress src log
    → ((k : ℕ) (to bytes : List ℕ) → slice_get (segments_of log) k ≡ Some (to, bytes) → P to bytes)
    → AllWent (λ from to bytes. (from ≡ src) × P to bytes) log
went-all P src [] from h = tt
went-all P src (Came a b bytes ∷ log) from h = went-all P src log from h
went-all P src (Went a b bytes ∷ log) from h = ((from.0, h 0 b bytes refl), went-all P src log from.1 (λ k to text is. h (suc k) to text is))

went-same : (P P' : List ℕ → List ℕ → List ℕ → Type 0) (log : List PassageContent) → ((a b bytes : List ℕ) → P a b bytes → P' a b bytes)
    → AllWent P log → AllWent P' log
went-same P P' [] h all = tt
went-same P P' (Came a b bytes ∷ log) h all = went-same P P' log h all
went-same P P' (Went a b bytes ∷ log) h all = (h a b bytes all.0, went-same P P' log h all.1)

-- THE LAW
pub clean : (c : Config) (runs : ℕ) (list : List SoloContent) → IsConfig c → AllByRecursion HasRanges list
    → 2 + length (alone_with_runs c runs list).accepted < 2 ^ 31 → IsClean (log_with_runs c runs list)
clean c runs list is fits short =
    let x = alone_with_runs c runs list in
    let log = log_with_runs c runs list in
    let src = c.addr.0 in
    let P : List ℕ → List ℕ → Type 0 = λ to bytes. IsUsers c.isn.0 x.accepted x.closed src to bytes in
    let all : x.emitted ≡ segments_of log = emitted-log src (solo_with_runs c runs) list in
    let members = went-all P src log (from-log src (solo_with_runs c runs) list)
    (λ k to bytes at. (one_end_is_true_lem c runs list is fits).sends k to bytes (ap (λ (sent : List (List ℕ × List ℕ)). slice_get sent k) all ∙ at)) in
    let users : AllWent (IsUsers c.isn.0 x.accepted x.closed) log =
    went-same (λ from to bytes. (from ≡ src) × P to bytes) (IsUsers c.isn.0 x.accepted x.closed) log
    (λ a b bytes h. subst (λ (from : List ℕ). IsUsers c.isn.0 x.accepted x.closed from b bytes) (sym h.0) h.1) members in
    clean-log c.isn.0 x.accepted x.closed is.isn short log nothing_known 0
    (nothing-known c.isn.0 x.accepted) (said-right c runs list is fits) (in-order c runs list x.accepted x.closed short is fits users) users
