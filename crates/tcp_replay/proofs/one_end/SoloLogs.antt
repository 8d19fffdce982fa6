-- The log of the code, event by event, is that of the definitions, and says what holds of one end.
use Rattle.tcp_replay.proofs.Words.{◌+◌, ◌++◌, ◌<◌, [], AcknowledgesInOrderWith, Addr, after_solo, AllByRecursion, ap, bytes_put_out, bytes_taken, Config}
use Rattle.tcp_replay.proofs.Words.{delivers_end, DeliversWhatCameWith, end_after, false, get_or, HasRanges, IsConfig, IsLogOf, length, length-map, List, map}
use Rattle.tcp_replay.proofs.Words.{end_with_runs, option_to_list, Outcome, refl, alone_with_runs, segment_emitted, segments, SendsItsUsers, solo_outcome, solo_run}
use Rattle.tcp_replay.proofs.Words.{solo_with_runs, SoloContent, SoloLog, SoloState, State, subst, suc, sym, take, take_all, Vec, ◌||◌, ℕ, ◌∙◌, ◌∷◌, ◌≡◌, ◌≤◌}
use Rattle.tcp_replay.proofs.{one_end.SoloRuns.one_end_is_true_lem, one_end.SoloRuns.run-last, run.Runs.next-front}

-- nothing has happened yet
pub log-begins : {A : Type 0} (c : Config) (runs : ℕ) (log : SoloLog A) → log.endpoint ≡ end_with_runs c runs → log.accepted.items ≡ [] → log.delivered.items ≡ []
    → log.emitted.items ≡ [] → log.outcomes.items ≡ [] → log.ended ≡ false
    → IsLogOf log (alone_with_runs c runs [])
unfolding solo_run
log-begins c runs log endpoint accepted delivered emitted outcomes ended =
    record { accepted = accepted; delivered = delivered; emitted = ap segments emitted; outcomes = outcomes; ended = ended; endpoint = endpoint }

-- what a step says of the log
pub record Steps {A : Type 0} (log log' : SoloLog A) (e : SoloContent) : Type 0 where
  pub endpoint : log'.endpoint ≡ end_after log.endpoint e
  pub accepted : log'.accepted.items ≡ log.accepted.items ++ bytes_taken log.endpoint e
  pub delivered : log'.delivered.items ≡ log.delivered.items ++ bytes_put_out log.endpoint e
  pub emitted : segments log'.emitted.items ≡ segments log.emitted.items ++ option_to_list (segment_emitted log.endpoint e)
  pub ended : log'.ended ≡ (log.ended || delivers_end log.endpoint e)
  pub outcomes : log'.outcomes.items ≡ log.outcomes.items ++ solo_outcome log.endpoint (length log.emitted.items) e ∷ []

counted : {A : Type 0} (sent : List (Addr × Vec ℕ A)) → length (segments sent) ≡ length sent
counted [] = refl
counted (segment ∷ sent) = ap suc (counted sent)

log-step : {A : Type 0} (log log' : SoloLog A) (x : SoloState) (e : SoloContent) → IsLogOf log x → Steps log log' e → IsLogOf log' (after_solo x e)
log-step log log' x e h n =
    let s = log.endpoint in
    let count : length log.emitted.items ≡ length x.emitted = sym (counted log.emitted.items) ∙ ap length h.emitted in
    record {
      accepted = n.accepted ∙ ap (λ xs. xs ++ bytes_taken s e) h.accepted ∙ ap (λ (s : State). x.accepted ++ bytes_taken s e) h.endpoint;
      delivered = n.delivered ∙ ap (λ xs. xs ++ bytes_put_out s e) h.delivered ∙ ap (λ (s : State). x.delivered ++ bytes_put_out s e) h.endpoint;
      emitted = n.emitted ∙ ap (λ xs. xs ++ option_to_list (segment_emitted s e)) h.emitted ∙ ap
          (λ (s : State). x.emitted ++ option_to_list (segment_emitted s e)) h.endpoint;
      outcomes = n.outcomes ∙ ap (λ (xs : List Outcome). xs ++ solo_outcome s (length log.emitted.items) e ∷ []) h.outcomes ∙ ap
          (λ (k : ℕ). x.outcomes ++ solo_outcome s k e ∷ []) count
          ∙ ap (λ (s : State). x.outcomes ++ solo_outcome s (length x.emitted) e ∷ []) h.endpoint;
      ended = n.ended ∙ ap (λ b. b || delivers_end s e) h.ended ∙ ap (λ (s : State). x.ended || delivers_end s e) h.endpoint;
      endpoint = n.endpoint ∙ ap (λ (s : State). end_after s e) h.endpoint;
    }

-- after a step a log is that of one event more
pub log-goes_on : {A : Type 0} (c : Config) (runs : ℕ) (list : List SoloContent) (i : ℕ) (log log' : SoloLog A) (e : SoloContent) → i < length list → e ≡ get_or list i e
    → IsLogOf log (alone_with_runs c runs (take i list))
    → Steps log log' e → IsLogOf log' (alone_with_runs c runs (take (i + 1) list))
log-goes_on c runs list i log log' e inside is h n =
    subst (λ (x : SoloState). IsLogOf log' x) (sym (run-last (solo_with_runs c runs) (take i list) e) ∙ ap (alone_with_runs c runs) (next-front list i e inside is))
    (log-step log log' (alone_with_runs c runs (take i list)) e h n)

-- WHAT THE LOG SAYS
pub record IsTrueLog {A : Type 0} (c : Config) (runs : ℕ) (list : List SoloContent) (log : SoloLog A) : Type 0 where
  pub sends : SendsItsUsers c log.accepted.items (alone_with_runs c runs list).closed (segments log.emitted.items)
  pub delivers : DeliversWhatCameWith c runs list log.delivered.items
  pub acknowledges : AcknowledgesInOrderWith c runs list

log-true : {A : Type 0} (c : Config) (runs : ℕ) (list : List SoloContent) (log : SoloLog A) → IsConfig c → AllByRecursion HasRanges list → IsLogOf log (alone_with_runs c runs list)
    → IsTrueLog c runs list log
log-true c runs list log is fits h =
    let true_end = one_end_is_true_lem c runs list is fits in
    let closed = (alone_with_runs c runs list).closed in
    record {
      sends = subst (λ (accepted : List ℕ). SendsItsUsers c accepted closed (segments log.emitted.items)) (sym h.accepted)
          (subst (SendsItsUsers c (alone_with_runs c runs list).accepted closed) (sym h.emitted) true_end.sends);
      delivers = subst (DeliversWhatCameWith c runs list) (sym h.delivered) true_end.delivers;
      acknowledges = true_end.acknowledges;
    }

-- after the last event
pub log-ends : {A X : Type 0} (c : Config) (runs : ℕ) (content : X → SoloContent) (events : List X) (i : ℕ) (log : SoloLog A) → IsConfig c → length events ≤ i
    → AllByRecursion HasRanges (take i (map content events))
    → IsLogOf log (alone_with_runs c runs (take i (map content events))) → IsTrueLog c runs (map content events) log
log-ends c runs content events i log is done fits h =
    let more : length (map content events) ≤ i = simp length-map done in
    let whole : take i (map content events) ≡ map content events = take_all i (map content events) more in
    log-true c runs (map content events) log is (subst (AllByRecursion HasRanges) whole fits) (subst (λ list. IsLogOf log (alone_with_runs c runs list)) whole h)
