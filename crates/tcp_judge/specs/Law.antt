-- NO CORRECT END IS ACCUSED: over every list of events, whoever the peer is and whatever bytes arrive.
use Rattle.std.specs.Prelude.{◌≡◌, ℕ, ◌+◌, ◌^◌, ◌<◌, ◌≤◌, if◌then◌else◌, List, [], ◌∷◌, length, Option, Some, None, Result, Ok, Err}
use Rattle.std.specs.List.{AllByRecursion}
use Rattle.tcp_wire.specs.Wire.{Content}
use Rattle.tcp_wire.specs.Decoded.{decode_answer}
use Rattle.tcp_wire.specs.declared.fault.DecodeError.{DecodeError}
use Rattle.tcp_halves.specs.declared.config.Config.{Config}
use Rattle.tcp_halves.specs.Config.{IsConfig, default_limit}
use Rattle.tcp_replay.specs.Solo.{alone_with_runs, run_alone}
use Rattle.tcp_replay.specs.SoloEvents.{SoloContent, HasRanges}
use Rattle.tcp_judge.specs.Log.{PassageContent, Came, Went, log_alone, log_with_runs}
use Rattle.tcp_judge.specs.Heard.{Heard, nothing_heard, is_elsewhere, after_went, after_came}
use Rattle.tcp_judge.specs.Rules.{form_finding, heard_finding}
use Rattle.tcp_judge.specs.Judgement.{IsClean}
use Rattle.tcp_judge.specs.Taken.{taken_of}

-- what is known to have come after what came, as far as an end may take it and it is of its connection, and after bytes that were sent
abbrev pub heard_read : Heard → Option Content → Heard
heard_read h None = h
heard_read h (Some v) = if is_elsewhere h.ports v then h else after_came h v

abbrev pub heard_went : Heard → Result Content DecodeError → Heard
heard_went h (Ok v) = after_went h v
heard_went h (Err fault) = h

-- a segment that was sent can be read, and breaks no rule of form, and none against what came
abbrev pub IsSaidRight : Heard → List ℕ → List ℕ → List ℕ → Type 0
IsSaidRight h src dst bytes = (v : Content) × (decode_answer src dst bytes ≡ Ok v) × (form_finding v ≡ None) × (heard_finding h v ≡ None)

abbrev pub AllSaidRight : Heard → List PassageContent → Type 0
AllSaidRight h [] = Unit {0}
AllSaidRight h (Came src dst bytes ∷ log) = AllSaidRight (heard_read h (taken_of src dst bytes)) log
AllSaidRight h (Went src dst bytes ∷ log) = IsSaidRight h src dst bytes × AllSaidRight (heard_went h (decode_answer src dst bytes)) log

-- OF FORM AND AGAINST WHAT CAME, however long the two streams grow
abbrev pub NoFormOrAcknowledgementIsAccused : Type 0
NoFormOrAcknowledgementIsAccused =
    (c : Config) (list : List SoloContent) → IsConfig c → AllByRecursion HasRanges list → AllSaidRight nothing_heard (log_alone c list)

-- OF EACH RULE, where any two positions of the stream are less than 2^31 apart: its user sent less than that,
abbrev pub NoShortStreamIsAccused : Type 0
NoShortStreamIsAccused =
    (c : Config) (list : List SoloContent) → IsConfig c → AllByRecursion HasRanges list → 2 + length (run_alone c list).accepted < 2 ^ 31
    → IsClean (log_alone c list)

-- as with any limit up to the default one
abbrev pub NoCorrectEndIsAccused : Type 0
NoCorrectEndIsAccused =
    (c : Config) (list : List SoloContent) → IsConfig c → c.limit ≤ default_limit → AllByRecursion HasRanges list → IsClean (log_alone c list)

-- ---- SO IT IS of an end that keeps any number of runs out of order
abbrev pub NoFormOrAcknowledgementIsAccusedWithRuns : Type 0
NoFormOrAcknowledgementIsAccusedWithRuns =
    (c : Config) (runs : ℕ) (list : List SoloContent) → IsConfig c → AllByRecursion HasRanges list
    → AllSaidRight nothing_heard (log_with_runs c runs list)

abbrev pub NoShortStreamIsAccusedWithRuns : Type 0
NoShortStreamIsAccusedWithRuns =
    (c : Config) (runs : ℕ) (list : List SoloContent) → IsConfig c → AllByRecursion HasRanges list
    → 2 + length (alone_with_runs c runs list).accepted < 2 ^ 31 → IsClean (log_with_runs c runs list)

abbrev pub NoCorrectEndIsAccusedWithRuns : Type 0
NoCorrectEndIsAccusedWithRuns =
    (c : Config) (runs : ℕ) (list : List SoloContent) → IsConfig c → c.limit ≤ default_limit → AllByRecursion HasRanges list
    → IsClean (log_with_runs c runs list)
