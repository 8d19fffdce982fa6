-- THE JUDGEMENT OF A LOG: the first segment that was sent and breaks a rule, judged by what came and was sent before it.
use Rattle.std.specs.Prelude.{◌≡◌, ℕ, suc, if◌then◌else◌, List, [], ◌∷◌, Option, Some, None, Result, Ok, Err}
use Rattle.tcp_wire.specs.Wire.{Content}
use Rattle.tcp_wire.specs.Decoded.{decode_answer}
use Rattle.tcp_wire.specs.declared.fault.DecodeError.{DecodeError}
use Rattle.tcp_judge.specs.Heard.{is_elsewhere}
use Rattle.tcp_judge.specs.Known.{Known, nothing_known, known_after, known_with}
use Rattle.tcp_judge.specs.Log.{PassageContent, Came, Went}
use Rattle.tcp_judge.specs.Rules.{finding_of}
use Rattle.tcp_judge.specs.Taken.{taken_of}
use Rattle.tcp_judge.specs.declared.finding.Finding.{Finding}
use Rattle.tcp_judge.specs.declared.finding.Finding.TheVariants.{Unreadable}

-- bytes that were sent and are no segment break the first rule of all (RFC 9293, 3.1), and add nothing to what is known
abbrev pub finding_read : Known → Result Content DecodeError → Option Finding
finding_read k (Ok v) = finding_of k v
finding_read k (Err fault) = Some (Unreadable fault)

abbrev pub known_read : Known → Result Content DecodeError → Known
known_read k (Ok v) = known_after k v
known_read k (Err fault) = k

-- what came adds to it as far as an end may take it, and it is of its connection
abbrev pub known_came : Known → Option Content → Known
known_came k None = k
known_came k (Some v) = if is_elsewhere k.heard.ports v then k else known_with k v

-- what came is not judged
abbrev pub finding_at : Known → PassageContent → Option Finding
finding_at k (Came src dst bytes) = None
finding_at k (Went src dst bytes) = finding_read k (decode_answer src dst bytes)

abbrev pub known_past : Known → PassageContent → Known
known_past k (Came src dst bytes) = known_came k (taken_of src dst bytes)
known_past k (Went src dst bytes) = known_read k (decode_answer src dst bytes)

-- the first finding, with the index of its segment in the log
abbrev pub placed_or : ℕ → Option Finding → Option (ℕ × Finding) → Option (ℕ × Finding)
placed_or place None later = later
placed_or place (Some finding) later = Some (place, finding)

abbrev pub first_finding : Known → ℕ → List PassageContent → Option (ℕ × Finding)
first_finding k place [] = None
first_finding k place (passage ∷ log) = placed_or place (finding_at k passage) (first_finding (known_past k passage) (suc place) log)

-- A CLEAN LOG: none of its segments breaks a rule
abbrev pub IsClean : List PassageContent → Type 0
IsClean log = first_finding nothing_known 0 log ≡ None
