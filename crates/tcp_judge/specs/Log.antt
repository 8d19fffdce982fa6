-- A LOG OF ONE END: what came to it and what it sent, in its order; and the log of an end of tcp_conn, event by event.
use Rattle.std.specs.Prelude.{ℕ, List, [], ◌∷◌, ◌++◌, Option, Some, None}
use Rattle.tcp_halves.specs.declared.config.Config.{Config}
use Rattle.tcp_conn.specs.State.{State}
use Rattle.tcp_conn.specs.NewEnd.{end_with_runs}
use Rattle.tcp_reasm.specs.Reassembly.{default_runs}
use Rattle.tcp_replay.specs.Solo.{end_after, segment_alone, segment_due}
use Rattle.tcp_replay.specs.SoloEvents.{SoloContent, Emit, EmitAcknowledgement, Arrive}
use Rattle.tcp_judge.specs.declared.passage.Passage.{Passage}
use Rattle.tcp_judge.specs.declared.passage.Passage.TheVariants as code

-- a segment that came or was sent: the source and the destination of its bytes, and these
pub data PassageContent : Type 0 where
  Came : List ℕ → List ℕ → List ℕ → PassageContent
  Went : List ℕ → List ℕ → List ℕ → PassageContent

abbrev pub passage_content : Passage → PassageContent
passage_content (code.Came src dst bytes) = Came src.0 dst.0 bytes.items
passage_content (code.Went src dst bytes) = Went src.0 dst.0 bytes.items

-- what an event adds to the log of an end with this address: the bytes that arrive, or the segment that is due and emitted
abbrev pub went_from : List ℕ → Option (List ℕ × List ℕ) → List PassageContent
went_from src None = []
went_from src (Some segment) = Went src segment.0 segment.1 ∷ []

abbrev pub passages_of : List ℕ → State → SoloContent → List PassageContent
passages_of src s Emit = went_from src (segment_due s)
passages_of src s EmitAcknowledgement = went_from src (segment_alone s)
passages_of src s (Arrive from to bytes) = Came from to bytes ∷ []
passages_of src s other = []

unfoldable pub log_of : List ℕ → State → List SoloContent → List PassageContent
log_of src s [] = []
log_of src s (event ∷ events) = passages_of src s event ++ log_of src (end_after s event) events

-- THE LOG of one end from its Config on, and the number of runs that it keeps
abbrev pub log_with_runs : Config → ℕ → List SoloContent → List PassageContent
log_with_runs c runs list = log_of c.addr.0 (end_with_runs c runs) list

abbrev pub log_alone : Config → List SoloContent → List PassageContent
log_alone c list = log_with_runs c default_runs list
