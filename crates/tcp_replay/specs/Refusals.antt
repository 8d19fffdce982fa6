-- The numbers under which refusals are reported, and their texts.
use Rattle.std.specs.Prelude.{ℕ, List, ◌++◌, codes}
use Rattle.std.specs.Fmt.{decimal}
use Rattle.tcp_halves.specs.Config.{config_error_text}
use Rattle.tcp_replay.specs.declared.event.Side.TheVariants.{A, B}
use Rattle.tcp_replay.specs.declared.outcome.WorldError.{WorldError}
use Rattle.tcp_replay.specs.declared.outcome.WorldError.TheVariants.{Config}
use Rattle.tcp_replay.specs.declared.outcome.SoloError.{SoloError}
use Rattle.tcp_replay.specs.declared.outcome.SoloError.TheVariants as solos
use Rattle.tcp_replay.specs.declared.outcome.StepError.{StepError}
use Rattle.tcp_replay.specs.declared.outcome.StepError.TheVariants.{NoSuchSegment, NoChange, PlaceOutside, Expired, NoMemory}

abbrev pub step_error_number : StepError → ℕ
step_error_number NoSuchSegment = 31
step_error_number NoChange = 32
step_error_number PlaceOutside = 33
step_error_number Expired = 35
step_error_number NoMemory = 34

abbrev pub step_error_text : StepError → List ℕ
step_error_text NoSuchSegment = codes "no segment of this number was emitted"
step_error_text NoChange = codes "the damage changes nothing"
step_error_text PlaceOutside = codes "the place lies past the segment's end"
step_error_text Expired = codes "the segment's lifetime is over"
step_error_text NoMemory = codes "no memory for the event"

abbrev pub world_error_text : WorldError → List ℕ
world_error_text (Config A fault) = codes "side A: " ++ config_error_text fault
world_error_text (Config B fault) = codes "side B: " ++ config_error_text fault

abbrev pub solo_error_text : SoloError → List ℕ
solo_error_text (solos.Config fault) = config_error_text fault
solo_error_text (solos.At index fault) = codes "event " ++ decimal index ++ codes ": " ++ step_error_text fault
