-- What the values of the pcapng form contain.
use Rattle.std.specs.Prelude.{List, map, ℕ, Bool, Option, Some, None}
use Rattle.capture_form.specs.Pcap.{FrameContent}
use Rattle.capture_form.specs.Blocks.{BlockContent}
use Rattle.capture_form.specs.Sections.{SectionContent}
use Rattle.capture_form.specs.View.{frame_content}
use Rattle.capture_form.specs.declared.pcapng.block.Block.{Block}
use Rattle.capture_form.specs.declared.pcapng.reading.Reading.{Reading}
use Rattle.capture_form.specs.declared.reading.Stop.{Stop}
use Rattle.capture_form.specs.declared.pcapng.section.Taken.{Taken}
use Rattle.capture_form.specs.declared.pcapng.section.Taken.TheVariants.{Damaged, Passed, Packet}
use Rattle.capture_form.specs.declared.pcapng.section.Step.{Step}
use Rattle.capture_form.specs.declared.pcapng.section.Step.TheVariants as step

abbrev pub block_content : Block → BlockContent
block_content block = record { kind = block.kind; body = block.body.now }

-- a section behind a block, and the frame that this was
abbrev pub taken_content : SectionContent → Taken → Option (SectionContent × Option FrameContent)
taken_content s Damaged = None
taken_content s Passed = Some (s, None)
taken_content s (Packet frame) = Some (s, Some (frame_content frame))

-- and what follows
abbrev pub step_content : SectionContent → Step → Option ((SectionContent × Option FrameContent) × List ℕ)
step_content s step.NoBlock = None
step_content s (step.Passed rest) = Some ((s, None), rest.now)
step_content s (step.Packet frame rest) = Some ((s, Some (frame_content frame)), rest.now)

abbrev pub reading_content : Reading → (List FrameContent × Bool) × Stop
reading_content r = ((map frame_content r.frames.items, r.is_lossy), r.stop)
