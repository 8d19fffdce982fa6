-- What listing a list of segments returns, and what it has written then.
use Rattle.std.specs.Prelude.{◌≡◌, ℕ, Bool, List, Option, Result, Err}
use Rattle.std.specs.Io.KnownBytes.{Appends}
use Rattle.kit_io.specs.Devices.{AppendsFront}
use Rattle.kit_commands.specs.Listing.{listing_of}
use Rattle.kit_commands.specs.declared.errors.ToolError.{ToolError}
use Rattle.kit_commands.specs.declared.errors.ToolError.TheVariants.{BadLine, NoMemory, ReadFault, WriteFault, Config as ConfigFault}

-- the text's listing has this answer, and was written
pub record WritesListing (text : List ℕ) (old new : Option (List ℕ)) (answer : Result Bool ℕ) : Type 0 where
  pub meaning : (listing_of text).answer ≡ answer
  pub written : Appends old new (listing_of text).text

-- the claim of a refusal about the text and about what was written: at a bad line all that comes before it, and at a fault of
-- the output a prefix of the listing
abbrev pub EndsListing : List ℕ → Option (List ℕ) → Option (List ℕ) → ToolError → Type 0
EndsListing text old new (BadLine line) = WritesListing text old new (Err line)
EndsListing text old new WriteFault = AppendsFront old new (listing_of text).text
EndsListing text old new NoMemory = Unit {0}
EndsListing text old new ReadFault = Unit {0}
EndsListing text old new (ConfigFault side fault) = Unit {0}

-- no end is made, so no Config is refused
abbrev pub IsShowFault : ToolError → Type 0
IsShowFault (BadLine line) = Unit {0}
IsShowFault WriteFault = Unit {0}
IsShowFault NoMemory = Unit {0}
IsShowFault ReadFault = Unit {0}
IsShowFault (ConfigFault side fault) = ⊥
