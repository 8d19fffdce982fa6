-- WHAT HOLDS of each segment that went in a log.
use Rattle.std.proofs.Common.{◌≡◌, ℕ, List, [], ◌∷◌}
use Rattle.std.specs.Prelude.{Bool, false, Ok}
use Rattle.tcp_wire.specs.Decoded.{decode_answer}
use Rattle.tcp_wire.specs.Flags.{rst, has}
use Rattle.tcp_wire.specs.Wire.{Content}
use Rattle.tcp_replay.specs.Truthful.{IsOfUser}
use Rattle.tcp_judge.specs.Log.{PassageContent, Came, Went}

-- what holds of each segment that went
abbrev pub AllWent : (List ℕ → List ℕ → List ℕ → Type 0) → List PassageContent → Type 0
AllWent P [] = Unit {0}
AllWent P (Came src dst bytes ∷ log) = AllWent P log
AllWent P (Went src dst bytes ∷ log) = P src dst bytes × AllWent P log

-- it can be read, and is the user's
abbrev pub IsUsers : ℕ → List ℕ → Bool → List ℕ → List ℕ → List ℕ → Type 0
IsUsers isn accepted closed src dst bytes =
    (v : Content) × (decode_answer src dst bytes ≡ Ok v) × (has rst v.flags ≡ false → IsOfUser isn accepted closed v)
