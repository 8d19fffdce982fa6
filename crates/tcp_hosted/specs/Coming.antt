-- WHAT A HOST HANDS TO AN END (RFC 9293, 3.3.1 and 3.10): segments that have the four values of its connection. All others are for somebody
-- else, or for nobody, and change nothing of it.
use Rattle.std.specs.Prelude.{◌≡◌, ℕ, Bool, false, ◌==◌, ◌&&◌, if◌then◌else◌, List, Option, Some, None, bytes_eq}
use Rattle.std.specs.Option.{IsSomeAnd}
use Rattle.std.specs.declared.cmp.Ordering.{Ordering}
use Rattle.tcp_table.specs.Table.{HasKey}
use Rattle.tcp_host.specs.declared.pair.Pair.{Pair}
use Rattle.tcp_host.specs.declared.pair.Socket.{Socket}
use Rattle.tcp_host.specs.Behaviour.{Behaviour}
use Rattle.tcp_host.specs.Hosting.{Hosting, end_at}
use Rattle.tcp_host.specs.Pair.{pair_of}

-- the same address and port
abbrev pub is_socket : Socket → Socket → Bool
is_socket one other = bytes_eq one.addr other.addr && (one.port == other.port)

-- these four values are a connection's
abbrev pub is_pair : Pair → Option Pair → Bool
is_pair pair None = false
is_pair pair (Some other) = is_socket other.local pair.local && is_socket other.peer pair.peer

-- a segment has them
abbrev pub comes_to : Pair → List ℕ → List ℕ → List ℕ → Bool
comes_to pair src dst bytes = is_pair pair (pair_of src dst bytes)

-- AN END AT ITS HOST, after whatever has come there at a time, summed or vouched for
abbrev pub at_host : {S : Type 0} → Behaviour S → Pair → S → ℕ → List ℕ → List ℕ → List ℕ → Bool → S
at_host b pair end now src dst bytes vouched = if comes_to pair src dst bytes then b.arrived end now src dst bytes vouched else end

-- WHAT COMES TO A HOST does this to each of its ends, which stays under its four values
module _ {S L : Type 0} (b : Behaviour S) (cmp : Pair → Pair → Ordering) where
  abbrev pub HandsOn : Hosting S L → Hosting S L → ℕ → List ℕ → List ℕ → List ℕ → Bool → Type 0
  HandsOn old new now src dst bytes vouched =
      (pair : Pair) (slot : ℕ) → HasKey cmp old.ends pair slot
      → HasKey cmp new.ends pair slot
      × IsSomeAnd (end_at old.ends slot) (λ end. end_at new.ends slot ≡ Some (at_host b pair end now src dst bytes vouched))
