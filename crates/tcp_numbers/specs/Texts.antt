-- How addresses and control bits are written.
use Rattle.std.specs.Prelude.{ℕ, Bool, true, false, if◌then◌else◌, List, [], ◌∷◌, ◌++◌, codes, decimal}
use Rattle.std.specs.List.{join_by}
use Rattle.tcp_numbers.specs.Flags.{has, fin, syn, rst, psh, ack, urg, ece, cwr}

-- ADDRESSES: four numbers joined by dots
abbrev pub addr_text : List ℕ → List ℕ
addr_text octets = join_by decimal (codes ".") octets

-- LISTS: what f writes of each, joined by a text; `-` where there is none
abbrev pub list_text : {X : Type 0} → (X → List ℕ) → List ℕ → List X → List ℕ
list_text f between [] = codes "-"
list_text f between (x ∷ xs) = join_by f between (x ∷ xs)

-- FLAGS: whether each is set, and its name, in the order of the header (RFC 9293, 3.1)
abbrev pub flag_table : ℕ → List (Bool × List ℕ)
flag_table f =
    (has cwr f, codes "CWR") ∷ (has ece f, codes "ECE") ∷ (has urg f, codes "URG") ∷ (has ack f, codes "ACK")
    ∷ (has psh f, codes "PSH") ∷ (has rst f, codes "RST") ∷ (has syn f, codes "SYN") ∷ (has fin f, codes "FIN") ∷ []

abbrev pub set_names : List (Bool × List ℕ) → List (List ℕ)
set_names [] = []
set_names (flag ∷ flags) = if flag.0 then flag.1 ∷ set_names flags else set_names flags

-- a name, after a comma unless it is the first
abbrev pub listed : Bool → List ℕ → List ℕ
listed true name = name
listed false name = codes "," ++ name

-- the names of the set ones, joined by commas
unfoldable pub flags_text : ℕ → List ℕ
flags_text f = list_text (λ name. name) (codes ",") (set_names (flag_table f))
