-- What is in flight, as stretches in order (RFC 8985, 5.2): each has numbers that were sent at nearly the same time.
use Rattle.std.specs.Prelude.{ℕ, ◌+◌, ◌-◌, ◌<◌, ◌≤◌, ◌==◌, ◌++◌, ◌&&◌, ◌||◌, not, min, max, Bool, true, false, nat_lt, nat_le, if◌then◌else◌, List, [], ◌∷◌, length, Option, Some, None}
use Rattle.tcp_recovery.specs.declared.stretch.Stretch.{Stretch}

-- so many are kept (own)
abbrev pub max_stretches : ℕ
max_stretches = 64

-- what is sent at a time (RFC 8985, 5.2: Segment.xmit_ts, Segment.end_seq and Segment.retransmitted)
abbrev pub segment : ℕ → ℕ → ℕ → Bool → Stretch
segment start end now is_again = record { start = start; end = end; first = now; last = now; is_again = is_again }

-- ---- PARTS (RFC 8985, 6.2, steps 2 and 3, for what is newly acknowledged): what of the stretches is before a
-- position, and what is from one on
abbrev pub before : ℕ → List Stretch → List Stretch
before at [] = []
before at (s ∷ later) = if nat_lt s.start at then record s { end = min s.end at } ∷ before at later else before at later

abbrev pub behind : ℕ → List Stretch → List Stretch
behind at [] = []
behind at (s ∷ later) = if nat_lt at s.end then record s { start = max s.start at } ∷ behind at later else behind at later

-- what of them is from one position on and before another
abbrev pub between : ℕ → ℕ → List Stretch → List Stretch
between start end all = behind start (before end all)

-- without that
abbrev pub without : ℕ → ℕ → List Stretch → List Stretch
without start end all = before start all ++ behind end all

-- the first of them, as its first position and that after its last
abbrev pub first_of : List Stretch → Option (ℕ × ℕ)
first_of [] = None
first_of (s ∷ later) = Some (s.start, s.end)

-- when the first of them was sent last, if it was sent again (RFC 8985, 5.2: Segment.xmit_ts and Segment.retransmitted)
abbrev pub resent_of : List Stretch → Option ℕ
resent_of [] = None
resent_of (s ∷ later) = if s.is_again then Some s.last else None

-- whether these are the first numbers of the first stretch, and it has more
abbrev pub are_first : ℕ → ℕ → List Stretch → Bool
are_first start end [] = false
are_first start end (s ∷ later) = nat_le start s.start && nat_lt end s.end

-- ---- SENT (RFC 8985, 6.1). New text extends the last stretch where it follows it within a span of its first time
-- (own), and is one of its own otherwise
abbrev pub extends : Stretch → ℕ → ℕ → ℕ → Bool
extends s start now span = not s.is_again && s.end == start && nat_le now (s.first + span)

abbrev pub followed_by : Stretch → ℕ → ℕ → Stretch
followed_by s end now = record s { end = end; first = min s.first now; last = max s.last now }

abbrev pub appended : ℕ → ℕ → ℕ → ℕ → List Stretch → List Stretch
appended start end now span [] = segment start end now false ∷ []
appended start end now span (s ∷ []) = if extends s start now span then followed_by s end now ∷ [] else s ∷ segment start end now false ∷ []
appended start end now span (s ∷ next ∷ later) = s ∷ appended start end now span (next ∷ later)

-- what goes out again is a stretch of its own, cut out of those that had it (RFC 8985, 6.1)
abbrev pub cut_out : ℕ → ℕ → ℕ → List Stretch → List Stretch
cut_out start end now all = before start all ++ segment start end now true ∷ behind end all

-- ---- JOINED (own). Two neighbours as one: with the later time, so that it is found lost later, never earlier. It has
-- the gap between them as well, whose numbers have come, and of which it isn't known when they were sent
abbrev pub joined : Stretch → Stretch → Stretch
joined s next = record {
  start = s.start;
  end = next.end;
  first = if s.end == next.start then min s.first next.first else 0;
  last = max s.last next.last;
  is_again = s.is_again || next.is_again;
}

-- how long their times lie apart at most
abbrev pub distance : Stretch → Stretch → ℕ
distance s next = max s.last next.last - min s.first next.first

-- the least distance of two neighbours, or `most` where that is less
abbrev pub least_distance : ℕ → List Stretch → ℕ
least_distance most [] = most
least_distance most (s ∷ []) = most
least_distance most (s ∷ next ∷ later) = least_distance (min most (distance s next)) (next ∷ later)

-- the first two whose distance is so little as one
abbrev pub with_joined : ℕ → List Stretch → List Stretch
with_joined least [] = []
with_joined least (s ∷ []) = s ∷ []
with_joined least (s ∷ next ∷ later) =
    if nat_le (distance s next) least then joined s next ∷ later else s ∷ with_joined least (next ∷ later)

-- THE TWO NEIGHBOURS NEAREST IN TIME as one
abbrev pub thinned : List Stretch → List Stretch
thinned [] = []
thinned (s ∷ []) = s ∷ []
thinned (s ∷ next ∷ later) = with_joined (least_distance (distance s next) (next ∷ later)) (s ∷ next ∷ later)

-- where there are too many
abbrev pub fitted : List Stretch → List Stretch
fitted all = if nat_lt max_stretches (length all) then thinned all else all

-- ---- IN ORDER, from one position up to another: none is empty, and none has a number that another one has
abbrev pub AreInOrder : ℕ → ℕ → List Stretch → Type 0
AreInOrder from to [] = from ≤ to
AreInOrder from to (s ∷ later) = (from ≤ s.start) × (s.start < s.end) × AreInOrder s.end to later
