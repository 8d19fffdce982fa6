-- What is kept out of order agrees with the peer's stream, call by call. The layer above needs no more of a reassembly to
-- deliver a prefix of the stream to its user.
use Rattle.std.proofs.Common.{◌≡◌, ℕ, zero, suc, ◌≤◌, List, [], ◌∷◌, ◌++◌, length, take, drop, refl, sym, ◌∙◌, ap, arith, length-drop, append-nil}
use lib.Seq.{drop-nil}
use Rattle.std.specs.Prelude.{ℤ, pos, negsuc, true, false, min, replicate, Option, Some, None, if◌then◌else◌}
use Rattle.tcp_reasm.specs.declared.placed.Placed.TheVariants.{NotKept}
use Rattle.tcp_reasm.specs.Reassembly.{Cell, Inbox, Run, piece, empty_inbox, without_held, window, overlay, bytes_in_order, with_ranks, with_ranks_from, runs, is_refused, overlay_of, with_overlay, greatest_stamp, answer_for, after_place, place_answer, after_read}
use Rattle.tcp_reasm.specs.Agreement.{Agrees, LiesAt, advance_of, Advances}

-- offsets without a byte agree with anything
pub Agrees-replicate : (n : ℕ) (rest : List ℕ) → Agrees (replicate n None) rest
Agrees-replicate zero rest = tt
Agrees-replicate (suc n) [] = Agrees-replicate n []
Agrees-replicate (suc n) (byte ∷ rest) = Agrees-replicate n rest

pub Agrees-append : (held : List (Option Cell)) (n : ℕ) (rest : List ℕ) → Agrees held rest → Agrees (held ++ replicate n None) rest
Agrees-append [] n rest h = Agrees-replicate n rest
Agrees-append (None ∷ places) n [] h = Agrees-append places n [] h
Agrees-append (None ∷ places) n (byte ∷ rest) h = Agrees-append places n rest h
Agrees-append (Some cell ∷ places) n [] h = h
Agrees-append (Some cell ∷ places) n (byte ∷ rest) h = (h.0, Agrees-append places n rest h.1)

-- stamps don't matter
with_ranks_from-agrees : (all : List Run) (place : ℕ) (held : List (Option Cell)) (rest : List ℕ) → Agrees held rest → Agrees (with_ranks_from all place held) rest
with_ranks_from-agrees all place [] rest h = tt
with_ranks_from-agrees all place (None ∷ places) [] h = with_ranks_from-agrees all (suc place) places [] h
with_ranks_from-agrees all place (None ∷ places) (byte ∷ rest) h = with_ranks_from-agrees all (suc place) places rest h
with_ranks_from-agrees all place (Some cell ∷ places) [] h = h
with_ranks_from-agrees all place (Some cell ∷ places) (byte ∷ rest) h = (h.0, with_ranks_from-agrees all (suc place) places rest h.1)

pub with_ranks-agrees : (held : List (Option Cell)) (rest : List ℕ) → Agrees held rest → Agrees (with_ranks held) rest
unfolding with_ranks
with_ranks-agrees held rest h = with_ranks_from-agrees (runs held) 0 held rest h

-- a piece of the stream laid over what agrees with it
overlay-agrees : (start : ℕ) (text : List ℕ) (stamp : ℕ) (held : List (Option Cell)) (rest : List ℕ) → Agrees held rest → take (length text) (drop start rest) ≡ text → Agrees (overlay start text stamp held) rest
overlay-agrees start text stamp [] rest h lies = tt
overlay-agrees zero [] stamp (place ∷ places) rest h lies = h
overlay-agrees zero (byte ∷ text) stamp (place ∷ places) [] h lies = cc
overlay-agrees zero (byte ∷ text) stamp (None ∷ places) (b ∷ rest) h lies = (cc, overlay-agrees zero text stamp places rest h (cc))
overlay-agrees zero (byte ∷ text) stamp (Some cell ∷ places) (b ∷ rest) h lies = (h.0, overlay-agrees zero text stamp places rest h.1 (cc))
overlay-agrees (suc start) text stamp (None ∷ places) [] h lies =
    overlay-agrees start text stamp places [] h (ap (take (length text)) (drop-nil {A = ℕ} start) ∙ lies)
overlay-agrees (suc start) text stamp (None ∷ places) (b ∷ rest) h lies = overlay-agrees start text stamp places rest h lies
overlay-agrees (suc start) text stamp (Some cell ∷ places) [] h lies = h
overlay-agrees (suc start) text stamp (Some cell ∷ places) (b ∷ rest) h lies = (h.0, overlay-agrees start text stamp places rest h.1 lies)

-- what is in order is the stream's beginning, and what is kept after it agrees with the rest
record InOrder (over : List (Option Cell)) (rest : List ℕ) (count : ℕ) : Type 0 where
  within : count ≤ length rest
  front : bytes_in_order over ≡ take count rest
  behind : Agrees (drop count over) (drop count rest)

bytes_in_order-agrees : (over : List (Option Cell)) (rest : List ℕ) → Agrees over rest → InOrder over rest (length (bytes_in_order over))
bytes_in_order-agrees [] rest h = record { within = omega arith; front = refl; behind = tt }
bytes_in_order-agrees (None ∷ places) rest h = record { within = omega arith; front = refl; behind = h }
bytes_in_order-agrees (Some cell ∷ places) [] h = absurd h
bytes_in_order-agrees (Some cell ∷ places) (byte ∷ rest) h =
    let further = bytes_in_order-agrees places rest h.1 in
    record { within = omega arith; front = cc (h.0, further.front); behind = further.behind }

-- the piece that is left of a text lies at its start
piece-lies : (offset : ℤ) (text rest : List ℕ) → LiesAt offset text rest → take (length (piece offset text).text) (drop (piece offset text).start rest) ≡ (piece offset text).text
piece-lies (pos start) text rest lies = lies
piece-lies (negsuc n) text rest lies = rw length-drop (sym lies)

with_overlay-advances : (q : Inbox) (over : List (Option Cell)) (rest : List ℕ) → Agrees over rest → Advances q (with_overlay q over) rest (length (bytes_in_order over))
with_overlay-advances q over rest h =
    let split = bytes_in_order-agrees over rest h in
    record {
      within = split.within;
      unread = ap (λ bytes. q.unread ++ bytes) split.front;
      held = with_ranks-agrees (drop (length (bytes_in_order over)) over) (drop (length (bytes_in_order over)) rest) split.behind;
      capacity = refl;
    }

unchanged-advances : (q : Inbox) (rest : List ℕ) → Agrees q.held rest → Advances q q rest 0
unchanged-advances q rest h = record { within = omega arith; unread = sym (append-nil q.unread); held = h; capacity = refl }

pub advance_of-answer_for : (n : ℕ) → advance_of (answer_for n) ≡ n
advance_of-answer_for zero = refl
advance_of-answer_for (suc n) = refl

-- placing
pub after_place-agrees : (q : Inbox) (offset : ℤ) (text rest : List ℕ) → Agrees q.held rest → LiesAt offset text rest → Advances q (after_place q offset text) rest (advance_of (place_answer q offset text))
unfolding after_place place_answer
after_place-agrees q offset text rest h lies =
    let p = piece offset text in
    let over_agrees : Agrees (overlay_of q p) rest = overlay-agrees p.start p.text (suc (greatest_stamp q.held)) q.held rest h (piece-lies offset text rest lies) in
    elim (is_refused q p) as (λ refused. Advances q (if refused then q else with_overlay q (overlay_of q p)) rest (advance_of (if refused then NotKept else answer_for (length (bytes_in_order (overlay_of q p)))))) [
      | true ↦ unchanged-advances q rest h
      | false ↦ rw advance_of-answer_for (with_overlay-advances q (overlay_of q p) rest over_agrees)
    ]

-- reading
pub after_read-agrees : (q : Inbox) (n : ℕ) (rest : List ℕ) → Agrees q.held rest → Agrees (after_read q n).held rest
unfolding after_read
after_read-agrees q n rest h = Agrees-append q.held (min n (length q.unread)) rest h

-- discarding what is out of order
pub without_held-agrees : (q : Inbox) (rest : List ℕ) → Agrees (without_held q).held rest
without_held-agrees q rest = Agrees-replicate (window q) rest

pub empty_inbox-agrees : (capacity : ℕ) (rest : List ℕ) → Agrees (empty_inbox capacity).held rest
empty_inbox-agrees capacity rest = Agrees-replicate capacity rest
