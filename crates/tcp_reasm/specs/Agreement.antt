-- What the layer above says of the bytes that are kept out of order: they are those of the peer's stream (RFC 9293, 3.4).
-- Stamps don't matter here.
use Rattle.std.specs.Prelude.{◌≡◌, ℕ, suc, ◌-◌, ◌≤◌, ℤ, pos, negsuc, List, [], ◌∷◌, ◌++◌, length, take, drop, Option, Some, None}
use Rattle.tcp_reasm.specs.declared.placed.Placed.{Placed}
use Rattle.tcp_reasm.specs.declared.placed.Placed.TheVariants.{Advanced, Held, NotKept}
use Rattle.tcp_reasm.specs.Reassembly.{Cell, Inbox}

-- Each kept byte is the one that the stream has there. After the end of the stream no byte is kept.
abbrev pub Agrees : List (Option Cell) → List ℕ → Type 0
Agrees [] rest = Unit {0}
Agrees (None ∷ places) [] = Agrees places []
Agrees (None ∷ places) (byte ∷ rest) = Agrees places rest
Agrees (Some cell ∷ places) [] = ⊥
Agrees (Some cell ∷ places) (byte ∷ rest) = (cell.byte ≡ byte) × Agrees places rest

-- A text is the stream's at its offset from place 0. Of one that begins before place 0 only what is from there on matters,
-- since nothing else of it is kept.
abbrev pub LiesAt : ℤ → List ℕ → List ℕ → Type 0
LiesAt (pos start) text rest = take (length text) (drop start rest) ≡ text
LiesAt (negsuc n) text rest = drop (suc n) text ≡ take (length text - suc n) rest

-- how many bytes came in order by an answer
abbrev pub advance_of : Placed → ℕ
advance_of (Advanced n) = n
advance_of Held = 0
advance_of NotKept = 0

-- From one value to the next, n bytes of the stream came in order, and what is kept out of order agrees with what is left of
-- it.
pub record Advances (before after : Inbox) (rest : List ℕ) (count : ℕ) : Type 0 where
  pub within : count ≤ length rest
  pub unread : after.unread ≡ before.unread ++ take count rest
  pub held : Agrees after.held (drop count rest)
  pub capacity : after.capacity ≡ before.capacity
