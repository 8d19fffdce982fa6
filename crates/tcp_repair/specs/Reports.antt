-- What a recovery knows of an end beside what a connection does, as functions of the end's state S.
use Rattle.std.specs.Prelude.{ℕ, Bool, Option}

pub record Reports (S : Type 0) : Type 0 where
  -- the first numbers from a position on that are in flight and that no block has reported (RFC 2018, 4), as the position of the
  -- first and that behind the last of their run
  pub unmarked : S → ℕ → Option (ℕ × ℕ)
  -- whether both SYNs agreed on blocks (RFC 2018, 2)
  pub agreed : S → Bool
  -- SND.WND, the peer's window (RFC 9293, 3.3.1)
  pub peer_window : S → ℕ
