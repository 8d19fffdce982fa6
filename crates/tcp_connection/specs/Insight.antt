-- What a connection knows of its end beside what a driver does, as functions of the end's state S.
use Rattle.std.specs.Prelude.{ℕ, Bool, Option}
use Rattle.tcp_connection.specs.declared.deferring.Kind.{Kind}

pub record Insight (S : Type 0) : Type 0 where
  -- of which kind what is due is
  pub kind : S → Option Kind
  -- RCV.NXT, as a position of the peer's direction
  pub rcv_nxt : S → ℕ
  -- SND.WND, and D, the text that is queued and wasn't sent yet (RFC 9293, 3.8.6.2.1)
  pub snd_wnd : S → ℕ
  pub unsent : S → ℕ
  -- the window that a segment advertises, and RCV.BUFF, the receive buffer (RFC 9293, 3.8.6.2.2): in bytes
  pub window : S → ℕ
  pub capacity : S → ℕ
  -- it is in a synchronized state: none of CLOSED, LISTEN, SYN-SENT and SYN-RECEIVED (RFC 9293, 3.5.2)
  pub is_synchronized : S → Bool
  -- in SYN-RECEIVED alone, the number of the peer's SYN, which is the one before RCV.NXT (RFC 9293, 3.4)
  pub peer_syn : S → Option ℕ
