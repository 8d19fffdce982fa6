-- WHAT AN END OF A CONNECTION HAS IN THE NETWORK, under any window.
use Rattle.std.specs.Prelude.{◌≡◌, ℕ, ◌+◌, ◌<◌, ◌≤◌, Bool, true, not, ◌&&◌, length, IfSome, IfOk}
use Rattle.tcp_timing.specs.declared.rules.Rules.{Rules}
use Rattle.tcp_congestion.specs.Control.{Control}
use Rattle.tcp_driver.specs.declared.limits.Limits.{Limits}
use Rattle.tcp_halves.specs.declared.config.Config.{Config}
use Rattle.tcp_halves.specs.declared.link.Peer.{Peer}
use Rattle.tcp_halves.specs.Config.{IsConfig}
use Rattle.tcp_halves.specs.Sender.{Sending, end_of_text}
use Rattle.tcp_conn.specs.NewEnd.{end_with_runs}
use Rattle.tcp_conn.specs.Phase.{is_closed, is_handshake}
use Rattle.tcp_conn.specs.State.{State}
use Rattle.tcp_end.specs.declared.wired.Wired.{Wired}
use Rattle.tcp_end.specs.Wired.{connected, listening, machine}
use Rattle.tcp_flow.specs.FlightOfEnds.{IsSized}
use Rattle.tcp_flow.specs.Wired.{smss_of}
use Rattle.tcp_network.specs.Network.{CountsNetwork, NetworkStaysInWindow}

-- BEFORE A CLOSE nothing is sent but the SYN and text (RFC 9293, 3.10.4): SND.UNA lies no further than what was released, and neither
-- SND.NXT nor what has to be sent again past the text
pub record IsOpen (s : Sending) : Type 0 where
  pub una : s.snd_una ≤ 1 + s.released
  pub nxt : s.snd_nxt ≤ end_of_text s
  pub range : IfSome s.resend (λ range. range.end ≤ end_of_text s)

-- WHAT ALWAYS HOLDS of the half that sends, so that an acknowledgement takes no more bytes off the queue, and marks with them, than
-- numbers off what is in flight (RFC 9293, 3.10.7.4, fifth)
pub record IsInOrder (s : Sending) (handshake unclosed : Bool) : Type 0 where
  -- there are no more marks than bytes,
  pub flags : length s.queue.marks ≤ length s.queue.bytes
  -- no byte that is queued lies before SND.UNA,
  pub una : 0 < length s.queue.bytes → s.snd_una ≤ 1 + s.released
  -- and in the handshake nothing but the SYN was sent
  pub syn : handshake ≡ true → s.snd_nxt ≤ 1 + s.released
  pub text : unclosed ≡ true → IsOpen s

-- no close was asked for, and the connection isn't over
abbrev pub is_unclosed : State → Bool
is_unclosed s = not s.closing && not (is_closed s.phase)

abbrev pub IsPlaced : {A : Type 0} → Wired A → Type 0
IsPlaced w = IsSized w × IsInOrder w.end.sending (is_handshake w.end.phase) (is_unclosed w.end)

-- from where it is opened on
abbrev pub EachOpensPlaced : Type 0 → Type 0
EachOpensPlaced A =
    (c : Config) (runs : ℕ) (peer : Peer) (rules : Rules) (limits : Limits) (now : ℕ) → IsConfig c
    → IfOk (connected {A = A} (end_with_runs c runs) peer rules limits now) (λ d. IsPlaced d.core)
    × IfOk (listening {A = A} (end_with_runs c runs) rules limits now) (λ d. IsPlaced d.core)

abbrev pub EndCountsNetwork : Type 0 → Type 0
EndCountsNetwork A = CountsNetwork (machine {A = A}) IsPlaced

abbrev pub EndNetworkStaysInWindow : Type 0 → {W : Type 0} → Control W → Type 0
EndNetworkStaysInWindow A c = NetworkStaysInWindow (machine {A = A}) IsPlaced (λ w. smss_of w.end) c
