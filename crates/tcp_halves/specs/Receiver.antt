-- The half that receives (RFC 9293, 3.4 and 3.10.7.4).
use Rattle.std.specs.Prelude.{ℕ, ◌-◌, Bool, false, ◌==◌, true, ◌&&◌, if◌then◌else◌, List, length, ◌≡◌, min, nat_lt, ◌^◌, ◌+◌, ◌%◌}
use Rattle.tcp_wire.specs.Position.{number, offset}
use Rattle.tcp_reasm.specs.Agreement.{advance_of}
use Rattle.tcp_reasm.specs.Reassembly.{Inbox, window, after_read, default_runs, empty_with_runs, after_place, place_answer, without_held}

-- the half that receives
pub record Receiving : Type 0 where
  -- the peer's SYN was taken
  pub opened : Bool
  -- RCV.NXT, a number
  pub rcv_nxt : ℕ
  -- the text bytes that came in order; the count stays at its maximum once it has reached it
  pub ordered : ℕ
  -- the peer's FIN was taken
  pub finished : Bool
  pub inbox : Inbox

-- the maximum of that count
abbrev pub max_ordered : ℕ
max_ordered = 2 ^ 64 - 1

-- no SYN of the peer was taken yet
abbrev pub receiving_with_runs : ℕ → ℕ → Receiving
receiving_with_runs capacity most = record { opened = false; rcv_nxt = 0; ordered = 0; finished = false; inbox = empty_with_runs capacity most }

abbrev pub new_receiving : ℕ → Receiving
new_receiving capacity = receiving_with_runs capacity default_runs

-- the next position of the peer's direction that is expected: after what came in order, and after the peer's FIN once that
-- was taken. It stays at its maximum once it has reached it
abbrev pub rcv_position : Receiving → ℕ
rcv_position r = min max_ordered (1 + r.ordered + (if r.finished then 1 else 0))

-- the peer's SYN with this number is taken (RFC 9293, 3.10.7.2)
abbrev pub with_syn : Receiving → ℕ → Receiving
with_syn r seq = record r { opened = true; rcv_nxt = number seq 1 }

-- the receiver with this inbox in place of its own, after n more bytes came in order
abbrev pub with_inbox : Receiving → Inbox → ℕ → Receiving
with_inbox r inbox n = record r {
  rcv_nxt = (r.rcv_nxt + n) % 2 ^ 32;
  ordered = min max_ordered (r.ordered + n);
  inbox = inbox;
}

-- TEXT (RFC 9293, 3.10.7.4, seventh): it is placed at its distance from RCV.NXT
unfoldable pub after_text : Receiving → ℕ → List ℕ → Receiving
after_text r seq text =
    with_inbox r (after_place r.inbox (offset r.rcv_nxt seq) text) (advance_of (place_answer r.inbox (offset r.rcv_nxt seq) text))

-- THE PEER'S FIN (RFC 9293, 3.10.7.4, eighth) is taken only in order: its number is RCV.NXT, and the window is open
abbrev pub is_fin_due : Receiving → ℕ → Bool
is_fin_due r number = (number == r.rcv_nxt) && nat_lt 0 (window r.inbox)

-- what is kept out of order is discarded
abbrev pub with_fin : Receiving → Receiving
with_fin r = record r { rcv_nxt = number r.rcv_nxt 1; finished = true; inbox = without_held r.inbox }

-- the user takes at most n unread bytes
abbrev pub after_delivering : Receiving → ℕ → Receiving
after_delivering r n = record r { inbox = after_read r.inbox n }

-- what is unread or kept out of order is discarded
abbrev pub without_bytes : Receiving → Receiving
without_bytes r = record r { inbox = empty_with_runs r.inbox.capacity r.inbox.most_runs }

-- unread bytes and window together make the capacity: the window has one offset for each byte that is kept out of order or
-- may come
pub record HoldsWithin (capacity : ℕ) (inbox : Inbox) : Type 0 where
  pub size : inbox.capacity ≡ capacity
  pub received : length inbox.unread + length inbox.held ≡ capacity
