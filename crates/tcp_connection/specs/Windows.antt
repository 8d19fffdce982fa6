-- WHEN A WINDOW IS ADVERTISED (RFC 9293, 3.8.6.2.2).
use Rattle.std.specs.Prelude.{ℕ, ◌-◌, ◌*◌, ◌/◌, nat_le, nat_lt, Bool, max, min}
use Rattle.tcp_connection.specs.Connection.{Connecting, core_of, edge_by}
use Rattle.tcp_connection.specs.Insight.{Insight}

-- A WINDOW IS WORTH ADVERTISING that has grown by a full segment, or by half of the receive buffer, since it was advertised
-- last (RFC 9293, 3.8.6.2.2), and of which the peer has less than half of that buffer left (own: with more a sender isn't held
-- up, and the next segment that goes out for another reason has the window as it is)
abbrev pub worth : {S W : Type 0} → Insight S → Connecting S W → ℕ
worth i k = max 1 (min k.smss (i.capacity (core_of k) / 2))

abbrev pub has_grown : {S W : Type 0} → Insight S → Connecting S W → Bool
has_grown i k = nat_le (worth i k) (edge_by i (core_of k) - k.edge)

abbrev pub is_scarce : {S W : Type 0} → Insight S → Connecting S W → Bool
is_scarce i k = nat_lt (2 * (k.edge - i.rcv_nxt (core_of k))) (i.capacity (core_of k))
