-- What an end has pending (RFC 9293, 3.3.1 and 3.8.6), and the address of no peer.
use Rattle.std.specs.Prelude.{false, [], ◌∷◌, None}
use Rattle.tcp_conn.specs.declared.pending.Pending.{Pending}
use Rattle.tcp_halves.specs.declared.link.Peer.{Peer}

-- before any peer is known
abbrev pub no_peer : Peer
no_peer = record { addr = record { 0 = 0 ∷ 0 ∷ 0 ∷ 0 ∷ [] }; port = 0 }

abbrev pub nothing_pending : Pending
nothing_pending = record { syn = false; ack = false; probe = false; reset = None }

-- once the connection has ended nothing is pending but a waiting reset
abbrev pub only_reset_pending : Pending → Pending
only_reset_pending o = record o { syn = false; ack = false; probe = false }
