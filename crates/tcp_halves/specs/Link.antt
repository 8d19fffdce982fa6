-- What the two SYNs agreed on (RFC 9293, 3.7.1; RFC 7323, 2.2; RFC 2018, 2).
use Rattle.std.specs.Prelude.{false}
use Rattle.tcp_halves.specs.declared.link.Link.{Link}
use Rattle.tcp_halves.specs.Options.{default_mss}

-- before the peer's SYN was taken
abbrev pub new_link : Link
new_link = record { peer_mss = default_mss; scaling = false; peer_shift = 0; sack = false }
