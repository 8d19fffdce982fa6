use Rattle.tcp_host.proofs.Apart.{same_socket, socket_itself}
use Rattle.tcp_host.proofs.laws.sockets_are_told_apart.Goals as goal

pub returns : goal.returns
returns c = (same_socket c.args.one c.args.other, socket_itself c.args.one c.args.other)
