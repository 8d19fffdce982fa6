use Rattle.std.proofs.Common.{◌≡◌, ⊎_elim, ap, length}
use Rattle.tcp_conn.specs.Due.{count_of}
use Rattle.tcp_conn.proofs.Parting.{bare_writable}
use Rattle.tcp_conn.proofs.endpoint.Endpoint.front_of.Goals as goal

pub write-len-requires : goal.write-len-requires
write-len-requires g c =
    let none : count_of c.args.due ≡ 0 = ⊎_elim (ap count_of) (⊎_elim (ap count_of) (ap count_of)) c.in-Reset.is in
    bare_writable c.args.self.now c.args.due (length c.args.header.now) c.requires.sendable none c.requires.room
