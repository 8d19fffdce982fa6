use Rattle.tcp_conn.proofs.Segments.{alone_writable}
use Rattle.tcp_conn.proofs.endpoint.Endpoint.alone_fits.Goals as goal

pub returns : goal.returns
returns g c = alone_writable c.args.self.now c.args.due c.args.room c.requires.sendable c.requires.room
