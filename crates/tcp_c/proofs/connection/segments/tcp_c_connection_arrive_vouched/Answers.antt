use Rattle.std.proofs.Common.{◌≡◌, Some, true}
use Rattle.tcp_c.specs.Connections.{arrived_by}
use Rattle.tcp_c.proofs.Connected.{moved_by, of, with_connection}
use Rattle.tcp_c.proofs.connection.segments.tcp_c_connection_arrive_vouched.Goals as goal

pub returns-clause-state : goal.returns-clause-state
returns-clause-state c =
    let d = c.deref_mut.result.now in
    let h : c.args.handle.now.held.end ≡ Some d = (let t = c.in-Some.ensures.taken in let v = c.deref_mut.ensures.value in cc) in
    let n : c.put.new.self.held.end ≡ Some (of c.arrive_vouched.new.self) = (let p = c.put.ensures in let w = c.deref_mut.ensures.writes_back in cc) in
    moved_by (arrived_by true c.args.now c.args.src.now.byte c.args.dst.now.byte c.args.bytes.now) c.args.handle.now.held.end c.put.new.self.held.end
    d (of c.arrive_vouched.new.self) h n (with_connection c.arrive_vouched.new.self _ c.arrive_vouched.ensures.state)
