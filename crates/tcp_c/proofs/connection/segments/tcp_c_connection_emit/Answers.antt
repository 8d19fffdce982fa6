use Rattle.std.proofs.Common.{◌≡◌, Some, length}
use Rattle.tcp_c.specs.Connections.{emitted_within}
use Rattle.tcp_c.proofs.Connected.{answered_by, emitted_by, moved_by, of, segment_by, written_by}
use Rattle.tcp_c.proofs.connection.segments.tcp_c_connection_emit.Goals as goal

pub returns-clause-state : goal.returns-clause-state
returns-clause-state c =
    let d = c.deref_mut.result.now in
    let h : c.args.handle.now.held.end ≡ Some d = (let t = c.in-Some.ensures.taken in let v = c.deref_mut.ensures.value in cc) in
    let n : c.put-2.new.self.held.end ≡ Some (of c.emit-sent.new.self) = (let p = c.put-2.ensures in let w = c.deref_mut.ensures.writes_back in cc) in
    moved_by (emitted_within c.args.now c.args.window (length c.args.out.now)) c.args.handle.now.held.end c.put-2.new.self.held.end d (of c.emit-sent.new.self) h n
    (emitted_by c.args.now c.args.window (length c.args.out.now) d c.emit-sent.new.self c.if-out-lt-EMIT_ROOM.false c.emit-sent.ensures.state)

pub returns-clause-answer : goal.returns-clause-answer
returns-clause-answer c =
    let d = c.deref_mut.result.now in
    let h : c.args.handle.now.held.end ≡ Some d = (let t = c.in-Some.ensures.taken in let v = c.deref_mut.ensures.value in cc) in
    answered_by c.args.now c.args.window (length c.args.out.now) c.args.handle.now.held.end d c.emit-sent.result c.emission_told-answer.result.0 h
    c.if-out-lt-EMIT_ROOM.false c.emit-sent.ensures.sent c.emission_told-answer.ensures.answer

pub returns-clause-bytes : goal.returns-clause-bytes
returns-clause-bytes c =
    let d = c.deref_mut.result.now in
    let h : c.args.handle.now.held.end ≡ Some d = (let t = c.in-Some.ensures.taken in let v = c.deref_mut.ensures.value in cc) in
    written_by c.args.now c.args.window c.args.handle.now.held.end d c.args.out.now c.emit-sent.new.out h c.if-out-lt-EMIT_ROOM.false c.emit-sent.ensures.written

pub returns-clause-segment : goal.returns-clause-segment
returns-clause-segment c =
    let d = c.deref_mut.result.now in
    let h : c.args.handle.now.held.end ≡ Some d = (let t = c.in-Some.ensures.taken in let v = c.deref_mut.ensures.value in cc) in
    segment_by c.args.now c.args.window (length c.args.out.now) c.args.handle.now.held.end d c.emit-sent.result c.emission_told-answer.result.1 h
    c.if-out-lt-EMIT_ROOM.false c.emit-sent.ensures.sent c.emission_told-answer.ensures.segment
