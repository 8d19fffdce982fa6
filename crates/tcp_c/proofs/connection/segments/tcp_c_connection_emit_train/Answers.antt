use Rattle.std.proofs.Common.{◌≡◌, Some, length, sym, ap, ◌∙◌}
use Rattle.tcp_c.specs.ConnectionTrains.{after_train, train_answer, train_found}
use Rattle.tcp_c.proofs.Connected.{moved_by, of, train_answered_by, train_by, train_written_by, trained_by}
use Rattle.tcp_c.proofs.connection.segments.tcp_c_connection_emit_train.Goals as goal

pub returns-in_default-sent-clause-state : goal.returns-in_default-sent-clause-state
returns-in_default-sent-clause-state c =
    let d = c.deref_mut.result.now in
    let h : c.args.handle.now.held.end ≡ Some d = (let t = c.in-Some.ensures.taken in let v = c.deref_mut.ensures.value in cc) in
    let n : c.put-2.new.self.held.end ≡ Some (of c.emit_train-sent.new.self) = (let p = c.put-2.ensures in let w = c.deref_mut.ensures.writes_back in cc) in
    moved_by (after_train c.args.now c.args.window c.args.most (length c.args.out.now)) c.args.handle.now.held.end c.put-2.new.self.held.end d (of c.emit_train-sent.new.self) h n
    (trained_by c.args.now c.args.window c.args.most (length c.args.out.now) d c.emit_train-sent.new.self c.if-out-lt-EMIT_ROOM.false c.emit_train-sent.ensures.state)

pub returns-clause-state : goal.returns-clause-state
returns-clause-state c =
    let d = c.deref_mut.result.now in
    let h : c.args.handle.now.held.end ≡ Some d = (let t = c.in-Some.ensures.taken in let v = c.deref_mut.ensures.value in cc) in
    let n : c.put-2.new.self.held.end ≡ Some (of c.emit_train-sent.new.self) = (let p = c.put-2.ensures in let w = c.deref_mut.ensures.writes_back in cc) in
    moved_by (after_train c.args.now c.args.window c.args.most (length c.args.out.now)) c.args.handle.now.held.end c.put-2.new.self.held.end d (of c.emit_train-sent.new.self) h n
    (trained_by c.args.now c.args.window c.args.most (length c.args.out.now) d c.emit_train-sent.new.self c.if-out-lt-EMIT_ROOM.false c.emit_train-sent.ensures.state)

pub returns-in_default-sent-clause-answer : goal.returns-in_default-sent-clause-answer
returns-in_default-sent-clause-answer c =
    let d = c.deref_mut.result.now in
    let h : c.args.handle.now.held.end ≡ Some d = (let t = c.in-Some.ensures.taken in let v = c.deref_mut.ensures.value in cc) in
    train_answered_by c.args.now c.args.window c.args.most (length c.args.out.now) c.args.handle.now.held.end d c.emit_train-sent.result 53 h
    c.if-out-lt-EMIT_ROOM.false c.emit_train-sent.ensures.train (sym (ap train_answer c.in_default-sent.is))

pub returns-in_default-sent-clause-bytes : goal.returns-in_default-sent-clause-bytes
returns-in_default-sent-clause-bytes c =
    let d = c.deref_mut.result.now in
    let h : c.args.handle.now.held.end ≡ Some d = (let t = c.in-Some.ensures.taken in let v = c.deref_mut.ensures.value in cc) in
    train_written_by c.args.now c.args.window c.args.most c.args.handle.now.held.end d c.args.out.now c.emit_train-sent.new.out h
    c.if-out-lt-EMIT_ROOM.false c.emit_train-sent.ensures.written

pub returns-in_default-sent-clause-train : goal.returns-in_default-sent-clause-train
returns-in_default-sent-clause-train c =
    let d = c.deref_mut.result.now in
    let h : c.args.handle.now.held.end ≡ Some d = (let t = c.in-Some.ensures.taken in let v = c.deref_mut.ensures.value in cc) in
    train_by c.args.now c.args.window c.args.most (length c.args.out.now) c.args.handle.now.held.end d c.emit_train-sent.result c.no_train.result h
    c.if-out-lt-EMIT_ROOM.false c.emit_train-sent.ensures.train (c.no_train.ensures ∙ sym (ap train_found c.in_default-sent.is))

pub returns-clause-answer : goal.returns-clause-answer
returns-clause-answer c =
    let d = c.deref_mut.result.now in
    let h : c.args.handle.now.held.end ≡ Some d = (let t = c.in-Some.ensures.taken in let v = c.deref_mut.ensures.value in cc) in
    train_answered_by c.args.now c.args.window c.args.most (length c.args.out.now) c.args.handle.now.held.end d c.emit_train-sent.result 0 h
    c.if-out-lt-EMIT_ROOM.false c.emit_train-sent.ensures.train (sym (ap train_answer c.in-Some-sent.is))

pub returns-clause-bytes : goal.returns-clause-bytes
returns-clause-bytes c =
    let d = c.deref_mut.result.now in
    let h : c.args.handle.now.held.end ≡ Some d = (let t = c.in-Some.ensures.taken in let v = c.deref_mut.ensures.value in cc) in
    train_written_by c.args.now c.args.window c.args.most c.args.handle.now.held.end d c.args.out.now c.emit_train-sent.new.out h
    c.if-out-lt-EMIT_ROOM.false c.emit_train-sent.ensures.written

pub returns-clause-train : goal.returns-clause-train
returns-clause-train c =
    let d = c.deref_mut.result.now in
    let h : c.args.handle.now.held.end ≡ Some d = (let t = c.in-Some.ensures.taken in let v = c.deref_mut.ensures.value in cc) in
    train_by c.args.now c.args.window c.args.most (length c.args.out.now) c.args.handle.now.held.end d c.emit_train-sent.result c.record_of.result h
    c.if-out-lt-EMIT_ROOM.false c.emit_train-sent.ensures.train (c.record_of.ensures ∙ sym (ap train_found c.in-Some-sent.is))
