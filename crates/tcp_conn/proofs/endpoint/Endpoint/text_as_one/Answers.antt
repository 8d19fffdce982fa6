use Rattle.std.proofs.Common.{◌≡◌, ◌∙◌, ◌*◌, ap, max, min, subst, sym}
use Rattle.tcp_halves.specs.declared.sent.Sent.TheVariants.{NewText}
use Rattle.tcp_halves.specs.Sender.{IsSender}
use Rattle.tcp_conn.specs.declared.emit.due.Due.TheVariants.{Text}
use Rattle.tcp_conn.specs.State.{State}
use Rattle.tcp_conn.specs.Train.{text_as_one}
use Rattle.tcp_conn.specs.Writing.{IsWritable}
use Rattle.tcp_conn.proofs.Together.{run_writable}
use Rattle.tcp_conn.proofs.endpoint.Endpoint.text_as_one.Goals as goal

pub returns-clause-writable : goal.returns-clause-writable
returns-clause-writable g c =
    let s : State = c.args.self.now in
    let sound : IsSender s.sending = subst IsSender (ap (λ inside. inside.sender) c.self-inside.view_is ∙ ap (λ (s : State). s.sending) c.self.view_is) c.self-inside.invariant in
    let value : c.max.result ≡ text_as_one s.sending c.args.segments c.args.each =
    c.max.ensures ∙ ap (max c.args.each) (c.min.ensures ∙ ap (min (c.args.segments * c.args.each)) c.text_allowed.ensures.value) in
    subst (λ n. IsWritable s (Text (NewText c.args.start n)) c.args.room) (sym value)
    (run_writable s c.args.start c.args.each c.args.segments c.args.room c.requires.together sound c.requires.room)
