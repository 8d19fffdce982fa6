use Rattle.std.proofs.Common.{◌≡◌, ◌∙◌, ap}
use Rattle.tcp_driver.proofs.Standing.{stands_coded}
use Rattle.tcp_driver.specs.Codes.{wanted_by}
use Rattle.tcp_driver.specs.Times.{Times, stands}
use Rattle.tcp_driver.proofs.timers.Timers.note.Goals as goal

pub invariant_of-self : goal.invariant_of-self
invariant_of-self c = (
  c.self.invariant.0,
  λ known. ap (λ (t : Times). stands t (wanted_by c.code_of-self-inside.result) t.una) c.self.view_is
      ∙ stands_coded c.args.self.now c.args.wants c.code_of-self-inside.result c.code_of-self-inside.ensures
      c.requires.retransmit c.requires.since c.requires.rests c.requires.reorder c.requires.time_wait c.requires.left,
)
