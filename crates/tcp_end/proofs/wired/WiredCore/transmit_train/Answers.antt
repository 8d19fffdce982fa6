use Rattle.std.proofs.Common.{length, ap, subst, sym, ◌∙◌}
use Rattle.tcp_driver.specs.Rows.{IsRow}
use Rattle.tcp_end.proofs.Trains.{after_row, idle_train, is_row, none_sent}
use Rattle.tcp_end.proofs.Within.{under}
use Rattle.tcp_end.proofs.wired.WiredCore.transmit_train.Goals as goal
use Rattle.tcp_end.specs.Wired.{machine}

pub returns-in_err-train-clause-state : goal.returns-in_err-train-clause-state
returns-in_err-train-clause-state g c = ap under c.train_within.ensures.state ∙ after_row c.args.self.now c.args.window c.args.most (length c.args.out.now)

pub returns-in_err-train-clause-none : goal.returns-in_err-train-clause-none
returns-in_err-train-clause-none g c none =
    none_sent c.args.self.now c.args.window c.args.most (length c.args.out.now) (sym c.in_err-train.ensures.train)

pub returns-in_err-train-clause-idle : goal.returns-in_err-train-clause-idle
returns-in_err-train-clause-idle g c none =
    ap under c.train_within.ensures.state
    ∙ idle_train c.args.self.now c.args.window c.args.most (length c.args.out.now) (sym c.in_err-train.ensures.train)

pub returns-clause-state : goal.returns-clause-state
returns-clause-state g c = ap under c.train_within.ensures.state ∙ after_row c.args.self.now c.args.window c.args.most (length c.args.out.now)

pub returns-clause-turns : goal.returns-clause-turns
returns-clause-turns g c =
    subst (λ row. IsRow machine c.args.self.now c.args.window row) (sym c.row_by.ensures)
    (is_row c.args.self.now c.args.window c.in_ok-train.train c.in_ok-train.ensures.some c.in_ok-train.ensures.whole c.in_ok-train.ensures.turns)
