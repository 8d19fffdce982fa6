use Rattle.std.proofs.Common.{false, sym, ◌∙◌}
use Rattle.tcp_driver.specs.declared.driver.Taken.TheVariants.{Done}
use Rattle.tcp_flow.proofs.Told.{heard_by}
use Rattle.tcp_flow.proofs.flow.Flow.arrive_limited.Goals as goal

pub returns-in-Done-clause-state : goal.returns-in-Done-clause-state
returns-in-Done-clause-state g c =
    heard_by g.C.Core.machine g.C.Paced.smss_of g.W.Congestion.control
    (record { driving = c.self.inside.driver; window = c.self.inside.window; shut = c.self.inside.is_shut; sent_at = c.self.inside.sent_at; drops = c.self.inside.drops; repeats = c.self.inside.repeats; patient = c.self.inside.is_patient })
    c.args.self.now c.args.now c.args.src c.args.dst c.args.bytes.now false g.C.Core.arrival_answer
    c.arrive-taken.new.self c.una-una.result c.reported_before-reported.result (Done c.in-Done.report c.in-Done.field-1) c.told.new.self
    c.self.view_is c.arrive-taken.ensures.state (let u = c.una-una.ensures in let o = c.core.ensures in cc)
    (let r = c.reported_before-reported.ensures in let v = c.self.view_is in cc)
    (sym c.in-Done.is ∙ c.arrive-taken.ensures.answer) c.told.ensures
