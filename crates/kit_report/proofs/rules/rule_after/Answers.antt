use Rattle.std.proofs.Common.{arith}
use Rattle.kit_script.specs.Script.{turn_content}
use Rattle.kit_report.proofs.EventsBefore.{event_at, events_before}
use Rattle.kit_report.proofs.rules.rule_after.Goals as goal

pub returns : goal.returns
returns g c =
    rw (
      events_before turn_content c.args.n c.args.events.now,
      event_at turn_content c.args.n c.args.events.now c.index-events-n.result (omega (arith, c.if-n-events.false)),
      ← c.in_ok-apply_all.ensures,
    )
    c.event_rule_text.ensures
