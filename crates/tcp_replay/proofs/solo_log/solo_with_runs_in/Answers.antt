use Rattle.tcp_replay.proofs.Words.{◌<◌, HasRanges, length, map, rules, solo_content, ◌≤◌}
use Rattle.tcp_replay.proofs.{one_end.SoloLogs.log-begins, one_end.SoloLogs.log-ends, one_end.SoloLogs.log-goes_on, run.Runs.all-go_on, run.Runs.content_at, run.Runs.content_inside}
use Rattle.tcp_replay.proofs.solo_log.solo_with_runs_in.Goals as goal

pub loop-i-init : goal.loop-i-init
loop-i-init g c =
    let e = c.in-Ok.ensures in
    record { made = e.made; so_far = log-begins c.args.config c.args.runs c.in-Ok.log e.endpoint e.accepted e.delivered e.emitted e.outcomes e.ended; ranges = tt }

pub loop-i-preserved : goal.loop-i-preserved
loop-i-preserved g c =
    let inside : c.loop-i.i < length c.args.events.now = search rules in
    let list = map solo_content c.args.events.now in
    let event = solo_content c.index-events-i.result in
    let within = content_inside solo_content c.args.events.now c.loop-i.i inside in
    let at = content_at solo_content c.args.events.now c.loop-i.i c.index-events-i.result inside c.index-events-i.is in
    let e = c.in_default.ensures in
    record {
      made = c.loop-i.invariant.made;
      so_far = log-goes_on c.args.config c.args.runs list c.loop-i.i c.loop-i.log c.step.new.self event within at c.loop-i.invariant.so_far
          (record { endpoint = e.endpoint; accepted = e.accepted; delivered = e.delivered; emitted = e.emitted; ended = e.ended; outcomes = e.outcomes });
      ranges = all-go_on HasRanges list c.loop-i.i event within at c.loop-i.invariant.ranges e.ranges;
    }

pub returns-clause-sends_its_users : goal.returns-clause-sends_its_users
returns-clause-sends_its_users g c =
    let done : length c.args.events.now ≤ c.loop-i.i = search rules in
    (log-ends c.args.config c.args.runs solo_content c.args.events.now c.loop-i.i c.loop-i.log c.loop-i.invariant.made done c.loop-i.invariant.ranges
    c.loop-i.invariant.so_far).sends

pub returns-clause-delivers_what_came : goal.returns-clause-delivers_what_came
returns-clause-delivers_what_came g c =
    let done : length c.args.events.now ≤ c.loop-i.i = search rules in
    (log-ends c.args.config c.args.runs solo_content c.args.events.now c.loop-i.i c.loop-i.log c.loop-i.invariant.made done c.loop-i.invariant.ranges
    c.loop-i.invariant.so_far).delivers

pub returns-clause-acknowledges_in_order : goal.returns-clause-acknowledges_in_order
returns-clause-acknowledges_in_order g c =
    let done : length c.args.events.now ≤ c.loop-i.i = search rules in
    (log-ends c.args.config c.args.runs solo_content c.args.events.now c.loop-i.i c.loop-i.log c.loop-i.invariant.made done c.loop-i.invariant.ranges
    c.loop-i.invariant.so_far).acknowledges
