use Rattle.tcp_replay.proofs.Words.{◌<◌, ap, both, event_content, HasBytes, HintsAreTrue, IsSafe, length, map, rules, subst, WorldState}
use Rattle.tcp_replay.proofs.run.Runs.{all-go_on, content_at, content_inside, refused_by, run_begins, run_goes_on, run_out_of_memory, run_refused}
use Rattle.tcp_replay.proofs.run.Worlds.{hints-sound, safe-sound}
use Rattle.tcp_replay.proofs.world.World.run.Goals as goal

pub loop-i-init : goal.loop-i-init
loop-i-init g c = record {
  so_far = run_begins c.args.self.now (map event_content c.args.events.now);
  bytes = tt;
  keeps = λ keeps. keeps;
  safe = subst (λ (w : WorldState). IsSafe w) c.self.view_is (safe-sound (both c.self.inside.life c.self.inside.a c.self.inside.b) c.self.invariant);
  hints = subst (λ (w : WorldState). HintsAreTrue w) c.self.view_is (hints-sound (both c.self.inside.life c.self.inside.a c.self.inside.b) c.self.invariant);
}

pub returns-in-Err-clause-refused : goal.returns-in-Err-clause-refused
returns-in-Err-clause-refused g c =
    let inside : c.loop-i.i < length c.args.events.now = search rules in
    run_refused c.args.self.now c.loop-i.self c.step.new.self (map event_content c.args.events.now) c.loop-i.i
    (event_content c.index-events-i.result) c.in-Err.error _
    (content_inside event_content c.args.events.now c.loop-i.i inside)
    (content_at event_content c.args.events.now c.loop-i.i c.index-events-i.result inside c.index-events-i.is) c.loop-i.invariant.so_far
    c.in-Err.ensures.refused c.in-Err.ensures.memory c.in-Err.ensures.unchanged

pub returns-in-Err-clause-memory : goal.returns-in-Err-clause-memory
returns-in-Err-clause-memory g c =
    let inside : c.loop-i.i < length c.args.events.now = search rules in
    run_out_of_memory c.args.self.now c.loop-i.self c.step.new.self (map event_content c.args.events.now) c.loop-i.i
    (event_content c.index-events-i.result) c.in-Err.error
    (content_inside event_content c.args.events.now c.loop-i.i inside)
    (content_at event_content c.args.events.now c.loop-i.i c.index-events-i.result inside c.index-events-i.is) c.loop-i.invariant.so_far
    c.in-Err.ensures.refused c.in-Err.ensures.memory c.in-Err.ensures.unchanged

pub loop-i-preserved : goal.loop-i-preserved
loop-i-preserved g c =
    let inside : c.loop-i.i < length c.args.events.now = search rules in
    record {
      so_far = run_goes_on c.args.self.now c.loop-i.self c.step.new.self (map event_content c.args.events.now) c.loop-i.i
          (event_content c.index-events-i.result) c.in_default.field-0
          (content_inside event_content c.args.events.now c.loop-i.i inside)
          (content_at event_content c.args.events.now c.loop-i.i c.index-events-i.result inside c.index-events-i.is) c.loop-i.invariant.so_far
          c.in_default.ensures.refused c.in_default.ensures.state;
      bytes = all-go_on HasBytes (map event_content c.args.events.now) c.loop-i.i (event_content c.index-events-i.result)
          (content_inside event_content c.args.events.now c.loop-i.i inside)
          (content_at event_content c.args.events.now c.loop-i.i c.index-events-i.result inside c.index-events-i.is)
          c.loop-i.invariant.bytes c.in_default.ensures.bytes;
      keeps = λ keeps. c.in_default.ensures.keeps (c.loop-i.invariant.keeps keeps);
      safe = c.in_default.ensures.safe;
      hints = c.in_default.ensures.hints;
    }

pub returns-in-Err-clause-unexpired : goal.returns-in-Err-clause-unexpired
returns-in-Err-clause-unexpired g c keeps is = c.in-Err.ensures.unexpired (c.loop-i.invariant.keeps keeps) (ap refused_by is)
