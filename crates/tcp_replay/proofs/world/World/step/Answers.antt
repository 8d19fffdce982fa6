use Rattle.tcp_replay.proofs.Words.{both, event_content, KeepsAllSegments, subst, sym, WorldState}
use Rattle.tcp_replay.proofs.run.Worlds.{damage_step, hints-sound, keeps_step, safe-sound, sound_step, unexpired_step}
use Rattle.tcp_replay.proofs.world.World.step.Goals as goal

-- two sound ends stay sound, whatever the event
pub invariant_of-self : goal.invariant_of-self
invariant_of-self g c =
    sound_step c.step_parties.result (both c.self.inside.life c.self.inside.a c.self.inside.b)
    (both c.self.inside.life c.step_parties.new.a c.step_parties.new.b) (event_content c.args.event.now) c.self.invariant
    c.step_parties.ensures.state c.step_parties.ensures.bytes c.step_parties.ensures.refused c.step_parties.ensures.err

pub returns-clause-safe : goal.returns-clause-safe
returns-clause-safe g c =
    safe-sound _ (sound_step c.step_parties.result (both c.self.inside.life c.self.inside.a c.self.inside.b)
    (both c.self.inside.life c.step_parties.new.a c.step_parties.new.b) (event_content c.args.event.now) c.self.invariant
    c.step_parties.ensures.state c.step_parties.ensures.bytes c.step_parties.ensures.refused c.step_parties.ensures.err)

pub returns-clause-hints : goal.returns-clause-hints
returns-clause-hints g c =
    hints-sound _ (sound_step c.step_parties.result (both c.self.inside.life c.self.inside.a c.self.inside.b)
    (both c.self.inside.life c.step_parties.new.a c.step_parties.new.b) (event_content c.args.event.now) c.self.invariant
    c.step_parties.ensures.state c.step_parties.ensures.bytes c.step_parties.ensures.refused c.step_parties.ensures.err)

pub returns-clause-damaged : goal.returns-clause-damaged
returns-clause-damaged g c = rw (← c.self.view_is)
    (damage_step c.step_parties.result (both c.self.inside.life c.self.inside.a c.self.inside.b)
    (both c.self.inside.life c.step_parties.new.a c.step_parties.new.b) (event_content c.args.event.now) c.self.invariant
    c.step_parties.ensures.state c.step_parties.ensures.outcome c.step_parties.ensures.bytes c.step_parties.ensures.refused)

pub returns-clause-unexpired : goal.returns-clause-unexpired
returns-clause-unexpired g c = rw (← c.self.view_is)
    (λ keeps. unexpired_step c.step_parties.result (both c.self.inside.life c.self.inside.a c.self.inside.b)
    (event_content c.args.event.now) c.self.invariant keeps c.step_parties.ensures.refused c.step_parties.ensures.memory)

pub returns-clause-keeps : goal.returns-clause-keeps
returns-clause-keeps g c keeps =
    keeps_step c.step_parties.result (both c.self.inside.life c.self.inside.a c.self.inside.b)
    (both c.self.inside.life c.step_parties.new.a c.step_parties.new.b) (event_content c.args.event.now) c.self.invariant
    c.step_parties.ensures.state c.step_parties.ensures.bytes c.step_parties.ensures.refused c.step_parties.ensures.err
    (subst (λ (w : WorldState). KeepsAllSegments w) (sym c.self.view_is) keeps)
