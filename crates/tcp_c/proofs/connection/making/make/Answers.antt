use Rattle.std.proofs.Common.{rules, ◌∙◌, subst, Some, refl}
use Rattle.tcp_conn.specs.NewEnd.{end_with_runs}
use Rattle.tcp_halves.specs.Config.{IsGoodConfig}
use Rattle.tcp_c.specs.Configs.{HasGoodRuns}
use Rattle.tcp_c.specs.Connections.{opens}
use Rattle.tcp_c.proofs.connection.making.make.Goals as goal

-- the config is good where an end was made from it
pub returns-then-too_many-clause-bad_runs : goal.returns-then-too_many-clause-bad_runs
returns-then-too_many-clause-bad_runs c = (λ p. ((search rules, search rules), subst IsGoodConfig c.config_of.ensures c.in-Ok.ensures.fit, search rules), λ p. refl)

pub returns-else-too_many-clause-good : goal.returns-else-too_many-clause-good
returns-else-too_many-clause-good c = (λ p. search rules, λ p. ((search rules, search rules), subst IsGoodConfig c.config_of.ensures c.in-Ok.ensures.fit, search rules))

-- it is made from what C's records say
pub returns-else-too_many-clause-made : goal.returns-else-too_many-clause-made
returns-else-too_many-clause-made c =
    let few : HasGoodRuns c.args.config.now = search rules in
    λ p. c.put-in-Ok.ensures ∙ ((λ i. Some (c.in-Ok.ensures.new i)) ∙ (λ i. Some (opens (end_with_runs (c.config_of.ensures i) (c.runs_within.ensures.value few i))
    (record { peer = c.args.peer; rules = c.rules_of.ensures i; limits = c.limits_of.ensures i; now = c.args.now }))))
