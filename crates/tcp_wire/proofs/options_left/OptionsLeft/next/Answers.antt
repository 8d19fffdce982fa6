use Rattle.std.proofs.Common.{◌≡◌, ◌∷◌, refl, sym, ◌∙◌, arith}
use Rattle.tcp_wire.specs.Decoded.{options_of}
use Rattle.tcp_wire.specs.View.{option_content}
use Rattle.tcp_wire.proofs.Listed.{none_left, first_left}
use Rattle.tcp_wire.proofs.options_left.OptionsLeft.next.Goals as goal

pub invariant_of-self : goal.invariant_of-self
invariant_of-self c = (
  omega (arith, c.in-Some.ensures.shorter, c.self.invariant.0),
  (first_left c.self.inside.rest.now c.in-Some.behind.now (option_content c.in-Some.option) c.self.invariant.0 c.self.invariant.1 c.in-Some.ensures.value).0,
)

pub returns-in-Some-clause-some : goal.returns-in-Some-clause-some
returns-in-Some-clause-some c =
    let left = first_left c.self.inside.rest.now c.in-Some.behind.now (option_content c.in-Some.option) c.self.invariant.0 c.self.invariant.1 c.in-Some.ensures.value in
    sym c.self.view_is ∙ left.1

pub returns-in-Some-clause-none : goal.returns-in-Some-clause-none
returns-in-Some-clause-none c =
    let left = first_left c.self.inside.rest.now c.in-Some.behind.now (option_content c.in-Some.option) c.self.invariant.0 c.self.invariant.1 c.in-Some.ensures.value in
    let more : c.args.self.now ≡ option_content c.in-Some.option ∷ (options_of c.in-Some.behind.now).0 = sym c.self.view_is ∙ left.1 in
    (λ some. absurd cc, λ empty. absurd cc)

pub returns-in-None-clause-none : goal.returns-in-None-clause-none
returns-in-None-clause-none c =
    let empty = sym c.self.view_is ∙ none_left c.self.inside.rest.now c.self.invariant.1 c.in-None.ensures.value in
    (λ none. empty, λ same. refl)

pub returns-in-None-clause-end : goal.returns-in-None-clause-end
returns-in-None-clause-end c = λ none. sym c.self.view_is ∙ none_left c.self.inside.rest.now c.self.invariant.1 c.in-None.ensures.value
