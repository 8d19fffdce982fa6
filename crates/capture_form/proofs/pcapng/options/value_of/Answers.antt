use Rattle.std.proofs.Common.{◌≡◌, ◌+◌, ◌≤◌, ℕ, length, take, drop, sym, ap, ◌∙◌, arith}
use Rattle.std.proofs.lemmas.List.{length-drop}
use Rattle.capture_form.specs.Numbers.{number_in}
use Rattle.capture_form.specs.Blocks.{padded, option_len, value_of}
use Rattle.capture_form.proofs.Options.{option_end, option_found, option_passed}
use Rattle.capture_form.proofs.pcapng.options.value_of.Goals as goal

pub returns-then-found-eq0 : goal.returns-then-found-eq0
returns-then-found-eq0 c =
    sym (option_end c.args.order c.args.code c.loop-rest.rest.now (sym c.read_u16-found.ensures ∙ c.if-found-eq0.true)) ∙ c.loop-rest.invariant

pub returns-then-found-code : goal.returns-then-found-code
returns-then-found-code c =
    let len : c.from-len.result ≡ option_len c.args.order c.loop-rest.rest.now = c.from-len.ensures ∙ c.read_u16.ensures ∙ ap (number_in c.args.order 2) c.behind.ensures in
    let fits : 4 + option_len c.args.order c.loop-rest.rest.now ≤ length c.loop-rest.rest.now = omega (arith, len, ap length c.behind-value.ensures, length-drop 4 c.loop-rest.rest.now) in
    ap (λ (n : ℕ). take n c.behind-value.result.now) len
    ∙ ap (take (option_len c.args.order c.loop-rest.rest.now)) c.behind-value.ensures
    ∙ sym (option_found c.args.order c.args.code c.loop-rest.rest.now fits (λ is. c.if-found-eq0.false (c.read_u16-found.ensures ∙ is)) (sym c.read_u16-found.ensures ∙ c.if-found-code.true))
    ∙ c.loop-rest.invariant

pub loop-rest-preserved : goal.loop-rest-preserved
loop-rest-preserved c =
    let len : c.from-len.result ≡ option_len c.args.order c.loop-rest.rest.now = c.from-len.ensures ∙ c.read_u16.ensures ∙ ap (number_in c.args.order 2) c.behind.ensures in
    let fits : 4 + option_len c.args.order c.loop-rest.rest.now ≤ length c.loop-rest.rest.now = omega (arith, len, ap length c.behind-value.ensures, length-drop 4 c.loop-rest.rest.now) in
    ap (value_of c.args.order c.args.code) (c.behind-rest.ensures ∙ ap (λ (n : ℕ). drop (4 + n) c.loop-rest.rest.now) (c.padded.ensures ∙ ap padded len))
    ∙ option_passed c.args.order c.args.code c.loop-rest.rest.now fits (λ is. c.if-found-eq0.false (c.read_u16-found.ensures ∙ is)) (λ is. c.if-found-code.false (c.read_u16-found.ensures ∙ is))
    ∙ c.loop-rest.invariant
