use Rattle.std.proofs.Common.{rules, ap₂, ◌≡◌, ◌∙◌}
use Rattle.std.proofs.lemmas.Result.{IfOk-weaker}
use Rattle.clap.specs.Words.{rule_of, with_rule}
use Rattle.kit_words.specs.Forms.{file_rule}
use Rattle.kit_words.proofs.command_line.form.Goals as goal

pub returns : goal.returns
returns c =
    let file_is : rule_of c.action-file.result ≡ file_rule = search rules in
    IfOk-weaker c.arg.result _ _ (λ form h. h.shape (search rules) ∙ ap₂ with_rule c.new-2.ensures.app file_is) c.arg.ensures
