use Rattle.std.proofs.Common.{ap, ap₂, ◌∙◌}
use Rattle.std.proofs.lemmas.Result.{IfOk-weaker}
use Rattle.clap.specs.Words.{App, with_subcommand}
use Rattle.kit_words.specs.Forms.{wanting_form}
use Rattle.kit_words.proofs.WordsLemmas.{form_local, required_app}
use Rattle.kit_words.proofs.command_line.forms.Goals as goal

pub returns : goal.returns
returns c =
    let top_is = required_app c.new.result c.subcommand_required.result c.subcommand_required.ensures ∙ ap wanting_form c.new.ensures.app in
    let first_is = c.in_ok-subcommand.ensures.shape (form_local c.in_ok-form.field-0 _ c.in_ok-form.ensures) ∙ ap₂ with_subcommand top_is (ap (λ (a : App). a.top) c.in_ok-form.ensures) in
    IfOk-weaker c.subcommand-2.result _ _ (λ forms h. h.shape (form_local c.in_ok-form-2.field-0 _ c.in_ok-form-2.ensures)
    ∙ ap₂ with_subcommand first_is (ap (λ (a : App). a.top) c.in_ok-form-2.ensures)) c.subcommand-2.ensures
