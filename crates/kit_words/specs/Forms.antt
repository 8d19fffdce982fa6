-- The forms of the program, as clap reads a command.
use Rattle.std.specs.Prelude.{true, Some, codes}
use Rattle.clap.specs.Simple.{App, new_app, new_rule, on_top, with_rule, with_subcommand}
use Rattle.clap.specs.Walk.{Rule, Text}
use Rattle.clap.specs.declared.builder.action.ArgAction.TheVariants.{Set}

-- one file, which is required
abbrev pub file_rule : Rule
file_rule = record (new_rule (codes "FILE")) { required = true; action = Some Set }

-- a form of this name, with one file
abbrev pub form_app : Text → App
form_app name = with_rule (new_app name) file_rule

-- a program that requires a form
abbrev pub wanting_form : App → App
wanting_form = on_top (λ s. record s { subcommand_required = true })

-- the program, with its forms `decode` and `replay`
abbrev pub forms_app : App
forms_app = with_subcommand (with_subcommand (wanting_form (new_app (codes "tcpkit")))
    (form_app (codes "decode")).top) (form_app (codes "replay")).top
