use Rattle.std.proofs.Common.{rules, ap, codes, map, refl, string_bytes, Some, None, ◌≡◌}
use Rattle.clap.specs.Words.{subcommand_name_of}
use Rattle.kit_words.proofs.WordsLemmas.{form_words, formless_words, refused_words}
use Rattle.kit_words.proofs.command_line.read_words.Goals as goal

pub returns-in-Err-clause-refused : goal.returns-in-Err-clause-refused
returns-in-Err-clause-refused c = λ bad.
    refused_words _ _ _ c.in-Err.error c.in-Ok.ensures (ap (map string_bytes) c.as_slice.ensures.value) c.in-Err.ensures.kinds (search rules)

pub returns-in_err-file-clause-refused : goal.returns-in_err-file-clause-refused
returns-in_err-file-clause-refused c = λ bad.
    let no_file = c.in_err-file.ensures.none (search rules) in
    let named : subcommand_name_of c.in-Ok-try_get_matches_from.matches ≡ Some (codes "decode") = search rules in
    form_words _ _ _ c.in-Ok-try_get_matches_from.matches c.in-Some.form.now (codes "decode") None c.in-Ok.ensures (ap (map string_bytes) c.as_slice.ensures.value)
    c.in-Ok-try_get_matches_from.ensures.kinds c.in-Ok-try_get_matches_from.ensures.matches named refl c.in-Some.ensures.rows no_file

pub returns-in-Some-clause-asked : goal.returns-in-Some-clause-asked
returns-in-Some-clause-asked c =
    let named : subcommand_name_of c.in-Ok-try_get_matches_from.matches ≡ Some (codes "decode") = search rules in
    form_words _ _ _ c.in-Ok-try_get_matches_from.matches c.in-Some.form.now (codes "decode") (Some (string_bytes c.in_ok-file.field-0)) c.in-Ok.ensures (ap (map string_bytes) c.as_slice.ensures.value)
    c.in-Ok-try_get_matches_from.ensures.kinds c.in-Ok-try_get_matches_from.ensures.matches named refl c.in-Some.ensures.rows c.in_ok-file.ensures.found

pub returns-in_err-file-2-clause-refused : goal.returns-in_err-file-2-clause-refused
returns-in_err-file-2-clause-refused c = λ bad.
    let no_file = c.in_err-file-2.ensures.none (search rules) in
    let named : subcommand_name_of c.in-Ok-try_get_matches_from.matches ≡ Some (codes "replay") = search rules in
    form_words _ _ _ c.in-Ok-try_get_matches_from.matches c.in-Some-subcommand_matches.form.now (codes "replay") None c.in-Ok.ensures (ap (map string_bytes) c.as_slice.ensures.value)
    c.in-Ok-try_get_matches_from.ensures.kinds c.in-Ok-try_get_matches_from.ensures.matches named refl c.in-Some-subcommand_matches.ensures.rows no_file

pub returns-in-Some-subcommand_matches-clause-asked :
    goal.returns-in-Some-subcommand_matches-clause-asked
returns-in-Some-subcommand_matches-clause-asked c =
    let named : subcommand_name_of c.in-Ok-try_get_matches_from.matches ≡ Some (codes "replay") = search rules in
    form_words _ _ _ c.in-Ok-try_get_matches_from.matches c.in-Some-subcommand_matches.form.now (codes "replay") (Some (string_bytes c.in_ok-file-2.field-0)) c.in-Ok.ensures (ap (map string_bytes) c.as_slice.ensures.value)
    c.in-Ok-try_get_matches_from.ensures.kinds c.in-Ok-try_get_matches_from.ensures.matches named refl c.in-Some-subcommand_matches.ensures.rows c.in_ok-file-2.ensures.found

pub returns-clause-refused : goal.returns-clause-refused
returns-clause-refused c = λ bad.
    formless_words _ _ _ c.in-Ok-try_get_matches_from.matches c.in-Ok.ensures (ap (map string_bytes) c.as_slice.ensures.value) c.in-Ok-try_get_matches_from.ensures.matches
    (λ e. search rules) (λ e. search rules)
