-- From what clap's parse ensures to what the words request.
use Rattle.std.proofs.Common.{◌≡◌, ◌∙◌, Bool, cond, true, false, ◌||◌, List, [], ◌∷◌, Option, Some, None, option_map, refl, sym, ap, ap₂, subst, codes, inl, inr}
use Rattle.std.specs.Prelude.{Box}
use Rattle.std.specs.Box.{box_value}
use Rattle.std.specs.Str.{bytes_eq}
use Rattle.std.proofs.lemmas.Slice.Eq.{bytes_eq-Decides}
use Rattle.clap.specs.Faults.{fault_of, is_simple_and_free}
use Rattle.clap.specs.Kinds.{HasKind, Kinds}
use Rattle.clap.specs.Matches.{first_value, found_of, subcommand_name_of}
use Rattle.clap.specs.Simple.{App, HasMatchesOf, app_of, app_of_fields, is_simple, subcommand_of, subcommand_rows, subcommand_rows_of}
use Rattle.clap.specs.Values.{kind_of}
use Rattle.clap.specs.Walk.{Row, Text, first_of, rows_of}
use Rattle.clap.specs.declared.builder.command.Command.{Command}
use Rattle.clap.specs.declared.builder.command.Command.TheViews.{out-Command}
use Rattle.clap.specs.declared.error.Error.{Error}
use Rattle.clap.specs.declared.parser.matches.ArgMatches.{ArgMatches}
use Rattle.clap.specs.declared.parser.matches.ArgMatches.TheViews.{out-ArgMatches, out-SubCommand}
use Rattle.clap.specs.declared.parser.matches.SubCommand.{SubCommand}
use Rattle.clap.proofs.SimpleLemmas.{plain_fields}
use Rattle.clap.proofs.WalkLemmas.{first_value-rows}
use Rattle.kit_words.proofs.ParsedWords.{job_from, parsed_is_asked}
use Rattle.kit_words.specs.Forms.{form_app, forms_app, wanting_form}
use Rattle.kit_words.specs.Words.{asked_by, is_form, words_error_of}
use Rattle.kit_words.specs.declared.command_line.WordsError.TheVariants.{BadWords, NoMemory}

-- clap's definitions say all that a parse by these forms results in
pub forms_simple : is_simple forms_app ≡ true
forms_simple = refl

pub forms_free : is_simple_and_free forms_app ≡ true
forms_free = refl

-- a form has no global argument
pub form_local : (c : Command) (name : Text) → app_of c ≡ form_app name → (out-Command c).has_globals ≡ false
form_local c name is = (plain_fields c (ap (λ (a : App). a.top.is_plain) is)).globals

pub required_app : (old new : Command) → out-Command new ≡ record (out-Command old) { subcommand_required = true } → app_of new ≡ wanting_form (app_of old)
required_app old new is = ap app_of_fields is

-- a refusal of the words comes from a fault of theirs
refused_kinds : (kinds : Kinds) (form : Option (Text × List Row)) (e : Error) → HasKind kinds e → words_error_of (kind_of e) ≡ BadWords → job_from kinds form ≡ None
refused_kinds (k ∷ ks) form e has bad = refl
refused_kinds [] form e (inr none) bad = absurd none
refused_kinds [] form e (inl memory) bad =
    let other : NoMemory ≡ BadWords = ap words_error_of (sym memory) ∙ bad in
    cc

pub refused_words : (a : App) (given words : List Text) (e : Error) → a ≡ forms_app → given ≡ words → (is_simple_and_free a ≡ true → HasKind (fault_of a given) e)
    → words_error_of (kind_of e) ≡ BadWords → asked_by words ≡ None
refused_words a given words e forms same has bad =
    let kinds : HasKind (fault_of forms_app words) e = subst (λ (k : Kinds). HasKind k e) (ap₂ fault_of forms same) (has (ap is_simple_and_free forms ∙ forms_free)) in
    sym (parsed_is_asked words) ∙ refused_kinds (fault_of forms_app words) (subcommand_of forms_app words) e kinds bad

module _ {Z : Type 0} where
  rows_name : (o : Option (Box SubCommand Z)) → option_map (λ p. p.0) (subcommand_rows o) ≡ option_map (λ b. (out-SubCommand (box_value b)).name.now) o
  rows_name None = refl
  rows_name (Some b) = refl

both_parts : (o : Option (Text × List Row)) (name : Text) (rows : List Row) → option_map (λ p. p.0) o ≡ Some name → option_map (λ p. p.1) o ≡ Some rows → o ≡ Some (name, rows)
both_parts None name rows is_name is_rows = cc
both_parts (Some p) name rows is_name is_rows =
    let first : p.0 ≡ name = cc in
    let second : p.1 ≡ rows = cc in
    ap₂ (λ (x : Text) (y : List Row). Some (x, y)) first second

-- words that were parsed, by a form of the program, request the form's file
pub form_words : (a : App) (given words : List Text) (m form : ArgMatches) (name : Text) (file : Option Text) → a ≡ forms_app → given ≡ words
    → (is_simple_and_free a ≡ true → fault_of a given ≡ []) → HasMatchesOf a given m
    → subcommand_name_of m ≡ Some name → is_form name ≡ true → option_map (λ p. p.1) (subcommand_rows (out-ArgMatches m).subcommand) ≡ Some (rows_of (found_of form))
    → first_value (found_of form) (codes "FILE") ≡ file → asked_by words ≡ option_map (λ path. (name, path)) file
form_words a given words m form name file forms same whole has is_name is_one is_rows is_file =
    let rows = rows_of (found_of form) in
    let met : subcommand_rows_of m ≡ subcommand_of a given = (has (ap is_simple forms ∙ forms_simple)).1 in
    let entered : subcommand_of a given ≡ Some (name, rows) = sym met ∙ both_parts (subcommand_rows_of m) name rows (rows_name (out-ArgMatches m).subcommand ∙ is_name) is_rows in
    let first : first_of (codes "FILE") rows ≡ file = sym (first_value-rows (found_of form) (codes "FILE")) ∙ is_file in
    sym (parsed_is_asked words) ∙ sym (ap₂ (λ (b : App) (w : List Text). job_from (fault_of b w) (subcommand_of b w)) forms same)
    ∙ ap₂ job_from (whole (ap is_simple_and_free forms ∙ forms_free)) entered
    ∙ ap₂ (λ b o. cond b (option_map (λ path. (name, path)) o) None) is_one first

no_job : (kinds : Kinds) (form : Option (Text × List Row)) → (option_map (λ p. p.0) form ≡ Some (codes "decode") → ⊥) → (option_map (λ p. p.0) form ≡ Some (codes "replay") → ⊥) → job_from kinds form ≡ None
no_job (k ∷ ks) form not_decode not_replay = refl
no_job [] None not_decode not_replay = refl
no_job [] (Some p) not_decode not_replay =
    ap₂ (λ b c. cond (b || c) (option_map (λ path. (p.0, path)) (first_of (codes "FILE") p.1)) None) (none (codes "decode") not_decode) (none (codes "replay") not_replay)
  where
    none : (name : Text) → (Some p.0 ≡ Some name → ⊥) → bytes_eq p.0 name ≡ false
    none name other = go (bytes_eq p.0 name) refl
      where
        go : (b : Bool) → bytes_eq p.0 name ≡ b → bytes_eq p.0 name ≡ false
        go false e = e
        go true e = absurd (other (ap (λ (t : Text). Some t) ((bytes_eq-Decides p.0 name).0 e)))

-- words of neither form request nothing
pub formless_words : (a : App) (given words : List Text) (m : ArgMatches) → a ≡ forms_app → given ≡ words → HasMatchesOf a given m
    → (subcommand_name_of m ≡ Some (codes "decode") → ⊥) → (subcommand_name_of m ≡ Some (codes "replay") → ⊥) → asked_by words ≡ None
formless_words a given words m forms same has not_decode not_replay =
    let met : subcommand_rows_of m ≡ subcommand_of a given = (has (ap is_simple forms ∙ forms_simple)).1 in
    let name : subcommand_name_of m ≡ option_map (λ p. p.0) (subcommand_of forms_app words) =
    sym (rows_name (out-ArgMatches m).subcommand) ∙ ap (option_map (λ p. p.0)) (met ∙ ap₂ subcommand_of forms same) in
    sym (parsed_is_asked words) ∙ no_job (fault_of forms_app words) (subcommand_of forms_app words) (λ e. not_decode (name ∙ e)) (λ e. not_replay (name ∙ e))
