-- The result of a parse by the forms, case by case.
use Rattle.std.proofs.Common.{◌≡◌, ◌∙◌, ◌⊎◌, ℕ, Bool, cond, true, false, not, ◌&&◌, ◌||◌, ◌==◌, List, [], ◌∷◌, ◌++◌, Option, Some, None, is_some, option_map, refl, sym, ap, ap₂, subst, codes, inl, inr, true≢false, eqb-true}
use Rattle.std.specs.Prelude.{⊤, drop, encode_utf8, fold, length, option_and_then, slice_get}
use Rattle.std.specs.Option.{option_map_or}
use Rattle.std.specs.Str.{bytes_eq, chars}
use Rattle.std.proofs.lemmas.Slice.Eq.{bytes_eq-Decides}
use Rattle.std.proofs.lemmas.List.{append_assoc, append-nil}
use Rattle.clap.specs.Faults.{bundle_fault, bundle_step_fault, check_fault, defaults_fault, fault_of, flag_word_fault, flags_fault, long_fault, other_fault, react_fault, settle_fault, short_fault, step_fault, turn_fault, use_fault, walk_fault, word_fault, entered_fault, level_fault}
use Rattle.clap.specs.Kinds.{Kinds, or_else}
use Rattle.clap.specs.Lexer.{long_of, short_of}
use Rattle.clap.specs.Simple.{App, Shape, built, built_leaf, entered, filled, help_rule, inherited, marked_built, names_of, subcommand_of, with_index, with_leaf_noted}
use Rattle.clap.specs.Walk.{Held, Names, Row, Rule, Step, Text, Walk, after_flag, after_step, arg_by_long, arg_by_short, bundle_met, bundle_step, finished, first_of, has_long, has_short, idle, long_or_other, nothing_held, plain, rows_after, settled, short_or_plain, subcommand_met, subcommand_or_other, trailing, value, walked, word_met}
use Rattle.clap.proofs.FaultLemmas.{stopped_fault}
use Rattle.clap.proofs.OnLiterals.{clap_on_literals}
use Rattle.kit_words.specs.Forms.{form_app, forms_app}
use Rattle.kit_words.specs.Words.{asked_by, is_form, is_plain, path_in}

-- what a form with these matches requests: the form's name, and the path of its file
abbrev pub job_in : Text × List Row → Option (Text × Text)
job_in form = cond (is_form form.0) (option_map (λ path. (form.0, path)) (first_of (codes "FILE") form.1)) None

-- the request of a parse with these faults, of which one is enough to request nothing
abbrev pub job_from : Kinds → Option (Text × List Row) → Option (Text × Text)
job_from [] form = option_and_then job_in form
job_from (fault ∷ faults) form = None

-- the request of a parse of these words by the forms
abbrev pub parsed_by : List Text → Option (Text × Text)
parsed_by words = job_from (fault_of forms_app words) (subcommand_of forms_app words)

abbrev dashes : Text
dashes = 45 ∷ 45 ∷ []

-- ---- a fault, of any kind

abbrev IsFault : Kinds → Type 0
IsFault [] = ⊥
IsFault (k ∷ ks) = ⊤

fault_first : (a b : Kinds) → IsFault a → IsFault (or_else a b)
fault_first [] b h = absurd h
fault_first (k ∷ ks) b h = tt

fault_second : (a b : Kinds) → IsFault b → IsFault (or_else a b)
fault_second [] b h = h
fault_second (k ∷ ks) b h = tt

faulty_job : (kinds : Kinds) (form : Option (Text × List Row)) → IsFault kinds → job_from kinds form ≡ None
faulty_job [] form h = absurd h
faulty_job (k ∷ ks) form h = refl

-- ---- what a word is

abbrev IsPlainWord : Text → Type 0
IsPlainWord word = (long_of word ≡ None) × ((short_of word ≡ None) ⊎ ((flags : Text) × (short_of word ≡ Some flags) × (slice_get (chars flags) 0 ≡ None)))

abbrev IsFlag : Text → Type 0
IsFlag word = ((p : Text × Option Text) × (long_of word ≡ Some p))
    ⊎ ((flags : Text) × (x : ℕ) × (long_of word ≡ None) × (short_of word ≡ Some flags) × (slice_get (chars flags) 0 ≡ Some x))

abbrev Class : Text → Type 0
Class word = (IsPlainWord word × (is_plain word ≡ true)) ⊎ (IsFlag word × (is_plain word ≡ false))

long_word : (xs : Text) → bytes_eq (45 ∷ 45 ∷ xs) dashes ≡ false → Class (45 ∷ 45 ∷ xs)
unfolding chars
long_word [] other = absurd (true≢false other)
long_word (z ∷ zs) other = inr (inl (_, refl), refl)

short_word : (y : ℕ) (ys : Text) → y == 45 ≡ false → Class (45 ∷ y ∷ ys)
short_word y ys e = go (slice_get (chars (y ∷ ys)) 0) refl
  where
    long_is : long_of (45 ∷ y ∷ ys) ≡ None
    long_is = rw e refl

    short_is : short_of (45 ∷ y ∷ ys) ≡ Some (y ∷ ys)
    short_is = rw e refl

    go : (o : Option ℕ) → slice_get (chars (y ∷ ys)) 0 ≡ o → Class (45 ∷ y ∷ ys)
    go None n = inl ((long_is, inr (y ∷ ys, short_is, n)), ap (λ o. not (is_some o)) n)
    go (Some x) n = inr (inr (y ∷ ys, x, long_is, short_is, n), ap (λ o. not (is_some o)) n)

hyphened : (xs : Text) → bytes_eq (45 ∷ xs) dashes ≡ false → Class (45 ∷ xs)
unfolding chars
hyphened [] other = inl ((refl, inl refl), refl)
hyphened (y ∷ ys) other = go (y == 45) refl
  where
    go : (b : Bool) → y == 45 ≡ b → Class (45 ∷ y ∷ ys)
    go true e = subst (λ (k : ℕ). bytes_eq (45 ∷ k ∷ ys) dashes ≡ false → Class (45 ∷ k ∷ ys)) (sym (eqb-true y 45 e)) (long_word ys) other
    go false e = short_word y ys e

class_of : (word : Text) → bytes_eq word dashes ≡ false → Class word
class_of [] other = inl ((refl, inl refl), refl)
class_of (x ∷ xs) other = go (x == 45) refl
  where
    go : (b : Bool) → x == 45 ≡ b → Class (x ∷ xs)
    go true e = subst (λ (k : ℕ). bytes_eq (k ∷ xs) dashes ≡ false → Class (k ∷ xs)) (sym (eqb-true x 45 e)) (hyphened xs) other
    go false e = inl ((rw e refl, inl (rw e refl)), rw e refl)

-- ---- one word, where nothing waits for a value

-- between two words: a value may be pending
abbrev held : Option (Text × List Text) → Held
held pending = record { rows = []; pending = pending; skip = 0 }

abbrev between : Option (Text × List Text) → ℕ → Walk
between pending position = record { held = held pending; waiting = idle; position = position; is_trailing = false; stopped = None }

abbrev help_flag : Rule
help_flag = with_index 1 (filled help_rule)

-- the only flags are those of help
record HasHelpOnly (c : List Rule) : Type 0 where
  pub long : (name : Text) → arg_by_long c name ≡ cond (has_long help_flag name) (Some help_flag) None
  pub short : (x : ℕ) → arg_by_short c x ≡ cond (has_short help_flag x) (Some help_flag) None

help_fault : (c : List Rule) (again : Bool) (h : Held) → IsFault (react_fault c again help_flag [] h)
help_fault c again h = fault_second (settle_fault c again h) (use_fault again help_flag [] (settled c h).rows) tt

long_faulty : (c : List Rule) (again b : Bool) (v : Option Text) (h : Held) → IsFault (long_fault c again (cond b (Some help_flag) None) v h)
long_faulty c again false v h = tt
long_faulty c again true (Some v) h = tt
long_faulty c again true None h = help_fault c again h

short_faulty : (c : List Rule) (again b : Bool) (rest : Text) (h : Held) (next : Held → Kinds) → IsFault (short_fault c again (cond b (Some help_flag) None) rest h next)
short_faulty c again false rest h next = tt
short_faulty c again true rest h next = fault_first (react_fault c again help_flag [] h) _ (help_fault c again h)

bundle_faulty : (c : List Rule) (again : Bool) (flags : Text) (x : ℕ) (pending : Option (Text × List Text)) → HasHelpOnly c → slice_get (chars flags) 0 ≡ Some x → IsFault (bundle_fault c again flags (held pending))
unfolding chars flags_fault
bundle_faulty c again [] x pending only first = cc
bundle_faulty c again (y ∷ ys) x pending only first =
    let rest = drop (length (encode_utf8 x)) (y ∷ ys) in
    let next = flags_fault c again (length ys) in
    subst (λ o. IsFault (bundle_step_fault c again o (y ∷ ys) 0 (held pending) next)) (sym first)
    (subst (λ o. IsFault (short_fault c again o rest (held pending) (next rest 0))) (sym (only.short x)) (short_faulty c again (has_short help_flag x) rest (held pending) (next rest 0)))

-- a flag is a fault: it is unknown, or requests help
flag_faulty : (s : Shape) (names : Names) (pending : Option (Text × List Text)) (position : ℕ) (word : Text) → HasHelpOnly s.rules → subcommand_met names idle word ≡ None
    → bytes_eq word dashes ≡ false → IsFlag word → IsFault (turn_fault s names (between pending position) word)
flag_faulty s names pending position word only none other flag =
    fault_first (word_fault s names false idle word (held pending)) _ (subst IsFault (sym same) (go flag))
  where
    same : word_fault s names false idle word (held pending) ≡ flag_word_fault s.rules s.args_override_self (long_of word) word (held pending)
    same = ap (λ o. other_fault s o word (held pending)) none ∙ ap (λ b. cond b [] (flag_word_fault s.rules s.args_override_self (long_of word) word (held pending))) other

    go : IsFlag word → IsFault (flag_word_fault s.rules s.args_override_self (long_of word) word (held pending))
    go (inl f) = subst (λ l. IsFault (flag_word_fault s.rules s.args_override_self l word (held pending))) (sym f.1)
        (subst (λ o. IsFault (long_fault s.rules s.args_override_self o f.0.1 (held pending))) (sym (only.long f.0.0)) (long_faulty s.rules s.args_override_self (has_long help_flag f.0.0) f.0.1 (held pending)))
    go (inr f) = subst (λ l. IsFault (flag_word_fault s.rules s.args_override_self l word (held pending))) (sym f.2)
        (subst (λ o. IsFault (option_map_or (λ flags. bundle_fault s.rules s.args_override_self flags (held pending)) o [])) (sym f.3)
        (bundle_faulty s.rules s.args_override_self f.0 f.1 pending only f.4))

-- a plain word is a value
plain_met : (c : List Rule) (names : Names) (pending : Option (Text × List Text)) (position : ℕ) (word : Text) → subcommand_met names idle word ≡ None → bytes_eq word dashes ≡ false → IsPlainWord word
    → word_met c names false idle position word (held pending) ≡ (held pending, value)
unfolding bundle_met
plain_met c names pending position word none other is =
    ap (λ o. subcommand_or_other c o idle position word (held pending)) none
    ∙ ap (λ b. cond b (held pending, trailing position) (long_or_other c idle word (long_of word) (held pending))) other
    ∙ ap (λ l. long_or_other c idle word l (held pending)) is.0
    ∙ go is.1
  where
    bundle_is : (flags : Text) → slice_get (chars flags) 0 ≡ None → short_or_plain c idle word (Some flags) (held pending) ≡ (held pending, value)
    bundle_is [] n = refl
    bundle_is (y ∷ ys) n = ap (λ o. after_flag c idle word (bundle_step c o (y ∷ ys) 0 plain (held pending) (bundle_met c (length ys))).0 (bundle_step c o (y ∷ ys) 0 plain (held pending) (bundle_met c (length ys))).1) n

    go : ((short_of word ≡ None) ⊎ ((flags : Text) × (short_of word ≡ Some flags) × (slice_get (chars flags) 0 ≡ None))) → short_or_plain c idle word (short_of word) (held pending) ≡ (held pending, value)
    go (inl e) = ap (λ o. short_or_plain c idle word o (held pending)) e
    go (inr f) = ap (λ o. short_or_plain c idle word o (held pending)) f.1 ∙ bundle_is f.0 f.2

plain_turn : (s : Shape) (names : Names) (pending : Option (Text × List Text)) (position : ℕ) (word : Text) → subcommand_met names idle word ≡ None → bytes_eq word dashes ≡ false → IsPlainWord word
    → turn_fault s names (between pending position) word ≡ step_fault s position (held pending) value
unfolding flags_fault
plain_turn s names pending position word none other is =
    ap₂ (λ k (m : Held × Step). or_else k (step_fault s position m.0 m.1)) (whole ∙ go is.1) (plain_met s.rules names pending position word none other is)
  where
    whole : word_fault s names false idle word (held pending) ≡ flag_word_fault s.rules s.args_override_self None word (held pending)
    whole = ap (λ o. other_fault s o word (held pending)) none ∙ ap (λ b. cond b [] (flag_word_fault s.rules s.args_override_self (long_of word) word (held pending))) other
        ∙ ap (λ l. flag_word_fault s.rules s.args_override_self l word (held pending)) is.0

    bundle_is : (flags : Text) → slice_get (chars flags) 0 ≡ None → bundle_fault s.rules s.args_override_self flags (held pending) ≡ []
    bundle_is [] n = refl
    bundle_is (y ∷ ys) n = ap (λ o. bundle_step_fault s.rules s.args_override_self o (y ∷ ys) 0 (held pending) (flags_fault s.rules s.args_override_self (length ys))) n

    go : ((short_of word ≡ None) ⊎ ((flags : Text) × (short_of word ≡ Some flags) × (slice_get (chars flags) 0 ≡ None))) → flag_word_fault s.rules s.args_override_self None word (held pending) ≡ []
    go (inl e) = ap (λ o. option_map_or (λ flags. bundle_fault s.rules s.args_override_self flags (held pending)) o []) e
    go (inr f) = ap (λ o. option_map_or (λ flags. bundle_fault s.rules s.args_override_self flags (held pending)) o []) f.1 ∙ bundle_is f.0 f.2

-- ---- a form

abbrev built_forms : App
built_forms = built forms_app

abbrev form_built : Text → Shape
form_built name = built_leaf (inherited (with_leaf_noted (marked_built forms_app.top)) (form_app name).top)

abbrev form_rules : List Rule
form_rules = (form_built []).rules

form_help : HasHelpOnly form_rules
form_help = record { long = λ name. refl; short = λ x. refl }

-- what a level finds by its faults and the file that it was given
abbrev file_from : Kinds → Option Text → Option Text
file_from [] file = file
file_from (k ∷ ks) file = None

no_file : (kinds : Kinds) (file : Option Text) → IsFault kinds → file_from kinds file ≡ None
no_file [] file h = absurd h
no_file (k ∷ ks) file h = refl

module _ (name : Text) where
  abbrev end_fault : Held → Kinds
  end_fault end = or_else [] (or_else (settle_fault form_rules false end)
      (or_else (defaults_fault (settled form_rules end).rows form_rules) (check_fault (form_built name) (finished form_rules end) false)))

  -- the file of a walk over words from here on
  abbrev file_after : Walk → List Text → Option Text
  file_after w words = file_from (or_else (walk_fault (form_built name) [] w words) (end_fault (fold (walked form_rules []) w words).held))
      (first_of (codes "FILE") (finished form_rules (fold (walked form_rules []) w words).held))

  faulty_word : (w : Walk) (word : Text) (words : List Text) → IsFault (turn_fault (form_built name) [] w word) → file_after w (word ∷ words) ≡ None
  unfolding walk_fault
  faulty_word w word words h = no_file _ _ (fault_first _ _ (fault_first _ _ h))

  abbrev after_path : Text → Walk
  after_path path = between (Some (codes "FILE", path ∷ [])) 2

  -- the words after a plain word: no more than `--`
  second_words : (path : Text) (words : List Text) → bytes_eq path dashes ≡ false → is_plain path ≡ true → file_after (after_path path) words ≡ path_in (path ∷ words)
  unfolding clap_on_literals
  second_words path [] other is = sym (ap (λ b. cond b (Some path) None) is)
  second_words path (word ∷ words) other is = go (bytes_eq word dashes) refl
    where
      dashed : (more : List Text) → file_after (after_path path) (dashes ∷ more) ≡ path_in (path ∷ dashes ∷ more)
      dashed [] = sym (ap₂ (λ b c. cond b (Some dashes) (cond (c && true) (Some path) None)) other is)
      dashed (third ∷ more) = refl

      none : (more : List Text) → bytes_eq word dashes ≡ false → path_in (path ∷ word ∷ more) ≡ None
      none [] e = ap₂ (λ b c. cond b (Some word) (cond (c && bytes_eq word dashes) (Some path) None)) other is ∙ ap (λ b. cond b (Some path) None) e
      none (third ∷ more) e = refl

      faulty : Class word → bytes_eq word dashes ≡ false → IsFault (turn_fault (form_built name) [] (after_path path) word)
      faulty (inl p) e = subst IsFault (sym (plain_turn (form_built name) [] (Some (codes "FILE", path ∷ [])) 2 word refl e p.0)) tt
      faulty (inr f) e = flag_faulty (form_built name) [] (Some (codes "FILE", path ∷ [])) 2 word form_help refl e f.0

      go : (b : Bool) → bytes_eq word dashes ≡ b → file_after (after_path path) (word ∷ words) ≡ path_in (path ∷ word ∷ words)
      go true e = subst (λ (w : Text). file_after (after_path path) (w ∷ words) ≡ path_in (path ∷ w ∷ words)) (sym ((bytes_eq-Decides word dashes).0 e)) (dashed words)
      go false e = faulty_word (after_path path) word words (faulty (class_of word e) e) ∙ sym (none words e)

  form_file : (words : List Text) → file_after (between None 1) words ≡ path_in words
  unfolding clap_on_literals
  form_file [] = refl
  form_file (word ∷ words) = go (bytes_eq word dashes) refl
    where
      dashed : (more : List Text) → file_after (between None 1) (dashes ∷ more) ≡ path_in (dashes ∷ more)
      dashed [] = refl
      dashed (second ∷ []) = refl
      dashed (second ∷ third ∷ more) = refl

      none : (more : List Text) → bytes_eq word dashes ≡ false → is_plain word ≡ false → path_in (word ∷ more) ≡ None
      none [] e flag = ap (λ b. cond b (Some word) None) flag
      none (second ∷ []) e flag = ap₂ (λ b c. cond b (Some second) (cond (c && bytes_eq second dashes) (Some word) None)) e flag
      none (second ∷ third ∷ more) e flag = refl

      stepped : bytes_eq word dashes ≡ false → IsPlainWord word → walked form_rules [] (between None 1) word ≡ after_path word
      stepped e is = ap (λ (m : Held × Step). after_step form_rules word (between None 1) m.0 m.1) (plain_met form_rules [] None 1 word refl e is)

      by_class : Class word → bytes_eq word dashes ≡ false → file_after (between None 1) (word ∷ words) ≡ path_in (word ∷ words)
      by_class (inl p) e =
          ap₂ (λ (k : Kinds) (w : Walk). file_from (or_else (or_else k (walk_fault (form_built name) [] w words)) (end_fault (fold (walked form_rules []) w words).held))
          (first_of (codes "FILE") (finished form_rules (fold (walked form_rules []) w words).held))) (plain_turn (form_built name) [] None 1 word refl e p.0) (stepped e p.0)
          ∙ second_words word words e p.1
      by_class (inr f) e = faulty_word (between None 1) word words (flag_faulty (form_built name) [] None 1 word form_help refl e f.0) ∙ sym (none words e f.1)

      go : (b : Bool) → bytes_eq word dashes ≡ b → file_after (between None 1) (word ∷ words) ≡ path_in (word ∷ words)
      go true e = subst (λ (w : Text). file_after (between None 1) (w ∷ words) ≡ path_in (w ∷ words)) (sym ((bytes_eq-Decides word dashes).0 e)) (dashed words)
      go false e = by_class (class_of word e) e

-- ---- the program

abbrev top : Shape
top = built_forms.top

abbrev names : Names
names = names_of built_forms

top_help : HasHelpOnly top.rules
top_help = record { long = λ name. refl; short = λ x. refl }

-- the request of a walk over all the words, by its faults and where it ends
abbrev job_at : Kinds → Walk → Option (Text × Text)
job_at kinds w = job_from (or_else kinds (or_else (entered_fault built_forms w.stopped) (or_else (settle_fault top.rules false w.held)
    (or_else (defaults_fault (settled top.rules w.held).rows top.rules) (check_fault top (finished top.rules w.held) (is_some (entered built_forms w.stopped)))))))
    (entered built_forms w.stopped)

parsed_from : (program : Text) (words : List Text) → parsed_by (program ∷ words) ≡ job_at (walk_fault top names (between None 1) words) (fold (walked top.rules names) (between None 1) words)
parsed_from program words = refl

stopped_walk : (c : List Rule) (ns : Names) (w : Walk) (p : Text × List Text) (words : List Text) → fold (walked c ns) (record w { stopped = Some p }) words ≡ record w { stopped = Some (p.0, p.1 ++ words) }
unfolding walked
stopped_walk c ns w p [] = ap (λ (l : List Text). record w { stopped = Some (p.0, l) }) (sym (append-nil p.1))
stopped_walk c ns w p (x ∷ xs) = stopped_walk c ns w (p.0, p.1 ++ x ∷ []) xs ∙ ap (λ (l : List Text). record w { stopped = Some (p.0, l) }) (append_assoc p.1 (x ∷ []) xs)

form_job : (kinds : Kinds) (name : Text) (rows : List Row) → is_form name ≡ true → job_from (or_else kinds []) (Some (name, rows)) ≡ option_map (λ path. (name, path)) (file_from kinds (first_of (codes "FILE") rows))
form_job [] name rows is = ap (λ b. cond b (option_map (λ path. (name, path)) (first_of (codes "FILE") rows)) None) is
form_job (k ∷ ks) name rows is = refl

-- a walk that stopped at a form gives the request of that form by the words after it
entered_job : (name : Text) (words : List Text) → is_form name ≡ true → job_from (or_else (level_fault (form_built name) [] nothing_held words false []) []) (Some (name, rows_after form_rules [] words)) ≡ option_map (λ path. (name, path)) (path_in words)
entered_job name words is = form_job (level_fault (form_built name) [] nothing_held words false []) name (rows_after form_rules [] words) is ∙ ap (option_map (λ path. (name, path))) (form_file name words)

decode_words : (program : Text) (words : List Text) → parsed_by (program ∷ codes "decode" ∷ words) ≡ option_map (λ path. (codes "decode", path)) (path_in words)
unfolding clap_on_literals
decode_words program words =
    ap₂ job_at (stopped_fault top names (between None 1) (codes "decode", []) words) (stopped_walk top.rules names (between None 1) (codes "decode", []) words)
    ∙ entered_job (codes "decode") words refl

replay_words : (program : Text) (words : List Text) → parsed_by (program ∷ codes "replay" ∷ words) ≡ option_map (λ path. (codes "replay", path)) (path_in words)
unfolding clap_on_literals
replay_words program words =
    ap₂ job_at (stopped_fault top names (between None 1) (codes "replay", []) words) (stopped_walk top.rules names (between None 1) (codes "replay", []) words)
    ∙ entered_job (codes "replay") words refl

flipped : (a b : Text) → bytes_eq a b ≡ false → bytes_eq b a ≡ false
flipped a b other = go (bytes_eq b a) refl
  where
    go : (c : Bool) → bytes_eq b a ≡ c → bytes_eq b a ≡ false
    go false e = e
    go true e =
        let same : bytes_eq a b ≡ true = (bytes_eq-Decides a b).1 (sym ((bytes_eq-Decides b a).0 e)) in
        absurd (true≢false (sym same ∙ other))

other_words : (program name : Text) (words : List Text) → bytes_eq name (codes "decode") ≡ false → bytes_eq name (codes "replay") ≡ false → parsed_by (program ∷ name ∷ words) ≡ None
unfolding clap_on_literals
other_words program name words not_decode not_replay = go_help (bytes_eq name (codes "help")) refl
  where
    by_fault : IsFault (turn_fault top names (between None 1) name) → parsed_by (program ∷ name ∷ words) ≡ None
    by_fault h = faulty_job _ _ (fault_first _ _ (fault_first _ _ h))

    dashed : (more : List Text) → parsed_by (program ∷ dashes ∷ more) ≡ None
    dashed [] = refl
    dashed (x ∷ xs) = refl

    by_class : subcommand_met names idle name ≡ None → bytes_eq name dashes ≡ false → Class name → IsFault (turn_fault top names (between None 1) name)
    by_class met e (inl p) = subst IsFault (sym (plain_turn top names None 1 name met e p.0)) tt
    by_class met e (inr f) = flag_faulty top names None 1 name top_help met e f.0

    go : subcommand_met names idle name ≡ None → (b : Bool) → bytes_eq name dashes ≡ b → parsed_by (program ∷ name ∷ words) ≡ None
    go met true e = subst (λ (w : Text). parsed_by (program ∷ w ∷ words) ≡ None) (sym ((bytes_eq-Decides name dashes).0 e)) (dashed words)
    go met false e = by_fault (by_class met e (class_of name e))

    go_help : (b : Bool) → bytes_eq name (codes "help") ≡ b → parsed_by (program ∷ name ∷ words) ≡ None
    go_help true e = subst (λ (w : Text). parsed_by (program ∷ w ∷ words) ≡ None) (sym ((bytes_eq-Decides name (codes "help")).0 e)) refl
    go_help false e = go (rw (flipped name (codes "decode") not_decode, flipped name (codes "replay") not_replay, flipped name (codes "help") e) refl) (bytes_eq name dashes) refl

-- the request that clap makes of the words by the program's forms is theirs
pub parsed_is_asked : (words : List Text) → parsed_by words ≡ asked_by words
unfolding clap_on_literals
parsed_is_asked [] = refl
parsed_is_asked (program ∷ []) = refl
parsed_is_asked (program ∷ name ∷ words) = go_decode (bytes_eq name (codes "decode")) refl
  where
    go_replay : bytes_eq name (codes "decode") ≡ false → (b : Bool) → bytes_eq name (codes "replay") ≡ b → parsed_by (program ∷ name ∷ words) ≡ asked_by (program ∷ name ∷ words)
    go_replay d true e = subst (λ (w : Text). parsed_by (program ∷ w ∷ words) ≡ asked_by (program ∷ w ∷ words)) (sym ((bytes_eq-Decides name (codes "replay")).0 e)) (replay_words program words)
    go_replay d false e = other_words program name words d e ∙ sym (ap₂ (λ b c. cond (b || c) (option_map (λ path. (name, path)) (path_in words)) None) d e)

    go_decode : (b : Bool) → bytes_eq name (codes "decode") ≡ b → parsed_by (program ∷ name ∷ words) ≡ asked_by (program ∷ name ∷ words)
    go_decode true e = subst (λ (w : Text). parsed_by (program ∷ w ∷ words) ≡ asked_by (program ∷ w ∷ words)) (sym ((bytes_eq-Decides name (codes "decode")).0 e)) (decode_words program words)
    go_decode false e = go_replay e (bytes_eq name (codes "replay")) refl
