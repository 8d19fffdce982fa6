-- A text of version 1 gives the events of version 1, each once.
use Rattle.std.proofs.Common.{◌≡◌, ℕ, suc, ◌==◌, Bool, true, false, if◌then◌else◌, List, [], ◌∷◌, ◌++◌, map, length, Option, Some, None, Result, Ok, Err, refl, arith, ap, sym, ◌∙◌}
use Rattle.std.specs.Option.{option_and_then, option_map, option_map_or}
use Rattle.tcp_replay.specs.Events.{EventContent}
use Rattle.tcp_replay.specs.declared.event.Side.TheVariants.{A, B}
use Rattle.kit_text.specs.Lines.{ascii_lines}
use Rattle.kit_script.specs.Settings.{with_setting}
use Rattle.kit_script.specs.Statements.{StatementContent, setting, event, statement_of}
use Rattle.kit_script.specs.Version1.{EventScript, default_event_script, event_script_with, event_script_with_line, event_script_from, event_script_of, event_script_of_lines}
use Rattle.kit_script.specs.Added.{LineContent, statement, version_1_line_of}
use Rattle.kit_script.specs.Script.{TurnContent, ScriptContent, once, of_events, of_event_answer, with_line_content, default_script, script_from, script_of, script_of_lines, is_version_2, is_version_3, SaysVersion1}

-- events are counted and added in the same way
map_once-append : (es : List EventContent) (e : EventContent) → map once es ++ once e ∷ [] ≡ map once (es ++ e ∷ [])
map_once-append [] e = refl
map_once-append (x ∷ xs) e = ap {B = List TurnContent} (λ r. once x ∷ r) (map_once-append xs e)

length_once : (es : List EventContent) → length (map once es) ≡ length es
length_once [] = refl
length_once (e ∷ es) = ap suc (length_once es)

-- a setting has a form before the first event alone
choice-alike : (b : Bool) (s : EventScript) → (if b then Some (of_events s) else None) ≡ option_map of_events (if b then Some s else None)
choice-alike true s = refl
choice-alike false s = refl

guard-alike : (es : List EventContent) (s : EventScript) → (if length (map once es) == 0 then Some (of_events s) else None) ≡ option_map of_events (if length es == 0 then Some s else None)
guard-alike es s = ap (λ n. if n == 0 then Some (of_events s) else None) (length_once es) ∙ choice-alike (length es == 0) s

-- one statement more
statement-alike : (s : EventScript) (x : StatementContent) → with_line_content (of_events s) (statement x) ≡ option_map of_events (event_script_with s x)
statement-alike s (setting A x) = guard-alike s.events (record s { a = with_setting s.a x })
statement-alike s (setting B x) = guard-alike s.events (record s { b = with_setting s.b x })
statement-alike s (event e) = ap (λ es. Some (record (of_events s) { events = es })) (map_once-append s.events e)

-- one line more
line-alike : (s : EventScript) (m : Option StatementContent) → option_and_then (with_line_content (of_events s)) (option_map statement m) ≡ option_map of_events (option_and_then (event_script_with s) m)
line-alike s None = refl
line-alike s (Some x) = statement-alike s x

-- further lines, where the rest of them is read in the same way
further-alike : (lines : List (ℕ × List ℕ)) → ((s : EventScript) → script_from (of_events s) lines ≡ of_event_answer (event_script_from s lines)) → (m : Option EventScript) (n : ℕ) → option_map_or (λ s. script_from s lines) (option_map of_events m) (Err n) ≡ of_event_answer (option_map_or (λ s. event_script_from s lines) m (Err n))
further-alike lines alike None n = refl
further-alike lines alike (Some s) n = alike s

-- all lines
lines-alike : (s : EventScript) (lines : List (ℕ × List ℕ)) → script_from (of_events s) lines ≡ of_event_answer (event_script_from s lines)
unfolding script_from event_script_from
lines-alike s [] = refl
lines-alike s (line ∷ lines) =
    ap (λ m. option_map_or (λ s'. script_from s' lines) m (Err line.0)) (line-alike s (statement_of line.1))
    ∙ further-alike lines (λ s'. lines-alike s' lines) (event_script_with_line s line.1) line.0

answer-alike : (answer : Result (List (ℕ × List ℕ)) ℕ) → script_of_lines false false answer ≡ of_event_answer (event_script_of_lines answer)
answer-alike (Ok lines) = lines-alike default_event_script lines
answer-alike (Err line) = refl

pub says_version_1 : (text : List ℕ) → SaysVersion1 text
unfolding script_of event_script_of
says_version_1 text second third =
    ap (λ b. script_of_lines b (is_version_3 text) (ascii_lines text)) second ∙ ap (λ b. script_of_lines false b (ascii_lines text)) third
    ∙ answer-alike (ascii_lines text)
