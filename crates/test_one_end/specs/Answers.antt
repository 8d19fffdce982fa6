-- What is printed for a line.
use Rattle.std.specs.Prelude.{ℕ, List, [], ◌∷◌, ◌++◌, length, codes, decimal, Result, Ok, Err}
use Rattle.tcp_conn.specs.declared.outcome.CallError.{CallError}
use Rattle.tcp_conn.specs.Outcome.{call_error_number}
use Rattle.tcp_conn.specs.State.{State}
use Rattle.tcp_conn.specs.Names.{phase_name, ending_name}
use Rattle.kit_report.specs.Answers.{refused_text}

-- a call that returns nothing but its refusal
abbrev pub call_text : Result (Unit {0}) CallError → List ℕ
call_text (Ok done) = codes "ok"
call_text (Err e) = refused_text (call_error_number e)

-- the end's phase, its ending and its counts after it
abbrev pub state_text : State → List ℕ
state_text s =
    codes " " ++ (phase_name s.phase ++ (codes " " ++ (ending_name s.ending
    ++ (codes " unread " ++ (decimal (length s.receiving.inbox.unread)
    ++ (codes " released " ++ (decimal s.sending.released
    ++ (codes " ordered " ++ (decimal s.receiving.ordered ++ (10 ∷ []))))))))))
