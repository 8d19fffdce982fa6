-- The exit statuses.
use Rattle.std.specs.Prelude.{ℕ, Bool, true, false, Result, Ok, Err}

-- success; the report has a refusal; the words, the file or its text have a fault
abbrev pub status_of : {E : Type 0} → Result Bool E → ℕ
status_of (Ok true) = 0
status_of (Ok false) = 1
status_of (Err fault) = 2
