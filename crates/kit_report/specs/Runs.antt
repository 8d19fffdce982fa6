-- Runs as they are written one after another: together they write their list as blocks are written.
use Rattle.std.specs.Prelude.{ℕ, Bool, true, false, List, ◌++◌, codes}
use Rattle.std.specs.List.{flat_map}
use Rattle.tcp_wire.specs.Texts.{list_text}
use Rattle.kit_text.specs.Texts.{block_text}

-- the text of one run, where none comes before it and where one does
abbrev pub run_text : Bool → ℕ × ℕ → List ℕ
run_text true run = block_text run
run_text false run = codes "+" ++ block_text run

-- the text of runs
abbrev pub runs_text : Bool → List (ℕ × ℕ) → List ℕ
runs_text true runs = list_text block_text (codes "+") runs
runs_text false runs = flat_map (λ run. codes "+" ++ block_text run) runs
