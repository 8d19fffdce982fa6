-- The form of a file by its ending.
use Rattle.std.specs.Prelude.{ℕ, true, false, if◌then◌else◌, List, bytes_eq, codes, Option, Some, None}
use Rattle.test_scripts.specs.declared.form.Kind.TheVariants.{Script, List as ListOfSegments}
use Rattle.test_scripts.specs.declared.form.Form.{Form}

abbrev pub form_of_ending : List ℕ → Option Form
form_of_ending ending =
    if bytes_eq ending (codes "script") then Some (record { kind = Script; is_by_lines = false })
    else (if bytes_eq ending (codes "scripts") then Some (record { kind = Script; is_by_lines = true })
    else (if bytes_eq ending (codes "list") then Some (record { kind = ListOfSegments; is_by_lines = false })
    else (if bytes_eq ending (codes "lists") then Some (record { kind = ListOfSegments; is_by_lines = true })
    else None)))
