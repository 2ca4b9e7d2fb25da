-- Which reporter a command takes, and what it shows.
use Rattle.std.specs.Prelude.{ℕ, List, [], ◌∷◌, ◌++◌, Option, Some, None, if◌then◌else◌}
use Rattle.std.specs.Str.{bytes_eq}
use Rattle.jn_reporters.specs.declared.shown.ShownRow.{ShownRow}
use Rattle.jn_diag.specs.declared.shown.Verdict.{Verdict}
use Rattle.jn_reporters.specs.Forms.{Form}

-- what a reporter that took these rows before makes of further ones
abbrev pub shown_behind : List ShownRow → (List ShownRow → Option Verdict → List ℕ) → List ShownRow → Option Verdict → List ℕ
shown_behind taken show = λ rows verdict. show (taken ++ rows) verdict

-- the first reporter with the name
abbrev pub first_named : List ℕ → List Form → Option Form
first_named name [] = None
first_named name (form ∷ forms) = if bytes_eq form.title name then Some form else first_named name forms
