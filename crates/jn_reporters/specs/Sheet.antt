-- What reporters keep.
use Rattle.std.specs.Prelude.{ℕ, List, [], ◌∷◌, ◌++◌, Option, Some, None}
use Rattle.jn_diag.specs.declared.shown.Verdict.{Verdict}
use Rattle.jn_reporters.specs.declared.shown.ShownRow.{ShownRow}

-- the rows in the order in which they were taken, and the verdict that was given last
pub record Taken : Type 0 where
  pub rows : List ShownRow
  pub verdict : Option Verdict

-- rows and a verdict with the text that was made of the rows
pub record Lined : Type 0 where
  pub rows : List ShownRow
  pub verdict : Option Verdict
  pub lines : List ℕ

abbrev pub taken_of : Lined → Taken
taken_of sheet = record { rows = sheet.rows; verdict = sheet.verdict }

abbrev pub nothing_taken : Taken
nothing_taken = record { rows = []; verdict = None }

abbrev pub nothing_lined : Lined
nothing_lined = record { rows = []; verdict = None; lines = [] }

abbrev pub with_line : Lined → ShownRow → List ℕ → Lined
with_line sheet row line = record sheet { rows = sheet.rows ++ row ∷ []; lines = sheet.lines ++ line }

abbrev pub with_lines : Lined → ShownRow → List ℕ → Lined
with_lines sheet row lines = record sheet { rows = sheet.rows ++ row ∷ []; lines = lines }

abbrev pub with_verdict : Lined → Verdict → Lined
with_verdict sheet verdict = record sheet { verdict = Some verdict }
