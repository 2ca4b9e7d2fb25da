-- Reporters, as clauses see them.
use Rattle.std.specs.Prelude.{ℕ, Bool, List, ◌++◌, Option}
use Rattle.jn_diag.specs.declared.shown.Verdict.{Verdict}
use Rattle.jn_reporters.specs.declared.shown.ShownRow.{ShownRow}

-- a reporter: its name, whether its bytes are one document, before which no line can stand, whether it shows notes, the rows that it took so far in their order, and the bytes that it makes of rows and a verdict; and those that it makes where codes are explained at an address
pub record Form : Type 0 where
  pub title : List ℕ
  pub document : Bool
  pub notes : Bool
  pub rows : List ShownRow
  pub shown : List ShownRow → Option Verdict → List ℕ
  pub linked : List ℕ → List ShownRow → Option Verdict → List ℕ

-- a reporter that took further rows
abbrev pub with_rows : Form → List ShownRow → Form
with_rows form rows = record form { rows = form.rows ++ rows }

-- a reporter that was told the address at which codes are explained
abbrev pub linked_at : Form → List ℕ → Form
linked_at form address = record form { shown = form.linked address }
