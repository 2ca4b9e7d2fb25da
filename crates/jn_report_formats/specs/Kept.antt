-- What documents keep of rows.
use Rattle.std.specs.Prelude.{ℕ, List, [], Option, Some, None, map}
use Rattle.jn_diag.specs.declared.shown.Verdict.{Verdict}
use Rattle.jn_reporters.specs.declared.shown.ShownRow.{ShownRow}
use Rattle.jn_report_formats.specs.Fingerprints.{print_for}
use Rattle.jn_report_formats.specs.declared.kept.KeptRow.{KeptRow}

-- the rows in the order in which they were taken, the verdict that was given last, and the address at which codes are explained, where one is known
pub record Documented : Type 0 where
  pub rows : List ShownRow
  pub verdict : Option Verdict
  pub address : Option (List ℕ)

-- no row was taken, and no verdict given
abbrev pub nothing_documented : Documented
nothing_documented = record { rows = []; verdict = None; address = None }

-- what a document keeps of a row
abbrev pub kept_of : ShownRow → KeptRow
kept_of row = record { name = row.text.name; line = row.text.line; col = row.text.col; end_line = row.end_line; end_col = row.end_col; code = row.text.code; fingerprint = print_for row.text.code row.extract; notes = row.notes; more = row.more }

abbrev pub all_kept : List ShownRow → List KeptRow
all_kept rows = map kept_of rows

-- the document comes with the verdict, and before it nothing
abbrev pub document_shown : (List KeptRow → List ℕ) → List KeptRow → Option Verdict → List ℕ
document_shown document rows None = []
document_shown document rows (Some verdict) = document rows

-- a document of what is kept of the rows
abbrev pub documented : (List KeptRow → List ℕ) → List ShownRow → Option Verdict → List ℕ
documented document rows verdict = document_shown document (all_kept rows) verdict
