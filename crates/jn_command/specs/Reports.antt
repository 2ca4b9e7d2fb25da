-- What a check of files comes to.
use Rattle.std.specs.Prelude.{List, [], ◌∷◌, length}
use Rattle.jn_base.specs.declared.place.Row.{Row}
use Rattle.jn_diag.specs.declared.shown.Verdict.{Verdict}
use Rattle.jn_diag.specs.declared.shown.Verdict.TheVariants.{Accepted as AcceptedVerdict, Rejected as RejectedVerdict, Refused as RefusedVerdict}
use Rattle.jn_command.specs.declared.report.Report.{Report}
use Rattle.jn_command.specs.declared.report.Report.TheVariants.{Refused, Checked}
use Rattle.jn_command.specs.declared.status.Status.{Status}
use Rattle.jn_command.specs.declared.status.Status.TheVariants.{Ok, Rejected as RejectedStatus, Refused as RefusedStatus}

-- all that a report has against the files, whether they were refused or checked
abbrev pub rows_of : Report → List Row
rows_of (Refused rows) = rows
rows_of (Checked rows) = rows

-- files that are checked are accepted where no rule has a row
abbrev pub status_of_rows : List Row → Status
status_of_rows [] = Ok
status_of_rows (row ∷ rows) = RejectedStatus

-- how the call ends by a report of its files
abbrev pub status_of : Report → Status
status_of (Refused rows) = RefusedStatus
status_of (Checked rows) = status_of_rows rows

-- files that are checked are accepted without rows, else rejected by so many
abbrev pub verdict_of_rows : List Row → Verdict
verdict_of_rows [] = AcceptedVerdict
verdict_of_rows (row ∷ rows) = RejectedVerdict (length (row ∷ rows))

-- what a report says of the files in a word, and by how many rows
abbrev pub verdict_of : Report → Verdict
verdict_of (Refused rows) = RefusedVerdict (length rows)
verdict_of (Checked rows) = verdict_of_rows rows
