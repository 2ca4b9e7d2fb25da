use Rattle.jn_renumber.proofs.SameRow.{same_row}
use Rattle.jn_renumber.proofs.law.syntax_rows_stay.Goals as goal

pub returns : goal.returns
returns c = same_row
