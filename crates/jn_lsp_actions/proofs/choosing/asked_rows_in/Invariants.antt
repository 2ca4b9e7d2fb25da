use Rattle.std.proofs.Common.{◌≡◌, take}
use Rattle.std.specs.Prelude.{filter}
use Rattle.jn_lsp_actions.specs.Offered.{is_asked_row}
use Rattle.jn_lsp_actions.proofs.choosing.asked_rows_in.Given as goal

abbrev pub invariant-loop-row : goal.invariant-loop-row
invariant-loop-row l = l.asked_rows.items ≡ filter (is_asked_row l.marked.encoding l.marked.files l.asked.name.now l.asked.range) (take l.row-index l.rows)
