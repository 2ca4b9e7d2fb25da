use Rattle.std.proofs.Common.{◌≡◌, map, take}
use Rattle.jn_lsp_actions.specs.Own.{row_wants}
use Rattle.jn_lsp_actions.proofs.wants.rows_want.Given as goal

abbrev pub invariant-loop-row : goal.invariant-loop-row
invariant-loop-row l = l.wants.items ≡ map (row_wants l.traced.program l.traced.sig l.traced.tables) (take l.row-index l.rows)
