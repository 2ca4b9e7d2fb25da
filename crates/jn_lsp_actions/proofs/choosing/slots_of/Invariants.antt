use Rattle.std.proofs.Common.{map, take}
use Rattle.jn_trees.specs.View.{file_view}
use Rattle.jn_lsp_actions.specs.Offered.{AreSlotsOf}
use Rattle.jn_lsp_actions.specs.Written.{is_written}
use Rattle.jn_lsp_actions.proofs.choosing.slots_of.Given as goal

abbrev pub invariant-loop-row : goal.invariant-loop-row
invariant-loop-row l = AreSlotsOf l.lexed.traced.now.program l.lexed.traced.now.sig l.lexed.traced.now.tables (is_written l.lexed.traced.now.encoding l.lexed.traced.now.files l.lexed.tokens.now (map file_view l.lexed.trees.now) l.lexed.traced.now.program l.lexed.traced.now.sig) (take l.row-index l.rows) l.wants.items
