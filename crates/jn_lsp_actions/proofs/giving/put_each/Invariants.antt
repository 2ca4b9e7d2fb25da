use Rattle.std.proofs.Common.{◌≡◌, ◌++◌, length, map}
use Rattle.jn_trees.specs.View.{file_view}
use Rattle.jn_lsp_actions.specs.Mended.{mended}
use Rattle.jn_lsp_actions.specs.Offered as spec
use Rattle.jn_lsp_actions.specs.Written.{give}
use Rattle.jn_lsp_actions.proofs.giving.put_each.Given as goal

abbrev pub invariant-loop-rest : goal.invariant-loop-rest
invariant-loop-rest l =
    let one = give l.lexed.traced.now.encoding l.lexed.traced.now.files l.lexed.traced.now.names l.lexed.tokens.now (map file_view l.lexed.trees.now) l.lexed.traced.now.program l.lexed.traced.now.sig l.writing (mended l.mending.wants.now l.mending.diagnostics.now) in
    l.actions ++ spec.given one l.rest ≡ l.fn.actions ++ spec.given one l.slots

abbrev pub decreases-loop-rest : goal.decreases-loop-rest
decreases-loop-rest l = length l.rest
