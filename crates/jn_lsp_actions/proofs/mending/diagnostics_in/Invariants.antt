use Rattle.std.proofs.Common.{◌≡◌, ◌++◌, length}
use Rattle.jn_lsp_actions.specs.Mended as spec
use Rattle.jn_lsp_actions.proofs.mending.diagnostics_in.Given as goal

abbrev pub invariant-loop-rest : goal.invariant-loop-rest
invariant-loop-rest l = l.made ++ spec.diagnostics_of l.marked.encoding l.marked.files l.rest l.left ≡ spec.diagnostics_of l.marked.encoding l.marked.files l.rows l.notes

abbrev pub decreases-loop-rest : goal.decreases-loop-rest
decreases-loop-rest l = length l.rest
