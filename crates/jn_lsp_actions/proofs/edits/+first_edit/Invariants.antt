use Rattle.std.proofs.Common.{length}
use Rattle.jn_lsp_actions.proofs.edits.+first_edit.Given as goal

abbrev pub decreases-first_edit : goal.decreases-first_edit
decreases-first_edit l = length l.files.now
