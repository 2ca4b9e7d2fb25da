use Rattle.std.proofs.Common.{length}
use Rattle.jn_lsp_actions.proofs.hinting.+shown_in.Given as goal

abbrev pub decreases-shown_in : goal.decreases-shown_in
decreases-shown_in l = length l.files.now
