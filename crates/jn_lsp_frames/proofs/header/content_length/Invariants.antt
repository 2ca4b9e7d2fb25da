use Rattle.std.proofs.Common.{List, ℕ, length}
use Rattle.jn_lsp_frames.specs.Header.{IsHeader}
use Rattle.jn_lsp_frames.proofs.Telling.{Told}
use Rattle.jn_lsp_frames.proofs.header.content_length.Given as goal

abbrev pub invariant-loop-end : goal.invariant-loop-end
invariant-loop-end l = (lines : List (List ℕ)) → IsHeader lines l.block → Told lines l.rest l.said

abbrev pub decreases-loop-end : goal.decreases-loop-end
decreases-loop-end l = length l.rest
