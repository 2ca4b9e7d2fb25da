use Rattle.std.proofs.Common.{◌≡◌, take}
use Rattle.jn_lsp_text.proofs.copies.copy_related.Given as goal

abbrev pub invariant-loop-place : goal.invariant-loop-place
invariant-loop-place l = l.copies ≡ take l.place-index l.related
