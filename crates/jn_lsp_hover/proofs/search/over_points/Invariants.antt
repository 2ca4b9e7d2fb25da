use Rattle.std.proofs.Common.{◌≡◌, take}
use Rattle.jn_lsp_hover.specs.Searched.{searched}
use Rattle.jn_lsp_hover.specs.Spots.{spots_of_points}
use Rattle.jn_lsp_hover.proofs.search.over_points.Given as goal

abbrev pub invariant-loop-at : goal.invariant-loop-at
invariant-loop-at l = l.found ≡ searched l.sought l.fn.best (spots_of_points l.body 0 (take l.at l.points))
