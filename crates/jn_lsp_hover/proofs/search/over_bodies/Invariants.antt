use Rattle.std.proofs.Common.{◌≡◌, take, None}
use Rattle.jn_lsp_hover.specs.Searched.{searched}
use Rattle.jn_lsp_hover.specs.Spots.{spots_of_bodies}
use Rattle.jn_lsp_hover.proofs.search.over_bodies.Given as goal

abbrev pub invariant-loop-body : goal.invariant-loop-body
invariant-loop-body l = l.found ≡ searched l.sought None (spots_of_bodies 0 (take l.body l.sought.program.now.bodies))
